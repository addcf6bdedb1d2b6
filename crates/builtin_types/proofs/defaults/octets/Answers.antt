use Rattle.std.proofs.Common.{refl}
use Rattle.syntax.specs.declared.tree.DefaultValue.TheVariants as written
use Rattle.types.specs.Shape.{StringType, StringValue}
use Rattle.types.proofs.ViewLemmas.{value-Octets}
use Rattle.builtin_types.proofs.TakenLemmas.{string_at, hex_spelled}
use Rattle.builtin_types.proofs.defaults.octets.Goals as goal

pub returns-in-Some : goal.returns-in-Some
returns-in-Some c =
    let found = rw c.in-Some.is at c.in_ok-octets-in-Hex.ensures.value in
    string_at StringType.octet_string c.args.written.now (written.Hex c.in-Hex.spelled) _ (StringValue.octets c.in-Some.octets.items) c.in-Hex.is
    (c.in-Some.octets.items, hex_spelled _ _ _ c.as_str.ensures.value found, refl) (value-Octets c.in-Some.octets)
