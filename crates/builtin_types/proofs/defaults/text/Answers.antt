use Rattle.std.proofs.Common.{◌∙◌, string_bytes, sym, ap}
use Rattle.syntax.specs.View.{value_view as written_view}
use Rattle.builtin_types.proofs.TakenLemmas.{text_taken}
use Rattle.builtin_types.proofs.defaults.text.Goals as goal

pub returns-in-Some : goal.returns-in-Some
returns-in-Some c =
    let found = rw c.in-Some.is at c.in_ok-octets-in-Chars.ensures.value in
    text_taken c.args.kind _ (string_bytes c.in-Chars.spelled) c.in-Some.octets.items c.text_of.result c.text_of.ensures.value c.text_of.ensures.none (ap written_view c.in-Chars.is) (sym c.as_str.ensures.value ∙ found)
