use Rattle.std.proofs.Common.{sym, ap, ◌∙◌}
use Rattle.syntax.specs.Tree.{binary_value}
use Rattle.syntax.specs.View.{value_view as written_view}
use Rattle.builtin_types.proofs.BitLemmas.{binary_taken}
use Rattle.builtin_types.proofs.defaults.bits_of.Goals as goal

pub returns-in-Binary : goal.returns-in-Binary
returns-in-Binary c =
    binary_taken (written_view c.args.written.now) c.as_str.result.now c.binary_bits.result (ap written_view c.in-Binary.is ∙ ap binary_value (sym c.as_str.ensures.value)) c.binary_bits.ensures.value c.binary_bits.ensures.none
