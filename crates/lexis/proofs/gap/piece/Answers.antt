use Rattle.std.proofs.Common.{sym, ◌∙◌, refl}
use Rattle.lexis.specs.Gap.{white}
use Rattle.lexis.proofs.GapLemmas.{line_piece, line_piece_only, block_piece}
use Rattle.lexis.proofs.gap.piece.Goals as goal

pub returns-then-begins_white-clause-value : goal.returns-then-begins_white-clause-value
returns-then-begins_white-clause-value c = white (sym c.begins_white.ensures.value ∙ c.if-begins_white.true) refl

pub returns-then-starts_with-clause-value : goal.returns-then-starts_with-clause-value
returns-then-starts_with-clause-value c = line_piece c.args.octets.now c.line_rest.result (sym c.starts_with.ensures.value ∙ c.if-starts_with.true) c.line_rest.ensures.value

pub returns-then-starts_with-clause-only : goal.returns-then-starts_with-clause-only
returns-then-starts_with-clause-only c = λ n. line_piece_only c.args.octets.now c.line_rest.result n (sym c.starts_with.ensures.value ∙ c.if-starts_with.true) c.line_rest.ensures.value

pub returns-in-Some-clause-value : goal.returns-in-Some-clause-value
returns-in-Some-clause-value c = block_piece c.args.octets.now c.in-Some.rest (sym c.starts_with-else-starts_with.ensures.value ∙ c.if-starts_with-2.true) c.in-Some.ensures.value
