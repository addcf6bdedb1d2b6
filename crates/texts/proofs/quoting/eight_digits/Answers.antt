use Rattle.std.proofs.Common.{◌∙◌}
use Rattle.texts.proofs.TextLemmas.{eight_digits}
use Rattle.texts.proofs.quoting.eight_digits.Goals as goal

pub returns : goal.returns
returns c =
    eight_digits c.args.octet c.copy_from_slice.new.self c.copy_from_slice-2.new.self (c.copy_from_slice.ensures.after ∙ c.four_digits.ensures) (c.copy_from_slice-2.ensures.after ∙ c.four_digits-2.ensures)
