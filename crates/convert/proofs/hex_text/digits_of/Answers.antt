use Rattle.std.proofs.Common.{ℕ, not, ap, ◌∙◌, rules}
use Rattle.std.proofs.lemmas.List.Elements.{filter_from_retain}
use Rattle.convert.specs.HexText.{is_space, without_spaces}
use Rattle.convert.proofs.hex_text.digits_of.Goals as goal

pub returns : goal.returns
returns c =
    filter_from_retain _ (λ (octet : ℕ). not (is_space octet)) (λ p x b q h. search rules) _ c.in_ok-digits.digits.items c.retain.new.self.items c.retain.ensures.filtered
    ∙ ap without_spaces c.in_ok-digits.ensures.items
