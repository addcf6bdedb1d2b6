use Rattle.std.specs.Prelude.{◌≡◌, ◌≤◌, ℕ, List, slice_range}
use Rattle.published_tokens.specs.declared.reader.Reader.{Reader}
use Rattle.published_tokens.specs.declared.token.Token.{Token}

-- the octets of a token of the text
abbrev pub spelling_in : List ℕ → Token → List ℕ
spelling_in text token = slice_range text token.start token.end

-- the octets of the token in front
abbrev pub spelling_of : Reader → List ℕ
spelling_of reader = spelling_in reader.scanner.text.now reader.front

-- what is in front now stands behind what was in front, in the same text
pub record HasPassed (old new : Reader) : Type 0 where
  pub text : new.scanner.text.now ≡ old.scanner.text.now
  pub order : old.front.end ≤ new.front.start
