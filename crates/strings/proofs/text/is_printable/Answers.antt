use Rattle.std.proofs.Common.{◌↔◌, IsTrue, inl, inr}
use Rattle.std.specs.Prelude.{codes, Contains}
use Rattle.std.specs.Char.{IsNotAsciiAlphanumeric}
use Rattle.strings.proofs.AlphabetLemmas.{no_letter, contains}
use Rattle.strings.proofs.text.is_printable.Goals as goal

pub returns-else-is_ascii_alphanumeric : goal.returns-else-is_ascii_alphanumeric
returns-else-is_ascii_alphanumeric c =
    let mark : IsTrue c.contains.result ↔ Contains (codes " '()+,-./:=?") c.args.octet =
    contains (codes " '()+,-./:=?") c.args.octet c.contains.result c.contains.ensures.value in
    let not : IsNotAsciiAlphanumeric c.args.octet = c.if-is_ascii_alphanumeric.ensures.cases in
    (λ true. inr (mark.0 true), λ is. elim is [ inl letter ↦ absurd (no_letter c.args.octet not letter) | inr m ↦ mark.1 m ])
