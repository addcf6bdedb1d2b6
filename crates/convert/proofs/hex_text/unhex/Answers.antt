use Rattle.std.proofs.Common.{◌≡◌, sym, ◌∙◌, ap, subst, inl, inr, Ok, Err}
use Rattle.hex.specs.Hex.{decode_of}
use Rattle.convert.specs.HexText.{without_spaces, IsHexPairs}
use Rattle.convert.specs.HexFault.{hex_fault_of}
use Rattle.convert.proofs.HexLemmas.{decode_of-pairs, pairs_of_decode_of}
use Rattle.octets.proofs.ResultLemmas.{Err-known}
use Rattle.convert.proofs.hex_text.unhex.Goals as goal

pub returns-clause-value : goal.returns-clause-value
returns-clause-value c =
    let digits : c.as_slice.result.now ≡ without_spaces c.args.text.now = c.as_slice.ensures.value ∙ c.in_ok-digits.ensures in
    subst (IsHexPairs c.in_ok-decode.field-0.items) digits (pairs_of_decode_of c.as_slice.result.now c.in_ok-decode.field-0.items c.in_ok-decode.ensures.ok)

pub returns-in_err-decode-clause-none : goal.returns-in_err-decode-clause-none
returns-in_err-decode-clause-none c = λ same octets h.
    let digits : c.as_slice.result.now ≡ without_spaces c.args.text.now = c.as_slice.ensures.value ∙ c.in_ok-digits.ensures in
    let spelt : decode_of c.as_slice.result.now ≡ Ok octets = decode_of-pairs octets c.as_slice.result.now (subst (IsHexPairs octets) (sym digits) h) in
    let known = Err-known c.from_residual-in_err-decode.result _ _ same c.from_residual-in_err-decode.ensures.1 in
    elim c.in_err-decode.ensures.err [
      | inl memory ↦ let both = known ∙ ap hex_fault_of memory in cc both
      | inr refused ↦ let both : Ok octets ≡ Err c.in_err-decode.field-0.0 = sym spelt ∙ refused in cc both
    ]
