use Rattle.std.proofs.Common.{◌≡◌, ◌∙◌, ◌-◌, ◌^◌, ◌≤◌, ℕ, List, length, get_or, Some, sym, ap, subst, arith}
use Rattle.std.specs.List.{slice_get}
use Rattle.std.proofs.lemmas.Option.{slice_get_within, get_or_from_slice_get}
use Rattle.primitives.specs.Bits.{IsPadded, bit_of}
use Rattle.primitives.proofs.TrimLemmas.{IsTrimmed-from_bit, bit-from_IsTrimmed}
use Rattle.primitives.proofs.bits.Bits.is_trimmed.Goals as goal

pub returns-in-Some : goal.returns-in-Some
returns-in-Some c =
    let o : List ℕ = c.self.inside.octets.items in
    let u : ℕ = c.self.inside.unused in
    let x : ℕ = c.in-Some.last.now in
    let f : IsPadded c.args.self.now o u = subst (λ t. IsPadded t o u) c.self.view_is c.self.invariant in
    let there : slice_get o (length o - 1) ≡ Some x = subst (λ t. slice_get t (length t - 1) ≡ Some x) c.deref.ensures.value (sym c.in-Some.ensures.value) in
    let within = slice_get_within o (length o - 1) x there in
    let some : 1 ≤ length o = omega arith in
    let last : get_or o (length o - 1) 0 ≡ x = get_or_from_slice_get o (length o - 1) x 0 there in
    let bit = ap (λ n. bit_of n (2 ^ u)) last in
    (λ h. IsTrimmed-from_bit c.args.self.now o u f some (bit ∙ h), λ h. sym bit ∙ bit-from_IsTrimmed c.args.self.now o u f some h)
