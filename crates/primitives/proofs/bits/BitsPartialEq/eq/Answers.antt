use Rattle.std.proofs.Common.{◌∙◌, sym, ℕ, List, Bool, nat_eq, subst, inl, inr}
use Rattle.std.proofs.lemmas.Bool.{cases_Bool, ne_eqb, both_ways}
use Rattle.std.specs.Cmp.Lexicographic.{pointwise, bytes_decides}
use Rattle.primitives.specs.Bits.{IsPadded}
use Rattle.primitives.proofs.BitsLemmas.{equal_padding, unequal_padding}
use Rattle.primitives.proofs.bits.BitsPartialEq.eq.Goals as goal

pub returns-then-self-other : goal.returns-then-self-other
returns-then-self-other c =
    let o : List ℕ = c.self.inside.octets.items in
    let p : List ℕ = c.other.inside.octets.items in
    let u = c.self.inside.unused in
    let v = c.other.inside.unused in
    let b : List Bool = c.args.self.now in
    let d : List Bool = c.args.other.now in
    let f : IsPadded b o u = subst (λ t. IsPadded t o u) c.self.view_is c.self.invariant in
    let g : IsPadded d p v = subst (λ t. IsPadded t p v) c.other.view_is c.other.invariant in
    let test : Bool = pointwise nat_eq o p in
    c.eq.ensures ∙ (
    elim (cases_Bool test) [
      | inl same ↦ same ∙ sym (equal_padding b d o p u v f g ((bytes_decides o p).0 same) c.if-self-other.true)
      | inr differ ↦ differ ∙ sym (unequal_padding b d o p u v f g (λ octets unused. both_ways test differ ((bytes_decides o p).1 octets)))
    ]
    )

pub returns-else-self-other : goal.returns-else-self-other
returns-else-self-other c =
    let o : List ℕ = c.self.inside.octets.items in
    let p : List ℕ = c.other.inside.octets.items in
    let u = c.self.inside.unused in
    let v = c.other.inside.unused in
    let b : List Bool = c.args.self.now in
    let d : List Bool = c.args.other.now in
    let f : IsPadded b o u = subst (λ t. IsPadded t o u) c.self.view_is c.self.invariant in
    let g : IsPadded d p v = subst (λ t. IsPadded t p v) c.other.view_is c.other.invariant in
    ne_eqb u v c.if-self-other.false ∙ sym (unequal_padding b d o p u v f g (λ octets unused. c.if-self-other.false unused))
