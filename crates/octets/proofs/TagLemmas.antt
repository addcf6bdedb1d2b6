-- Lemmas on the canonical order of tags, and on lists that were sorted by it.
use Rattle.std.proofs.Common.{◌≡◌, ◌≢◌, ℕ, ◌<◌, ◌≤◌, ◌⊎◌, inl, inr, Bool, false, List, length, get_or, refl, sym, ap, subst, ◌∙◌, arith}
use Rattle.std.proofs.lemmas.Fn.{always_returns_same}
use Rattle.std.proofs.lemmas.List.Sorted.{ranks_by, sorted_far}
use Rattle.std.specs.Cmp.{IsStrictWeakOrder, IsTotalOrder, one_rank, ranked, strict}
use Rattle.std.specs.Fn.{Called, ComparesAs}
use Rattle.std.specs.List.Sorted.{IsSortedBy}
use Rattle.std.specs.Ordering.{MatchOrdering, is_lt, nat_cmp, ordering_then}
use Rattle.std.specs.declared.cmp.Ordering.{Ordering}
use Rattle.std.specs.declared.cmp.Ordering.TheVariants.{Less, Equal, Greater}
use denote.Param.Members.{Mut}
use denote.Ref.{Bor}
use Rattle.octets.specs.declared.tag.Class.{Class}
use Rattle.octets.specs.declared.tag.Class.TheVariants.{Universal, Application, Context, Private}
use Rattle.octets.specs.declared.tag.Tag.{Tag}
use Rattle.octets.specs.Tag.{place_of, ComesBefore}
use Rattle.octets.specs.Laws.{TagsAreOrdered}

place_of-injective : (c d : Class) → place_of c ≡ place_of d → c ≡ d
place_of-injective Universal Universal h = refl
place_of-injective Application Application h = refl
place_of-injective Context Context h = refl
place_of-injective Private Private h = refl
place_of-injective c d h = absurd (omega arith)

not_before_itself : (a : Tag) → ComesBefore a a → ⊥
not_before_itself a (inl h) = omega (arith, h)
not_before_itself a (inr h) = omega (arith, h.1)

before_chains : (a b c : Tag) → ComesBefore a b → ComesBefore b c → ComesBefore a c
before_chains a b c (inl h) (inl k) = inl (omega (arith, h, k))
before_chains a b c (inl h) (inr k) = inl (omega (arith, h, ap place_of k.0))
before_chains a b c (inr h) (inl k) = inl (omega (arith, k, ap place_of h.0))
before_chains a b c (inr h) (inr k) = inr (h.0 ∙ k.0, omega (arith, h.1, k.1))

-- classes are compared first, and then numbers
abbrev pub tag_order : Tag → Tag → Ordering
tag_order a b = ordering_then (nat_cmp (place_of a.class) (place_of b.class)) (nat_cmp a.number b.number)

by_parts : (a b : Tag) (o p : Ordering) → MatchOrdering o (place_of a.class < place_of b.class) (place_of a.class ≡ place_of b.class) (place_of b.class < place_of a.class)
    → MatchOrdering p (a.number < b.number) (a.number ≡ b.number) (b.number < a.number) → MatchOrdering (ordering_then o p) (ComesBefore a b) (a ≡ b) (ComesBefore b a)
by_parts a b Less p h k = inl h
by_parts a b Greater p h k = inl h
by_parts a b Equal Less h k = inr (place_of-injective a.class b.class h, k)
by_parts a b Equal Greater h k = inr (sym (place_of-injective a.class b.class h), k)
by_parts a b Equal Equal h k = let same = place_of-injective a.class b.class h in λ i. record { class = same i; number = k i }

pub tag_order-means : (a b : Tag) → MatchOrdering (tag_order a b) (ComesBefore a b) (a ≡ b) (ComesBefore b a)
tag_order-means a b =
    by_parts a b (nat_cmp (place_of a.class) (place_of b.class)) (nat_cmp a.number b.number)
    (ranked (place_of a.class) (place_of b.class) (nat_cmp (place_of a.class) (place_of b.class)) refl) (ranked a.number b.number (nat_cmp a.number b.number) refl)

either_before : (a b : Tag) (o : Ordering) → MatchOrdering o (ComesBefore a b) (a ≡ b) (ComesBefore b a) → a ≢ b → ComesBefore a b ⊎ ComesBefore b a
either_before a b Less h differ = inl h
either_before a b Equal h differ = absurd (differ h)
either_before a b Greater h differ = inr h

pub tags_are_ordered : TagsAreOrdered
tags_are_ordered = record {
  not_itself = not_before_itself;
  chain = before_chains;
  either = λ a b differ. either_before a b (tag_order a b) (tag_order-means a b) differ;
}

pub tag_order-total : IsTotalOrder tag_order
tag_order-total = strict ComesBefore not_before_itself before_chains tag_order tag_order-means

-- what the method `order` returns
pub tag_order-is : (a b : Tag) (r : Ordering) → MatchOrdering r (ComesBefore a b) (a ≡ b) (ComesBefore b a) → r ≡ tag_order a b
tag_order-is a b r h = one_rank ComesBefore not_before_itself before_chains a b r (tag_order a b) h (tag_order-means a b)

not_less : (a b : Tag) (o : Ordering) → MatchOrdering o (ComesBefore a b) (a ≡ b) (ComesBefore b a) → is_lt o ≡ false → ComesBefore a b → ⊥
not_less a b Less h test before = cc
not_less a b Equal h test before = not_before_itself b (subst (λ t. ComesBefore t b) h before)
not_less a b Greater h test before = not_before_itself a (before_chains a b a before h)

-- after a sort by the method `order` no element comes before an earlier one
module _ {X : Type 0} (tag : X → Tag) where
  pub tags_ascend : (xs : List X) → IsSortedBy (λ x y. is_lt (tag_order (tag x) (tag y))) xs → (i j : ℕ) (d : X) → i ≤ j → j < length xs → ComesBefore (tag (get_or xs j d)) (tag (get_or xs i d)) → ⊥
  tags_ascend xs sorted i j d up below =
      let a = tag (get_or xs j d) in
      let b = tag (get_or xs i d) in
      not_less a b (tag_order a b) (tag_order-means a b) (sorted_far (λ x y. is_lt (tag_order (tag x) (tag y))) (ranks_by tag_order-total tag) xs sorted i j d up below)

  -- from the clause `sorted` of `sort_unstable_by` and `sort_by`, and what each call of the closure returns
  pub tags_ascend-from_sort_by : {F : Type 0} {g : Mut F (Bor X × (Bor X × Unit {0})) Ordering} {f : F} (xs : List X)
      → ((lt : X → X → Bool) → IsStrictWeakOrder lt → ComparesAs g lt f → IsSortedBy lt xs)
      → ((a : Bor X × (Bor X × Unit {0})) (r : Ordering) (f' : F) → Called g f a r f' → MatchOrdering r (ComesBefore (tag a.0.now) (tag a.1.0.now)) (tag a.0.now ≡ tag a.1.0.now) (ComesBefore (tag a.1.0.now) (tag a.0.now)) × (f' ≡ f))
      → (i j : ℕ) (d : X) → i ≤ j → j < length xs → ComesBefore (tag (get_or xs j d)) (tag (get_or xs i d)) → ⊥
  tags_ascend-from_sort_by {g = g} {f = f} xs up h =
      tags_ascend xs (up (λ x y. is_lt (tag_order (tag x) (tag y))) (ranks_by tag_order-total tag)
      (always_returns_same g (λ a r. is_lt r ≡ is_lt (tag_order (tag a.0.now) (tag a.1.0.now))) f (λ a r f' k.
      let both = h a r f' k in (ap is_lt (tag_order-is (tag a.0.now) (tag a.1.0.now) r both.0), both.1))))
