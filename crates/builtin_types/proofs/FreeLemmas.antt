-- The next free number, found by passing the written ones in order.
use Rattle.std.proofs.Common.{◌≡◌, ◌<◌, ◌≤◌, ◌≤ℤ◌, ◌<ℤ◌, ◌+ℤ◌, ◌+◌, inl, inr, ℕ, zero, suc, ℤ, pos, true, false, List, [], ◌∷◌, length, get_or, Contains, FitsSigned, to_z, of_z, refl, sym, ap, ◌∙◌, subst, arith}
use Rattle.std.specs.List.Sorted.{IsSorted}
use Rattle.std.specs.declared.cmp.Ordering.{Ordering}
use Rattle.std.specs.declared.cmp.Ordering.TheVariants.{Less, Equal, Greater}
use Rattle.std.specs.Ordering.{int_cmp, is_lt, MatchOrdering}
use Rattle.std.specs.Cmp.{int_ranks}
use Rattle.std.proofs.lemmas.Cmp.{int_cmp_total}
use lib.Signed.{le_z}
use Rattle.std.specs.Int.{w128}
use Rattle.std.proofs.lemmas.Int.{ints, by_lt_z, to_z-of_z}
use Rattle.std.proofs.lemmas.Bool.{cases_lt}
use Rattle.std.proofs.lemmas.List.Sorted.{sorted_far, ranks_by}
use Rattle.std.proofs.lemmas.List.Elements.{Contains-get_or}
use Rattle.builtin_types.specs.Written.{IsPassed, IsFree, farthest}

-- all that lies from the start to the next one is written
pub record IsUnderWay (written : List ℤ) (from : ℤ) (passed : ℕ) (next : ℤ) : Type 0 where
  pub from_here : from ≤ℤ next
  pub so_far : IsPassed written passed next
  pub full : (other : ℤ) → from ≤ℤ other → other <ℤ next → Contains written other

get_or_same : (xs : List ℤ) (place : ℕ) (d e : ℤ) → place < length xs → get_or xs place d ≡ get_or xs place e
get_or_same [] place d e within = absurd (omega (arith, within))
get_or_same (x ∷ xs) zero d e within = refl
get_or_same (x ∷ xs) (suc place) d e within = get_or_same xs place d e (omega (arith, within))

-- what tests of numbers of 128 bits say
pub equal_of : (x n : ℤ) → FitsSigned w128 x → FitsSigned w128 n → of_z w128 x ≡ of_z w128 n → x ≡ n
equal_of x n p q same = sym (to_z-of_z w128 x p) ∙ ap (to_z w128) same ∙ to_z-of_z w128 n q

below_by : (x n : ℤ) → le_z x n ≡ true → (x ≡ n → ⊥) → x <ℤ n
below_by x n le ne = by_lt_z x n (λ less. less) (λ more. absurd (ne (grind (arith, ints))))

pub below_of : (x n : ℤ) → FitsSigned w128 x → FitsSigned w128 n → le_z (to_z w128 (of_z w128 x)) (to_z w128 (of_z w128 n)) ≡ true → (of_z w128 x ≡ of_z w128 n → ⊥) → x <ℤ n
below_of x n p q le ne = below_by x n (sym (ap (λ z. le_z z (to_z w128 (of_z w128 n))) (to_z-of_z w128 x p) ∙ ap (λ z. le_z x z) (to_z-of_z w128 n q)) ∙ le) (λ same. ne (ap (of_z w128) same))

above_by : (x n : ℤ) → le_z x n ≡ false → n <ℤ x
above_by x n le = grind (arith, ints)

pub above_of : (x n : ℤ) → FitsSigned w128 x → FitsSigned w128 n → le_z (to_z w128 (of_z w128 x)) (to_z w128 (of_z w128 n)) ≡ false → n <ℤ x
above_of x n p q le = above_by x n (sym (ap (λ z. le_z z (to_z w128 (of_z w128 n))) (to_z-of_z w128 x p) ∙ ap (λ z. le_z x z) (to_z-of_z w128 n q)) ∙ le)

pub next_of : (n v : ℤ) → FitsSigned w128 n → FitsSigned w128 (to_z w128 (of_z w128 n) +ℤ pos 1) → v ≡ to_z w128 (of_z w128 n) +ℤ pos 1 → to_z w128 (of_z w128 v) ≡ n +ℤ pos 1
next_of n v p q is = to_z-of_z w128 v (subst (λ z. FitsSigned w128 z) (sym is) q) ∙ is ∙ ap (λ z. z +ℤ pos 1) (to_z-of_z w128 n p)

pub under_way-start : (written : List ℤ) (passed : ℕ) (next : ℤ) → IsPassed written passed next → IsUnderWay written next passed next
under_way-start written passed next h = record {
  from_here = omega (arith, ints);
  so_far = h;
  full = λ other from below. absurd (omega (arith, ints));
}

-- the next written number is below the next one
pub under_way-below : (written : List ℤ) (from : ℤ) (passed : ℕ) (next : ℤ) → passed < length written → get_or written passed (pos 0) <ℤ next → IsUnderWay written from passed next → IsUnderWay written from (passed + 1) next
under_way-below written from passed next within here h = record {
  from_here = h.from_here;
  so_far = record {
    within = omega (arith, within);
    below = λ place d less. elim (cases_lt place passed) [
      | inl before ↦ h.so_far.below place d before
      | inr at ↦ subst (λ (p : ℕ). get_or written p d <ℤ next) (omega (arith, at, less)) (subst (λ z. z <ℤ next) (get_or_same written passed (pos 0) d within) here)
    ];
  };
  full = h.full;
}

-- the next written number is the next one
pub under_way-equal : (written : List ℤ) (from : ℤ) (passed : ℕ) (next : ℤ) → passed < length written → get_or written passed (pos 0) ≡ next → IsUnderWay written from passed next → IsUnderWay written from (passed + 1) (next +ℤ pos 1)
under_way-equal written from passed next within here h = record {
  from_here = omega (arith, ints, h.from_here);
  so_far = record {
    within = omega (arith, within);
    below = λ place d less. elim (cases_lt place passed) [
      | inl before ↦ (let b = h.so_far.below place d before in omega (arith, ints, b))
      | inr at ↦ (let e : get_or written place d ≡ next = ap (λ (p : ℕ). get_or written p d) (omega (arith, at, less)) ∙ get_or_same written passed d (pos 0) within ∙ here in omega (arith, ints, e))
    ];
  };
  full = λ other from_other less. by_lt_z other next (λ before. h.full other from_other before) (λ after.
      let same : other ≡ next = omega (arith, ints, less, after) in
      subst (λ (n : ℤ). Contains written n) (here ∙ sym same) (Contains-get_or written passed (pos 0) within));
}

not_below_by : (a b : ℤ) (r : Ordering) → is_lt r ≡ false → MatchOrdering r (a <ℤ b) (a ≡ b) (b <ℤ a) → a <ℤ b → ⊥
not_below_by a b Less never told less = absurd (cc never)
not_below_by a b Equal never told less = absurd (omega (arith, ints, told, less))
not_below_by a b Greater never told less = absurd (omega (arith, ints, told, less))

not_behind : (written : List ℤ) (passed place : ℕ) (next : ℤ) → IsSorted int_cmp written → passed ≤ place → place < length written → next <ℤ get_or written passed next → get_or written place next ≡ next → ⊥
not_behind written passed place next sorted behind within above same =
    let far : is_lt (int_cmp (get_or written place next) (get_or written passed next)) ≡ false = sorted_far (λ x y. is_lt (int_cmp x y)) (ranks_by int_cmp_total (λ (x : ℤ). x)) written sorted passed place next behind within in
    let never : is_lt (int_cmp next (get_or written passed next)) ≡ false = subst (λ z. is_lt (int_cmp z (get_or written passed next)) ≡ false) same far in
    not_below_by next (get_or written passed next) (int_cmp next (get_or written passed next)) never (int_ranks next (get_or written passed next)) above

-- no number is left to pass, or the next of them is above: the next one is free
pub under_way-free : (written : List ℤ) (from : ℤ) (passed : ℕ) (next : ℤ) → IsSorted int_cmp written → (passed < length written → next <ℤ get_or written passed (pos 0)) → IsUnderWay written from passed next → IsFree written from next
under_way-free written from passed next sorted above h = record {
  from_here = h.from_here;
  free = λ c. elim (cases_lt c.0 passed) [
    | inl before ↦ (let b = h.so_far.below c.0 next before in let e : get_or written c.0 next ≡ next = c.2 in absurd (omega (arith, ints, b, e)))
    | inr at ↦ (let short = c.1 in not_behind written passed c.0 next sorted at short (let inside : passed < length written = omega (arith, at, short) in subst (λ z. next <ℤ z) (get_or_same written passed (pos 0) next inside) (above inside)) c.2)
  ];
  first = h.full;
}

-- past it
pub under_way-passed : (written : List ℤ) (from : ℤ) (passed : ℕ) (next : ℤ) → IsUnderWay written from passed next → IsPassed written passed (next +ℤ pos 1)
under_way-passed written from passed next h = record {
  within = h.so_far.within;
  below = λ place d less. let b = h.so_far.below place d less in omega (arith, ints, b);
}

-- each number that is passed is left to pass no more
pub farthest-equal : (written : List ℤ) (passed : ℕ) (next most : ℤ) → passed < length written → farthest written passed next ≤ℤ most → farthest written (passed + 1) (next +ℤ pos 1) ≤ℤ most
farthest-equal written passed next most within h = omega (arith, ints, within, h)

pub farthest-below : (written : List ℤ) (passed : ℕ) (next most : ℤ) → farthest written passed next ≤ℤ most → farthest written (passed + 1) next ≤ℤ most
farthest-below written passed next most h = omega (arith, ints, h)
