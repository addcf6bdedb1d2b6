-- Numbers of items.
use Rattle.std.proofs.Common.{◌≡◌, ◌<◌, ◌≤◌, inl, inr, ℕ, zero, suc, ℤ, pos, negsuc, List, [], ◌∷◌, Option, Some, None, Bool, true, false, refl, arith, Contains}
use Rattle.std.proofs.lemmas.Int.{ints}
use Rattle.types.specs.Shape.{EnumerationItem}
use Rattle.types.proofs.ListLemmas.{contains_first, contains_later, contains_cases, not_in_nil}
use Rattle.syntax.specs.declared.tree.SignedNumber.{SignedNumber}
use Rattle.builtin_types.specs.Numbering.{IsNextFree, AreItems}
use Rattle.builtin_types.proofs.NameInstances.{a, b}

abbrev c-name : List ℕ
c-name = 99 ∷ []

abbrev d-name : List ℕ
d-name = 100 ∷ []

abbrev item_of : List ℕ → ℤ → EnumerationItem
item_of name number = record { name = name; number = number }

abbrev written : Bool → ℕ → Option SignedNumber
written negative magnitude = Some (record { negative = negative; magnitude = magnitude })

same_natural : (x y : ℕ) → pos x ≡ pos y → x ≡ y
same_natural x y e = omega (arith, ints, e)

-- `ENUMERATED { a(1), b, c(0), d }`: b is 2, and d is 3
abbrev one_and_zero : List ℤ
one_and_zero = pos 1 ∷ pos 0 ∷ []

not_one_or_zero : (number : ℕ) → 2 ≤ number → Contains one_and_zero (pos number) → ⊥
not_one_or_zero number great c =
    elim (contains_cases (pos 1) (pos number) (pos 0 ∷ []) c) [ inl one ↦ absurd (omega (arith, great, same_natural 1 number one)) | inr later ↦ elim (contains_cases (pos 0) (pos number) [] later) [ inl zero_is ↦ absurd (omega (arith, great, same_natural 0 number zero_is)) | inr none ↦ absurd (not_in_nil (pos number) none) ] ]

below_two : (number : ℕ) → number < 2 → Contains one_and_zero (pos number)
below_two zero less = contains_later (pos 1) (pos 0) (pos 0 ∷ []) (contains_first (pos 0) (pos 0) [] refl)
below_two (suc zero) less = contains_first (pos 1) (pos 1) (pos 0 ∷ []) refl
below_two (suc (suc number)) less = absurd (omega (arith, less))

from_zero : IsNextFree one_and_zero 0 2
from_zero = record { from_here = omega arith; free = λ c. not_one_or_zero 2 (omega arith) c; first = λ other low less. below_two other less }

from_three : IsNextFree one_and_zero 3 3
from_three = record { from_here = omega arith; free = λ c. not_one_or_zero 3 (omega arith) c; first = λ other low less. absurd (omega (arith, low, less)) }

four_items : AreItems ((a, written false 1) ∷ (b, None) ∷ (c-name, written false 0) ∷ (d-name, None) ∷ []) (item_of a (pos 1) ∷ item_of b (pos 2) ∷ item_of c-name (pos 0) ∷ item_of d-name (pos 3) ∷ [])
four_items = (refl, refl, omega (arith, ints), (refl, (2, from_zero, refl, (refl, refl, omega (arith, ints), (refl, (3, from_three, refl, tt))))))

-- and not 0 and 1
not_zero_and_one : AreItems ((a, written false 1) ∷ (b, None) ∷ (c-name, written false 0) ∷ (d-name, None) ∷ []) (item_of a (pos 1) ∷ item_of b (pos 0) ∷ item_of c-name (pos 0) ∷ item_of d-name (pos 1) ∷ []) → ⊥
not_zero_and_one h = let next = h.3.1.1 in next.free (below_two h.3.1.0 (let is = same_natural 0 h.3.1.0 h.3.1.2 in omega (arith, is)))

-- a number that is written later is left out too: `{ a, b(0) }` has 1 for a
zero_only : (number : ℕ) → 1 ≤ number → Contains (pos 0 ∷ []) (pos number) → ⊥
zero_only number great c = elim (contains_cases (pos 0) (pos number) [] c) [ inl is ↦ absurd (omega (arith, great, same_natural 0 number is)) | inr none ↦ absurd (not_in_nil (pos number) none) ]

only_zero_below : (number : ℕ) → number < 1 → Contains (pos 0 ∷ []) (pos number)
only_zero_below zero less = contains_first (pos 0) (pos 0) [] refl
only_zero_below (suc number) less = absurd (omega (arith, less))

zero_later : AreItems ((a, None) ∷ (b, written false 0) ∷ []) (item_of a (pos 1) ∷ item_of b (pos 0) ∷ [])
zero_later =
    (refl, (1, record { from_here = omega arith; free = λ c. zero_only 1 (omega arith) c; first = λ other low less. only_zero_below other less }, refl, (refl, refl, omega (arith, ints), tt)))

-- numbers start at 0, whatever is written before: `{ a(5), b }` and `{ a(-1), b }`
after_five : AreItems ((a, written false 5) ∷ (b, None) ∷ []) (item_of a (pos 5) ∷ item_of b (pos 0) ∷ [])
after_five = (refl, refl, omega (arith, ints), (refl, (0, next, refl, tt)))
  where
    next : IsNextFree (pos 5 ∷ []) 0 0
    next = record {
      from_here = omega arith;
      free = λ c. elim (contains_cases (pos 5) (pos 0) [] c) [ inl is ↦ absurd (omega (arith, same_natural 5 0 is)) | inr none ↦ absurd (not_in_nil (pos 0) none) ];
      first = λ other low less. absurd (omega (arith, less));
    }

after_minus_one : AreItems ((a, written true 1) ∷ (b, None) ∷ []) (item_of a (negsuc 0) ∷ item_of b (pos 0) ∷ [])
after_minus_one = (refl, refl, omega (arith, ints), (refl, (0, next, refl, tt)))
  where
    next : IsNextFree (negsuc 0 ∷ []) 0 0
    next = record {
      from_here = omega arith;
      free = λ c. elim (contains_cases (negsuc 0) (pos 0) [] c) [ inl is ↦ absurd (omega (arith, ints, is)) | inr none ↦ absurd (not_in_nil (pos 0) none) ];
      first = λ other low less. absurd (omega (arith, less));
    }

-- a number past the limits has no items
too_great : (items : List EnumerationItem) → AreItems ((a, written false 170_141_183_460_469_231_731_687_303_715_884_105_728) ∷ []) items → ⊥
too_great [] h = h
too_great (item ∷ items) h = let fits = h.2 in omega (arith, ints, fits)
