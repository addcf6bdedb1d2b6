-- The items of an ENUMERATED one by one, the written numbers in any order.
use Rattle.std.proofs.Common.{◌≡◌, ℕ, suc, ℤ, pos, List, [], ◌∷◌, ◌++◌, Option, Some, None, refl, sym, subst, FitsSigned}
use Rattle.std.specs.Prelude.{IsPermutation}
use Rattle.std.specs.Int.{w128}
use Rattle.std.proofs.lemmas.List.Sorted.{Contains-permutation, IsPermutation-sym}
use Rattle.types.specs.Shape.{EnumerationItem}
use Rattle.syntax.specs.declared.tree.SignedNumber.{SignedNumber}
use Rattle.syntax.specs.Tree.{Entry}
use Rattle.builtin_types.specs.Numbering.{number_of, IsNextFree, AreNumbered}

-- the entries have these items, and what follows without a number starts at `next`
abbrev pub NumberedTo : List ℤ → ℕ → List Entry → List EnumerationItem → ℕ → Type 0
NumberedTo written from [] [] next = from ≡ next
NumberedTo written from [] (item ∷ items) next = ⊥
NumberedTo written from (entry ∷ entries) [] next = ⊥
NumberedTo written from ((name, Some number) ∷ entries) (item ∷ items) next =
    (item.name ≡ name) × (item.number ≡ number_of number) × FitsSigned w128 (number_of number) × NumberedTo written from entries items next
NumberedTo written from ((name, None) ∷ entries) (item ∷ items) next =
    (item.name ≡ name) × ((number : ℕ) × IsNextFree written from number × (item.number ≡ pos number) × NumberedTo written (suc number) entries items next)

pub numbered_so : (written : List ℤ) (from : ℕ) (entries : List Entry) (items : List EnumerationItem) (next : ℕ) → NumberedTo written from entries items next → AreNumbered written from entries items
numbered_so written from [] [] next h = tt
numbered_so written from [] (item ∷ items) next h = h
numbered_so written from (entry ∷ entries) [] next h = h
numbered_so written from ((name, Some number) ∷ entries) (item ∷ items) next h = (h.0, h.1, h.2, numbered_so written from entries items next h.3)
numbered_so written from ((name, None) ∷ entries) (item ∷ items) next h = (h.0, (h.1.0, h.1.1, h.1.2, numbered_so written (suc h.1.0) entries items next h.1.3))

-- one more item, with a number that is written
pub push-written : (written : List ℤ) (from : ℕ) (entries : List Entry) (items : List EnumerationItem) (next : ℕ) (name : List ℕ) (number : SignedNumber) (item : EnumerationItem)
    → NumberedTo written from entries items next → item.name ≡ name → item.number ≡ number_of number → FitsSigned w128 (number_of number)
    → NumberedTo written from (entries ++ (name, Some number) ∷ []) (items ++ item ∷ []) next
push-written written from [] [] next name number item h named numbered fits = (named, numbered, fits, h)
push-written written from [] (first ∷ items) next name number item h named numbered fits = absurd h
push-written written from (entry ∷ entries) [] next name number item h named numbered fits = absurd h
push-written written from ((other, Some own) ∷ entries) (first ∷ items) next name number item h named numbered fits =
    (h.0, h.1, h.2, push-written written from entries items next name number item h.3 named numbered fits)
push-written written from ((other, None) ∷ entries) (first ∷ items) next name number item h named numbered fits =
    (h.0, (h.1.0, h.1.1, h.1.2, push-written written (suc h.1.0) entries items next name number item h.1.3 named numbered fits))

-- and with the next one that is free
pub push-free : (written : List ℤ) (from : ℕ) (entries : List Entry) (items : List EnumerationItem) (next : ℕ) (name : List ℕ) (number : ℕ) (item : EnumerationItem)
    → NumberedTo written from entries items next → item.name ≡ name → IsNextFree written next number → item.number ≡ pos number
    → NumberedTo written from (entries ++ (name, None) ∷ []) (items ++ item ∷ []) (suc number)
push-free written from [] [] next name number item h named free numbered = (named, (number, subst (λ (n : ℕ). IsNextFree written n number) (sym h) free, numbered, refl))
push-free written from [] (first ∷ items) next name number item h named free numbered = absurd h
push-free written from (entry ∷ entries) [] next name number item h named free numbered = absurd h
push-free written from ((other, Some own) ∷ entries) (first ∷ items) next name number item h named free numbered =
    (h.0, h.1, h.2, push-free written from entries items next name number item h.3 named free numbered)
push-free written from ((other, None) ∷ entries) (first ∷ items) next name number item h named free numbered =
    (h.0, (h.1.0, h.1.1, h.1.2, push-free written (suc h.1.0) entries items next name number item h.1.3 named free numbered))

-- the written numbers may stand in any order
pub free-permuted : (written sorted : List ℤ) (from number : ℕ) → IsPermutation written sorted → IsNextFree sorted from number → IsNextFree written from number
free-permuted written sorted from number same h = record {
  from_here = h.from_here;
  free = λ c. h.free (Contains-permutation written sorted (pos number) same c);
  first = λ other low less. Contains-permutation sorted written (pos other) (IsPermutation-sym written sorted same) (h.first other low less);
}

-- one more item, where the code has the entry
pub item-written : (written : List ℤ) (from : ℕ) (entries : List Entry) (items after : List EnumerationItem) (next : ℕ) (name : List ℕ) (value : Option SignedNumber) (number : SignedNumber) (item : EnumerationItem)
    → value ≡ Some number → after ≡ items ++ item ∷ [] → item.name ≡ name → item.number ≡ number_of number → FitsSigned w128 (number_of number)
    → NumberedTo written from entries items next → NumberedTo written from (entries ++ (name, value) ∷ []) after next
item-written written from entries items after next name value number item some pushed named numbered fits h =
    subst (λ (v : Option SignedNumber). NumberedTo written from (entries ++ (name, v) ∷ []) after next) (sym some)
    (subst (λ (l : List EnumerationItem). NumberedTo written from (entries ++ (name, Some number) ∷ []) l next) (sym pushed) (push-written written from entries items next name number item h named numbered fits))

pub item-free : (written : List ℤ) (from : ℕ) (entries : List Entry) (items after : List EnumerationItem) (next : ℕ) (name : List ℕ) (value : Option SignedNumber) (number : ℕ) (item : EnumerationItem)
    → value ≡ None → after ≡ items ++ item ∷ [] → item.name ≡ name → item.number ≡ pos number → IsNextFree written next number
    → NumberedTo written from entries items next → NumberedTo written from (entries ++ (name, value) ∷ []) after (suc number)
item-free written from entries items after next name value number item none pushed named numbered free h =
    subst (λ (v : Option SignedNumber). NumberedTo written from (entries ++ (name, v) ∷ []) after (suc number)) (sym none)
    (subst (λ (l : List EnumerationItem). NumberedTo written from (entries ++ (name, None) ∷ []) l (suc number)) (sym pushed) (push-free written from entries items next name number item h named free numbered))
