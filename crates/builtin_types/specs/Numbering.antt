-- The numbers of an ENUMERATED's items (X.680 clause 20).
use Rattle.std.specs.Prelude.{◌≡◌, ◌≢◌, ◌<◌, ◌≤◌, ⊤, ℕ, suc, ℤ, pos, neg_ℤ, List, [], ◌∷◌, Some, None, FitsSigned, Contains, if◌then◌else◌}
use Rattle.std.specs.List.{AllPairs}
use Rattle.std.specs.Int.{w128}
use Rattle.types.specs.Shape.{EnumerationItem}
use Rattle.syntax.specs.declared.tree.SignedNumber.{SignedNumber}
use Rattle.syntax.specs.Tree.{Entry}

abbrev pub number_of : SignedNumber → ℤ
number_of number = if number.negative then neg_ℤ (pos number.magnitude) else pos number.magnitude

-- the numbers that are written
abbrev pub written_numbers : List Entry → List ℤ
written_numbers [] = []
written_numbers ((name, None) ∷ others) = written_numbers others
written_numbers ((name, Some number) ∷ others) = number_of number ∷ written_numbers others

-- each of them is of 128 bits in two's complement
abbrev pub AreWithin : List Entry → Type 0
AreWithin entries = (number : ℤ) → Contains (written_numbers entries) number → FitsSigned w128 number

abbrev pub NumbersDiffer : List Entry → Type 0
NumbersDiffer entries = AllPairs (λ number other. number ≢ other) (written_numbers entries)

-- the first number from here on that is not written
pub record IsNextFree (written : List ℤ) (from number : ℕ) : Type 0 where
  pub from_here : from ≤ number
  pub free : Contains written (pos number) → ⊥
  pub first : (other : ℕ) → from ≤ other → other < number → Contains written (pos other)

-- an item has the number that is written, which is of 128 bits in two's complement; those without one have in order of
-- text the successive numbers from here on that are not written
abbrev pub AreNumbered : List ℤ → ℕ → List Entry → List EnumerationItem → Type 0
AreNumbered written from [] [] = ⊤
AreNumbered written from [] (item ∷ items) = ⊥
AreNumbered written from (entry ∷ entries) [] = ⊥
AreNumbered written from ((name, Some number) ∷ entries) (item ∷ items) =
    (item.name ≡ name) × (item.number ≡ number_of number) × FitsSigned w128 (number_of number) × AreNumbered written from entries items
AreNumbered written from ((name, None) ∷ entries) (item ∷ items) =
    (item.name ≡ name) × ((number : ℕ) × IsNextFree written from number × (item.number ≡ pos number) × AreNumbered written (suc number) entries items)

-- the items of these entries, from 0 on
abbrev pub AreItems : List Entry → List EnumerationItem → Type 0
AreItems entries items = AreNumbered (written_numbers entries) 0 entries items
