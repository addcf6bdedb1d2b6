-- Names of the examples, and which of them differ.
use Rattle.std.proofs.Common.{◌≡◌, ◌≢◌, inl, inr, ℕ, List, [], ◌∷◌, sym, Contains}
use Rattle.types.proofs.ListLemmas.{AllPairs-nil, all_differ-cons, contains_cases, not_in_nil}
use Rattle.builtin_types.specs.Names.{NamesDiffer}
use Rattle.builtin_types.proofs.SpellingLemmas.{heads}

abbrev pub a : List ℕ
a = 97 ∷ []

abbrev pub b : List ℕ
b = 98 ∷ []

pub apart : (x y : ℕ) → (x ≡ y → ⊥) → x ∷ [] ≢ y ∷ []
apart x y other same = other (heads x y [] [] same)

pub no_names : NamesDiffer []
no_names = AllPairs-nil (λ x y. x ≢ y)

pub one_name : (name : List ℕ) → NamesDiffer (name ∷ [])
one_name name = all_differ-cons name [] (λ c. not_in_nil name c) no_names

pub not_alone : (name other : List ℕ) → name ≢ other → Contains (other ∷ []) name → ⊥
not_alone name other differ c = elim (contains_cases other name [] c) [ inl same ↦ differ (sym same) | inr none ↦ not_in_nil name none ]

pub two_names : (name other : List ℕ) → name ≢ other → NamesDiffer (name ∷ other ∷ [])
two_names name other differ = all_differ-cons name (other ∷ []) (λ c. not_alone name other differ c) (one_name other)
