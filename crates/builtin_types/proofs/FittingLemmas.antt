-- Numbers without those that are not of 128 bits.
use Rattle.std.proofs.Common.{◌≡◌, ◌≢◌, ◌↔◌, Option, Some, None, true, false, IfSome, inl, inr, ℕ, ℤ, List, [], ◌∷◌, ◌++◌, refl, sym, ap, ◌∙◌, subst, Contains, FitsSigned}
use Rattle.std.specs.List.{AllPairs}
use Rattle.std.specs.Int.{w128}
use Rattle.std.specs.Prelude.{IsNone, is_some}
use Rattle.std.proofs.lemmas.Bool.{false≢true}
use Rattle.types.proofs.ItemLemmas.{AllDiffer, differ_moved, moved_back}
use Rattle.types.proofs.ListLemmas.{not_in_nil, contains_first, contains_later, contains_cases, first_differs, others_differ, all_differ-cons}
use Rattle.syntax.specs.declared.tree.SignedNumber.{SignedNumber}
use Rattle.syntax.specs.Tree.{Entry}
use Rattle.builtin_types.specs.Numbering.{number_of, written_numbers, AreWithin, NumbersDiffer}
use Rattle.builtin_types.specs.Written.{AreFitting, HasWritten}

-- one more, which is of 128 bits
pub fitting_push : (ns ws : List ℤ) (n z : ℤ) → FitsSigned w128 n → z ≡ n → AreFitting ns ws → AreFitting (ns ++ n ∷ []) (ws ++ z ∷ [])
fitting_push [] ws n z fits is h = inl (fits, ([], ap (λ (l : List ℤ). l ++ z ∷ []) h ∙ ap (λ (m : ℤ). m ∷ []) is, refl))
fitting_push (m ∷ ns) ws n z fits is h = elim h [
  | inl k ↦ inl (k.0, (k.1.0 ++ z ∷ [], ap (λ (l : List ℤ). l ++ z ∷ []) k.1.1, fitting_push ns k.1.0 n z fits is k.1.2))
  | inr k ↦ inr (k.0, fitting_push ns ws n z fits is k.1)
]

-- and one that is not
pub fitting_past : (ns ws : List ℤ) (n : ℤ) → (FitsSigned w128 n → ⊥) → AreFitting ns ws → AreFitting (ns ++ n ∷ []) ws
fitting_past [] ws n great h = inr (great, h)
fitting_past (m ∷ ns) ws n great h = elim h [
  | inl k ↦ inl (k.0, (k.1.0, k.1.1, fitting_past ns k.1.0 n great k.1.2))
  | inr k ↦ inr (k.0, fitting_past ns ws n great k.1)
]

pub fitting_only : (ns ws : List ℤ) → AreFitting ns ws → (number : ℤ) → Contains ws number → Contains ns number
fitting_only [] ws h number c = subst (λ (l : List ℤ). Contains l number) h c
fitting_only (m ∷ ns) ws h number c = elim h [
  | inl k ↦ elim (contains_cases m number k.1.0 (subst (λ (l : List ℤ). Contains l number) k.1.1 c)) [
    | inl same ↦ contains_first m number ns same
    | inr later ↦ contains_later m number ns (fitting_only ns k.1.0 k.1.2 number later)
  ]
  | inr k ↦ contains_later m number ns (fitting_only ns ws k.1 number c)
]

pub fitting_each : (ns ws : List ℤ) → AreFitting ns ws → (number : ℤ) → FitsSigned w128 number → Contains ns number → Contains ws number
fitting_each [] ws h number fits c = absurd (not_in_nil number c)
fitting_each (m ∷ ns) ws h number fits c = elim h [
  | inl k ↦ subst (λ (l : List ℤ). Contains l number) (sym k.1.1) (elim (contains_cases m number ns c) [
    | inl same ↦ contains_first m number k.1.0 same
    | inr later ↦ contains_later m number k.1.0 (fitting_each ns k.1.0 k.1.2 number fits later)
  ])
  | inr k ↦ elim (contains_cases m number ns c) [
    | inl same ↦ absurd (k.0 (subst (FitsSigned w128) (sym same) fits))
    | inr later ↦ fitting_each ns ws k.1 number fits later
  ]
]

-- where all differ these do
fitting_differ : (ns ws : List ℤ) → AreFitting ns ws → AllPairs (λ (a b : ℤ). a ≢ b) ns → AllPairs (λ (a b : ℤ). a ≢ b) ws
fitting_differ [] ws h differ = subst (AllPairs (λ (a b : ℤ). a ≢ b)) (sym h) differ
fitting_differ (m ∷ ns) ws h differ = elim h [
  | inl k ↦ subst (AllPairs (λ (a b : ℤ). a ≢ b)) (sym k.1.1) (all_differ-cons m k.1.0 (λ c. first_differs m ns differ (fitting_only ns k.1.0 k.1.2 m c)) (fitting_differ ns k.1.0 k.1.2 (others_differ m ns differ)))
  | inr k ↦ fitting_differ ns ws k.1 (others_differ m ns differ)
]

-- where all are of 128 bits these are all
fitting_all : (ns ws : List ℤ) → AreFitting ns ws → ((number : ℤ) → Contains ns number → FitsSigned w128 number) → ws ≡ ns
fitting_all [] ws h within = h
fitting_all (m ∷ ns) ws h within = elim h [
  | inl k ↦ k.1.1 ∙ ap (λ (l : List ℤ). m ∷ l) (fitting_all ns k.1.0 k.1.2 (λ n c. within n (contains_later m n ns c)))
  | inr k ↦ absurd (k.0 (within m (contains_first m m ns refl)))
]

-- so where those in order differ, the written ones do, if all are of 128 bits
pub written_differ : (entries : List Entry) (written : List ℤ) → HasWritten entries written → AllDiffer written → AreWithin entries → NumbersDiffer entries
written_differ entries written h differ within = subst AllDiffer (fitting_all (written_numbers entries) h.fitting h.are within) (moved_back h.fitting written h.order differ)

-- and where the written ones do, those in order do
pub differ_written : (entries : List Entry) (written : List ℤ) → HasWritten entries written → NumbersDiffer entries → AllDiffer written
differ_written entries written h differ = differ_moved h.fitting written h.order (fitting_differ (written_numbers entries) h.fitting h.are differ)

-- whether the numbers of more entries are of 128 bits
pub within_written : (name : List ℕ) (value : Option SignedNumber) (number : SignedNumber) (entries : List Entry) → value ≡ Some number → AreWithin ((name, value) ∷ entries) ↔ (FitsSigned w128 (number_of number) × AreWithin entries)
within_written name value number entries is =
    subst (λ (v : Option SignedNumber). AreWithin ((name, v) ∷ entries) ↔ (FitsSigned w128 (number_of number) × AreWithin entries)) (sym is) (
      λ h. (h (number_of number) (contains_first (number_of number) (number_of number) (written_numbers entries) refl), λ n c. h n (contains_later (number_of number) n (written_numbers entries) c)),
      λ h n c. elim (contains_cases (number_of number) n (written_numbers entries) c) [ inl same ↦ subst (FitsSigned w128) same h.0 | inr later ↦ h.1 n later ],
    )

pub within_unwritten : (name : List ℕ) (value : Option SignedNumber) (entries : List Entry) → value ≡ None → AreWithin ((name, value) ∷ entries) ↔ (Unit {0} × AreWithin entries)
within_unwritten name value entries none =
    subst (λ (v : Option SignedNumber). AreWithin ((name, v) ∷ entries) ↔ (Unit {0} × AreWithin entries)) (sym none) (λ h. (tt, h), λ h. h.1)

pub none_within : AreWithin []
none_within = λ number c. absurd (not_in_nil number c)

-- what is told of a number
pub told_within : (number : ℤ) (r : Option ℤ) → IfSome r (λ n. (n ≡ number) × FitsSigned w128 number) → is_some r ≡ true → FitsSigned w128 number
told_within number (Some n) h some = h.1
told_within number None h some = absurd (false≢true some)

pub told_great : (number : ℤ) (r : Option ℤ) → (IsNone r → FitsSigned w128 number → ⊥) → is_some r ≡ false → FitsSigned w128 number → ⊥
told_great number (Some n) h none = absurd (false≢true (sym none))
told_great number None h none = h refl
