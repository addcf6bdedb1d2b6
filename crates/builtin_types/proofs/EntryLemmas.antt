-- The numbers that are written, gathered item by item.
use Rattle.std.proofs.Common.{◌≡◌, ℕ, ℤ, pos, negsuc, List, [], ◌∷◌, ◌++◌, Option, Some, None, Ok, to_z, of_z, Contains, FitsSigned, refl, sym, ap, ◌∙◌, subst, arith}
use Rattle.std.specs.Int.{w128}
use Rattle.std.specs.Option.{ok_or}
use Rattle.std.proofs.lemmas.Int.{ints, to_z-of_z}
use Rattle.std.proofs.lemmas.List.{append-nil}
use Rattle.std.proofs.lemmas.List.Sorted.{Contains-permutation, IsPermutation-sym}
use Rattle.syntax.specs.declared.tree.SignedNumber.{SignedNumber}
use Rattle.syntax.specs.Tree.{Entry}
use Rattle.builtin_types.specs.Numbering.{number_of, written_numbers, IsNextFree}
use Rattle.builtin_types.specs.Written.{AreFitting, HasWritten, IsFree}
use Rattle.builtin_types.proofs.FittingLemmas.{fitting_push, fitting_past, fitting_only, fitting_each}

written-append : (xs ys : List Entry) → written_numbers (xs ++ ys) ≡ written_numbers xs ++ written_numbers ys
written-append [] ys = refl
written-append ((name, None) ∷ xs) ys = written-append xs ys
written-append ((name, Some number) ∷ xs) ys = ap (λ (zs : List ℤ). number_of number ∷ zs) (written-append xs ys)

-- one more item, of which no number is written
pub unwritten_item : (entries : List Entry) (written after : List ℤ) (name : List ℕ) (value : Option SignedNumber) → value ≡ None → after ≡ written → AreFitting (written_numbers entries) written → AreFitting (written_numbers (entries ++ (name, value) ∷ [])) after
unwritten_item entries written after name value none kept h =
    let same = written-append entries ((name, None) ∷ []) ∙ append-nil (written_numbers entries) in
    subst (λ (v : Option SignedNumber). AreFitting (written_numbers (entries ++ (name, v) ∷ [])) after) (sym none)
    (subst (AreFitting (written_numbers (entries ++ (name, None) ∷ []))) (sym kept) (subst (λ (ns : List ℤ). AreFitting ns written) (sym same) h))

-- one that is
pub written_item : (entries : List Entry) (written after : List ℤ) (name : List ℕ) (value : Option SignedNumber) (number : SignedNumber) (z : ℤ) → value ≡ Some number → after ≡ written ++ z ∷ [] → z ≡ number_of number → FitsSigned w128 (number_of number) → AreFitting (written_numbers entries) written
    → AreFitting (written_numbers (entries ++ (name, value) ∷ [])) after
written_item entries written after name value number z some pushed is fits h =
    subst (λ (v : Option SignedNumber). AreFitting (written_numbers (entries ++ (name, v) ∷ [])) after) (sym some)
    (subst (AreFitting (written_numbers (entries ++ (name, Some number) ∷ []))) (sym pushed) (subst (λ (ns : List ℤ). AreFitting ns (written ++ z ∷ [])) (sym (written-append entries ((name, Some number) ∷ []))) (fitting_push (written_numbers entries) written (number_of number) z fits is h)))

-- and one that is not of 128 bits
pub great_item : (entries : List Entry) (written after : List ℤ) (name : List ℕ) (value : Option SignedNumber) (number : SignedNumber) → value ≡ Some number → after ≡ written → (FitsSigned w128 (number_of number) → ⊥) → AreFitting (written_numbers entries) written
    → AreFitting (written_numbers (entries ++ (name, value) ∷ [])) after
great_item entries written after name value number some kept great h =
    subst (λ (v : Option SignedNumber). AreFitting (written_numbers (entries ++ (name, v) ∷ [])) after) (sym some)
    (subst (AreFitting (written_numbers (entries ++ (name, Some number) ∷ []))) (sym kept) (subst (λ (ns : List ℤ). AreFitting ns written) (sym (written-append entries ((name, Some number) ∷ []))) (fitting_past (written_numbers entries) written (number_of number) great h)))

pub kept_number : (n z : ℤ) → (n ≡ z) × FitsSigned w128 z → to_z w128 (of_z w128 n) ≡ z
kept_number n z told = to_z-of_z w128 n (subst (λ (m : ℤ). FitsSigned w128 m) (sym told.0) told.1) ∙ told.0

pub ok_or-some : {E : Type 0} (v : Option ℤ) (z : ℤ) (e : E) → Ok z ≡ ok_or v e → v ≡ Some z
ok_or-some (Some y) z e h = cc
ok_or-some None z e h = cc

pub written_only : (entries : List Entry) (written : List ℤ) → HasWritten entries written → (number : ℤ) → Contains written number → Contains (written_numbers entries) number
written_only entries written h number c = fitting_only (written_numbers entries) h.fitting h.are number (Contains-permutation written h.fitting number (IsPermutation-sym h.fitting written h.order) c)

pub written_each : (entries : List Entry) (written : List ℤ) → HasWritten entries written → (number : ℤ) → FitsSigned w128 number → Contains (written_numbers entries) number → Contains written number
written_each entries written h number fits c = Contains-permutation h.fitting written number h.order (fitting_each (written_numbers entries) h.fitting h.are number fits c)

-- the next free number of those that fit is the next free one
pub next_of_free : (entries : List Entry) (written : List ℤ) (from : ℕ) (number : ℤ) → HasWritten entries written → FitsSigned w128 number → IsFree written (pos from) number → (m : ℕ) × (number ≡ pos m) × IsNextFree (written_numbers entries) from m
next_of_free entries written from (negsuc k) h fits free = absurd (let low = free.from_here in omega (arith, ints, low))
next_of_free entries written from (pos m) h fits free = (
  m,
  refl,
  record {
    from_here = (let low = free.from_here in omega (arith, ints, low));
    free = λ c. free.free (written_each entries written h (pos m) fits c);
    first = λ other low less. written_only entries written h (pos other) (free.first (pos other) (omega (arith, ints, low)) (omega (arith, ints, less)));
  },
)
