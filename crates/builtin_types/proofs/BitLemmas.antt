-- The numbers of named bits, and the bits that are written behind DEFAULT.
use Rattle.std.proofs.Common.{All, ◌≡◌, ◌≢◌, ◌↔◌, ◌≤◌, ℕ, ℤ, Bool, pos, List, ◌∷◌, Option, Some, None, IfSome, IsNone, map, refl, sym, subst}
use Rattle.std.specs.Prelude.{MatchOption, Result, Ok, Err, IfOk}
use Rattle.std.specs.List.{AllPairs}
use Rattle.std.specs.List.Sorted.{IsPermutation}
use Rattle.std.proofs.lemmas.List.Elements.{All-head, All-tail, All-cons}
use Rattle.types.proofs.ItemLemmas.{AllDiffer, differ_as_naturals, differ_moved, moved_back}
use Rattle.syntax.specs.declared.tree.NamedBit.{NamedBit}
use Rattle.syntax.specs.Tree.{Value, binary_value}
use Rattle.builtin_types.specs.Defaults.{AreWritten, binary_string}

abbrev pub NumbersWithin : List NamedBit → Type 0
NumbersWithin bits = All (λ (bit : NamedBit). bit.number ≤ 65535) bits

pub numbers_first : (bit : NamedBit) (bits : List NamedBit) → NumbersWithin (bit ∷ bits) ↔ ((bit.number ≤ 65535) × NumbersWithin bits)
numbers_first bit bits =
    let Within = λ (b : NamedBit). b.number ≤ 65535 in (λ h. (All-head Within bit bits h, All-tail Within bit bits h), λ h. All-cons Within bit bits h.0 h.1)

abbrev pub numbers : List NamedBit → List ℕ
numbers bits = map (λ (bit : NamedBit). bit.number) bits

-- in order, the numbers differ where they do as they are written
pub numbers_apart : (ns : List ℕ) (sorted : List ℤ) → IsPermutation (map pos ns) sorted → AllDiffer sorted ↔ AllPairs (λ a b. a ≢ b) ns
numbers_apart ns sorted same = (
  λ h. (differ_as_naturals ns).0 (moved_back (map pos ns) sorted same h),
  λ h. differ_moved (map pos ns) sorted same ((differ_as_naturals ns).1 h),
)

-- what the bits of a string are, by what it is spelled as
pub binary_taken : {E : Type 0} (written : Value) (spelled : List ℕ) (found : Result (Option (List Bool)) E) → written ≡ binary_value spelled
    → IfOk found (λ found. IfSome found (λ bits. spelled ≡ binary_string bits)) → IfOk found (λ found. IsNone found → (bits : List Bool) → spelled ≢ binary_string bits)
    → IfOk found (λ found. MatchOption found ((bits : List Bool) → AreWritten written bits → ⊥) (λ bits. AreWritten written bits))
binary_taken written spelled (Err e) is some none = tt
binary_taken written spelled (Ok None) is some none = subst (λ (w : Value). (bits : List Bool) → AreWritten w bits → ⊥) (sym is) (none refl)
binary_taken written spelled (Ok (Some bits)) is some none = subst (λ (w : Value). AreWritten w bits) (sym is) some
