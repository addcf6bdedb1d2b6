-- Lemmas on parts, one after another: each that was read is the one that stands there.
use Rattle.std.proofs.Common.{◌≡◌, ℕ, ◌-◌, ◌<◌, ◌≤◌, List, [], ◌∷◌, ◌++◌, Bool, true, false, length, take, refl, sym, ◌∙◌, ap, subst, arith, append_assoc, append-nil, length-append}
use Rattle.std.specs.List.{AllZip, concat}
use Rattle.std.proofs.lemmas.List.{length-take-le, append_cancel_left}
use Rattle.octets.specs.Rule.{Rule}
use Rattle.types.specs.declared.value.Value.{Value}
use Rattle.types.specs.Shape.{Shape, Val}
use Rattle.types.specs.Encoding.{IsEncoding}
use Rattle.types.specs.View.{value_view}
use Rattle.types.proofs.BerLemmas.{encoding_by_ber}
use Rattle.types.proofs.BeginningLemmas.{IsOneNested, encoding_is_nested, one_nested_unique, one_nested_above}
use Rattle.types.proofs.NestingLemmas.{not_end}
use Rattle.encoding_parts.specs.Parts.{IsGoodType}
use Rattle.encoding_parts.specs.Segments.{BeginsAboveZero}
use Rattle.strict.specs.Head.{Fills, mark, EndsHere}
use Rattle.strict.specs.Reading.{IsRead}

-- an encoding of a good type is one encoding
pub one_of : (rule : Rule) (type : Shape) (v : Val) (octets : List ℕ) → IsGoodType type → IsEncoding rule type v octets → IsOneNested octets
one_of rule type v octets good h = encoding_is_nested type v octets good.tags (encoding_by_ber rule type v octets h)

-- so two at one front are the same
pub same_part : (a b r s : List ℕ) → IsOneNested a → IsOneNested b → a ++ r ≡ b ++ s → (a ≡ b) × (r ≡ s)
same_part a b r s h k whole =
    let same : a ≡ b = one_nested_unique a b r s h k whole in
    (same, append_cancel_left b r s (subst (λ z. z ++ r ≡ b ++ s) same whole))

-- and it is not empty
pub one_some : (octets : List ℕ) → IsOneNested octets → 0 < length octets
one_some octets h = let above = one_nested_above octets h in omega (arith, ap length above.is)

pub one_begins : (a b : List ℕ) → IsOneNested a → BeginsAboveZero (a ++ b)
one_begins a b h = let above = one_nested_above a h in (above.first, above.others ++ b, above.above, ap (λ x. x ++ b) above.is)

-- where an encoding stands that there is room for, the contents octets do not end
pub no_end_here : (definite : Bool) (room : ℕ) (part tail : List ℕ) → IsOneNested part → length part ≤ room → EndsHere definite room (part ++ tail) → ⊥
no_end_here true room part tail one fits ends = absurd (omega (arith, one_some part one, fits, ends))
no_end_here false room part tail one fits ends = not_end part tail (0 ∷ 0 ∷ ends.0) (one_nested_above part one) refl (sym ends.1)

-- nothing more before the end
pub ends_here : (definite : Bool) (room : ℕ) (rest : List ℕ) → Fills definite room [] → EndsHere definite room (mark definite ++ rest)
ends_here true room rest fills = sym (fills.exact refl)
ends_here false room rest fills = (rest, refl)

-- what is left once a front has come
pub fills_after : (definite : Bool) (room used : ℕ) (a b : List ℕ) → used ≡ length a → Fills definite room (a ++ b) → Fills definite (room - used) b
fills_after definite room used a b size h = record {
  within = omega (arith, h.within, size, length-append a b);
  exact = λ d. omega (arith, h.exact d, size, length-append a b);
}

-- one more at the end of two lists
pub zip_last : {A B : Type 0} (P : A → B → Type 0) (xs : List A) (ys : List B) (x : A) (y : B) → AllZip P xs ys → P x y → AllZip P (xs ++ (x ∷ [])) (ys ++ (y ∷ []))
zip_last P [] [] x y h k = (k, tt)
zip_last P [] (b ∷ ys) x y h k = elim h [ ]
zip_last P (a ∷ xs) [] x y h k = elim h [ ]
zip_last P (a ∷ xs) (b ∷ ys) x y h k = (h.0, zip_last P xs ys x y h.1 k)

pub concat_last : (ys : List (List ℕ)) (y : List ℕ) → concat (ys ++ (y ∷ [])) ≡ concat ys ++ y
concat_last [] y = append-nil y
concat_last (b ∷ ys) y = ap (λ x. b ++ x) (concat_last ys y) ∙ sym (append_assoc b (concat ys) y)

pub read_some : (rule : Rule) (type : Shape) (room : ℕ) (octets : List ℕ) (v : Value) (used : ℕ) → IsGoodType type → IsRead rule type room octets v used → 0 < used
read_some rule type room octets v used good h = omega (arith, one_some (take used octets) (one_of rule type (value_view v) (take used octets) good h.2), length-take-le used octets h.0)
