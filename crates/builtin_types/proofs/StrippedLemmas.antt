-- What stands between the marks of a string behind DEFAULT.
use Rattle.std.proofs.Common.{◌≡◌, ◌+◌, ◌-◌, ℕ, true, false, List, ◌++◌, length, take, drop, Option, Some, None, IfSome, IsNone, Bor, sym, ap, ◌∙◌, arith}
use Rattle.std.specs.Option.{MatchOption}
use Rattle.std.specs.Str.{bytes_eq}
use Rattle.std.proofs.Math.Seq.{take-append_seam, drop-append_seam}
use Rattle.std.proofs.lemmas.Bool.Decides.{not_from_Decides}
use Rattle.std.proofs.lemmas.Slice.Eq.{bytes_eq-Decides}
use Rattle.std.proofs.lemmas.List.{take-append-drop, length-append}

equal_so : (xs ys : List ℕ) → bytes_eq xs ys ≡ true → xs ≡ ys
equal_so xs ys e = (bytes_eq-Decides xs ys).0 e

unequal_so : (xs ys : List ℕ) → bytes_eq xs ys ≡ false → xs ≡ ys → ⊥
unequal_so xs ys e = not_from_Decides (bytes_eq xs ys) (bytes_eq-Decides xs ys) e

-- the octets begin with others
pub not_begun : (spelled front behind : List ℕ) → bytes_eq (take (length front) spelled) front ≡ false → spelled ≡ front ++ behind → ⊥
not_begun spelled front behind e is = unequal_so (take (length front) spelled) front e (ap (take (length front)) is ∙ take-append_seam front behind)

-- what is left where these begin the octets, with those at its end
abbrev pub IsLeft : List ℕ → List ℕ → List ℕ → Option (Bor (List ℕ)) → Type 0
IsLeft rest back front found = MatchOption found (bytes_eq (drop (length rest - length back) rest) back ≡ false)
    (λ x. (bytes_eq (drop (length rest - length back) rest) back ≡ true) × (x.now ≡ take (length rest - length back) rest) × (length x.now + length back ≡ length rest))

pub left_between : (spelled front back rest : List ℕ) (found : Option (Bor (List ℕ))) → bytes_eq (take (length front) spelled) front ≡ true → rest ≡ drop (length front) spelled → IsLeft rest back front found → IfSome found (λ x. spelled ≡ front ++ (x.now ++ back))
left_between spelled front back rest None begun is told = tt
left_between spelled front back rest (Some x) begun is told =
    sym (take-append-drop (length front) spelled)
    ∙ ap (λ (xs : List ℕ). xs ++ drop (length front) spelled) (equal_so (take (length front) spelled) front begun)
    ∙ ap (λ (xs : List ℕ). front ++ xs) (sym is ∙ sym (take-append-drop (length rest - length back) rest) ∙ ap (λ (xs : List ℕ). xs ++ drop (length rest - length back) rest) (sym told.1) ∙ ap (λ (xs : List ℕ). x.now ++ xs) (equal_so (drop (length rest - length back) rest) back told.0))

ending : (rest middle back : List ℕ) → rest ≡ middle ++ back → drop (length rest - length back) rest ≡ back
ending rest middle back is =
    let long : length rest - length back ≡ length middle = omega (arith, ap length is, length-append middle back) in
    ap (λ (n : ℕ). drop n rest) long ∙ ap (drop (length middle)) is ∙ drop-append_seam middle back

pub none_between : (spelled front back rest : List ℕ) (found : Option (Bor (List ℕ))) → rest ≡ drop (length front) spelled → IsLeft rest back front found → IsNone found → (middle : List ℕ) → spelled ≡ front ++ (middle ++ back) → ⊥
none_between spelled front back rest None is told none middle e =
    unequal_so (drop (length rest - length back) rest) back told (ending rest middle back (is ∙ ap (drop (length front)) e ∙ drop-append_seam front (middle ++ back)))
none_between spelled front back rest (Some x) is told none middle e = absurd (cc none)
