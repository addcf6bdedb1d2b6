-- Values and their octets, one after another, joined and cut.
use Rattle.std.proofs.Common.{◌≡◌, ℕ, ◌+◌, ◌≤◌, ◌<◌, ◌-◌, List, [], ◌∷◌, ◌++◌, length, map, take, zero, suc, refl, sym, ap, ◌∙◌, arith}
use Rattle.std.specs.Prelude.{sum}
use Rattle.std.specs.List.{AllZip, concat}
use Rattle.std.proofs.Math.Seq.{take-append-add}
use Rattle.std.proofs.lemmas.List.{take-append-le}
use Rattle.std.proofs.lemmas.List.Folds.{concat-append}
use Rattle.std.proofs.lemmas.List.Sums.{sum_by-append}
use Rattle.octets.specs.Rule.{Rule}
use Rattle.types.specs.Encoding.{Meaning, IsAccepted}
use Rattle.types.specs.Shape.{Shape, Val}
use Rattle.types.specs.Stream.{IsStream}
use Rattle.engine.specs.Stream.{AreWritten}

pub zip_append : (P : Meaning) (vs ws : List Val) (bs cs : List (List ℕ)) → AllZip P vs bs → AllZip P ws cs → AllZip P (vs ++ ws) (bs ++ cs)
zip_append P [] ws [] cs p q = q
zip_append P [] ws (b ∷ bs) cs p q = absurd p
zip_append P (v ∷ vs) ws [] cs p q = absurd p
zip_append P (v ∷ vs) ws (b ∷ bs) cs p q = (p.0, zip_append P vs ws bs cs p.1 q)

pub zip_take : (P : Meaning) (k : ℕ) (vs : List Val) (bs : List (List ℕ)) → AllZip P vs bs → AllZip P (take k vs) (take k bs)
zip_take P zero vs bs p = tt
zip_take P (suc k) [] [] p = tt
zip_take P (suc k) [] (b ∷ bs) p = absurd p
zip_take P (suc k) (v ∷ vs) [] p = absurd p
zip_take P (suc k) (v ∷ vs) (b ∷ bs) p = (p.0, zip_take P k vs bs p.1)

pub zip_length : (P : Meaning) (vs : List Val) (bs : List (List ℕ)) → AllZip P vs bs → length bs ≡ length vs
zip_length P [] [] p = refl
zip_length P [] (b ∷ bs) p = absurd p
zip_length P (v ∷ vs) [] p = absurd p
zip_length P (v ∷ vs) (b ∷ bs) p = ap suc (zip_length P vs bs p.1)

pub length_of_map : (bs : List (List ℕ)) → length (map length bs) ≡ length bs
length_of_map [] = refl
length_of_map (b ∷ bs) = ap suc (length_of_map bs)

pub length_of_take : (k : ℕ) (vs : List Val) → k ≤ length vs → length (take k vs) ≡ k
length_of_take zero vs within = refl
length_of_take (suc k) [] within = absurd (omega arith)
length_of_take (suc k) (v ∷ vs) within = ap suc (length_of_take k vs (omega arith))

-- two streams, one behind the other
pub stream_append : (rule : Rule) (shape : Shape) (vs ws : List Val) (s t : List ℕ) → IsStream rule shape vs s → IsStream rule shape ws t → IsStream rule shape (vs ++ ws) (s ++ t)
stream_append rule shape vs ws s t p q = record {
  encodings = p.encodings ++ q.encodings;
  each = zip_append (IsAccepted rule shape) vs ws p.encodings q.encodings p.each q.each;
  whole = ap (λ x. x ++ t) p.whole ∙ ap (λ x. concat p.encodings ++ x) q.whole ∙ sym (concat-append p.encodings q.encodings);
}

pub written_append : (Stands : Meaning) (vs ws : List Val) (s t : List ℕ) → AreWritten Stands vs s → AreWritten Stands ws t → AreWritten Stands (vs ++ ws) (s ++ t)
written_append Stands vs ws s t p q = record {
  parts = p.parts ++ q.parts;
  each = zip_append Stands vs ws p.parts q.parts p.each q.each;
  whole = ap (λ x. x ++ t) p.whole ∙ ap (λ x. concat p.parts ++ x) q.whole ∙ sym (concat-append p.parts q.parts);
}

-- what stands for values under a rule is a stream of that rule
pub written_is_stream : (rule : Rule) (shape : Shape) (vs : List Val) (s : List ℕ) → AreWritten (IsAccepted rule shape) vs s → IsStream rule shape vs s
written_is_stream rule shape vs s p = record { encodings = p.parts; each = p.each; whole = p.whole }

pub sum_cons : (x : ℕ) (xs : List ℕ) → sum (x ∷ xs) ≡ x + sum xs
sum_cons x xs = omega (arith, sum_by-append (λ y. y) (x ∷ []) xs)

pub take_within : (b t : List ℕ) (at : ℕ) → at < length b → take at (b ++ t) ≡ take at b
take_within b t at within = take-append-le at b t (omega arith)

pub take_past : (b t : List ℕ) (at : ℕ) → length b ≤ at → take at (b ++ t) ≡ b ++ take (at - length b) t
take_past b t at past =
    let whole : at ≡ length b + (at - length b) = omega arith in
    ap (λ n. take n (b ++ t)) whole ∙ take-append-add b t (at - length b)
