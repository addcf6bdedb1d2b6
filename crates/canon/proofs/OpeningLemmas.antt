-- Lemmas on constructed encodings whose length is put in its place at the end.
use Rattle.std.proofs.Common.{◌≡◌, ◌∙◌, ◌+◌, ◌-◌, ◌<◌, ℕ, suc, OnOk, inl, inr, Bool, true, List, [], ◌∷◌, ◌++◌, length, take, drop, get_or, slice_set, refl, sym, ap, ap₂, subst, arith, append_assoc, take-suc, length-append, length-drop, length-set, length-take}
use Rattle.std.proofs.lemmas.List.{set_split, take_all, take-append-le, drop-append-le, get_or-append-add}
use Rattle.std.specs.List.{swap_remove}
use Rattle.std.specs.declared.result.Result.{Result}
use Rattle.octets.specs.declared.tag.Tag.{Tag}
use Rattle.octets.specs.Front.{Appends}
use Rattle.octets.specs.Identifier.{IsIdentifier}
use Rattle.octets.specs.Length.{IsShortestLength}
use Rattle.octets.specs.Rule.{Rule, cer, der}
use Rattle.octets.proofs.LengthLemmas.{IsShortestLength-short}
use Rattle.octets.proofs.ResultLemmas.{OnOk-map}
use Rattle.types.specs.Form.{IsConstructed, IsDefinite}
use Rattle.canon.specs.Node.{IsAround}
use Rattle.canon.specs.Opening.{IsOpening, IsLengthPut}
use Rattle.canon.specs.Part.{Keeps}
use Rattle.canon.proofs.PartLemmas.{take_front, drop_front}

pub opened_kept : (tag : Tag) (constructed : Bool) (old new : List ℕ) (place : ℕ) → IsOpening tag constructed old new place → Keeps old new
opened_kept tag constructed old new place h = (h.identifier ++ 128 ∷ [], h.is ∙ append_assoc old h.identifier (128 ∷ []), tt)

-- the octet 80 was appended to identifier octets
pub opened : (tag : Tag) (constructed : Bool) (old one new : List ℕ) (place : ℕ) → Appends (IsIdentifier tag constructed) old one → new ≡ one ++ 128 ∷ [] → place + 1 ≡ length new → IsOpening tag constructed old new place
opened tag constructed old one new place h push count = record {
  identifier = h.0;
  tagged = h.2;
  is = push ∙ ap (λ s. s ++ 128 ∷ []) h.1;
  at = omega (arith, count, ap length push, length-append one (128 ∷ []), ap length h.1);
}

-- the octets behind the octet 80, and those before it
whole_of : (before identifier inside end : List ℕ) → (((before ++ identifier) ++ 128 ∷ []) ++ inside) ++ end ≡ before ++ (identifier ++ (128 ∷ (inside ++ end)))
whole_of before identifier inside end =
    append_assoc ((before ++ identifier) ++ 128 ∷ []) inside end ∙ append_assoc (before ++ identifier) (128 ∷ []) (inside ++ end)
    ∙ append_assoc before identifier (128 ∷ (inside ++ end))

-- ends by end-of-contents octets, or by a length
pub closed_cer : (tag : Tag) (place : ℕ) (before one inside two new : List ℕ) → IsOpening tag true before one place → two ≡ one ++ inside → new ≡ two ++ 0 ∷ 0 ∷ [] → Appends (IsConstructed cer tag inside) before new
closed_cer tag place before one inside two new h is end = (
  h.identifier ++ (128 ∷ (inside ++ 0 ∷ 0 ∷ [])),
  end ∙ ap (λ s. s ++ 0 ∷ 0 ∷ []) (is ∙ ap (λ s. s ++ inside) h.is) ∙ whole_of before h.identifier inside (0 ∷ 0 ∷ []),
  record { identifier = h.identifier; tagged = h.tagged; joined = refl },
)

pub closed_definite : (tag : Tag) (constructed : Bool) (place : ℕ) (before one inside two new : List ℕ) → IsOpening tag constructed before one place → two ≡ one ++ inside → IsLengthPut place two new → Appends (IsDefinite der tag constructed inside) before new
closed_definite tag constructed place before one inside two new h is put =
    let head = before ++ h.identifier in
    let split : two ≡ head ++ (128 ∷ inside) = is ∙ ap (λ s. s ++ inside) h.is ∙ append_assoc head (128 ∷ []) inside in
    let front : take place two ≡ head = ap (take place) split ∙ take_front head (128 ∷ inside) place h.at in
    let behind : suc place ≡ length one = omega (arith, h.at, ap length h.is, length-append head (128 ∷ [])) in
    let rest : drop (suc place) two ≡ inside = ap (drop (suc place)) is ∙ drop_front one inside (suc place) behind in
    let count : length two - suc place ≡ length inside = omega (arith, behind, ap length is, length-append one inside) in (
      h.identifier ++ (put.size ++ inside),
      put.is ∙ ap₂ (λ x y. x ++ (put.size ++ y)) front rest ∙ append_assoc before h.identifier (put.size ++ inside),
      record { identifier = h.identifier; size = put.size; tagged = h.tagged; sized = subst (λ n. IsShortestLength n put.size) count put.sized; joined = refl },
    )

-- one length octet in the place of the octet there, and several
pub short_length_put : (place n : ℕ) (old new : List ℕ) → place + 1 + n ≡ length old → n < 128 → new ≡ slice_set old place n → IsLengthPut place old new
short_length_put place n old new count few is = record {
  size = n ∷ [];
  sized = subst (λ k. IsShortestLength k (n ∷ [])) (omega (arith, count)) (IsShortestLength-short n few);
  is = is ∙ set_split old place n (omega (arith, count));
}

-- length octets are there
lengths_there : (n : ℕ) (size : List ℕ) → IsShortestLength n size → 0 < length size
lengths_there n size h = elim h.form [ inl short ↦ omega (arith, ap length short.spelt) | inr long ↦ omega (arith, ap length long.spelt) ]

-- a list is what stands before its last element, and that
last_of : (xs : List ℕ) (d : ℕ) → 0 < length xs → xs ≡ take (length xs - 1) xs ++ get_or xs (length xs - 1) d ∷ []
last_of xs d there =
    let next : length xs ≡ suc (length xs - 1) = omega arith in
    sym (take_all (suc (length xs - 1)) xs (omega arith)) ∙ take-suc xs (length xs - 1) d (omega arith)

-- the last of the length octets took the place of the octet there
last_put : (place : ℕ) (old size one two : List ℕ) (d : ℕ) → place < length old → 0 < length size → one ≡ old ++ size → two ≡ swap_remove one place d
    → two ≡ take place old ++ ((get_or size (length size - 1) d ∷ drop (suc place) old) ++ take (length size - 1) size)
last_put place old size one two d within there put is =
    let last = get_or size (length size - 1) d in
    let others = take (length size - 1) size in
    let behind = drop (suc place) old in
    let before = take place old ++ ((last ∷ behind) ++ others) in
    let count : length one ≡ length old + length size = omega (arith, ap length put, length-append old size) in
    let at : length one - 1 ≡ length old + (length size - 1) = omega (arith, count) in
    let same : get_or one (length one - 1) d ≡ last = ap₂ (λ l k. get_or l k d) put at ∙ get_or-append-add old size (length size - 1) d in
    let front : take place one ≡ take place old = ap (take place) put ∙ take-append-le place old size (omega arith) in
    let rest : drop (suc place) one ≡ behind ++ size = ap (drop (suc place)) put ∙ drop-append-le (suc place) old size (omega arith) in
    let ended : behind ++ size ≡ (behind ++ others) ++ last ∷ [] = ap (λ s. behind ++ s) (last_of size d there) ∙ sym (append_assoc behind others (last ∷ [])) in
    let whole : slice_set one place (get_or one (length one - 1) d) ≡ before ++ last ∷ [] =
    set_split one place (get_or one (length one - 1) d) (omega (arith, count)) ∙ ap₂ (λ a b. take place one ++ a ∷ b) same (rest ∙ ended)
    ∙ ap (λ f. f ++ (last ∷ ((behind ++ others) ++ last ∷ []))) front ∙ sym (append_assoc (take place old) (last ∷ (behind ++ others)) (last ∷ [])) in
    let long : length one - 1 ≡ length before =
    omega (arith, count, ap length whole, length-append before (last ∷ []), length-set one place (get_or one (length one - 1) d)) in
    is ∙ ap (take (length one - 1)) whole ∙ take_front before (last ∷ []) (length one - 1) long

pub long_length_put : (place n : ℕ) (old one two new : List ℕ) (d : ℕ) → place + 1 + n ≡ length old → Appends (IsShortestLength n) old one → two ≡ swap_remove one place d
    → ((front inside moved : List ℕ) → length front ≡ place → length inside ≡ n + 1 → two ≡ front ++ (inside ++ moved) → new ≡ front ++ (moved ++ inside)) → IsLengthPut place old new
long_length_put place n old one two new d count put gone moved =
    let there = lengths_there n put.0 put.2 in
    let last = get_or put.0 (length put.0 - 1) d in
    let others = take (length put.0 - 1) put.0 in
    let behind = drop (suc place) old in
    let left : length (last ∷ behind) ≡ n + 1 = omega (arith, length-drop (suc place) old, count) in
    record {
      size = put.0;
      sized = subst (λ k. IsShortestLength k put.0) (omega (arith, count)) put.2;
      is = moved (take place old) (last ∷ behind) others (omega (arith, count, length-take place old)) left (last_put place old put.0 one two d (omega (arith, count)) there put.1 gone)
          ∙ ap (λ s. take place old ++ s) (sym (append_assoc others (last ∷ []) behind) ∙ ap (λ s. s ++ behind) (sym (last_of put.0 d there)));
    }

-- contents octets between an opening and what ends it
pub around_closed : {E : Type 0} (r : Result (Unit {0}) E) (rule : Rule) (tag : Tag) (P Q : List ℕ → Type 0) (place : ℕ) (old one two new : List ℕ) → IsOpening tag true old one place → Appends P one two → ((b : List ℕ) → IsAround P rule tag b → Q b)
    → OnOk r ((of : Tag) (before opening inside : List ℕ) → IsOpening of true before opening place → two ≡ opening ++ inside → Appends (IsConstructed rule of inside) before new) → OnOk r (Appends Q old new)
around_closed r rule tag P Q place old one two new h a f closed =
    OnOk-map r _ _ (λ close. let w = close tag old one a.0 h a.1 in (w.0, w.1, f w.0 record { contents = a.0; inside = a.2; whole = w.2 })) closed
