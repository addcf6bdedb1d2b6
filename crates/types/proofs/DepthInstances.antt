-- How deep some octets nest: neither less nor more.
use Rattle.std.proofs.Common.{◌≡◌, ℕ, zero, suc, ◌+◌, ◌*◌, ◌<◌, ◌≤◌, List, [], ◌∷◌, ◌++◌, inl, inr, length, refl, sym, ap, subst, arith, true, false, length-append}
use Rattle.std.specs.List.{AllByRecursion, concat}
use Rattle.std.proofs.lemmas.List.{append-nil}
use Rattle.octets.specs.declared.tag.Class.TheVariants.{Universal}
use Rattle.octets.specs.declared.tag.Tag.{Tag}
use Rattle.octets.specs.Identifier.{class_bits, form_bit}
use Rattle.octets.specs.Rule.{ber}
use Rattle.types.specs.Form.{IsConstructed}
use Rattle.types.specs.Depth.{IsNested}
use Rattle.types.proofs.NestingLemmas.{definite_not_indefinite, indefinite_opening, primitive_not_constructed, nested_above, parts_unique, nested_unique}
use Rattle.types.proofs.DepthLemmas.{nested_around, nested_one}
use Rattle.types.proofs.FormLemmas.{definite_unique}
use Rattle.types.proofs.FormInstances.{universal, usable_universal, definite, indefinite}

-- a primitive encoding nests nothing, and a constructed one nests one more than what it is around
primitive_nested : (n number : ℕ) (contents : List ℕ) → 1 ≤ number → number ≤ 30 → length contents < 128 → IsNested n ((class_bits Universal + form_bit false + number) ∷ length contents ∷ contents)
primitive_nested n number contents some low few =
    nested_one ber n (universal number) contents ((class_bits Universal + form_bit false + number) ∷ length contents ∷ contents) (usable_universal number some) (definite ber Universal number false contents low few)

universal_around : (n number : ℕ) (parts : List (List ℕ)) (octets : List ℕ) → 1 ≤ number → AllByRecursion (IsNested n) parts → IsConstructed ber (universal number) (concat parts) octets → IsNested (suc n) octets
universal_around n number parts octets some each h = nested_around ber n (universal number) parts octets (usable_universal number some) each h

-- what stands in a constructed encoding nests one less than it does
same_parts : (n m : ℕ) (tag other : Tag) (ps qs : List (List ℕ)) (octets : List ℕ) → AllByRecursion (IsNested n) ps → AllByRecursion (IsNested m) qs → IsConstructed ber tag (concat ps) octets → IsConstructed ber other (concat qs) octets → ps ≡ qs
same_parts n m tag other ps qs octets each all (inl h) (inl f) =
    let same = definite_unique ber ber tag other true true (concat ps) (concat qs) octets octets [] [] h f refl in
    parts_unique (IsNested n) (IsNested m) (nested_unique n m) (nested_above n) (nested_above m) ps qs [] [] each all tt tt (ap (λ x. x ++ []) same.contents)
same_parts n m tag other ps qs octets each all (inl h) (inr f) = absurd (definite_not_indefinite tag other true (concat ps) (concat qs) octets octets [] [] h f refl)
same_parts n m tag other ps qs octets each all (inr h) (inl f) = absurd (definite_not_indefinite other tag true (concat qs) (concat ps) octets octets [] [] f h refl)
same_parts n m tag other ps qs octets each all (inr h) (inr f) =
    let opening = indefinite_opening tag other (concat ps) (concat qs) octets octets [] [] h f refl in
    parts_unique (IsNested n) (IsNested m) (nested_unique n m) (nested_above n) (nested_above m) ps qs (0x00 ∷ 0x00 ∷ []) (0x00 ∷ 0x00 ∷ []) each all refl refl opening.contents

nested_within : (n m : ℕ) (tag : Tag) (parts : List (List ℕ)) (octets : List ℕ) → AllByRecursion (IsNested m) parts → IsConstructed ber tag (concat parts) octets → IsNested (suc n) octets → AllByRecursion (IsNested n) parts
unfolding IsNested
nested_within n m tag parts octets each h (inl k) = absurd (primitive_not_constructed k.tag tag k.contents (concat parts) octets octets [] [] k.whole h refl)
nested_within n m tag parts octets each h (inr k) = subst (AllByRecursion (IsNested n)) (same_parts n m k.tag tag k.parts parts octets k.each each k.whole h) k.each

nested_0 : (tag : Tag) (contents octets : List ℕ) → IsConstructed ber tag contents octets → IsNested 0 octets → ⊥
unfolding IsNested
nested_0 tag contents octets h k = primitive_not_constructed k.tag tag k.contents contents octets octets [] [] k.whole h refl

-- constructed encodings of few octets
definite_around : (number : ℕ) (contents : List ℕ) → number ≤ 30 → length contents < 128 → IsConstructed ber (universal number) contents ((class_bits Universal + form_bit true + number) ∷ length contents ∷ contents)
definite_around number contents low few = inl (definite ber Universal number true contents low few)

segments_around : (contents : List ℕ) → IsConstructed ber (universal 4) contents (0x24 ∷ 0x80 ∷ (contents ++ (0x00 ∷ 0x00 ∷ [])))
segments_around contents = inr (indefinite Universal 4 contents (omega arith))

-- 24 80 00 00 nest one level, and not none
segments_none : IsNested 1 (0x24 ∷ 0x80 ∷ 0x00 ∷ 0x00 ∷ [])
segments_none = universal_around 0 4 [] (0x24 ∷ 0x80 ∷ 0x00 ∷ 0x00 ∷ []) (omega arith) tt (segments_around [])

segments_none-0 : IsNested 0 (0x24 ∷ 0x80 ∷ 0x00 ∷ 0x00 ∷ []) → ⊥
segments_none-0 h = nested_0 (universal 4) [] (0x24 ∷ 0x80 ∷ 0x00 ∷ 0x00 ∷ []) (segments_around []) h

-- nor do the contents of a primitive encoding count: 04 02 30 00 nest none
primitive_0 : IsNested 0 (0x04 ∷ 0x02 ∷ 0x30 ∷ 0x00 ∷ [])
primitive_0 = primitive_nested 0 4 (0x30 ∷ 0x00 ∷ []) (omega arith) (omega arith) (omega arith)

-- segments count: 24 80 04 02 01 02 24 80 04 01 03 00 00 00 00 nest two levels, and not one
abbrev segment_around_03 : List ℕ
segment_around_03 = 0x24 ∷ 0x80 ∷ 0x04 ∷ 0x01 ∷ 0x03 ∷ 0x00 ∷ 0x00 ∷ []

abbrev two_segments : List (List ℕ)
two_segments = (0x04 ∷ 0x02 ∷ 0x01 ∷ 0x02 ∷ []) ∷ segment_around_03 ∷ []

two_nested : AllByRecursion (IsNested 1) two_segments
two_nested = (
  primitive_nested 1 4 (0x01 ∷ 0x02 ∷ []) (omega arith) (omega arith) (omega arith),
  (universal_around 0 4 ((0x04 ∷ 0x01 ∷ 0x03 ∷ []) ∷ []) segment_around_03 (omega arith) (primitive_nested 0 4 (0x03 ∷ []) (omega arith) (omega arith) (omega arith), tt) (segments_around (0x04 ∷ 0x01 ∷ 0x03 ∷ [])), tt),
)

segments_2 : IsNested 2 (0x24 ∷ 0x80 ∷ 0x04 ∷ 0x02 ∷ 0x01 ∷ 0x02 ∷ 0x24 ∷ 0x80 ∷ 0x04 ∷ 0x01 ∷ 0x03 ∷ 0x00 ∷ 0x00 ∷ 0x00 ∷ 0x00 ∷ [])
segments_2 = universal_around 1 4 two_segments (0x24 ∷ 0x80 ∷ (concat two_segments ++ (0x00 ∷ 0x00 ∷ []))) (omega arith) two_nested (segments_around (concat two_segments))

segments_2-not_1 : IsNested 1 (0x24 ∷ 0x80 ∷ 0x04 ∷ 0x02 ∷ 0x01 ∷ 0x02 ∷ 0x24 ∷ 0x80 ∷ 0x04 ∷ 0x01 ∷ 0x03 ∷ 0x00 ∷ 0x00 ∷ 0x00 ∷ 0x00 ∷ []) → ⊥
segments_2-not_1 h =
    let each = nested_within 0 1 (universal 4) two_segments (0x24 ∷ 0x80 ∷ (concat two_segments ++ (0x00 ∷ 0x00 ∷ []))) two_nested (segments_around (concat two_segments)) h in
    nested_0 (universal 4) (0x04 ∷ 0x01 ∷ 0x03 ∷ []) segment_around_03 (segments_around (0x04 ∷ 0x01 ∷ 0x03 ∷ [])) each.1.0

-- the deepest part counts, be it the first or the last, and not the sum: 30 04 05 00 30 00, 30 04 30 00 05 00
-- and 30 06 30 00 30 02 05 00 nest two levels, and not one
null_nested : (n : ℕ) → IsNested n (0x05 ∷ 0x00 ∷ [])
null_nested n = primitive_nested n 5 [] (omega arith) (omega arith) (omega arith)

empty_nested : IsNested 1 (0x30 ∷ 0x00 ∷ [])
empty_nested = universal_around 0 16 [] (0x30 ∷ 0x00 ∷ []) (omega arith) tt (definite_around 16 [] (omega arith) (omega arith))

null_within : IsNested 1 (0x30 ∷ 0x02 ∷ 0x05 ∷ 0x00 ∷ [])
null_within = universal_around 0 16 ((0x05 ∷ 0x00 ∷ []) ∷ []) (0x30 ∷ 0x02 ∷ 0x05 ∷ 0x00 ∷ []) (omega arith) (null_nested 0, tt) (definite_around 16 (0x05 ∷ 0x00 ∷ []) (omega arith) (omega arith))

not_empty_0 : IsNested 0 (0x30 ∷ 0x00 ∷ []) → ⊥
not_empty_0 h = nested_0 (universal 16) [] (0x30 ∷ 0x00 ∷ []) (definite_around 16 [] (omega arith) (omega arith)) h

abbrev deep_last : List (List ℕ)
deep_last = (0x05 ∷ 0x00 ∷ []) ∷ (0x30 ∷ 0x00 ∷ []) ∷ []

last_2 : IsNested 2 (0x30 ∷ 0x04 ∷ 0x05 ∷ 0x00 ∷ 0x30 ∷ 0x00 ∷ [])
last_2 = universal_around 1 16 deep_last (0x30 ∷ 0x04 ∷ concat deep_last) (omega arith) (null_nested 1, (empty_nested, tt)) (definite_around 16 (concat deep_last) (omega arith) (omega arith))

last_2-not_1 : IsNested 1 (0x30 ∷ 0x04 ∷ 0x05 ∷ 0x00 ∷ 0x30 ∷ 0x00 ∷ []) → ⊥
last_2-not_1 h =
    let each = nested_within 0 1 (universal 16) deep_last (0x30 ∷ 0x04 ∷ concat deep_last) (null_nested 1, (empty_nested, tt)) (definite_around 16 (concat deep_last) (omega arith) (omega arith)) h in
    not_empty_0 each.1.0

abbrev deep_first : List (List ℕ)
deep_first = (0x30 ∷ 0x00 ∷ []) ∷ (0x05 ∷ 0x00 ∷ []) ∷ []

first_2 : IsNested 2 (0x30 ∷ 0x04 ∷ 0x30 ∷ 0x00 ∷ 0x05 ∷ 0x00 ∷ [])
first_2 = universal_around 1 16 deep_first (0x30 ∷ 0x04 ∷ concat deep_first) (omega arith) (empty_nested, (null_nested 1, tt)) (definite_around 16 (concat deep_first) (omega arith) (omega arith))

first_2-not_1 : IsNested 1 (0x30 ∷ 0x04 ∷ 0x30 ∷ 0x00 ∷ 0x05 ∷ 0x00 ∷ []) → ⊥
first_2-not_1 h =
    let each = nested_within 0 1 (universal 16) deep_first (0x30 ∷ 0x04 ∷ concat deep_first) (empty_nested, (null_nested 1, tt)) (definite_around 16 (concat deep_first) (omega arith) (omega arith)) h in
    not_empty_0 each.0

abbrev deep_both : List (List ℕ)
deep_both = (0x30 ∷ 0x00 ∷ []) ∷ (0x30 ∷ 0x02 ∷ 0x05 ∷ 0x00 ∷ []) ∷ []

both_2 : IsNested 2 (0x30 ∷ 0x06 ∷ 0x30 ∷ 0x00 ∷ 0x30 ∷ 0x02 ∷ 0x05 ∷ 0x00 ∷ [])
both_2 = universal_around 1 16 deep_both (0x30 ∷ 0x06 ∷ concat deep_both) (omega arith) (empty_nested, (null_within, tt)) (definite_around 16 (concat deep_both) (omega arith) (omega arith))

both_2-not_1 : IsNested 1 (0x30 ∷ 0x06 ∷ 0x30 ∷ 0x00 ∷ 0x30 ∷ 0x02 ∷ 0x05 ∷ 0x00 ∷ []) → ⊥
both_2-not_1 h =
    let each = nested_within 0 1 (universal 16) deep_both (0x30 ∷ 0x06 ∷ concat deep_both) (empty_nested, (null_within, tt)) (definite_around 16 (concat deep_both) (omega arith) (omega arith)) h in
    not_empty_0 each.0

-- 24 80 so many times around 04 01 AA
unfoldable pub wrapped : ℕ → List ℕ
wrapped zero = 0x04 ∷ 0x01 ∷ 0xAA ∷ []
wrapped (suc n) = 0x24 ∷ 0x80 ∷ (wrapped n ++ (0x00 ∷ 0x00 ∷ []))

pub length-wrapped : (n : ℕ) → length (wrapped n) ≡ 4 * n + 3
unfolding wrapped
length-wrapped zero = refl
length-wrapped (suc n) = omega (arith, length-append (wrapped n) (0x00 ∷ 0x00 ∷ []), length-wrapped n)

wrapped_around : (n : ℕ) → IsConstructed ber (universal 4) (concat (wrapped n ∷ [])) (0x24 ∷ 0x80 ∷ (wrapped n ++ (0x00 ∷ 0x00 ∷ [])))
wrapped_around n = subst (λ c. IsConstructed ber (universal 4) c (0x24 ∷ 0x80 ∷ (wrapped n ++ (0x00 ∷ 0x00 ∷ [])))) (sym (append-nil (wrapped n))) (segments_around (wrapped n))

-- nests so many levels
pub wrapped_nested : (n : ℕ) → IsNested n (wrapped n)
unfolding wrapped
wrapped_nested zero = primitive_nested 0 4 (0xAA ∷ []) (omega arith) (omega arith) (omega arith)
wrapped_nested (suc n) = universal_around n 4 (wrapped n ∷ []) (0x24 ∷ 0x80 ∷ (wrapped n ++ (0x00 ∷ 0x00 ∷ []))) (omega arith) (wrapped_nested n, tt) (wrapped_around n)

-- and not one fewer
pub wrapped_deep : (n : ℕ) → IsNested n (wrapped (suc n)) → ⊥
unfolding wrapped
wrapped_deep zero h = nested_0 (universal 4) (wrapped 0) (0x24 ∷ 0x80 ∷ (wrapped 0 ++ (0x00 ∷ 0x00 ∷ []))) (segments_around (wrapped 0)) h
wrapped_deep (suc n) h =
    let each = nested_within n (suc n) (universal 4) (wrapped (suc n) ∷ []) (0x24 ∷ 0x80 ∷ (wrapped (suc n) ++ (0x00 ∷ 0x00 ∷ []))) (wrapped_nested (suc n), tt) (wrapped_around (suc n)) h in
    wrapped_deep n each.0
