-- Values of a type that are the same, and some that are not.
use Rattle.std.proofs.Common.{◌≡◌, ℕ, List, [], ◌∷◌, inl, inr, refl, sym, ◌∙◌, ap, ap₂, subst, arith, true, false, pos, Contains, IsPermutation}
use Rattle.std.specs.List.{AllZip, sum_by}
use Rattle.std.proofs.lemmas.List.Sorted.{IsPermutation-refl, IsPermutation-sym, IsPermutation-append_comm, IsPermutation-append_left, Contains-permutation, sum_by-IsPermutation}
use Rattle.types.specs.Shape.{StringType, Shape, SimpleValue, StringValue, Val, no_slot, absent, present, Items, no_item, item, listed, no_component, component, no_alternative, alternative, required, optional}
use Rattle.types.specs.Same.{IsSame}
use Rattle.types.specs.Weight.{weight_of}
use Rattle.types.proofs.ListLemmas.{contains_first, contains_later, contains_cases, not_in_nil}
use Rattle.types.proofs.FormInstances.{not_same, universal, context}
use Rattle.types.proofs.LeafInstances.{integer, null, number, nothing}
use Rattle.types.proofs.TypeInstances.{a, b, sequence_of_integer, set_of_integer}

-- items that are small numbers
abbrev pub two_items : ℕ → ℕ → Items
two_items m n = item (number (pos m)) (item (number (pos n)) no_item)

abbrev pub three_items : ℕ → ℕ → ℕ → Items
three_items m n o = item (number (pos m)) (two_items n o)

-- the first two of three in the other order
pub turned : {X : Type 0} (x y : X) (others : List X) → IsPermutation (x ∷ y ∷ others) (y ∷ x ∷ others)
turned {X} x y others = IsPermutation-append_left others (x ∷ y ∷ []) (y ∷ x ∷ []) (IsPermutation-append_comm (x ∷ []) (y ∷ []))

-- 5, 3, 5 and 3, 5, 5 are the same SET OF INTEGER, and not the same SEQUENCE OF INTEGER
same_in_order : IsSame set_of_integer (Val.items (three_items 5 3 5)) (Val.items (three_items 3 5 5))
same_in_order = record { order = listed (three_items 3 5 5); permutes = turned (number (pos 5)) (number (pos 3)) (number (pos 5) ∷ []); each = (refl, (refl, (refl, tt))) }

not_in_order : IsSame sequence_of_integer (Val.items (three_items 5 3 5)) (Val.items (three_items 3 5 5)) → ⊥
not_in_order h = let same = h.0 in cc

-- the same values of a SET OF INTEGER have one sum
abbrev digit_of : Val → ℕ
digit_of (Val.simple (SimpleValue.integer (pos n))) = n
digit_of _ = 0

zip_equal : {X : Type 0} (xs ys : List X) → AllZip (λ x y. x ≡ y) xs ys → xs ≡ ys
zip_equal [] [] h = refl
zip_equal [] (y ∷ ys) h = elim h [ ]
zip_equal (x ∷ xs) [] h = elim h [ ]
zip_equal (x ∷ xs) (y ∷ ys) h = ap₂ (λ z zs. z ∷ zs) h.0 (zip_equal xs ys h.1)

pub same_sum : (vs ws : Items) → IsSame set_of_integer (Val.items vs) (Val.items ws) → sum_by digit_of (listed ws) ≡ sum_by digit_of (listed vs)
same_sum vs ws h = ap (sum_by digit_of) (sym (zip_equal h.order (listed ws) h.each)) ∙ sum_by-IsPermutation digit_of (listed vs) h.order h.permutes

-- so 5, 3, 5 is not 3, 3, 5: it counts how often an item stands. Nor is 3, 5 the same as 3, 5, 5
pub not_3_3_5 : IsSame set_of_integer (Val.items (three_items 5 3 5)) (Val.items (three_items 3 3 5)) → ⊥
not_3_3_5 h = not_same 11 13 (omega arith) (same_sum (three_items 5 3 5) (three_items 3 3 5) h)

pub not_3_5 : IsSame set_of_integer (Val.items (three_items 5 3 5)) (Val.items (two_items 3 5)) → ⊥
not_3_5 h = not_same 8 13 (omega arith) (same_sum (three_items 5 3 5) (two_items 3 5) h)

-- {1, 2}, {3} and {3}, {2, 1} are the same SET OF SET OF INTEGER: items are the same up to their own order
abbrev one_item : ℕ → Items
one_item n = item (number (pos n)) no_item

abbrev sets : Items → Items → Val
sets vs ws = Val.items (item (Val.items vs) (item (Val.items ws) no_item))

sets_within : IsSame (Shape.set_of (universal 17) set_of_integer) (sets (two_items 1 2) (one_item 3)) (sets (one_item 3) (two_items 2 1))
sets_within = record {
  order = Val.items (one_item 3) ∷ Val.items (two_items 1 2) ∷ [];
  permutes = turned (Val.items (two_items 1 2)) (Val.items (one_item 3)) [];
  each = (
    record { order = listed (one_item 3); permutes = IsPermutation-refl (listed (one_item 3)); each = (refl, tt) },
    (record { order = listed (two_items 2 1); permutes = turned (number (pos 1)) (number (pos 2)) []; each = (refl, (refl, tt)) }, tt),
  );
}

-- but not the same SET OF SEQUENCE OF INTEGER
listed-injective : (vs ws : Items) → listed vs ≡ listed ws → vs ≡ ws
listed-injective no_item no_item h = refl
listed-injective no_item (item w ws) h = cc
listed-injective (item v vs) no_item h = cc
listed-injective (item v vs) (item w ws) h =
    let rest : listed vs ≡ listed ws = cc h in
    let first : v ≡ w = cc h in
    ap₂ item first (listed-injective vs ws rest)

sequence_equal : (v w : Val) → IsSame sequence_of_integer v w → v ≡ w
sequence_equal (Val.items vs) (Val.items ws) h = ap Val.items (listed-injective vs ws (zip_equal (listed vs) (listed ws) h))
sequence_equal (Val.items vs) (Val.simple w) h = elim h [ ]
sequence_equal (Val.items vs) (Val.string w) h = elim h [ ]
sequence_equal (Val.items vs) (Val.fields w) h = elim h [ ]
sequence_equal (Val.items vs) (Val.chosen i w) h = elim h [ ]
sequence_equal (Val.simple v) w h = elim h [ ]
sequence_equal (Val.string v) w h = elim h [ ]
sequence_equal (Val.fields v) w h = elim h [ ]
sequence_equal (Val.chosen i v) w h = elim h [ ]

zip_sequences : (vs ws : List Val) → AllZip (IsSame sequence_of_integer) vs ws → vs ≡ ws
zip_sequences [] [] h = refl
zip_sequences [] (w ∷ ws) h = elim h [ ]
zip_sequences (v ∷ vs) [] h = elim h [ ]
zip_sequences (v ∷ vs) (w ∷ ws) h = ap₂ (λ z zs. z ∷ zs) (sequence_equal v w h.0) (zip_sequences vs ws h.1)

first_of : Val → ℕ
first_of (Val.items (item v vs)) = digit_of v
first_of _ = 0

no_2_1 : Contains (Val.items (two_items 1 2) ∷ Val.items (one_item 3) ∷ []) (Val.items (two_items 2 1)) → ⊥
unfolding first_of
no_2_1 c =
    elim (contains_cases (Val.items (two_items 1 2)) (Val.items (two_items 2 1)) (Val.items (one_item 3) ∷ []) c) [
      | inl same ↦ not_same 1 2 (omega arith) (ap first_of same)
      | inr later ↦
          elim (contains_cases (Val.items (one_item 3)) (Val.items (two_items 2 1)) [] later) [
            | inl same ↦ not_same 2 3 (omega arith) (sym (ap first_of same))
            | inr none ↦ not_in_nil (Val.items (two_items 2 1)) none
          ]
    ]

sequences_within : IsSame (Shape.set_of (universal 17) sequence_of_integer) (sets (two_items 1 2) (one_item 3)) (sets (one_item 3) (two_items 2 1)) → ⊥
sequences_within h =
    let order : h.order ≡ Val.items (one_item 3) ∷ Val.items (two_items 2 1) ∷ [] = zip_sequences h.order (Val.items (one_item 3) ∷ Val.items (two_items 2 1) ∷ []) h.each in
    let permutes = IsPermutation-sym (Val.items (two_items 1 2) ∷ Val.items (one_item 3) ∷ []) (Val.items (one_item 3) ∷ Val.items (two_items 2 1) ∷ [])
    (subst (IsPermutation (Val.items (two_items 1 2) ∷ Val.items (one_item 3) ∷ [])) order h.permutes) in
    no_2_1 (Contains-permutation (Val.items (one_item 3) ∷ Val.items (two_items 2 1) ∷ []) (Val.items (two_items 1 2) ∷ Val.items (one_item 3) ∷ []) (Val.items (two_items 2 1)) permutes
    (contains_later (Val.items (one_item 3)) (Val.items (two_items 2 1)) (Val.items (two_items 2 1) ∷ []) (contains_first (Val.items (two_items 2 1)) (Val.items (two_items 2 1)) [] refl)))

-- SEQUENCE { a SET OF INTEGER, b NULL OPTIONAL }: a is the same up to its order, and absent is not NULL
abbrev with_set : Shape
with_set = Shape.sequence (universal 16) (component a set_of_integer required (component b (null (universal 5)) optional no_component))

set_within : IsSame with_set (Val.fields (present (Val.items (two_items 1 2)) (absent no_slot))) (Val.fields (present (Val.items (two_items 2 1)) (absent no_slot)))
set_within = (record { order = listed (two_items 2 1); permutes = turned (number (pos 1)) (number (pos 2)) []; each = (refl, (refl, tt)) }, tt)

absent_and_present : IsSame with_set (Val.fields (present (Val.items (two_items 1 2)) (absent no_slot))) (Val.fields (present (Val.items (two_items 2 1)) (present nothing no_slot))) → ⊥
absent_and_present h = h.1

-- CHOICE { a [0] INTEGER, b [1] INTEGER }: a : 5 is not b : 5
alternatives_apart : IsSame (Shape.choice (alternative a (Shape.explicit (context 0) integer) (alternative b (Shape.explicit (context 1) integer) no_alternative))) (Val.chosen 0 (number (pos 5))) (Val.chosen 1 (number (pos 5))) → ⊥
alternatives_apart h = not_same 0 1 (omega arith) h.0

-- '1'B is not '10'B, and '00'H in a SET OF OCTET STRING not '0000'H
bits_apart : IsSame (Shape.string (universal 3) StringType.bit_string) (Val.string (StringValue.bits (true ∷ []))) (Val.string (StringValue.bits (true ∷ false ∷ []))) → ⊥
bits_apart h = cc

octets_apart : IsSame (Shape.set_of (universal 17) (Shape.string (universal 4) StringType.octet_string)) (Val.items (item (Val.string (StringValue.octets (0x00 ∷ []))) no_item)) (Val.items (item (Val.string (StringValue.octets (0x00 ∷ 0x00 ∷ []))) no_item)) → ⊥
octets_apart h =
    let order : h.order ≡ Val.string (StringValue.octets (0x00 ∷ 0x00 ∷ [])) ∷ [] = zip_equal h.order (Val.string (StringValue.octets (0x00 ∷ 0x00 ∷ [])) ∷ []) h.each in
    let weights = sum_by-IsPermutation weight_of (Val.string (StringValue.octets (0x00 ∷ [])) ∷ []) h.order h.permutes in
    not_same 2 3 (omega arith) (sym weights ∙ ap (sum_by weight_of) order)
