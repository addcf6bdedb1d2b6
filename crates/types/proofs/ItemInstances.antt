-- Encodings of a SEQUENCE OF and of a SET OF under each rule, and octets that are none (X.690 8.10, 8.12 and 11.6).
use Rattle.std.proofs.Common.{ℕ, List, [], ◌∷◌, ◌++◌, inl, inr, refl, arith, true, pos}
use Rattle.std.proofs.lemmas.List.Sorted.{IsPermutation-refl}
use Rattle.octets.specs.declared.tag.Class.TheVariants.{Universal}
use Rattle.octets.specs.Rule.{Rule, ber, cer, der}
use Rattle.octets.proofs.RuleLemmas.{der_is_canonical}
use Rattle.types.specs.Shape.{Val, Items, no_item, item}
use Rattle.types.specs.Order.{IsPaddedAtMost, Ascends}
use Rattle.types.specs.Encoding.{IsEncoding}
use Rattle.types.proofs.OrderLemmas.{padded_refl}
use Rattle.types.proofs.FormInstances.{not_same, definite, indefinite}
use Rattle.types.proofs.LeafInstances.{integer, truth, number, true_FF, true_any, small, small_81}
use Rattle.types.proofs.TypeInstances.{sequence_of_integer, set_of_integer, set_of_boolean, well_formed_sequence_of, well_formed_set_of, well_formed_set_of-boolean}
use Rattle.types.proofs.ApartInstances.{of_another, in_other_octets}
use Rattle.types.proofs.OrderInstances.{two_ascend, three_ascend, less, alike}
use Rattle.types.proofs.SameInstances.{two_items, three_items, turned, not_3_5, same_sum}

-- the encodings of 3 and 5
abbrev three : List ℕ
three = 0x02 ∷ 0x01 ∷ 0x03 ∷ []

abbrev pub five : List ℕ
five = 0x02 ∷ 0x01 ∷ 0x05 ∷ []

three_is : (rule : Rule) → IsEncoding rule integer (number (pos 3)) three
three_is rule = small rule 3 (omega arith) refl

five_is : (rule : Rule) → IsEncoding rule integer (number (pos 5)) five
five_is rule = small rule 5 (omega arith) refl

-- SEQUENCE OF INTEGER without items is 30 00 in DER and 30 80 00 00 in CER
none-der : IsEncoding der sequence_of_integer (Val.items no_item) (0x30 ∷ 0x00 ∷ [])
none-der = record { items = no_item; is = refl; encodings = []; each = tt; whole = definite der Universal 16 true [] (omega arith) (omega arith) }

none-cer : IsEncoding cer sequence_of_integer (Val.items no_item) (0x30 ∷ 0x80 ∷ 0x00 ∷ 0x00 ∷ [])
none-cer = record { items = no_item; is = refl; encodings = []; each = tt; whole = indefinite Universal 16 [] (omega arith) }

-- 3, 5 is 30 06 02 01 03 02 01 05 in DER and 30 80 02 01 03 02 01 05 00 00 in CER
three_five-der : IsEncoding der sequence_of_integer (Val.items (two_items 3 5)) (0x30 ∷ 0x06 ∷ (three ++ five))
three_five-der = record { items = two_items 3 5; is = refl; encodings = three ∷ five ∷ []; each = (three_is der, (five_is der, tt)); whole = definite der Universal 16 true (three ++ five) (omega arith) (omega arith) }

three_five-cer : IsEncoding cer sequence_of_integer (Val.items (two_items 3 5)) (0x30 ∷ 0x80 ∷ (three ++ (five ++ (0x00 ∷ 0x00 ∷ []))))
three_five-cer = record { items = two_items 3 5; is = refl; encodings = three ∷ five ∷ []; each = (three_is cer, (five_is cer, tt)); whole = indefinite Universal 16 (three ++ five) (omega arith) }

-- in BER also 30 07 02 01 03 02 81 01 05 and 30 80 02 01 03 02 81 01 05 00 00
three_five-long : IsEncoding ber sequence_of_integer (Val.items (two_items 3 5)) (0x30 ∷ 0x07 ∷ 0x02 ∷ 0x01 ∷ 0x03 ∷ 0x02 ∷ 0x81 ∷ 0x01 ∷ 0x05 ∷ [])
three_five-long = record {
  items = two_items 3 5;
  is = refl;
  encodings = three ∷ (0x02 ∷ 0x81 ∷ 0x01 ∷ 0x05 ∷ []) ∷ [];
  each = (three_is ber, (small_81 5 (omega arith) refl, tt));
  whole = inl (definite ber Universal 16 true (three ++ (0x02 ∷ 0x81 ∷ 0x01 ∷ 0x05 ∷ [])) (omega arith) (omega arith));
}

three_five-indefinite : IsEncoding ber sequence_of_integer (Val.items (two_items 3 5)) (0x30 ∷ 0x80 ∷ 0x02 ∷ 0x01 ∷ 0x03 ∷ 0x02 ∷ 0x81 ∷ 0x01 ∷ 0x05 ∷ 0x00 ∷ 0x00 ∷ [])
three_five-indefinite = record {
  items = two_items 3 5;
  is = refl;
  encodings = three ∷ (0x02 ∷ 0x81 ∷ 0x01 ∷ 0x05 ∷ []) ∷ [];
  each = (three_is ber, (small_81 5 (omega arith) refl, tt));
  whole = inr (indefinite Universal 16 (three ++ (0x02 ∷ 0x81 ∷ 0x01 ∷ 0x05 ∷ [])) (omega arith));
}

-- 30 06 02 01 05 02 01 03 is 5, 3, and 30 03 02 01 03 is 3 alone
five_three-ber : IsEncoding ber sequence_of_integer (Val.items (two_items 5 3)) (0x30 ∷ 0x06 ∷ (five ++ three))
five_three-ber = record { items = two_items 5 3; is = refl; encodings = five ∷ three ∷ []; each = (five_is ber, (three_is ber, tt)); whole = inl (definite ber Universal 16 true (five ++ three) (omega arith) (omega arith)) }

three-ber : IsEncoding ber sequence_of_integer (Val.items (item (number (pos 3)) no_item)) (0x30 ∷ 0x03 ∷ three)
three-ber = record { items = item (number (pos 3)) no_item; is = refl; encodings = three ∷ []; each = (three_is ber, tt); whole = inl (definite ber Universal 16 true three (omega arith) (omega arith)) }

three_five-turned : (rule : Rule) → IsEncoding rule sequence_of_integer (Val.items (two_items 3 5)) (0x30 ∷ 0x06 ∷ (five ++ three)) → ⊥
three_five-turned rule h = of_another rule sequence_of_integer (Val.items (two_items 3 5)) (Val.items (two_items 5 3)) (0x30 ∷ 0x06 ∷ (five ++ three)) well_formed_sequence_of five_three-ber (λ same. let first = same.0 in cc) h

three_five-cut : (rule : Rule) → IsEncoding rule sequence_of_integer (Val.items (two_items 3 5)) (0x30 ∷ 0x03 ∷ three) → ⊥
three_five-cut rule h = of_another rule sequence_of_integer (Val.items (two_items 3 5)) (Val.items (item (number (pos 3)) no_item)) (0x30 ∷ 0x03 ∷ three) well_formed_sequence_of three-ber (λ same. same.1) h

-- SET OF INTEGER 5, 3, 5: in CER and DER its encodings ascend, 02 01 03 02 01 05 02 01 05
three_at_most_five : IsPaddedAtMost three five
three_at_most_five = alike 0x02 (0x01 ∷ 0x03 ∷ []) (0x01 ∷ 0x05 ∷ []) (alike 0x01 (0x03 ∷ []) (0x05 ∷ []) (less 0x03 0x05 [] [] (omega arith)))

ascending : Ascends (three ∷ five ∷ five ∷ [])
ascending = three_ascend three five five three_at_most_five three_at_most_five (padded_refl five)

set_535-der : IsEncoding der set_of_integer (Val.items (three_items 5 3 5)) (0x31 ∷ 0x09 ∷ (three ++ (five ++ five)))
set_535-der = record {
  items = three_items 5 3 5;
  is = refl;
  encodings = five ∷ three ∷ five ∷ [];
  each = (five_is der, (three_is der, (five_is der, tt)));
  order = three ∷ five ∷ five ∷ [];
  permutes = turned five three (five ∷ []);
  ascends = λ canonical. ascending;
  whole = definite der Universal 17 true (three ++ (five ++ five)) (omega arith) (omega arith);
}

set_535-cer : IsEncoding cer set_of_integer (Val.items (three_items 5 3 5)) (0x31 ∷ 0x80 ∷ (three ++ (five ++ (five ++ (0x00 ∷ 0x00 ∷ [])))))
set_535-cer = record {
  items = three_items 5 3 5;
  is = refl;
  encodings = five ∷ three ∷ five ∷ [];
  each = (five_is cer, (three_is cer, (five_is cer, tt)));
  order = three ∷ five ∷ five ∷ [];
  permutes = turned five three (five ∷ []);
  ascends = λ canonical. ascending;
  whole = indefinite Universal 17 (three ++ (five ++ five)) (omega arith);
}

-- in BER they stand in any order
set_535-ber : IsEncoding ber set_of_integer (Val.items (three_items 5 3 5)) (0x31 ∷ 0x09 ∷ (five ++ (three ++ five)))
set_535-ber = record {
  items = three_items 5 3 5;
  is = refl;
  encodings = five ∷ three ∷ five ∷ [];
  each = (five_is ber, (three_is ber, (five_is ber, tt)));
  order = five ∷ three ∷ five ∷ [];
  permutes = IsPermutation-refl (five ∷ three ∷ five ∷ []);
  ascends = λ canonical. absurd (canonical refl);
  whole = inl (definite ber Universal 17 true (five ++ (three ++ five)) (omega arith) (omega arith));
}

-- and in no other order in DER
set_535-unsorted : IsEncoding der set_of_integer (Val.items (three_items 5 3 5)) (0x31 ∷ 0x09 ∷ (five ++ (three ++ five))) → ⊥
set_535-unsorted h = in_other_octets der set_of_integer (Val.items (three_items 5 3 5)) (0x31 ∷ 0x09 ∷ (three ++ (five ++ five))) (0x31 ∷ 0x09 ∷ (five ++ (three ++ five))) well_formed_set_of der_is_canonical set_535-der (λ same. cc) h

-- 31 06 02 01 03 02 01 05 has one 5 too few, and 31 09 02 01 03 02 01 05 02 01 03 a 3 in its place
two-ber : IsEncoding ber set_of_integer (Val.items (two_items 3 5)) (0x31 ∷ 0x06 ∷ (three ++ five))
two-ber = record {
  items = two_items 3 5;
  is = refl;
  encodings = three ∷ five ∷ [];
  each = (three_is ber, (five_is ber, tt));
  order = three ∷ five ∷ [];
  permutes = IsPermutation-refl (three ∷ five ∷ []);
  ascends = λ canonical. absurd (canonical refl);
  whole = inl (definite ber Universal 17 true (three ++ five) (omega arith) (omega arith));
}

set_353-ber : IsEncoding ber set_of_integer (Val.items (three_items 3 5 3)) (0x31 ∷ 0x09 ∷ (three ++ (five ++ three)))
set_353-ber = record {
  items = three_items 3 5 3;
  is = refl;
  encodings = three ∷ five ∷ three ∷ [];
  each = (three_is ber, (five_is ber, (three_is ber, tt)));
  order = three ∷ five ∷ three ∷ [];
  permutes = IsPermutation-refl (three ∷ five ∷ three ∷ []);
  ascends = λ canonical. absurd (canonical refl);
  whole = inl (definite ber Universal 17 true (three ++ (five ++ three)) (omega arith) (omega arith));
}

set_535-two : (rule : Rule) → IsEncoding rule set_of_integer (Val.items (three_items 5 3 5)) (0x31 ∷ 0x06 ∷ (three ++ five)) → ⊥
set_535-two rule h = of_another rule set_of_integer (Val.items (three_items 5 3 5)) (Val.items (two_items 3 5)) (0x31 ∷ 0x06 ∷ (three ++ five)) well_formed_set_of two-ber not_3_5 h

set_535-swapped : (rule : Rule) → IsEncoding rule set_of_integer (Val.items (three_items 5 3 5)) (0x31 ∷ 0x09 ∷ (three ++ (five ++ three))) → ⊥
set_535-swapped rule h =
    of_another rule set_of_integer (Val.items (three_items 5 3 5)) (Val.items (three_items 3 5 3)) (0x31 ∷ 0x09 ∷ (three ++ (five ++ three))) well_formed_set_of set_353-ber
    (λ same. not_same 11 13 (omega arith) (same_sum (three_items 5 3 5) (three_items 3 5 3) same)) h

-- SET OF BOOLEAN TRUE, TRUE is 31 06 01 01 FF 01 01 FF in DER; in BER each may have its own octets, 31 06 01 01 FF 01 01 01
abbrev two_truths : Items
two_truths = item (truth true) (item (truth true) no_item)

abbrev true_octets : ℕ → List ℕ
true_octets octet = 0x01 ∷ 0x01 ∷ octet ∷ []

two_true-der : IsEncoding der set_of_boolean (Val.items two_truths) (0x31 ∷ 0x06 ∷ (true_octets 0xFF ++ true_octets 0xFF))
two_true-der = record {
  items = two_truths;
  is = refl;
  encodings = true_octets 0xFF ∷ true_octets 0xFF ∷ [];
  each = (true_FF der, (true_FF der, tt));
  order = true_octets 0xFF ∷ true_octets 0xFF ∷ [];
  permutes = IsPermutation-refl (true_octets 0xFF ∷ true_octets 0xFF ∷ []);
  ascends = λ canonical. two_ascend (true_octets 0xFF) (true_octets 0xFF) (padded_refl (true_octets 0xFF));
  whole = definite der Universal 17 true (true_octets 0xFF ++ true_octets 0xFF) (omega arith) (omega arith);
}

two_true-ber : IsEncoding ber set_of_boolean (Val.items two_truths) (0x31 ∷ 0x06 ∷ (true_octets 0xFF ++ true_octets 0x01))
two_true-ber = record {
  items = two_truths;
  is = refl;
  encodings = true_octets 0xFF ∷ true_octets 0x01 ∷ [];
  each = (true_FF ber, (true_any 0x01 (omega arith) (omega arith), tt));
  order = true_octets 0xFF ∷ true_octets 0x01 ∷ [];
  permutes = IsPermutation-refl (true_octets 0xFF ∷ true_octets 0x01 ∷ []);
  ascends = λ canonical. absurd (canonical refl);
  whole = inl (definite ber Universal 17 true (true_octets 0xFF ++ true_octets 0x01) (omega arith) (omega arith));
}

two_true-mixed : IsEncoding der set_of_boolean (Val.items two_truths) (0x31 ∷ 0x06 ∷ (true_octets 0xFF ++ true_octets 0x01)) → ⊥
two_true-mixed h = in_other_octets der set_of_boolean (Val.items two_truths) (0x31 ∷ 0x06 ∷ (true_octets 0xFF ++ true_octets 0xFF)) (0x31 ∷ 0x06 ∷ (true_octets 0xFF ++ true_octets 0x01)) well_formed_set_of-boolean der_is_canonical two_true-der (λ same. cc) h
