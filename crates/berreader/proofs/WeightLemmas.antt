-- Lemmas on how much a value weighs: no more than the octets of its encoding, times the nodes of its type.
use Rattle.std.specs.List.{AllZip, concat}
use Rattle.std.proofs.Common.{◌≡◌, ◌+◌, ◌*◌, ◌-◌, ◌/◌, ◌≤◌, inl, inr, ℕ, zero, suc, Bool, true, false, List, [], ◌∷◌, ◌++◌, replicate, Option, Some, None, length, sym, ap, ◌∙◌, arith, length-append, IsPermutation, sum_by}
use Rattle.std.proofs.Math.Nat.{mul-add, add-mul}
use Rattle.std.proofs.lemmas.List.Concat.{concat_is, length-flat_map}
use Rattle.std.proofs.lemmas.List.Sorted.{sum_by-IsPermutation}
use Rattle.octets.specs.declared.tag.Tag.{Tag}
use Rattle.octets.specs.Base128.{IsBase128}
use Rattle.octets.specs.Identifier.{IsIdentifier}
use Rattle.octets.specs.Rule.{ber}
use Rattle.octets.proofs.ShortestLemmas.{IsLength-size}
use Rattle.primitives.specs.Bits.{IsBits}
use Rattle.primitives.proofs.BitsLemmas.{length-bits_of}
use Rattle.primitives.proofs.SubidentifierLemmas.{some_octets}
use Rattle.types.specs.Shape.{SimpleValue, StringType, Val, Slots, no_slot, absent, present, Items, no_item, item, listed, Shape, Components, no_component, component, Alternatives, no_alternative, alternative}
use Rattle.types.specs.Contents.{IsContents}
use Rattle.types.specs.Form.{IsConstructed, IsDefinite}
use Rattle.types.specs.Strings.{AreSegments, AreOctets, AlwaysWhole, IsWholeOctets, IsStringEncoding, bit_segment, octet_segment}
use Rattle.types.specs.Weight.{weight_of, weight_of_items, weight_of_simple, weight_of_slots}
use Rattle.types.specs.WellFormed.{nodes_of, nodes_of_alternatives, nodes_of_components}
use Rattle.types.specs.Encoding.{AreSlotEncodings, IsAlternativeEncoding, IsEncoding, IsEncodingOfString, standing}
use Rattle.types.proofs.ApartInstances.{of_no_octets}

-- sums and products
pub more_of : (n a b : ℕ) → a ≤ b → n * a ≤ n * b
more_of n a b below =
    let split : b ≡ a + (b - a) = omega (arith, below) in
    let whole : n * b ≡ n * a + n * (b - a) = ap (λ x. n * x) split ∙ mul-add n a (b - a) in
    omega (arith, whole)

once_more : (n a : ℕ) → suc n * a ≡ a + n * a
once_more n a =
    let one : suc n ≡ 1 + n = omega arith in
    let whole : suc n * a ≡ 1 * a + n * a = ap (λ x. x * a) one ∙ add-mul 1 n a in
    omega (arith, whole)

pub at_least_once : (n a : ℕ) → 1 ≤ n → a ≤ n * a
at_least_once zero a some = absurd (omega (arith, some))
at_least_once (suc n) a some = omega (arith, once_more n a)

twice_and : (n a b : ℕ) → 2 + a ≤ b → n + n + n * a ≤ n * b
twice_and n a b below =
    let two : n * (2 + a) ≡ n * 2 + n * a = mul-add n 2 a in
    let double : n * 2 ≡ n + n = omega arith in
    omega (arith, more_of n (2 + a) b below, two, double)

-- heads
pub some_identifier : (tag : Tag) (constructed : Bool) (octets : List ℕ) → IsIdentifier tag constructed octets → 1 ≤ length octets
some_identifier tag constructed octets (inl h) = omega (arith, ap length h.spelt)
some_identifier tag constructed octets (inr h) = omega (arith, ap length h.spelt)

pub in_definite : (tag : Tag) (constructed : Bool) (contents octets : List ℕ) → IsDefinite ber tag constructed contents octets → 2 + length contents ≤ length octets
in_definite tag constructed contents octets h =
    omega (arith, ap length h.joined, length-append h.identifier (h.size ++ contents), length-append h.size contents, some_identifier tag constructed h.identifier h.tagged, (IsLength-size (length contents) h.size h.sized).0)

in_constructed : (tag : Tag) (contents octets : List ℕ) → IsConstructed ber tag contents octets → 2 + length contents ≤ length octets
in_constructed tag contents octets (inl h) = in_definite tag true contents octets h
in_constructed tag contents octets (inr h) =
    omega (arith, ap length h.joined, length-append h.identifier (128 ∷ (contents ++ (0 ∷ 0 ∷ []))), length-append contents (0 ∷ 0 ∷ []), some_identifier tag true h.identifier h.tagged)

-- a subidentifier has an octet at least
few_numbers : (numbers : List ℕ) (spellings : List (List ℕ)) → AllZip IsBase128 numbers spellings → length numbers ≤ length (concat spellings)
few_numbers [] [] h = omega arith
few_numbers (n ∷ numbers) (s ∷ spellings) h =
    omega (arith, some_octets n s h.0, few_numbers numbers spellings h.1, length-append s (concat spellings))
few_numbers [] (s ∷ spellings) h = absurd h
few_numbers (n ∷ numbers) [] h = absurd h

simple_light : (value : SimpleValue) (contents : List ℕ) → IsContents ber value contents → weight_of_simple value ≤ 2 + length contents
simple_light (SimpleValue.boolean truth) contents h = omega arith
simple_light (SimpleValue.integer number) contents h = omega arith
simple_light (SimpleValue.wide_integer octets) contents h = omega (arith, ap length h)
simple_light (SimpleValue.enumerated number) contents h = omega arith
simple_light SimpleValue.null contents h = omega arith
simple_light (SimpleValue.oid arcs) contents h =
    omega (arith, ap length h.of_arcs.arcs_are, ap length h.of_arcs.numbers_are, few_numbers h.numbers h.spelt.spellings h.spelt.each, ap length h.spelt.joined)
simple_light (SimpleValue.relative_oid arcs) contents h =
    omega (arith, few_numbers arcs h.spelt.spellings h.spelt.each, ap length h.spelt.joined)

-- a string in segments
few_octets : (string contents : List ℕ) → AreSegments octet_segment AreOctets AlwaysWhole string contents → length string ≤ length contents
few_octets string contents AreSegments.none = omega arith
few_octets string contents (AreSegments.primitive {others} {rest} piece own segment holds one more whole) =
    omega (arith, length-append piece others, length-append segment rest, ap length holds, in_definite octet_segment false own segment one, few_octets others rest more)
few_octets string contents (AreSegments.constructed {others} {rest} piece own segment within around more whole) =
    omega (arith, length-append piece others, length-append segment rest, few_octets piece own within, in_constructed octet_segment own segment around, few_octets others rest more)

few_bits_in : (bits : List Bool) (contents : List ℕ) → IsBits ber bits contents → length bits ≤ 8 * length contents
few_bits_in bits contents h =
    omega (arith, ap length h.contents_are, ap length h.bits_are, length-append bits h.tail, length-bits_of h.octets)

few_bits : (string : List Bool) (contents : List ℕ) → AreSegments bit_segment (IsBits ber) IsWholeOctets string contents → length string ≤ 8 * length contents
few_bits string contents AreSegments.none = omega arith
few_bits string contents (AreSegments.primitive {others} {rest} piece own segment holds one more whole) =
    omega (arith, length-append piece others, length-append segment rest, few_bits_in piece own holds, in_definite bit_segment false own segment one, few_bits others rest more)
few_bits string contents (AreSegments.constructed {others} {rest} piece own segment within around more whole) =
    omega (arith, length-append piece others, length-append segment rest, few_bits piece own within, in_constructed bit_segment own segment around, few_bits others rest more)

octets_light : (tag : Tag) (string octets : List ℕ) → IsStringEncoding ber tag octet_segment AreOctets AlwaysWhole string octets → 1 + length string ≤ length octets
octets_light tag string octets (inl h) = omega (arith, ap length h.holds, in_definite tag false h.contents octets h.primitive)
octets_light tag string octets (inr h) = omega (arith, few_octets string h.contents h.segments, in_constructed tag h.contents octets h.constructed)

bits_light : (tag : Tag) (bits : List Bool) (octets : List ℕ) → IsStringEncoding ber tag bit_segment (IsBits ber) IsWholeOctets bits octets → 1 + (length bits + 7) / 8 ≤ length octets
bits_light tag bits octets (inl h) = omega (arith, few_bits_in bits h.contents h.holds, in_definite tag false h.contents octets h.primitive)
bits_light tag bits octets (inr h) = omega (arith, few_bits bits h.contents h.segments, in_constructed tag h.contents octets h.constructed)

string_light : (tag : Tag) (type : StringType) (v : Val) (octets : List ℕ) → IsEncodingOfString ber tag type v octets → weight_of v ≤ length octets
string_light tag StringType.bit_string v octets h = omega (arith, ap weight_of h.is, bits_light tag h.bits octets h.string)
string_light tag (StringType.named_bits names) v octets h =
    omega (arith, ap weight_of h.is, bits_light tag (h.bits ++ replicate h.zeros false) octets h.string, length-append h.bits (replicate h.zeros false))
string_light tag StringType.octet_string v octets h = omega (arith, ap weight_of h.is, octets_light tag h.string_octets octets h.string)
string_light tag (StringType.text kind) v octets h = omega (arith, ap weight_of h.is, octets_light tag h.string_octets octets h.string)
string_light tag (StringType.time kind) v octets h = omega (arith, ap weight_of h.is, octets_light tag h.string_octets octets h.string)

-- parts and what is around them
around_light : (n k c size w : ℕ) → 1 + k ≤ n → w ≤ k + n * c → 2 + c ≤ size → 1 + w ≤ n * size
around_light n k c size w many light within = omega (arith, many, light, twice_and n c size within)

pub some_part : (type : Shape) (v : Val) (octets : List ℕ) → IsEncoding ber type v octets → 1 ≤ length octets
some_part type v [] h = absurd (of_no_octets ber type v h)
some_part type v (x ∷ octets) h = omega arith

pub some_nodes : (type : Shape) → 1 ≤ length (nodes_of type)
some_nodes (Shape.simple tag type) = omega arith
some_nodes (Shape.string tag type) = omega arith
some_nodes (Shape.sequence tag components) = omega arith
some_nodes (Shape.set tag components) = omega arith
some_nodes (Shape.sequence_of tag type) = omega arith
some_nodes (Shape.set_of tag type) = omega arith
some_nodes (Shape.choice alternatives) = omega arith
some_nodes (Shape.explicit tag type) = omega arith

size_is : (xs : List (List ℕ)) → length (concat xs) ≡ sum_by (λ x. length x) xs
size_is xs = ap length (concat_is xs) ∙ length-flat_map (λ x. x) xs

pub size_of_order : (xs ys : List (List ℕ)) → IsPermutation xs ys → length (concat ys) ≡ length (concat xs)
size_of_order xs ys order = size_is ys ∙ (sum_by-IsPermutation (λ x. length x) xs ys order ∙ sym (size_is xs))

-- items that are light each
pub items_light : (m : ℕ) (IsItem : Val → List ℕ → Type 0) → ((v : Val) (octets : List ℕ) → IsItem v octets → (1 ≤ length octets) × (weight_of v ≤ m * length octets)) → (items : Items) (encodings : List (List ℕ)) → AllZip IsItem (listed items) encodings
    → weight_of_items items ≤ suc m * length (concat encodings)
items_light m IsItem each no_item [] h = omega arith
items_light m IsItem each (item value items) (e ∷ encodings) h =
    let one = each value e h.0 in
    let others = items_light m IsItem each items encodings h.1 in
    let split : suc m * length (e ++ concat encodings) ≡ suc m * length e + suc m * length (concat encodings) = ap (λ x. suc m * x) (length-append e (concat encodings)) ∙ mul-add (suc m) (length e) (length (concat encodings)) in
    omega (arith, one.0, one.1, others, split, once_more m (length e))
items_light m IsItem each no_item (e ∷ encodings) h = absurd h
items_light m IsItem each (item value items) [] h = absurd h

mutual
  pub light : (type : Shape) (v : Val) (octets : List ℕ) (n : ℕ) → length (nodes_of type) ≤ n → IsEncoding ber type v octets → weight_of v ≤ n * length octets
  light (Shape.simple tag type) v octets n many h =
      omega (arith, ap weight_of h.is, simple_light h.value h.contents h.spelt, in_definite tag false h.contents octets h.primitive, at_least_once n (length octets) many)
  light (Shape.string tag type) v octets n many h = omega (arith, string_light tag type v octets h, at_least_once n (length octets) many)
  light (Shape.sequence tag components) v octets n many h =
      let k = length (nodes_of_components components) in
      let c = length (concat (standing h.encodings)) in
      let w : 1 + weight_of_slots h.slots ≤ n * length octets = around_light n k c (length octets) (weight_of_slots h.slots) (omega (arith, many)) (slots_light components h.slots h.encodings n (omega (arith, many)) h.each) (in_constructed tag (concat (standing h.encodings)) octets h.whole) in
      omega (arith, ap weight_of h.is, w)
  light (Shape.set tag components) v octets n many h =
      let k = length (nodes_of_components components) in
      let c = length (concat (standing h.encodings)) in
      let around = in_constructed tag (concat h.order) octets h.whole in
      let within : 2 + c ≤ length octets = omega (arith, around, size_of_order (standing h.encodings) h.order h.permutes) in
      let w : 1 + weight_of_slots h.slots ≤ n * length octets = around_light n k c (length octets) (weight_of_slots h.slots) (omega (arith, many)) (slots_light components h.slots h.encodings n (omega (arith, many)) h.each) within in
      omega (arith, ap weight_of h.is, w)
  light (Shape.sequence_of tag type) v octets zero many h = absurd (omega (arith, many))
  light (Shape.sequence_of tag type) v octets (suc m) many h =
      let items = items_light m (IsEncoding ber type) (λ w o g. (some_part type w o g, light type w o m (omega (arith, many)) g)) h.items h.encodings h.each in
      let w : 1 + weight_of_items h.items ≤ suc m * length octets = around_light (suc m) 0 (length (concat h.encodings)) (length octets) (weight_of_items h.items) (omega arith) (omega (arith, items)) (in_constructed tag (concat h.encodings) octets h.whole) in
      omega (arith, ap weight_of h.is, w)
  light (Shape.set_of tag type) v octets zero many h = absurd (omega (arith, many))
  light (Shape.set_of tag type) v octets (suc m) many h =
      let items = items_light m (IsEncoding ber type) (λ w o g. (some_part type w o g, light type w o m (omega (arith, many)) g)) h.items h.encodings h.each in
      let around = in_constructed tag (concat h.order) octets h.whole in
      let within : 2 + length (concat h.encodings) ≤ length octets = omega (arith, around, size_of_order h.encodings h.order h.permutes) in
      let w : 1 + weight_of_items h.items ≤ suc m * length octets = around_light (suc m) 0 (length (concat h.encodings)) (length octets) (weight_of_items h.items) (omega arith) (omega (arith, items)) within in
      omega (arith, ap weight_of h.is, w)
  light (Shape.choice alternatives) v octets zero many h = absurd (omega (arith, many))
  light (Shape.choice alternatives) v octets (suc m) many h =
      let chosen = alternative_light alternatives h.which h.value octets m (omega (arith, many)) h.chosen in
      omega (arith, ap weight_of h.is, chosen.0, chosen.1, once_more m (length octets))
  light (Shape.explicit tag type) v octets n many h =
      omega (arith, light type v h.inner n (omega (arith, many)) h.encodes, more_of n (length h.inner) (length octets) (omega (arith, in_constructed tag h.inner octets h.whole)))

  alternative_light : (alternatives : Alternatives) (which : ℕ) (v : Val) (octets : List ℕ) (m : ℕ) → length (nodes_of_alternatives alternatives) ≤ m → IsAlternativeEncoding ber alternatives which v octets → (1 ≤ length octets) × (weight_of v ≤ m * length octets)
  alternative_light no_alternative which v octets m many h = elim h [ ]
  alternative_light (alternative name type others) zero v octets m many h =
      (some_part type v octets h, light type v octets m (omega (arith, many, length-append (nodes_of type) (nodes_of_alternatives others))) h)
  alternative_light (alternative name type others) (suc which) v octets m many h =
      alternative_light others which v octets m (omega (arith, many, length-append (nodes_of type) (nodes_of_alternatives others))) h

  pub slots_light : (components : Components) (slots : Slots) (encodings : List (Option (List ℕ))) (n : ℕ) → length (nodes_of_components components) ≤ n → AreSlotEncodings ber components slots encodings
      → weight_of_slots slots ≤ length (nodes_of_components components) + n * length (concat (standing encodings))
  slots_light no_component no_slot [] n many h = omega arith
  slots_light (component name type requirement others) (absent slots) (None ∷ encodings) n many h =
      let nodes = length-append (nodes_of type) (nodes_of_components others) in
      omega (arith, nodes, some_nodes type, slots_light others slots encodings n (omega (arith, nodes, many)) h.1)
  slots_light (component name type requirement others) (absent slots) (Some e ∷ encodings) n many h =
      let nodes = length-append (nodes_of type) (nodes_of_components others) in
      let rest = concat (standing encodings) in
      let more : n * length rest ≤ n * length (e ++ rest) = more_of n (length rest) (length (e ++ rest)) (omega (arith, length-append e rest)) in
      omega (arith, nodes, more, some_nodes type, slots_light others slots encodings n (omega (arith, nodes, many)) h.1)
  slots_light (component name type requirement others) (present value slots) (Some e ∷ encodings) n many h =
      let nodes = length-append (nodes_of type) (nodes_of_components others) in
      let rest = concat (standing encodings) in
      let split : n * length (e ++ rest) ≡ n * length e + n * length rest = ap (λ x. n * x) (length-append e rest) ∙ mul-add n (length e) (length rest) in
      omega (arith, nodes, split, some_nodes type, light type value e n (omega (arith, nodes, many)) h.0, slots_light others slots encodings n (omega (arith, nodes, many)) h.2)
  slots_light no_component (absent slots) [] n many h = elim h [ ]
  slots_light no_component (present value slots) [] n many h = elim h [ ]
  slots_light no_component no_slot (e ∷ encodings) n many h = elim h [ ]
  slots_light no_component (absent slots) (e ∷ encodings) n many h = elim h [ ]
  slots_light no_component (present value slots) (e ∷ encodings) n many h = elim h [ ]
  slots_light (component name type requirement others) no_slot encodings n many h = elim h [ ]
  slots_light (component name type requirement others) (absent slots) [] n many h = elim h [ ]
  slots_light (component name type requirement others) (present value slots) [] n many h = elim h [ ]
  slots_light (component name type requirement others) (present value slots) (None ∷ encodings) n many h = elim h [ ]
