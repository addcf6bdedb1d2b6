-- Lemmas on what the encodings of a type begin with, and that each of them is one encoding.
use Rattle.std.specs.List.{AllByRecursion, AllZip, concat}
use Rattle.std.proofs.Common.{◌≡◌, ◌+◌, ℕ, zero, suc, inl, inr, Bool, true, false, List, [], ◌∷◌, ◌++◌, Option, Some, None, refl, sym, ap, ◌∙◌, subst, arith, IsPermutation, append-nil, replicate, add_comm, zero-add, suc-add}
use Rattle.std.proofs.lemmas.List.Elements.{All-from_recursion, recursion_from_All}
use Rattle.std.proofs.lemmas.List.Sorted.{All-permutation}
use Rattle.octets.specs.declared.tag.Tag.{Tag}
use Rattle.octets.specs.Rule.{Rule, ber, cer, der}
use Rattle.octets.proofs.IdentifierLemmas.{identifier_unique}
use Rattle.types.specs.Shape.{StringType, Val, Slots, no_slot, absent, present, listed, Requirement, required, optional, default, Shape, Components, no_component, component, Alternatives, no_alternative, alternative}
use Rattle.types.specs.FirstTags.{first_tags, tags_of_alternatives, HasDistinctTags, IsUsable}
use Rattle.types.specs.WellFormed.{nodes_of, nodes_of_components, nodes_of_alternatives}
use Rattle.types.specs.Form.{IsDefinite, IsIndefinite, IsPrimitive, IsConstructed}
use Rattle.types.specs.Strings.{AreSegments, IsStringEncoding}
use Rattle.types.specs.Depth.{IsNested}
use Rattle.types.specs.Order.{BeginsWith, BeginsWithOneOf}
use Rattle.types.specs.Encoding.{Meaning, IsEncoding, IsEncodingOfString, AreSlotEncodings, IsAlternativeEncoding, StandsForAbsent, standing}
use Rattle.types.proofs.ListLemmas.{contains_first, contains_left, contains_right, all_append}
use Rattle.types.proofs.NestingLemmas.{IsAboveZero, AreApart, nested_above, nested_unique}

-- octets begin with one tag
pub begins_once : (t u : Tag) (octets : List ℕ) → BeginsWith t octets → BeginsWith u octets → t ≡ u
begins_once t u octets h g = (identifier_unique t u h.constructed g.constructed h.identifier g.identifier h.rest g.rest h.tagged g.tagged (sym h.joined ∙ g.joined)).tag

pub definite_begins : (rule : Rule) (tag : Tag) (constructed : Bool) (contents octets : List ℕ) → IsDefinite rule tag constructed contents octets → BeginsWith tag octets
definite_begins rule tag constructed contents octets h = record { constructed = constructed; identifier = h.identifier; rest = h.size ++ contents; tagged = h.tagged; joined = h.joined }

pub indefinite_begins : (tag : Tag) (contents octets : List ℕ) → IsIndefinite tag contents octets → BeginsWith tag octets
indefinite_begins tag contents octets h = record { constructed = true; identifier = h.identifier; rest = 128 ∷ (contents ++ (0 ∷ 0 ∷ [])); tagged = h.tagged; joined = h.joined }

pub constructed_begins : (rule : Rule) (tag : Tag) (contents octets : List ℕ) → IsConstructed rule tag contents octets → BeginsWith tag octets
constructed_begins ber tag contents octets (inl h) = definite_begins ber tag true contents octets h
constructed_begins ber tag contents octets (inr h) = indefinite_begins tag contents octets h
constructed_begins cer tag contents octets h = indefinite_begins tag contents octets h
constructed_begins der tag contents octets h = definite_begins der tag true contents octets h

pub string_begins : {A : Type 0} (rule : Rule) (tag inner : Tag) (Holds : List A → List ℕ → Type 0) (Whole : List A → Type 0) (string : List A) (octets : List ℕ) → IsStringEncoding rule tag inner Holds Whole string octets → BeginsWith tag octets
string_begins ber tag inner Holds Whole string octets (inl h) = definite_begins ber tag false h.contents octets h.primitive
string_begins ber tag inner Holds Whole string octets (inr h) = constructed_begins ber tag h.contents octets h.constructed
string_begins cer tag inner Holds Whole string octets (inl h) = definite_begins cer tag false h.contents octets h.primitive
string_begins cer tag inner Holds Whole string octets (inr h) = indefinite_begins tag h.segments_octets octets h.constructed
string_begins der tag inner Holds Whole string octets h = definite_begins der tag false h.contents octets h.primitive

of_string_begins : (rule : Rule) (tag : Tag) (type : StringType) (v : Val) (octets : List ℕ) → IsEncodingOfString rule tag type v octets → BeginsWith tag octets
of_string_begins rule tag StringType.bit_string v octets h = string_begins rule tag _ _ _ h.bits octets h.string
of_string_begins rule tag (StringType.named_bits names) v octets h = string_begins rule tag _ _ _ (h.bits ++ replicate h.zeros false) octets h.string
of_string_begins rule tag StringType.octet_string v octets h = string_begins rule tag _ _ _ h.string_octets octets h.string
of_string_begins rule tag (StringType.text kind) v octets h = string_begins rule tag _ _ _ h.string_octets octets h.string
of_string_begins rule tag (StringType.time kind) v octets h = string_begins rule tag _ _ _ h.string_octets octets h.string

-- the one tag of a node
begins_with_its_own : (tag : Tag) (octets : List ℕ) → BeginsWith tag octets → BeginsWithOneOf (tag ∷ []) octets
begins_with_its_own tag octets h = (tag, contains_first tag tag [] refl, h)

mutual
  -- each encoding of a type begins with one of the type's first tags
  pub encoding_begins : (rule : Rule) (type : Shape) (v : Val) (octets : List ℕ) → IsEncoding rule type v octets → BeginsWithOneOf (first_tags type) octets
  encoding_begins rule (Shape.simple tag type) v octets h = begins_with_its_own tag octets (definite_begins rule tag false h.contents octets h.primitive)
  encoding_begins rule (Shape.string tag type) v octets h = begins_with_its_own tag octets (of_string_begins rule tag type v octets h)
  encoding_begins rule (Shape.sequence tag components) v octets h = begins_with_its_own tag octets (constructed_begins rule tag (concat (standing h.encodings)) octets h.whole)
  encoding_begins rule (Shape.set tag components) v octets h = begins_with_its_own tag octets (constructed_begins rule tag (concat h.order) octets h.whole)
  encoding_begins rule (Shape.sequence_of tag type) v octets h = begins_with_its_own tag octets (constructed_begins rule tag (concat h.encodings) octets h.whole)
  encoding_begins rule (Shape.set_of tag type) v octets h = begins_with_its_own tag octets (constructed_begins rule tag (concat h.order) octets h.whole)
  encoding_begins rule (Shape.choice alternatives) v octets h = alternative_begins rule alternatives h.which h.value octets h.chosen
  encoding_begins rule (Shape.explicit tag type) v octets h = begins_with_its_own tag octets (constructed_begins rule tag h.inner octets h.whole)

  pub alternative_begins : (rule : Rule) (alternatives : Alternatives) (which : ℕ) (v : Val) (octets : List ℕ) → IsAlternativeEncoding rule alternatives which v octets → BeginsWithOneOf (tags_of_alternatives alternatives) octets
  alternative_begins rule no_alternative which v octets h = elim h [ ]
  alternative_begins rule (alternative name type others) zero v octets h =
      let begins = encoding_begins rule type v octets h in
      (begins.0, contains_left (first_tags type) (tags_of_alternatives others) begins.0 begins.1, begins.2)
  alternative_begins rule (alternative name type others) (suc which) v octets h =
      let begins = alternative_begins rule others which v octets h in
      (begins.0, contains_right (first_tags type) (tags_of_alternatives others) begins.0 begins.1, begins.2)

-- one encoding, however deep
abbrev pub IsOneNested : List ℕ → Type 0
IsOneNested octets = (n : ℕ) × IsNested n octets

pub all_map : {X : Type 0} (P Q : X → Type 0) → ((x : X) → P x → Q x) → (xs : List X) → AllByRecursion P xs → AllByRecursion Q xs
all_map P Q f [] h = tt
all_map P Q f (x ∷ xs) h = (f x h.0, all_map P Q f xs h.1)

pub all_zip : {X Y : Type 0} (P : X → Y → Type 0) (Q : Y → Type 0) → ((x : X) (y : Y) → P x y → Q y) → (xs : List X) (ys : List Y) → AllZip P xs ys → AllByRecursion Q ys
all_zip P Q f [] [] h = tt
all_zip P Q f [] (y ∷ ys) h = elim h [ ]
all_zip P Q f (x ∷ xs) [] h = elim h [ ]
all_zip P Q f (x ∷ xs) (y ∷ ys) h = (f x y h.0, all_zip P Q f xs ys h.1)

pub all_permutation : {X : Type 0} (P : X → Type 0) (xs ys : List X) → IsPermutation xs ys → AllByRecursion P xs → AllByRecursion P ys
all_permutation P xs ys p h = recursion_from_All P ys (All-permutation P xs ys p (All-from_recursion P xs h))

pub nested_suc : (n : ℕ) (octets : List ℕ) → IsNested n octets → IsNested (suc n) octets
unfolding IsNested
nested_suc zero octets h = inl h
nested_suc (suc n) octets (inl h) = inl h
nested_suc (suc n) octets (inr h) = inr record { tag = h.tag; usable = h.usable; parts = h.parts; each = all_map (IsNested n) (IsNested (suc n)) (nested_suc n) h.parts h.each; whole = h.whole }

pub nested_plus : (m n : ℕ) (octets : List ℕ) → IsNested n octets → IsNested (m + n) octets
nested_plus zero n octets h = rw zero-add h
nested_plus (suc m) n octets h = rw suc-add (nested_suc (m + n) octets (nested_plus m n octets h))

-- one number for all
pub nested_alike : (parts : List (List ℕ)) → AllByRecursion IsOneNested parts → (n : ℕ) × AllByRecursion (IsNested n) parts
nested_alike [] h = (0, tt)
nested_alike (part ∷ parts) h =
    let rest = nested_alike parts h.1 in
    let n = h.0.0 in
    (rest.0 + n, (nested_plus rest.0 n part h.0.1, all_map (IsNested rest.0) (IsNested (rest.0 + n)) (λ c g. rw add_comm (nested_plus n rest.0 c g)) parts rest.1))

pub one_nested_above : (octets : List ℕ) → IsOneNested octets → IsAboveZero octets
one_nested_above octets h = nested_above h.0 octets h.1

pub one_nested_unique : AreApart IsOneNested IsOneNested
one_nested_unique a b r s h g whole = nested_unique h.0 g.0 a b r s h.1 g.1 whole

pub primitive_is_nested : (tag : Tag) (contents octets : List ℕ) → IsUsable tag → IsPrimitive ber tag contents octets → IsOneNested octets
unfolding IsNested
primitive_is_nested tag contents octets usable h = (0, record { tag = tag; usable = usable; contents = contents; whole = h })

pub constructed_is_nested : (tag : Tag) (parts : List (List ℕ)) (octets : List ℕ) → IsUsable tag → AllByRecursion IsOneNested parts → IsConstructed ber tag (concat parts) octets → IsOneNested octets
unfolding IsNested
constructed_is_nested tag parts octets usable each h =
    let all = nested_alike parts each in
    (suc all.0, inr record { tag = tag; usable = usable; parts = parts; each = all.1; whole = h })

-- the segments of a string as parts
pub segments_are_nested : {A : Type 0} (inner : Tag) (Holds : List A → List ℕ → Type 0) (Whole : List A → Type 0) → IsUsable inner → (string : List A) (contents : List ℕ) → AreSegments inner Holds Whole string contents → (parts : List (List ℕ)) × AllByRecursion IsOneNested parts × (contents ≡ concat parts)
segments_are_nested inner Holds Whole usable string contents AreSegments.none = ([], tt, refl)
segments_are_nested inner Holds Whole usable string contents (AreSegments.primitive {others = others} {rest = rest} piece piece_octets segment h w more f) =
    let later = segments_are_nested inner Holds Whole usable others rest more in
    (segment ∷ later.0, (primitive_is_nested inner piece_octets segment usable w, later.1), ap (λ x. segment ++ x) later.2)
segments_are_nested inner Holds Whole usable string contents (AreSegments.constructed {others = others} {rest = rest} piece piece_octets segment h w more f) =
    let later = segments_are_nested inner Holds Whole usable others rest more in
    let within = segments_are_nested inner Holds Whole usable piece piece_octets h in
    (segment ∷ later.0, (constructed_is_nested inner within.0 segment usable within.1 (subst (λ x. IsConstructed ber inner x segment) within.2 w), later.1), ap (λ x. segment ++ x) later.2)

pub string_is_nested : {A : Type 0} (tag inner : Tag) (Holds : List A → List ℕ → Type 0) (Whole : List A → Type 0) (string : List A) (octets : List ℕ) → IsUsable tag → IsUsable inner → IsStringEncoding ber tag inner Holds Whole string octets → IsOneNested octets
string_is_nested tag inner Holds Whole string octets usable inner_usable (inl h) = primitive_is_nested tag h.contents octets usable h.primitive
string_is_nested tag inner Holds Whole string octets usable inner_usable (inr h) =
    let parts = segments_are_nested inner Holds Whole inner_usable string h.contents h.segments in
    constructed_is_nested tag parts.0 octets usable parts.1 (subst (λ x. IsConstructed ber tag x octets) parts.2 h.constructed)

of_string_is_nested : (tag : Tag) (type : StringType) (v : Val) (octets : List ℕ) → IsUsable tag → IsEncodingOfString ber tag type v octets → IsOneNested octets
of_string_is_nested tag StringType.bit_string v octets usable h = string_is_nested tag _ _ _ h.bits octets usable (λ u. omega arith) h.string
of_string_is_nested tag (StringType.named_bits names) v octets usable h = string_is_nested tag _ _ _ (h.bits ++ replicate h.zeros false) octets usable (λ u. omega arith) h.string
of_string_is_nested tag StringType.octet_string v octets usable h = string_is_nested tag _ _ _ h.string_octets octets usable (λ u. omega arith) h.string
of_string_is_nested tag (StringType.text kind) v octets usable h = string_is_nested tag _ _ _ h.string_octets octets usable (λ u. omega arith) h.string
of_string_is_nested tag (StringType.time kind) v octets usable h = string_is_nested tag _ _ _ h.string_octets octets usable (λ u. omega arith) h.string

-- an explicit tag has one encoding in it
pub explicit_parts : (rule : Rule) (tag : Tag) (inner octets : List ℕ) → IsConstructed rule tag inner octets → IsConstructed rule tag (concat (inner ∷ [])) octets
explicit_parts rule tag inner octets h = subst (λ x. IsConstructed rule tag x octets) (sym (append-nil inner)) h

-- what stands for an absent slot encodes its default
pub absent_value : (rule : Rule) (requirement : Requirement) (Encodes : Meaning) (octets : List ℕ) → StandsForAbsent rule requirement Encodes (Some octets) → (v : Val) × Encodes v octets
absent_value rule required Encodes octets h = elim h [ ]
absent_value rule optional Encodes octets h = cc
absent_value ber (default value) Encodes octets h = (value, h)
absent_value cer (default value) Encodes octets h = cc
absent_value der (default value) Encodes octets h = cc

mutual
  -- each encoding of a type is one encoding
  pub encoding_is_nested : (type : Shape) (v : Val) (octets : List ℕ) → AllByRecursion HasDistinctTags (nodes_of type) → IsEncoding ber type v octets → IsOneNested octets
  encoding_is_nested (Shape.simple tag type) v octets well h = primitive_is_nested tag h.contents octets well.0 h.primitive
  encoding_is_nested (Shape.string tag type) v octets well h = of_string_is_nested tag type v octets well.0 h
  encoding_is_nested (Shape.sequence tag components) v octets well h =
      constructed_is_nested tag (standing h.encodings) octets well.0.0 (slots_are_nested components h.slots h.encodings well.1 h.each) h.whole
  encoding_is_nested (Shape.set tag components) v octets well h =
      constructed_is_nested tag h.order octets well.0.0 (all_permutation IsOneNested (standing h.encodings) h.order h.permutes (slots_are_nested components h.slots h.encodings well.1 h.each)) h.whole
  encoding_is_nested (Shape.sequence_of tag type) v octets well h =
      constructed_is_nested tag h.encodings octets well.0 (all_zip (IsEncoding ber type) IsOneNested (λ x c g. encoding_is_nested type x c well.1 g) (listed h.items) h.encodings h.each) h.whole
  encoding_is_nested (Shape.set_of tag type) v octets well h =
      constructed_is_nested tag h.order octets well.0 (all_permutation IsOneNested h.encodings h.order h.permutes (all_zip (IsEncoding ber type) IsOneNested (λ x c g. encoding_is_nested type x c well.1 g) (listed h.items) h.encodings h.each)) h.whole
  encoding_is_nested (Shape.choice alternatives) v octets well h = alternative_is_nested alternatives h.which h.value octets well.1 h.chosen
  encoding_is_nested (Shape.explicit tag type) v octets well h =
      constructed_is_nested tag (h.inner ∷ []) octets well.0 (encoding_is_nested type v h.inner well.1 h.encodes, tt) (explicit_parts ber tag h.inner octets h.whole)

  pub slots_are_nested : (components : Components) (slots : Slots) (encodings : List (Option (List ℕ))) → AllByRecursion HasDistinctTags (nodes_of_components components) → AreSlotEncodings ber components slots encodings → AllByRecursion IsOneNested (standing encodings)
  slots_are_nested no_component no_slot [] well h = tt
  slots_are_nested no_component no_slot (encoding ∷ encodings) well h = elim h [ ]
  slots_are_nested no_component (absent slots) encodings well h = elim h [ ]
  slots_are_nested no_component (present value slots) encodings well h = elim h [ ]
  slots_are_nested (component name type requirement others) no_slot encodings well h = elim h [ ]
  slots_are_nested (component name type requirement others) (absent slots) [] well h = elim h [ ]
  slots_are_nested (component name type requirement others) (absent slots) (None ∷ encodings) well h =
      slots_are_nested others slots encodings (all_append HasDistinctTags (nodes_of type) (nodes_of_components others) well).1 h.1
  slots_are_nested (component name type requirement others) (absent slots) (Some octets ∷ encodings) well h =
      let parts = all_append HasDistinctTags (nodes_of type) (nodes_of_components others) well in
      let value = absent_value ber requirement (IsEncoding ber type) octets h.0 in
      (encoding_is_nested type value.0 octets parts.0 value.1, slots_are_nested others slots encodings parts.1 h.1)
  slots_are_nested (component name type requirement others) (present value slots) [] well h = elim h [ ]
  slots_are_nested (component name type requirement others) (present value slots) (None ∷ encodings) well h = elim h [ ]
  slots_are_nested (component name type requirement others) (present value slots) (Some octets ∷ encodings) well h =
      let parts = all_append HasDistinctTags (nodes_of type) (nodes_of_components others) well in
      (encoding_is_nested type value octets parts.0 h.0, slots_are_nested others slots encodings parts.1 h.2)

  pub alternative_is_nested : (alternatives : Alternatives) (which : ℕ) (v : Val) (octets : List ℕ) → AllByRecursion HasDistinctTags (nodes_of_alternatives alternatives) → IsAlternativeEncoding ber alternatives which v octets → IsOneNested octets
  alternative_is_nested no_alternative which v octets well h = elim h [ ]
  alternative_is_nested (alternative name type others) zero v octets well h =
      encoding_is_nested type v octets (all_append HasDistinctTags (nodes_of type) (nodes_of_alternatives others) well).0 h
  alternative_is_nested (alternative name type others) (suc which) v octets well h =
      alternative_is_nested others which v octets (all_append HasDistinctTags (nodes_of type) (nodes_of_alternatives others) well).1 h
