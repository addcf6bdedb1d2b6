-- Lemmas on what stands for the slots of a SEQUENCE or SET, and on what it begins with.
use Rattle.std.proofs.Common.{◌≡◌, ◌⊎◌, inl, inr, ℕ, List, [], ◌∷◌, ◌++◌, Option, Some, None, refl, sym, subst, Contains}
use Rattle.octets.specs.declared.tag.Tag.{Tag}
use Rattle.octets.specs.Rule.{Rule, ber, cer, der}
use Rattle.types.specs.Shape.{Val, Slots, no_slot, absent, present, Requirement, required, optional, default, Shape, Components, no_component, component}
use Rattle.types.specs.Conforms.{MayBeAbsent, DiffersFromDefault}
use Rattle.types.specs.FirstTags.{first_tags, tags_of_components, tags_of_run, AreDistinct}
use Rattle.types.specs.Order.{BeginsWithOneOf}
use Rattle.types.specs.Encoding.{Meaning, IsEncoding, AreSlotEncodings, StandsForAbsent, standing}
use Rattle.types.proofs.ListLemmas.{not_in_nil, contains_cases, contains_left, contains_right, distinct_apart}
use Rattle.types.proofs.BeginningLemmas.{begins_once, encoding_begins}

-- for each slot nothing, an encoding of the default, or one of the value in it
pub data AreFilled (rule : Rule) : Components → Slots → List (Option (List ℕ)) → Type 0 where
  no_more : AreFilled rule no_component no_slot []
  left_out : {others : Components} {slots : Slots} {encodings : List (Option (List ℕ))} (name : List ℕ) (type : Shape) (requirement : Requirement)
      → MayBeAbsent requirement → AreFilled rule others slots encodings
      → AreFilled rule (component name type requirement others) (absent slots) (None ∷ encodings)
  spelt_out : {others : Components} {slots : Slots} {encodings : List (Option (List ℕ))} (name : List ℕ) (type : Shape) (value : Val) (octets : List ℕ)
      → rule ≡ ber → IsEncoding rule type value octets → AreFilled rule others slots encodings
      → AreFilled rule (component name type (default value) others) (absent slots) (Some octets ∷ encodings)
  stands : {others : Components} {slots : Slots} {encodings : List (Option (List ℕ))} (name : List ℕ) (type : Shape) (requirement : Requirement) (value : Val) (octets : List ℕ)
      → IsEncoding rule type value octets → DiffersFromDefault requirement value → AreFilled rule others slots encodings
      → AreFilled rule (component name type requirement others) (present value slots) (Some octets ∷ encodings)

absent_filled : (rule : Rule) (name : List ℕ) (type : Shape) (requirement : Requirement) (others : Components) (slots : Slots) (encoding : Option (List ℕ)) (encodings : List (Option (List ℕ)))
    → StandsForAbsent rule requirement (IsEncoding rule type) encoding → AreFilled rule others slots encodings → AreFilled rule (component name type requirement others) (absent slots) (encoding ∷ encodings)
absent_filled rule name type required others slots encoding encodings h more = elim h [ ]
absent_filled rule name type optional others slots None encodings h more = AreFilled.left_out name type optional tt more
absent_filled rule name type optional others slots (Some octets) encodings h more = cc
absent_filled rule name type (default value) others slots None encodings h more = AreFilled.left_out name type (default value) tt more
absent_filled ber name type (default value) others slots (Some octets) encodings h more = AreFilled.spelt_out name type value octets refl h more
absent_filled cer name type (default value) others slots (Some octets) encodings h more = cc
absent_filled der name type (default value) others slots (Some octets) encodings h more = cc

pub filled : (rule : Rule) (components : Components) (slots : Slots) (encodings : List (Option (List ℕ))) → AreSlotEncodings rule components slots encodings → AreFilled rule components slots encodings
filled rule no_component no_slot [] h = AreFilled.no_more
filled rule no_component no_slot (encoding ∷ encodings) h = elim h [ ]
filled rule no_component (absent slots) encodings h = elim h [ ]
filled rule no_component (present value slots) encodings h = elim h [ ]
filled rule (component name type requirement others) no_slot encodings h = elim h [ ]
filled rule (component name type requirement others) (absent slots) [] h = elim h [ ]
filled rule (component name type requirement others) (absent slots) (encoding ∷ encodings) h =
    absent_filled rule name type requirement others slots encoding encodings h.0 (filled rule others slots encodings h.1)
filled rule (component name type requirement others) (present value slots) [] h = elim h [ ]
filled rule (component name type requirement others) (present value slots) (None ∷ encodings) h = elim h [ ]
filled rule (component name type requirement others) (present value slots) (Some octets ∷ encodings) h =
    AreFilled.stands name type requirement value octets h.0 h.1 (filled rule others slots encodings h.2)

absent_unfilled : (rule : Rule) (requirement : Requirement) (Encodes : Meaning) → MayBeAbsent requirement → StandsForAbsent rule requirement Encodes None
absent_unfilled rule required Encodes h = h
absent_unfilled rule optional Encodes h = refl
absent_unfilled ber (default value) Encodes h = tt
absent_unfilled cer (default value) Encodes h = refl
absent_unfilled der (default value) Encodes h = refl

spelt_unfilled : (rule : Rule) (value : Val) (octets : List ℕ) (Encodes : Meaning) → rule ≡ ber → Encodes value octets → StandsForAbsent rule (default value) Encodes (Some octets)
spelt_unfilled ber value octets Encodes e h = h
spelt_unfilled cer value octets Encodes e h = cc
spelt_unfilled der value octets Encodes e h = cc

pub unfilled : (rule : Rule) (components : Components) (slots : Slots) (encodings : List (Option (List ℕ))) → AreFilled rule components slots encodings → AreSlotEncodings rule components slots encodings
unfilled rule components slots encodings AreFilled.no_more = tt
unfilled rule components slots encodings (AreFilled.left_out {others = others} {slots = later} {encodings = rest} name type requirement m more) =
    (absent_unfilled rule requirement (IsEncoding rule type) m, unfilled rule others later rest more)
unfilled rule components slots encodings (AreFilled.spelt_out {others = others} {slots = later} {encodings = rest} name type value octets e h more) =
    (spelt_unfilled rule value octets (IsEncoding rule type) e h, unfilled rule others later rest more)
unfilled rule components slots encodings (AreFilled.stands {others = others} {slots = later} {encodings = rest} name type requirement value octets h d more) =
    (h, d, unfilled rule others later rest more)

begins_left : (as' bs : List Tag) (octets : List ℕ) → BeginsWithOneOf as' octets → BeginsWithOneOf (as' ++ bs) octets
begins_left as' bs octets h = (h.0, contains_left as' bs h.0 h.1, h.2)

begins_right : (as' bs : List Tag) (octets : List ℕ) → BeginsWithOneOf bs octets → BeginsWithOneOf (as' ++ bs) octets
begins_right as' bs octets h = (h.0, contains_right as' bs h.0 h.1, h.2)

-- octets do not begin with two distinct tags
pub begin_apart : (as' bs : List Tag) (octets : List ℕ) → AreDistinct (as' ++ bs) → BeginsWithOneOf as' octets → BeginsWithOneOf bs octets → ⊥
begin_apart as' bs octets distinct h g =
    distinct_apart as' bs distinct h.0 h.1 (subst (Contains bs) (sym (begins_once h.0 g.0 octets h.2 g.2)) g.1)

-- a component that may be absent, and those up to the next one that must stand
pub run_is : (name : List ℕ) (type : Shape) (requirement : Requirement) (others : Components) → MayBeAbsent requirement → tags_of_run (component name type requirement others) ≡ first_tags type ++ tags_of_run others
run_is name type required others h = elim h [ ]
run_is name type optional others h = refl
run_is name type (default value) others h = refl

run_first : (name : List ℕ) (type : Shape) (requirement : Requirement) (others : Components) (octets : List ℕ) → BeginsWithOneOf (first_tags type) octets → BeginsWithOneOf (tags_of_run (component name type requirement others)) octets
run_first name type required others octets h = h
run_first name type optional others octets h = begins_left (first_tags type) (tags_of_run others) octets h
run_first name type (default value) others octets h = begins_left (first_tags type) (tags_of_run others) octets h

-- the first encoding that stands begins with a tag of the run
pub run_begins : (rule : Rule) (components : Components) (slots : Slots) (encodings : List (Option (List ℕ))) (first : List ℕ) (rest : List (List ℕ))
    → AreFilled rule components slots encodings → standing encodings ≡ first ∷ rest → BeginsWithOneOf (tags_of_run components) first
run_begins rule components slots encodings first rest AreFilled.no_more e = cc
run_begins rule components slots encodings first rest (AreFilled.left_out {others = others} {slots = later} {encodings = more} name type requirement m h) e =
    subst (λ tags. BeginsWithOneOf tags first) (sym (run_is name type requirement others m)) (begins_right (first_tags type) (tags_of_run others) first (run_begins rule others later more first rest h e))
run_begins rule components slots encodings first rest (AreFilled.spelt_out {others = others} {encodings = more} name type value octets b f h) e =
    let same : octets ≡ first = cc e in
    subst (BeginsWithOneOf (tags_of_run (component name type (default value) others))) same (run_first name type (default value) others octets (encoding_begins rule type value octets f))
run_begins rule components slots encodings first rest (AreFilled.stands {others = others} {encodings = more} name type requirement value octets f d h) e =
    let same : octets ≡ first = cc e in
    subst (BeginsWithOneOf (tags_of_run (component name type requirement others))) same (run_first name type requirement others octets (encoding_begins rule type value octets f))

either_begins : (rule : Rule) (type : Shape) (others : Components) (here : List ℕ) (rest : List (List ℕ)) (octets : List ℕ) → BeginsWithOneOf (first_tags type) here
    → (here ≡ octets) ⊎ Contains rest octets → (Contains rest octets → BeginsWithOneOf (tags_of_components others) octets) → BeginsWithOneOf (first_tags type ++ tags_of_components others) octets
either_begins rule type others here rest octets begins (inl same) more =
    begins_left (first_tags type) (tags_of_components others) octets (subst (BeginsWithOneOf (first_tags type)) same begins)
either_begins rule type others here rest octets begins (inr later) more = begins_right (first_tags type) (tags_of_components others) octets (more later)

-- each encoding that stands begins with a tag of the components
pub component_begins : (rule : Rule) (components : Components) (slots : Slots) (encodings : List (Option (List ℕ))) (octets : List ℕ)
    → AreFilled rule components slots encodings → Contains (standing encodings) octets → BeginsWithOneOf (tags_of_components components) octets
component_begins rule components slots encodings octets AreFilled.no_more c = absurd (not_in_nil octets c)
component_begins rule components slots encodings octets (AreFilled.left_out {others = others} {slots = later} {encodings = more} name type requirement m h) c =
    begins_right (first_tags type) (tags_of_components others) octets (component_begins rule others later more octets h c)
component_begins rule components slots encodings octets (AreFilled.spelt_out {others = others} {slots = later} {encodings = more} name type value here b f h) c =
    either_begins rule type others here (standing more) octets (encoding_begins rule type value here f) (contains_cases here octets (standing more) c) (component_begins rule others later more octets h)
component_begins rule components slots encodings octets (AreFilled.stands {others = others} {slots = later} {encodings = more} name type requirement value here f d h) c =
    either_begins rule type others here (standing more) octets (encoding_begins rule type value here f) (contains_cases here octets (standing more) c) (component_begins rule others later more octets h)

-- what may stand next is not what a component that may be absent begins with
pub not_in_run : (rule : Rule) (name : List ℕ) (type : Shape) (requirement : Requirement) (others : Components) (slots : Slots) (encodings : List (Option (List ℕ))) (value : Val) (octets : List ℕ) (rest : List (List ℕ))
    → MayBeAbsent requirement → AreDistinct (tags_of_run (component name type requirement others)) → IsEncoding rule type value octets → AreFilled rule others slots encodings → standing encodings ≡ octets ∷ rest → ⊥
not_in_run rule name type requirement others slots encodings value octets rest m distinct f h e =
    begin_apart (first_tags type) (tags_of_run others) octets (subst AreDistinct (run_is name type requirement others m) distinct) (encoding_begins rule type value octets f) (run_begins rule others slots encodings octets rest h e)
