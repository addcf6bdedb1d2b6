-- Lemmas on the alternatives of a CHOICE, one after another.
use Rattle.std.proofs.Common.{◌≡◌, ℕ, zero, suc, ◌<◌, ◌≤◌, ◌⊎◌, inl, inr, List, [], ◌∷◌, ◌++◌, Bool, Box, Global, Contains, length, take, map, get_or, refl, sym, ◌∙◌, ap, subst, arith}
use Rattle.std.specs.List.{AllByRecursion}
use Rattle.octets.specs.declared.tag.Tag.{Tag}
use Rattle.octets.specs.Rule.{Rule}
use Rattle.types.specs.declared.value.Value.{Value}
use Rattle.types.specs.declared.value.Value as value
use Rattle.types.specs.declared.ty.Alternative.{Alternative}
use Rattle.types.specs.Shape.{Shape, Val}
use Rattle.types.specs.Encoding.{IsEncoding, IsAlternativeEncoding}
use Rattle.types.specs.FirstTags.{first_tags, tags_of_alternatives, AreDistinct}
use Rattle.types.specs.View.{AlternativeView, ty_view, value_view, alternative_view, alternatives_of, alternatives_view}
use Rattle.types.specs.WellFormed.{nodes_of, nodes_of_alternatives}
use Rattle.types.proofs.BeginningLemmas.{encoding_begins, alternative_begins}
use Rattle.types.proofs.LimitLemmas.{alternative_type}
use Rattle.types.proofs.ViewLemmas.{value-Chosen}
use Rattle.types.proofs.ListLemmas.{all_append, distinct_apart, distinct_right}
use Rattle.types.proofs.FirstTagLemmas.{tag_within}
use Rattle.encoding_parts.specs.Head.{IsTagWithin, IsReadTag}
use Rattle.encoding_parts.specs.Parts.{IsGoodType}
use Rattle.encoding_parts.proofs.ChoiceLemmas.{have_at}
use Rattle.encoding_parts.proofs.HeadLemmas.{tag_of_front}
use Rattle.strict.specs.Reading.{IsRead, HasPart, HasChoice}
use Rattle.strict.proofs.FrontLemmas.{within_of}

-- what can stand at the front begins with a tag of the type
pub record IsTagOf (type : Shape) (room : ℕ) (octets : List ℕ) : Type 0 where
  pub tag : Tag
  pub within : tag.number ≤ 268_435_455
  pub head : IsTagWithin tag room 0 octets

pub tag_of_part : (rule : Rule) (type : Shape) (room : ℕ) (octets : List ℕ) → IsGoodType type → HasPart rule type room octets → IsTagOf type room octets
tag_of_part rule type room octets good h =
    let b = encoding_begins rule type h.value h.part h.encoding in
    record { tag = b.0; within = tag_within type b.0 good.within b.1; head = within_of b.0 room h.part h.rest octets h.parts h.fits b.2 }

pub choice_of_part : (rule : Rule) (left : List AlternativeView) (room : ℕ) (octets : List ℕ) → HasPart rule (Shape.choice (alternatives_of left)) room octets → HasChoice rule left room octets
choice_of_part rule left room octets h = record { which = h.encoding.which; value = h.encoding.value; part = h.part; rest = h.rest; chosen = h.encoding.chosen; fits = h.fits; parts = h.parts }

next_of : (rule : Rule) (a : AlternativeView) (left : List AlternativeView) (room : ℕ) (octets : List ℕ) (which : ℕ) (v : Val) (part rest : List ℕ) → IsAlternativeEncoding rule (alternatives_of (a ∷ left)) which v part → length part ≤ room → octets ≡ part ++ rest
    → HasPart rule a.type room octets ⊎ HasChoice rule left room octets
next_of rule a left room octets zero v part rest chosen fits parts = inl record { value = v; part = part; rest = rest; encoding = chosen; fits = fits; parts = parts }
next_of rule a left room octets (suc which) v part rest chosen fits parts = inr record { which = which; value = v; part = part; rest = rest; chosen = chosen; fits = fits; parts = parts }

next_choice : (rule : Rule) (a : AlternativeView) (left : List AlternativeView) (room : ℕ) (octets : List ℕ) → HasChoice rule (a ∷ left) room octets → HasPart rule a.type room octets ⊎ HasChoice rule left room octets
next_choice rule a left room octets h = next_of rule a left room octets h.which h.value h.part h.rest h.chosen h.fits h.parts

-- by the tag that was read it is none of this type
not_this : (rule : Rule) (a : AlternativeView) (left : List AlternativeView) (room : ℕ) (octets more : List ℕ) (tag : Tag) (constructed : Bool) (used : ℕ) → IsReadTag tag room 0 octets constructed used → (Contains (first_tags a.type) tag → ⊥)
    → HasChoice rule (a ∷ left) room (octets ++ more) → HasChoice rule left room (octets ++ more)
not_this rule a left room octets more tag constructed used read none h =
    elim (next_choice rule a left room (octets ++ more) h) [
      | inr later ↦ later
      | inl p ↦
          let b = encoding_begins rule a.type p.value p.part p.encoding in
          let same = (tag_of_front tag b.0 constructed room 0 used octets more read.tagged (within_of b.0 room p.part p.rest (octets ++ more) p.parts p.fits b.2)).tag in
          absurd (none (subst (Contains (first_tags a.type)) (sym same) b.1))
    ]

-- or it is one
this_one : (rule : Rule) (a : AlternativeView) (left : List AlternativeView) (room : ℕ) (octets more : List ℕ) (tag : Tag) (constructed : Bool) (used : ℕ) → AreDistinct (tags_of_alternatives (alternatives_of (a ∷ left))) → IsReadTag tag room 0 octets constructed used → Contains (first_tags a.type) tag
    → HasChoice rule (a ∷ left) room (octets ++ more) → HasPart rule a.type room (octets ++ more)
this_one rule a left room octets more tag constructed used distinct read here h =
    elim (next_choice rule a left room (octets ++ more) h) [
      | inl p ↦ p
      | inr later ↦
          let tags = tags_of_alternatives (alternatives_of left) in
          let b = alternative_begins rule (alternatives_of left) later.which later.value later.part later.chosen in
          let same = (tag_of_front tag b.0 constructed room 0 used octets more read.tagged (within_of b.0 room later.part later.rest (octets ++ more) later.parts later.fits b.2)).tag in
          absurd (distinct_apart (first_tags a.type) tags distinct tag here (subst (Contains tags) (sym same) b.1))
    ]

-- the alternative at a place that has the tag which was read is the one that stands there
pub this_at : (rule : Rule) (xs : List Alternative) (which : ℕ) (a : Alternative) (room : ℕ) (octets more : List ℕ) (tag : Tag) (constructed : Bool) (used : ℕ) → which < length xs → a ≡ get_or xs which a → AreDistinct (tags_of_alternatives (alternatives_view xs)) → IsReadTag tag room 0 octets constructed used → Contains (first_tags (ty_view a.ty)) tag
    → HasChoice rule (map alternative_view xs) room (octets ++ more) → HasPart rule (ty_view a.ty) room (octets ++ more)
this_at rule [] which a room octets more tag constructed used below is distinct read has h = absurd (omega (arith, below))
this_at rule (x ∷ xs) zero a room octets more tag constructed used below is distinct read has h =
    let first = subst (λ (b : Alternative). Contains (first_tags (ty_view b.ty)) tag) is has in
    let here = this_one rule (alternative_view x) (map alternative_view xs) room octets more tag constructed used distinct read (subst (λ t. Contains (first_tags t) tag) (sym (alternative_type x)) first) h in
    subst (λ (b : Alternative). HasPart rule (ty_view b.ty) room (octets ++ more)) (sym is) (subst (λ t. HasPart rule t room (octets ++ more)) (alternative_type x) here)
this_at rule (x ∷ xs) (suc which) a room octets more tag constructed used below is distinct read has h =
    let below' : which < length xs = omega (arith, below) in
    let tags = tags_of_alternatives (alternatives_view xs) in
    let not_first : Contains (first_tags (alternative_view x).type) tag → ⊥ = λ here. distinct_apart (first_tags (alternative_view x).type) tags distinct tag here (have_at tag xs which a below' is has) in
    this_at rule xs which a room octets more tag constructed used below' is (distinct_right (first_tags (alternative_view x).type) tags distinct) read has
    (not_this rule (alternative_view x) (map alternative_view xs) room octets more tag constructed used read not_first h)

-- where none has the tag that was read, none stands there
pub none_there : (rule : Rule) (xs : List Alternative) (room : ℕ) (octets more : List ℕ) (tag : Tag) (constructed : Bool) (used : ℕ) → IsReadTag tag room 0 octets constructed used → (Contains (tags_of_alternatives (alternatives_view xs)) tag → ⊥)
    → HasChoice rule (map alternative_view xs) room (octets ++ more) → ⊥
none_there rule xs room octets more tag constructed used read none h =
    let tags = tags_of_alternatives (alternatives_view xs) in
    let b = alternative_begins rule (alternatives_view xs) h.which h.value h.part h.chosen in
    let same = (tag_of_front tag b.0 constructed room 0 used octets more read.tagged (within_of b.0 room h.part h.rest (octets ++ more) h.parts h.fits b.2)).tag in
    none (subst (Contains tags) (sym same) b.1)

-- what is said of each node is said of those of each alternative
pub nodes_at : (P : Shape → Type 0) (xs : List Alternative) (i : ℕ) (a : Alternative) → i < length xs → a ≡ get_or xs i a → AllByRecursion P (nodes_of_alternatives (alternatives_view xs)) → AllByRecursion P (nodes_of (alternative_view a).type)
nodes_at P [] i a below is h = absurd (omega (arith, below))
nodes_at P (x ∷ xs) zero a below is h = subst (λ (b : Alternative). AllByRecursion P (nodes_of (alternative_view b).type)) (sym is) (all_append P (nodes_of (alternative_view x).type) (nodes_of_alternatives (alternatives_view xs)) h).0
nodes_at P (x ∷ xs) (suc i) a below is h = nodes_at P xs i a (omega (arith, below)) is (all_append P (nodes_of (alternative_view x).type) (nodes_of_alternatives (alternatives_view xs)) h).1

pub good_at : (xs : List Alternative) (i : ℕ) (a : Alternative) → i < length xs → a ≡ get_or xs i a → IsGoodType (Shape.choice (alternatives_view xs)) → IsGoodType (alternative_view a).type
good_at xs i a below is good = record { within = nodes_at _ xs i a below is good.within.1; tags = nodes_at _ xs i a below is good.tags.1; defaults = nodes_at _ xs i a below is good.defaults.1 }

alternative_encodes : (rule : Rule) (xs : List Alternative) (which : ℕ) (a : Alternative) (v : Val) (octets : List ℕ) → which < length xs → a ≡ get_or xs which a → IsEncoding rule (alternative_view a).type v octets → IsAlternativeEncoding rule (alternatives_view xs) which v octets
alternative_encodes rule [] which a v octets below is e = absurd (omega (arith, below))
alternative_encodes rule (x ∷ xs) zero a v octets below is e = subst (λ (b : Alternative). IsEncoding rule (alternative_view b).type v octets) is e
alternative_encodes rule (x ∷ xs) (suc which) a v octets below is e = alternative_encodes rule xs which a v octets (omega (arith, below)) is e

-- the place of the alternative that was chosen
pub place_chosen : (which place : ℕ) (inner : Box Value Global) (v : Value) → (chosen : Val) × (value_view v ≡ Val.chosen which chosen) → v ≡ value.Chosen place inner → place ≡ which
place_chosen which place inner v chosen is =
    let same : Val.chosen place (value_view inner.value) ≡ Val.chosen which chosen.0 = sym (value-Chosen place inner) ∙ (sym (ap value_view is) ∙ chosen.1) in
    cc same

-- its value is one of the CHOICE
pub chosen_read : (rule : Rule) (xs : List Alternative) (which : ℕ) (a : Alternative) (room : ℕ) (octets : List ℕ) (v whole : Value) (used : ℕ) → which < length xs → a ≡ get_or xs which a
    → value_view whole ≡ Val.chosen which (value_view v) → IsRead rule (ty_view a.ty) room octets v used → IsRead rule (Shape.choice (alternatives_view xs)) room octets whole used
chosen_read rule xs which a room octets v whole used below is viewed h =
    let shape = Shape.choice (alternatives_view xs) in
    let here : IsEncoding rule (alternative_view a).type (value_view v) (take used octets) = subst (λ t. IsEncoding rule t (value_view v) (take used octets)) (sym (alternative_type a)) h.2 in
    let encodes : IsEncoding rule shape (Val.chosen which (value_view v)) (take used octets) = record { which = which; value = value_view v; is = refl; chosen = alternative_encodes rule xs which a (value_view v) (take used octets) below is here } in
    (h.0, h.1, subst (λ x. IsEncoding rule shape x (take used octets)) (sym viewed) encodes)
