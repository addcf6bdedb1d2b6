-- Lemmas on tags that tell parts apart, pair by pair.
use Rattle.std.proofs.Common.{◌≡◌, ◌≢◌, ◌↔◌, ◌⊎◌, ◌+◌, ◌<◌, ℕ, length, get_or, drop, List, [], ◌∷◌, ◌++◌, Vec, Global, Contains, inl, inr, refl, sym, ap, ◌∙◌, subst}
use Rattle.std.specs.List.{AllByRecursion}
use Rattle.octets.specs.declared.tag.Tag.{Tag}
use Rattle.types.specs.declared.ty.Ty.{Ty}
use Rattle.types.specs.declared.ty.Ty as ty
use Rattle.types.specs.declared.ty.Field.{Field}
use Rattle.types.specs.declared.ty.Alternative.{Alternative}
use Rattle.types.specs.Shape.{Shape, Alternatives, no_alternative, alternative, Components, no_component, component, Requirement, required, optional, default}
use Rattle.types.specs.View.{ty_view, field_view, requirement_view, components_view, alternatives_view, ComponentView}
use Rattle.types.specs.Conforms.{MayBeAbsent}
use Rattle.types.specs.FirstTags.{first_tags, tags_of_components, tags_of_run, tags_of_alternatives, AreDistinct, RunsAreDistinct, HasDistinctTags}
use Rattle.types.specs.WellFormed.{nodes_of, nodes_of_components, nodes_of_alternatives}
use Rattle.types.specs.Judging.{AreApart, RunsAreApart, ComponentsAreApart, AlternativesAreApart, TellsPartsApart}
use Rattle.types.proofs.ViewLemmas.{field_is, ty-Choice}
use Rattle.types.proofs.ListLemmas.{not_in_nil, contains_first, contains_later, contains_cases, contains_left, contains_right, AllPairs-nil, first_differs, others_differ, all_differ-cons, distinct_apart, distinct_right, all_append}
use Rattle.types.proofs.LoopLemmas.{IsLeftTo, left_at}
use Rattle.types.proofs.LimitLemmas.{field_type, alternative_type}
use Rattle.types.proofs.NodeLemmas.{all_both}

pub contains_either : {X : Type 0} (xs ys : List X) (x : X) → Contains (xs ++ ys) x → Contains xs x ⊎ Contains ys x
contains_either [] ys x h = inr h
contains_either (a ∷ xs) ys x h = either_of (contains_cases a x (xs ++ ys) h) (λ later. contains_either xs ys x later)
  where
    either_of : (a ≡ x) ⊎ Contains (xs ++ ys) x → (Contains (xs ++ ys) x → Contains xs x ⊎ Contains ys x) → Contains (a ∷ xs) x ⊎ Contains ys x
    either_of (inl same) more = inl (contains_first a x xs same)
    either_of (inr later) more = elim (more later) [ inl here ↦ inl (contains_later a x xs here) | inr there ↦ inr there ]

-- a tag that is in neither of two lists
pub lacks_both : (xs ys : List Tag) (tag : Tag) → (Contains (xs ++ ys) tag → ⊥) ↔ ((Contains xs tag → ⊥) × (Contains ys tag → ⊥))
lacks_both xs ys tag = (
  λ h. (λ l. h (contains_left xs ys tag l), λ r. h (contains_right xs ys tag r)),
  λ h c. elim (contains_either xs ys tag c) [ inl l ↦ h.0 l | inr r ↦ h.1 r ],
)

pub apart_nil : (tags : List Tag) → AreApart tags []
apart_nil tags tag l r = not_in_nil tag r

pub nil_apart : (tags : List Tag) → AreApart [] tags
nil_apart tags tag l r = not_in_nil tag l

pub apart_both : (tags xs ys : List Tag) → AreApart tags (xs ++ ys) ↔ (AreApart tags xs × AreApart tags ys)
apart_both tags xs ys = (
  λ h. (λ tag l r. h tag l (contains_left xs ys tag r), λ tag l r. h tag l (contains_right xs ys tag r)),
  λ h tag l c. elim (contains_either xs ys tag c) [ inl r ↦ h.0 tag l r | inr r ↦ h.1 tag l r ],
)

pub both_apart : (xs ys tags : List Tag) → AreApart (xs ++ ys) tags ↔ (AreApart xs tags × AreApart ys tags)
both_apart xs ys tags = (
  λ h. (λ tag l r. h tag (contains_left xs ys tag l) r, λ tag l r. h tag (contains_right xs ys tag l) r),
  λ h tag c r. elim (contains_either xs ys tag c) [ inl l ↦ h.0 tag l r | inr l ↦ h.1 tag l r ],
)

-- a list of one tag
pub one_apart : (tag : Tag) (tags : List Tag) → (Contains tags tag → ⊥) ↔ AreApart (tag ∷ []) tags
one_apart tag tags = (
  λ h other l r. elim (contains_cases tag other [] l) [ inl same ↦ h (subst (Contains tags) (sym same) r) | inr later ↦ not_in_nil other later ],
  λ h r. h tag (contains_first tag tag [] refl) r,
)

pub not_one : (tag other : Tag) → (Contains (tag ∷ []) other → ⊥) ↔ (tag ≢ other)
not_one tag other = (
  λ h same. h (contains_first tag other [] same),
  λ h c. elim (contains_cases tag other [] c) [ inl same ↦ h same | inr later ↦ not_in_nil other later ],
)

-- two lists whose tags differ, and that are apart
pub distinct_both : (xs ys : List Tag) → AreDistinct xs → AreApart xs ys → AreDistinct ys → AreDistinct (xs ++ ys)
distinct_both [] ys h a g = g
distinct_both (x ∷ xs) ys h a g =
    let none : Contains (xs ++ ys) x → ⊥ = λ c. elim (contains_either xs ys x c) [ inl l ↦ first_differs x xs h l | inr r ↦ a x (contains_first x x xs refl) r ] in
    all_differ-cons x (xs ++ ys) none (distinct_both xs ys (others_differ x xs h) (λ tag l r. a tag (contains_later x tag xs l) r) g)

-- all first tags of the lists of the code
abbrev pub tags_of_choices : List Alternative → List Tag
tags_of_choices alternatives = tags_of_alternatives (alternatives_view alternatives)

abbrev pub tags_of_fields : List Field → List Tag
tags_of_fields fields = tags_of_components (components_view fields)

abbrev pub tags_of_fields_run : List Field → List Tag
tags_of_fields_run fields = tags_of_run (components_view fields)

pub tags_of_first_choice : (a : Alternative) (as' : List Alternative) → tags_of_choices (a ∷ as') ≡ first_tags (ty_view a.ty) ++ tags_of_choices as'
tags_of_first_choice a as' = ap (λ s. first_tags s ++ tags_of_choices as') (alternative_type a)

pub tags_of_first_field : (f : Field) (fs : List Field) → tags_of_fields (f ∷ fs) ≡ first_tags (ty_view f.ty) ++ tags_of_fields fs
tags_of_first_field f fs = ap (λ s. first_tags s ++ tags_of_fields fs) (field_type f)

-- no tag of the alternatives is this one
abbrev pub ChoicesLack : Tag → List Alternative → Type 0
ChoicesLack tag alternatives = Contains (tags_of_choices alternatives) tag → ⊥

pub choices_lack_first : (tag : Tag) (a : Alternative) (as' : List Alternative) → ChoicesLack tag (a ∷ as') ↔ ((Contains (first_tags (ty_view a.ty)) tag → ⊥) × ChoicesLack tag as')
choices_lack_first tag a as' =
    let whole = tags_of_first_choice a as' in
    let both = lacks_both (first_tags (ty_view a.ty)) (tags_of_choices as') tag in
    (λ h. both.0 (subst (λ tags. Contains tags tag → ⊥) whole h), λ h. subst (λ tags. Contains tags tag → ⊥) (sym whole) (both.1 h))

-- the tags of the alternatives are apart from these
abbrev pub ChoicesApartFrom : List Tag → List Alternative → Type 0
ChoicesApartFrom tags alternatives = AreApart (tags_of_choices alternatives) tags

pub choices_apart_first : (tags : List Tag) (a : Alternative) (as' : List Alternative) → ChoicesApartFrom tags (a ∷ as') ↔ (AreApart (first_tags (ty_view a.ty)) tags × ChoicesApartFrom tags as')
choices_apart_first tags a as' =
    let whole = tags_of_first_choice a as' in
    let both = both_apart (first_tags (ty_view a.ty)) (tags_of_choices as') tags in
    (λ h. both.0 (subst (λ l. AreApart l tags) whole h), λ h. subst (λ l. AreApart l tags) (sym whole) (both.1 h))

-- these tags are apart from those of the parts
abbrev pub ApartFromChoices : List Tag → List Alternative → Type 0
ApartFromChoices tags alternatives = AreApart tags (tags_of_choices alternatives)

pub apart_from_choices_first : (tags : List Tag) (a : Alternative) (as' : List Alternative) → ApartFromChoices tags (a ∷ as') ↔ (AreApart tags (first_tags (ty_view a.ty)) × ApartFromChoices tags as')
apart_from_choices_first tags a as' =
    let whole = tags_of_first_choice a as' in
    let both = apart_both tags (first_tags (ty_view a.ty)) (tags_of_choices as') in
    (λ h. both.0 (subst (AreApart tags) whole h), λ h. subst (AreApart tags) (sym whole) (both.1 h))

abbrev pub ApartFromFields : List Tag → List Field → Type 0
ApartFromFields tags fields = AreApart tags (tags_of_fields fields)

pub apart_from_fields_first : (tags : List Tag) (f : Field) (fs : List Field) → ApartFromFields tags (f ∷ fs) ↔ (AreApart tags (first_tags (ty_view f.ty)) × ApartFromFields tags fs)
apart_from_fields_first tags f fs =
    let whole = tags_of_first_field f fs in
    let both = apart_both tags (first_tags (ty_view f.ty)) (tags_of_fields fs) in
    (λ h. both.0 (subst (AreApart tags) whole h), λ h. subst (AreApart tags) (sym whole) (both.1 h))

abbrev pub ApartFromRun : List Tag → List Field → Type 0
ApartFromRun tags fields = AreApart tags (tags_of_fields_run fields)

-- the tags of a run, by whether its first component may be absent
tags_of_longer_run : (name : List ℕ) (type : Shape) (r : Requirement) (others : Components) → MayBeAbsent r → tags_of_run (component name type r others) ≡ first_tags type ++ tags_of_run others
tags_of_longer_run name type required others h = absurd h
tags_of_longer_run name type optional others h = refl
tags_of_longer_run name type (default value) others h = refl

tags_of_last_of_run : (name : List ℕ) (type : Shape) (r : Requirement) (others : Components) → (MayBeAbsent r → ⊥) → tags_of_run (component name type r others) ≡ first_tags type
tags_of_last_of_run name type required others h = refl
tags_of_last_of_run name type optional others h = absurd (h tt)
tags_of_last_of_run name type (default value) others h = absurd (h tt)

may_be_absent_or_not : (r : Requirement) → MayBeAbsent r ⊎ (MayBeAbsent r → ⊥)
may_be_absent_or_not required = inr (λ h. h)
may_be_absent_or_not optional = inl tt
may_be_absent_or_not (default value) = inl tt

requirement_is : (f : Field) → (field_view f).requirement ≡ requirement_view f.presence
requirement_is f = ap (λ (c : ComponentView). c.requirement) (field_is f)

pub apart_from_run_first : (tags : List Tag) (f : Field) (fs : List Field) → MayBeAbsent (requirement_view f.presence) → ApartFromRun tags (f ∷ fs) ↔ (AreApart tags (first_tags (ty_view f.ty)) × ApartFromRun tags fs)
apart_from_run_first tags f fs absent =
    let c = field_view f in
    let whole : tags_of_fields_run (f ∷ fs) ≡ first_tags (ty_view f.ty) ++ tags_of_fields_run fs =
    tags_of_longer_run c.name c.type c.requirement (components_view fs) (subst MayBeAbsent (sym (requirement_is f)) absent) ∙ ap (λ s. first_tags s ++ tags_of_fields_run fs) (field_type f) in
    let both = apart_both tags (first_tags (ty_view f.ty)) (tags_of_fields_run fs) in
    (λ h. both.0 (subst (AreApart tags) whole h), λ h. subst (AreApart tags) (sym whole) (both.1 h))

pub apart_from_run_last : (tags : List Tag) (f : Field) (fs : List Field) → (MayBeAbsent (requirement_view f.presence) → ⊥) → ApartFromRun tags (f ∷ fs) ↔ AreApart tags (first_tags (ty_view f.ty))
apart_from_run_last tags f fs stands =
    let c = field_view f in
    let whole : tags_of_fields_run (f ∷ fs) ≡ first_tags (ty_view f.ty) =
    tags_of_last_of_run c.name c.type c.requirement (components_view fs) (λ h. stands (subst MayBeAbsent (requirement_is f) h)) ∙ ap first_tags (field_type f) in
    (λ h. subst (AreApart tags) whole h, λ h. subst (AreApart tags) (sym whole) h)

-- a component that is not apart, whether or not the run goes on behind it
pub apart_from_run_fails : (tags : List Tag) (xs : List Field) (i : ℕ) (x : Field) → i < length xs → x ≡ get_or xs i x → (AreApart tags (first_tags (ty_view x.ty)) → ⊥) → IsLeftTo (ApartFromRun tags) xs i → ApartFromRun tags xs → ⊥
apart_from_run_fails tags xs i x below is fails left h =
    let rest = drop (i + 1) xs in
    let here : ApartFromRun tags (x ∷ rest) = subst (ApartFromRun tags) (left_at xs i x below is) (left.0 h) in
    fails (run_begins tags x rest here)
  where
    run_begins : (tags : List Tag) (f : Field) (fs : List Field) → ApartFromRun tags (f ∷ fs) → AreApart tags (first_tags (ty_view f.ty))
    run_begins tags f fs h = elim (may_be_absent_or_not (requirement_view f.presence)) [ inl absent ↦ ((apart_from_run_first tags f fs absent).0 h).0 | inr stands ↦ (apart_from_run_last tags f fs stands).0 h ]

pub choice_tags : (t : Ty) (v : Vec Alternative Global) (xs : List Alternative) → t ≡ ty.Choice v → xs ≡ v.items → first_tags (ty_view t) ≡ tags_of_choices xs
choice_tags t v xs is same = ap (λ (u : Ty). first_tags (ty_view u)) is ∙ ap first_tags (ty-Choice v) ∙ ap tags_of_choices (sym same)

pub lack_along : (answer : Type 0) (tags others : List Tag) (tag : Tag) → tags ≡ others → answer ↔ (Contains others tag → ⊥) → answer ↔ (Contains tags tag → ⊥)
lack_along answer tags others tag p h = subst (λ l. answer ↔ (Contains l tag → ⊥)) (sym p) h

pub apart_along : (answer : Type 0) (tags others behind : List Tag) → tags ≡ others → answer ↔ AreApart others behind → answer ↔ AreApart tags behind
apart_along answer tags others behind p h = subst (λ l. answer ↔ AreApart l behind) (sym p) h

-- the judgements of whole lists
abbrev pub Runs : List Field → Type 0
Runs fields = RunsAreApart (components_view fields)

abbrev pub StandsApart : Field → List Field → Type 0
StandsApart f fs = MayBeAbsent (field_view f).requirement → AreApart (first_tags (field_view f).type) (tags_of_run (components_view fs))

pub runs_first : (f : Field) (fs : List Field) → Runs (f ∷ fs) ↔ (StandsApart f fs × Runs fs)
runs_first f fs = (λ h. (h.0, h.1), λ h. (h.0, h.1))

abbrev pub Apart : List Field → Type 0
Apart fields = ComponentsAreApart (components_view fields)

pub apart_first : (f : Field) (fs : List Field) → Apart (f ∷ fs) ↔ (AreApart (first_tags (ty_view f.ty)) (tags_of_fields fs) × Apart fs)
apart_first f fs =
    let P : Shape → Type 0 = λ s. AreApart (first_tags s) (tags_of_fields fs) in
    (λ h. (subst P (field_type f) h.0, h.1), λ h. (subst P (sym (field_type f)) h.0, h.1))

abbrev pub ChoicesApart : List Alternative → Type 0
ChoicesApart alternatives = AlternativesAreApart (alternatives_view alternatives)

pub choices_first : (a : Alternative) (as' : List Alternative) → ChoicesApart (a ∷ as') ↔ (AreApart (first_tags (ty_view a.ty)) (tags_of_choices as') × ChoicesApart as')
choices_first a as' =
    let P : Shape → Type 0 = λ s. AreApart (first_tags s) (tags_of_choices as') in
    (λ h. (subst P (alternative_type a) h.0, h.1), λ h. (subst P (sym (alternative_type a)) h.0, h.1))

pub stands_apart : (answer : Type 0) (f : Field) (fs : List Field) → MayBeAbsent (requirement_view f.presence) → answer ↔ AreApart (first_tags (ty_view f.ty)) (tags_of_fields_run fs) → answer ↔ StandsApart f fs
stands_apart answer f fs absent h =
    let P : Shape → Type 0 = λ s. AreApart (first_tags s) (tags_of_fields_run fs) in (
      λ a need. subst P (sym (field_type f)) (h.0 a),
      λ told. h.1 (subst P (field_type f) (told (subst MayBeAbsent (sym (requirement_is f)) absent))),
    )

-- parts that are apart at each node have tags that differ at each node
abbrev AllApart : List Shape → Type 0
AllApart nodes = AllByRecursion TellsPartsApart nodes

abbrev AllDistinct : List Shape → Type 0
AllDistinct nodes = AllByRecursion HasDistinctTags nodes

-- the first tags of each part differ
abbrev DistinctParts : Components → Type 0
DistinctParts no_component = Unit {0}
DistinctParts (component name type requirement others) = AreDistinct (first_tags type) × DistinctParts others

abbrev DistinctChoices : Alternatives → Type 0
DistinctChoices no_alternative = Unit {0}
DistinctChoices (alternative name type others) = AreDistinct (first_tags type) × DistinctChoices others

runs_from_parts : (cs : Components) → RunsAreApart cs → DistinctParts cs → RunsAreDistinct cs × AreDistinct (tags_of_run cs)
runs_from_parts no_component h d = (tt, AllPairs-nil (λ a b. a ≢ b))
runs_from_parts (component name type required others) h d = let rest = runs_from_parts others h.1 d.1 in ((d.0, rest.0), d.0)
runs_from_parts (component name type optional others) h d =
    let rest = runs_from_parts others h.1 d.1 in
    let whole = distinct_both (first_tags type) (tags_of_run others) d.0 (h.0 tt) rest.1 in
    ((whole, rest.0), whole)
runs_from_parts (component name type (default value) others) h d =
    let rest = runs_from_parts others h.1 d.1 in
    let whole = distinct_both (first_tags type) (tags_of_run others) d.0 (h.0 tt) rest.1 in
    ((whole, rest.0), whole)

components_from_parts : (cs : Components) → ComponentsAreApart cs → DistinctParts cs → AreDistinct (tags_of_components cs)
components_from_parts no_component h d = AllPairs-nil (λ a b. a ≢ b)
components_from_parts (component name type requirement others) h d = distinct_both (first_tags type) (tags_of_components others) d.0 h.0 (components_from_parts others h.1 d.1)

alternatives_from_parts : (as' : Alternatives) → AlternativesAreApart as' → DistinctChoices as' → AreDistinct (tags_of_alternatives as')
alternatives_from_parts no_alternative h d = AllPairs-nil (λ a b. a ≢ b)
alternatives_from_parts (alternative name type others) h d = distinct_both (first_tags type) (tags_of_alternatives others) d.0 h.0 (alternatives_from_parts others h.1 d.1)

one_distinct : (tag : Tag) → AreDistinct (tag ∷ [])
one_distinct tag = all_differ-cons tag [] (not_in_nil tag) (AllPairs-nil (λ a b. a ≢ b))

mutual
  distinct_of_shape : (s : Shape) → AllApart (nodes_of s) → AllDistinct (nodes_of s) × AreDistinct (first_tags s)
  distinct_of_shape (Shape.simple tag type) h = ((h.0, tt), one_distinct tag)
  distinct_of_shape (Shape.string tag type) h = ((h.0, tt), one_distinct tag)
  distinct_of_shape (Shape.sequence tag components) h =
      let parts = distinct_of_components components h.1 in
      let runs = runs_from_parts components h.0.1 parts.1 in
      (((h.0.0, runs.0), parts.0), one_distinct tag)
  distinct_of_shape (Shape.set tag components) h =
      let parts = distinct_of_components components h.1 in
      (((h.0.0, components_from_parts components h.0.1 parts.1), parts.0), one_distinct tag)
  distinct_of_shape (Shape.sequence_of tag type) h = ((h.0, (distinct_of_shape type h.1).0), one_distinct tag)
  distinct_of_shape (Shape.set_of tag type) h = ((h.0, (distinct_of_shape type h.1).0), one_distinct tag)
  distinct_of_shape (Shape.choice alternatives) h =
      let parts = distinct_of_alternatives alternatives h.1 in
      let whole = alternatives_from_parts alternatives h.0 parts.1 in
      ((whole, parts.0), whole)
  distinct_of_shape (Shape.explicit tag type) h = ((h.0, (distinct_of_shape type h.1).0), one_distinct tag)

  distinct_of_components : (cs : Components) → AllApart (nodes_of_components cs) → AllDistinct (nodes_of_components cs) × DistinctParts cs
  distinct_of_components no_component h = (tt, tt)
  distinct_of_components (component name type requirement others) h =
      let halves = all_append TellsPartsApart (nodes_of type) (nodes_of_components others) h in
      let first = distinct_of_shape type halves.0 in
      let rest = distinct_of_components others halves.1 in
      (all_both HasDistinctTags (nodes_of type) (nodes_of_components others) first.0 rest.0, (first.1, rest.1))

  distinct_of_alternatives : (as' : Alternatives) → AllApart (nodes_of_alternatives as') → AllDistinct (nodes_of_alternatives as') × DistinctChoices as'
  distinct_of_alternatives no_alternative h = (tt, tt)
  distinct_of_alternatives (alternative name type others) h =
      let halves = all_append TellsPartsApart (nodes_of type) (nodes_of_alternatives others) h in
      let first = distinct_of_shape type halves.0 in
      let rest = distinct_of_alternatives others halves.1 in
      (all_both HasDistinctTags (nodes_of type) (nodes_of_alternatives others) first.0 rest.0, (first.1, rest.1))

-- and the other way round, node by node
runs_apart : (cs : Components) → RunsAreDistinct cs → RunsAreApart cs
runs_apart no_component h = tt
runs_apart (component name type required others) h = (λ absent. absurd absent, runs_apart others h.1)
runs_apart (component name type optional others) h = (λ absent. distinct_apart (first_tags type) (tags_of_run others) h.0, runs_apart others h.1)
runs_apart (component name type (default value) others) h = (λ absent. distinct_apart (first_tags type) (tags_of_run others) h.0, runs_apart others h.1)

components_apart : (cs : Components) → AreDistinct (tags_of_components cs) → ComponentsAreApart cs
components_apart no_component h = tt
components_apart (component name type requirement others) h = (distinct_apart (first_tags type) (tags_of_components others) h, components_apart others (distinct_right (first_tags type) (tags_of_components others) h))

alternatives_apart : (as' : Alternatives) → AreDistinct (tags_of_alternatives as') → AlternativesAreApart as'
alternatives_apart no_alternative h = tt
alternatives_apart (alternative name type others) h = (distinct_apart (first_tags type) (tags_of_alternatives others) h, alternatives_apart others (distinct_right (first_tags type) (tags_of_alternatives others) h))

node_apart : (s : Shape) → HasDistinctTags s → TellsPartsApart s
node_apart (Shape.simple tag type) h = h
node_apart (Shape.string tag type) h = h
node_apart (Shape.sequence tag components) h = (h.0, runs_apart components h.1)
node_apart (Shape.set tag components) h = (h.0, components_apart components h.1)
node_apart (Shape.sequence_of tag type) h = h
node_apart (Shape.set_of tag type) h = h
node_apart (Shape.choice alternatives) h = alternatives_apart alternatives h
node_apart (Shape.explicit tag type) h = h

all_nodes_apart : (nodes : List Shape) → AllDistinct nodes → AllApart nodes
all_nodes_apart [] h = tt
all_nodes_apart (s ∷ nodes) h = (node_apart s h.0, all_nodes_apart nodes h.1)

pub distinct_at_each_node : (s : Shape) → AllByRecursion TellsPartsApart (nodes_of s) ↔ AllByRecursion HasDistinctTags (nodes_of s)
distinct_at_each_node s = (λ h. (distinct_of_shape s h).0, λ h. all_nodes_apart (nodes_of s) h)
