-- First tags of some types, and lists of components and alternatives whose tags tell them apart or do not.
use Rattle.std.proofs.Common.{◌≡◌, List, [], ◌∷◌, refl, arith, true, pos, Contains}
use Rattle.octets.specs.declared.tag.Tag.{Tag}
use Rattle.types.specs.Shape.{Shape, Requirement, required, optional, default, Components, no_component, component, no_alternative, alternative}
use Rattle.types.specs.FirstTags.{first_tags, AreDistinct, RunsAreDistinct, HasDistinctTags}
use Rattle.types.specs.WellFormed.{IsWellFormed}
use Rattle.types.proofs.ListLemmas.{first_differs, contains_first, contains_later}
use Rattle.types.proofs.FormInstances.{universal, context, usable_universal}
use Rattle.types.proofs.LeafInstances.{boolean, integer, null, truth, number}
use Rattle.types.proofs.TypeInstances.{a, b, null_or_boolean, one_differs, two_differ, higher}

-- a CHOICE has those of its alternatives, and of theirs
of_nested_choice : first_tags (Shape.choice (alternative a (null (universal 5)) (alternative b (Shape.choice (alternative a boolean (alternative b (null (context 3)) no_alternative))) no_alternative))) ≡ universal 5 ∷ universal 1 ∷ context 3 ∷ []
of_nested_choice = refl

-- under an explicit tag, or one that stands in place of its own, a type has that tag alone
of_explicit_choice : first_tags (Shape.explicit (context 0) null_or_boolean) ≡ context 0 ∷ []
of_explicit_choice = refl

of_implicit_sequence : first_tags (Shape.sequence (context 7) (component a (null (universal 5)) optional no_component)) ≡ context 7 ∷ []
of_implicit_sequence = refl

of_no_alternatives : first_tags (Shape.choice no_alternative) ≡ []
of_no_alternatives = refl

-- lists with one tag twice
twice : (t : Tag) (tags : List Tag) → Contains tags t → AreDistinct (t ∷ tags) → ⊥
twice t tags c h = first_differs t tags h c

second : (t u : Tag) (tags : List Tag) → Contains (u ∷ t ∷ tags) t
second t u tags = contains_later u t (t ∷ tags) (contains_first t t tags refl)

-- two components of one type that both must stand, or of which the second may be absent, are told apart
abbrev two_integers : Requirement → Requirement → Components
two_integers first last = component a integer first (component b integer last no_component)

both_required : RunsAreDistinct (two_integers required required)
both_required = (one_differs (universal 2), (one_differs (universal 2), tt))

last_optional : RunsAreDistinct (two_integers required optional)
last_optional = (one_differs (universal 2), (one_differs (universal 2), tt))

-- but not where the first may be absent: the run goes up to the component that must stand, with it
first_optional : RunsAreDistinct (two_integers optional required) → ⊥
first_optional h = twice (universal 2) (universal 2 ∷ []) (contains_first (universal 2) (universal 2) [] refl) h.0

-- nor NULL OPTIONAL, BOOLEAN DEFAULT TRUE and NULL, be the last one required or not: neighbours alone are not enough
abbrev null_boolean_null : Requirement → Requirement → Requirement → Components
null_boolean_null first second third = component a (null (universal 5)) first (component b boolean second (component a (null (universal 5)) third no_component))

across : RunsAreDistinct (null_boolean_null optional (default (truth true)) required) → ⊥
across h = twice (universal 5) (universal 1 ∷ universal 5 ∷ []) (second (universal 5) (universal 1) []) h.0

across-optional : RunsAreDistinct (null_boolean_null optional (default (truth true)) optional) → ⊥
across-optional h = twice (universal 5) (universal 1 ∷ universal 5 ∷ []) (second (universal 5) (universal 1) []) h.0

-- a BOOLEAN that must stand ends the run
ended : RunsAreDistinct (null_boolean_null optional required optional)
ended = (
  two_differ (universal 5) (universal 1) (higher (universal 5) (universal 1) (omega arith)),
  (one_differs (universal 1), (one_differs (universal 5), tt)),
)

-- what counts are the first tags of a CHOICE: INTEGER DEFAULT 1 before CHOICE { a NULL, b INTEGER }, and CHOICE { a NULL,
-- b CHOICE { a NULL } }, are not told apart
before_choice : RunsAreDistinct (component a integer (default (number (pos 1))) (component b (Shape.choice (alternative a (null (universal 5)) (alternative b integer no_alternative))) required no_component)) → ⊥
before_choice h = twice (universal 2) (universal 5 ∷ universal 2 ∷ []) (second (universal 2) (universal 5) []) h.0

within_choice : IsWellFormed (Shape.choice (alternative a (null (universal 5)) (alternative b (Shape.choice (alternative a (null (universal 5)) no_alternative)) no_alternative))) → ⊥
within_choice h = twice (universal 5) (universal 5 ∷ []) (contains_first (universal 5) (universal 5) [] refl) h.tags.0

-- NULL, BOOLEAN and NULL are components of a SEQUENCE and not of a SET, whose components all differ
of_sequence : HasDistinctTags (Shape.sequence (universal 16) (null_boolean_null required required required))
of_sequence = (usable_universal 16 (omega arith), (one_differs (universal 5), (one_differs (universal 1), (one_differs (universal 5), tt))))

of_set : IsWellFormed (Shape.set (universal 17) (null_boolean_null required required required)) → ⊥
of_set h = twice (universal 5) (universal 1 ∷ universal 5 ∷ []) (second (universal 5) (universal 1) []) h.tags.0.1

-- universal 0 is no tag of a type, alone, of an explicit tag, or within another type
universal_0 : IsWellFormed (null (universal 0)) → ⊥
universal_0 h = h.tags.0 refl refl

universal_0-explicit : IsWellFormed (Shape.explicit (universal 0) integer) → ⊥
universal_0-explicit h = h.tags.0 refl refl

universal_0-within : IsWellFormed (Shape.sequence_of (universal 16) (null (universal 0))) → ⊥
universal_0-within h = h.tags.1.0 refl refl
