-- Lemmas on which part a tag tells.
use Rattle.std.specs.List.{AllByRecursion}
use Rattle.std.proofs.Common.{◌≡◌, ℕ, zero, suc, List, [], ◌∷◌, Some, None, refl, sym, ap, ◌∙◌, subst, map, Contains}
use Rattle.octets.specs.declared.tag.Tag.{Tag}
use Rattle.types.specs.Shape.{Requirement, required, optional, default, Shape, Components}
use Rattle.types.specs.View.{ComponentView, components_of}
use Rattle.types.specs.FirstTags.{first_tags, AreDistinct, RunsAreDistinct, tags_of_components, tags_of_run}
use Rattle.types.proofs.ListLemmas.{contains_left, contains_right, distinct_apart, distinct_right}
use Rattle.types.proofs.SlotLemmas.{run_is}
use Rattle.encoding_parts.specs.Parts.{Parts, SetComponent, IsDue, IsNextOf, IsVacant, once_come, IsGoodType, IsGoodComponent, AreGood}

-- the same part, as far as more may come, of the same type; the parts of an explicit tag and items are not counted
pub record IsSameDue (parts : Parts) (i j : ℕ) (T U : Shape) : Type 0 where
  pub which : once_come parts i ≡ once_come parts j
  pub type : T ≡ U

-- the same component, of the same type
record IsSameAt (i j : ℕ) (T U : Shape) : Type 0 where
  which : i ≡ j
  type : T ≡ U

same_later : (i j : ℕ) (T U : Shape) → IsSameAt i j T U → IsSameAt (suc i) (suc j) T U
same_later i j T U h = record { which = ap suc h.which; type = h.type }

-- a tag of a component up to which those before may be absent is one of the run
next_in_run : (left : List ComponentView) (which : ℕ) (type : Shape) (tag : Tag) → IsNextOf left which type → Contains (first_tags type) tag → Contains (tags_of_run (components_of left)) tag
next_in_run [] which type tag h c = elim h [ ]
next_in_run (x ∷ left) zero type tag h c = first_in_run x.name x.type x.requirement (components_of left) tag (subst (λ t. Contains (first_tags t) tag) (sym h) c)
  where
    first_in_run : (name : List ℕ) (own : Shape) (requirement : Requirement) (others : Components) (first : Tag) → Contains (first_tags own) first → Contains (tags_of_run (Components.component name own requirement others)) first
    first_in_run name own required others first is = is
    first_in_run name own optional others first is = contains_left (first_tags own) (tags_of_run others) first is
    first_in_run name own (default value) others first is = contains_left (first_tags own) (tags_of_run others) first is
next_in_run (x ∷ left) (suc which) type tag h c =
    subst (λ tags. Contains tags tag) (sym (run_is x.name x.type x.requirement (components_of left) h.0)) (contains_right (first_tags x.type) (tags_of_run (components_of left)) tag (next_in_run left which type tag h.1 c))

-- a tag of a component that may be absent is none of what may come next
not_next : (x : ComponentView) (left : List ComponentView) (which : ℕ) (T U : Shape) (tag : Tag) → RunsAreDistinct (components_of (x ∷ left)) → x.type ≡ T → IsNextOf (x ∷ left) (suc which) U → Contains (first_tags T) tag → Contains (first_tags U) tag → ⊥
not_next x left which T U tag good h g k m =
    distinct_apart (first_tags x.type) (tags_of_run (components_of left)) (subst AreDistinct (run_is x.name x.type x.requirement (components_of left) g.0) good.0) tag
    (subst (λ t. Contains (first_tags t) tag) (sym h) k) (next_in_run left which U tag g.1 m)

next_once : (left : List ComponentView) (i j : ℕ) (T U : Shape) (tag : Tag) → RunsAreDistinct (components_of left) → IsNextOf left i T → IsNextOf left j U → Contains (first_tags T) tag → Contains (first_tags U) tag → IsSameAt i j T U
next_once [] i j T U tag good h g k m = elim h [ ]
next_once (x ∷ left) zero zero T U tag good h g k m = record { which = refl; type = sym h ∙ g }
next_once (x ∷ left) zero (suc j) T U tag good h g k m = absurd (not_next x left j T U tag good h g k m)
next_once (x ∷ left) (suc i) zero T U tag good h g k m = absurd (not_next x left i U T tag good g h m k)
next_once (x ∷ left) (suc i) (suc j) T U tag good h g k m = same_later i j T U (next_once left i j T U tag good.1 h.1 g.1 k m)

abbrev tags_of_set_components : List SetComponent → List Tag
tags_of_set_components set_components = tags_of_components (components_of (map (λ s. s.component) set_components))

vacant_in_set_components : (set_components : List SetComponent) (which : ℕ) (type : Shape) (tag : Tag) → IsVacant set_components which type → Contains (first_tags type) tag → Contains (tags_of_set_components set_components) tag
vacant_in_set_components [] which type tag h c = elim h [ ]
vacant_in_set_components (s ∷ set_components) zero type tag h c = contains_left (first_tags s.component.type) (tags_of_set_components set_components) tag (subst (λ t. Contains (first_tags t) tag) (sym h.1) c)
vacant_in_set_components (s ∷ set_components) (suc which) type tag h c = contains_right (first_tags s.component.type) (tags_of_set_components set_components) tag (vacant_in_set_components set_components which type tag h c)

not_come_by : (s : SetComponent) (set_components : List SetComponent) (which : ℕ) (T U : Shape) (tag : Tag) → AreDistinct (tags_of_set_components (s ∷ set_components)) → s.component.type ≡ T → IsVacant set_components which U → Contains (first_tags T) tag → Contains (first_tags U) tag → ⊥
not_come_by s set_components which T U tag good h g k m =
    distinct_apart (first_tags s.component.type) (tags_of_set_components set_components) good tag (subst (λ t. Contains (first_tags t) tag) (sym h) k) (vacant_in_set_components set_components which U tag g m)

vacant_once : (set_components : List SetComponent) (i j : ℕ) (T U : Shape) (tag : Tag) → AreDistinct (tags_of_set_components set_components) → IsVacant set_components i T → IsVacant set_components j U → Contains (first_tags T) tag → Contains (first_tags U) tag → IsSameAt i j T U
vacant_once [] i j T U tag good h g k m = elim h [ ]
vacant_once (s ∷ set_components) zero zero T U tag good h g k m = record { which = refl; type = sym h.1 ∙ g.1 }
vacant_once (s ∷ set_components) zero (suc j) T U tag good h g k m = absurd (not_come_by s set_components j T U tag good h.1 g k m)
vacant_once (s ∷ set_components) (suc i) zero T U tag good h g k m = absurd (not_come_by s set_components i U T tag good g.1 h m k)
vacant_once (s ∷ set_components) (suc i) (suc j) T U tag good h g k m =
    same_later i j T U (vacant_once set_components i j T U tag (distinct_right (first_tags s.component.type) (tags_of_set_components set_components) good) h g k m)

-- a tag tells one part that may come next
pub due_once : (parts : Parts) (i j : ℕ) (T U : Shape) (tag : Tag) → AreGood parts → IsDue parts i T → IsDue parts j U → Contains (first_tags T) tag → Contains (first_tags U) tag → IsSameDue parts i j T U
due_once (Parts.explicit inner None) i j T U tag good h g k m = record { which = refl; type = sym h ∙ g }
due_once (Parts.explicit inner (Some value)) i j T U tag good h g k m = elim h [ ]
due_once (Parts.items inner values) i j T U tag good h g k m = record { which = refl; type = sym h ∙ g }
due_once (Parts.sequence passed slots left) i j T U tag good h g k m =
    let same = next_once left i j T U tag good.1 h g k m in
    record { which = ap (once_come (Parts.sequence passed slots left)) same.which; type = same.type }
due_once (Parts.set set_components) i j T U tag good h g k m =
    let same = vacant_once set_components i j T U tag good.1 h g k m in
    record { which = ap (once_come (Parts.set set_components)) same.which; type = same.type }

next_good : (left : List ComponentView) (which : ℕ) (type : Shape) → AllByRecursion IsGoodComponent left → IsNextOf left which type → IsGoodType type
next_good [] which type good h = elim h [ ]
next_good (x ∷ left) zero type good h = subst IsGoodType h good.0.type
next_good (x ∷ left) (suc which) type good h = next_good left which type good.1 h.1

vacant_good : (set_components : List SetComponent) (which : ℕ) (type : Shape) → AllByRecursion (λ s. IsGoodComponent s.component) set_components → IsVacant set_components which type → IsGoodType type
vacant_good [] which type good h = elim h [ ]
vacant_good (s ∷ set_components) zero type good h = subst IsGoodType h.1 good.0.type
vacant_good (s ∷ set_components) (suc which) type good h = vacant_good set_components which type good.1 h

pub due_good : (parts : Parts) (which : ℕ) (type : Shape) → AreGood parts → IsDue parts which type → IsGoodType type
due_good (Parts.explicit inner None) which type good h = subst IsGoodType h good
due_good (Parts.explicit inner (Some value)) which type good h = elim h [ ]
due_good (Parts.items inner values) which type good h = subst IsGoodType h good
due_good (Parts.sequence passed slots left) which type good h = next_good left which type good.0 h
due_good (Parts.set set_components) which type good h = vacant_good set_components which type good.0 h
