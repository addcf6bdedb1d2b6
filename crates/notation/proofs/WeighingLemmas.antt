-- The weight of an expression out of those of its parts.
use Rattle.std.proofs.Common.{◌≡◌, ◌≢◌, ◌+◌, ◌++◌, ◌<◌, ◌≤◌, ◌↔◌, ◌⊎◌, inl, inr, ℕ, zero, suc, max, All, Bool, true, false, List, [], ◌∷◌, Option, Some, None, map, length, get_or, slice_get, unwrap_or, refl, sym, ap, ◌∙◌, subst, arith, Contains}
use mathlib.Core.Bool.{beq}
use Rattle.std.specs.Option.{option_eq}
use Rattle.std.specs.List.{AllByRecursion, AllPairs}
use Rattle.std.specs.Prelude.{option_and_then}
use Rattle.std.proofs.lemmas.Bool.{cases_lt}
use Rattle.std.proofs.lemmas.List.Elements.{Contains-append_left, Contains-append_right}
use Rattle.std.proofs.lemmas.Simd.{map-map}
use Rattle.types.specs.Shape.{Shape}
use Rattle.types.specs.View.{ComponentView, AlternativeView}
use Rattle.types.specs.WellFormed.{IsWellFormed}
use Rattle.syntax.specs.declared.tree.Module.{Module}
use Rattle.syntax.specs.declared.tree.Group.{Group}
use Rattle.syntax.specs.declared.tree.TagPrefix.{TagPrefix}
use Rattle.syntax.specs.declared.tree.Component.{Component}
use Rattle.syntax.specs.declared.tree.Alternative.{Alternative}
use Rattle.syntax.specs.declared.tree.NamedBit.{NamedBit}
use Rattle.syntax.specs.Tree.{Ending, Entry, Form, tagged, list, of, choice, enumerated, named_bits, reference, Tree}
use Rattle.syntax.specs.View.{form, tree, component, alternative, bit, components_of as written_components, alternatives_of as written_alternatives}
use Rattle.builtin_types.specs.Tagging.{IsUntaggedChoice}
use Rattle.builtin_types.specs.Names.{NamesDiffer}
use Rattle.builtin_types.specs.Numbering.{AreWithin, NumbersDiffer}
use Rattle.notation.specs.Meaning.{IsAssigned, IsMeaning}
use Rattle.notation.specs.Parts.{IsPart, IsComponent, IsAlternative}
use Rattle.notation.specs.References.{names_in, names_in_components, names_in_alternatives}
use Rattle.notation.specs.Under.{IsExplicitAt, IsImplicitAt}
use Rattle.notation.specs.Size.{counted, HaveSize, PartHasSize, ComponentsHaveSize, AlternativesHaveSize}
use Rattle.notation.specs.Refused.{HasNoType, NeverHasType, PartHasNoType, ComponentsHaveNoTypes, AlternativesHaveNoTypes}
use Rattle.notation.specs.Known.{IsScope}
use Rattle.notation.specs.Settled.{place_in, known_at, known_of, MeansNothing}
use Rattle.notation.specs.Weighed.{IsWeight, IsOwnWeight, IsPartWeight, IsComponentsWeight, IsAlternativesWeight, AreWeighed, CanWeigh}
use Rattle.notation.specs.declared.scope.Seen.{Seen}
use Rattle.notation.specs.declared.scope.Scope.{Scope}
use Rattle.notation.specs.declared.weight.Weight.{Weight}
use Rattle.notation.proofs.KnownLemmas.{stands_at, assigned_at}
use Rattle.notation.proofs.SettledLemmas.{place_known}
use Rattle.notation.proofs.UniqueLemmas.{one_assignment}
use Rattle.notation.proofs.PartsLemmas.{parts_last}
use Rattle.notation.proofs.ListLemmas.{automatic_in, automatic_among, names_of_components, names_of_alternatives}
use Rattle.notation.proofs.SizeLemmas.{size-reference, size-explicit_tag, size-implicit_tag, size-of, size-list, part_size-automatic, part_size-choice, components_size-more}
use Rattle.notation.proofs.ChoiceSizeLemmas.{alternatives_size-more, size-choice}
use Rattle.notation.proofs.RefusedLemmas.{never-nothing, never-reference, never-explicit, never-implicit, never-of, no_part-automatic, no_part-choice, never-list, never-choice, never-equal_components, never-equal_alternatives}
use Rattle.notation.proofs.LimitLemmas.{all_behind, never-items, never-bits, never-long_list, never-long_choice}
use Rattle.notation.proofs.WeighedLemmas.{weighs_any, weighs_on, weighs_as, weighs_beside}

-- a test for a known truth
pub is_true : (told : Option Bool) → true ≡ option_eq beq told (Some true) → told ≡ Some true
is_true None e = absurd cc
is_true (Some true) e = refl
is_true (Some false) e = absurd cc

pub is_other : (told : Option Bool) → false ≡ option_eq beq told (Some true) → (told ≡ None) ⊎ (told ≡ Some false)
is_other None e = inl refl
is_other (Some true) e = absurd cc
is_other (Some false) e = inr refl

-- an ENUMERATED of which one condition is not kept
pub never-item_count : (m : Tree) (entries : List Entry) (count : ℕ) → count ≡ length entries → ((1 ≤ count) × (count ≤ 256) → ⊥) → NeverHasType m (enumerated entries)
never-item_count m entries count is out = never-items m entries (λ h. out (subst (λ (n : ℕ). (1 ≤ n) × (n ≤ 256)) (sym is) (h.some, h.few)))

pub never-great_number : (m : Tree) (entries : List Entry) → (AreWithin entries → ⊥) → NeverHasType m (enumerated entries)
never-great_number m entries out = never-items m entries (λ h. out h.within)

pub never-equal_items : (m : Tree) (entries : List Entry) → (NamesDiffer (map (λ (entry : Entry). entry.0) entries) → ⊥) → NeverHasType m (enumerated entries)
never-equal_items m entries equal = never-items m entries (λ h. equal h.names)

pub never-equal_numbers : (m : Tree) (entries : List Entry) → (NumbersDiffer entries → ⊥) → NeverHasType m (enumerated entries)
never-equal_numbers m entries equal = never-items m entries (λ h. equal h.numbers_differ)

-- and named bits of which one is not
pub never-bit_count : (m : Tree) (bits : List (List ℕ × ℕ)) (count : ℕ) → count ≡ length bits → ((1 ≤ count) × (count ≤ 256) → ⊥) → NeverHasType m (named_bits bits)
never-bit_count m bits count is out = never-bits m bits (λ h. out (subst (λ (n : ℕ). (1 ≤ n) × (n ≤ 256)) (sym is) (h.some, h.few)))

pub never-great_bit : (m : Tree) (bits : List NamedBit) → (All (λ (bit : NamedBit). bit.number ≤ 65_535) bits → ⊥) → NeverHasType m (named_bits (map bit bits))
never-great_bit m bits out = never-bits m (map bit bits) (λ h. out (all_behind (λ (b : List ℕ × ℕ). b.1 ≤ 65_535) bit bits h.within))

pub never-equal_bits : (m : Tree) (bits : List (List ℕ × ℕ)) → (NamesDiffer (map (λ (bit : List ℕ × ℕ). bit.0) bits) → ⊥) → NeverHasType m (named_bits bits)
never-equal_bits m bits equal = never-bits m bits (λ h. equal h.names)

pub never-equal_bit_numbers : (m : Tree) (bits : List NamedBit) → (AllPairs (λ (a b : ℕ). a ≢ b) (map (λ (bit : NamedBit). bit.number) bits) → ⊥) → NeverHasType m (named_bits (map bit bits))
never-equal_bit_numbers m bits equal = never-bits m (map bit bits) (λ h. equal (subst (AllPairs (λ (a b : ℕ). a ≢ b)) (map-map (λ (b : List ℕ × ℕ). b.1) bit bits) h.numbers_differ))

-- what means nothing has any weight
pub weighs_nothing : (m : Tree) (f : Form) (w : Weight) → MeansNothing m f → IsWeight m f w
weighs_nothing m f w none = weighs_any (HaveSize m f) (NeverHasType m f) w (λ nodes levels type d. absurd (none type d)) (never-nothing m f none)

pub weighs_own : (m : Tree) (f : Form) (w : Weight) → IsWeight m f w → IsOwnWeight m f w
weighs_own m f w h = weighs_as (HaveSize m f) (HaveSize m f) (NeverHasType m f) (HasNoType m None f) w (λ nodes levels size. size) (λ never. never None) h

-- a part that means nothing
part_of_nothing : {A : Type 0} (m : Tree) (automatic : Bool) (place : ℕ) (f : Form) → MeansNothing m f → (type : Shape) → IsPart m automatic place f type → A
part_of_nothing m false place f none type d = absurd (none type d)
part_of_nothing m true place f none type (own, d, e) = absurd (none own d)

pub weighs_part-nothing : (m : Tree) (automatic : Bool) (place : ℕ) (f : Form) (w : Weight) → MeansNothing m f → IsPartWeight m automatic place f w
weighs_part-nothing m automatic place f w none =
    weighs_any (PartHasSize m automatic place f) (PartHasNoType m automatic place f) w (λ nodes levels type d. part_of_nothing m automatic place f none type d) (λ type d good. part_of_nothing m automatic place f none type d)

-- a name has the weight that is known of it
known-at : (o : Option (Option Seen)) (seen : Seen) → unwrap_or o None ≡ Some seen → o ≡ Some (Some seen)
known-at None seen e = absurd cc
known-at (Some known) seen e = ap Some e

pub weighs_seen : (m : Module) (scope : Scope) (name : List ℕ) (seen : Seen) → IsScope m scope → AreWeighed m scope → known_of (tree m) scope.seen.items name ≡ Some seen → IsWeight (tree m) (reference name) seen.weight
weighs_seen m scope name seen s weighed is = by_place (place_in (tree m) name) refl
  where
    by_place : (place : Option ℕ) → place_in (tree m) name ≡ place → IsWeight (tree m) (reference name) seen.weight
    by_place None at = absurd (let none : option_and_then (known_at scope.seen.items) None ≡ Some seen = sym (ap (option_and_then (known_at scope.seen.items)) at) ∙ is in cc)
    by_place (Some place) at =
        let stands = stands_at m scope name place s (place_known m scope name s ∙ at) in
        let body = form stands.assignment.body in
        let known : known_at scope.seen.items place ≡ Some seen = sym (ap (option_and_then (known_at scope.seen.items)) at) ∙ is in
        let own = weighed place stands.assignment seen stands.at (known-at (slice_get scope.seen.items place) seen known) in
        let once : (other : Form) → IsAssigned (tree m) name other → body ≡ other = λ other a. one_assignment (tree m) s.differ name body other (assigned_at m name place stands) a in
        weighs_as (HaveSize (tree m) body) (HaveSize (tree m) (reference name)) (NeverHasType (tree m) body) (NeverHasType (tree m) (reference name)) seen.weight (λ nodes levels h. size-reference (tree m) name body nodes levels once h) (never-reference (tree m) name body once) own

-- a tag in front, SEQUENCE OF and SET OF
pub weighs_explicit : (m : Tree) (prefix : TagPrefix) (f : Form) (w v : Weight) → IsExplicitAt m prefix f → v.nodes ≡ counted (w.nodes + 1) → v.levels ≡ counted (w.levels + 1) → v.cause ≡ w.cause → IsOwnWeight m f w → IsWeight m (tagged prefix f) v
weighs_explicit m prefix f w v explicit nodes levels cause h =
    weighs_on (HaveSize m f) (HaveSize m (tagged prefix f)) (HasNoType m None f) (NeverHasType m (tagged prefix f)) w v (λ n. counted (n + 1)) (λ n. counted (n + 1)) nodes levels cause (λ n l size. size-explicit_tag m prefix f n l explicit size) (never-explicit m prefix f explicit) h

pub weighs_implicit : (m : Tree) (prefix : TagPrefix) (f : Form) (w : Weight) → IsImplicitAt m prefix f → IsWeight m f w → IsWeight m (tagged prefix f) w
weighs_implicit m prefix f w implicit h =
    weighs_as (HaveSize m f) (HaveSize m (tagged prefix f)) (NeverHasType m f) (NeverHasType m (tagged prefix f)) w (λ n l size. size-implicit_tag m prefix f n l implicit size) (never-implicit m prefix f implicit) h

pub weighs_of : (m : Tree) (group : Group) (f : Form) (w v : Weight) → v.nodes ≡ counted (w.nodes + 1) → v.levels ≡ counted (w.levels + 1) → v.cause ≡ w.cause → IsOwnWeight m f w → IsWeight m (of group f) v
weighs_of m group f w v nodes levels cause h =
    weighs_on (HaveSize m f) (HaveSize m (of group f)) (HasNoType m None f) (NeverHasType m (of group f)) w v (λ n. counted (n + 1)) (λ n. counted (n + 1)) nodes levels cause (λ n l size. size-of m group f n l size) (never-of m group f) h

-- parts of lists
pub weighs_part-automatic : (m : Tree) (place : ℕ) (f : Form) (w : Weight) → ((type : Shape) → IsMeaning m f type → IsUntaggedChoice type → ⊥) → IsWeight m f w → IsPartWeight m true place f w
weighs_part-automatic m place f w others h =
    weighs_as (HaveSize m f) (PartHasSize m true place f) (NeverHasType m f) (PartHasNoType m true place f) w (λ n l size. part_size-automatic m place f n l others size) (λ never. no_part-automatic m place f others (never (Some _))) h

pub weighs_part-choice : (m : Tree) (place : ℕ) (f : Form) (w v : Weight) → ((type : Shape) → IsMeaning m f type → IsUntaggedChoice type) → v.nodes ≡ counted (w.nodes + 1) → v.levels ≡ counted (w.levels + 1) → v.cause ≡ w.cause → IsWeight m f w → IsPartWeight m true place f v
weighs_part-choice m place f w v choices nodes levels cause h =
    weighs_on (HaveSize m f) (PartHasSize m true place f) (NeverHasType m f) (PartHasNoType m true place f) w v (λ n. counted (n + 1)) (λ n. counted (n + 1)) nodes levels cause (λ n l size. part_size-choice m place f n l choices size) (λ never. no_part-choice m place f choices (never None)) h

-- the parts of a list one by one
all_last : {V : Type 0} (IsGood : Shape → Type 0) (type : V → Shape) (vs : List V) (v : V) → AllByRecursion IsGood (map type (vs ++ v ∷ [])) → AllByRecursion IsGood (map type vs) × IsGood (type v)
all_last IsGood type [] v h = (tt, h.0)
all_last IsGood type (x ∷ vs) v h = let r = all_last IsGood type vs v h.1 in ((h.0, r.0), r.1)

no_components-before : (m : Tree) (automatic : Bool) (ws : List (List ℕ × Form × Ending)) (w : List ℕ × Form × Ending) → ComponentsHaveNoTypes m automatic ws → ComponentsHaveNoTypes m automatic (ws ++ w ∷ [])
no_components-before m automatic ws w none vs all good =
    let l = parts_last (IsComponent m automatic) 0 ws w vs all in
    let each = all_last IsWellFormed (λ (v : ComponentView). v.type) l.front l.last (subst (λ (i : List ComponentView). AllByRecursion IsWellFormed (map (λ (v : ComponentView). v.type) i)) l.whole good) in
    none l.front l.before each.0

no_components-last : (m : Tree) (automatic : Bool) (ws : List (List ℕ × Form × Ending)) (w : List ℕ × Form × Ending) → PartHasNoType m automatic (length ws) w.1 → ComponentsHaveNoTypes m automatic (ws ++ w ∷ [])
no_components-last m automatic ws w none vs all good =
    let l = parts_last (IsComponent m automatic) 0 ws w vs all in
    let each = all_last IsWellFormed (λ (v : ComponentView). v.type) l.front l.last (subst (λ (i : List ComponentView). AllByRecursion IsWellFormed (map (λ (v : ComponentView). v.type) i)) l.whole good) in
    none l.last.type (subst (λ (n : ℕ). IsPart m automatic n w.1 l.last.type) (let e : 0 + length ws ≡ length ws = omega arith in e) l.one.type) each.1

pub weighs_components-more : (m : Tree) (automatic : Bool) (ws : List (List ℕ × Form × Ending)) (w : List ℕ × Form × Ending) (so_far more both : Weight) → both.nodes ≡ counted (so_far.nodes + more.nodes) → both.levels ≡ max so_far.levels more.levels → both.cause ≡ None ↔ ((so_far.cause ≡ None) × (more.cause ≡ None))
    → IsComponentsWeight m automatic ws so_far → IsPartWeight m automatic (length ws) w.1 more → IsComponentsWeight m automatic (ws ++ w ∷ []) both
weighs_components-more m automatic ws w so_far more both nodes levels cause h part =
    weighs_beside (ComponentsHaveSize m automatic ws) (PartHasSize m automatic (length ws) w.1) (ComponentsHaveSize m automatic (ws ++ w ∷ [])) (ComponentsHaveNoTypes m automatic ws) (PartHasNoType m automatic (length ws) w.1) (ComponentsHaveNoTypes m automatic (ws ++ w ∷ [])) so_far more both nodes levels cause
    (components_size-more m automatic ws w) (no_components-before m automatic ws w) (no_components-last m automatic ws w) h part

pub weighs_list : (m : Tree) (group : Group) (ws : List (List ℕ × Form × Ending)) (w v : Weight) → v.nodes ≡ counted (w.nodes + 1) → v.levels ≡ counted (w.levels + 1) → v.cause ≡ w.cause → IsComponentsWeight m (automatic_in m ws) ws w → IsWeight m (list group (written_components ws)) v
weighs_list m group ws w v nodes levels cause h =
    weighs_on (ComponentsHaveSize m (automatic_in m ws) ws) (HaveSize m (list group (written_components ws))) (ComponentsHaveNoTypes m (automatic_in m ws) ws) (NeverHasType m (list group (written_components ws))) w v (λ n. counted (n + 1)) (λ n. counted (n + 1)) nodes levels cause
    (λ n l size. size-list m group ws n l size) (never-list m group ws) h

-- those of a CHOICE
no_alternatives-before : (m : Tree) (automatic : Bool) (ws : List (List ℕ × Form)) (w : List ℕ × Form) → AlternativesHaveNoTypes m automatic ws → AlternativesHaveNoTypes m automatic (ws ++ w ∷ [])
no_alternatives-before m automatic ws w none vs all good =
    let l = parts_last (IsAlternative m automatic) 0 ws w vs all in
    let each = all_last IsWellFormed (λ (v : AlternativeView). v.type) l.front l.last (subst (λ (i : List AlternativeView). AllByRecursion IsWellFormed (map (λ (v : AlternativeView). v.type) i)) l.whole good) in
    none l.front l.before each.0

no_alternatives-last : (m : Tree) (automatic : Bool) (ws : List (List ℕ × Form)) (w : List ℕ × Form) → PartHasNoType m automatic (length ws) w.1 → AlternativesHaveNoTypes m automatic (ws ++ w ∷ [])
no_alternatives-last m automatic ws w none vs all good =
    let l = parts_last (IsAlternative m automatic) 0 ws w vs all in
    let each = all_last IsWellFormed (λ (v : AlternativeView). v.type) l.front l.last (subst (λ (i : List AlternativeView). AllByRecursion IsWellFormed (map (λ (v : AlternativeView). v.type) i)) l.whole good) in
    none l.last.type (subst (λ (n : ℕ). IsPart m automatic n w.1 l.last.type) (let e : 0 + length ws ≡ length ws = omega arith in e) l.one.type) each.1

pub weighs_alternatives-more : (m : Tree) (automatic : Bool) (ws : List (List ℕ × Form)) (w : List ℕ × Form) (so_far more both : Weight) → both.nodes ≡ counted (so_far.nodes + more.nodes) → both.levels ≡ max so_far.levels more.levels → both.cause ≡ None ↔ ((so_far.cause ≡ None) × (more.cause ≡ None))
    → IsAlternativesWeight m automatic ws so_far → IsPartWeight m automatic (length ws) w.1 more → IsAlternativesWeight m automatic (ws ++ w ∷ []) both
weighs_alternatives-more m automatic ws w so_far more both nodes levels cause h part =
    weighs_beside (AlternativesHaveSize m automatic ws) (PartHasSize m automatic (length ws) w.1) (AlternativesHaveSize m automatic (ws ++ w ∷ [])) (AlternativesHaveNoTypes m automatic ws) (PartHasNoType m automatic (length ws) w.1) (AlternativesHaveNoTypes m automatic (ws ++ w ∷ [])) so_far more both nodes levels cause
    (alternatives_size-more m automatic ws w) (no_alternatives-before m automatic ws w) (no_alternatives-last m automatic ws w) h part

pub weighs_choice : (m : Tree) (ws : List (List ℕ × Form)) (w v : Weight) → v.nodes ≡ counted (w.nodes + 1) → v.levels ≡ w.levels → v.cause ≡ w.cause → IsAlternativesWeight m (automatic_among m ws) ws w → IsWeight m (choice (written_alternatives ws)) v
weighs_choice m ws w v nodes levels cause h =
    weighs_on (AlternativesHaveSize m (automatic_among m ws) ws) (HaveSize m (choice (written_alternatives ws))) (AlternativesHaveNoTypes m (automatic_among m ws) ws) (NeverHasType m (choice (written_alternatives ws))) w v (λ n. counted (n + 1)) (λ n. n) nodes levels cause
    (λ n l size. size-choice m ws n l size) (never-choice m ws) h

-- what is refused of a list in whole
pub never-many_components : (m : Tree) (group : Group) (ws : List (List ℕ × Form × Ending)) (count : ℕ) → count ≡ length ws → 256 < count → NeverHasType m (list group (written_components ws))
never-many_components m group ws count is many = never-long_list m group ws (subst (λ (n : ℕ). 256 < n) is many)

pub never-same_components : (m : Tree) (group : Group) (ws : List (List ℕ × Form × Ending)) → (NamesDiffer (map (λ (w : List ℕ × Form × Ending). w.0) ws) → ⊥) → NeverHasType m (list group (written_components ws))
never-same_components m group ws same = never-equal_components m group ws (λ differ. same (subst NamesDiffer (names_of_components ws) differ))

out_of : (n : ℕ) → ((1 ≤ n) × (n ≤ 256) → ⊥) → (n ≡ 0) ⊎ (256 < n)
out_of zero out = inl refl
out_of (suc n) out = elim (cases_lt 256 (suc n)) [ inl many ↦ inr many | inr few ↦ absurd (out (let some : 1 ≤ suc n = omega arith in some, few)) ]

pub never-choice_count : (m : Tree) (ws : List (List ℕ × Form)) (count : ℕ) → count ≡ length ws → ((1 ≤ count) × (count ≤ 256) → ⊥) → NeverHasType m (choice (written_alternatives ws))
never-choice_count m ws count is out = never-long_choice m ws (subst (λ (n : ℕ). (n ≡ 0) ⊎ (256 < n)) is (out_of count out))

pub never-same_alternatives : (m : Tree) (ws : List (List ℕ × Form)) → (NamesDiffer (map (λ (w : List ℕ × Form). w.0) ws) → ⊥) → NeverHasType m (choice (written_alternatives ws))
never-same_alternatives m ws same = never-equal_alternatives m ws (λ differ. same (subst NamesDiffer (names_of_alternatives ws) differ))

-- what can weigh a list can weigh each part of it
in_components : (xs : List Component) (i : ℕ) (x : Component) → i < length xs → x ≡ get_or xs i x → (name : List ℕ) → Contains (names_in (form x.body)) name → Contains (names_in_components (written_components (map component xs))) name
in_components [] i x within at name h = absurd (omega (arith, within))
in_components (y ∷ ys) zero x within at name h =
    Contains-append_left (names_in (form y.body)) (names_in_components (written_components (map component ys))) name (subst (λ (z : Component). Contains (names_in (form z.body)) name) at h)
in_components (y ∷ ys) (suc i) x within at name h =
    Contains-append_right (names_in (form y.body)) (names_in_components (written_components (map component ys))) name (in_components ys i x (omega (arith, within)) at name h)

in_alternatives : (xs : List Alternative) (i : ℕ) (x : Alternative) → i < length xs → x ≡ get_or xs i x → (name : List ℕ) → Contains (names_in (form x.body)) name → Contains (names_in_alternatives (written_alternatives (map alternative xs))) name
in_alternatives [] i x within at name h = absurd (omega (arith, within))
in_alternatives (y ∷ ys) zero x within at name h =
    Contains-append_left (names_in (form y.body)) (names_in_alternatives (written_alternatives (map alternative ys))) name (subst (λ (z : Alternative). Contains (names_in (form z.body)) name) at h)
in_alternatives (y ∷ ys) (suc i) x within at name h =
    Contains-append_right (names_in (form y.body)) (names_in_alternatives (written_alternatives (map alternative ys))) name (in_alternatives ys i x (omega (arith, within)) at name h)

pub can_weigh-component : (m : Module) (scope : Scope) (group : Group) (xs : List Component) (i : ℕ) (x : Component) → i < length xs → x ≡ get_or xs i x → CanWeigh m scope (list group (written_components (map component xs))) → CanWeigh m scope (form x.body)
can_weigh-component m scope group xs i x within at h = record { known = h.known; told = λ name c. h.told name (in_components xs i x within at name c); weighed = h.weighed }

pub can_weigh-alternative : (m : Module) (scope : Scope) (xs : List Alternative) (i : ℕ) (x : Alternative) → i < length xs → x ≡ get_or xs i x → CanWeigh m scope (choice (written_alternatives (map alternative xs))) → CanWeigh m scope (form x.body)
can_weigh-alternative m scope xs i x within at h = record { known = h.known; told = λ name c. h.told name (in_alternatives xs i x within at name c); weighed = h.weighed }

pub can_weigh-tagged : (m : Module) (scope : Scope) (prefix : TagPrefix) (f : Form) → CanWeigh m scope (tagged prefix f) → CanWeigh m scope f
can_weigh-tagged m scope prefix f h = record { known = h.known; told = h.told; weighed = h.weighed }

pub can_weigh-of : (m : Module) (scope : Scope) (group : Group) (f : Form) → CanWeigh m scope (of group f) → CanWeigh m scope f
can_weigh-of m scope group f h = record { known = h.known; told = h.told; weighed = h.weighed }
