-- What a scope tells of the names of its module.
use Rattle.std.proofs.Common.{◌≡◌, ℕ, List, [], ◌∷◌, Option, Some, None, map, slice_get, get_or, position, refl, sym, ap, ◌∙◌, subst, Contains}
use Rattle.std.specs.Str.{bytes_eq}
use Rattle.std.proofs.lemmas.Slice.Eq.{bytes_eq-Decides}
use Rattle.std.proofs.lemmas.List.Quantifiers.{position-Some}
use Rattle.std.proofs.lemmas.Option.{slice_get-map, slice_get-get_or, slice_get_within, get_or_from_slice_get}
use Rattle.std.proofs.lemmas.List.Elements.{Contains-get_or}
use Rattle.std.specs.Prelude.{option_map, string_bytes, IfSome}
use Rattle.types.specs.Shape.{Shape}
use Rattle.syntax.specs.Tree.{Form, reference}
use Rattle.syntax.specs.View.{form, tree, assignment}
use Rattle.syntax.specs.declared.tree.Assignment.{Assignment}
use Rattle.syntax.specs.declared.tree.Module.{Module}
use Rattle.builtin_types.proofs.NameLemmas.{contains_map}
use Rattle.notation.specs.Meaning.{IsAssigned, IsMeaning}
use Rattle.notation.specs.Under.{MeansUnder}
use Rattle.notation.specs.Known.{LeadsTo, StandsAt, IsScope}
use Rattle.notation.specs.declared.scope.Seen.{Seen}
use Rattle.notation.specs.declared.scope.Scope.{Scope}
use Rattle.notation.proofs.UniqueLemmas.{one_assignment}
use Rattle.notation.proofs.UnderLemmas.{of_assigned, assigned-of}

some-cases : {A : Type 0} {B : Type 0} (f : A → B) (o : Option A) (y : B) → option_map f o ≡ Some y → (a : A) × (o ≡ Some a) × (f a ≡ y)
some-cases f None y e = absurd cc
some-cases f (Some a) y e = let same : f a ≡ y = cc in (a, refl, same)

-- an element of a mapped list comes from one of the list
pub from_map : {A : Type 0} {B : Type 0} (f : A → B) (xs : List A) (i : ℕ) (y : B) → slice_get (map f xs) i ≡ Some y → (a : A) × (slice_get xs i ≡ Some a) × (f a ≡ y)
from_map f xs i y e = some-cases f (slice_get xs i) y (sym (slice_get-map f xs i) ∙ e)

found_at : {K : Type 0} (text : K → List ℕ) (name : List ℕ) (ks : List K) (place : ℕ) → position (λ k. bytes_eq name (text k)) ks ≡ Some place → slice_get (map text ks) place ≡ Some name
found_at text name [] place e = absurd cc
found_at text name (k ∷ ks) place e =
    let p = position-Some (λ k. bytes_eq name (text k)) (k ∷ ks) place k e in
    let same : name ≡ text (get_or (k ∷ ks) place k) = (bytes_eq-Decides name (text (get_or (k ∷ ks) place k))).0 p.1 in
    slice_get-map text (k ∷ ks) place ∙ ap (option_map text) (slice_get-get_or (k ∷ ks) place k p.0) ∙ ap Some (sym same)

pub stands_at : (m : Module) (scope : Scope) (name : List ℕ) (place : ℕ) → IsScope m scope → position (λ k. bytes_eq name k.now) scope.names.keys ≡ Some place → StandsAt m name place
stands_at m scope name place s e =
    let at = subst (λ (names : List (List ℕ)). slice_get names place ≡ Some name) s.names (found_at (λ k. k.now) name scope.names.keys place e) in
    let a = from_map (λ (a : Assignment). string_bytes a.name) m.assignments.items place name at in
    record { assignment = a.0; at = a.1; named = a.2 }

contains_at : {A : Type 0} (xs : List A) (i : ℕ) (a : A) → slice_get xs i ≡ Some a → Contains xs a
contains_at xs i a e = subst (Contains xs) (get_or_from_slice_get xs i a a e) (Contains-get_or xs i a (slice_get_within xs i a e))

-- the assignment is one of the module's
pub assigned_at : (m : Module) (name : List ℕ) (place : ℕ) → (h : StandsAt m name place) → IsAssigned (tree m) name (form h.assignment.body)
assigned_at m name place h =
    subst (λ (n : List ℕ). IsAssigned (tree m) n (form h.assignment.body)) h.named (contains_map assignment m.assignments.items h.assignment (contains_at m.assignments.items place h.assignment h.at))

-- a name is at its root what its assignment is
pub reference_leads : (m : Module) (scope : Scope) (name : List ℕ) (place : ℕ) (seen : Seen) → IsScope m scope → StandsAt m name place → slice_get scope.seen.items place ≡ Some (Some seen) → LeadsTo (tree m) None (reference name) seen.root
reference_leads m scope name place seen s h e =
    let root = s.seen place h.assignment seen h.at e in
    let assigned = assigned_at m name place h in
    let forth : (whole : Shape) → MeansUnder (tree m) None (reference name) whole → MeansUnder (tree m) None (form h.assignment.body) whole =
    λ whole d.
    let b = assigned-of (tree m) name d.type d.meaning in
    let one = one_assignment (tree m) s.differ name b.0 (form h.assignment.body) b.1 assigned in
    record { type = d.type; meaning = subst (λ (f : Form). IsMeaning (tree m) f d.type) one b.2; under = d.under } in
    record {
      at_root = root.at_root;
      same = λ whole. (λ d. (root.same whole).0 (forth whole d), λ d. of_assigned (tree m) None name (form h.assignment.body) whole assigned ((root.same whole).1 d));
    }

pub place_told : (m : Module) (scope : Scope) (name : List ℕ) (r : Option ℕ) → r ≡ position (λ k. bytes_eq name k.now) scope.names.keys → IfSome r (λ place. IsScope m scope → StandsAt m name place)
place_told m scope name None e = tt
place_told m scope name (Some place) e = λ s. stands_at m scope name place s (sym e)
