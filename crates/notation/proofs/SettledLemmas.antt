-- Names of which nothing is known.
use Rattle.std.proofs.Common.{◌≡◌, ℕ, List, [], ◌∷◌, Some, None, map, position, length, refl, sym, ap, ◌∙◌, subst, cond, nat_lt, not, ◌+◌}
use Rattle.std.specs.List.{position_or_len}
use Rattle.std.proofs.lemmas.List.{length-map}
use Rattle.std.specs.Str.{bytes_eq}
use Rattle.std.proofs.lemmas.Simd.{map-map}
use Rattle.types.specs.Shape.{Shape}
use Rattle.syntax.specs.Tree.{Form, tagged, Tree}
use Rattle.syntax.specs.View.{tree, assignment}
use Rattle.syntax.specs.declared.tree.Module.{Module}
use Rattle.syntax.specs.declared.tree.TagPrefix.{TagPrefix}
use Rattle.notation.specs.Meaning.{IsMeaning, of_tag}
use Rattle.notation.specs.Known.{IsScope}
use Rattle.notation.specs.Settled.{place_in, MeansNothing}
use Rattle.notation.specs.declared.scope.Scope.{Scope}

position-names : {K : Type 0} (text : K → List ℕ) (name : List ℕ) (ks : List K) → position (λ k. bytes_eq name (text k)) ks ≡ position (bytes_eq name) (map text ks)
position-names {K} text name ks =
    ap (λ (n : ℕ). cond (nat_lt n (length ks)) (Some n) None) (first-names ks) ∙ ap (λ (l : ℕ). cond (nat_lt (position_or_len (bytes_eq name) (map text ks)) l) (Some (position_or_len (bytes_eq name) (map text ks))) None) (sym (length-map ks text))
  where
    first-names : (xs : List K) → position_or_len (λ k. bytes_eq name (text k)) xs ≡ position_or_len (bytes_eq name) (map text xs)
    first-names [] = refl
    first-names (x ∷ xs) = ap (λ (n : ℕ). cond (not (bytes_eq name (text x))) (1 + n) 0) (first-names xs)

-- the place of a name among the keys is that of its assignment
pub place_known : (m : Module) (scope : Scope) (name : List ℕ) → IsScope m scope → position (λ k. bytes_eq name k.now) scope.names.keys ≡ place_in (tree m) name
place_known m scope name s =
    position-names (λ k. k.now) name scope.names.keys ∙ ap (position (bytes_eq name)) (s.names ∙ sym (map-map (λ (a : List ℕ × Form). a.0) assignment m.assignments.items)) ∙ sym (position-names (λ (a : List ℕ × Form). a.0) name (map assignment m.assignments.items))

-- a tag in front
pub tag_unknown : (m : Tree) (prefix : TagPrefix) (f whole : Form) → whole ≡ tagged prefix f → MeansNothing m f → MeansNothing m whole
tag_unknown m prefix f whole is none = subst (MeansNothing m) (sym is) (λ type d. behind type d)
  where
    behind : (type : Shape) → IsMeaning m (tagged prefix f) type → ⊥
    behind type (of_tag {type = inner} d t) = none inner d
