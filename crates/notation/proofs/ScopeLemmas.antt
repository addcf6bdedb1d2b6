-- What a scope tells of type expressions.
use Rattle.std.proofs.Common.{◌≡◌, Bool, true, false, Option, Some, None, IfSome, sym, ◌∙◌, subst}
use Rattle.std.specs.Option.{option_or}
use Rattle.octets.specs.declared.tag.Tag.{Tag}
use Rattle.syntax.specs.declared.tree.TagPrefix.{TagPrefix}
use Rattle.syntax.specs.declared.tree.TagMode.{TagMode}
use Rattle.syntax.specs.declared.tree.TagMode.TheVariants.{Unmarked}
use Rattle.syntax.specs.declared.tree.Tagging.TheVariants.{Explicit as ExplicitTags}
use Rattle.syntax.specs.declared.tree.Module.{Module}
use Rattle.syntax.specs.Tree.{Form, tagged}
use Rattle.syntax.specs.View.{form, tree}
use Rattle.builtin_types.specs.Tagging.{tag_of}
use Rattle.notation.specs.Under.{IsImplicitAt}
use Rattle.notation.specs.Known.{TellsChoice, TellsExplicit, LeadsTo, IsScope}
use Rattle.notation.specs.declared.root.Root.{Root}
use Rattle.notation.specs.declared.scope.Scope.{Scope}
use Rattle.notation.proofs.UnderLemmas.{explicit_choice, implicit_default}
use Rattle.notation.proofs.RootLemmas.{behind_implicit}

-- a tag without a keyword, where the module has not EXPLICIT TAGS
pub default_told : (m : Module) (scope : Scope) (mode : TagMode) (f : Form) (r : Option Bool) → mode ≡ Unmarked → (m.tagging ≡ ExplicitTags → ⊥) → IfSome r (λ told. IsScope m scope → TellsChoice told (tree m) f)
    → IfSome r (λ explicit. IsScope m scope → (prefix : TagPrefix) → prefix.mode ≡ mode → TellsExplicit explicit (tree m) prefix f)
default_told m scope mode f None e t h = tt
default_told m scope mode f (Some true) e t h = λ s prefix p. explicit_choice (tree m) prefix f (p ∙ e) t (h s)
default_told m scope mode f (Some false) e t h = λ s prefix p. implicit_default (tree m) prefix f (p ∙ e) t (h s)

-- an implicit tag in front of an expression
pub tag_told : (m : Module) (scope : Scope) (outer o : Option Tag) (prefix : TagPrefix) (f whole : Form) (r : Option Root) → o ≡ option_or outer (Some (tag_of prefix)) → whole ≡ tagged prefix f → (IsScope m scope → IsImplicitAt (tree m) prefix f)
    → IfSome r (λ root. IsScope m scope → LeadsTo (tree m) o f root) → IfSome r (λ root. IsScope m scope → LeadsTo (tree m) outer whole root)
tag_told m scope outer o prefix f whole None e w i h = tt
tag_told m scope outer o prefix f whole (Some root) e w i h =
    λ s.
    let inner = subst (λ (t : Option Tag). LeadsTo (tree m) t f root) e (h s) in
    subst (λ (g : Form). LeadsTo (tree m) outer g root) (sym w) (behind_implicit (tree m) outer root.tag prefix f (form root.expr.now) (i s) inner)
