-- What a tag makes of a type.
use Rattle.std.proofs.Common.{◌≡◌, sym, ◌∙◌, subst}
use Rattle.octets.specs.declared.tag.Tag.{Tag}
use Rattle.types.specs.Shape.{Shape}
use Rattle.syntax.specs.declared.tree.TagMode.{TagMode}
use Rattle.syntax.specs.declared.tree.TagMode.TheVariants.{Unmarked, Implicit, Explicit}
use Rattle.syntax.specs.declared.tree.Tagging.{Tagging}
use Rattle.syntax.specs.declared.tree.Tagging.TheVariants.{Explicit as ExplicitTags, Implicit as ImplicitTags, Automatic as AutomaticTags}
use Rattle.types.specs.Tagging.{tagged_implicitly, tagged_by_default}
use Rattle.builtin_types.specs.Tagging.{IsTagged}
use Rattle.builtin_types.proofs.DefaultLemmas.{HasNamesOnce}

-- a tag makes one type of a type
pub one_tagged : (environment : Tagging) (mode : TagMode) (tag : Tag) (type whole other : Shape) → IsTagged environment mode tag type whole → IsTagged environment mode tag type other → whole ≡ other
one_tagged environment Explicit tag type whole other h g = h ∙ sym g
one_tagged environment Implicit tag type whole other h g = h.1 ∙ sym g.1
one_tagged ExplicitTags Unmarked tag type whole other h g = h ∙ sym g
one_tagged ImplicitTags Unmarked tag type whole other h g = h ∙ sym g
one_tagged AutomaticTags Unmarked tag type whole other h g = h ∙ sym g

once_implicitly : (tag : Tag) (type : Shape) → HasNamesOnce type → HasNamesOnce (tagged_implicitly tag type)
once_implicitly tag (Shape.simple other type) h = h
once_implicitly tag (Shape.string other type) h = tt
once_implicitly tag (Shape.sequence other components) h = tt
once_implicitly tag (Shape.set other components) h = tt
once_implicitly tag (Shape.sequence_of other type) h = tt
once_implicitly tag (Shape.set_of other type) h = tt
once_implicitly tag (Shape.choice alternatives) h = tt
once_implicitly tag (Shape.explicit other type) h = h

once_by_default : (tag : Tag) (type : Shape) → HasNamesOnce type → HasNamesOnce (tagged_by_default tag type)
once_by_default tag (Shape.choice alternatives) h = tt
once_by_default tag (Shape.simple other type) h = h
once_by_default tag (Shape.string other type) h = tt
once_by_default tag (Shape.sequence other components) h = tt
once_by_default tag (Shape.set other components) h = tt
once_by_default tag (Shape.sequence_of other type) h = tt
once_by_default tag (Shape.set_of other type) h = tt
once_by_default tag (Shape.explicit other type) h = h

pub once_tagged : (environment : Tagging) (mode : TagMode) (tag : Tag) (type whole : Shape) → HasNamesOnce type → IsTagged environment mode tag type whole → HasNamesOnce whole
once_tagged environment Explicit tag type whole h t = subst HasNamesOnce (sym t) h
once_tagged environment Implicit tag type whole h t = subst HasNamesOnce (sym t.1) (once_implicitly tag type h)
once_tagged ExplicitTags Unmarked tag type whole h t = subst HasNamesOnce (sym t) h
once_tagged ImplicitTags Unmarked tag type whole h t = subst HasNamesOnce (sym t) (once_by_default tag type h)
once_tagged AutomaticTags Unmarked tag type whole h t = subst HasNamesOnce (sym t) (once_by_default tag type h)
