-- What type expressions of the code stand for, level by level.
use Rattle.std.proofs.Common.{◌≡◌, Box, Global, String, Vec, map, string_bytes, rules}
use Rattle.syntax.specs.Tree.{tagged, list, of, choice, enumerated, named_bits, simple, reference}
use Rattle.syntax.specs.View.{form, component, alternative, entry, bit, components_of, alternatives_of}
use Rattle.syntax.specs.declared.tree.Component.{Component}
use Rattle.syntax.specs.declared.tree.Alternative.{Alternative}
use Rattle.syntax.specs.declared.tree.Item.{Item}
use Rattle.syntax.specs.declared.tree.NamedBit.{NamedBit}
use Rattle.syntax.specs.declared.tree.Simple.{Simple}
use Rattle.syntax.specs.declared.tree.Group.{Group}
use Rattle.syntax.specs.declared.tree.TagPrefix.{TagPrefix}
use Rattle.syntax.specs.declared.tree.Expr.{Expr}
use Rattle.syntax.specs.declared.tree.Expr as expr

pub form-Tagged : (prefix : TagPrefix) (inner : Box Expr Global) → form (expr.Tagged prefix inner) ≡ tagged prefix (form inner.value)
form-Tagged prefix inner = search (rules, expr.the_lemmas)

pub form-Of : (group : Group) (inner : Box Expr Global) → form (expr.Of group inner) ≡ of group (form inner.value)
form-Of group inner = search (rules, expr.the_lemmas)

pub form-Reference : (name : String Global) → form (expr.Reference name) ≡ reference (string_bytes name)
form-Reference name = search (rules, expr.the_lemmas)

pub form-List : (group : Group) (components : Vec Component Global) → form (expr.List group components) ≡ list group (components_of (map component components.items))
form-List group components = search (rules, expr.the_lemmas)

pub form-Choice : (alternatives : Vec Alternative Global) → form (expr.Choice alternatives) ≡ choice (alternatives_of (map alternative alternatives.items))
form-Choice alternatives = search (rules, expr.the_lemmas)

pub form-Enumerated : (items : Vec Item Global) → form (expr.Enumerated items) ≡ enumerated (map entry items.items)
form-Enumerated items = search (rules, expr.the_lemmas)

pub form-NamedBits : (bits : Vec NamedBit Global) → form (expr.NamedBits bits) ≡ named_bits (map bit bits.items)
form-NamedBits bits = search (rules, expr.the_lemmas)

pub form-Simple : (words : Simple) → form (expr.Simple words) ≡ simple words
form-Simple words = search (rules, expr.the_lemmas)
