-- The tree that a module of the code stands for.
use Rattle.std.specs.Prelude.{ℕ, List, [], ◌∷◌, string_bytes, map}
use Rattle.syntax.specs.declared.tree.Expr.{Expr}
use Rattle.syntax.specs.declared.tree.Expr.TheOpen.{Expr-F, Component-F, Alternative-F, Tagged, List as ListOf, Of, Choice, Enumerated, NamedBits, Simple as SimpleType, Reference}
use Rattle.syntax.specs.declared.tree.Expr.TheFolds.{fold-Expr}
use Rattle.syntax.specs.declared.tree.Component.{Component}
use Rattle.syntax.specs.declared.tree.Alternative.{Alternative}
use Rattle.syntax.specs.declared.tree.Assignment.{Assignment}
use Rattle.syntax.specs.declared.tree.Module.{Module}
use Rattle.syntax.specs.declared.tree.Item.{Item}
use Rattle.syntax.specs.declared.tree.NamedBit.{NamedBit}
use Rattle.syntax.specs.declared.tree.Presence.{Presence}
use Rattle.syntax.specs.declared.tree.Presence.TheVariants.{Required, Optional, Default}
use Rattle.syntax.specs.declared.tree.DefaultValue.{DefaultValue}
use Rattle.syntax.specs.declared.tree.DefaultValue.TheVariants.{True, False, Number, Name, Binary, Hex, Chars}
use Rattle.syntax.specs.Tree.{Value, truth, falsity, integer, item_name, binary_value, hex_value, chars_value, Ending, required, optional, default, Entry, Form, tagged, list, of, choice, enumerated, named_bits, simple, reference, Components, no_component, next_component, Alternatives, no_alternative, next_alternative, Tree}

abbrev pub components_of : List (List ℕ × Form × Ending) → Components
components_of [] = no_component
components_of (c ∷ cs) = next_component c.0 c.1 c.2 (components_of cs)

abbrev pub alternatives_of : List (List ℕ × Form) → Alternatives
alternatives_of [] = no_alternative
alternatives_of (c ∷ cs) = next_alternative c.0 c.1 (alternatives_of cs)

abbrev pub value_view : DefaultValue → Value
value_view True = truth
value_view False = falsity
value_view (Number n) = integer n
value_view (Name s) = item_name (string_bytes s)
value_view (Binary s) = binary_value (string_bytes s)
value_view (Hex s) = hex_value (string_bytes s)
value_view (Chars s) = chars_value (string_bytes s)

abbrev pub ending : Presence → Ending
ending Required = required
ending Optional = optional
ending (Default v) = default (value_view v)

abbrev pub entry : Item → Entry
entry item = (item.name, item.number)

abbrev pub bit : NamedBit → List ℕ × ℕ
bit b = (b.name, b.number)

abbrev pub component_step : Component-F Form (List ℕ × Form) (List ℕ × Form × Ending) → List ℕ × Form × Ending
component_step c = (c.name, c.body, ending c.presence)

abbrev pub alternative_step : Alternative-F Form (List ℕ × Form) (List ℕ × Form × Ending) → List ℕ × Form
alternative_step c = (c.name, c.body)

abbrev pub expr_step : Expr-F Form (List ℕ × Form) (List ℕ × Form × Ending) → Form
expr_step (Tagged prefix b) = tagged prefix b.value
expr_step (ListOf group v) = list group (components_of v.items)
expr_step (Of group b) = of group b.value
expr_step (Choice v) = choice (alternatives_of v.items)
expr_step (Enumerated v) = enumerated (map entry v.items)
expr_step (NamedBits v) = named_bits (map bit v.items)
expr_step (SimpleType s) = simple s
expr_step (Reference s) = reference (string_bytes s)

-- the type as a form
abbrev pub form : Expr → Form
form = fold-Expr Form (List ℕ × Form) (List ℕ × Form × Ending) expr_step alternative_step component_step

abbrev pub component : Component → List ℕ × Form × Ending
component c = (c.name, form c.body, ending c.presence)

abbrev pub alternative : Alternative → List ℕ × Form
alternative c = (c.name, form c.body)

abbrev pub assignment : Assignment → List ℕ × Form
assignment a = (string_bytes a.name, form a.body)

abbrev pub tree : Module → Tree
tree m = record { name = string_bytes m.name; tagging = m.tagging; assignments = map assignment m.assignments.items }
