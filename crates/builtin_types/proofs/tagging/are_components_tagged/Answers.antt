use Rattle.std.proofs.Common.{◌≡◌, ◌+◌, ◌++◌, [], ◌∷◌, List, false, map, take, sym, ap, ◌∙◌, subst}
use Rattle.std.proofs.lemmas.List.{map_more, take_all}
use Rattle.syntax.specs.declared.tree.Component.{Component}
use Rattle.syntax.specs.View.{component}
use Rattle.builtin_types.specs.Tagging.{are_written_with_tag}
use Rattle.builtin_types.proofs.WrittenTagLemmas.{tag_found, no_tag_more}
use Rattle.builtin_types.proofs.tagging.are_components_tagged.Goals as goal

pub loop-component-preserved : goal.loop-component-preserved
loop-component-preserved c =
    let xs = c.args.components.now in
    let i = c.loop-component.component-index in
    let x = c.component-item.result in
    let more : map component (take (i + 1) xs) ≡ map component (take i xs) ++ component x ∷ [] =
    map_more component xs i x c.loop-component-test.true ∙ ap (λ (y : Component). map component (take i xs) ++ component y ∷ []) (sym c.component-item.is) in
    ap are_written_with_tag more ∙ no_tag_more (map component (take i xs)) (component x) c.loop-component.invariant (sym c.is_tagged.ensures ∙ c.if-is_tagged.false)

pub returns-then-is_tagged : goal.returns-then-is_tagged
returns-then-is_tagged c = sym (tag_found c.args.components.now c.loop-component.component-index c.component-item.result c.loop-component-test.true c.component-item.is (sym c.is_tagged.ensures ∙ c.if-is_tagged.true))

pub returns : goal.returns
returns c = sym (subst (λ (xs : List Component). are_written_with_tag (map component xs) ≡ false) (take_all c.loop-component.component-index c.args.components.now c.loop-component-test.false) c.loop-component.invariant)
