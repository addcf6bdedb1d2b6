use Rattle.std.proofs.Common.{◌≡◌, ◌+◌, ◌++◌, [], ◌∷◌, List, false, map, take, sym, ap, ◌∙◌, subst}
use Rattle.std.proofs.lemmas.List.{map_more, take_all}
use Rattle.syntax.specs.declared.tree.Alternative.{Alternative}
use Rattle.syntax.specs.View.{alternative}
use Rattle.builtin_types.specs.Tagging.{are_alternatives_written_with_tag}
use Rattle.builtin_types.proofs.WrittenTagLemmas.{alternative_tag_found, no_alternative_tag_more}
use Rattle.builtin_types.proofs.tagging.are_alternatives_tagged.Goals as goal

pub loop-alternative-preserved : goal.loop-alternative-preserved
loop-alternative-preserved c =
    let xs = c.args.alternatives.now in
    let i = c.loop-alternative.alternative-index in
    let x = c.alternative-item.result in
    let more : map alternative (take (i + 1) xs) ≡ map alternative (take i xs) ++ alternative x ∷ [] =
    map_more alternative xs i x c.loop-alternative-test.true ∙ ap (λ (y : Alternative). map alternative (take i xs) ++ alternative y ∷ []) (sym c.alternative-item.is) in
    ap are_alternatives_written_with_tag more ∙ no_alternative_tag_more (map alternative (take i xs)) (alternative x) c.loop-alternative.invariant (sym c.is_tagged.ensures ∙ c.if-is_tagged.false)

pub returns-then-is_tagged : goal.returns-then-is_tagged
returns-then-is_tagged c = sym (alternative_tag_found c.args.alternatives.now c.loop-alternative.alternative-index c.alternative-item.result c.loop-alternative-test.true c.alternative-item.is (sym c.is_tagged.ensures ∙ c.if-is_tagged.true))

pub returns : goal.returns
returns c = sym (subst (λ (xs : List Alternative). are_alternatives_written_with_tag (map alternative xs) ≡ false) (take_all c.loop-alternative.alternative-index c.args.alternatives.now c.loop-alternative-test.false) c.loop-alternative.invariant)
