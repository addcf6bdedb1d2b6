use Rattle.std.proofs.Common.{◌≡◌, ◌+◌, ◌++◌, ◌∙◌, inl, inr, ℕ, Bool, true, List, [], ◌∷◌, Option, None, IsTrue, IfSome, IsNone, length, map, take, not, refl, sym, ap, subst}
use Rattle.std.proofs.lemmas.Bool.{leb-false, false_from_ne_true, true_from_ne_false}
use Rattle.std.proofs.lemmas.List.{map_more, take_all, length-map}
use Rattle.octets.proofs.ResultLemmas.{IfOk-map}
use Rattle.syntax.specs.declared.tree.Expr.{Expr}
use Rattle.syntax.specs.declared.tree.Component.{Component}
use Rattle.syntax.specs.declared.tree.Alternative.{Alternative}
use Rattle.syntax.specs.declared.tree.Item.{Item}
use Rattle.syntax.specs.declared.tree.NamedBit.{NamedBit}
use Rattle.syntax.specs.declared.tree.TagPrefix.{TagPrefix}
use Rattle.syntax.specs.Tree.{Ending, Form, tagged, list, of, choice, enumerated, named_bits, simple, reference}
use Rattle.syntax.specs.View.{form, tree, component, alternative, entry, bit, components_of, alternatives_of}
use Rattle.builtin_types.specs.Tagging.{has_automatic_tags}
use Rattle.notation.specs.Under.{IsImplicitAt}
use Rattle.notation.specs.Known.{IsScope, TellsChoice, TellsExplicit}
use Rattle.notation.specs.Settled.{MeansNothing, NamesTold}
use Rattle.notation.specs.Size.{HaveSize}
use Rattle.notation.specs.Refused.{HasNoType, NeverHasType}
use Rattle.notation.specs.Weighed.{CanWeigh, IsWeight, IsPartWeight, IsComponentsWeight, IsAlternativesWeight}
use Rattle.notation.proofs.FormLemmas.{form-Tagged, form-List, form-Of, form-Choice, form-Enumerated, form-NamedBits, form-Simple, form-Reference}
use Rattle.notation.proofs.SizeLemmas.{size-simple}
use Rattle.notation.proofs.WeighedLemmas.{weighs_just, weighs_unless}
use Rattle.notation.proofs.RefusedLemmas.{no_type-root, never-implicit_choice}
use Rattle.notation.proofs.SettledLemmas.{tag_unknown}
use Rattle.notation.proofs.WeighingLemmas.{is_true, is_other, weighs_nothing, weighs_own, weighs_part-nothing, weighs_seen, weighs_explicit, weighs_implicit, weighs_of, weighs_part-automatic, weighs_part-choice, weighs_components-more, weighs_list, weighs_alternatives-more, weighs_choice, never-many_components, never-same_components, never-choice_count, never-same_alternatives, can_weigh-component, can_weigh-alternative, can_weigh-tagged, can_weigh-of}
use Rattle.notation.specs.Apart.{ComponentsHaveNamesApart, AlternativesHaveNamesApart, IsTold, IsApart}
use Rattle.notation.proofs.ApartLemmas.{components_apart-more, alternatives_apart-more, list_apart, choice_apart, unless_none}
use Rattle.notation.proofs.scope.Scope.+weighing.Goals as goal
use Rattle.notation.proofs.scope.Scope.+weighing.Goals.{weight_of_tagged-then-ne, weight_of_tagged-else-ne}

pub weight_of-returns-in-Tagged-clause-weight : goal.weight_of-returns-in-Tagged-clause-weight
weight_of-returns-in-Tagged-clause-weight t c = IfOk-map c.weight_of_tagged.result _ _ (λ w h can.
    let m = c.args.self.now.module.now in
    let scope = c.args.self.now in
    let prefix = c.in-Tagged.prefix in
    let f = form c.deref.result.now in
    let is : form c.args.expr.now ≡ tagged prefix f = ap form c.in-Tagged.is ∙ form-Tagged prefix c.in-Tagged.inner ∙ ap (λ (e : Expr). tagged prefix (form e)) (sym c.deref.ensures) in
    subst (λ (i : Form). IsWeight (tree m) i w) (sym is) (h (can_weigh-tagged m scope prefix f (subst (CanWeigh m scope) is can)))) c.weight_of_tagged.ensures.weight

pub weight_of-returns-in-List-clause-weight : goal.weight_of-returns-in-List-clause-weight
weight_of-returns-in-List-clause-weight t c = IfOk-map c.weight_of_list.result _ _ (λ w h can.
    let m = c.args.self.now.module.now in
    let group = c.in-List.field-0 in
    let is : form c.args.expr.now ≡ list group (components_of (map component c.deref-in-List.result.now)) =
    ap form c.in-List.is ∙ form-List group c.in-List.components ∙ ap (λ (xs : List Component). list group (components_of (map component xs))) (sym c.deref-in-List.ensures.value) in
    subst (λ (i : Form). IsWeight (tree m) i w) (sym is) (h group (subst (CanWeigh m c.args.self.now) is can))) c.weight_of_list.ensures.weight

pub weight_of-returns-in_ok-weight_within-in-Of-clause-weight : goal.weight_of-returns-in_ok-weight_within-in-Of-clause-weight
weight_of-returns-in_ok-weight_within-in-Of-clause-weight t c = λ can.
    let m = c.args.self.now.module.now in
    let scope = c.args.self.now in
    let group = c.in-Of.field-0 in
    let f = form c.deref-in-Of.result.now in
    let is : form c.args.expr.now ≡ of group f = ap form c.in-Of.is ∙ form-Of group c.in-Of.inner ∙ ap (λ (e : Expr). of group (form e)) (sym c.deref-in-Of.ensures) in
    let own = c.in_ok-weight_within-in-Of.ensures.weight (can_weigh-of m scope group f (subst (CanWeigh m scope) is can)) in
    subst (λ (i : Form). IsWeight (tree m) i c.as_constructed.result) (sym is) (weighs_of (tree m) group f c.in_ok-weight_within-in-Of.field-0 c.as_constructed.result c.as_constructed.ensures.nodes c.as_constructed.ensures.levels c.as_constructed.ensures.cause own)

pub weight_of-returns-in-Choice-clause-weight : goal.weight_of-returns-in-Choice-clause-weight
weight_of-returns-in-Choice-clause-weight t c = IfOk-map c.weight_of_choice.result _ _ (λ w h can.
    let m = c.args.self.now.module.now in
    let is : form c.args.expr.now ≡ choice (alternatives_of (map alternative c.deref-in-Choice.result.now)) =
    ap form c.in-Choice.is ∙ form-Choice c.in-Choice.alternatives ∙ ap (λ (xs : List Alternative). choice (alternatives_of (map alternative xs))) (sym c.deref-in-Choice.ensures.value) in
    subst (λ (i : Form). IsWeight (tree m) i w) (sym is) (h (subst (CanWeigh m c.args.self.now) is can))) c.weight_of_choice.ensures.weight

pub weight_of-returns-in-Enumerated-clause-weight : goal.weight_of-returns-in-Enumerated-clause-weight
weight_of-returns-in-Enumerated-clause-weight t c = IfOk-map c.weight_of_items.result _ _ (λ w h can.
    let m = tree c.args.self.now.module.now in
    let is : form c.args.expr.now ≡ enumerated (map entry c.deref-in-Enumerated.result.now) =
    ap form c.in-Enumerated.is ∙ form-Enumerated c.in-Enumerated.items ∙ ap (λ (xs : List Item). enumerated (map entry xs)) (sym c.deref-in-Enumerated.ensures.value) in
    subst (λ (i : Form). IsWeight m i w) (sym is) (h m)) c.weight_of_items.ensures.weight

pub weight_of-returns-in-NamedBits-clause-weight : goal.weight_of-returns-in-NamedBits-clause-weight
weight_of-returns-in-NamedBits-clause-weight t c = IfOk-map c.weight_of_bits.result _ _ (λ w h can.
    let m = tree c.args.self.now.module.now in
    let is : form c.args.expr.now ≡ named_bits (map bit c.deref-in-NamedBits.result.now) =
    ap form c.in-NamedBits.is ∙ form-NamedBits c.in-NamedBits.bits ∙ ap (λ (xs : List NamedBit). named_bits (map bit xs)) (sym c.deref-in-NamedBits.ensures.value) in
    subst (λ (i : Form). IsWeight m i w) (sym is) (h m)) c.weight_of_bits.ensures.weight

pub weight_of-returns-in-Simple-clause-weight : goal.weight_of-returns-in-Simple-clause-weight
weight_of-returns-in-Simple-clause-weight t c = λ can.
    let m = tree c.args.self.now.module.now in
    let words = c.in-Simple.field-0 in
    let is : form c.args.expr.now ≡ simple words = ap form c.in-Simple.is ∙ form-Simple words in
    subst (λ (i : Form). IsWeight m i c.with_node.result) (sym is) (weighs_just (HaveSize m (simple words)) (NeverHasType m (simple words)) c.with_node.result 1 0 c.with_node.ensures.nodes c.with_node.ensures.levels c.with_node.ensures.cause (size-simple m words))

pub weight_of-returns-in-Some-clause-weight : goal.weight_of-returns-in-Some-clause-weight
weight_of-returns-in-Some-clause-weight t c = λ can.
    let m = c.args.self.now.module.now in
    let scope = c.args.self.now in
    let name = c.deref-in-Reference.result.now in
    let is : form c.args.expr.now ≡ reference name = ap form c.in-Reference.is ∙ form-Reference c.in-Reference.name ∙ ap reference (sym c.deref-in-Reference.ensures) in
    subst (λ (i : Form). IsWeight (tree m) i c.in-Some.seen.weight) (sym is) (weighs_seen m scope name c.in-Some.seen can.known can.weighed (sym (c.in-Some.ensures.known can.known)))

pub weight_of_part-returns-then-eq-clause-weight : goal.weight_of_part-returns-then-eq-clause-weight
weight_of_part-returns-then-eq-clause-weight t c = λ can place.
    let m = tree c.args.self.now.module.now in
    let f = form c.args.body.now in
    let choices = subst (λ (o : Option Bool). IfSome o (λ told. IsScope c.args.self.now.module.now c.args.self.now → TellsChoice told m f)) (is_true c.is_untagged_choice.result c.if-eq.ensures) c.is_untagged_choice.ensures.tells can.known in
    subst (λ (b : Bool). IsPartWeight m b place f c.as_constructed.result) (sym c.if-not-automatic.false)
    (weighs_part-choice m place f c.in_ok-weight.weight c.as_constructed.result choices c.as_constructed.ensures.nodes c.as_constructed.ensures.levels c.as_constructed.ensures.cause (c.in_ok-weight.ensures.weight can))

pub weight_of_part-returns-else-eq-clause-weight : goal.weight_of_part-returns-else-eq-clause-weight
weight_of_part-returns-else-eq-clause-weight t c = λ can place.
    let m = tree c.args.self.now.module.now in
    let f = form c.args.body.now in
    let w = c.in_ok-weight.weight in
    elim (is_other c.is_untagged_choice.result c.if-eq.ensures) [
      | inl none ↦ weighs_part-nothing m c.args.automatic place f w
          (subst (λ (o : Option Bool). IsNone o → IsScope c.args.self.now.module.now c.args.self.now → NamesTold m c.args.self.now.seen.items f → MeansNothing m f) none c.is_untagged_choice.ensures.unknown refl can.known can.told)
      | inr other ↦ subst (λ (b : Bool). IsPartWeight m b place f w) (sym c.if-not-automatic.false)
          (weighs_part-automatic m place f w (subst (λ (o : Option Bool). IfSome o (λ told. IsScope c.args.self.now.module.now c.args.self.now → TellsChoice told m f)) other c.is_untagged_choice.ensures.tells can.known) (c.in_ok-weight.ensures.weight can))
    ]

pub weight_of_tagged-returns-then-eq-clause-weight : goal.weight_of_tagged-returns-then-eq-clause-weight
weight_of_tagged-returns-then-eq-clause-weight t c = λ can.
    let m = tree c.args.self.now.module.now in
    let prefix = c.args.prefix.now in
    let f = form c.args.inner.now in
    let explicit = subst (λ (o : Option Bool). IfSome o (λ explicit. IsScope c.args.self.now.module.now c.args.self.now → (p : TagPrefix) → p.mode ≡ prefix.mode → TellsExplicit explicit m p f)) (is_true c.is_explicit.result c.if-eq.ensures) c.is_explicit.ensures.tells can.known prefix refl in
    weighs_explicit m prefix f c.in_ok-weight_within.field-0 c.as_constructed.result explicit c.as_constructed.ensures.nodes c.as_constructed.ensures.levels c.as_constructed.ensures.cause (c.in_ok-weight_within.ensures.weight can)

pub weight_of_tagged-returns-clause-weight : goal.weight_of_tagged-returns-clause-weight
weight_of_tagged-returns-clause-weight t c = λ can.
    let m = tree c.args.self.now.module.now in
    let prefix = c.args.prefix.now in
    let f = form c.args.inner.now in
    let w = c.in_ok-weight_of.field-0 in
    let choices : (IsTrue c.if-ne.fits → ⊥) → TellsChoice true m f =
    λ out.
    elim c.if-ne.branch [
      | weight_of_tagged-then-ne v ↦ absurd (out (v.fits-is ∙ v.if-ne.true))
      | weight_of_tagged-else-ne v ↦
          let is : true ≡ c.eq-is_choice.result = sym (true_from_ne_false c.eq-is_choice.result (λ e. out (v.fits-is ∙ ap not e))) in
          subst (λ (o : Option Bool). IfSome o (λ told. IsScope c.args.self.now.module.now c.args.self.now → TellsChoice told m f)) (is_true c.is_untagged_choice.result (is ∙ c.eq-is_choice.ensures)) c.is_untagged_choice.ensures.tells can.known
    ] in
    elim (is_other c.is_explicit.result c.if-eq.ensures) [
      | inl none ↦ weighs_nothing m (tagged prefix f) c.unless.result
          (tag_unknown m prefix f (tagged prefix f) refl (subst (λ (o : Option Bool). IsNone o → IsScope c.args.self.now.module.now c.args.self.now → NamesTold m c.args.self.now.seen.items f → MeansNothing m f) none c.is_explicit.ensures.unknown refl can.known can.told))
      | inr other ↦
          let implicit : IsImplicitAt m prefix f = subst (λ (o : Option Bool). IfSome o (λ explicit. IsScope c.args.self.now.module.now c.args.self.now → (p : TagPrefix) → p.mode ≡ prefix.mode → TellsExplicit explicit m p f)) other c.is_explicit.ensures.tells can.known prefix refl in
          weighs_unless (HaveSize m (tagged prefix f)) (NeverHasType m (tagged prefix f)) w c.unless.result c.if-ne.fits c.unless.ensures.kept c.unless.ensures.refused (λ out. never-implicit_choice m prefix f implicit (choices out))
          (weighs_implicit m prefix f w implicit (c.in_ok-weight_of.ensures.weight can))
    ]

pub weight_within-returns-in-Some-clause-weight : goal.weight_within-returns-in-Some-clause-weight
weight_within-returns-in-Some-clause-weight t c = λ can.
    let m = tree c.args.self.now.module.now in
    let f = form c.args.expr.now in
    let w = c.in_ok-weight.weight in
    let root = c.in-Some.root in
    let leads = c.in-Some.ensures.leads can.known in
    weighs_unless (HaveSize m f) (HasNoType m None f) w c.unless.result c.is_tag_within.result c.unless.ensures.kept c.unless.ensures.refused (λ over. no_type-root m None root.tag f (form root.expr.now) leads (c.is_tag_within.ensures.refused m leads.at_root over)) (weighs_own m f w (c.in_ok-weight.ensures.weight can))

pub weight_of_list-loop-component-preserved : goal.weight_of_list-loop-component-preserved
weight_of_list-loop-component-preserved t c =
    let m = tree c.args.self.now.module.now in
    let xs = c.args.components.now in
    let i = c.loop-component.component-index in
    let x = c.component-item.result in
    let automatic = c.is_automatic-automatic.result in
    let more : map component (take (i + 1) xs) ≡ map component (take i xs) ++ component x ∷ [] =
    map_more component xs i x c.loop-component-test.true ∙ ap (λ (y : Component). map component (take i xs) ++ component y ∷ []) (sym c.component-item.is) in
    let scope = c.args.self.now in
    record {
      weighs = λ group can.
          let one = c.in_ok-weight_of_part.ensures.weight (can_weigh-component c.args.self.now.module.now c.args.self.now group xs i x c.loop-component-test.true c.component-item.is can) (length (map component (take i xs))) in
          subst (λ (ws : List (List ℕ × Form × Ending)). IsComponentsWeight m automatic ws c.beside-weight.result) (sym more)
          (weighs_components-more m automatic (map component (take i xs)) (component x) c.loop-component.weight c.in_ok-weight_of_part.field-0 c.beside-weight.result c.beside-weight.ensures.nodes c.beside-weight.ensures.levels c.beside-weight.ensures.cause (c.loop-component.invariant.weighs group can) one);
      apart = λ known none.
          let causes = c.beside-weight.ensures.cause.0 none in
          subst (λ (ws : List (List ℕ × Form × Ending)). ComponentsHaveNamesApart (IsTold scope) (components_of ws)) (sym more) (components_apart-more (IsTold scope) (map component (take i xs)) (component x) (c.loop-component.invariant.apart known causes.0) (c.in_ok-weight_of_part.ensures.apart known causes.1));
    }

pub weight_of_list-returns-clause-weight : goal.weight_of_list-returns-clause-weight
weight_of_list-returns-clause-weight t c = λ group can.
    let m = tree c.args.self.now.module.now in
    let xs = c.args.components.now in
    let ws = map component xs in
    let w = c.loop-component.weight in
    let Have = HaveSize m (list group (components_of ws)) in
    let Never = NeverHasType m (list group (components_of ws)) in
    let all : IsComponentsWeight m c.is_automatic-automatic.result ws w = subst (λ (ys : List Component). IsComponentsWeight m c.is_automatic-automatic.result (map component ys) w) (take_all c.loop-component.component-index xs c.loop-component-test.false) (c.loop-component.invariant.weighs group can) in
    let is = c.is_automatic-automatic.ensures ∙ ap (has_automatic_tags m.tagging) c.are_components_tagged.ensures in
    let own = weighs_list m group ws w c.as_constructed.result c.as_constructed.ensures.nodes c.as_constructed.ensures.levels c.as_constructed.ensures.cause (subst (λ (b : Bool). IsComponentsWeight m b ws w) is all) in
    weighs_unless Have Never c.unless.result c.unless-2.result c.in_ok-components_differ.field-0 c.unless-2.ensures.kept c.unless-2.ensures.refused (λ out. never-same_components m group ws (λ differ. out (c.in_ok-components_differ.ensures.1 differ)))
    (weighs_unless Have Never c.as_constructed.result c.unless.result _ c.unless.ensures.kept c.unless.ensures.refused (λ out. never-many_components m group ws (length xs) (sym (length-map xs component)) (leb-false (length xs) 256 (false_from_ne_true _ out))) own)

pub weight_of_choice-loop-alternative-preserved : goal.weight_of_choice-loop-alternative-preserved
weight_of_choice-loop-alternative-preserved t c =
    let m = tree c.args.self.now.module.now in
    let xs = c.args.alternatives.now in
    let i = c.loop-alternative.alternative-index in
    let x = c.alternative-item.result in
    let automatic = c.is_automatic-automatic.result in
    let more : map alternative (take (i + 1) xs) ≡ map alternative (take i xs) ++ alternative x ∷ [] =
    map_more alternative xs i x c.loop-alternative-test.true ∙ ap (λ (y : Alternative). map alternative (take i xs) ++ alternative y ∷ []) (sym c.alternative-item.is) in
    let scope = c.args.self.now in
    record {
      weighs = λ can.
          let one = c.in_ok-weight_of_part.ensures.weight (can_weigh-alternative c.args.self.now.module.now c.args.self.now xs i x c.loop-alternative-test.true c.alternative-item.is can) (length (map alternative (take i xs))) in
          subst (λ (ws : List (List ℕ × Form)). IsAlternativesWeight m automatic ws c.beside-weight.result) (sym more)
          (weighs_alternatives-more m automatic (map alternative (take i xs)) (alternative x) c.loop-alternative.weight c.in_ok-weight_of_part.field-0 c.beside-weight.result c.beside-weight.ensures.nodes c.beside-weight.ensures.levels c.beside-weight.ensures.cause (c.loop-alternative.invariant.weighs can) one);
      apart = λ known none.
          let causes = c.beside-weight.ensures.cause.0 none in
          subst (λ (ws : List (List ℕ × Form)). AlternativesHaveNamesApart (IsTold scope) (alternatives_of ws)) (sym more) (alternatives_apart-more (IsTold scope) (map alternative (take i xs)) (alternative x) (c.loop-alternative.invariant.apart known causes.0) (c.in_ok-weight_of_part.ensures.apart known causes.1));
    }

pub weight_of_choice-returns-clause-weight : goal.weight_of_choice-returns-clause-weight
weight_of_choice-returns-clause-weight t c = λ can.
    let m = tree c.args.self.now.module.now in
    let xs = c.args.alternatives.now in
    let ws = map alternative xs in
    let w = c.loop-alternative.weight in
    let Have = HaveSize m (choice (alternatives_of ws)) in
    let Never = NeverHasType m (choice (alternatives_of ws)) in
    let all : IsAlternativesWeight m c.is_automatic-automatic.result ws w = subst (λ (ys : List Alternative). IsAlternativesWeight m c.is_automatic-automatic.result (map alternative ys) w) (take_all c.loop-alternative.alternative-index xs c.loop-alternative-test.false) (c.loop-alternative.invariant.weighs can) in
    let is = c.is_automatic-automatic.ensures ∙ ap (has_automatic_tags m.tagging) c.are_alternatives_tagged.ensures in
    let own = weighs_choice m ws w c.with_node.result c.with_node.ensures.nodes c.with_node.ensures.levels c.with_node.ensures.cause (subst (λ (b : Bool). IsAlternativesWeight m b ws w) is all) in
    weighs_unless Have Never c.unless.result c.unless-2.result c.in_ok-alternatives_differ.field-0 c.unless-2.ensures.kept c.unless-2.ensures.refused (λ out. never-same_alternatives m ws (λ differ. out (c.in_ok-alternatives_differ.ensures.1 differ)))
    (weighs_unless Have Never c.with_node.result c.unless.result c.is_length_within.result c.unless.ensures.kept c.unless.ensures.refused (λ out. never-choice_count m ws (length xs) (sym (length-map xs alternative)) (λ within. out (c.is_length_within.ensures.1 within))) own)

pub weight_of_list-returns-clause-apart : goal.weight_of_list-returns-clause-apart
weight_of_list-returns-clause-apart t c = λ known none group.
    let scope = c.args.self.now in
    let xs = c.args.components.now in
    let before = unless_none c.unless.result c.unless-2.result c.in_ok-components_differ.field-0 c.unless-2.ensures.kept c.unless-2.ensures.refused none in
    let first = unless_none c.as_constructed.result c.unless.result _ c.unless.ensures.kept c.unless.ensures.refused before in
    let all = subst (λ (ys : List Component). ComponentsHaveNamesApart (IsTold scope) (components_of (map component ys))) (take_all c.loop-component.component-index xs c.loop-component-test.false) (c.loop-component.invariant.apart known (sym c.as_constructed.ensures.cause ∙ first)) in
    list_apart (IsTold scope) group (map component xs) (c.in_ok-components_differ.ensures.0 (c.unless-2.ensures.refused none)) all

pub weight_of_choice-returns-clause-apart : goal.weight_of_choice-returns-clause-apart
weight_of_choice-returns-clause-apart t c = λ known none.
    let scope = c.args.self.now in
    let xs = c.args.alternatives.now in
    let before = unless_none c.unless.result c.unless-2.result c.in_ok-alternatives_differ.field-0 c.unless-2.ensures.kept c.unless-2.ensures.refused none in
    let first = unless_none c.with_node.result c.unless.result c.is_length_within.result c.unless.ensures.kept c.unless.ensures.refused before in
    let all = subst (λ (ys : List Alternative). AlternativesHaveNamesApart (IsTold scope) (alternatives_of (map alternative ys))) (take_all c.loop-alternative.alternative-index xs c.loop-alternative-test.false) (c.loop-alternative.invariant.apart known (sym c.with_node.ensures.cause ∙ first)) in
    choice_apart (IsTold scope) (map alternative xs) (c.in_ok-alternatives_differ.ensures.0 (c.unless-2.ensures.refused none)) all

pub weight_of-returns-in-List-clause-apart : goal.weight_of-returns-in-List-clause-apart
weight_of-returns-in-List-clause-apart t c = IfOk-map c.weight_of_list.result _ _ (λ w h known none.
    let group = c.in-List.field-0 in
    let is : form c.args.expr.now ≡ list group (components_of (map component c.deref-in-List.result.now)) =
    ap form c.in-List.is ∙ form-List group c.in-List.components ∙ ap (λ (xs : List Component). list group (components_of (map component xs))) (sym c.deref-in-List.ensures.value) in
    subst (IsApart c.args.self.now) (sym is) (h known none group)) c.weight_of_list.ensures.apart

pub weight_of-returns-in-Choice-clause-apart : goal.weight_of-returns-in-Choice-clause-apart
weight_of-returns-in-Choice-clause-apart t c = IfOk-map c.weight_of_choice.result _ _ (λ w h known none.
    let is : form c.args.expr.now ≡ choice (alternatives_of (map alternative c.deref-in-Choice.result.now)) =
    ap form c.in-Choice.is ∙ form-Choice c.in-Choice.alternatives ∙ ap (λ (xs : List Alternative). choice (alternatives_of (map alternative xs))) (sym c.deref-in-Choice.ensures.value) in
    subst (IsApart c.args.self.now) (sym is) (h known none)) c.weight_of_choice.ensures.apart

pub weight_of-returns-in-Some-clause-apart : goal.weight_of-returns-in-Some-clause-apart
weight_of-returns-in-Some-clause-apart t c = λ known none.
    let name = c.deref-in-Reference.result.now in
    let is : form c.args.expr.now ≡ reference name = ap form c.in-Reference.is ∙ form-Reference c.in-Reference.name ∙ ap reference (sym c.deref-in-Reference.ensures) in
    subst (IsApart c.args.self.now) (sym is) (c.in-Some.seen, sym (c.in-Some.ensures.known known), none)
