use Rattle.std.proofs.Common.{◌≡◌, ◌+◌, ◌++◌, ◌∙◌, rules, ℕ, suc, Bool, true, List, [], ◌∷◌, Option, IfSome, map, take, sym, ap, subst}
use Rattle.std.proofs.lemmas.List.{map_more, map-append, take_all}
use Rattle.octets.proofs.ResultLemmas.{IfOk-map, IfErr-map, IfErr-from, IfErr-all}
use Rattle.types.specs.declared.ty.Field.{Field}
use Rattle.types.specs.declared.ty.Alternative.{Alternative as MadeAlternative}
use Rattle.types.specs.Shape.{Shape}
use Rattle.types.specs.View.{ComponentView, AlternativeView, ty_view, field_view, alternative_view, requirement_view, components_view}
use Rattle.types.proofs.ViewLemmas.{ty-Choice, field_is, alternative_is}
use Rattle.syntax.specs.declared.tree.Expr.{Expr}
use Rattle.syntax.specs.declared.tree.Component.{Component}
use Rattle.syntax.specs.declared.tree.Alternative.{Alternative}
use Rattle.syntax.specs.declared.tree.Item.{Item}
use Rattle.syntax.specs.declared.tree.NamedBit.{NamedBit}
use Rattle.syntax.specs.Tree.{Ending, Form, tagged, list, of, choice, enumerated, named_bits}
use Rattle.syntax.specs.View.{form, tree, component, alternative, entry, bit, components_of, alternatives_of}
use Rattle.builtin_types.specs.Tagging.{has_automatic_tags}
use Rattle.notation.specs.declared.root.Root.{Root}
use Rattle.notation.specs.Known.{IsScope, LeadsTo, TellsChoice}
use Rattle.notation.specs.Meaning.{IsMeaning}
use Rattle.notation.specs.Parts.{AreComponents, AreAlternatives}
use Rattle.notation.proofs.FormLemmas.{form-Tagged, form-List, form-Of, form-Choice, form-Enumerated, form-NamedBits, form-Simple}
use Rattle.notation.proofs.ExpandingLemmas.{explicit_told, list_told, of_told, choice_told, simple_told, root_told, component_more, alternative_more, components_made, alternatives_made, length_front}
use Rattle.notation.proofs.NeverLemmas.{no_type_within-0, no_type_within-root, no_part_within-choice, no_view-default}
use Rattle.notation.proofs.NothingLemmas.{nothing_within, explicit_never, of_never, root_never, choice_under_tag, list_never, choice_never}
use Rattle.notation.specs.Refused.{HasNoTypeWithin, PartHasNoTypeWithin}
use Rattle.notation.specs.Settled.{MeansNothing}
use Rattle.notation.specs.Apart.{IsTold}
use Rattle.notation.proofs.ApartLemmas.{can_make-root, can_make-tagged, can_make-of, can_make-component, can_make-alternative, components_differ, alternatives_differ}
use Rattle.notation.proofs.scope.Scope.+expanding.Goals as goal

pub expand-returns-in-Tagged-clause-value : goal.expand-returns-in-Tagged-clause-value
expand-returns-in-Tagged-clause-value t c = IfOk-map c.explicit.result _ _ (λ ty h s.
    let m = tree c.args.self.now.module.now in
    let f = form c.args.expr.now in
    let root = c.in_ok-root.root in
    let leads = subst (λ (r : Option Root). IfSome r (λ root. IsScope c.args.self.now.module.now c.args.self.now → LeadsTo m c.args.outer f root)) c.in_ok-root.ensures.ok_part c.root_of.ensures.leads s.settled.known in
    let can = can_make-root c.args.self.now f (tagged c.in-Tagged.prefix (form c.deref.result.now)) c.root_of.result root c.in_ok-root.ensures.ok_part c.root_of.ensures.apart
    (ap form c.in-Tagged.is ∙ form-Tagged c.in-Tagged.prefix c.in-Tagged.inner ∙ ap (λ (e : Expr). tagged c.in-Tagged.prefix (form e)) (sym c.deref.ensures)) s in
    explicit_told m c.args.outer f root.tag (form root.expr.now) c.in-Tagged.prefix (form c.in-Tagged.inner.value) (form c.deref.result.now) c.tag_of.result c.unwrap_or.result (ty_view ty) leads
    (ap form c.in-Tagged.is ∙ form-Tagged c.in-Tagged.prefix c.in-Tagged.inner) (ap form c.deref.ensures) c.tag_of.ensures c.unwrap_or.ensures (h (can_make-tagged c.args.self.now.module.now c.args.self.now c.in-Tagged.prefix (form c.deref.result.now) can))) c.explicit.ensures.value

pub expand-returns-in_ok-fields-in-List-clause-value : goal.expand-returns-in_ok-fields-in-List-clause-value
expand-returns-in_ok-fields-in-List-clause-value t c = λ s.
    let m = tree c.args.self.now.module.now in
    let f = form c.args.expr.now in
    let root = c.in_ok-root.root in
    let leads = subst (λ (r : Option Root). IfSome r (λ root. IsScope c.args.self.now.module.now c.args.self.now → LeadsTo m c.args.outer f root)) c.in_ok-root.ensures.ok_part c.root_of.ensures.leads s.settled.known in
    let group = c.in-List.group in
    let can = can_make-root c.args.self.now f (list group (components_of (map component c.deref-in-List.result.now))) c.root_of.result root c.in_ok-root.ensures.ok_part c.root_of.ensures.apart
    (ap form c.in-List.is ∙ form-List group c.in-List.components ∙ ap (λ (cs : List Component). list group (components_of (map component cs))) (sym c.deref-in-List.ensures.value)) s in
    let fields = c.in_ok-fields-in-List.fields.items in
    list_told m c.args.outer f root.tag (form root.expr.now) group (map component c.in-List.components.items) (map component c.deref-in-List.result.now) (map field_view fields) c.group_tag.result c.unwrap_or-in-List.result (ty_view c.list_type.result) leads
    (ap form c.in-List.is ∙ form-List group c.in-List.components) (ap (λ (cs : List Component). map component cs) c.deref-in-List.ensures.value) (c.group_tag.ensures.list (components_view fields)) c.unwrap_or-in-List.ensures (c.in_ok-fields-in-List.ensures.value group can) c.list_type.ensures

pub expand-returns-in-Of-clause-value : goal.expand-returns-in-Of-clause-value
expand-returns-in-Of-clause-value t c = IfOk-map c.of.result _ _ (λ ty h s.
    let m = tree c.args.self.now.module.now in
    let f = form c.args.expr.now in
    let root = c.in_ok-root.root in
    let leads = subst (λ (r : Option Root). IfSome r (λ root. IsScope c.args.self.now.module.now c.args.self.now → LeadsTo m c.args.outer f root)) c.in_ok-root.ensures.ok_part c.root_of.ensures.leads s.settled.known in
    let can = can_make-root c.args.self.now f (of c.in-Of.group (form c.deref-in-Of.result.now)) c.root_of.result root c.in_ok-root.ensures.ok_part c.root_of.ensures.apart
    (ap form c.in-Of.is ∙ form-Of c.in-Of.group c.in-Of.inner ∙ ap (λ (e : Expr). of c.in-Of.group (form e)) (sym c.deref-in-Of.ensures)) s in
    of_told m c.args.outer f root.tag (form root.expr.now) c.in-Of.group (form c.in-Of.inner.value) (form c.deref-in-Of.result.now) c.group_tag-in-Of.result c.unwrap_or-in-Of.result (ty_view ty) leads
    (ap form c.in-Of.is ∙ form-Of c.in-Of.group c.in-Of.inner) (ap form c.deref-in-Of.ensures) c.group_tag-in-Of.ensures.of c.unwrap_or-in-Of.ensures (h (can_make-of c.args.self.now.module.now c.args.self.now c.in-Of.group (form c.deref-in-Of.result.now) can))) c.of.ensures.value

pub expand-returns-in-None-clause-value : goal.expand-returns-in-None-clause-value
expand-returns-in-None-clause-value t c = IfOk-map c.choice.result _ _ (λ ty h s.
    let m = tree c.args.self.now.module.now in
    let f = form c.args.expr.now in
    let root = c.in_ok-root.root in
    let leads = subst (λ (r : Option Root). IfSome r (λ root. IsScope c.args.self.now.module.now c.args.self.now → LeadsTo m c.args.outer f root)) c.in_ok-root.ensures.ok_part c.root_of.ensures.leads s.settled.known in
    let can = can_make-root c.args.self.now f (choice (alternatives_of (map alternative c.deref-in-None.result.now))) c.root_of.result root c.in_ok-root.ensures.ok_part c.root_of.ensures.apart
    (ap form c.in-Choice.is ∙ form-Choice c.in-Choice.alternatives ∙ ap (λ (as' : List Alternative). choice (alternatives_of (map alternative as'))) (sym c.deref-in-None.ensures.value)) s in
    choice_told m c.args.outer f root.tag (form root.expr.now) (map alternative c.in-Choice.alternatives.items) (map alternative c.deref-in-None.result.now) (ty_view ty) leads
    (ap form c.in-Choice.is ∙ form-Choice c.in-Choice.alternatives) (ap (λ (as' : List Alternative). map alternative as') c.deref-in-None.ensures.value) c.in-None.is (h can)) c.choice.ensures.value

pub expand-returns-in-Enumerated-clause-value : goal.expand-returns-in-Enumerated-clause-value
expand-returns-in-Enumerated-clause-value t c = IfOk-map c.enumerated.result _ _ (λ ty h s.
    let m = tree c.args.self.now.module.now in
    let f = form c.args.expr.now in
    let root = c.in_ok-root.root in
    let leads = subst (λ (r : Option Root). IfSome r (λ root. IsScope c.args.self.now.module.now c.args.self.now → LeadsTo m c.args.outer f root)) c.in_ok-root.ensures.ok_part c.root_of.ensures.leads s.settled.known in
    let is = ap form c.in-Enumerated.is ∙ form-Enumerated c.in-Enumerated.items ∙ ap (λ (xs : List Item). enumerated (map entry xs)) (sym c.deref-in-Enumerated.ensures.value) in
    let can = can_make-root c.args.self.now f (enumerated (map entry c.deref-in-Enumerated.result.now)) c.root_of.result root c.in_ok-root.ensures.ok_part c.root_of.ensures.apart is s in
    root_told m c.args.outer f root.tag (form root.expr.now) (enumerated (map entry c.deref-in-Enumerated.result.now)) (ty_view ty) leads is (h can.own m)) c.enumerated.ensures.value

pub expand-returns-in_ok-bit_string-in-NamedBits-clause-value : goal.expand-returns-in_ok-bit_string-in-NamedBits-clause-value
expand-returns-in_ok-bit_string-in-NamedBits-clause-value t c = λ s.
    let m = tree c.args.self.now.module.now in
    let f = form c.args.expr.now in
    let root = c.in_ok-root.root in
    let leads = subst (λ (r : Option Root). IfSome r (λ root. IsScope c.args.self.now.module.now c.args.self.now → LeadsTo m c.args.outer f root)) c.in_ok-root.ensures.ok_part c.root_of.ensures.leads s.settled.known in
    let own = named_bits (map bit c.deref-in-NamedBits.result.now) in
    let is = ap form c.in-NamedBits.is ∙ form-NamedBits c.in-NamedBits.bits ∙ ap (λ (xs : List NamedBit). named_bits (map bit xs)) (sym c.deref-in-NamedBits.ensures.value) in
    let can = can_make-root c.args.self.now f own c.root_of.result root c.in_ok-root.ensures.ok_part c.root_of.ensures.apart is s in
    root_told m c.args.outer f root.tag (form root.expr.now) own (ty_view c.in_ok-bit_string-in-NamedBits.field-0) leads is (c.in_ok-bit_string-in-NamedBits.ensures can.own m)

pub expand-returns-in-Simple-clause-value : goal.expand-returns-in-Simple-clause-value
expand-returns-in-Simple-clause-value t c = λ s.
    let m = tree c.args.self.now.module.now in
    let f = form c.args.expr.now in
    let root = c.in_ok-root.root in
    let leads = subst (λ (r : Option Root). IfSome r (λ root. IsScope c.args.self.now.module.now c.args.self.now → LeadsTo m c.args.outer f root)) c.in_ok-root.ensures.ok_part c.root_of.ensures.leads s.settled.known in
    simple_told m c.args.outer f root.tag (form root.expr.now) c.in-Simple.simple c.simple_tag.result c.unwrap_or-in-Simple.result (ty_view c.simple_type.result) leads
    (ap form c.in-Simple.is ∙ form-Simple c.in-Simple.simple) c.simple_tag.ensures c.unwrap_or-in-Simple.ensures c.simple_type.ensures

pub choice-loop-place-preserved : goal.choice-loop-place-preserved
choice-loop-place-preserved t c = λ s.
    let m = tree c.args.self.now.module.now in
    let xs = c.args.alternatives.now in
    let i = c.loop-place.place in
    let x = c.index-alternatives-place.result in
    let automatic = c.is_automatic-automatic.result in
    let old = c.loop-place.found.items in
    let new = c.push.new.self.items in
    let y : MadeAlternative = record { name = c.in_ok-name.name; ty = c.in_ok-ty.ty } in
    let more : map alternative (take (i + 1) xs) ≡ map alternative (take i xs) ++ alternative x ∷ [] =
    map_more alternative xs i x c.loop-place-test.true ∙ ap (λ (z : Alternative). map alternative (take i xs) ++ alternative z ∷ []) (sym c.index-alternatives-place.is) in
    let pushed : map alternative_view new ≡ map alternative_view old ++ alternative_view y ∷ [] =
    ap (λ (l : List MadeAlternative). map alternative_view l) c.in_ok-push.ensures.items ∙ map-append alternative_view old (y ∷ []) in
    let seen : alternative_view y ≡ record { name = y.name; type = ty_view y.ty } = alternative_is y in
    let named : c.in_ok-name.name ≡ x.name = c.in_ok-name.ensures.cases in
    let all = alternative_more m automatic (map alternative (take i xs)) (map alternative_view old) (alternative x) (record { name = y.name; type = ty_view y.ty }) i (length_front alternative xs i c.loop-place-test.true) (c.loop-place.invariant s) named (c.in_ok-ty.ensures.value (can_make-alternative c.args.self.now.module.now c.args.self.now xs i x c.loop-place-test.true c.index-alternatives-place.is s)) in
    subst (λ (ws : List (List ℕ × Form)). AreAlternatives m automatic 0 ws (map alternative_view new)) (sym more)
    (subst (λ (vs : List AlternativeView). AreAlternatives m automatic 0 (map alternative (take i xs) ++ alternative x ∷ []) vs) (sym (pushed ∙ ap (λ (v : AlternativeView). map alternative_view old ++ v ∷ []) seen)) all)

pub choice-returns-clause-value : goal.choice-returns-clause-value
choice-returns-clause-value t c = λ s.
    let m = tree c.args.self.now.module.now in
    let xs = c.args.alternatives.now in
    let automatic = c.is_automatic-automatic.result in
    let found = c.loop-place.found in
    let all : AreAlternatives m automatic 0 (map alternative xs) (map alternative_view found.items) =
    subst (λ (as' : List Alternative). AreAlternatives m automatic 0 (map alternative as') (map alternative_view found.items)) (take_all c.loop-place.place xs c.loop-place-test.false) (c.loop-place.invariant s) in
    let is = c.is_automatic-automatic.ensures ∙ ap (has_automatic_tags m.tagging) c.are_alternatives_tagged.ensures in
    subst (λ (type : Shape). IsMeaning m (choice (alternatives_of (map alternative xs))) type) (sym (ty-Choice found))
    (alternatives_made m (map alternative xs) (map alternative_view found.items) automatic (alternatives_differ (IsTold c.args.self.now) (map alternative xs) s.own) is all)

pub fields-loop-place-preserved : goal.fields-loop-place-preserved
fields-loop-place-preserved t c = λ group s.
    let m = tree c.args.self.now.module.now in
    let xs = c.args.components.now in
    let i = c.loop-place.place in
    let x = c.index-components-place.result in
    let automatic = c.is_automatic-automatic.result in
    let old = c.loop-place.fields.items in
    let new = c.push.new.self.items in
    let y : Field = record { name = c.in_ok-name.name; ty = c.in_ok-ty.ty; presence = c.in_ok-presence.presence } in
    let view : ComponentView = record { name = y.name; type = ty_view y.ty; requirement = requirement_view y.presence } in
    let more : map component (take (i + 1) xs) ≡ map component (take i xs) ++ component x ∷ [] =
    map_more component xs i x c.loop-place-test.true ∙ ap (λ (z : Component). map component (take i xs) ++ component z ∷ []) (sym c.index-components-place.is) in
    let pushed : map field_view new ≡ map field_view old ++ field_view y ∷ [] =
    ap (λ (l : List Field). map field_view l) c.in_ok-push.ensures.items ∙ map-append field_view old (y ∷ []) in
    let seen : field_view y ≡ view = field_is y in
    let named : c.in_ok-name.name ≡ x.name = c.in_ok-name.ensures.cases in
    let all = component_more m automatic (map component (take i xs)) (map field_view old) (component x) view i (length_front component xs i c.loop-place-test.true) (c.loop-place.invariant group s) named (c.in_ok-ty.ensures.value (can_make-component c.args.self.now.module.now c.args.self.now group xs i x c.loop-place-test.true c.index-components-place.is s)) c.in_ok-presence.ensures.value in
    subst (λ (ws : List (List ℕ × Form × Ending)). AreComponents m automatic 0 ws (map field_view new)) (sym more)
    (subst (λ (vs : List ComponentView). AreComponents m automatic 0 (map component (take i xs) ++ component x ∷ []) vs) (sym (pushed ∙ ap (λ (v : ComponentView). map field_view old ++ v ∷ []) seen)) all)

pub fields-returns-clause-value : goal.fields-returns-clause-value
fields-returns-clause-value t c = λ group s.
    let m = tree c.args.self.now.module.now in
    let xs = c.args.components.now in
    let automatic = c.is_automatic-automatic.result in
    let fields = c.loop-place.fields.items in
    let all : AreComponents m automatic 0 (map component xs) (map field_view fields) =
    subst (λ (cs : List Component). AreComponents m automatic 0 (map component cs) (map field_view fields)) (take_all c.loop-place.place xs c.loop-place-test.false) (c.loop-place.invariant group s) in
    let is = c.is_automatic-automatic.ensures ∙ ap (has_automatic_tags m.tagging) c.are_components_tagged.ensures in
    components_made m (map component xs) (map field_view fields) automatic (components_differ (IsTold c.args.self.now) group (map component xs) s.own) is all

pub expand-returns-in_err-depth-clause-never : goal.expand-returns-in_err-depth-clause-never
expand-returns-in_err-depth-clause-never t c = IfErr-all c.from_residual-in_err-depth.result _ (λ err stop not s.
    let none : c.args.depth ≡ 0 = search rules in
    subst (λ (n : ℕ). HasNoTypeWithin (tree c.args.self.now.module.now) n c.args.outer (form c.args.expr.now)) (sym none) (no_type_within-0 (tree c.args.self.now.module.now) c.args.outer (form c.args.expr.now)))

pub expand-returns-in_err-fields-in-List-clause-never : goal.expand-returns-in_err-fields-in-List-clause-never
expand-returns-in_err-fields-in-List-clause-never t c = IfErr-from c.from_residual-in_err-fields-in-List.result _ _ c.from_residual-in_err-fields-in-List.ensures.1 (λ stop same not s.
    let m = tree c.args.self.now.module.now in
    let f = form c.args.expr.now in
    let root = c.in_ok-root.root in
    let group = c.in-List.group in
    let leads = subst (λ (r : Option Root). IfSome r (λ root. IsScope c.args.self.now.module.now c.args.self.now → LeadsTo m c.args.outer f root)) c.in_ok-root.ensures.ok_part c.root_of.ensures.leads s.settled.known in
    let can = can_make-root c.args.self.now f (list group (components_of (map component c.deref-in-List.result.now))) c.root_of.result root c.in_ok-root.ensures.ok_part c.root_of.ensures.apart
    (ap form c.in-List.is ∙ form-List group c.in-List.components ∙ ap (λ (cs : List Component). list group (components_of (map component cs))) (sym c.deref-in-List.ensures.value)) s in
    let more : c.args.depth ≡ suc c.in_ok-depth.depth = search rules in
    let none = c.in_err-fields-in-List.ensures.never (λ e. not (same ∙ e)) group can root.tag in
    root_never m c.args.depth c.in_ok-depth.depth c.args.outer root.tag f (form root.expr.now) (list group (components_of (map component c.deref-in-List.result.now))) leads
    (ap form c.in-List.is ∙ form-List group c.in-List.components ∙ ap (λ (cs : List Component). list group (components_of (map component cs))) (sym c.deref-in-List.ensures.value)) more none)

pub expand-returns-in-Tagged-clause-never : goal.expand-returns-in-Tagged-clause-never
expand-returns-in-Tagged-clause-never t c = IfErr-map c.explicit.result _ _ (λ stop h not s.
    let m = tree c.args.self.now.module.now in
    let f = form c.args.expr.now in
    let root = c.in_ok-root.root in
    let leads = subst (λ (r : Option Root). IfSome r (λ root. IsScope c.args.self.now.module.now c.args.self.now → LeadsTo m c.args.outer f root)) c.in_ok-root.ensures.ok_part c.root_of.ensures.leads s.settled.known in
    let can = can_make-root c.args.self.now f (tagged c.in-Tagged.prefix (form c.deref.result.now)) c.root_of.result root c.in_ok-root.ensures.ok_part c.root_of.ensures.apart
    (ap form c.in-Tagged.is ∙ form-Tagged c.in-Tagged.prefix c.in-Tagged.inner ∙ ap (λ (e : Expr). tagged c.in-Tagged.prefix (form e)) (sym c.deref.ensures)) s in
    let more : c.args.depth ≡ suc c.in_ok-depth.depth = search rules in
    explicit_never m c.args.depth c.in_ok-depth.depth c.args.outer root.tag f (form root.expr.now) c.in-Tagged.prefix (form c.in-Tagged.inner.value) (form c.deref.result.now) leads
    (ap form c.in-Tagged.is ∙ form-Tagged c.in-Tagged.prefix c.in-Tagged.inner) (ap form c.deref.ensures) more (h not (can_make-tagged c.args.self.now.module.now c.args.self.now c.in-Tagged.prefix (form c.deref.result.now) can))) c.explicit.ensures.never

pub expand-returns-in-Of-clause-never : goal.expand-returns-in-Of-clause-never
expand-returns-in-Of-clause-never t c = IfErr-map c.of.result _ _ (λ stop h not s.
    let m = tree c.args.self.now.module.now in
    let f = form c.args.expr.now in
    let root = c.in_ok-root.root in
    let leads = subst (λ (r : Option Root). IfSome r (λ root. IsScope c.args.self.now.module.now c.args.self.now → LeadsTo m c.args.outer f root)) c.in_ok-root.ensures.ok_part c.root_of.ensures.leads s.settled.known in
    let can = can_make-root c.args.self.now f (of c.in-Of.group (form c.deref-in-Of.result.now)) c.root_of.result root c.in_ok-root.ensures.ok_part c.root_of.ensures.apart
    (ap form c.in-Of.is ∙ form-Of c.in-Of.group c.in-Of.inner ∙ ap (λ (e : Expr). of c.in-Of.group (form e)) (sym c.deref-in-Of.ensures)) s in
    let more : c.args.depth ≡ suc c.in_ok-depth.depth = search rules in
    of_never m c.args.depth c.in_ok-depth.depth c.args.outer root.tag f (form root.expr.now) c.in-Of.group (form c.in-Of.inner.value) (form c.deref-in-Of.result.now) leads
    (ap form c.in-Of.is ∙ form-Of c.in-Of.group c.in-Of.inner) (ap form c.deref-in-Of.ensures) more (h not (can_make-of c.args.self.now.module.now c.args.self.now c.in-Of.group (form c.deref-in-Of.result.now) can))) c.of.ensures.never

pub expand-returns-in-Some-clause-never : goal.expand-returns-in-Some-clause-never
expand-returns-in-Some-clause-never t c = λ not s.
    let m = tree c.args.self.now.module.now in
    let f = form c.args.expr.now in
    let root = c.in_ok-root.root in
    let leads = subst (λ (r : Option Root). IfSome r (λ root. IsScope c.args.self.now.module.now c.args.self.now → LeadsTo m c.args.outer f root)) c.in_ok-root.ensures.ok_part c.root_of.ensures.leads s.settled.known in
    choice_under_tag m c.args.depth c.args.outer root.tag f (form root.expr.now) (map alternative c.in-Choice.alternatives.items) c.in-Some.field-0 leads (ap form c.in-Choice.is ∙ form-Choice c.in-Choice.alternatives) c.in-Some.is

pub expand-returns-in-None-clause-never : goal.expand-returns-in-None-clause-never
expand-returns-in-None-clause-never t c = IfErr-map c.choice.result _ _ (λ stop h not s.
    let m = tree c.args.self.now.module.now in
    let f = form c.args.expr.now in
    let root = c.in_ok-root.root in
    let leads = subst (λ (r : Option Root). IfSome r (λ root. IsScope c.args.self.now.module.now c.args.self.now → LeadsTo m c.args.outer f root)) c.in_ok-root.ensures.ok_part c.root_of.ensures.leads s.settled.known in
    let can = can_make-root c.args.self.now f (choice (alternatives_of (map alternative c.deref-in-None.result.now))) c.root_of.result root c.in_ok-root.ensures.ok_part c.root_of.ensures.apart
    (ap form c.in-Choice.is ∙ form-Choice c.in-Choice.alternatives ∙ ap (λ (as' : List Alternative). choice (alternatives_of (map alternative as'))) (sym c.deref-in-None.ensures.value)) s in
    let more : c.args.depth ≡ suc c.in_ok-depth.depth = search rules in
    root_never m c.args.depth c.in_ok-depth.depth c.args.outer root.tag f (form root.expr.now) (choice (alternatives_of (map alternative c.deref-in-None.result.now))) leads
    (ap form c.in-Choice.is ∙ form-Choice c.in-Choice.alternatives ∙ ap (λ (as' : List Alternative). choice (alternatives_of (map alternative as'))) (sym c.deref-in-None.ensures.value)) more (h not can root.tag)) c.choice.ensures.never

pub expand-returns-in-Enumerated-clause-never : goal.expand-returns-in-Enumerated-clause-never
expand-returns-in-Enumerated-clause-never t c = IfErr-map c.enumerated.result _ _ (λ stop h not s.
    let m = tree c.args.self.now.module.now in
    let f = form c.args.expr.now in
    let root = c.in_ok-root.root in
    let leads = subst (λ (r : Option Root). IfSome r (λ root. IsScope c.args.self.now.module.now c.args.self.now → LeadsTo m c.args.outer f root)) c.in_ok-root.ensures.ok_part c.root_of.ensures.leads s.settled.known in
    let is = ap form c.in-Enumerated.is ∙ form-Enumerated c.in-Enumerated.items ∙ ap (λ (xs : List Item). enumerated (map entry xs)) (sym c.deref-in-Enumerated.ensures.value) in
    no_type_within-root m c.args.depth c.args.outer root.tag f (form root.expr.now) leads (nothing_within m c.args.depth root.tag (form root.expr.now) (subst (MeansNothing m) (sym is) (h not m)))) c.enumerated.ensures.never

pub choice-returns-in_err-ty-clause-never : goal.choice-returns-in_err-ty-clause-never
choice-returns-in_err-ty-clause-never t c = IfErr-from c.from_residual-in_err-ty.result _ _ c.from_residual-in_err-ty.ensures.1 (λ stop same not s under.
    let m = tree c.args.self.now.module.now in
    let xs = c.args.alternatives.now in
    let is = c.is_automatic-automatic.ensures ∙ ap (has_automatic_tags m.tagging) c.are_alternatives_tagged.ensures in
    choice_never m c.args.depth under xs c.is_automatic-automatic.result c.loop-place.place c.index-alternatives-place.result c.loop-place-test.true c.index-alternatives-place.is is (c.in_err-ty.ensures.never (λ e. not (same ∙ e)) (can_make-alternative c.args.self.now.module.now c.args.self.now xs c.loop-place.place c.index-alternatives-place.result c.loop-place-test.true c.index-alternatives-place.is s)))

pub fields-returns-in_err-ty-clause-never : goal.fields-returns-in_err-ty-clause-never
fields-returns-in_err-ty-clause-never t c = IfErr-from c.from_residual-in_err-ty.result _ _ c.from_residual-in_err-ty.ensures.1 (λ stop same not group s under.
    let m = tree c.args.self.now.module.now in
    let xs = c.args.components.now in
    let is = c.is_automatic-automatic.ensures ∙ ap (has_automatic_tags m.tagging) c.are_components_tagged.ensures in
    list_never m c.args.depth under group xs c.is_automatic-automatic.result c.loop-place.place c.index-components-place.result c.loop-place-test.true c.index-components-place.is is
    (λ view one small. c.in_err-ty.ensures.never (λ e. not (same ∙ e)) (can_make-component c.args.self.now.module.now c.args.self.now group xs c.loop-place.place c.index-components-place.result c.loop-place-test.true c.index-components-place.is s) view.type one.type small))

pub fields-returns-in_err-presence-clause-never : goal.fields-returns-in_err-presence-clause-never
fields-returns-in_err-presence-clause-never t c = IfErr-from c.from_residual-in_err-presence.result _ _ c.from_residual-in_err-presence.ensures.1 (λ stop same not group s under.
    let m = tree c.args.self.now.module.now in
    let xs = c.args.components.now in
    let x = c.index-components-place.result in
    let automatic = c.is_automatic-automatic.result in
    let is = c.is_automatic-automatic.ensures ∙ ap (has_automatic_tags m.tagging) c.are_components_tagged.ensures in
    list_never m c.args.depth under group xs automatic c.loop-place.place x c.loop-place-test.true c.index-components-place.is is
    (λ view one small. no_view-default m s.settled.known.differ automatic c.loop-place.place (component x) (ty_view c.in_ok-ty.ty) (c.in_ok-ty.ensures.value (can_make-component c.args.self.now.module.now c.args.self.now group xs c.loop-place.place x c.loop-place-test.true c.index-components-place.is s)) (c.in_err-presence.ensures.never (λ e. not (same ∙ e))) view one))

pub part-returns-in_ok-depth-clause-never : goal.part-returns-in_ok-depth-clause-never
part-returns-in_ok-depth-clause-never t c = IfErr-map c.explicit.result _ _ (λ stop h not s.
    let m = tree c.args.self.now.module.now in
    let f = form c.args.body.now in
    let place = c.args.place in
    let told = subst (λ (r : Option Bool). IfSome r (λ told. IsScope c.args.self.now.module.now c.args.self.now → TellsChoice told m f)) c.in_ok-ok_or.ensures.ok_part c.is_untagged_choice.ensures.tells s.settled.known in
    let choices = subst (λ (b : Bool). TellsChoice b m f) c.if-branch.true told in
    let more : c.args.depth ≡ suc c.in_ok-depth.depth = search rules in
    let none = no_part_within-choice m c.in_ok-depth.depth place f choices (h not s) in
    subst (λ (b : Bool). PartHasNoTypeWithin m c.args.depth b place f) (sym c.if-not-automatic.false) (subst (λ (n : ℕ). PartHasNoTypeWithin m n true place f) (sym more) none)) c.explicit.ensures.never
