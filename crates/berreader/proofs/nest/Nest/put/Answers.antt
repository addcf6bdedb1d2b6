use Rattle.std.proofs.Common.{◌≡◌, ◌+◌, ◌∷◌, [], Some, length, refl, sym, ap, ◌∙◌, subst}
use Rattle.std.specs.Prelude.{reverse}
use Rattle.types.specs.View.{ty_view, value_view}
use Rattle.berreader.specs.declared.nest.Nest.{Nest}
use Rattle.berreader.specs.declared.stack.Open.{Open}
use Rattle.berreader.specs.Stack.{layers_from, layers_of}
use Rattle.berreader.specs.Nest.{HasCome, IsCome, IsDueInside, IsLast}
use Rattle.berreader.proofs.NestStepLemmas.{come_top}
use Rattle.berreader.proofs.nest.Nest.put.Goals as goal

pub put-requires : goal.put-requires
put-requires c =
    let old = c.args.self.now in
    let due = c.requires.due in
    (due.0, subst (λ t. IsDueInside (ty_view old.ty.now) (layers_from (t ∷ reverse old.layers.outer.items)) due.0) c.in-Some.is due.1)

pub returns-in_ok-put-in-Some-clause-come : goal.returns-in_ok-put-in-Some-clause-come
returns-in_ok-put-in-Some-clause-come c = λ type tag v wraps.
    let old = c.args.self.now in
    let used = c.args.used in
    let top = c.in-Some.top in
    let held = c.put.new.self in
    let opened : Open = record { frame = top.frame; tag = top.tag; ty = top.ty; held_parts = held; which = top.which } in
    let new : Nest = record { ty = old.ty; layers = record { top = Some opened; outer = old.layers.outer }; taken = old.taken + used } in
    let come : HasCome old new type tag v used used = record {
      used_is = refl;
      type_is = refl;
      taken = refl;
      come = come_top old.layers top held type tag v (value_view c.args.value) c.in-Some.is wraps c.in_ok-put-in-Some.ensures;
    } in
    subst (λ whole. IsCome old new type tag v used whole used) (sym c.requires.whole) come

pub returns-in_ok-put-in-Some-clause-counted : goal.returns-in_ok-put-in-Some-clause-counted
returns-in_ok-put-in-Some-clause-counted c = λ counted. counted ∙ ap (λ t. length (layers_from (t ∷ reverse c.args.self.now.layers.outer.items))) c.in-Some.is

pub returns-in-None-clause-come : goal.returns-in-None-clause-come
returns-in-None-clause-come c = λ type tag v wraps.
    let old = c.args.self.now in
    let used = c.args.used in
    let empty : layers_of old.layers ≡ [] = ap (λ t. layers_from (t ∷ reverse old.layers.outer.items)) c.in-None.is in
    let new : Nest = record { ty = old.ty; layers = old.layers; taken = 0 } in
    let last : IsLast old new type tag v (value_view c.args.value) used used = record {
      used_is = refl;
      type_is = refl;
      wraps = wraps;
      before = empty;
      layers = empty;
      taken = refl;
    } in
    last
