use Rattle.std.proofs.Common.{◌∙◌, ap, sym, arith, List, ℕ, Vec, Global, map, Bor}
use Rattle.syntax.specs.View.{form, tree}
use Rattle.notation.specs.Settled.{place_in}
use Rattle.notation.specs.References.{names_in}
use Rattle.notation.proofs.PlaceLemmas.{placed_more, placed_none, placed_all}
use Rattle.notation.proofs.scope.Scope.places_of.Goals as goal
use Rattle.notation.proofs.scope.Scope.places_of.Goals.{in-Some+in_ok-push-in-Some, in-None}

pub loop-name-preserved : goal.loop-name-preserved
loop-name-preserved c = λ s.
    let m = tree c.args.self.now.module.now in
    let ks = c.deref-name-items.result.now in
    elim c.match-place_of.branch [
      | in-Some+in_ok-push-in-Some w ↦ placed_more (place_in m) (λ n. n.now) ks c.loop-name.name-index _ w.in-Some.place c.loop-name.places.items c.match-place_of.places.items (omega arith)
          (sym (c.place_of.ensures.place s) ∙ w.in-Some.is) (ap (λ (v : Vec ℕ Global). v.items) w.places-is ∙ w.in_ok-push-in-Some.ensures.items) (c.loop-name.invariant s)
      | in-None w ↦ placed_none (place_in m) (λ n. n.now) ks c.loop-name.name-index _ c.loop-name.places.items c.match-place_of.places.items (omega arith)
          (sym (c.place_of.ensures.place s) ∙ w.in-None.is) (ap (λ (v : Vec ℕ Global). v.items) w.places-is) (c.loop-name.invariant s)
    ]

pub returns : goal.returns
returns c = λ s.
    let m = tree c.args.self.now.module.now in
    placed_all (place_in m) (λ n. n.now) c.deref-name-items.result.now c.loop-name.name-index (names_in (form c.args.body.now)) c.loop-name.places.items (omega arith)
    (ap (λ (ks : List (Bor (List ℕ))). map (λ n. n.now) ks) c.deref-name-items.ensures.value ∙ c.in_ok-references_of.ensures) (c.loop-name.invariant s)
