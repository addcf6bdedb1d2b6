use Rattle.std.proofs.Common.{◌≡◌, ◌<◌, ◌≤◌, ◌∙◌, ap, sym, refl, subst, arith, List, ℕ, length, get_or, Vec, Global}
use Rattle.std.proofs.lemmas.Bool.{ltb-true, ltb-false}
use Rattle.notation.proofs.ResolvingLemmas.{own_scope}
use Rattle.notation.proofs.ApartLemmas.{apart_start, apart_more, look_apart, next_unknown}
use Rattle.notation.proofs.LimitedLemmas.{weighed_start, look_weighs, weighed_more}
use Rattle.notation.proofs.SettlingLemmas.{next_told, settling_start, settling_more, settling_end, scope_kept, look_leads, look_unknown, ready_past}
use Rattle.notation.proofs.scope.Scope.settle.Goals as goal

pub loop-turn-init : goal.loop-turn-init
loop-turn-init c = record {
  same = refl;
  scope_of = λ new. new.scope_of;
  settling = λ new. settling_start c.args.self.now.module.now c.args.self.now c.in_ok-waits.waits.waiting.items c.in_ok-ready.ready.items c.in_ok-waits.waits.users.items new (c.in_ok-waits.ensures new.scope_of) c.in_ok-ready.ensures;
  weighed = λ new. weighed_start c.args.self.now.module.now c.args.self.now new;
  apart = λ new. apart_start c.args.self.now.module.now c.args.self.now new;
}

pub loop-turn-preserved : goal.loop-turn-preserved
loop-turn-preserved c =
    let m = c.args.self.now.module.now in
    let scope = c.loop-turn.self in
    let inv = c.loop-turn.invariant in
    let place = c.in-Some.place.now in
    let ready = c.loop-turn.ready.items in
    let own : scope.module.now ≡ m = ap (λ r. r.now) inv.same in
    let within : c.loop-turn.turn < length ready = subst (λ (xs : List ℕ). c.loop-turn.turn < length xs) c.deref.ensures.value (ltb-true _ _ (sym c.in-Some.ensures.lookup.0)) in
    let at : place ≡ get_or ready c.loop-turn.turn place = c.in-Some.ensures.lookup.1 ∙ ap (λ (xs : List ℕ). get_or xs c.loop-turn.turn place) c.deref.ensures.value in
    record {
      same = c.tell.ensures.module ∙ inv.same;
      scope_of = λ new. scope_kept m scope c.tell.new.self place c.in_ok-seen.seen c.tell.ensures.module c.tell.ensures.names c.tell.ensures.seen (look_leads m scope.module.now scope place c.in_ok-seen.seen own (inv.scope_of new) c.in_ok-seen.ensures.leads) (inv.scope_of new);
      settling = λ new.
          settling_more m scope (inv.scope_of new) c.loop-turn.waits.waiting.items c.settle.new.self.waiting.items ready c.settle.new.ready.items c.loop-turn.waits.users.items c.settle.new.self.users.items c.loop-turn.turn place place c.in_ok-seen.seen c.tell.new.self.seen.items within at c.tell.ensures.seen
          (look_unknown m scope.module.now scope place c.in_ok-seen.seen own (inv.scope_of new) c.in_ok-seen.ensures.unknown)
          (ap (λ (v : Vec (Vec ℕ Global) Global). v.items) c.settle.ensures.users) c.in_ok-settle.ensures.waiting c.settle.ensures.length c.settle.ensures.ready (inv.settling new);
      weighed = λ new.
          weighed_more m scope c.tell.new.self place c.in_ok-seen.seen c.tell.ensures.seen
          (look_weighs m scope.module.now scope place c.in_ok-seen.seen own c.in_ok-seen.ensures.weighed (λ a stands. record {
            known = inv.scope_of new;
            told = next_told m scope (inv.scope_of new) c.loop-turn.waits.waiting.items ready c.loop-turn.waits.users.items c.loop-turn.turn place place a within at stands (inv.settling new);
            weighed = inv.weighed new;
          }))
          (inv.weighed new);
      apart = λ new.
          apart_more scope c.tell.new.self place c.in_ok-seen.seen c.tell.ensures.module c.tell.ensures.seen (next_unknown m scope.seen.items c.loop-turn.waits.waiting.items ready c.loop-turn.waits.users.items c.loop-turn.turn place place within at (inv.settling new))
          (look_apart scope c.in_ok-seen.seen (own_scope m scope (inv.scope_of new)) (inv.apart new) c.in_ok-seen.ensures.apart) (inv.apart new);
    }

pub returns-in-None-clause-settled : goal.returns-in-None-clause-settled
returns-in-None-clause-settled c = λ new.
    let past : length c.loop-turn.ready.items ≤ c.loop-turn.turn = (let e = ap (λ (xs : List ℕ). length xs) c.deref.ensures.value in let p = ltb-false _ _ (sym c.in-None.ensures.lookup.0) in omega (arith, e, p)) in
    settling_end c.args.self.now.module.now c.loop-turn.self (c.loop-turn.invariant.scope_of new) c.loop-turn.waits.waiting.items c.loop-turn.ready.items c.loop-turn.waits.users.items c.loop-turn.turn past (c.loop-turn.invariant.settling new)

pub returns-clause-settled : goal.returns-clause-settled
returns-clause-settled c = λ new.
    let settling = c.loop-turn.invariant.settling new in
    let long : length c.args.self.now.seen.items ≤ c.loop-turn.turn = (let e = c.len-turn-end.ensures in omega (arith, e)) in
    settling_end c.args.self.now.module.now c.loop-turn.self (c.loop-turn.invariant.scope_of new) c.loop-turn.waits.waiting.items c.loop-turn.ready.items c.loop-turn.waits.users.items c.loop-turn.turn
    (ready_past c.args.self.now.module.now c.args.self.now c.loop-turn.self.seen.items c.loop-turn.waits.waiting.items c.loop-turn.ready.items c.loop-turn.waits.users.items c.loop-turn.turn new long settling) settling

pub returns-in-None-clause-weighed : goal.returns-in-None-clause-weighed
returns-in-None-clause-weighed c = c.loop-turn.invariant.weighed

pub returns-clause-weighed : goal.returns-clause-weighed
returns-clause-weighed c = c.loop-turn.invariant.weighed

pub returns-in-None-clause-apart : goal.returns-in-None-clause-apart
returns-in-None-clause-apart c = c.loop-turn.invariant.apart

pub returns-clause-apart : goal.returns-clause-apart
returns-clause-apart c = c.loop-turn.invariant.apart
