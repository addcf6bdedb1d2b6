use Rattle.std.proofs.Common.{◌≡◌, ◌^◌, ◌*◌, refl, sym, subst, arith}
use Rattle.std.proofs.lemmas.List.{append-nil, drop_all}
use Rattle.primitives.specs.Integer.{IsInteger, number_at}
use Rattle.primitives.proofs.IntegerLemmas.{IsSpelling-step, IsInteger-from_spelling}
use Rattle.primitives.proofs.integer.signed_at_end.Goals as goal

pub loop-rest-init : goal.loop-rest-init
loop-rest-init c =
    let whole : 256 ^ 16 ≡ 2 * 2 ^ 127 = refl in
    record {
      some = omega arith;
      within = omega arith;
      size = c.told-room;
      room = omega (arith, whole, c.requires);
      joined = λ b h.
          rw (drop_all 16 c.args.room.now (omega (arith, c.told-room)))
          (subst (IsInteger (number_at c.args.negative c.args.distance)) (sym (append-nil b)) h);
    }

pub loop-rest-preserved : goal.loop-rest-preserved
loop-rest-preserved c =
    rw c.last_octet.ensures (IsSpelling-step c.args.negative c.args.distance c.loop-rest.rest c.loop-rest.start c.loop-rest.room c.loop-rest.invariant c.loop-rest-test.true)

pub overflow_sub-start-2 : goal.overflow_sub-start-2
overflow_sub-start-2 c = omega (arith, c.loop-rest.invariant.some)

pub returns : goal.returns
returns c =
    rw c.last_octet-2.ensures (IsInteger-from_spelling c.args.negative c.args.distance c.loop-rest.rest c.loop-rest.start c.loop-rest.room c.loop-rest.invariant (omega (arith, c.loop-rest-test.false)))
