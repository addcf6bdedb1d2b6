use Rattle.std.proofs.Common.{◌≡◌, ◌≢◌, ◌<◌, ◌≤◌, ◌^◌, arith, subst, length, get_or, refl}
use Rattle.primitives.proofs.SubidentifierLemmas.{IsBegun, IsBegun-more, IsBase128-from_begun, no_subidentifier-great, no_subidentifier-open}
use Rattle.primitives.proofs.subidentifier.read_long_subidentifier.Goals as goal
use Rattle.primitives.proofs.subidentifier.read_long_subidentifier.Goals.{else-i-eq0-via-then-i-eq0+else-octet, else-i-eq0-via-else-i-eq0}

pub returns-then-number-clause-none : goal.returns-then-number-clause-none
returns-then-number-clause-none c = λ number small front.
    let limit : 2 ^ 121 ≤ c.loop-i.number = omega (arith, c.if-number.true) in
    no_subidentifier-great c.args.octets.now c.loop-i.i c.loop-i.number number c.loop-i.invariant.begun limit small front

pub returns-then-octet-lt128-clause-value : goal.returns-then-octet-lt128-clause-value
returns-then-octet-lt128-clause-value c =
    let octets = c.args.octets.now in
    let i = c.loop-i.i in
    let limit : c.loop-i.number < 2 ^ 121 = omega (arith, c.if-number.false) in
    let last = IsBase128-from_begun octets i c.loop-i.number (get_or octets i 0) c.loop-i.invariant.begun c.loop-i-test.true refl c.if-octet-lt128.true in
    record {
      there = omega (arith, c.loop-i-test.true);
      within = omega (arith, limit, c.from.ensures, c.type_inv.octets i);
      spelt = rw c.from.ensures last;
    }

pub loop-i-preserved : goal.loop-i-preserved
loop-i-preserved c =
    let octets = c.args.octets.now in
    let i = c.loop-i.i in
    let limit : c.loop-i.number < 2 ^ 121 = omega (arith, c.if-number.false) in
    let first : i ≡ 0 → get_or octets i 0 ≢ 128 = λ none same.
    elim c.else-i-eq0.branch [
      | else-i-eq0-via-then-i-eq0+else-octet w ↦ w.if-octet.false same
      | else-i-eq0-via-else-i-eq0 w ↦ w.if-i-eq0.false none
    ] in
    let more = IsBegun-more octets i c.loop-i.number (get_or octets i 0) c.loop-i.invariant.begun c.loop-i-test.true refl c.if-octet-lt128.false (omega (arith, c.type_inv.octets i)) first in
    record {
      begun = rw c.from.ensures more;
      within = omega (arith, limit, c.from.ensures);
    }

pub returns-clause-none : goal.returns-clause-none
returns-clause-none c = λ number small front.
    let last : c.loop-i.i ≡ length c.args.octets.now = omega arith in
    no_subidentifier-open c.args.octets.now c.loop-i.number number (subst (λ n. IsBegun c.args.octets.now n c.loop-i.number) last c.loop-i.invariant.begun) front
