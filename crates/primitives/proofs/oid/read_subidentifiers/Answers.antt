use Rattle.std.proofs.Common.{◌≡◌, ◌≤◌, ◌∷◌, [], ◌++◌, ◌+◌, ◌-◌, ◌^◌, ◌<◌, ◌∙◌, ap, subst, append_assoc, drop, take, length, length-append, arith, ℕ, List}
use Rattle.std.proofs.lemmas.List.{take_all, length-drop}
use Rattle.octets.specs.Base128.{IsBase128}
use Rattle.octets.specs.Front.{HasFront}
use Rattle.primitives.specs.Oid.{IsReadSubidentifier}
use Rattle.primitives.proofs.SubidentifierLemmas.{some_read}
use Rattle.primitives.proofs.OidLemmas.{AreRead-more, no_subidentifiers-many, no_subidentifiers-bad}
use Rattle.primitives.proofs.oid.read_subidentifiers.Goals as goal

pub returns-then-len-most-clause-none : goal.returns-then-len-most-clause-none
returns-then-len-most-clause-none c = λ refused numbers few small.
    let read = c.loop-start.invariant.read in
    let many : length numbers ≤ length read.0 = omega (arith, few, ap length read.1, length-append c.args.arcs.now.items read.0, c.loop-start.arcs.ok, c.len.ensures, c.if-len-most.true) in
    no_subidentifiers-many c.args.contents.now c.loop-start.start read.0 numbers read.2 many c.loop-start-test.true small

pub returns-in_default-clause-none : goal.returns-in_default-clause-none
returns-in_default-clause-none c = λ refused numbers few small.
    let read = c.loop-start.invariant.read in
    let rest = drop c.loop-start.start c.args.contents.now in
    let all : take (length c.args.contents.now - c.loop-start.start) rest ≡ rest = take_all (length c.args.contents.now - c.loop-start.start) rest (omega (arith, length-drop c.loop-start.start c.args.contents.now)) in
    no_subidentifiers-bad c.args.contents.now c.loop-start.start read.0 numbers read.2 c.loop-start-test.true (subst (λ t. (n : ℕ) → n < 2 ^ 128 → HasFront (IsBase128 n) t → ⊥) all c.in_default.ensures.none) small

pub loop-start-preserved : goal.loop-start-preserved
loop-start-preserved c =
    let contents : List ℕ = c.args.contents.now in
    let start = c.loop-start.start in
    let rest = drop start contents in
    let before = c.loop-start.invariant.read in
    let all : take (length contents - start) rest ≡ rest = take_all (length contents - start) rest (omega (arith, length-drop start contents)) in
    let read = subst (λ t. IsReadSubidentifier t c.in-Some.number c.in-Some.used) all c.in-Some.ensures.value in
    let one = c.in-Some.number ∷ [] in
    let put = c.push_reserved.ensures.items in
    let size : length c.push_reserved.new.self.items ≡ length c.loop-start.arcs.items + 1 = omega (arith, ap length put, length-append c.loop-start.arcs.items one) in
    record {
      read = (
        before.0 ++ one,
        put ∙ (ap (λ t. t ++ one) before.1 ∙ append_assoc c.args.arcs.now.items before.0 one),
        AreRead-more contents start before.0 c.in-Some.number c.in-Some.used before.2 read,
      );
      within = omega (arith, size, c.loop-start.invariant.within, c.loop-start.arcs.ok, c.len.ensures, c.if-len-most.false);
      few = omega (arith, size, c.loop-start.invariant.few, some_read rest c.in-Some.number c.in-Some.used read);
      room = c.push_reserved.ensures.capacity ∙ c.loop-start.invariant.room;
    }
