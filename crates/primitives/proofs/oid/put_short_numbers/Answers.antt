use Rattle.std.proofs.Common.{◌≡◌, ◌≢◌, ◌∷◌, [], ◌++◌, ◌∙◌, ◌+◌, ◌-◌, ◌*◌, sym, ap, subst, append_assoc, length, length-append, get_or, arith, rules, refl, ℕ, List}
use Rattle.std.proofs.lemmas.List.{append-nil}
use Rattle.primitives.proofs.BegunLemmas.{AreBegun, AreBegun-none, AreBegun-last, AreBegun-more}
use Rattle.primitives.proofs.oid.put_short_numbers.Goals as goal
use Rattle.primitives.proofs.oid.put_short_numbers.Goals.{then-octet-lt128, else-octet-lt128+else-not-goes_on}

pub loop-octet-init : goal.loop-octet-init
loop-octet-init c = record {
  read = ([], sym (append-nil c.args.numbers.now.items), AreBegun-none c.args.octets.now);
  small = omega arith;
  few = omega arith;
  room = refl;
}

pub loop-octet-preserved : goal.loop-octet-preserved
loop-octet-preserved c =
    let octets : List ℕ = c.args.octets.now in
    let old : List ℕ = c.args.numbers.now.items in
    let i = c.loop-octet.octet-index in
    let octet : ℕ = get_or octets i 0 in
    let begun : ℕ = c.loop-octet.begun in
    let before = c.loop-octet.invariant.read in
    elim c.if-octet-lt128.branch [
      | then-octet-lt128 w ↦
          let number = begun * 128 + octet in
          let value : w.from-then-octet-lt128.result ≡ number = omega (arith, w.from.ensures, w.from-then-octet-lt128.ensures) in
          let items : c.if-octet-lt128.numbers.items ≡ c.loop-octet.numbers.items ++ number ∷ [] = ap (λ v. v.items) w.numbers-is ∙ (w.push_reserved.ensures.items ∙ ap (λ n. c.loop-octet.numbers.items ++ n ∷ []) value) in
          record {
            read = (
              before.0 ++ number ∷ [],
              items ∙ (ap (λ t. t ++ number ∷ []) before.1 ∙ append_assoc old before.0 (number ∷ [])),
              subst (AreBegun octets (i + 1) (before.0 ++ number ∷ [])) (sym w.begun-is) (AreBegun-last octets i before.0 begun octet before.2 c.loop-octet-test.true refl w.if-octet-lt128.true c.loop-octet.invariant.small),
            );
            small = omega (arith, w.begun-is);
            few = omega (arith, ap length items, length-append c.loop-octet.numbers.items (number ∷ []), c.loop-octet.invariant.few);
            room = ap (λ v. v.cap) w.numbers-is ∙ (w.push_reserved.ensures.capacity ∙ c.loop-octet.invariant.room);
          }
      | else-octet-lt128+else-not-goes_on w ↦
          let number = begun * 128 + (octet - 128) in
          let value : c.if-octet-lt128.begun ≡ number = omega (arith, w.begun-is, w.from-else-octet-lt128.ensures) in
          let some : number ≢ 0 = λ none. omega (arith, none, w.from-else-octet-lt128.ensures, (w.if-not-goes_on.ensures (search rules)).0) in
          let items : c.if-octet-lt128.numbers.items ≡ c.loop-octet.numbers.items = ap (λ v. v.items) w.numbers-is in
          record {
            read = (
              before.0,
              items ∙ before.1,
              subst (AreBegun octets (i + 1) before.0) (sym value) (AreBegun-more octets i before.0 begun octet before.2 c.loop-octet-test.true refl w.if-octet-lt128.false (omega (arith, c.type_inv.octets i)) some),
            );
            small = omega (arith, w.begun-is, (w.if-not-goes_on.ensures (search rules)).1);
            few = omega (arith, ap length items, c.loop-octet.invariant.few);
            room = ap (λ v. v.cap) w.numbers-is ∙ c.loop-octet.invariant.room;
          }
    ]
