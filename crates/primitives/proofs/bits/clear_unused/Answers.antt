use Rattle.std.proofs.Common.{◌≡◌, ◌<◌, ◌≤◌, ℕ, List, length, arith, sym, ◌∙◌, subst, All, vec_len}
use Rattle.std.proofs.lemmas.Bool.{eqb-false}
use Rattle.std.proofs.lemmas.List.Elements.{All-from_get_or}
use Rattle.primitives.specs.Bits.{IsPadded, IsFrontOf, bits_before}
use Rattle.primitives.proofs.BitsLemmas.{IsPadded-whole, IsPadded-cleared, IsFrontOf-whole, IsFrontOf-cleared, IsCleared-from}
use Rattle.primitives.proofs.bits.clear_unused.Goals as goal

pub returns-then-unused-eq0-clause-front : goal.returns-then-unused-eq0-clause-front
returns-then-unused-eq0-clause-front c = λ _.
    let octets : List ℕ = c.args.octets.now.items in
    let none : c.args.unused ≡ 0 = c.if-unused-eq0.true in
    subst (λ u. IsFrontOf (bits_before octets u) u octets) (sym none) (IsFrontOf-whole octets)

pub returns-then-unused-eq0-clause-padded : goal.returns-then-unused-eq0-clause-padded
returns-then-unused-eq0-clause-padded c = λ _.
    let octets : List ℕ = c.args.octets.now.items in
    let below : All (λ o. o < 256) octets = All-from_get_or {X = ℕ} (λ o. o < 256) octets 0 (λ i there. omega (arith, c.type_inv.octets i)) in
    let none : c.args.unused ≡ 0 = c.if-unused-eq0.true in
    subst (λ u. IsPadded (bits_before octets u) octets u) (sym none) (IsPadded-whole octets below)

pub returns-clause-front : goal.returns-clause-front
returns-clause-front c = λ _.
    let octets : List ℕ = c.args.octets.now.items in
    let below : All (λ o. o < 256) octets = All-from_get_or {X = ℕ} (λ o. o < 256) octets 0 (λ i there. omega arith) in
    let n : ℕ = c.len-last.result in
    let size : n ≡ length octets = omega (arith, c.args.octets.now.ok, c.len-last.ensures) in
    let none = eqb-false (vec_len c.args.octets.now) 0 (sym c.is_empty.ensures ∙ c.if-is_empty.false) in
    let some : 1 ≤ n = omega (arith, none, c.len-last.ensures) in
    let h = IsCleared-from octets n c.args.unused c.index.result.now size some c.if-unused-gt7.false below c.index.ensures in
    rw size (IsFrontOf-cleared octets c.args.unused _ h)

pub returns-clause-padded : goal.returns-clause-padded
returns-clause-padded c = λ _.
    let octets : List ℕ = c.args.octets.now.items in
    let below : All (λ o. o < 256) octets = All-from_get_or {X = ℕ} (λ o. o < 256) octets 0 (λ i there. omega arith) in
    let n : ℕ = c.len-last.result in
    let size : n ≡ length octets = omega (arith, c.args.octets.now.ok, c.len-last.ensures) in
    let none = eqb-false (vec_len c.args.octets.now) 0 (sym c.is_empty.ensures ∙ c.if-is_empty.false) in
    let some : 1 ≤ n = omega (arith, none, c.len-last.ensures) in
    let h = IsCleared-from octets n c.args.unused c.index.result.now size some c.if-unused-gt7.false below c.index.ensures in
    rw size (IsPadded-cleared octets c.args.unused _ h)
