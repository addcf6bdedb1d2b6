use Rattle.std.proofs.Common.{◌≡◌, ◌∷◌, true, false, refl, subst, arith}
use Rattle.octets.specs.Rule.{ber}
use Rattle.primitives.specs.Bits.{IsBits}
use Rattle.primitives.proofs.BitsLemmas.{CanBeUnused-from}
use Rattle.encoding_parts.proofs.JoinedLemmas.{bits_joined, all_octets}
use Rattle.encoding_parts.proofs.joined.Joined.join_bits.Goals as goal

pub returns-then-not-can_be_unused-clause-none : goal.returns-then-not-can_be_unused-clause-none
returns-then-not-can_be_unused-clause-none c = λ same piece holds.
    let u = c.in-Some.field-0-0.now in
    let d = c.in-Some.octets.now in
    let h : IsBits ber piece (u ∷ d) = subst (IsBits ber piece) c.in-Some.ensures.cases.0 holds in
    let other : false ≡ true = c.if-not-can_be_unused.ensures.1 (CanBeUnused-from ber piece u d h) in cc

pub returns-in-Ok-clause-joined : goal.returns-in-Ok-clause-joined
returns-in-Ok-clause-joined c =
    bits_joined c.args.self.now (record { octets = c.extend_from_slice.new.self; unused = c.in-Some.field-0-0.now }) c.in-Some.field-0-0.now c.in-Some.octets.now c.args.contents.now c.in-Some.ensures.cases.0
    (c.if-not-can_be_unused.ensures.0 refl) (all_octets c.args.contents.now (λ i. omega (arith, c.type_inv.contents i))) c.requires.whole c.requires.held c.in-Ok.ensures.items refl
