use Rattle.std.proofs.Common.{◌≡◌, ◌<◌, ◌∷◌, ◌∙◌, rules, ℕ, List, Bool, sym, subst, arith, All}
use Rattle.std.proofs.lemmas.Bool.{iff_false}
use Rattle.std.proofs.lemmas.List.Elements.{All-from_get_or}
use Rattle.octets.specs.Rule.{ber}
use Rattle.octets.proofs.DigitLemmas.{All-tail}
use Rattle.primitives.specs.Bits.{IsBits, IsFrontOf, CanBeUnused, bits_before}
use Rattle.primitives.proofs.BitsLemmas.{IsBits-from_front, IsPadded-whole, CanBeUnused-from}
use Rattle.primitives.proofs.bits.read_bits_into.Goals as goal

pub invariant_of-bits-then-not-clear_unused : goal.invariant_of-bits-then-not-clear_unused
invariant_of-bits-then-not-clear_unused c =
    let octets : List ℕ = c.in-Some.data.now in
    let contents : List ℕ = c.args.contents.now in
    let whole : contents ≡ c.in-Some.field-0-0.now ∷ octets = c.in-Some.ensures.cases.0 in
    let all : All (λ o. o < 256) contents = All-from_get_or {X = ℕ} (λ o. o < 256) contents 0 (λ i there. omega (arith, c.type_inv.contents i)) in
    let below : All (λ o. o < 256) octets = All-tail (λ o. o < 256) c.in-Some.field-0-0.now octets (subst (All (λ o. o < 256)) whole all) in
    let items : c.extend_from_slice.new.self.items ≡ octets = search rules in
    let same : c.clear_unused.new.octets.items ≡ octets = c.clear_unused.ensures.kept c.if-not-clear_unused.true ∙ items in
    IsPadded-whole c.clear_unused.new.octets.items (subst (All (λ o. o < 256)) (sym same) below)

pub returns-then-not-clear_unused-clause-none : goal.returns-then-not-clear_unused-clause-none
returns-then-not-clear_unused-clause-none c = λ refused bits h.
    let unused : ℕ = c.in-Some.field-0-0.now in
    let octets : List ℕ = c.in-Some.data.now in
    let whole : c.args.contents.now ≡ unused ∷ octets = c.in-Some.ensures.cases.0 in
    let items : c.extend_from_slice.new.self.items ≡ octets = search rules in
    let can = CanBeUnused-from ber bits unused octets (subst (IsBits ber bits) whole h) in
    iff_false c.clear_unused.ensures.can c.if-not-clear_unused.true (subst (λ t. CanBeUnused unused t) (sym items) can)

pub returns-clause-value : goal.returns-clause-value
returns-clause-value c =
    let unused : ℕ = c.in-Some.field-0-0.now in
    let octets : List ℕ = c.in-Some.data.now in
    let contents : List ℕ = c.args.contents.now in
    let whole : contents ≡ unused ∷ octets = c.in-Some.ensures.cases.0 in
    let all : All (λ o. o < 256) contents = All-from_get_or {X = ℕ} (λ o. o < 256) contents 0 (λ i there. omega (arith, c.type_inv.contents i)) in
    let below : All (λ o. o < 256) octets = All-tail (λ o. o < 256) unused octets (subst (All (λ o. o < 256)) whole all) in
    let items : c.extend_from_slice.new.self.items ≡ octets = search rules in
    let bits : List Bool = bits_before c.clear_unused.new.octets.items unused in
    let front : IsFrontOf bits unused octets = subst (λ t. IsFrontOf bits unused t) items (c.clear_unused.ensures.front c.if-not-clear_unused.false) in
    let can = c.clear_unused.ensures.can.0 c.if-not-clear_unused.false in
    subst (IsBits ber bits) (sym whole) (IsBits-from_front bits unused octets can.at_most_7 below front)
