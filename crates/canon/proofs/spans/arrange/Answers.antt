use Rattle.std.proofs.Common.{◌≡◌, ◌∙◌, ◌++◌, ℕ, List, take, sym, subst, ap, map}
use Rattle.std.proofs.lemmas.List.Sorted.{IsPermutation-refl, IsPermutation-map}
use Rattle.octets.proofs.ResultLemmas.{OnOk-map}
use Rattle.types.specs.Order.{Ascends}
use Rattle.canon.specs.Span.{part_of}
use Rattle.canon.specs.declared.spans.Keyed.{Keyed}
use Rattle.canon.specs.declared.spans.Span.{Span}
use Rattle.canon.proofs.KeyLemmas.{parts_again}
use Rattle.canon.proofs.PartLemmas.{joined}
use Rattle.canon.proofs.spans.arrange.Goals as goal

abbrev spans : List (Keyed ℕ) → List Span
spans parts = map (λ (one : Keyed ℕ). one.span) parts

-- the same parts by their spans
ascend_again : (buffer octets : List ℕ) (parts : List (Keyed ℕ)) → octets ≡ buffer → Ascends (map (λ (one : Keyed ℕ). part_of octets one.span) parts) → Ascends (map (part_of buffer) (spans parts))
ascend_again buffer octets parts same h =
    subst Ascends (sym (parts_again buffer parts)) (subst (λ (b : List ℕ). Ascends (map (λ (one : Keyed ℕ). part_of b one.span) parts)) same h)

pub returns-then-ascend-clause-arranged : goal.returns-then-ascend-clause-arranged
returns-then-ascend-clause-arranged c =
    let old = c.args.out.now.items in
    let parts = c.args.parts.items in
    let ascends = subst (λ (ps : List (Keyed ℕ)). Ascends (map (λ (one : Keyed ℕ). part_of c.deref.result.now one.span) ps)) c.deref-2.ensures.value (c.ascend.ensures c.if-ascend.true) in
    record {
      order = spans parts;
      permutes = IsPermutation-refl (spans parts);
      ascends = ascend_again old c.deref.result.now parts c.deref.ensures.value ascends;
      is = c.requires.cut.whole;
    }

pub returns-clause-arranged : goal.returns-clause-arranged
returns-clause-arranged c =
    let old = c.args.out.now.items in
    let sorted = c.sort_by_keys.new.keyed.items in
    OnOk-map c.join_again.result _ _
    (λ is. record {
      order = spans sorted;
      permutes = IsPermutation-map (λ (one : Keyed ℕ). one.span) c.args.parts.items sorted c.sort_by_keys.ensures.permutation;
      ascends = ascend_again old c.deref-3.result.now sorted c.deref-3.ensures.value c.sort_by_keys.ensures.ascends;
      is = is ∙ ap (λ (ps : List (Keyed ℕ)). take c.args.from old ++ joined old ps) c.deref-4.ensures.value;
    }) c.join_again.ensures.joined
