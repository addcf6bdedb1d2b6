use Rattle.std.proofs.Common.{◌≤◌, ◌↔◌, List, length, arith, ap, subst, sym, IsTrue, ◌∙◌}
use Rattle.types.specs.declared.ty.Item.{Item}
use Rattle.types.specs.declared.ty.NamedBit.{NamedBit}
use Rattle.types.specs.Shape.{Shape}
use Rattle.types.specs.View.{ty_view}
use Rattle.types.specs.Judging.{HasFewItems}
use Rattle.types.specs.WellFormed.{NumbersDiffer}
use Rattle.types.proofs.ViewLemmas.{ty-Enumerated, ty-NamedBits}
use Rattle.types.proofs.ItemLemmas.{differ_along, few_items, bits_differ_along, few_bits}
use Rattle.types.proofs.items.numbers_differ.Goals as goal

pub returns-else-len-gt-MAX_LIST : goal.returns-else-len-gt-MAX_LIST
returns-else-len-gt-MAX_LIST c =
    let arm = c.in-Enumerated in
    let many : length arm.items.items ≤ 256 = omega (arith, c.len.ensures, c.deref.ensures.len, ap (λ (l : List Item). length l) c.deref.ensures.value) in
    let answer = IsTrue c.all_differ.result in
    let told = differ_along answer arm.items.items _ c.deref.ensures.value c.all_differ.ensures in
    subst (λ (s : Shape). answer ↔ (HasFewItems s → NumbersDiffer s)) (sym (ap ty_view arm.is ∙ ty-Enumerated arm.field-0 arm.items))
    (λ yes few. told.0 yes, λ h. told.1 (h (few_items arm.items.items many)))

pub returns-else-len-gt-MAX_LIST-2 : goal.returns-else-len-gt-MAX_LIST-2
returns-else-len-gt-MAX_LIST-2 c =
    let arm = c.in-NamedBits in
    let many : length arm.bits.items ≤ 256 = omega (arith, c.len-in-NamedBits.ensures, c.deref-else-len-gt-MAX_LIST-2.ensures.len, ap (λ (l : List NamedBit). length l) c.deref-else-len-gt-MAX_LIST-2.ensures.value) in
    let answer = IsTrue c.all_bits_differ.result in
    let told = bits_differ_along answer arm.bits.items _ c.deref-else-len-gt-MAX_LIST-2.ensures.value c.all_bits_differ.ensures in
    subst (λ (s : Shape). answer ↔ (HasFewItems s → NumbersDiffer s)) (sym (ap ty_view arm.is ∙ ty-NamedBits arm.field-0 arm.bits))
    (λ yes few. told.0 yes, λ h. told.1 (h (few_bits arm.bits.items many)))
