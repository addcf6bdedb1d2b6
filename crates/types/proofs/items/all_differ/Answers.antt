use Rattle.std.proofs.Common.{to_z, of_z, ◌≡◌, ◌↔◌, ◌+◌, ◌<◌, [], ◌∷◌, ◌++◌, ℤ, take, length, sym, ap, subst, ◌∙◌, arith, rules, IsTrue}
use Rattle.std.proofs.lemmas.List.{map_more, take_more_set, take_all, length-set}
use Rattle.std.specs.Int.{w128}
use Rattle.std.proofs.lemmas.Int.{to_z-of_z}
use Rattle.std.proofs.Math.ListN.{set}
use Rattle.types.specs.declared.ty.Item.{Item}
use Rattle.types.proofs.ItemLemmas.{item_numbers, AllDiffer}
use Rattle.types.proofs.items.all_differ.Goals as goal

pub loop-i-preserved : goal.loop-i-preserved
loop-i-preserved c =
    let i = c.loop-i.i in
    let items = c.args.items.now in
    let x = c.index-items-i.result in
    let more : item_numbers (take (i + 1) items) ≡ item_numbers (take i items) ++ x.number ∷ [] =
    map_more (λ (item : Item). item.number) items i x (omega arith) ∙ ap (λ (y : Item). item_numbers (take i items) ++ y.number ∷ []) (sym c.index-items-i.is) in
    let long : i < length c.loop-i.numbers = omega (arith, c.requires, c.loop-i.invariant.1) in
    let kept : to_z w128 (of_z w128 x.number) ≡ x.number = to_z-of_z w128 x.number (search rules) in (
      more ∙ ap (λ l. l ++ x.number ∷ []) c.loop-i.invariant.0 ∙ sym (take_more_set c.loop-i.numbers i x.number long) ∙ ap (λ (n : ℤ). take (i + 1) (set c.loop-i.numbers i n)) (sym kept),
      length-set c.loop-i.numbers i _ ∙ c.loop-i.invariant.1,
    )

pub returns : goal.returns
returns c =
    let items = c.args.items.now in
    let at_end : c.loop-i.i ≡ length items = omega arith in
    let copied : item_numbers items ≡ take (length items) c.loop-i.numbers =
    ap item_numbers (sym (take_all c.loop-i.i items (omega arith))) ∙ c.loop-i.invariant.0 ∙ ap (λ k. take k c.loop-i.numbers) at_end in
    subst (λ l. IsTrue c.differ.result ↔ AllDiffer l) (sym copied) c.differ.ensures
