use Rattle.std.proofs.Common.{Vec, Global, ◌≡◌, ◌+◌, ℤ, List, [], ◌∷◌, ◌++◌, map, take, refl, sym, ap, ◌∙◌, subst, arith}
use Rattle.std.proofs.lemmas.List.{map_more, take_all}
use Rattle.syntax.specs.declared.tree.Item.{Item}
use Rattle.syntax.specs.Tree.{Entry}
use Rattle.syntax.specs.View.{entry}
use Rattle.builtin_types.specs.Numbering.{written_numbers}
use Rattle.builtin_types.specs.Written.{AreFitting}
use Rattle.builtin_types.proofs.EntryLemmas.{kept_number, unwritten_item, written_item, great_item}
use Rattle.builtin_types.proofs.numbering.written_numbers.Goals as goal
use Rattle.builtin_types.proofs.numbering.written_numbers.Goals.{in-Some+in-Some-number_of+in_ok-push-in-Some-number_of, in-Some+in-None-number_of, in-None}

pub loop-item-preserved : goal.loop-item-preserved
loop-item-preserved c =
    let items = c.args.items.now in
    let i = c.loop-item.item-index in
    let x = c.item-item.result in
    let ws = c.loop-item.written.items in
    let name = x.name in
    let more : map entry (take (i + 1) items) ≡ map entry (take i items) ++ entry x ∷ [] =
    map_more entry items i x (omega arith) ∙ ap (λ (y : Item). map entry (take i items) ++ entry y ∷ []) (sym c.item-item.is) in
    subst (λ (es : List Entry). AreFitting (written_numbers es) c.match-item.written.items) (sym more) (elim c.match-item.branch [
      | in-Some+in-Some-number_of+in_ok-push-in-Some-number_of w ↦ written_item (map entry (take i items)) ws c.match-item.written.items name x.number w.in-Some.signed _ w.in-Some.is (ap (λ (v : Vec ℤ Global). v.items) w.written-is ∙ w.in_ok-push-in-Some-number_of.ensures.items) (kept_number _ _ w.in-Some-number_of.ensures.some) w.in-Some-number_of.ensures.some.1 c.loop-item.invariant
      | in-Some+in-None-number_of w ↦ great_item (map entry (take i items)) ws c.match-item.written.items name x.number w.in-Some.signed w.in-Some.is (ap (λ (v : Vec ℤ Global). v.items) w.written-is) (w.in-None-number_of.ensures.none refl) c.loop-item.invariant
      | in-None w ↦ unwritten_item (map entry (take i items)) ws c.match-item.written.items name x.number w.in-None.is (ap (λ (v : Vec ℤ Global). v.items) w.written-is) c.loop-item.invariant
    ])

pub returns-clause-written : goal.returns-clause-written
returns-clause-written c =
    let items = c.args.items.now in
    record {
      fitting = c.loop-item.written.items;
      are = subst (λ (xs : List Item). AreFitting (written_numbers (map entry xs)) c.loop-item.written.items) (take_all c.loop-item.item-index items (omega arith)) c.loop-item.invariant;
      order = c.sort_unstable.ensures.permutation;
    }
