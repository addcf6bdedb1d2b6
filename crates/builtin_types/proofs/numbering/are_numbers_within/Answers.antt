use Rattle.std.proofs.Common.{List, drop, map, arith, ◌+◌}
use Rattle.types.proofs.LoopLemmas.{goes_on, stops, ends, is_not_so, is_so}
use Rattle.syntax.specs.declared.tree.Item.{Item}
use Rattle.syntax.specs.View.{entry}
use Rattle.std.specs.Prelude.{FitsSigned}
use Rattle.std.specs.Int.{w128}
use Rattle.builtin_types.specs.Numbering.{number_of, AreWithin}
use Rattle.builtin_types.proofs.FittingLemmas.{within_written, within_unwritten, none_within, told_within, told_great}
use Rattle.builtin_types.proofs.numbering.are_numbers_within.Goals.{in-Some+else-is_none, in-None}
use Rattle.builtin_types.proofs.numbering.are_numbers_within.Goals as goal

pub loop-item-preserved : goal.loop-item-preserved
loop-item-preserved c =
    let items = c.args.items.now in
    let i = c.loop-item.item-index in
    let x = c.item-item.result in
    let rest = drop (i + 1) items in
    elim c.match-item.branch [
      | in-Some+else-is_none w ↦ goes_on (λ (xs : List Item). AreWithin (map entry xs)) (FitsSigned w128 (number_of w.in-Some.signed)) items i x (omega arith) c.item-item.is
          (within_written x.name x.number w.in-Some.signed (map entry rest) w.in-Some.is) (told_within (number_of w.in-Some.signed) w.number_of.result w.number_of.ensures.some (w.if-is_none.ensures)) c.loop-item.invariant
      | in-None w ↦ goes_on (λ (xs : List Item). AreWithin (map entry xs)) (Unit {0}) items i x (omega arith) c.item-item.is (within_unwritten x.name x.number (map entry rest) w.in-None.is) tt c.loop-item.invariant
    ]

pub returns-then-is_none : goal.returns-then-is_none
returns-then-is_none c =
    let items = c.args.items.now in
    let i = c.loop-item.item-index in
    let x = c.item-item.result in
    let rest = drop (i + 1) items in
    is_not_so (stops (λ (xs : List Item). AreWithin (map entry xs)) (FitsSigned w128 (number_of c.in-Some.signed)) items i x (omega arith) c.item-item.is
    (within_written x.name x.number c.in-Some.signed (map entry rest) c.in-Some.is) (told_great (number_of c.in-Some.signed) c.number_of.result c.number_of.ensures.none (c.if-is_none.ensures)) c.loop-item.invariant)

pub returns : goal.returns
returns c = is_so (ends (λ (xs : List Item). AreWithin (map entry xs)) c.args.items.now c.loop-item.item-index (omega arith) none_within c.loop-item.invariant)
