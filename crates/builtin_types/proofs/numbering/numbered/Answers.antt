use Rattle.std.proofs.Common.{rules, ◌≡◌, ◌+◌, ◌+ℤ◌, ◌≤ℤ◌, ℕ, suc, ℤ, pos, to_z, of_z, FitsSigned, IfSome, IsSome, IsNone, List, [], ◌∷◌, ◌++◌, Some, None, Option, map, take, drop, length, refl, sym, ap, ◌∙◌, subst, arith}
use Rattle.std.specs.Int.{w128}
use Rattle.std.proofs.lemmas.Int.{ints, to_z-of_z}
use Rattle.std.proofs.lemmas.List.{map-append, map_more, take_all}
use Rattle.std.specs.List.Sorted.{IsSorted}
use Rattle.std.specs.Ordering.{int_cmp}
use Rattle.types.specs.Shape.{EnumerationItem}
use Rattle.syntax.specs.declared.tree.Item.{Item}
use Rattle.syntax.specs.View.{entry}
use Rattle.types.specs.declared.ty.Item.{Item as NumberedItem}
use Rattle.types.specs.View.{item_view}
use Rattle.syntax.specs.Tree.{Entry}
use Rattle.builtin_types.specs.declared.numbering.FreeNumbers.{FreeNumbers}
use Rattle.builtin_types.specs.Numbering.{AreItems, number_of, written_numbers, IsNextFree}
use Rattle.builtin_types.specs.Written.{HasWritten, IsFree, IsPassed, farthest}
use Rattle.builtin_types.proofs.ItemLemmas.{NumberedTo, numbered_so, item-written, item-free}
use Rattle.builtin_types.proofs.EntryLemmas.{kept_number, ok_or-some, next_of_free}
use Rattle.builtin_types.proofs.NumberedLemmas.{AreNumberedSoFar, farthest-item, item_fits, farthest-fits, split_at, err_or-none, if_err}
use Rattle.builtin_types.proofs.numbering.numbered.Goals as goal
use Rattle.builtin_types.proofs.numbering.numbered.Goals.{in-Some, in-None}

pub loop-item-init : goal.loop-item-init
loop-item-init c =
    let entries = map entry c.args.items.now in
    let same : c.deref.result.now ≡ c.in_ok-written.written.items = c.deref.ensures.value in (
      subst (λ (l : List ℤ). HasWritten entries l) (sym same) c.in_ok-written.ensures.written,
      subst (λ (l : List ℤ). IsSorted int_cmp l) (sym same) c.in_ok-written.ensures.ascending,
      record { within = omega arith; below = λ place d less. absurd (omega (arith, less)) },
      (0, refl, subst (λ (xs : List NumberedItem). NumberedTo (written_numbers entries) 0 [] (map item_view xs) 0) (sym c.in_ok-numbered.ensures.items) refl),
      omega (arith, ints),
      (let long = ap length same in search rules),
    )

pub loop-item-preserved : goal.loop-item-preserved
loop-item-preserved c =
    let items = c.args.items.now in
    let i = c.loop-item.item-index in
    let x = c.item-item.result in
    let more : map entry (take (i + 1) items) ≡ map entry (take i items) ++ entry x ∷ [] =
    map_more entry items i x (omega arith) ∙ ap (λ (y : Item). map entry (take i items) ++ entry y ∷ []) (sym c.item-item.is) in
    let h = c.loop-item.invariant in
    let es = map entry items in
    let W = written_numbers es in
    let ws = c.loop-item.free.written.now in
    let old = c.loop-item.numbered.items in
    let new = c.push.new.self.items in
    let z = c.in_ok-ok_or.field-0 in
    let some : c.match-item.number ≡ Some z = ok_or-some c.match-item.number z _ c.in_ok-ok_or.ensures.value in
    let y : NumberedItem = record { name = c.in_ok-clone.field-0; number = to_z w128 (of_z w128 z) } in
    let pushed : map item_view new ≡ map item_view old ++ item_view y ∷ [] = ap (λ (l : List NumberedItem). map item_view l) c.in_ok-push.ensures.items ∙ map-append item_view old (y ∷ []) in
    let named : c.in_ok-clone.field-0 ≡ x.name = c.in_ok-clone.ensures.cases in
    elim c.match-item.branch [
      | in-Some w ↦ (
          let told : (z ≡ number_of w.in-Some.signed) × FitsSigned w128 (number_of w.in-Some.signed) =
          subst (λ (v : Option ℤ). IfSome v (λ number. (number ≡ number_of w.in-Some.signed) × FitsSigned w128 (number_of w.in-Some.signed))) (sym w.number-is ∙ some) w.number_of-number.ensures.some in
          let to : NumberedTo W 0 (map entry (take i items) ++ entry x ∷ []) (map item_view new) h.3.0 =
          item-written W 0 (map entry (take i items)) (map item_view old) (map item_view new) h.3.0 x.name x.number w.in-Some.signed (item_view y) w.in-Some.is pushed named (kept_number z (number_of w.in-Some.signed) told) told.1 h.3.2 in
          subst (λ (f : FreeNumbers). AreNumberedSoFar es (map entry (take (i + 1) items)) (map item_view new) (i + 1) f)
          (sym w.free-is)
          (h.0, h.1, h.2, (h.3.0, h.3.1, subst (λ (l : List Entry). NumberedTo W 0 l (map item_view new) h.3.0) (sym more) to), (let far = h.4 in omega (arith, ints, far)), h.5))
      | in-None w ↦ (
          let fits : FitsSigned w128 z = search rules in
          let free : IsFree ws c.loop-item.free.next z = subst (λ (v : Option ℤ). IfSome v (λ number. IsFree ws c.loop-item.free.next number)) (sym w.number-is ∙ some) (w.take-number.ensures.free h.1 h.2) in
          let after = w.take-number.new.self in
          let passed : (after.next ≡ z +ℤ pos 1) × IsPassed after.written.now after.passed after.next =
          subst (λ (v : Option ℤ). IfSome v (λ number. (after.next ≡ number +ℤ pos 1) × IsPassed after.written.now after.passed after.next)) (sym w.number-is ∙ some) (w.take-number.ensures.passed h.1 h.2) in
          let found : (m : ℕ) × (z ≡ pos m) × IsNextFree W h.3.0 m = next_of_free es ws h.3.0 z h.0 fits (subst (λ (n : ℤ). IsFree ws n z) h.3.1 free) in
          let to : NumberedTo W 0 (map entry (take i items) ++ entry x ∷ []) (map item_view new) (suc found.0) =
          item-free W 0 (map entry (take i items)) (map item_view old) (map item_view new) h.3.0 x.name x.number found.0 (item_view y) w.in-None.is pushed named (to_z-of_z w128 z fits ∙ found.1) found.2 h.3.2 in
          let long : length after.written.now ≡ length ws = ap length w.take-number.ensures.kept in
          let step : farthest after.written.now after.passed after.next ≤ℤ (farthest ws c.loop-item.free.passed c.loop-item.free.next +ℤ pos 1) =
          w.take-number.ensures.farthest (subst IsSome (sym (sym w.number-is ∙ some)) refl) in
          let far : farthest after.written.now after.passed after.next ≤ℤ pos (length after.written.now + (i + 1)) =
          farthest-item _ ws after.written.now i _ long h.4 step in
          let up : found.0 + 1 ≡ suc found.0 = omega arith in
          subst (λ (f : FreeNumbers). AreNumberedSoFar es (map entry (take (i + 1) items)) (map item_view new) (i + 1) f)
          (sym w.free-is) (
            subst (λ (l : List ℤ). HasWritten es l) (sym w.take-number.ensures.kept) h.0,
            subst (λ (l : List ℤ). IsSorted int_cmp l) (sym w.take-number.ensures.kept) h.1,
            passed.1,
            (suc found.0, passed.0 ∙ ap (λ (v : ℤ). v +ℤ pos 1) found.1 ∙ ap pos up, subst (λ (l : List Entry). NumberedTo W 0 l (map item_view new) (suc found.0)) (sym more) to),
            far,
            (let few = h.5 in omega (arith, long, few)),
          ))
    ]

pub returns-clause-items : goal.returns-clause-items
returns-clause-items c =
    let items = c.args.items.now in
    let h = c.loop-item.invariant.3 in
    let W = written_numbers (map entry items) in
    numbered_so W 0 (map entry items) (map item_view c.loop-item.numbered.items) h.0
    (subst (λ (xs : List Item). NumberedTo W 0 (map entry xs) (map item_view c.loop-item.numbered.items) h.0) (take_all c.loop-item.item-index items (omega arith)) h.2)

pub returns-in_err-ok_or-clause-refused : goal.returns-in_err-ok_or-clause-refused
returns-in_err-ok_or-clause-refused c =
    let items = c.args.items.now in
    let i = c.loop-item.item-index in
    let x = c.item-item.result in
    let es = map entry items in
    let h = c.loop-item.invariant in
    let none : c.match-item.number ≡ None = err_or-none c.match-item.number _ _ c.in_err-ok_or.ensures.value in
    let split : es ≡ map entry (take i items) ++ entry x ∷ map entry (drop (i + 1) items) = split_at entry items i x c.loop-item-test.true c.item-item.is in
    let never : (others : List EnumerationItem) → ¬ AreItems es others = λ others g.
    elim c.match-item.branch [
      | in-Some w ↦ w.number_of-number.ensures.none (subst IsNone (sym (sym w.number-is ∙ none)) refl) (item_fits es (map entry (take i items)) x.name x.number w.in-Some.signed (map entry (drop (i + 1) items)) others w.in-Some.is split g)
      | in-None w ↦ w.take-number.ensures.none (subst IsNone (sym (sym w.number-is ∙ none)) refl) (farthest-fits c.loop-item.free.written.now i c.loop-item.free.passed h.3.0 c.loop-item.free.next h.5 (search rules) h.3.1 h.4)
    ] in
    if_err c.from_residual-in_err-ok_or.result (λ stop other. never)
