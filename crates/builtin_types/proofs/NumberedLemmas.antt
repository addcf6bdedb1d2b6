-- The items of an ENUMERATED as far as they are numbered, and where they cannot be.
use Rattle.std.proofs.Common.{◌≡◌, ◌+◌, ◌<◌, ◌≤ℤ◌, ◌+ℤ◌, ℕ, suc, ℤ, pos, List, [], ◌∷◌, ◌++◌, length, get_or, take, drop, map, ◌^◌, Option, Some, None, Result, Ok, Err, IfErr, FitsSigned, refl, sym, ap, ◌∙◌, subst, arith}
use Rattle.std.specs.Int.{w128}
use Rattle.std.specs.List.Sorted.{IsSorted}
use Rattle.std.specs.Ordering.{int_cmp}
use Rattle.std.specs.Option.{ok_or}
use Rattle.std.proofs.lemmas.Int.{ints}
use Rattle.std.proofs.lemmas.List.{map-append, take-append-drop, drop_more}
use Rattle.types.specs.Shape.{EnumerationItem}
use Rattle.syntax.specs.declared.tree.SignedNumber.{SignedNumber}
use Rattle.syntax.specs.Tree.{Entry}
use Rattle.builtin_types.specs.declared.numbering.FreeNumbers.{FreeNumbers}
use Rattle.builtin_types.specs.Numbering.{number_of, written_numbers, AreNumbered, AreItems}
use Rattle.builtin_types.specs.Written.{HasWritten, IsPassed, farthest}
use Rattle.builtin_types.proofs.ItemLemmas.{NumberedTo}

-- so many entries have these items, and the free numbers go on behind them
abbrev pub AreNumberedSoFar : List Entry → List Entry → List EnumerationItem → ℕ → FreeNumbers → Type 0
AreNumberedSoFar entries before items so_many free =
    HasWritten entries free.written.now
    × IsSorted int_cmp free.written.now
    × IsPassed free.written.now free.passed free.next
    × ((next : ℕ) × (free.next ≡ pos next) × NumberedTo (written_numbers entries) 0 before items next)
    × (farthest free.written.now free.passed free.next ≤ℤ pos (length free.written.now + so_many))
    × (length free.written.now < 2 ^ 64)

-- one number is taken for one item
pub farthest-item : (before : ℤ) (written kept : List ℤ) (so_many : ℕ) (after : ℤ) → length kept ≡ length written → before ≤ℤ pos (length written + so_many) → after ≤ℤ (before +ℤ pos 1) → after ≤ℤ pos (length kept + (so_many + 1))
farthest-item before written kept so_many after long h step = omega (arith, ints, long, h, step)

-- a number that is written has 128 bits
pub written_fits : (written : List ℤ) (from : ℕ) (front : List Entry) (name : List ℕ) (number : SignedNumber) (back : List Entry) (items : List EnumerationItem)
    → AreNumbered written from (front ++ (name, Some number) ∷ back) items → FitsSigned w128 (number_of number)
written_fits written from [] name number back [] h = absurd h
written_fits written from [] name number back (item ∷ items) h = h.2
written_fits written from (entry ∷ front) name number back [] h = absurd h
written_fits written from ((other, Some own) ∷ front) name number back (item ∷ items) h = written_fits written from front name number back items h.3
written_fits written from ((other, None) ∷ front) name number back (item ∷ items) h = written_fits written (suc h.1.0) front name number back items h.1.3

pub err_or-none : {E : Type 0} (v : Option ℤ) (e f : E) → Err e ≡ ok_or v f → v ≡ None
err_or-none (Some y) e f h = cc
err_or-none None e f h = refl

pub if_err : {T E : Type 0} {P : E → Type 0} (r : Result T E) → ((e : E) → P e) → IfErr r P
if_err (Ok v) each = tt
if_err (Err e) each = each e

-- an item among the others
pub split_at : {X Y : Type 0} (f : X → Y) (xs : List X) (i : ℕ) (x : X) → i < length xs → x ≡ get_or xs i x → map f xs ≡ map f (take i xs) ++ f x ∷ map f (drop (i + 1) xs)
split_at f xs i x within is =
    ap (map f) (sym (take-append-drop i xs)) ∙ map-append f (take i xs) (drop i xs) ∙ ap (λ ys. map f (take i xs) ++ map f ys) (drop_more xs i x within ∙ ap (λ y. y ∷ drop (i + 1) xs) (sym is))

-- as many numbers as there can be items are within 128 bits
pub farthest-fits : (written : List ℤ) (so_many passed start : ℕ) (next : ℤ) → length written < 2 ^ 64 → so_many < 2 ^ 64 → next ≡ pos start → farthest written passed next ≤ℤ pos (length written + so_many) → FitsSigned w128 (farthest written passed next +ℤ pos 1)
farthest-fits written so_many passed start next few fewer from h = omega (arith, ints, few, fewer, from, h)

pub item_fits : (entries front : List Entry) (name : List ℕ) (value : Option SignedNumber) (number : SignedNumber) (back : List Entry) (items : List EnumerationItem)
    → value ≡ Some number → entries ≡ front ++ (name, value) ∷ back → AreItems entries items → FitsSigned w128 (number_of number)
item_fits entries front name value number back items some split h =
    written_fits (written_numbers entries) 0 front name number back items
    (subst (λ (es : List Entry). AreNumbered (written_numbers entries) 0 es items) (split ∙ ap (λ (v : Option SignedNumber). front ++ (name, v) ∷ back) some) h)
