-- Lemmas on octets that come in pieces.
use Rattle.std.proofs.Common.{◌≡◌, ◌+◌, ◌-◌, ◌<◌, ◌≤◌, ◌⊎◌, inl, inr, ℕ, true, false, zero, suc, List, [], ◌∷◌, ◌++◌, Option, None, Some, Result, Ok, Err, OnOk, IsErr, IfOk, IfErr, length, take, drop, refl, sym, ap, ◌∙◌, subst, arith, append-nil, append_assoc, length-append, length-drop}
use Rattle.std.specs.Prelude.{is_some}
use Rattle.std.proofs.Math.Seq.{take-add, take-append-add}
use Rattle.std.proofs.lemmas.List.{take-append-drop, drop-drop, take_all, length-take-le, take-append-le}
use Rattle.octets.specs.declared.TheConstants.{MAX_ENCODING}
use Rattle.octets.specs.Rule.{ber}
use Rattle.types.specs.Encoding.{IsAccepted, most_nested}
use Rattle.types.specs.Shape.{Shape, Val}
use Rattle.types.specs.View.{ty_view, value_view}
use Rattle.types.specs.declared.value.Value.{Value}
use Rattle.types.specs.declared.refusal.Refusal.{Refusal}
use Rattle.types.specs.declared.refusal.Refusal.TheVariants.{Truncated}
use Rattle.types.specs.Refusal.{IsFinal, IsOfReading}
use Rattle.berreader.specs.Stack.{layers_of, IsCounted}
use Rattle.berreader.specs.declared.cursor.Cursor.{Cursor}
use Rattle.berreader.specs.declared.nest.Nest.{Nest}
use Rattle.types.specs.WellFormed.{IsWellFormed}
use Rattle.berreader.specs.declared.pieces.Pieces.{Pieces}
use Rattle.berreader.specs.Cursor.{open_in, taken_of, AreTaken, CanFinish, IsStep, IsTaken, IsWhole, IsSoundCursor}
use Rattle.berreader.specs.Cut.{IsCut}
use Rattle.berreader.specs.Nest.{AreSound, AreInside, IsSoundNest}
use Rattle.berreader.proofs.CursorLemmas.{count_taken, sound_nest}
use Rattle.berreader.specs.Feeding.{HasValue, GoesOn, HasBeenFed, IsDone, IsDoneBefore, IsDoneBehind, IsFed, IsFresh, IsMore, IsTakenCut, IsTakenWhole, IsGoingOn, IsOfFeeding, IsSoundPieces, IsSoundReader, shape_of}

-- the octets of a front and those behind it
pub front_and_rest : (n : ℕ) (before octets : List ℕ) → (before ++ take n octets) ++ drop n octets ≡ before ++ octets
front_and_rest n before octets = append_assoc before (take n octets) (drop n octets) ∙ ap (λ o. before ++ o) (take-append-drop n octets)

-- some octets were taken by a step
pub taken_some : (old new : Cursor) (octets : List ℕ) (used : ℕ) → IsTaken old new octets used → AreTaken old new octets used
taken_some old new octets used step = record { there = step.there; type = step.type; forth = step.forth; back = step.back; ends = omega (arith, step.smaller) }

pub goes_on_step : (old new : Cursor) (before octets : List ℕ) (used : ℕ) → GoesOn old before octets → AreTaken old new octets used → GoesOn new (before ++ take used octets) (drop used octets)
goes_on_step old new before octets used on step = record {
  taken = step.back before on.taken;
  forth = λ more h.
      let joined : (before ++ take used octets) ++ (drop used octets ++ more) ≡ before ++ (octets ++ more) =
      append_assoc before (take used octets) (drop used octets ++ more) ∙ ap (λ o. before ++ o) (sym (append_assoc (take used octets) (drop used octets) more) ∙ ap (λ o. o ++ more) (take-append-drop used octets)) in
      step.forth more (on.forth more (subst (λ shape. HasValue shape (before ++ (octets ++ more))) step.type (subst (HasValue (ty_view new.nest.ty.now)) joined h)));
}

-- more octets stand behind
pub widened : (cursor : Cursor) (before octets behind : List ℕ) → GoesOn cursor before octets → GoesOn cursor before (octets ++ behind)
widened cursor before octets behind on = record {
  taken = on.taken;
  forth = λ more h.
      let joined : (octets ++ behind) ++ more ≡ octets ++ (behind ++ more) = append_assoc octets behind more in
      subst (CanFinish cursor) (sym joined) (on.forth (behind ++ more) (subst (λ o. HasValue (ty_view cursor.nest.ty.now) (before ++ o)) joined h));
}

-- octets that complete nothing complete no value
pub none_of_cut : (cursor : Cursor) (before octets : List ℕ) → GoesOn cursor before octets → (CanFinish cursor octets → ⊥) → HasValue (ty_view cursor.nest.ty.now) (before ++ octets) → ⊥
none_of_cut cursor before octets on none h =
    let same : octets ++ [] ≡ octets = append-nil octets in
    none (subst (CanFinish cursor) same (on.forth [] (subst (λ o. HasValue (ty_view cursor.nest.ty.now) (before ++ o)) (sym same) h)))

-- the first so many of the octets were taken as whole steps
pub record IsOnTheWay (initial now : Pieces) (octets : List ℕ) (at : ℕ) : Type 0 where
  pub within : at ≤ length octets
  pub going_on : IsGoingOn initial now
  pub kept : now.pending.items ≡ []
  pub on : (before : List ℕ) → GoesOn initial.cursor before octets → GoesOn now.cursor (before ++ take at octets) (drop at octets)

pub on_the_way : (initial : Pieces) (octets : List ℕ) → initial.refused ≡ None → IsSoundPieces initial → initial.pending.items ≡ [] → IsOnTheWay initial initial octets 0
on_the_way initial octets accepts sound kept = record {
  within = omega arith;
  going_on = record { shape = refl; accepts = accepts; sound = sound };
  kept = kept;
  on = λ before on. subst (λ b. GoesOn initial.cursor b octets) (sym (append-nil before)) on;
}

take_more_octets : (at used : ℕ) (octets : List ℕ) → take at octets ++ take used (drop at octets) ≡ take (at + used) octets
take_more_octets at used octets = sym (take-add at used octets)

drop_more_octets : (at used : ℕ) (octets : List ℕ) → drop used (drop at octets) ≡ drop (at + used) octets
drop_more_octets at used octets = drop-drop used at octets

-- a step goes on, and so do items that are taken at once
pub on_the_way_step : (initial now new : Pieces) (octets : List ℕ) (at used : ℕ) → IsOnTheWay initial now octets at → AreTaken now.cursor new.cursor (drop at octets) used → IsSoundCursor new.cursor → new.refused ≡ now.refused → new.pending.items ≡ now.pending.items → IsOnTheWay initial new octets (at + used)
on_the_way_step initial now new octets at used way step sound accepts kept =
    let there : used ≤ length octets - at = subst (λ n. used ≤ n) (length-drop at octets) step.there in record {
      within = omega (arith, there, way.within);
      going_on = record {
        shape = step.type ∙ way.going_on.shape;
        accepts = accepts ∙ way.going_on.accepts;
        sound = record { cursor = sound; well_formed = subst IsWellFormed (sym step.type) way.going_on.sound.well_formed };
      };
      kept = kept ∙ way.kept;
      on = λ before on.
          let next = goes_on_step now.cursor new.cursor (before ++ take at octets) (drop at octets) used (way.on before on) step in
          let front : (before ++ take at octets) ++ take used (drop at octets) ≡ before ++ take (at + used) octets = append_assoc before (take at octets) (take used (drop at octets)) ∙ ap (λ o. before ++ o) (take_more_octets at used octets) in
          subst (λ b. GoesOn new.cursor b (drop (at + used) octets)) front (subst (GoesOn new.cursor ((before ++ take at octets) ++ take used (drop at octets))) (drop_more_octets at used octets) next);
    }

-- the value is whole
pub done_on_the_way : (initial now new : Pieces) (octets before : List ℕ) (at used : ℕ) (value : Val) → IsOnTheWay initial now octets at → IsWhole now.cursor new.cursor (drop at octets) value used → new.refused ≡ now.refused → new.pending.items ≡ now.pending.items → GoesOn initial.cursor before octets
    → IsDoneBehind (shape_of initial) new before octets value (at + used)
done_on_the_way initial now new octets before at used value way step accepts kept on =
    let there : used ≤ length octets - at = subst (λ n. used ≤ n) (length-drop at octets) step.there in
    let goes = way.on before on in
    let front : (before ++ take at octets) ++ take used (drop at octets) ≡ before ++ take (at + used) octets = append_assoc before (take at octets) (take used (drop at octets)) ∙ ap (λ o. before ++ o) (take_more_octets at used octets) in
    record {
      there = omega (arith, there, way.within);
      accepted = subst (IsAccepted ber (shape_of initial) value) front (subst (λ shape. IsAccepted ber shape value ((before ++ take at octets) ++ take used (drop at octets))) way.going_on.shape (step.accepted (before ++ take at octets) goes.taken));
      fresh = record { accepts = accepts ∙ way.going_on.accepts; layers = step.layers; taken = step.taken; string = step.string; kept = kept ∙ way.kept };
    }

-- the rest is kept
pub kept_on_the_way : (initial now new : Pieces) (octets before : List ℕ) (at : ℕ) → IsOnTheWay initial now octets at → new.cursor ≡ now.cursor → new.refused ≡ now.refused → new.pending.items ≡ now.pending.items ++ drop at octets → IsCut now.cursor (drop at octets) → (CanFinish now.cursor (drop at octets) → ⊥) → GoesOn initial.cursor before octets
    → HasBeenFed new (before ++ octets)
kept_on_the_way initial now new octets before at way cursor accepts kept cut none on =
    let goes = way.on before on in
    let pending : new.pending.items ≡ drop at octets = kept ∙ ap (λ o. o ++ drop at octets) way.kept in
    let here : GoesOn new.cursor (before ++ take at octets) (drop at octets) = subst (λ n. GoesOn n (before ++ take at octets) (drop at octets)) (sym cursor) goes in
    let whole : before ++ octets ≡ (before ++ take at octets) ++ drop at octets = sym (front_and_rest at before octets) in
    record {
      accepts = accepts ∙ way.going_on.accepts;
      before = before ++ take at octets;
      joined = whole ∙ ap (λ o. (before ++ take at octets) ++ o) (sym pending);
      goes_on = subst (GoesOn new.cursor (before ++ take at octets)) (sym pending) here;
      cut = subst (IsCut new.cursor) (sym pending) (subst (λ n. IsCut n (drop at octets)) (sym cursor) cut);
      none = λ h. none_of_cut new.cursor (before ++ take at octets) (drop at octets) here (subst (λ n. CanFinish n (drop at octets) → ⊥) (sym cursor) none) (subst (HasValue (ty_view new.cursor.nest.ty.now)) whole h);
    }

-- no octets that begin so have a value
pub none_on_the_way : (initial now : Pieces) (octets before more : List ℕ) (at : ℕ) → IsOnTheWay initial now octets at → ((more : List ℕ) → CanFinish now.cursor (drop at octets ++ more) → ⊥) → GoesOn initial.cursor before octets → HasValue (shape_of initial) (before ++ (octets ++ more)) → ⊥
none_on_the_way initial now octets before more at way never on h =
    let goes = way.on before on in
    let joined : before ++ (octets ++ more) ≡ (before ++ take at octets) ++ (drop at octets ++ more) =
    sym (append_assoc before octets more) ∙ ap (λ o. o ++ more) (sym (front_and_rest at before octets)) ∙ append_assoc (before ++ take at octets) (drop at octets) more in
    never more (goes.forth more (subst (λ shape. HasValue shape ((before ++ take at octets) ++ (drop at octets ++ more))) (sym way.going_on.shape) (subst (HasValue (shape_of initial)) joined h)))

-- a slice from a place to the end
pub slice_behind : (octets : List ℕ) (at : ℕ) → take (length octets - at) (drop at octets) ≡ drop at octets
slice_behind octets at = take_all (length octets - at) (drop at octets) (omega (arith, length-drop at octets))

-- items were taken
pub items_on_the_way : (initial now new : Pieces) (octets : List ℕ) (at used : ℕ) → IsOnTheWay initial now octets at → AreTaken now.cursor new.cursor (take (length octets - at) (drop at octets)) used → IsSoundCursor new.cursor → new.refused ≡ now.refused → new.pending.items ≡ now.pending.items
    → IsOnTheWay initial new octets (at + used)
items_on_the_way initial now new octets at used way taken sound accepts kept =
    on_the_way_step initial now new octets at used way (subst (λ o. AreTaken now.cursor new.cursor o used) (slice_behind octets at) taken) sound accepts kept

pub taken_behind : (old new : Cursor) (octets : List ℕ) (at used : ℕ) (whole : Option Value) → whole ≡ None → IsStep old new (take (length octets - at) (drop at octets)) whole used → IsTaken old new (drop at octets) used
taken_behind old new octets at used whole is h = subst (λ o. IsTaken old new o used) (slice_behind octets at) (subst (λ w. IsStep old new (take (length octets - at) (drop at octets)) w used) is h)

pub whole_behind : (old new : Cursor) (octets : List ℕ) (at used : ℕ) (value : Value) (whole : Option Value) → whole ≡ Some value → IsStep old new (take (length octets - at) (drop at octets)) whole used → IsWhole old new (drop at octets) (value_view value) used
whole_behind old new octets at used value whole is h = subst (λ o. IsWhole old new o (value_view value) used) (slice_behind octets at) (subst (λ w. IsStep old new (take (length octets - at) (drop at octets)) w used) is h)

-- what a reader of one piece refuses with, it refuses a piece with, unless octets are missing
pub of_feeding : (refusal : Refusal) → IsOfReading refusal → (refusal ≡ Truncated → ⊥) → IsOfFeeding refusal
of_feeding Truncated h not = absurd (not refl)
of_feeding refusal h not = h

-- octets stand before those that are kept, and all of them are these
pub record IsAt (pieces : Pieces) (octets : List ℕ) : Type 0 where
  pub before : List ℕ
  pub joined : octets ≡ before ++ pieces.pending.items
  pub goes_on : GoesOn pieces.cursor before pieces.pending.items

pub kept_at : (now new : Pieces) (octets slice : List ℕ) → HasBeenFed now octets → new.cursor ≡ now.cursor → new.pending.items ≡ now.pending.items ++ slice → IsAt new (octets ++ slice)
kept_at now new octets slice fed cursor kept = record {
  before = fed.before;
  joined = ap (λ o. o ++ slice) fed.joined ∙ append_assoc fed.before now.pending.items slice ∙ ap (λ o. fed.before ++ o) (sym kept);
  goes_on =
      let wide = widened now.cursor fed.before now.pending.items slice fed.goes_on in
      subst (GoesOn new.cursor fed.before) (sym kept) (subst (λ n. GoesOn n fed.before (now.pending.items ++ slice)) (sym cursor) wide);
}

-- octets are missing
pub fed_at : (now new : Pieces) (octets : List ℕ) → IsAt now octets → new.cursor ≡ now.cursor → new.pending.items ≡ now.pending.items → new.refused ≡ None → IsCut now.cursor now.pending.items → (CanFinish now.cursor now.pending.items → ⊥) → HasBeenFed new octets
fed_at now new octets at cursor kept accepts cut none =
    let here : GoesOn new.cursor at.before now.pending.items = subst (λ n. GoesOn n at.before now.pending.items) (sym cursor) at.goes_on in
    let never : CanFinish new.cursor now.pending.items → ⊥ = subst (λ n. CanFinish n now.pending.items → ⊥) (sym cursor) none in
    record {
      accepts = accepts;
      before = at.before;
      joined = at.joined ∙ ap (λ o. at.before ++ o) (sym kept);
      goes_on = subst (GoesOn new.cursor at.before) (sym kept) here;
      cut = subst (IsCut new.cursor) (sym kept) (subst (λ n. IsCut n now.pending.items) (sym cursor) cut);
      none = λ h. none_of_cut new.cursor at.before now.pending.items here never (subst (HasValue (ty_view new.cursor.nest.ty.now)) at.joined h);
    }

-- no octets that begin so have a value
pub never_at : (now : Pieces) (octets more : List ℕ) → IsAt now octets → ((more : List ℕ) → CanFinish now.cursor (now.pending.items ++ more) → ⊥) → HasValue (shape_of now) (octets ++ more) → ⊥
never_at now octets more at never h =
    let joined : octets ++ more ≡ at.before ++ (now.pending.items ++ more) = ap (λ o. o ++ more) at.joined ∙ append_assoc at.before now.pending.items more in
    never more (at.goes_on.forth more (subst (HasValue (shape_of now)) joined h))

-- a step over those that are kept
pub step_at : (now new : Pieces) (octets : List ℕ) (used : ℕ) (at : IsAt now octets) → IsTaken now.cursor new.cursor now.pending.items used → GoesOn new.cursor (at.before ++ take used now.pending.items) (drop used now.pending.items)
step_at now new octets used at step = goes_on_step now.cursor new.cursor at.before now.pending.items used at.goes_on (taken_some now.cursor new.cursor now.pending.items used step)

pub joined_at : (now : Pieces) (octets : List ℕ) (used : ℕ) (at : IsAt now octets) → (at.before ++ take used now.pending.items) ++ drop used now.pending.items ≡ octets
joined_at now octets used at = front_and_rest used at.before now.pending.items ∙ sym at.joined

-- a front of octets, by how many are left of them
pub front_by_rest : (whole before rest : List ℕ) (n : ℕ) → whole ≡ before ++ rest → n ≤ length rest → before ++ take n rest ≡ take (length whole - (length rest - n)) whole
front_by_rest whole before rest n is below =
    let count : length whole - (length rest - n) ≡ length before + n = omega (arith, ap length is, length-append before rest, below) in
    sym (ap (λ k. take k whole) count ∙ ap (take (length before + n)) is ∙ take-append-add before rest n)

take-take-le : (n m : ℕ) (l : List ℕ) → n ≤ m → take n (take m l) ≡ take n l
take-take-le zero m l below = refl
take-take-le (suc n) zero l below = absurd (omega (arith, below))
take-take-le (suc n) (suc m) [] below = refl
take-take-le (suc n) (suc m) (x ∷ l) below = ap (λ o. x ∷ o) (take-take-le n m l (omega (arith, below)))

le_or_lt : (a b : ℕ) → (b ≤ a) ⊎ (a < b)
le_or_lt a zero = inl (omega arith)
le_or_lt zero (suc b) = inr (omega arith)
le_or_lt (suc a) (suc b) = elim (le_or_lt a b) [ inl h ↦ inl (omega (arith, h)) | inr h ↦ inr (omega (arith, h)) ]

-- the value ends in the piece: no value stood before it
pub done_in_piece : (shape : Shape) (octets piece : List ℕ) (start at left : ℕ) (value : Val) → start ≤ at → at ≤ length piece → left ≤ length (octets ++ take at piece) → IsAccepted ber shape value (take (length (octets ++ take at piece) - left) (octets ++ take at piece))
    → (HasValue shape (octets ++ take start piece) → ⊥) → IsDone shape octets piece value (at - left)
done_in_piece shape octets piece start at left value below within fits accepted none =
    let whole = octets ++ take at piece in
    let n = length whole - left in
    let count : length whole ≡ length octets + at = length-append octets (take at piece) ∙ ap (λ k. length octets + k) (length-take-le at piece within) in
    let early : length (octets ++ take start piece) ≡ length octets + start = length-append octets (take start piece) ∙ ap (λ k. length octets + k) (length-take-le start piece (omega (arith, below, within))) in
    let front : take (length octets + start) whole ≡ octets ++ take start piece = take-append-add octets (take at piece) start ∙ ap (λ o. octets ++ o) (take-take-le start at piece below) in
    let late : length octets + start < n = later (length octets + start) n (λ small.
    let same : take n whole ≡ take n (octets ++ take start piece) = sym (take-take-le n (length octets + start) whole small) ∙ ap (take n) front in
    none (n, omega (arith, small, early), (value, subst (IsAccepted ber shape value) same accepted))) in
    let here : n ≡ length octets + (at - left) = omega (arith, late, count, fits) in
    let is : take n whole ≡ octets ++ take (at - left) piece = ap (λ k. take k whole) here ∙ take-append-add octets (take at piece) (at - left) ∙ ap (λ o. octets ++ o) (take-take-le (at - left) at piece (omega arith)) in
    record { some = omega (arith, late, here); there = omega (arith, within); accepted = subst (IsAccepted ber shape value) is accepted }
  where
    later : (a b : ℕ) → (b ≤ a → ⊥) → a < b
    later a b h = elim (le_or_lt a b) [ inl small ↦ absurd (h small) | inr large ↦ large ]

-- so many octets of the piece were taken
pub record IsFedSoFar (initial now : Pieces) (piece : List ℕ) (at : ℕ) : Type 0 where
  pub within : at ≤ length piece
  pub going_on : IsGoingOn initial now
  pub fed : (octets : List ℕ) → HasBeenFed initial octets → HasBeenFed now (octets ++ take at piece)

-- what stands behind a front of octets that are kept was taken, up to so many before their end
done_behind : (shape : Shape) (new : Pieces) (before rest : List ℕ) (value : Val) (more left : ℕ) → left ≡ length rest - more → IsDoneBehind shape new before rest value more → IsDoneBefore shape new (before ++ rest) value left
done_behind shape new before rest value more left is done =
    let count : length (before ++ rest) ≡ length before + length rest = length-append before rest in
    record {
      there = omega (arith, is, count);
      accepted = subst (IsAccepted ber shape value) (front_by_rest (before ++ rest) before rest more refl done.there ∙ ap (λ k. take (length (before ++ rest) - k) (before ++ rest)) (sym is)) done.accepted;
      fresh = done.fresh;
    }

-- what is kept is no part of the cursor
pub shape_kept : (old mid : Pieces) → mid.cursor ≡ old.cursor → shape_of mid ≡ shape_of old
shape_kept old mid cursor = ap (λ (n : Cursor). ty_view n.nest.ty.now) cursor

-- what was not whole is none
pub none_of : (whole : Option Value) → is_some whole ≡ false → whole ≡ None
none_of None h = refl
none_of (Some value) h = absurd cc

-- octets behind a step over those that are kept
front_slice : (mid : Pieces) (octets slice : List ℕ) (used : ℕ) (at : IsAt mid octets) → slice ≡ drop used mid.pending.items → (at.before ++ take used mid.pending.items) ++ slice ≡ octets
front_slice mid octets slice used at same = ap (λ o. (at.before ++ take used mid.pending.items) ++ o) same ∙ joined_at mid octets used at

on_slice : (mid next : Pieces) (octets slice : List ℕ) (used : ℕ) (at : IsAt mid octets) → IsTaken mid.cursor next.cursor mid.pending.items used → slice ≡ drop used mid.pending.items → GoesOn next.cursor (at.before ++ take used mid.pending.items) slice
on_slice mid next octets slice used at step same = subst (GoesOn next.cursor (at.before ++ take used mid.pending.items)) (sym same) (step_at mid next octets used at step)

pub cut_on : (old mid next new : Pieces) (octets slice : List ℕ) (used more left : ℕ) (whole : Option Value) → IsAt mid octets → IsTaken mid.cursor next.cursor mid.pending.items used → shape_of mid ≡ shape_of old → slice ≡ drop used mid.pending.items → left ≡ length slice - more
    → ((before : List ℕ) → GoesOn next.cursor before slice → IsTakenWhole next new before slice whole more) → IsTakenCut old new octets whole left
cut_on old mid next new octets slice used more left None at step shape same is taken =
    subst (HasBeenFed new) (front_slice mid octets slice used at same) (taken (at.before ++ take used mid.pending.items) (on_slice mid next octets slice used at step same))
cut_on old mid next new octets slice used more left (Some value) at step shape same is taken =
    let front = at.before ++ take used mid.pending.items in
    let done = done_behind (shape_of next) new front slice (value_view value) more left is (taken front (on_slice mid next octets slice used at step same)) in
    subst (λ o. IsDoneBefore (shape_of old) new o (value_view value) left) (front_slice mid octets slice used at same) (subst (λ s. IsDoneBefore s new (front ++ slice) (value_view value) left) (step.type ∙ shape) done)

pub never_on : (old mid next : Pieces) (octets slice more : List ℕ) (used : ℕ) → IsAt mid octets → IsTaken mid.cursor next.cursor mid.pending.items used → shape_of mid ≡ shape_of old → slice ≡ drop used mid.pending.items
    → ((before more : List ℕ) → GoesOn next.cursor before slice → HasValue (shape_of next) (before ++ (slice ++ more)) → ⊥) → HasValue (shape_of old) (octets ++ more) → ⊥
never_on old mid next octets slice more used at step shape same never h =
    let front = at.before ++ take used mid.pending.items in
    let joined : octets ++ more ≡ front ++ (slice ++ more) = ap (λ o. o ++ more) (sym (front_slice mid octets slice used at same)) ∙ append_assoc front slice more in
    never front more (on_slice mid next octets slice used at step same) (subst (HasValue (shape_of next)) joined (subst (λ s. HasValue s (octets ++ more)) (sym (step.type ∙ shape)) h))

pub taken_is : (old new : Cursor) (octets : List ℕ) (used : ℕ) (whole : Option Value) → whole ≡ None → IsStep old new octets whole used → IsTaken old new octets used
taken_is old new octets used whole is h = subst (λ w. IsStep old new octets w used) is h

-- the value is whole with those that are kept
whole_at : (now new : Pieces) (octets : List ℕ) (value : Val) (used left : ℕ) → IsAt now octets → IsWhole now.cursor new.cursor now.pending.items value used → new.refused ≡ None → new.pending.items ≡ [] → left ≡ length now.pending.items - used → IsDoneBefore (shape_of now) new octets value left
whole_at now new octets value used left at step accepts kept is =
    let count : length octets ≡ length at.before + length now.pending.items = ap length at.joined ∙ length-append at.before now.pending.items in
    let front = front_by_rest octets at.before now.pending.items used at.joined step.there ∙ ap (λ k. take (length octets - k) octets) (sym is) in
    record {
      there = omega (arith, is, count);
      accepted = subst (IsAccepted ber (shape_of now) value) front (step.accepted at.before at.goes_on.taken);
      fresh = record { accepts = accepts; layers = step.layers; taken = step.taken; string = step.string; kept = kept };
    }

pub cut_whole : (old mid new : Pieces) (octets : List ℕ) (used left : ℕ) (whole : Option Value) → is_some whole ≡ true → IsAt mid octets → IsStep mid.cursor new.cursor mid.pending.items whole used → shape_of mid ≡ shape_of old → new.refused ≡ None → new.pending.items ≡ [] → left ≡ length mid.pending.items - used
    → IsTakenCut old new octets whole left
cut_whole old mid new octets used left None some at step shape accepts kept is = absurd cc
cut_whole old mid new octets used left (Some value) some at step shape accepts kept is =
    subst (λ s. IsDoneBefore s new octets (value_view value) left) shape (whole_at mid new octets (value_view value) used left at step accepts kept is)

-- no value is whole, and the octets are few enough
pub more_is_fed : (old new : Pieces) (octets : List ℕ) (whole : Option Value) (r : Result ℕ Refusal) → whole ≡ None → shape_of new ≡ shape_of old → OnOk r (taken_of new.cursor + length new.pending.items ≤ MAX_ENCODING)
    → ((before : List ℕ) → HasBeenFed old before → HasBeenFed new (before ++ octets)) → IfOk r (λ used. (before : List ℕ) → HasBeenFed old before → IsFed old new before octets whole used)
more_is_fed old new octets whole (Ok used) none shape few goes = λ before h.
    let been = goes before h in
    let count : length (before ++ octets) ≡ taken_of new.cursor + length new.pending.items = ap length been.joined ∙ length-append been.before new.pending.items ∙ ap (λ n. n + length new.pending.items) (count_taken new.cursor been.before been.goes_on.taken) in
    let more : IsMore (shape_of old) new (before ++ octets) = record { none = subst (λ s. HasValue s (before ++ octets) → ⊥) shape been.none; has_been_fed = been; size = omega (arith, few, count) } in
    subst (λ w. IsFed old new before octets w used) (sym none) more
more_is_fed old new octets whole (Err e) none shape few goes = tt

-- no value is whole, and they are too many
pub too_many : (old new : Pieces) (octets : List ℕ) (r : Result ℕ Refusal) → shape_of new ≡ shape_of old → (IsErr r → MAX_ENCODING < taken_of new.cursor + length new.pending.items)
    → ((before : List ℕ) → HasBeenFed old before → HasBeenFed new (before ++ octets)) → IfErr r (λ refusal. IsFinal refusal → (before more : List ℕ) → HasBeenFed old before → HasValue (shape_of old) ((before ++ octets) ++ more) → ⊥)
too_many old new octets (Ok f) shape many goes = tt
too_many old new octets (Err e) shape many goes = λ final before more h value.
    let been = goes before h in
    let whole = before ++ octets in
    let count : length whole ≡ taken_of new.cursor + length new.pending.items = ap length been.joined ∙ length-append been.before new.pending.items ∙ ap (λ n. n + length new.pending.items) (count_taken new.cursor been.before been.goes_on.taken) in
    let n = value.0 in
    let size : length (take n (whole ++ more)) ≤ 1_048_576 = value.2.1.size in
    let all : length (take n (whole ++ more)) ≡ n = length-take-le n (whole ++ more) value.1 in
    let below : n ≤ length whole = omega (arith, many refl, count, size, all) in
    let same : take n (whole ++ more) ≡ take n whole = take-append-le n whole more below in
    been.none (n, below, (value.2.0, subst (λ o. IsAccepted ber (shape_of new) value.2.0 o) same (subst (λ s. IsAccepted ber s value.2.0 (take n (whole ++ more))) (sym shape) value.2.1)))

-- a value behind octets that have none
pub done_is_fed : (old new : Pieces) (before octets : List ℕ) (value : Val) (used : ℕ) → (HasValue (shape_of old) before → ⊥) → IsDoneBehind (shape_of old) new before octets value used → IsDone (shape_of old) before octets value used × IsFresh new
done_is_fed old new before octets value used none done = (record { some = some used (λ is. none (whole is)); there = done.there; accepted = done.accepted }, done.fresh)
  where
    some : (n : ℕ) → (n ≡ 0 → ⊥) → 1 ≤ n
    some zero h = absurd (h refl)
    some (suc n) h = omega arith

    whole : used ≡ 0 → HasValue (shape_of old) before
    whole is =
        let same : before ++ take used octets ≡ take (length before) before = ap (λ k. before ++ take k octets) is ∙ append-nil before ∙ sym (take_all (length before) before (omega arith)) in
        (length before, omega arith, (value, subst (IsAccepted ber (shape_of old) value) same done.accepted))

-- octets behind those that have been fed, none of which are kept
pub on_from_fed : (now : Pieces) (before octets : List ℕ) → HasBeenFed now before → now.pending.items ≡ [] → GoesOn now.cursor before octets
on_from_fed now before octets fed none =
    let same : before ≡ fed.before = fed.joined ∙ ap (λ o. fed.before ++ o) none ∙ append-nil fed.before in
    let on : GoesOn now.cursor fed.before [] = subst (GoesOn now.cursor fed.before) none fed.goes_on in
    subst (λ b. GoesOn now.cursor b octets) (sym same) (widened now.cursor fed.before [] octets on)

-- what is fed behind a front of the piece is fed of the piece
pub fed_of_piece : (old mid new : Pieces) (octets piece : List ℕ) (at : ℕ) (value : Val) (used : ℕ) → at ≤ length piece → shape_of mid ≡ shape_of old → IsDone (shape_of mid) (octets ++ take at piece) (drop at piece) value used → IsDone (shape_of old) octets piece value (at + used)
fed_of_piece old mid new octets piece at value used within shape done =
    let there : used ≤ length piece - at = subst (λ n. used ≤ n) (length-drop at piece) done.there in
    let front : (octets ++ take at piece) ++ take used (drop at piece) ≡ octets ++ take (at + used) piece = append_assoc octets (take at piece) (take used (drop at piece)) ∙ ap (λ o. octets ++ o) (take_more_octets at used piece) in
    record { some = omega (arith, done.some); there = omega (arith, there, within); accepted = subst (IsAccepted ber (shape_of old) value) front (subst (λ s. IsAccepted ber s value ((octets ++ take at piece) ++ take used (drop at piece))) shape done.accepted) }

-- the next octets of the piece
pub next_of_piece : (at count : ℕ) (piece rest next : List ℕ) → rest ≡ drop at piece → next ≡ take count rest → take at piece ++ next ≡ take (at + count) piece
next_of_piece at count piece rest next rest_is next_is = ap (λ o. take at piece ++ o) (next_is ∙ ap (take count) rest_is) ∙ take_more_octets at count piece

pub fed_so_far : (initial now new : Pieces) (piece next : List ℕ) (at count : ℕ) → IsFedSoFar initial now piece at → IsGoingOn now new → at + count ≤ length piece → take at piece ++ next ≡ take (at + count) piece → ((octets : List ℕ) → HasBeenFed now octets → HasBeenFed new (octets ++ next)) → IsFedSoFar initial new piece (at + count)
fed_so_far initial now new piece next at count far on within joined goes = record {
  within = within;
  going_on = record { shape = on.shape ∙ far.going_on.shape; accepts = on.accepts; sound = on.sound };
  fed = λ octets h. subst (HasBeenFed new) (append_assoc octets (take at piece) next ∙ ap (λ o. octets ++ o) joined) (goes (octets ++ take at piece) (far.fed octets h));
}

-- a value that ends before the end of these is a value that ends in the piece
pub done_cut : (initial now new : Pieces) (octets piece next : List ℕ) (at count left : ℕ) (value : Val) → IsFedSoFar initial now piece at → at + count ≤ length piece → take at piece ++ next ≡ take (at + count) piece → HasBeenFed initial octets
    → IsDoneBefore (shape_of now) new ((octets ++ take at piece) ++ next) value left → IsDone (shape_of initial) octets piece value (at + count - left) × IsFresh new
done_cut initial now new octets piece next at count left value far within joined fed done =
    let whole : (octets ++ take at piece) ++ next ≡ octets ++ take (at + count) piece = append_assoc octets (take at piece) next ∙ ap (λ o. octets ++ o) joined in
    let there = subst (λ o. left ≤ length o) whole done.there in
    let accepted = subst (λ o. IsAccepted ber (shape_of now) value (take (length o - left) o)) whole done.accepted in
    let none = (far.fed octets fed).none in
    let none_now = subst (λ s. HasValue s (octets ++ take at piece) → ⊥) (refl {a = shape_of now}) none in
    let d = done_in_piece (shape_of now) octets piece at (at + count) left value (omega arith) within there accepted none_now in
    (subst (λ s. IsDone s octets piece value (at + count - left)) far.going_on.shape d, done.fresh)

-- octets that begin so have no value
pub never_cut : (initial now : Pieces) (octets piece next more : List ℕ) (at count : ℕ) → IsFedSoFar initial now piece at → take at piece ++ next ≡ take (at + count) piece → HasBeenFed initial octets
    → ((before more : List ℕ) → HasBeenFed now before → HasValue (shape_of now) ((before ++ next) ++ more) → ⊥) → HasValue (shape_of initial) ((octets ++ piece) ++ more) → ⊥
never_cut initial now octets piece next more at count far joined fed never h =
    let whole : (octets ++ take at piece) ++ next ≡ octets ++ take (at + count) piece = append_assoc octets (take at piece) next ∙ ap (λ o. octets ++ o) joined in
    let behind = drop (at + count) piece in
    let all : (octets ++ piece) ++ more ≡ ((octets ++ take at piece) ++ next) ++ (behind ++ more) =
    ap (λ o. o ++ more) (sym (front_and_rest (at + count) octets piece)) ∙ append_assoc (octets ++ take (at + count) piece) behind more ∙ ap (λ o. o ++ (behind ++ more)) (sym whole) in
    never (octets ++ take at piece) (behind ++ more) (far.fed octets fed) (subst (λ s. HasValue s (((octets ++ take at piece) ++ next) ++ (behind ++ more))) (sym far.going_on.shape) (subst (HasValue (shape_of initial)) all h))

-- what was taken of the rest
done_rest : (initial now new : Pieces) (octets piece rest : List ℕ) (at used : ℕ) (value : Val) → IsFedSoFar initial now piece at → rest ≡ drop at piece → HasBeenFed initial octets → IsDone (shape_of now) (octets ++ take at piece) rest value used × IsFresh new → IsDone (shape_of initial) octets piece value (at + used) × IsFresh new
done_rest initial now new octets piece rest at used value far is fed (done, fresh) =
    (fed_of_piece initial now new octets piece at value used far.within far.going_on.shape (subst (λ o. IsDone (shape_of now) (octets ++ take at piece) o value used) is done), fresh)

more_rest : (initial now new : Pieces) (octets piece rest : List ℕ) (at : ℕ) → IsFedSoFar initial now piece at → rest ≡ drop at piece → IsMore (shape_of now) new ((octets ++ take at piece) ++ rest) → IsMore (shape_of initial) new (octets ++ piece)
more_rest initial now new octets piece rest at far is more =
    let whole : (octets ++ take at piece) ++ rest ≡ octets ++ piece = ap (λ o. (octets ++ take at piece) ++ o) is ∙ front_and_rest at octets piece in
    subst (λ s. IsMore s new (octets ++ piece)) far.going_on.shape (subst (IsMore (shape_of now) new) whole more)

pub rest_is_fed : (initial now new : Pieces) (octets piece rest : List ℕ) (at used : ℕ) (whole : Option Value) → IsFedSoFar initial now piece at → rest ≡ drop at piece → HasBeenFed initial octets → IsFed now new (octets ++ take at piece) rest whole used → IsFed initial new octets piece whole (at + used)
rest_is_fed initial now new octets piece rest at used None far is fed h = more_rest initial now new octets piece rest at far is h
rest_is_fed initial now new octets piece rest at used (Some value) far is fed h = done_rest initial now new octets piece rest at used (value_view value) far is fed h

pub never_rest : (initial now : Pieces) (octets piece rest more : List ℕ) (at : ℕ) → IsFedSoFar initial now piece at → rest ≡ drop at piece → HasBeenFed initial octets → ((before more : List ℕ) → HasBeenFed now before → HasValue (shape_of now) ((before ++ rest) ++ more) → ⊥) → HasValue (shape_of initial) ((octets ++ piece) ++ more) → ⊥
never_rest initial now octets piece rest more at far is fed never h =
    let whole : (octets ++ take at piece) ++ rest ≡ octets ++ piece = ap (λ o. (octets ++ take at piece) ++ o) is ∙ front_and_rest at octets piece in
    never (octets ++ take at piece) more (far.fed octets fed) (subst (λ s. HasValue s (((octets ++ take at piece) ++ rest) ++ more)) (sym far.going_on.shape) (subst (λ o. HasValue (shape_of initial) (o ++ more)) (sym whole) h))

-- nothing is open
pub fresh_nest : (nest : Nest) → IsWellFormed (ty_view nest.ty.now) → layers_of nest.layers ≡ [] → IsCounted nest.layers → nest.taken ≡ 0 → IsSoundNest nest
fresh_nest nest well none counted taken = record {
  type = record { within = well.limits.each; tags = well.tags; defaults = well.defaults };
  sound = subst AreSound (sym none) tt;
  inside = subst (AreInside (ty_view nest.ty.now)) (sym none) tt;
  counted = counted;
  depth = subst (λ l. length l ≤ most_nested) (sym none) (omega arith);
  place = subst (λ n. n ≤ MAX_ENCODING) (sym taken) (omega arith);
}

pub fresh_reader : (pieces : Pieces) → IsWellFormed (shape_of pieces) → IsFresh pieces → IsCounted pieces.cursor.nest.layers → IsSoundReader pieces
fresh_reader pieces well fresh counted =
    let cursor = pieces.cursor in
    record {
      sound = λ accepts. record { cursor = sound_nest cursor fresh.string (fresh_nest cursor.nest well fresh.layers counted fresh.taken); well_formed = well };
      numbers = λ refusal is. let both : None ≡ Some refusal = sym fresh.accepts ∙ is in absurd (cc both);
      depth = omega (arith, ap length fresh.layers, ap open_in fresh.string);
    }
