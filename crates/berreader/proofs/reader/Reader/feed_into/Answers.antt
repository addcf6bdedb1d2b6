use Rattle.std.proofs.Common.{◌≡◌, ◌++◌, List, ℕ, [], None, Vec, Global, length, refl, rules, sym, subst, subst₂}
use Rattle.types.specs.declared.value.Value.{Value}
use Rattle.berreader.specs.declared.pieces.Pieces.{Pieces}
use Rattle.berreader.specs.Feeding.{HasBeenFed, HasValue, IsFed, IsFinished, shape_of}
use Rattle.berreader.proofs.CursorLemmas.{no_octets}
use Rattle.berreader.proofs.CutLemmas.{none_is_more}
use Rattle.berreader.proofs.FreshLemmas.{fed_at_once}
use Rattle.berreader.proofs.HeldLemmas.{held_light, slot_light}
use Rattle.berreader.proofs.RoomLemmas.{with_room, value_in_room, none_in_room}
use Rattle.berreader.proofs.reader.Reader.feed_into.Goals as goal
use Rattle.berreader.proofs.reader.Reader.feed_into.Goals.{then-is_fresh+in_default-read_whole, else-is_fresh}

pub returns-then-is_empty-clause-held : goal.returns-then-is_empty-clause-held
returns-then-is_empty-clause-held c = λ octets fed. held_light c.self.inside.pieces octets fed

pub returns-then-is_empty-clause-value : goal.returns-then-is_empty-clause-value
returns-then-is_empty-clause-value c =
    let now = c.self.inside.pieces in
    let piece = c.args.piece.now in
    let size : length piece ≡ 0 = first_of (search rules, cc) in
    let none : piece ≡ [] = no_octets piece size in
    subst (λ (old : Pieces). (octets : List ℕ) → HasBeenFed old octets → IsFed old now octets piece c.clear-then-is_empty.new.slot 0) c.self.view_is
    (λ octets fed. subst (λ s. IsFed now now octets piece s 0) (sym c.clear-then-is_empty.ensures) (none_is_more now octets piece (c.self.invariant.sound fed.accepts).cursor none fed))

pub returns-in-Some-read_whole-clause-value : goal.returns-in-Some-read_whole-clause-value
returns-in-Some-read_whole-clause-value c =
    let now = c.self.inside.pieces in
    let piece = c.args.piece.now in
    let read = c.in-Some-read_whole in
    let fresh = c.is_fresh.ensures.0 c.if-is_fresh.true in
    let done : now.refused ≡ None → IsFinished now = λ accepts. record { accepts = accepts; taken = fresh.0; string = fresh.1; kept = fresh.2 } in
    subst₂ (λ (old : Pieces) (room : Vec Value Global). (octets : List ℕ) → HasBeenFed old octets → IsFed old (with_room now room) octets piece c.read_whole.new.whole read.used) c.self.view_is (sym read.ensures.room)
    (λ octets fed. fed_at_once now octets piece c.read_whole.new.whole read.used (done fed.accepts) fed read.ensures.there read.ensures.value (read.ensures.some.0 refl))

pub returns-in-Some-read_whole-clause-light : goal.returns-in-Some-read_whole-clause-light
returns-in-Some-read_whole-clause-light c =
    slot_light c.args.self.now (with_room c.self.inside.pieces c.read_whole.new.room) c.args.piece.now c.read_whole.new.whole c.in-Some-read_whole.used (returns-in-Some-read_whole-clause-value c)

pub returns-clause-value : goal.returns-clause-value
returns-clause-value c =
    let now = c.self.inside.pieces in
    let mid = c.if-is_fresh.pieces in
    let same : (room : Vec Value Global) × (mid ≡ with_room now room) = elim c.if-is_fresh.branch [
      | then-is_fresh+in_default-read_whole w ↦ (w.read_whole.new.room, w.pieces-is)
      | else-is_fresh w ↦ (now.room, w.pieces-is)
    ] in
    subst (λ (old : Pieces). (octets : List ℕ) → HasBeenFed old octets → IsFed old c.take_on.new.self octets c.args.piece.now c.take_on.new.whole c.in-Ok.used) c.self.view_is
    (value_in_room now mid same.0 same.1 c.take_on.new.self c.args.piece.now c.take_on.new.whole c.in-Ok.used c.in-Ok.ensures.value)

pub returns-clause-light : goal.returns-clause-light
returns-clause-light c = slot_light c.args.self.now c.take_on.new.self c.args.piece.now c.take_on.new.whole c.in-Ok.used (returns-clause-value c)

pub returns-clause-held : goal.returns-clause-held
returns-clause-held c = λ octets fed. held_light c.take_on.new.self octets fed

pub returns-in-Err-clause-held : goal.returns-in-Err-clause-held
returns-in-Err-clause-held c = λ octets fed. held_light _ octets fed

pub returns-in-Err-clause-never : goal.returns-in-Err-clause-never
returns-in-Err-clause-never c = λ _ final.
    let now = c.self.inside.pieces in
    let mid = c.if-is_fresh.pieces in
    let same : (room : Vec Value Global) × (mid ≡ with_room now room) = elim c.if-is_fresh.branch [
      | then-is_fresh+in_default-read_whole w ↦ (w.read_whole.new.room, w.pieces-is)
      | else-is_fresh w ↦ (now.room, w.pieces-is)
    ] in
    subst (λ (old : Pieces). (octets more : List ℕ) → HasBeenFed old octets → HasValue (shape_of old) ((octets ++ c.args.piece.now) ++ more) → ⊥) c.self.view_is
    (none_in_room now mid same.0 same.1 c.args.piece.now (c.in-Err.ensures.never final))
