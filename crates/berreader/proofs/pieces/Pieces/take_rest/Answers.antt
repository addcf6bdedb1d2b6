use Rattle.std.proofs.Common.{◌≡◌, ◌++◌, [], ap, sym, subst, ◌∙◌, append-nil, append_assoc, inl, inr, refl}
use Rattle.types.specs.View.{value_view}
use Rattle.berreader.specs.Feeding.{HasBeenFed, HasValue, IsFed, shape_of}
use Rattle.berreader.proofs.FeedingLemmas.{more_is_fed, too_many, done_is_fed, on_from_fed}
use Rattle.berreader.proofs.RefusedLemmas.{final_passed}
use Rattle.berreader.proofs.pieces.Pieces.take_rest.Goals as goal

pub returns-then-not-keeps_none-clause-value : goal.returns-then-not-keeps_none-clause-value
returns-then-not-keeps_none-clause-value c =
    let now = c.args.self.now in
    let octets = c.args.octets.now in
    let none : octets ≡ [] = elim c.requires.either [ inl h ↦ absurd (cc (c.keeps_none.ensures.1 h, c.if-not-keeps_none.true)) | inr h ↦ h ] in
    more_is_fed now now octets c.args.whole.now c.more.result c.requires.whole refl c.more.ensures.few (λ before h. subst (HasBeenFed now) (sym (ap (λ o. before ++ o) none ∙ append-nil before)) h)

pub returns-in-Some-clause-value : goal.returns-in-Some-clause-value
returns-in-Some-clause-value c = λ before fed.
    let now = c.args.self.now in
    let new = c.take_whole.new.self in
    let octets = c.args.octets.now in
    let value = c.in-Some.field-0 in
    let used = c.in_ok-used.used in
    let none = c.keeps_none.ensures.0 c.if-not-keeps_none.false in
    let taken = rw c.in-Some.is at (c.in_ok-used.ensures.value before (on_from_fed now before octets fed none)) in
    subst (λ w. IsFed now new before octets w used) (sym c.in-Some.is) (done_is_fed now new before octets (value_view value) used fed.none taken)

pub returns-in-None-clause-value : goal.returns-in-None-clause-value
returns-in-None-clause-value c =
    let now = c.args.self.now in
    let new = c.take_whole.new.self in
    let octets = c.args.octets.now in
    let none = c.keeps_none.ensures.0 c.if-not-keeps_none.false in
    more_is_fed now new octets c.take_whole.new.whole c.more-in-None.result c.in-None.is c.in_ok-used.ensures.going_on.shape c.more-in-None.ensures.few
    (λ before fed. rw c.in-None.is at (c.in_ok-used.ensures.value before (on_from_fed now before octets fed none)))

pub returns-in-None-clause-never : goal.returns-in-None-clause-never
returns-in-None-clause-never c =
    let now = c.args.self.now in
    let new = c.take_whole.new.self in
    let octets = c.args.octets.now in
    let none = c.keeps_none.ensures.0 c.if-not-keeps_none.false in
    too_many now new octets c.more-in-None.result c.in_ok-used.ensures.going_on.shape c.more-in-None.ensures.many
    (λ before fed. rw c.in-None.is at (c.in_ok-used.ensures.value before (on_from_fed now before octets fed none)))

pub returns-in_err-used-clause-never : goal.returns-in_err-used-clause-never
returns-in_err-used-clause-never c =
    let now = c.args.self.now in
    let octets = c.args.octets.now in
    let none = c.keeps_none.ensures.0 c.if-not-keeps_none.false in
    final_passed c.from_residual.result _ _ c.from_residual.ensures.1
    (λ final before more fed h. c.in_err-used.ensures.never final before more (on_from_fed now before octets fed none) (subst (HasValue (shape_of now)) (append_assoc before octets more) h))
