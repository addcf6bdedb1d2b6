use Rattle.std.proofs.Common.{rules, ◌≡◌, None, Err, refl, sym, ap, subst, ◌∙◌}
use Rattle.berreader.specs.declared.cursor.Cursor.{Cursor}
use Rattle.berreader.specs.declared.nest.OpenString.{OpenString}
use Rattle.encoding_parts.specs.Cut.{IsStringCut}
use Rattle.encoding_parts.specs.Refuses.{Refuses}
use Rattle.encoding_parts.specs.Segments as segments
use Rattle.berreader.specs.Cursor.{with_string, IsSoundCursor, IsStep, Steps}
use Rattle.berreader.proofs.CursorLemmas.{closed_step, nest_steps, put_back, refused_string, string_sound, string_step}
use Rattle.berreader.proofs.RefusedLemmas.{renamed}
use Rattle.berreader.proofs.cursor.Cursor.go_on.Goals as goal
use Rattle.berreader.proofs.cursor.Cursor.go_on.Goals.{in-Some+else-not-is_closed, in_default}

pub returns-in-Ok : goal.returns-in-Ok
returns-in-Ok c =
    let string = c.in-Some.string in
    let octets = c.args.octets.now in
    let used = c.in-Ok.used in
    let said = c.in-Ok.ensures in
    let new : OpenString = record { next = string.next; kind = string.kind; segments = c.pass.new.self } in
    record {
      taken = string_step c.args.self.now string new octets used c.args.whole.now c.in-Some.is c.requires.whole refl refl said.taken said.smaller;
      sound = string_sound c.args.self.now string new octets used c.in-Some.is c.requires.sound refl refl said.taken said.sound;
      refused = tt;
      unchanged = search rules;
    }

pub returns-in-Err : goal.returns-in-Err
returns-in-Err c =
    let string = c.in-Some.string in
    let octets = c.args.octets.now in
    let said = c.in-Err.ensures in
    let inside = c.refusal_inside.ensures in
    let Can = segments.CanComplete string.kind string.segments in
    let Cut = IsStringCut string.kind string.segments in
    let why : Refuses Can Cut octets c.in-Err.refusal = record { truncated = λ is. said.truncated (ap Err is); cut = λ is. said.cut (ap Err is); never = said.never; numbers = said.numbers } in
    let refused = refused_string c.args.self.now string octets c.refusal_inside.result c.in-Some.is c.requires.sound (renamed c.refusal_inside.result c.in-Err.refusal Can Cut octets inside.truncated inside.never inside.numbers why) in
    record { taken = tt; sound = tt; refused = refused; unchanged = search rules }

-- where no string has begun
none_taken : (c : goal.After-step) → (c.match-self.self ≡ c.args.self.now) × (c.match-self.self.string ≡ None)
none_taken c = (elim c.match-self.branch [ in-Some+else-not-is_closed w ↦ w.self-is ∙ put_back c.args.self.now w.in-Some.string w.in-Some.is | in_default w ↦ w.self-is ], sym c.take.ensures.value ∙ c.in_default-take.is)

pub returns-in_default-take : goal.returns-in_default-take
returns-in_default-take c =
    let octets = c.args.octets.now in
    let whole = c.step.new.whole in
    let new : Cursor = record { nest = c.step.new.self; string = c.step.new.string } in
    let none = none_taken c in
    let said = c.step.ensures in
    subst (λ (o : Cursor). Steps o new octets whole c.step.result) none.0
    (nest_steps c.match-self.self c.step.new.self c.step.new.string octets whole c.step.result none.1 said.taken said.sound said.refused said.unchanged said.kept)

pub returns : goal.returns
returns c =
    let now = c.match-self.self in
    let string = c.in-Some-take.string in
    let octets = c.args.octets.now in
    let whole = c.close_string.new.whole in
    let new : Cursor = record { nest = c.close_string.new.self; string = c.take.new.self } in
    let same : now ≡ c.args.self.now = elim c.match-self.branch [ in-Some+else-not-is_closed w ↦ w.self-is ∙ put_back c.args.self.now w.in-Some.string w.in-Some.is | in_default w ↦ w.self-is ] in
    let is : with_string now.nest string ≡ c.args.self.now = put_back now string (sym c.take.ensures.value ∙ c.in-Some-take.is) ∙ same in
    let sound = subst IsSoundCursor (sym is) c.requires.sound in
    let taken = subst (λ (o : Cursor). IsStep o new octets whole 0) is
    (closed_step now.nest new string octets whole c.in_ok-close_string.field-0 sound.string c.take.ensures.after c.in_ok-close_string.ensures.layers c.in_ok-close_string.ensures.taken) in
    record { taken = taken; sound = search rules; refused = tt; unchanged = search rules }

pub returns-in_err-close_string : goal.returns-in_err-close_string
returns-in_err-close_string c = record { taken = search rules; sound = search rules; refused = search rules; unchanged = search rules }
