use Rattle.std.proofs.Common.{rules, ◌≡◌, ◌≢◌, ◌∙◌, ◌+◌, ◌-◌, ◌≤◌, ◌<◌, length, take, drop, IfSome, IfNone, unwrap_or, refl, ap, arith, sym, subst}
use Rattle.std.specs.Io.KnownBytes.{Appends}
use Rattle.std.proofs.lemmas.List.{take_all}
use Rattle.octets.specs.Front.{HasFront}
use Rattle.octets.proofs.ResultLemmas.{OnOk-map}
use Rattle.types.specs.declared.refusal.Refusal.TheVariants.{StreamTooLong}
use Rattle.cutting.specs.Inside.{IsBegun, came, Completes, GoesOn, EndsNever}
use Rattle.cutting.specs.Streams.{Passes, AreEndedBetween}
use Rattle.cutting.proofs.CutLemmas.{take_to}
use Rattle.cutting.proofs.ReadLemmas.{behind}
use Rattle.cutting.proofs.StreamLemmas.{step_passes, rest_passes, never_between, on_ok, between, passes_none, none_ended_if, one_ended}
use Rattle.devices.proofs.DeviceLemmas.{appends_more, appends_none}
use Rattle.cutting.proofs.cutter.Cutter.take.Goals as goal

pub loop-at-preserved-then-is_full : goal.loop-at-preserved-then-is_full
loop-at-preserved-then-is_full g c =
    let piece = c.args.piece.now in
    let from = c.loop-at.from in
    let at = c.loop-at.at in
    let used = c.in-Ok-Some.used in
    let to = at + used in
    let initial = c.args.self.now.ends in
    let now = c.loop-at.self.ends in
    let new = c.take.new.self in
    let ordered : from ≤ to = omega (arith, c.loop-at.invariant.ordered) in
    let written = appends_more _ _ _ _ _ _ c.loop-at.invariant.taken c.in_ok-write.ensures.taken (take_to piece from to ordered) in
    let same : c.end_file.new.self.ends ≡ new = c.in_ok-end_file.ensures.ends.0 ∙ c.in_ok-write.ensures.ends.0 in
    let completes = subst (λ f. IfSome f (λ n. Completes now (take n (take (length piece - at) (drop at piece))))) c.in-Ok-Some.field-0-is c.in-Ok-Some.ensures.value in
    let outside = subst (λ f. IfSome f (λ n. IsBegun new → ⊥)) c.in-Ok-Some.field-0-is c.in-Ok-Some.ensures.ended in
    let passes = (step_passes initial now new piece at used c.loop-at.invariant.passed completes outside) in
    let there : to ≤ length piece = search rules in
    let cuts = subst (λ told. IfSome (g.K.Outputs.taken c.args.self.now.outputs) (λ all. AreEndedBetween initial piece (length all) (g.K.Outputs.cuts c.args.self.now.outputs) told)) (sym c.in_ok-write.ensures.cuts) c.loop-at.invariant.between in
    let counted = subst (λ f. came new ≡ came now + unwrap_or f (length (take (length piece - at) (drop at piece)))) c.in-Ok-Some.field-0-is c.in-Ok-Some.ensures.counted in
    record {
      ordered = search rules;
      within = search rules;
      taken = subst (λ told. Appends (g.K.Outputs.taken c.args.self.now.outputs) told (take to piece)) (sym c.in_ok-end_file.ensures.taken) written;
      passed = subst (λ e. Passes initial e (take to piece)) (sym same) passes;
      between = one_ended initial piece to (g.K.Outputs.taken c.args.self.now.outputs) (g.K.Outputs.taken c.write-then-is_full.new.self.outputs) (g.K.Outputs.cuts c.args.self.now.outputs) (g.K.Outputs.cuts c.write-then-is_full.new.self.outputs) (g.K.Outputs.cuts c.end_file.new.self.outputs)
          there (between initial new (take to piece) passes outside) written cuts c.in_ok-end_file.ensures.cuts;
      counted = ap came same ∙ omega (arith, counted, c.loop-at.invariant.counted);
      least = c.in_ok-end_file.ensures.least ∙ c.in_ok-write.ensures.least ∙ c.loop-at.invariant.least;
    }

pub loop-at-preserved : goal.loop-at-preserved
loop-at-preserved g c =
    let piece = c.args.piece.now in
    let at = c.loop-at.at in
    let used = c.in-Ok-Some.used in
    let initial = c.args.self.now.ends in
    let now = c.loop-at.self.ends in
    let new = c.take.new.self in
    let completes = subst (λ f. IfSome f (λ n. Completes now (take n (take (length piece - at) (drop at piece))))) c.in-Ok-Some.field-0-is c.in-Ok-Some.ensures.value in
    let outside = subst (λ f. IfSome f (λ n. IsBegun new → ⊥)) c.in-Ok-Some.field-0-is c.in-Ok-Some.ensures.ended in
    let counted = subst (λ f. came new ≡ came now + unwrap_or f (length (take (length piece - at) (drop at piece)))) c.in-Ok-Some.field-0-is c.in-Ok-Some.ensures.counted in
    record {
      ordered = search rules;
      within = search rules;
      taken = search rules;
      passed = step_passes initial now new piece at used c.loop-at.invariant.passed completes outside;
      between = c.loop-at.invariant.between;
      counted = omega (arith, counted, c.loop-at.invariant.counted);
      least = search rules;
    }

pub returns-in-Err-clause-front : goal.returns-in-Err-clause-front
returns-in-Err-clause-front g c =
    let piece = c.args.piece.now in
    let whole = take_to piece c.loop-at.from c.loop-at.at c.loop-at.invariant.ordered in
    λ refusal is. (c.loop-at.at, c.loop-at.invariant.within, appends_more _ _ _ _ _ _ c.loop-at.invariant.taken c.in_ok-write-in-Err.ensures.taken whole)

pub returns-in-Ok-None-clause-passed : goal.returns-in-Ok-None-clause-passed
returns-in-Ok-None-clause-passed g c =
    let piece = c.args.piece.now in
    let at = c.loop-at.at in
    let initial = c.args.self.now.ends in
    let now = c.loop-at.self.ends in
    let new = c.take.new.self in
    let step = take (length piece - at) (drop at piece) in
    let some : at < length piece = omega arith in
    let goes = subst (λ f. IfNone f (GoesOn now new step)) c.in-Ok-None.field-0-is c.in-Ok-None.ensures.begun in
    let none = subst (λ f. IfNone f (HasFront (Completes now) step → ⊥)) c.in-Ok-None.field-0-is c.in-Ok-None.ensures.none in
    let begun = subst (λ f. IfNone f (0 < length step → IsBegun new)) c.in-Ok-None.field-0-is c.in-Ok-None.ensures.inside in
    on_ok c.write.result (Passes initial c.write.new.self.ends piece)
    (subst (λ e. Passes initial e piece) (sym c.write.ensures.ends.0) (rest_passes initial now new piece at some c.loop-at.invariant.passed goes none begun))

pub returns-in-Err-clause-never : goal.returns-in-Err-clause-never
returns-in-Err-clause-never g c =
    let piece = c.args.piece.now in
    let at = c.loop-at.at in
    let now = c.loop-at.self.ends in
    let some : at < length piece = omega arith in
    λ refusal is other.
    let known : c.in-Err.refusal ≢ StreamTooLong = λ long. (let same : refusal ≡ StreamTooLong = cc (is, long) in other same) in
    never_between c.args.self.now.ends now piece at c.loop-at.invariant.passed some (behind (EndsNever now) piece at (c.in-Err.ensures.never known))

pub returns-clause-passed : goal.returns-clause-passed
returns-clause-passed g c =
    let piece = c.args.piece.now in
    let initial = c.args.self.now.ends in
    let whole = subst (Passes initial c.loop-at.self.ends) (take_all c.loop-at.at piece (omega arith)) c.loop-at.invariant.passed in
    on_ok c.write-2.result (Passes initial c.write-2.new.self.ends piece) (subst (λ e. Passes initial e piece) (sym c.write-2.ensures.ends.0) whole)

pub loop-at-init : goal.loop-at-init
loop-at-init g c = record {
  ordered = search rules;
  within = search rules;
  taken = appends_none (g.K.Outputs.taken c.args.self.now.outputs);
  passed = passes_none c.args.self.now.ends;
  counted = omega arith;
  least = refl;
  between = none_ended_if c.args.self.now.ends c.args.piece.now (g.K.Outputs.taken c.args.self.now.outputs) (g.K.Outputs.cuts c.args.self.now.outputs);
}

pub returns-in-Ok-None-clause-between : goal.returns-in-Ok-None-clause-between
returns-in-Ok-None-clause-between g c =
    OnOk-map c.write.result _ _
    (λ same. subst (λ told. IfSome (g.K.Outputs.taken c.args.self.now.outputs) (λ all. AreEndedBetween c.args.self.now.ends c.args.piece.now (length all) (g.K.Outputs.cuts c.args.self.now.outputs) told)) (sym same) c.loop-at.invariant.between)
    c.write.ensures.cuts

pub returns-clause-between : goal.returns-clause-between
returns-clause-between g c =
    OnOk-map c.write-2.result _ _
    (λ same. subst (λ told. IfSome (g.K.Outputs.taken c.args.self.now.outputs) (λ all. AreEndedBetween c.args.self.now.ends c.args.piece.now (length all) (g.K.Outputs.cuts c.args.self.now.outputs) told)) (sym same) c.loop-at.invariant.between)
    c.write-2.ensures.cuts
