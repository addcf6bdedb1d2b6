use Rattle.std.proofs.Common.{◌≤◌, ◌++◌, length, take, drop, sym, ap, arith, ◌∙◌, length-drop}
use Rattle.std.proofs.Math.Seq.{take-add}
use Rattle.std.proofs.lemmas.List.{take_rest}
use Rattle.devices.proofs.DeviceLemmas.{appends_more}
use Rattle.devices.proofs.writing.write_all.Goals as goal

pub loop-at-preserved : goal.loop-at-preserved
loop-at-preserved g c =
    let octets = c.args.octets.now in
    let rest = take_rest octets c.loop-at.at in
    let bound : c.in-Ok.count ≤ length (drop c.loop-at.at octets) = rw rest at c.in-Ok.ensures.bound in
    record {
      within = omega (arith, bound, length-drop c.loop-at.at octets, c.loop-at-test.true);
      taken = appends_more _ _ _ _ _ _ c.loop-at.invariant.taken c.in-Ok.ensures.octets
          (take-add c.loop-at.at c.in-Ok.count octets ∙ ap (λ l. take c.loop-at.at octets ++ take c.in-Ok.count l) (sym rest));
      quiet = c.in-Ok.ensures.count;
    }
