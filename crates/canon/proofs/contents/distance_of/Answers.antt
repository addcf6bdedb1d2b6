use Rattle.std.proofs.Common.{◌≡◌, pos, negsuc, nat_abs, true, false, arith}
use Rattle.std.specs.Int.{w128, cast_signed}
use Rattle.std.proofs.lemmas.Int.{ints}
use Rattle.canon.proofs.contents.distance_of.Goals.{then-number-lt0, else-number-lt0}
use Rattle.canon.proofs.contents.distance_of.Goals as goal

pub returns-clause-distance : goal.returns-clause-distance
returns-clause-distance c =
    let distance = nat_abs (cast_signed w128 c.if-number-lt0.distance-bits) in
    elim c.if-number-lt0.branch [
      | then-number-lt0 w ↦
          let is : c.args.number ≡ negsuc distance = grind (arith, ints, w.distance-is, w.if-number-lt0.true, c.ranges.number) in
          (true, is)
      | else-number-lt0 w ↦
          let is : c.args.number ≡ pos distance = grind (arith, ints, w.distance-is, w.if-number-lt0.false, c.ranges.number) in
          (false, is)
    ]
