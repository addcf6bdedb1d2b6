use Rattle.std.proofs.Common.{◌≡◌, length, subst, arith}
use Rattle.octets.specs.Length.{IsShortestLength}
use Rattle.octets.specs.Rule.{der}
use Rattle.types.proofs.FormLemmas.{length-definite}
use Rattle.canon.proofs.sizes.size_of_definite.Goals as goal

pub returns-then-contents-gt-MAX_ENCODING-clause-size : goal.returns-then-contents-gt-MAX_ENCODING-clause-size
returns-then-contents-gt-MAX_ENCODING-clause-size c = λ constructed inside octets same h.
    omega (arith, same, c.if-contents-gt-MAX_ENCODING.true, length-definite der c.args.tag constructed inside octets h)

pub returns-clause-size : goal.returns-clause-size
returns-clause-size c = λ constructed inside octets same h.
    let exactly : length inside ≡ c.args.contents = omega (arith, same, c.if-contents-gt-MAX_ENCODING.false) in
    let front = c.size_of_identifier.ensures.size constructed h.identifier h.tagged in
    let size = c.size_of_length.ensures.size h.size (subst (λ n. IsShortestLength n h.size) exactly h.sized) in
    omega (arith, c.min.ensures, exactly, front, size, length-definite der c.args.tag constructed inside octets h)
