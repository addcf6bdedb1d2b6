use Rattle.std.proofs.Common.{◌∙◌, ◌++◌, ℕ, List, take, ap}
use Rattle.canon.proofs.WordLemmas.{few_front}
use Rattle.canon.proofs.few.grow_by_few.Goals as goal

pub returns-clause-appended : goal.returns-clause-appended
returns-clause-appended c = λ octets h.
    let old : List ℕ = c.args.out.now.items in
    c.in_ok-extend_from_slice.ensures.items ∙ ap (λ s. old ++ s) (ap (take c.args.few.count) c.to_be_bytes-octets.ensures ∙ few_front c.args.few octets c.requires h)
