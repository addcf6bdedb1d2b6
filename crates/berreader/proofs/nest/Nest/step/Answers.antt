use Rattle.std.proofs.Common.{◌++◌, ℕ, List, take, drop}
use Rattle.octets.proofs.FrontLemmas.{front_of_more}
use Rattle.octets.proofs.ResultLemmas.{IfErr-map}
use Rattle.types.specs.Refusal.{IsFinal}
use Rattle.berreader.specs.Cut.{IsNestCut}
use Rattle.berreader.specs.Nest.{CanFinish, EndsInside}
use Rattle.berreader.specs.Stack.{layers_of}
use Rattle.berreader.proofs.NestStepLemmas.{ends_of}
use Rattle.berreader.proofs.RefusedLemmas.{none_missing, renamed}
use Rattle.berreader.proofs.nest.Nest.step.Goals as goal

pub returns-in-Some-clause-refused : goal.returns-in-Some-clause-refused
returns-in-Some-clause-refused c =
    let nest = c.args.self.now in
    let octets = c.args.octets.now in
    let used = c.in-Some.used in
    let found = rw c.in-Some.is at c.in_ok-used.ensures.value in
    none_missing c.close.result (CanFinish nest) (IsNestCut nest) octets c.close.ensures.numbers
    (IfErr-map c.close.result (λ refusal. IsFinal refusal → (all : List ℕ) → EndsInside (layers_of nest.layers) nest.taken all → CanFinish nest all → ⊥) (λ refusal. IsFinal refusal → (more : List ℕ) → CanFinish nest (octets ++ more) → ⊥)
    (λ refusal never final more. never final (octets ++ more) (ends_of (layers_of nest.layers) nest.taken (octets ++ more) (take used octets) (drop used octets ++ more) found.1 (front_of_more used octets more)))
    c.close.ensures.never)

pub returns-in-Err-clause-refused : goal.returns-in-Err-clause-refused
returns-in-Err-clause-refused c =
    let nest = c.args.self.now in
    let said = c.refusal_inside.ensures in
    renamed c.refusal_inside.result c.in-Err.refusal (CanFinish nest) (IsNestCut nest) c.args.octets.now said.truncated said.never said.numbers c.in-Err.ensures.refused
