use Rattle.std.proofs.Common.{◌⊎◌, ◌++◌, ℕ, List, subst}
use Rattle.octets.proofs.ResultLemmas.{IfErr-map}
use Rattle.types.specs.Refusal.{IsFinal}
use Rattle.types.specs.View.{ty_view}
use Rattle.encoding_parts.specs.Segments.{BeginsAboveZero, EndsAt}
use Rattle.berreader.specs.Cut.{IsNestCut}
use Rattle.berreader.specs.Nest.{CanComplete, CanFinish}
use Rattle.berreader.specs.Stack.{layer_view}
use Rattle.berreader.proofs.NestLemmas.{ends_or_begins}
use Rattle.berreader.proofs.CutLemmas.{end_cut}
use Rattle.berreader.proofs.RefusedLemmas.{gathered}
use Rattle.berreader.proofs.nest.Nest.end_here.Goals as goal

pub returns-in-Some-clause-refused : goal.returns-in-Some-clause-refused
returns-in-Some-clause-refused c =
    let nest = c.args.self.now in
    let octets = c.args.octets.now in
    let shape = ty_view nest.ty.now in
    let found = c.in-Some.ensures in
    let layer = layer_view c.in-Some.open.now in
    let said = c.read_end.ensures in
    let next : (all : List ℕ) → CanFinish nest all → EndsAt layer.frame nest.taken all ⊎ BeginsAboveZero all = λ all h. ends_or_begins shape layer found.0 nest.taken all (subst (λ ls. CanComplete shape ls nest.taken all) found.1 h) in
    gathered c.read_end.result (CanFinish nest) (IsNestCut nest) octets (λ is h. said.truncated is (next octets h)) (λ is. end_cut nest layer found.0 octets found.1 (said.cut is))
    (IfErr-map c.read_end.result (λ refusal. IsFinal refusal → (more : List ℕ) → (EndsAt layer.frame nest.taken (octets ++ more) ⊎ BeginsAboveZero (octets ++ more)) → ⊥) (λ refusal. IsFinal refusal → (more : List ℕ) → CanFinish nest (octets ++ more) → ⊥)
    (λ refusal none final more h. none final more (next (octets ++ more) h)) said.never)
    said.numbers
