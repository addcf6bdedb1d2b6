use Rattle.std.proofs.Common.{true, ◌≡◌, ◌++◌, ℕ, List, sym, subst}
use Rattle.octets.specs.declared.canonical.Canonical.{Canonical}
use Rattle.octets.specs.declared.tag.Tag.{Tag}
use Rattle.octets.specs.Front.{Appends}
use Rattle.octets.specs.Rule.{rule_of}
use Rattle.octets.proofs.ResultLemmas.{OnOk-map}
use Rattle.types.specs.Form.{IsConstructed}
use Rattle.canon.specs.Opening.{IsOpening, IsLengthPut}
use Rattle.canon.proofs.OpeningLemmas.{closed_definite}
use Rattle.canon.proofs.heads.put_closing.Goals as goal

pub returns-in-Der-clause-closed : goal.returns-in-Der-clause-closed
returns-in-Der-clause-closed c =
    let old = c.args.out.now.items in
    let new = c.put_length.new.out.items in
    OnOk-map c.put_length.result (IsLengthPut c.args.place old new)
    ((tag : Tag) (before opened inside : List ℕ) → IsOpening tag true before opened c.args.place → old ≡ opened ++ inside → Appends (IsConstructed (rule_of c.args.rule) tag inside) before new)
    (λ put. λ tag before opened inside h is. subst (λ (r : Canonical). Appends (IsConstructed (rule_of r) tag inside) before new) (sym c.in-Der.is) (closed_definite tag true c.args.place before opened inside old new h is put))
    c.put_length.ensures.put
