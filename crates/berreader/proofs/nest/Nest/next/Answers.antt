use Rattle.std.proofs.Common.{inl, ◌≡◌, ◌++◌, [], Err, sym, ap, subst, append-nil, Contains}
use Rattle.types.specs.FirstTags.{first_tags}
use Rattle.types.specs.View.{ty_view}
use Rattle.types.proofs.BeginningLemmas.{begins_once}
use Rattle.encoding_parts.specs.Head.{IsTagWithin}
use Rattle.berreader.specs.Nest.{EndsInside}
use Rattle.berreader.specs.Stack.{layers_of}
use Rattle.encoding_parts.proofs.ChoiceLemmas.{begins_node}
use Rattle.encoding_parts.proofs.RefusesLemmas.{passed_on}
use Rattle.berreader.proofs.RefusedLemmas.{none_due}
use Rattle.berreader.proofs.NestStepLemmas.{tag_next, read_begins}
use Rattle.encoding_parts.specs.Cut.{IsIdentifierCut}
use Rattle.berreader.proofs.nest.Nest.next.Goals as goal

pub returns-in_err-tag-clause-refused : goal.returns-in_err-tag-clause-refused
returns-in_err-tag-clause-refused c =
    let nest = c.args.self.now in
    let octets = c.args.octets.now in
    let said = c.in_err-tag.ensures in
    passed_on c.from_residual.result _ _ _ _ c.from_residual.ensures.1 (record {
      truncated = λ is h.
          let t = tag_next nest octets c.requires.sound (λ e. c.requires.no_end [] (subst (EndsInside (layers_of nest.layers) nest.taken) (sym (append-nil octets)) e)) h in
          said.truncated (ap Err is) t.tag t.below (subst (λ n. IsTagWithin t.tag n nest.taken octets) (sym c.end.ensures) t.within);
      cut = λ is. inl (subst (λ n. IsIdentifierCut n nest.taken octets) c.end.ensures (said.cut (ap Err is)));
      never = λ final more h.
          let t = tag_next nest (octets ++ more) c.requires.sound (c.requires.no_end more) h in
          said.never final more t.tag t.below (subst (λ n. IsTagWithin t.tag n nest.taken (octets ++ more)) (sym c.end.ensures) t.within);
      numbers = said.numbers;
    })

pub returns-in_err-which-clause-refused : goal.returns-in_err-which-clause-refused
returns-in_err-which-clause-refused c =
    let nest = c.args.self.now in
    let octets = c.args.octets.now in
    let tag = c.in_ok-tag.tag in
    let said = c.in_err-which.ensures in
    none_due c.from_residual-in_err-which.result _ _ _ _ c.from_residual-in_err-which.ensures.1 said.numbers (λ more h.
    let t = tag_next nest (octets ++ more) c.requires.sound (c.requires.no_end more) h in
    let begins = read_begins tag c.end.result nest.taken c.in_ok-tag.identifier c.in_ok-tag.constructed octets more c.in_ok-tag.ensures.value in
    let one : t.tag ≡ tag = begins_once t.tag tag (octets ++ more) t.begins begins in
    said.never t.some.which t.some.type (record { due = t.some.due; begins = subst (Contains (first_tags t.some.type)) one t.has }))

pub returns-in_default-clause-refused : goal.returns-in_default-clause-refused
returns-in_default-clause-refused c =
    let n = begins_node c.in_ok-tag.tag (ty_view c.in_ok-which.ty.now) c.in_ok-which.ensures.value.begins in
    absurd (c.in_default.ensures n.0 n.1)
