use Rattle.std.proofs.Common.{◌≡◌, ◌++◌, subst, inl, true, false, sym, ◌∙◌}
use Rattle.octets.specs.declared.canonical.Canonical.TheVariants.{Cer, Der}
use Rattle.octets.proofs.ResultLemmas.{IfErr-map}
use Rattle.types.specs.Leaf.{tag_of}
use Rattle.types.specs.View.{ty_view}
use Rattle.encoding_parts.specs.Head.{IsTagWithin}
use Rattle.strict.specs.Bars.{RefusesStrictly}
use Rattle.strict.specs.Begun.{IsConstructedCut}
use Rattle.strict.specs.Leaf.{HasCut}
use Rattle.strict.specs.Reading.{RefusesPart}
use Rattle.strict.proofs.BarsLemmas.{refused_for_good, refused_by, refused_contents, refused_through}
use Rattle.strict.proofs.HeadLemmas.{tagged_so}
use Rattle.strict.proofs.LeafLemmas.{tag_of_part, primitive_of_part, cut_of_part}
use Rattle.strict.proofs.PlaceLemmas.{leaf_read, held_of_primitive}
use Rattle.strict.proofs.EndingLemmas.{begun_primitive, begun_string}
use Rattle.strict.proofs.leaf.read_leaf.Goals as goal

pub returns-in_err-constructed-clause-refused : goal.returns-in_err-constructed-clause-refused
returns-in_err-constructed-clause-refused c =
    let octets = c.args.octets.now in
    let room = c.args.room in
    refused_through c.from_residual.result c.from_residual.ensures.1
    (refused_by c.in_err-constructed.ensures.refused (λ more h. subst (λ t. IsTagWithin t room 0 (octets ++ more)) c.requires.tag (tag_of_part c.args.rule (ty_view c.args.ty.now) room (octets ++ more) c.requires.leaf h)) (λ k. inl k))

pub returns-in_default-clause-refused : goal.returns-in_default-clause-refused
returns-in_default-clause-refused c =
    let octets = c.args.octets.now in
    let rule = c.args.rule in
    let type = ty_view c.args.ty.now in
    let room = c.args.room in
    let i = c.in_ok-constructed.identifier in
    let read = tagged_so c.args.tag (tag_of type) room i octets c.in_ok-constructed.constructed true (sym c.requires.tag) c.if-constructed.true c.in_ok-constructed.ensures.value in
    refused_for_good (tt, tt) (λ more h. c.in_default.ensures (cut_of_part rule type room i octets more c.requires.leaf read.tagged h).of.string)

pub returns-in-Cer-clause-refused : goal.returns-in-Cer-clause-refused
returns-in-Cer-clause-refused c =
    let octets = c.args.octets.now in
    let rule = c.args.rule in
    let type = ty_view c.args.ty.now in
    let room = c.args.room in
    let kind = c.in-Some.kind in
    let i = c.in_ok-constructed.identifier in
    let read = tagged_so c.args.tag (tag_of type) room i octets c.in_ok-constructed.constructed true (sym c.requires.tag) c.if-constructed.true c.in_ok-constructed.ensures.value in
    IfErr-map c.read_cut.result (RefusesStrictly (HasCut kind type room) (IsConstructedCut Cer c.args.tag room) octets) (RefusesPart rule type room octets) (λ refusal refused. refused_by refused (λ more h.
    let k = cut_of_part rule type room i octets more c.requires.leaf read.tagged h in
    let same : k.kind ≡ kind = k.of.kind_is ∙ sym c.in-Some.ensures.kind_is in
    subst (λ x. HasCut x type room (octets ++ more)) same k.cut)
    (λ k. begun_string rule type c.args.tag room octets c.in-Cer.is c.requires.tag c.in-Some.ensures.string k))
    c.read_cut.ensures.refused

pub returns-in-Der-clause-refused : goal.returns-in-Der-clause-refused
returns-in-Der-clause-refused c =
    let octets = c.args.octets.now in
    let rule = c.args.rule in
    let type = ty_view c.args.ty.now in
    let room = c.args.room in
    let i = c.in_ok-constructed.identifier in
    let read = tagged_so c.args.tag (tag_of type) room i octets c.in_ok-constructed.constructed true (sym c.requires.tag) c.if-constructed.true c.in_ok-constructed.ensures.value in
    refused_for_good (tt, tt) (λ more h.
    let told : Der ≡ Cer = sym c.in-Der.is ∙ (cut_of_part rule type room i octets more c.requires.leaf read.tagged h).by in
    absurd cc)

pub read_place-requires-clause-tagged : goal.read_place-requires-clause-tagged
read_place-requires-clause-tagged c =
    tagged_so c.args.tag (tag_of (ty_view c.args.ty.now)) c.args.room c.in_ok-constructed.identifier c.args.octets.now c.in_ok-constructed.constructed false (sym c.requires.tag) c.if-constructed.false c.in_ok-constructed.ensures.value

pub returns-in_err-start-clause-refused : goal.returns-in_err-start-clause-refused
returns-in_err-start-clause-refused c =
    let octets = c.args.octets.now in
    let rule = c.args.rule in
    let type = ty_view c.args.ty.now in
    let room = c.args.room in
    let i = c.in_ok-constructed.identifier in
    let read = tagged_so c.args.tag (tag_of type) room i octets c.in_ok-constructed.constructed false (sym c.requires.tag) c.if-constructed.false c.in_ok-constructed.ensures.value in
    refused_through c.from_residual-in_err-start.result c.from_residual-in_err-start.ensures.1
    (refused_by c.in_err-start.ensures.refused (λ more h. primitive_of_part rule type room i octets more c.requires.leaf read.tagged h) (λ k. begun_primitive rule type room i octets c.requires.leaf read.there read.tagged k))

pub returns-in_err-value-clause-refused : goal.returns-in_err-value-clause-refused
returns-in_err-value-clause-refused c =
    let octets = c.args.octets.now in
    let rule = c.args.rule in
    let type = ty_view c.args.ty.now in
    let room = c.args.room in
    let i = c.in_ok-constructed.identifier in
    let read = tagged_so c.args.tag (tag_of type) room i octets c.in_ok-constructed.constructed false (sym c.requires.tag) c.if-constructed.false c.in_ok-constructed.ensures.value in
    refused_through c.from_residual-in_err-value.result c.from_residual-in_err-value.ensures.1 (refused_contents c.in_err-value.ensures.numbers (λ final more h.
    let p = primitive_of_part rule type room i octets more c.requires.leaf read.tagged h in
    let held = held_of_primitive rule type room c.in_ok-start.start c.in_ok-start.stop octets more c.in_ok-start.ensures.place p in
    c.in_err-value.ensures.none final p.value held.0 held.1))

pub returns-clause-value : goal.returns-clause-value
returns-clause-value c =
    leaf_read c.args.rule (ty_view c.args.ty.now) c.args.room c.in_ok-start.start c.in_ok-start.stop c.args.octets.now c.in_ok-value.field-0 c.requires.leaf c.in_ok-start.ensures.place c.in_ok-start.ensures.whole c.in_ok-value.ensures.value.0 c.in_ok-value.ensures.value.1
