use Rattle.std.proofs.Common.{◌≡◌, ◌-◌, ◌++◌, length, take, drop, sym, subst}
use Rattle.std.proofs.lemmas.List.{take_rest}
use Rattle.octets.specs.declared.canonical.Canonical.TheVariants.{Cer}
use Rattle.octets.specs.Rule.{cer}
use Rattle.types.specs.Conforms.{Conforms}
use Rattle.types.specs.Leaf.{tag_of}
use Rattle.types.specs.View.{ty_view}
use Rattle.encoding_parts.specs.Joined.{string_of}
use Rattle.strict.specs.Head.{HasConstructed, IsOpened, AreFewer}
use Rattle.strict.specs.Leaf.{HoldsSegment, value_is}
use Rattle.strict.specs.Segments.{AreSegmentsKnown, IsLong}
use Rattle.strict.proofs.BarsLemmas.{refused_for_good, refused_contents, refused_by, refused_behind, refused_through}
use Rattle.strict.proofs.CutLemmas.{segments_inside, string_is, cut_read}
use Rattle.strict.proofs.LeafLemmas.{constructed_of_cut}
use Rattle.strict.proofs.EndingLemmas.{opened_cut}
use Rattle.strict.proofs.segments.read_cut.Goals as goal

pub returns-in_err-inside-clause-refused : goal.returns-in_err-inside-clause-refused
returns-in_err-inside-clause-refused c =
    let octets = c.args.octets.now in
    let kind = c.args.kind in
    let type = ty_view c.args.ty.now in
    let room = c.args.room in
    refused_through c.from_residual.result c.from_residual.ensures.1
    (refused_by c.in_err-inside.ensures.refused (λ more h. subst (λ t. HasConstructed cer t room (octets ++ more)) c.requires.tag (constructed_of_cut kind type room (octets ++ more) h)) (λ k. k))

pub returns-in_err-used-clause-refused : goal.returns-in_err-used-clause-refused
returns-in_err-used-clause-refused c =
    let octets = c.args.octets.now in
    let kind = c.args.kind in
    let type = ty_view c.args.ty.now in
    let room = c.args.room in
    let inside = c.in_ok-inside.inside in
    let start = inside.start in
    let opened : IsOpened cer (tag_of type) room octets inside = subst (λ t. IsOpened cer t room octets inside) (sym c.requires.tag) c.in_ok-inside.ensures.value in
    let form = c.in_ok-inside.ensures.form in
    refused_through c.from_residual-in_err-used.result c.from_residual-in_err-used.ensures.1
    (refused_behind start c.in_err-used.ensures.refused (λ more h. (h.encoding.string, segments_inside kind type room octets more inside opened form h))
    (λ k. opened_cut Cer c.args.tag room octets inside c.in_ok-inside.ensures.value (subst (λ d. AreFewer d inside.room (take (length octets - start) (drop start octets))) (sym form) k)))

pub returns-then-not-is_long-clause-refused : goal.returns-then-not-is_long-clause-refused
returns-then-not-is_long-clause-refused c = refused_for_good (tt, tt) (λ more h.
    let octets = c.args.octets.now in
    let kind = c.args.kind in
    let type = ty_view c.args.ty.now in
    let room = c.args.room in
    let inside = c.in_ok-inside.inside in
    let start = inside.start in
    let used = c.in_ok-used.used in
    let joined = c.read_segments.new.joined in
    let all : take (length octets - start) (drop start octets) ≡ drop start octets = take_rest octets start in
    let opened : IsOpened cer (tag_of type) room octets inside = subst (λ t. IsOpened cer t room octets inside) (sym c.requires.tag) c.in_ok-inside.ensures.value in
    let known = subst (λ x. AreSegmentsKnown kind inside.room x (string_of kind joined) used) all c.in_ok-used.ensures.value in
    let same = string_is kind type room octets more inside (string_of kind joined) used opened c.in_ok-inside.ensures.form known h in
    let long : IsLong kind joined = λ contents holds. h.encoding.cut.long contents (subst (λ s. HoldsSegment kind s contents) (sym same) holds) in
    c.is_long.ensures.short c.if-not-is_long.true long)

pub returns-in_err-value-clause-refused : goal.returns-in_err-value-clause-refused
returns-in_err-value-clause-refused c =
    let octets = c.args.octets.now in
    let kind = c.args.kind in
    let type = ty_view c.args.ty.now in
    let room = c.args.room in
    let inside = c.in_ok-inside.inside in
    let start = inside.start in
    let used = c.in_ok-used.used in
    let joined = c.read_segments.new.joined in
    let all : take (length octets - start) (drop start octets) ≡ drop start octets = take_rest octets start in
    let opened : IsOpened cer (tag_of type) room octets inside = subst (λ t. IsOpened cer t room octets inside) (sym c.requires.tag) c.in_ok-inside.ensures.value in
    let known = subst (λ x. AreSegmentsKnown kind inside.room x (string_of kind joined) used) all c.in_ok-used.ensures.value in
    refused_through c.from_residual-in_err-value.result c.from_residual-in_err-value.ensures.1
    (refused_contents c.in_err-value.ensures.numbers (λ final more h.
    let same = string_is kind type room octets more inside (string_of kind joined) used opened c.in_ok-inside.ensures.form known h in
    let conforms : Conforms type (value_is type kind (string_of kind joined)) = subst (λ s. Conforms type (value_is type kind s)) same (subst (Conforms type) h.encoding.is h.encoding.conforms) in
    c.in_err-value.ensures.none final conforms))

pub returns-clause-value : goal.returns-clause-value
returns-clause-value c =
    let octets = c.args.octets.now in
    let kind = c.args.kind in
    let type = ty_view c.args.ty.now in
    let room = c.args.room in
    let inside = c.in_ok-inside.inside in
    let start = inside.start in
    let used = c.in_ok-used.used in
    let joined = c.read_segments.new.joined in
    let all : take (length octets - start) (drop start octets) ≡ drop start octets = take_rest octets start in
    let opened : IsOpened cer (tag_of type) room octets inside = subst (λ t. IsOpened cer t room octets inside) (sym c.requires.tag) c.in_ok-inside.ensures.value in
    let known = subst (λ x. AreSegmentsKnown kind inside.room x (string_of kind joined) used) all c.in_ok-used.ensures.value in
    cut_read kind type room octets inside joined c.in_ok-value.field-0 used c.close.result c.requires.string opened c.in_ok-inside.ensures.form known (c.is_long.ensures.long c.if-not-is_long.false) c.in_ok-value.ensures.value.0 c.in_ok-value.ensures.value.1 c.close.ensures
