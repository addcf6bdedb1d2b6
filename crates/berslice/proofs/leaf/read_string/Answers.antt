use Rattle.std.proofs.Common.{◌∙◌, true, length, take, sym, subst, arith}
use Rattle.octets.specs.declared.tag.Tag.{Tag}
use Rattle.octets.specs.Identifier.{IsIdentifier}
use Rattle.types.specs.View.{ty_view, value_view}
use Rattle.berslice.proofs.LeafLemmas.{front_read, ok_held, string_read}
use Rattle.berslice.proofs.leaf.read_string.Goals as goal

pub returns : goal.returns
returns c =
    let levels = c.args.levels in
    let type = ty_view c.args.ty.now in
    let n = c.min.result in
    let front = take n c.args.octets.now in
    let i = c.in_ok-identifier.identifier in
    let begun = ok_held c.begin_string.result _ (c.in_ok-kind.kind, c.in_ok-kind.string, c.in_ok-kind.start) c.begin_string.ensures.begun (sym c.ok.ensures.value ∙ c.in_ok-kind.was) in
    let held = ok_held c.into_value.result _ c.in_ok-value.field-0 c.into_value.ensures.value (sym c.ok-2.ensures.value ∙ c.in_ok-value.was) in
    let taken = c.in_ok-used.ensures in
    let id = subst (λ (tag : Tag). IsIdentifier tag true (take i front)) (sym c.requires.tag) c.in_ok-identifier.ensures.1 in
    front_read levels type c.args.octets.now c.in_ok-value.field-0 n c.in_ok-used.used (omega (arith, c.min.ensures)) (
      taken.there,
      string_read levels type c.in_ok-kind.kind (length front) i c.in_ok-kind.start c.in_ok-used.used front c.in_ok-kind.string c.pass_segments.new.string (value_view c.in_ok-value.field-0) c.requires.leaf c.requires.good id begun
          (taken.passed levels (length front) i begun.passed) taken.sound taken.closed held.0 held.1,
    )
