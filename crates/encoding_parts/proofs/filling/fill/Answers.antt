use Rattle.std.proofs.Common.{◌<◌, ℕ, All, ◌∙◌, ap, arith}
use Rattle.std.proofs.lemmas.List.Elements.{All-from_get_or}
use Rattle.types.specs.Shape.{StringType, Shape}
use Rattle.types.specs.View.{ty_view}
use Rattle.types.proofs.ViewLemmas.{ty-Octets, ty-Text, ty-Time}
use Rattle.encoding_parts.specs.Contents.{octets_view, text_view}
use Rattle.encoding_parts.proofs.FillLemmas.{filled_as, octets_held, text_held, time_held}
use Rattle.encoding_parts.proofs.filling.fill.Goals as goal

pub returns-in-Octets : goal.returns-in-Octets
returns-in-Octets c = λ filled.
    let contents = c.args.contents.now in
    let tag = c.in-Octets.field-0 in
    let fits : All (λ octet. octet < 256) contents = All-from_get_or {X = ℕ} (λ octet. octet < 256) contents 0 (λ i below. omega (arith, c.type_inv.contents i)) in
    filled_as c.args.ty.now (Shape.string tag StringType.octet_string) (octets_view contents) contents c.fill_octets.new.value (ap ty_view c.in-Octets.is ∙ ty-Octets tag) (octets_held tag contents fits) (c.fill_octets.ensures filled)

pub returns-then-allowed : goal.returns-then-allowed
returns-then-allowed c = λ filled.
    let contents = c.args.contents.now in
    let tag = c.in-Text.field-0 in
    let kind = c.in-Text.kind in
    let fits : All (λ octet. octet < 256) contents = All-from_get_or {X = ℕ} (λ octet. octet < 256) contents 0 (λ i below. omega (arith, c.type_inv.contents i)) in
    let held = text_held tag kind contents fits (c.allowed.ensures.0 c.if-allowed.true) in
    filled_as c.args.ty.now (Shape.string tag (StringType.text kind)) (text_view contents) contents c.fill_text.new.value (ap ty_view c.in-Text.is ∙ ty-Text tag kind) held (c.fill_text.ensures filled)

pub returns-then-is_time : goal.returns-then-is_time
returns-then-is_time c = λ filled.
    let contents = c.args.contents.now in
    let tag = c.in-Time.field-0 in
    let kind = c.in-Time.kind in
    let fits : All (λ octet. octet < 256) contents = All-from_get_or {X = ℕ} (λ octet. octet < 256) contents 0 (λ i below. omega (arith, c.type_inv.contents i)) in
    let held = time_held tag kind contents fits (c.is_time.ensures.0 c.if-is_time.true) in
    filled_as c.args.ty.now (Shape.string tag (StringType.time kind)) (text_view contents) contents c.fill_text-then-is_time.new.value (ap ty_view c.in-Time.is ∙ ty-Time tag kind) held (c.fill_text-then-is_time.ensures filled)
