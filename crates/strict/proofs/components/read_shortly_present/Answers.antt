use Rattle.std.proofs.Common.{sym, subst}
use Rattle.octets.specs.Rule.{rule_of}
use Rattle.types.specs.Conforms.{DiffersFromDefault}
use Rattle.types.specs.View.{ty_view, value_view}
use Rattle.strict.specs.Reading.{IsRead}
use Rattle.strict.proofs.FieldLemmas.{field_type, field_requirement}
use Rattle.strict.proofs.FillLemmas.{short_read}
use Rattle.strict.proofs.components.read_shortly_present.Goals as goal

pub returns-then-not-holds_default : goal.returns-then-not-holds_default
returns-then-not-holds_default c = λ rule.
    let octets = c.args.octets.now in
    let f = c.args.field.now in
    let v = c.fill_canonical.new.value in
    let stop = c.in_ok-used.used in
    let read = short_read rule (ty_view f.ty) c.in_ok-tag.tag c.args.room octets v stop c.in_ok-tag.ensures.leaf c.in_ok-tag.ensures.tag c.in_ok-used.ensures (c.fill_canonical.ensures c.if-fill_canonical.true) in (
      subst (λ t. IsRead (rule_of rule) t c.args.room octets v stop) (sym (field_type f)) read,
      subst (λ r. DiffersFromDefault r (value_view v)) (sym (field_requirement f)) (c.holds_default.ensures c.if-not-holds_default.true),
    )
