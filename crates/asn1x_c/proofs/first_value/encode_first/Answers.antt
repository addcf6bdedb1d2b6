use Rattle.std.proofs.Common.{Err, ap, subst, sym}
use Rattle.octets.proofs.ResultLemmas.{IfErr-from}
use Rattle.types.specs.Encoding.{IsAccepted}
use Rattle.types.specs.View.{ty_view, value_view}
use Rattle.types.proofs.EncodedLemmas.{encoded_conforms}
use Rattle.engine.specs.Rule.{rule_of, canonical_rule_of}
use Rattle.asn1x_c.specs.One.{RefusesFirst}
use Rattle.asn1x_c.proofs.FirstLemmas.{not_read, not_written}
use Rattle.asn1x_c.proofs.first_value.encode_first.Goals as goal

pub returns-in_err-value-clause-refused : goal.returns-in_err-value-clause-refused
returns-in_err-value-clause-refused c =
    let rule = rule_of c.args.from in
    let shape = ty_view c.args.ty.now in
    let octets = c.args.octets.now in
    let Stands = IsAccepted (canonical_rule_of c.args.to) shape in
    IfErr-from c.from_residual.result _ (RefusesFirst Stands rule shape octets) c.from_residual.ensures.1
    (λ refusal same. subst (RefusesFirst Stands rule shape octets) (sym same) (not_read Stands rule shape octets c.in_err-value.field-0.0
    (record {
      truncated = λ is. c.in_err-value.ensures.truncated (ap Err is);
      begun = λ is. c.in_err-value.ensures.begun (ap Err is);
      never = c.in_err-value.ensures.never;
    }) c.in_err-value.ensures.numbers))

pub put_by-requires : goal.put_by-requires
put_by-requires c =
    encoded_conforms (rule_of c.args.from) (ty_view c.args.ty.now) (value_view c.in_ok-value.value) _ c.in_ok-value.ensures.value.1.encoding

pub returns-in_err-put_by-clause-refused : goal.returns-in_err-put_by-clause-refused
returns-in_err-put_by-clause-refused c =
    let rule = rule_of c.args.from in
    let shape = ty_view c.args.ty.now in
    let octets = c.args.octets.now in
    let Stands = IsAccepted (canonical_rule_of c.args.to) shape in
    IfErr-from c.from_residual-in_err-put_by.result _ (RefusesFirst Stands rule shape octets) c.from_residual-in_err-put_by.ensures.1
    (λ refusal same. subst (RefusesFirst Stands rule shape octets) (sym same) (not_written Stands rule shape octets c.in_err-put_by.field-0.0 c.in_err-put_by.ensures.numbers
    (λ is. (c.in_ok-value.used, c.in_ok-value.ensures.value.0, (value_view c.in_ok-value.value, c.in_ok-value.ensures.value.1, c.in_err-put_by.ensures.too_long (ap Err is))))))
