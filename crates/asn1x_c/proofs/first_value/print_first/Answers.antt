use Rattle.std.proofs.Common.{Err, ap, subst, sym}
use Rattle.octets.proofs.ResultLemmas.{IfErr-from}
use Rattle.types.specs.View.{ty_view, value_view}
use Rattle.types.proofs.EncodedLemmas.{encoded_conforms}
use Rattle.texts.specs.Shown.{IsShown}
use Rattle.engine.specs.Rule.{rule_of}
use Rattle.engine.specs.Stream.{IsLine}
use Rattle.asn1x_c.specs.One.{RefusesFirst}
use Rattle.asn1x_c.proofs.FirstLemmas.{not_read}
use Rattle.asn1x_c.proofs.first_value.print_first.Goals as goal

pub returns-in_err-value-clause-refused : goal.returns-in_err-value-clause-refused
returns-in_err-value-clause-refused c =
    let rule = rule_of c.args.from in
    let shape = ty_view c.args.ty.now in
    let octets = c.args.octets.now in
    IfErr-from c.from_residual.result _ (RefusesFirst (IsLine (IsShown shape)) rule shape octets) c.from_residual.ensures.1
    (λ refusal same. subst (RefusesFirst (IsLine (IsShown shape)) rule shape octets) (sym same) (not_read (IsLine (IsShown shape)) rule shape octets c.in_err-value.field-0.0
    (record {
      truncated = λ is. c.in_err-value.ensures.truncated (ap Err is);
      begun = λ is. c.in_err-value.ensures.begun (ap Err is);
      never = c.in_err-value.ensures.never;
    }) c.in_err-value.ensures.numbers))

pub line_of-requires : goal.line_of-requires
line_of-requires c =
    encoded_conforms (rule_of c.args.from) (ty_view c.args.ty.now) (value_view c.in_ok-value.value) _ c.in_ok-value.ensures.value.1.encoding
