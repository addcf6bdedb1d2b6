use Rattle.std.proofs.Common.{OnOk, sym, subst}
use Rattle.octets.specs.declared.canonical.Canonical.{Canonical}
use Rattle.octets.specs.Front.{Appends}
use Rattle.types.specs.Encoding.{IsAccepted}
use Rattle.types.specs.View.{ty_view, value_view}
use Rattle.engine.specs.Rule.{canonical_rule_of}
use Rattle.asn1x_c.proofs.first_value.put_by.Goals as goal

pub returns-in-Cer-clause-appended : goal.returns-in-Cer-clause-appended
returns-in-Cer-clause-appended c =
    subst (λ (rule : Canonical). OnOk c.put.result (Appends (IsAccepted (canonical_rule_of rule) (ty_view c.args.ty.now) (value_view c.args.value.now)) c.args.out.now.items c.put.new.out.items)) (sym c.in-Cer.is) c.put.ensures.appended

pub returns-in-Der-clause-appended : goal.returns-in-Der-clause-appended
returns-in-Der-clause-appended c =
    subst (λ (rule : Canonical). OnOk c.put-in-Der.result (Appends (IsAccepted (canonical_rule_of rule) (ty_view c.args.ty.now) (value_view c.args.value.now)) c.args.out.now.items c.put-in-Der.new.out.items)) (sym c.in-Der.is) c.put-in-Der.ensures.appended
