use Rattle.std.proofs.Common.{◌≡◌, OnOk, Ok, Err, true, is_ok, sym, subst, ap, arith, length, length-append}
use Rattle.std.specs.declared.result.Result.{Result}
use Rattle.octets.specs.declared.canonical.Canonical.{Canonical}
use Rattle.octets.specs.Front.{Appends}
use Rattle.octets.specs.Rule.{rule_of}
use Rattle.types.specs.declared.ty.Ty.{Ty}
use Rattle.types.specs.Encoding.{IsAccepted, IsEncoding}
use Rattle.types.specs.View.{ty_view, value_view}
use Rattle.canon.specs.Size.{HasSize}
use Rattle.canon.proofs.AcceptedLemmas.{accepted}
use Rattle.canon.proofs.canon.Canon.put.Goals as goal

-- what was appended where a call was not refused
appended_where_ok : {E : Type 0} (r : Result (Unit {0}) E) (P : Type 0) → is_ok r ≡ true → OnOk r P → P
appended_where_ok (Ok x) P here h = h
appended_where_ok (Err e) P here h = cc

pub returns-then-len-before-le-MAX_ENCODING-clause-appended : goal.returns-then-len-before-le-MAX_ENCODING-clause-appended
returns-then-len-before-le-MAX_ENCODING-clause-appended g c =
    let rule = c.RULE-rule.result in
    let shape = ty_view c.args.ty.now in
    let v = value_view c.args.value.now in
    let old = c.args.out.now.items in
    let new = c.put_value-put.new.out.items in
    let h = appended_where_ok c.put_value-put.result (Appends (IsEncoding (rule_of rule) (ty_view c.as_type-shape.result.now) v) old new) (sym c.if-is_ok.ensures.value) c.put_value-put.ensures.appended in
    let e = subst (λ (t : Ty). IsEncoding (rule_of rule) (ty_view t) v h.0) c.as_type-shape.ensures.value h.2 in
    let stands = accepted rule shape v h.0 c.as_type-shape.ensures.well_formed e (omega (arith, c.if-len-before-le-MAX_ENCODING.true, c.len.ensures, c.len-before.ensures, ap length h.1, length-append old h.0)) in
    subst (λ (r : Canonical). Appends (IsAccepted (rule_of r) shape v) old new) c.RULE-rule.ensures (h.0, h.1, stands)

pub returns-then-len-before-le-MAX_ENCODING-clause-too_long : goal.returns-then-len-before-le-MAX_ENCODING-clause-too_long
returns-then-len-before-le-MAX_ENCODING-clause-too_long g c =
    let accepts = returns-then-len-before-le-MAX_ENCODING-clause-appended g c in (
      λ same. cc,
      λ none. absurd (none accepts.0 accepts.2),
    )

pub returns-clause-too_long : goal.returns-clause-too_long
returns-clause-too_long g c =
    let rule = c.RULE-rule.result in
    let shape = ty_view c.args.ty.now in
    let v = value_view c.args.value.now in
    let sized = subst (λ (t : Ty). HasSize (IsEncoding (rule_of rule) (ty_view t) v) c.size_of.result) c.as_type-shape.ensures.value c.size_of.ensures.size in (
      λ same. cc,
      λ none.
          let some = sized.there (omega (arith, c.if-size_of-gt-MAX_ENCODING.false)) in
          let stands = accepted rule shape v some.0 c.as_type-shape.ensures.well_formed some.1 (omega (arith, sized.each some.0 some.1, c.if-size_of-gt-MAX_ENCODING.false)) in
          absurd (none some.0 (subst (λ (r : Canonical). IsAccepted (rule_of r) shape v some.0) c.RULE-rule.ensures stands)),
    )
