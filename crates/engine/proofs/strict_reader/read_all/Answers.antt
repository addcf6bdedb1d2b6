use Rattle.std.proofs.Common.{Err, ap, inl, refl}
use Rattle.types.specs.View.{ty_view}
use Rattle.engine.specs.Rule.{canonical_rule_of}
use Rattle.octets.proofs.RuleLemmas.{rule_is_canonical}
use Rattle.engine.proofs.StrictReaderLemmas.{whole_in_slot, none_read}
use Rattle.engine.proofs.strict_reader.read_all.Goals as goal

pub returns-in-Ok : goal.returns-in-Ok
returns-in-Ok c = record {
  accepted = whole_in_slot (canonical_rule_of c.args.rule) (ty_view c.args.ty.now) c.read_into.new.slot _ c.args.octets.now c.in-Ok.ensures.well_formed (rule_is_canonical c.args.rule) c.requires c.in-Ok.ensures.value.1;
  never = λ is. cc is;
  numbers = tt;
}

pub returns-in_default : goal.returns-in_default
returns-in_default c = record {
  accepted = tt;
  never = λ _. none_read (canonical_rule_of c.args.rule) (ty_view c.args.ty.now) c.args.octets.now c.in-Err.refusal c.in-Err.ensures.numbers (λ is. c.in-Err.ensures.truncated (ap Err is)) c.in-Err.ensures.never c.in_default.not-NoMemory;
  numbers = inl refl;
}
