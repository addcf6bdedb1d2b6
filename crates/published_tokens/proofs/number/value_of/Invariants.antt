use Rattle.std.proofs.Common.{◌≡◌, ◌^◌, ◌≤◌, take}
use Rattle.std.specs.Str.Parse.{digits_value}
use Rattle.published_tokens.proofs.number.value_of.Given as goal

abbrev pub invariant-loop-octet : goal.invariant-loop-octet
invariant-loop-octet l = record {
  value : l.value ≡ digits_value 10 (take l.octet-index l.digits);
  limit : l.value ≤ 2 ^ 127;
}
