use Rattle.std.proofs.Common.{◌≡◌, ◌≤◌, take, not}
use Rattle.std.specs.Prelude.{count_by, ◌==◌}
use Rattle.std.specs.List.{suffix_len}
use Rattle.lexis.proofs.fault.fault_at.Given as goal

abbrev pub invariant-loop-octet : goal.invariant-loop-octet
invariant-loop-octet l = record {
  lines_within : l.lines ≤ l.octet-index;
  columns_within : l.columns ≤ l.octet-index;
  lines : l.lines ≡ count_by (λ octet. octet == 10) (take l.octet-index l.octet-items);
  columns : l.columns ≡ suffix_len (λ octet. not (octet == 10)) (take l.octet-index l.octet-items);
}
