use denote.Text.{Utf8}
use denote.Shadow.{shadow}
use Rattle.view_trials.proofs.runs.check_runs.Given as goal

abbrev pub invariant-loop-row : goal.invariant-loop-row
invariant-loop-row l =
    (goal.iterator-loop-row).can_next l.row-iterator ×
    (goal.iterator-loop-row).is_finite l.row-iterator ×
    shadow (Utf8 l.«module»)
