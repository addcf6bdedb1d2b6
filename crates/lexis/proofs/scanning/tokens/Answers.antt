use Rattle.std.proofs.Common.{List, sym, subst, arith}
use Rattle.lexis.specs.declared.token.Token.{Token}
use Rattle.lexis.specs.Fronts.{AnswersNext, IsNext, IsLast}
use Rattle.lexis.proofs.ScanLemmas.{IsScanned, scan_more, scan_end, scan_end_only, scan_refused, next_within, next_after}
use Rattle.lexis.proofs.EdgeLemmas.{are_spans}
use Rattle.lexis.proofs.scanning.tokens.Goals as goal

pub next-smaller : goal.next-smaller
next-smaller c =
    let x = c.args.text.now in
    let next : IsNext x c.next.at c.in-Ok-Some.token = subst (AnswersNext x c.next.at) c.in-Ok-Some.field-0-is c.in-Ok-Some.ensures.found in
    let after = next_after x c.next.at c.in-Ok-Some.token next.stands in
    let within = next_within x c.next.at c.in-Ok-Some.token next.stands in
    omega arith

pub next-preserved : goal.next-preserved
next-preserved c =
    let x = c.args.text.now in
    let next : IsNext x c.next.at c.in-Ok-Some.token = subst (AnswersNext x c.next.at) c.in-Ok-Some.field-0-is c.in-Ok-Some.ensures.found in
    record {
      within = next_within x c.next.at c.in-Ok-Some.token next.stands;
      scanned = subst (λ (front : List Token). IsScanned x front c.in-Ok-Some.token.end) (sym c.in_ok-push-in-Ok-Some.ensures.items) (scan_more x c.next.found.items c.next.at c.in-Ok-Some.token next c.next.invariant.scanned);
    }

pub returns-in-Ok-None-clause-lexed : goal.returns-in-Ok-None-clause-lexed
returns-in-Ok-None-clause-lexed c =
    let x = c.args.text.now in
    let end : IsLast x c.next.at = subst (AnswersNext x c.next.at) c.in-Ok-None.field-0-is c.in-Ok-None.ensures.found in
    scan_end x c.next.found.items c.next.at c.if-text-gt-MAX_TEXT.false end c.next.invariant.scanned

pub returns-in-Ok-None-clause-only : goal.returns-in-Ok-None-clause-only
returns-in-Ok-None-clause-only c =
    let x = c.args.text.now in
    let end : IsLast x c.next.at = subst (AnswersNext x c.next.at) c.in-Ok-None.field-0-is c.in-Ok-None.ensures.found in
    scan_end_only x c.next.found.items c.next.at end c.next.invariant.scanned

pub returns-in-Ok-None-clause-spans : goal.returns-in-Ok-None-clause-spans
returns-in-Ok-None-clause-spans c =
    let x = c.args.text.now in
    let end : IsLast x c.next.at = subst (AnswersNext x c.next.at) c.in-Ok-None.field-0-is c.in-Ok-None.ensures.found in
    are_spans x 0 c.next.found.items c.utf8.text ((scan_end x c.next.found.items c.next.at c.if-text-gt-MAX_TEXT.false end c.next.invariant.scanned).in_turn)

pub returns-in-Err-clause-refused : goal.returns-in-Err-clause-refused
returns-in-Err-clause-refused c = λ _. scan_refused c.args.text.now c.next.found.items c.next.at c.in-Err.ensures.refused c.next.invariant.scanned
