use Rattle.std.proofs.Common.{inl, inr, ◌≡◌, ℕ, List, ◌+◌, ◌-◌, [], ◌++◌, length, take, drop, false, Err, sym, ap, subst, arith, append-nil}
use Rattle.std.proofs.lemmas.List.{take_rest, length-drop}
use Rattle.octets.specs.declared.tag.Tag.{Tag}
use Rattle.octets.specs.Identifier.{IsIdentifier}
use Rattle.types.specs.Refusal.{IsFinal}
use Rattle.encoding_parts.specs.Head.{IsReadDefinite, IsExtentWithin, IsPrimitiveWithin}
use Rattle.encoding_parts.proofs.HeadLemmas.{behind, behind_long, IsPrimitive-from_parts}
use Rattle.octets.proofs.ResultLemmas.{IfErr-from, Err-known}
use Rattle.encoding_parts.specs.Cut.{IsLengthCut}
use Rattle.encoding_parts.proofs.CutLemmas.{contents_cut}
use Rattle.encoding_parts.proofs.parts.read_contents_place.Goals as goal

pub returns-then-size-octets-clause-truncated : goal.returns-then-size-octets-clause-truncated
returns-then-size-octets-clause-truncated c = λ same tag id h.
    let i = c.args.identifier in
    let octets = c.args.octets.now in
    let all : take (length octets - i) (drop i octets) ≡ drop i octets = take_rest octets i in
    let first = rw c.in-Definite.is at c.in_ok-size.ensures.value in
    let read : IsReadDefinite c.args.end (c.args.taken + i) (drop i octets) c.in-Definite.size c.in-Definite.used = subst (λ x. IsReadDefinite c.args.end (c.args.taken + i) x c.in-Definite.size c.in-Definite.used) all first in
    let h' : IsPrimitiveWithin tag c.args.end c.args.taken (octets ++ []) = subst (IsPrimitiveWithin tag c.args.end c.args.taken) (sym (append-nil octets)) h in
    let long = behind_long tag c.args.end c.args.taken i c.in-Definite.used c.in-Definite.size octets [] c.requires.there id read.there read.sized h' in
    let whole : length (octets ++ []) ≡ length octets = ap length (append-nil octets) in
    absurd (omega (arith, long, whole, c.if-size-octets.true))

pub returns-else-size-octets-clause-value : goal.returns-else-size-octets-clause-value
returns-else-size-octets-clause-value c = λ tag id.
    let i = c.args.identifier in
    let octets = c.args.octets.now in
    let all : take (length octets - i) (drop i octets) ≡ drop i octets = take_rest octets i in
    let first = rw c.in-Definite.is at c.in_ok-size.ensures.value in
    let read : IsReadDefinite c.args.end (c.args.taken + i) (drop i octets) c.in-Definite.size c.in-Definite.used = subst (λ x. IsReadDefinite c.args.end (c.args.taken + i) x c.in-Definite.size c.in-Definite.used) all first in
    let left : length (drop i octets) ≡ length octets - i = length-drop i octets in
    IsPrimitive-from_parts tag i c.in-Definite.used c.in-Definite.size octets id read.sized (omega (arith, read.there, left, c.requires.there, c.if-size-octets.false))

pub returns-in_err-size-clause-truncated : goal.returns-in_err-size-clause-truncated
returns-in_err-size-clause-truncated c = λ refused tag id h.
    let i = c.args.identifier in
    let octets = c.args.octets.now in
    let all : take (length octets - i) (drop i octets) ≡ drop i octets = take_rest octets i in
    let known = Err-known c.from_residual.result _ _ refused c.from_residual.ensures.1 in
    let none : IsExtentWithin false c.args.end (c.args.taken + i) (drop i octets) → ⊥ = subst (λ x. IsExtentWithin false c.args.end (c.args.taken + i) x → ⊥) all (c.in_err-size.ensures.truncated (ap Err (sym known))) in
    let h' : IsPrimitiveWithin tag c.args.end c.args.taken (octets ++ []) = subst (IsPrimitiveWithin tag c.args.end c.args.taken) (sym (append-nil octets)) h in
    none (subst (IsExtentWithin false c.args.end (c.args.taken + i)) (append-nil (drop i octets)) (behind tag c.args.end c.args.taken i octets [] c.requires.there id h').extent)

pub returns-in_err-size-clause-never : goal.returns-in_err-size-clause-never
returns-in_err-size-clause-never c =
    let i = c.args.identifier in
    let octets = c.args.octets.now in
    let end = c.args.end in
    let taken = c.args.taken in
    let all : take (length octets - i) (drop i octets) ≡ drop i octets = take_rest octets i in
    IfErr-from c.from_residual.result _ (λ refusal. IsFinal refusal → (more : List ℕ) (tag : Tag) → IsIdentifier tag false (take i octets) → IsPrimitiveWithin tag end taken (octets ++ more) → ⊥) c.from_residual.ensures.1
    (λ refusal same final more tag id h.
    let none : IsExtentWithin false end (taken + i) (drop i octets ++ more) → ⊥ = subst (λ x. IsExtentWithin false end (taken + i) (x ++ more) → ⊥) all (c.in_err-size.ensures.never (subst IsFinal same final) more) in
    none (behind tag end taken i octets more c.requires.there id h).extent)

pub returns-then-size-octets-clause-cut : goal.returns-then-size-octets-clause-cut
returns-then-size-octets-clause-cut c = λ same.
    let i = c.args.identifier in
    let octets = c.args.octets.now in
    let n = c.in-Definite.size in
    let used = c.in-Definite.used in
    let all : take (length octets - i) (drop i octets) ≡ drop i octets = take_rest octets i in
    let first = rw c.in-Definite.is at c.in_ok-size.ensures.value in
    let read : IsReadDefinite c.args.end (c.args.taken + i) (drop i octets) n used = subst (λ x. IsReadDefinite c.args.end (c.args.taken + i) x n used) all first in
    inr (n, contents_cut c.args.end (c.args.taken + i) n used (drop i octets) read (omega (arith, length-drop i octets, c.if-size-octets.true, c.requires.there, read.there)))

pub returns-in_err-size-clause-cut : goal.returns-in_err-size-clause-cut
returns-in_err-size-clause-cut c = λ refused.
    let i = c.args.identifier in
    let octets = c.args.octets.now in
    let known = Err-known c.from_residual.result _ _ refused c.from_residual.ensures.1 in
    inl (subst (IsLengthCut c.args.end (c.args.taken + i)) (take_rest octets i) (c.in_err-size.ensures.cut (ap Err (sym known))))
