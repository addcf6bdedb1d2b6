use Rattle.std.proofs.Common.{◌≡◌, ℕ, ◌+◌, ◌-◌, ◌≤◌, List, [], ◌++◌, length, take, drop, true, Err, sym, ap, subst, arith, append-nil}
use Rattle.std.proofs.lemmas.List.{take_rest}
use Rattle.octets.specs.Front.{HasFront}
use Rattle.octets.proofs.ResultLemmas.{IfErr-from, Err-known}
use Rattle.types.specs.Leaf.{tag_of}
use Rattle.types.specs.Refusal.{IsFinal}
use Rattle.types.specs.View.{ty_view}
use Rattle.encoding_parts.specs.Completing.{Opens}
use Rattle.encoding_parts.specs.Head.{IsExtentWithin}
use Rattle.encoding_parts.specs.Parts.{IsPartWithin}
use Rattle.encoding_parts.proofs.ReadingLemmas.{begun_opened, extent_of_string}
use Rattle.encoding_parts.proofs.TypedLemmas.{string_front}
use Rattle.encoding_parts.proofs.WithinLemmas.{none_constructed, none_so_shallow}
use Rattle.encoding_parts.specs.Cut.{IsLengthCut}
use Rattle.encoding_parts.proofs.CutLemmas.{constructed_cut}
use Rattle.encoding_parts.proofs.leaf.begin_string.Goals as goal

pub returns-in_default-clause-never : goal.returns-in_default-clause-never
returns-in_default-clause-never c = λ final more f.
    none_constructed c.args.levels (ty_view c.args.node.now) c.args.end c.args.taken c.requires.leaf c.args.identifier c.args.octets.now more c.requires.tagged.there c.in_default.ensures c.requires.tagged.tagged f

pub returns-then-levels-eq0-clause-never : goal.returns-then-levels-eq0-clause-never
returns-then-levels-eq0-clause-never c = λ final more f.
    let shape = ty_view c.args.node.now in
    none_so_shallow c.args.levels c.in-Some.kind (tag_of shape) c.args.end c.args.taken c.args.identifier c.args.octets.now more c.if-levels-eq0.true c.requires.tagged.there c.requires.tagged.tagged
    (string_front c.args.levels c.in-Some.kind shape c.args.end c.args.taken (c.args.octets.now ++ more) c.in-Some.ensures f)

pub returns-in_err-size-clause-truncated : goal.returns-in_err-size-clause-truncated
returns-in_err-size-clause-truncated c = λ refused f.
    let shape = ty_view c.args.node.now in
    let kind = c.in-Some.kind in
    let levels = c.args.levels in
    let i = c.args.identifier in
    let octets = c.args.octets.now in
    let end = c.args.end in
    let taken = c.args.taken in
    let known = Err-known c.from_residual.result _ _ refused c.from_residual.ensures.1 in
    let none : IsExtentWithin true end (taken + i) (drop i octets) → ⊥ = subst (λ x. IsExtentWithin true end (taken + i) x → ⊥) (take_rest octets i) (c.in_err-size.ensures.truncated (ap Err (sym known))) in
    let front = string_front levels kind shape end taken (octets ++ []) c.in-Some.ensures (subst (HasFront (IsPartWithin levels shape end taken)) (sym (append-nil octets)) f) in
    none (subst (IsExtentWithin true end (taken + i)) (append-nil (drop i octets)) (extent_of_string levels kind (tag_of shape) end taken i octets [] c.requires.tagged.there c.requires.tagged.tagged front))

pub returns-in_err-size-clause-never : goal.returns-in_err-size-clause-never
returns-in_err-size-clause-never c =
    let shape = ty_view c.args.node.now in
    let kind = c.in-Some.kind in
    let levels = c.args.levels in
    let i = c.args.identifier in
    let octets = c.args.octets.now in
    let end = c.args.end in
    let taken = c.args.taken in
    IfErr-from c.from_residual.result _ (λ refusal. IsFinal refusal → (more : List ℕ) → HasFront (IsPartWithin levels shape end taken) (octets ++ more) → ⊥) c.from_residual.ensures.1
    (λ refusal same final more f.
    let none : IsExtentWithin true end (taken + i) (drop i octets ++ more) → ⊥ = subst (λ x. IsExtentWithin true end (taken + i) (x ++ more) → ⊥) (take_rest octets i) (c.in_err-size.ensures.never (subst IsFinal same final) more) in
    none (extent_of_string levels kind (tag_of shape) end taken i octets more c.requires.tagged.there c.requires.tagged.tagged (string_front levels kind shape end taken (octets ++ more) c.in-Some.ensures f)))

pub returns-clause-begun : goal.returns-clause-begun
returns-clause-begun c =
    let i = c.args.identifier in
    let octets = c.args.octets.now in
    let end = c.args.end in
    let taken = c.args.taken in
    let size = c.in_ok-size.size in
    let frame = c.in_ok-size.frame in
    let all : take (length octets - i) (drop i octets) ≡ drop i octets = take_rest octets i in
    let there : size ≤ length (drop i octets) = subst (λ x. size ≤ length x) all c.in_ok-size.ensures.value.0 in
    let form : Opens end (taken + i) frame (take size (drop i octets)) = subst (λ x. Opens end (taken + i) frame (take size x)) all c.in_ok-size.ensures.value.1 in
    begun_opened (ty_view c.args.node.now) c.in-Some.kind c.args.levels end taken i size frame octets c.in_ok-segments.segments c.in-Some.ensures (omega (arith, c.if-levels-eq0.false)) c.requires.within c.requires.tagged there form c.in_ok-segments.ensures.opened

pub returns-in_err-size-clause-cut : goal.returns-in_err-size-clause-cut
returns-in_err-size-clause-cut c = λ refused.
    let shape = ty_view c.args.node.now in
    let i = c.args.identifier in
    let octets = c.args.octets.now in
    let end = c.args.end in
    let taken = c.args.taken in
    let known = Err-known c.from_residual.result _ _ refused c.from_residual.ensures.1 in
    constructed_cut (tag_of shape) shape c.args.levels end taken i octets (omega (arith, c.if-levels-eq0.false)) (λ leaf. c.in-Some.ensures.string) c.requires.tagged
    (subst (IsLengthCut end (taken + i)) (take_rest octets i) (c.in_err-size.ensures.cut (ap Err (sym known))))
