use Rattle.std.proofs.Common.{arith, Err, ◌≡◌, ℕ, ◌-◌, List, [], ◌++◌, refl, false, true, length, take, drop, sym, ◌∙◌, ap, subst, append-nil}
use Rattle.std.specs.Prelude.{slice_range}
use Rattle.std.proofs.lemmas.List.{take_rest}
use Rattle.octets.specs.Front.{HasFront}
use Rattle.octets.specs.Rule.{ber}
use Rattle.octets.proofs.FrontLemmas.{front_of_more}
use Rattle.octets.proofs.ResultLemmas.{IfErr-from}
use Rattle.types.specs.Refusal.{IsFinal}
use Rattle.types.specs.Leaf.{tag_of}
use Rattle.types.specs.View.{ty_view, value_view}
use Rattle.encoding_parts.specs.Head.{IsPrimitiveWithin}
use Rattle.encoding_parts.specs.Parts.{IsPartWithin}
use Rattle.encoding_parts.proofs.CutLemmas.{primitive_cut, sized_window}
use Rattle.encoding_parts.proofs.LeafLemmas.{conforms_of_encoding}
use Rattle.encoding_parts.proofs.WithinLemmas.{usable_tag, contents_of_within, part_of_contents, length_of_within, primitive_of_within, can_of_within}
use Rattle.encoding_parts.proofs.leaf.read_leaf.Goals as goal

-- as many as fit of the octets behind the identifier octets
window_is : (i room : ℕ) (octets more : List ℕ) → take room (take (length octets - i) (drop i octets)) ++ (drop room (drop i octets) ++ more) ≡ drop i octets ++ more
window_is i room octets more =
    ap (λ x. take room x ++ (drop room (drop i octets) ++ more)) (take_rest octets i) ∙ sym (front_of_more room (drop i octets) more)

pub returns-in_err-check_length-in-Err-clause-never : goal.returns-in_err-check_length-in-Err-clause-never
returns-in_err-check_length-in-Err-clause-never c =
    let shape = ty_view c.args.node.now in
    let octets = c.args.octets.now in
    let i = c.args.identifier in
    let end = c.args.end in
    let taken = c.args.taken in
    let room = end - taken - i in
    IfErr-from c.from_residual.result _ (λ refusal. IsFinal refusal → (more : List ℕ) (levels : ℕ) → HasFront (IsPartWithin levels shape end taken) (octets ++ more) → ⊥) c.from_residual.ensures.1
    (λ refusal same final more levels f.
    let at = length_of_within levels shape end taken c.requires.leaf i octets more c.requires.tagged.there c.requires.tagged.tagged f in
    let whole = ap (λ x. x ++ (drop room (drop i octets) ++ more)) c.front.ensures ∙ window_is i room octets more in
    c.in_err-check_length-in-Err.ensures.never refl (drop room (drop i octets) ++ more) at.size at.rest at.contents at.sized (whole ∙ at.parts) at.can)

pub returns-in-Err-clause-truncated : goal.returns-in-Err-clause-truncated
returns-in-Err-clause-truncated c = λ refused levels f.
    let shape = ty_view c.args.node.now in
    let octets = c.args.octets.now in
    let end = c.args.end in
    let taken = c.args.taken in
    let whole : octets ++ [] ≡ octets = append-nil octets in
    let within = (primitive_of_within levels shape end taken c.requires.leaf c.args.identifier octets [] c.requires.tagged.there c.requires.tagged.tagged (subst (HasFront (IsPartWithin levels shape end taken)) (sym whole) f)).within in
    c.in-Err.ensures.truncated (ap Err (cc refused)) (tag_of shape) c.requires.tagged.tagged (subst (IsPrimitiveWithin (tag_of shape) end taken) whole within)

pub returns-in-Err-clause-never : goal.returns-in-Err-clause-never
returns-in-Err-clause-never c = λ final more levels f.
    let shape = ty_view c.args.node.now in
    c.in-Err.ensures.never final more (tag_of shape) c.requires.tagged.tagged
    (primitive_of_within levels shape c.args.end c.args.taken c.requires.leaf c.args.identifier c.args.octets.now more c.requires.tagged.there c.requires.tagged.tagged f).within

pub returns-in-Err-clause-cut : goal.returns-in-Err-clause-cut
returns-in-Err-clause-cut c = λ refused levels.
    let shape = ty_view c.args.node.now in
    let octets = c.args.octets.now in
    let i = c.args.identifier in
    let end = c.args.end in
    let taken = c.args.taken in
    let room = end - taken - i in
    primitive_cut (tag_of shape) shape levels end taken i octets c.requires.within c.requires.leaf c.requires.tagged
    (λ size rest n some within sized fits joined. c.in_ok-check_length-in-Err.ensures.can refl size (take (room - length size) rest) n within sized (c.front.ensures ∙ sized_window room i octets size rest (omega (arith, fits)) joined))
    (c.in-Err.ensures.cut (ap Err (cc refused)))

pub returns-then-eq-clause-never : goal.returns-then-eq-clause-never
returns-then-eq-clause-never c = λ final more levels f.
    let shape = ty_view c.args.node.now in
    c.in-Err.ensures.never final more (tag_of shape) c.requires.tagged.tagged
    (primitive_of_within levels shape c.args.end c.args.taken c.requires.leaf c.args.identifier c.args.octets.now more c.requires.tagged.there c.requires.tagged.tagged f).within

pub returns-then-not-can_have_length-clause-never : goal.returns-then-not-can_have_length-clause-never
returns-then-not-can_have_length-clause-never c = λ final more levels f.
    let shape = ty_view c.args.node.now in
    let octets = c.args.octets.now in
    let start = c.in-Ok.place.0 in
    let stop = c.in-Ok.place.1 in
    let p = c.in-Ok.ensures.value (tag_of shape) c.requires.tagged.tagged in
    let can = can_of_within levels shape c.args.end c.args.taken c.requires.leaf c.args.identifier start stop octets more c.requires.tagged.there c.requires.tagged.tagged c.in-Ok.ensures.bounds.0 c.in-Ok.ensures.bounds.1 p f in
    let told : false ≡ true = sym c.if-not-can_have_length.true ∙ c.can_have_length.ensures.1 can in
    cc

pub returns-in_err-value-clause-never : goal.returns-in_err-value-clause-never
returns-in_err-value-clause-never c =
    let shape = ty_view c.args.node.now in
    let octets = c.args.octets.now in
    let end = c.args.end in
    let taken = c.args.taken in
    let start = c.in-Ok.place.0 in
    let stop = c.in-Ok.place.1 in
    IfErr-from c.from_residual-in_err-value.result _ (λ refusal. IsFinal refusal → (more : List ℕ) (levels : ℕ) → HasFront (IsPartWithin levels shape end taken) (octets ++ more) → ⊥) c.from_residual-in_err-value.ensures.1
    (λ refusal same final more levels f.
    let holds = contents_of_within levels shape end taken c.requires.leaf c.args.identifier stop (slice_range octets start stop) octets more c.requires.tagged.there c.requires.tagged.tagged
    (c.in-Ok.ensures.value (tag_of shape) c.requires.tagged.tagged) f in
    c.in_err-value.ensures.none (subst IsFinal same final) f.2.part.value (conforms_of_encoding ber shape f.2.part.value (take f.0 (octets ++ more)) c.requires.leaf f.2.part.encoding) holds)

pub returns-clause-value : goal.returns-clause-value
returns-clause-value c = λ levels.
    let shape = ty_view c.args.node.now in
    let octets = c.args.octets.now in
    let start = c.in-Ok.place.0 in
    let stop = c.in-Ok.place.1 in
    let contents = slice_range octets start stop in
    part_of_contents levels shape (value_view c.in_ok-value.value) contents (take stop octets) (usable_tag shape c.requires.leaf c.requires.good) c.in_ok-value.ensures.value.0 c.in_ok-value.ensures.value.1
    (c.in-Ok.ensures.value (tag_of shape) c.requires.tagged.tagged)
