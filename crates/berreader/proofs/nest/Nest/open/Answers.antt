use Rattle.std.proofs.Common.{◌≡◌, ◌++◌, ◌+◌, ◌-◌, ◌∷◌, ◌≤◌, ℕ, List, [], true, false, Err, length, take, drop, refl, sym, ap, ◌∙◌, subst, arith, append-nil}
use Rattle.std.proofs.lemmas.List.{take_rest}
use Rattle.types.specs.declared.refusal.Refusal.TheVariants.{Form, TooDeep}
use Rattle.types.specs.View.{ty_view}
use Rattle.berreader.specs.declared.nest.Nest.{Nest}
use Rattle.encoding_parts.specs.Completing.{Opens}
use Rattle.encoding_parts.specs.Head.{IsExtentWithin}
use Rattle.encoding_parts.specs.HeldParts.{parts_view}
use Rattle.berreader.specs.Nest.{CanFinish}
use Rattle.berreader.specs.Stack.{Layer, layers_of}
use Rattle.berreader.proofs.NestLemmas.{form_next, extent_next, own_tag}
use Rattle.berreader.proofs.NestStepLemmas.{IsOpenedBy, opens_next, node_is_node, taken_opening, sound_opening}
use Rattle.encoding_parts.specs.Cut.{IsLengthCut}
use Rattle.encoding_parts.proofs.RefusesLemmas.{passed_on}
use Rattle.berreader.specs.Cut.{IsNestCut}
use Rattle.berreader.proofs.CutLemmas.{opening_cut}
use Rattle.berreader.proofs.RefusedLemmas.{never_can}
use Rattle.berreader.proofs.nest.Nest.open.Goals as goal

pub returns-then-not-next-clause-refused : goal.returns-then-not-next-clause-refused
returns-then-not-next-clause-refused c =
    let nest = c.args.self.now in
    let next = c.args.next in
    let here = c.requires.next in
    let octets = c.args.octets.now in
    never_can Form (CanFinish nest) (IsNestCut nest) octets tt tt (λ more h.
    let o = opens_next nest octets more next here.sound (here.no_end more) here.read c.requires.parts h in
    let same : next.constructed ≡ true = form_next (layers_of nest.layers) next.tag nest.taken next.identifier next.constructed octets more here.read.read o in
    let both : false ≡ true = sym c.if-not-next.true ∙ same in cc)

pub returns-then-depth-ge-MAX_NESTED-clause-refused : goal.returns-then-depth-ge-MAX_NESTED-clause-refused
returns-then-depth-ge-MAX_NESTED-clause-refused c =
    let nest = c.args.self.now in
    let here = c.requires.next in
    let octets = c.args.octets.now in
    never_can TooDeep (CanFinish nest) (IsNestCut nest) octets tt tt (λ more h.
    let o = opens_next nest octets more c.args.next here.sound (here.no_end more) here.read c.requires.parts h in
    absurd (omega (arith, o.deep, c.depth.ensures, c.if-depth-ge-MAX_NESTED.true)))

pub returns-in_err-size-clause-refused : goal.returns-in_err-size-clause-refused
returns-in_err-size-clause-refused c =
    let nest = c.args.self.now in
    let next = c.args.next in
    let here = c.requires.next in
    let octets = c.args.octets.now in
    let i = next.identifier in
    let end = c.end.result in
    let place = nest.taken + i in
    let said = c.in_err-size.ensures in
    let all : take (length octets - i) (drop i octets) ≡ drop i octets = take_rest octets i in
    let extent : (more : List ℕ) → CanFinish nest (octets ++ more) → IsExtentWithin true end place (drop i octets ++ more) = λ more h.
    let o = opens_next nest octets more next here.sound (here.no_end more) here.read c.requires.parts h in
    subst (λ n. IsExtentWithin true n place (drop i octets ++ more)) (sym c.end.ensures) (extent_next (layers_of nest.layers) next.tag nest.taken i next.constructed octets more here.read.read o) in
    passed_on c.from_residual.result _ _ _ _ c.from_residual.ensures.1 (record {
      truncated = λ is h.
          subst (λ x. IsExtentWithin true end place x → ⊥) all (said.truncated (ap Err is))
          (subst (IsExtentWithin true end place) (append-nil (drop i octets)) (extent [] (subst (CanFinish nest) (sym (append-nil octets)) h)));
      cut = λ is.
          opening_cut nest octets next end here.read c.if-not-next.false c.requires.parts (omega (arith, c.depth.ensures, c.if-depth-ge-MAX_NESTED.false)) c.end.ensures
          (subst (IsLengthCut end place) all (said.cut (ap Err is)));
      never = λ final more h. subst (λ x. IsExtentWithin true end place (x ++ more) → ⊥) all (said.never final more) (extent more h);
      numbers = said.numbers;
    })

pub returns-in_default-clause-refused : goal.returns-in_default-clause-refused
returns-in_default-clause-refused c =
    let next = c.args.next in
    let node = ty_view next.node.now in
    let leaf = rw c.in_default.is at c.in_ok-held_parts.ensures in
    absurd (c.requires.parts (leaf (node_is_node next.tag node (own_tag next.tag (ty_view next.ty.now) node c.requires.next.read.node))))

-- what the callees have done
opened : (c : goal.After-self-1) → IsOpenedBy c.args.self.now record { ty = c.args.self.now.ty; layers = c.push.new.self; taken = c.args.self.now.taken + c.args.next.identifier + c.in_ok-size.size } c.args.octets.now c.args.next c.in_ok-size.frame (parts_view c.in-Some.held_parts) c.in_ok-size.size
opened c =
    let nest = c.args.self.now in
    let next = c.args.next in
    let octets = c.args.octets.now in
    let i = next.identifier in
    let size = c.in_ok-size.size in
    let frame = c.in_ok-size.frame in
    let place = nest.taken + i in
    let all : take (length octets - i) (drop i octets) ≡ drop i octets = take_rest octets i in
    let held = rw c.in-Some.is at c.in_ok-held_parts.ensures in
    let layer : Layer = record { frame = frame; tag = next.tag; type = ty_view next.ty.now; parts = parts_view c.in-Some.held_parts; which = 0 } in
    record {
      sound = c.requires.next.sound;
      no_end = c.requires.next.no_end;
      read = c.requires.next.read;
      deep = omega (arith, c.depth.ensures, c.if-depth-ge-MAX_NESTED.false);
      constructed = c.if-not-next.false;
      of = held.0;
      none = held.1;
      there = subst (λ x. size ≤ length x) all c.in_ok-size.ensures.value.0;
      form = subst (λ n. Opens n place frame (take size (drop i octets))) c.end.ensures (subst (λ x. Opens c.end.result place frame (take size x)) all c.in_ok-size.ensures.value.1);
      type = refl;
      taken = refl;
      layers = c.in_ok-push.ensures.layers ∙ ap (λ l. layer ∷ l) c.set_which.ensures.layers;
      counted = c.in_ok-push.ensures.counted (c.set_which.ensures.counted c.requires.next.sound.counted);
    }

pub returns-clause-taken : goal.returns-clause-taken
returns-clause-taken c =
    let nest = c.args.self.now in
    let new : Nest = record { ty = nest.ty; layers = c.push.new.self; taken = nest.taken + c.args.next.identifier + c.in_ok-size.size } in
    taken_opening nest new c.args.octets.now c.args.next c.in_ok-size.frame (parts_view c.in-Some.held_parts) c.in_ok-size.size (opened c)

pub returns-clause-sound : goal.returns-clause-sound
returns-clause-sound c =
    let nest = c.args.self.now in
    let new : Nest = record { ty = nest.ty; layers = c.push.new.self; taken = nest.taken + c.args.next.identifier + c.in_ok-size.size } in
    sound_opening nest new c.args.octets.now c.args.next c.in_ok-size.frame (parts_view c.in-Some.held_parts) c.in_ok-size.size (opened c)
