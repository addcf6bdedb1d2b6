use Rattle.std.proofs.Common.{◌≡◌, ◌≤◌, ◌+◌, ◌-◌, ◌*◌, ◌^◌, ◌<◌, ◌∙◌, ◌∷◌, [], ◌++◌, ℕ, List, arith, sym, ap, subst, length, drop, take, OnOk, Ok, Err}
use Rattle.std.specs.declared.result.Result.{Result}
use Rattle.std.proofs.lemmas.List.{take_all, length-drop}
use Rattle.std.proofs.lemmas.List.Elements.{All-cons}
use Rattle.octets.specs.Front.{Appends}
use Rattle.octets.proofs.ResultLemmas.{OnOk-map}
use Rattle.primitives.specs.declared.TheConstants.{MAX_SUBIDENTIFIERS}
use Rattle.primitives.specs.Oid.{AreSubidentifiers, AreSmallSubidentifiers, IsOid, IsOidValue}
use Rattle.primitives.proofs.OidLemmas.{no_oid-bad, no_oid-rest, AreOfArcs-from_first, AreSubidentifiers-cons}
use Rattle.primitives.proofs.oid.read_any_arcs.Goals as goal

pub returns-in_default-clause-none : goal.returns-in_default-clause-none
returns-in_default-clause-none c = λ refused arcs value spelt. no_oid-bad c.args.contents.now arcs c.in_default.ensures.none value spelt

-- the arcs of the first subidentifier
abbrev first_two : goal.After-read_subidentifiers → List ℕ
first_two c = c.two_arcs-first.result.0 ∷ (c.in-Some.shared - 40 * c.two_arcs-first.result.0) ∷ []

-- the vector before the others are read
two_items : (c : goal.After-read_subidentifiers) → c.push_reserved-2.new.self.items ≡ first_two c
two_items c =
    let none : c.reserve.new.self.items ≡ [] = c.in_ok-reserve.ensures.items ∙ c.clear.ensures.items in
    let one = c.push_reserved.ensures.items ∙ ap (λ t. t ++ c.two_arcs-first.result.0 ∷ []) none in
    c.push_reserved-2.ensures.items ∙ (ap (λ t. t ++ c.two_arcs-first.result.1 ∷ []) one ∙ ap (λ n. c.two_arcs-first.result.0 ∷ n ∷ []) c.two_arcs-first.ensures.second)

-- the octets behind the first subidentifier, as they are passed on
abbrev behind : goal.After-read_subidentifiers → List ℕ
behind c = take (length c.args.contents.now - c.in-Some.used) (drop c.in-Some.used c.args.contents.now)

are_behind : (c : goal.After-read_subidentifiers) → behind c ≡ drop c.in-Some.used c.args.contents.now
are_behind c = take_all (length c.args.contents.now - c.in-Some.used) (drop c.in-Some.used c.args.contents.now) (omega (arith, length-drop c.in-Some.used c.args.contents.now))

-- the arcs that are appended
abbrev AreAppended : goal.After-read_subidentifiers → Type 0
AreAppended c = Appends (λ numbers. AreSmallSubidentifiers numbers (behind c)) c.push_reserved-2.new.self.items c.read_subidentifiers.new.arcs.items

items : (c : goal.After-read_subidentifiers) (put : AreAppended c) → c.read_subidentifiers.new.arcs.items ≡ first_two c ++ put.0
items c put = put.1 ∙ ap (λ t. t ++ put.0) (two_items c)

on_both : {E : Type 0} (r : Result (Unit {0}) E) (P Q R : Type 0) → (P → Q → R) → OnOk r P → OnOk r Q → OnOk r R
on_both (Ok x) P Q R step h g = step h g
on_both (Err e) P Q R step h g = tt

pub returns-clause-value : goal.returns-clause-value
returns-clause-value c =
    let shared = c.in-Some.shared in
    let new : List ℕ = c.read_subidentifiers.new.arcs.items in
    OnOk-map c.read_subidentifiers.result (AreAppended c) (IsOid new c.args.contents.now)
    (λ put. subst (λ arcs. IsOid arcs c.args.contents.now) (sym (items c put)) (record {
      numbers = shared ∷ put.0;
      of_arcs = AreOfArcs-from_first shared c.two_arcs-first.result.0 put.0 c.two_arcs-first.ensures.first;
      spelt = AreSubidentifiers-cons c.args.contents.now shared c.in-Some.used put.0 c.in-Some.ensures.value (subst (AreSubidentifiers put.0) (are_behind c) put.2.spelt);
    }))
    c.read_subidentifiers.ensures.appended

pub returns-clause-within : goal.returns-clause-within
returns-clause-within c =
    let new : List ℕ = c.read_subidentifiers.new.arcs.items in
    on_both c.read_subidentifiers.result (AreAppended c) (length new ≤ MAX_SUBIDENTIFIERS + 1) (IsOidValue new)
    (λ put few. subst IsOidValue (sym (items c put)) (record {
      numbers = c.in-Some.shared ∷ put.0;
      of_arcs = AreOfArcs-from_first c.in-Some.shared c.two_arcs-first.result.0 put.0 c.two_arcs-first.ensures.first;
      within = record {
        few = omega (arith, few, ap length (items c put));
        below = All-cons (λ number. number < 2 ^ 128) c.in-Some.shared put.0 c.in-Some.ensures.value.within put.2.below;
      };
    }))
    c.read_subidentifiers.ensures.appended c.read_subidentifiers.ensures.within

pub returns-clause-none : goal.returns-clause-none
returns-clause-none c = λ refused arcs value spelt.
    no_oid-rest c.args.contents.now arcs c.in-Some.shared c.in-Some.used c.in-Some.ensures.value (λ numbers few small.
    c.read_subidentifiers.ensures.none refused numbers (omega (arith, few, ap length (two_items c))) (subst (AreSmallSubidentifiers numbers) (sym (are_behind c)) small)) value spelt
