use Rattle.std.proofs.Common.{◌≡◌, ◌-◌, ◌*◌, ◌^◌, ◌<◌, ◌∙◌, ◌∷◌, [], ◌++◌, ℕ, List, arith, sym, ap, subst, length, drop, take}
use Rattle.std.proofs.lemmas.List.{take_all, length-drop}
use Rattle.std.proofs.lemmas.List.Elements.{All-cons}
use Rattle.octets.specs.Front.{Appends}
use Rattle.primitives.specs.Oid.{AreSubidentifiers, AreSmallSubidentifiers, IsOid, IsOidValue, IsReadSubidentifier}
use Rattle.primitives.proofs.SubidentifierLemmas.{one_octet}
use Rattle.primitives.proofs.OidLemmas.{AreOfArcs-from_first, AreSubidentifiers-cons}
use Rattle.primitives.proofs.oid.read_short_arcs.Goals as goal

-- the octet of the first subidentifier
one : (c : goal.After-put_short_numbers) → IsReadSubidentifier c.args.contents.now c.from.result 1
one c =
    let some : 0 < length c.args.contents.now = grind (arith, c.if-is_empty.ensures) in
    one_octet c.args.contents.now c.from.result some (sym c.from.ensures) (omega (arith, c.from.ensures, c.if-contents-ge128.false))

-- the arcs of the first subidentifier
abbrev first_two : goal.After-put_short_numbers → List ℕ
first_two c = c.two_arcs-first.result.0 ∷ (c.from.result - 40 * c.two_arcs-first.result.0) ∷ []

-- the vector before the others are read
two_items : (c : goal.After-put_short_numbers) → c.push_reserved-2.new.self.items ≡ first_two c
two_items c =
    let one = c.push_reserved.ensures.items ∙ ap (λ t. t ++ c.two_arcs-first.result.0 ∷ []) c.clear.ensures.items in
    c.push_reserved-2.ensures.items ∙ (ap (λ t. t ++ c.two_arcs-first.result.1 ∷ []) one ∙ ap (λ n. c.two_arcs-first.result.0 ∷ n ∷ []) c.two_arcs-first.ensures.second)

-- the octets behind the first, as they are passed on
abbrev behind : goal.After-put_short_numbers → List ℕ
behind c = take (length c.args.contents.now - 1) (drop 1 c.args.contents.now)

are_behind : (c : goal.After-put_short_numbers) → behind c ≡ drop 1 c.args.contents.now
are_behind c = take_all (length c.args.contents.now - 1) (drop 1 c.args.contents.now) (omega (arith, length-drop 1 c.args.contents.now))

-- the arcs that are appended
abbrev AreAppended : goal.After-put_short_numbers → Type 0
AreAppended c = Appends (λ more. AreSmallSubidentifiers more (behind c)) c.push_reserved-2.new.self.items c.put_short_numbers.new.numbers.items

items : (c : goal.After-put_short_numbers) (put : AreAppended c) → c.put_short_numbers.new.numbers.items ≡ first_two c ++ put.0
items c put = put.1 ∙ ap (λ t. t ++ put.0) (two_items c)

pub returns-clause-value : goal.returns-clause-value
returns-clause-value c = λ all.
    let put = c.put_short_numbers.ensures.appended all in
    let shared : ℕ = c.from.result in
    subst (λ arcs. IsOid arcs c.args.contents.now) (sym (items c put)) (record {
      numbers = shared ∷ put.0;
      of_arcs = AreOfArcs-from_first shared c.two_arcs-first.result.0 put.0 c.two_arcs-first.ensures.first;
      spelt = AreSubidentifiers-cons c.args.contents.now shared 1 put.0 (one c) (subst (AreSubidentifiers put.0) (are_behind c) put.2.spelt);
    })

pub returns-clause-within : goal.returns-clause-within
returns-clause-within c = λ all.
    let put = c.put_short_numbers.ensures.appended all in
    let shared : ℕ = c.from.result in
    let size = length-drop 1 c.args.contents.now in
    subst IsOidValue (sym (items c put)) (record {
      numbers = shared ∷ put.0;
      of_arcs = AreOfArcs-from_first shared c.two_arcs-first.result.0 put.0 c.two_arcs-first.ensures.first;
      within = record {
        few = omega (arith, c.put_short_numbers.ensures.few, ap length (items c put), ap length (two_items c), ap length (are_behind c), size, (one c).there, c.if-contents-gt-MAX_SUBIDENTIFIERS.false);
        below = All-cons (λ number. number < 2 ^ 128) shared put.0 (one c).within put.2.below;
      };
    })
