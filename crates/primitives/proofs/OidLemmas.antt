-- Lemmas on the contents octets of an OBJECT IDENTIFIER and of a RELATIVE-OID.
use Rattle.std.proofs.Common.{◌≡◌, ℕ, ◌+◌, ◌-◌, ◌*◌, ◌^◌, ◌<◌, ◌≤◌, inl, inr, List, [], ◌∷◌, ◌++◌, length, take, drop, refl, sym, ◌∙◌, ap, arith, All, get_or, subst, length-append, append_assoc}
use Rattle.std.specs.List.{AllZip, concat}
use Rattle.std.proofs.lemmas.List.{append-nil, length-drop, take-append-drop, drop-drop, nil_from_length}
use Rattle.std.proofs.lemmas.List.Elements.{All-append, All-cons, All-nil, All-tail}
use Rattle.std.proofs.lemmas.List.Folds.{concat-append}
use Rattle.std.proofs.lemmas.Bool.{cases_lt}
use Rattle.std.proofs.Math.Seq.{take-add, get_or-append_seam}
use Rattle.octets.specs.Base128.{IsBase128}
use Rattle.octets.specs.Front.{HasFront}
use Rattle.octets.proofs.FrontLemmas.{HasFront-from_parts}
use Rattle.octets.proofs.UniqueLemmas.{base_128_unique}
use Rattle.primitives.specs.Oid.{AreSubidentifiers, AreSmallSubidentifiers, AreOfArcs, IsFirstArc, IsOid, IsOidValue, IsReadSubidentifier}
use Rattle.primitives.specs.Laws.{OneOidValue, OneOidEncoding, OneRelativeOidValue, OneRelativeOidEncoding}
use Rattle.primitives.proofs.SubidentifierLemmas.{subidentifier_unique, some_octets}

pub AreSubidentifiers-none : AreSubidentifiers [] []
AreSubidentifiers-none = record { spellings = []; each = tt; joined = refl }

AllZip-snoc : (ns : List ℕ) (ps : List (List ℕ)) (n : ℕ) (p : List ℕ) → AllZip IsBase128 ns ps → IsBase128 n p → AllZip IsBase128 (ns ++ n ∷ []) (ps ++ p ∷ [])
AllZip-snoc [] [] n p h g = (g, tt)
AllZip-snoc [] (q ∷ ps) n p h g = absurd h
AllZip-snoc (m ∷ ns) [] n p h g = absurd h
AllZip-snoc (m ∷ ns) (q ∷ ps) n p h g = (h.0, AllZip-snoc ns ps n p h.1 g)

-- one subidentifier more
pub AreSubidentifiers-snoc : (ns c : List ℕ) (n : ℕ) (p : List ℕ) → AreSubidentifiers ns c → IsBase128 n p → AreSubidentifiers (ns ++ n ∷ []) (c ++ p)
AreSubidentifiers-snoc ns c n p h g = record {
  spellings = h.spellings ++ p ∷ [];
  each = AllZip-snoc ns h.spellings n p h.each g;
  joined = ap (λ t. t ++ p) h.joined ∙ (ap (λ t. concat h.spellings ++ t) (sym (append-nil p)) ∙ sym (concat-append h.spellings (p ∷ [])));
}

-- the first subidentifier of some octets, and what follows it
record IsFirstOf (n : ℕ) (numbers rest : List ℕ) : Type 0 where
  others : List ℕ
  whole : numbers ≡ n ∷ others
  spelt : AreSubidentifiers others rest

first_of : (n : ℕ) (a r numbers : List ℕ) (spellings : List (List ℕ)) → IsBase128 n a → AllZip IsBase128 numbers spellings → a ++ r ≡ concat spellings → IsFirstOf n numbers r
first_of n a r [] [] g each joined = absurd (omega (arith, some_octets n a g, ap length joined, length-append a r))
first_of n a r [] (p ∷ ps) g each joined = absurd each
first_of n a r (m ∷ ms) [] g each joined = absurd each
first_of n a r (m ∷ ms) (p ∷ ps) g each joined =
    let same = subidentifier_unique n m a p r (concat ps) g each.0 joined in
    record {
      others = ms;
      whole = ap (λ k. k ∷ ms) (sym same.value);
      spelt = record { spellings = ps; each = each.1; joined = same.rest };
    }

-- subidentifiers that begin with these numbers, and go on in the rest
pub record GoOn (numbers others rest : List ℕ) : Type 0 where
  pub more : List ℕ
  pub whole : others ≡ numbers ++ more
  pub spelt : AreSubidentifiers more rest

-- the numbers stand in the first `start` octets, and all the subidentifiers of the octets begin with them
pub record AreRead (contents : List ℕ) (start : ℕ) (numbers : List ℕ) : Type 0 where
  pub there : start ≤ length contents
  pub spelt : AreSmallSubidentifiers numbers (take start contents)
  pub only : (others : List ℕ) → AreSubidentifiers others contents → GoOn numbers others (drop start contents)

pub AreRead-none : (contents : List ℕ) → AreRead contents 0 []
AreRead-none contents = record {
  there = omega arith;
  spelt = record { spelt = AreSubidentifiers-none; below = All-nil (λ number. number < 2 ^ 128) };
  only = λ others h. record { more = others; whole = refl; spelt = h };
}

pub AreRead-more : (contents : List ℕ) (start : ℕ) (numbers : List ℕ) (n used : ℕ) → AreRead contents start numbers → IsReadSubidentifier (drop start contents) n used → AreRead contents (start + used) (numbers ++ n ∷ [])
AreRead-more contents start numbers n used h g = record {
  there = omega (arith, g.there, length-drop start contents, h.there);
  spelt = record {
    spelt = subst (AreSubidentifiers (numbers ++ n ∷ [])) (sym (take-add start used contents)) (AreSubidentifiers-snoc numbers (take start contents) n (take used (drop start contents)) h.spelt.spelt g.spelt);
    below = All-append (λ number. number < 2 ^ 128) numbers (n ∷ []) h.spelt.below (All-cons (λ number. number < 2 ^ 128) n [] g.within (All-nil (λ number. number < 2 ^ 128)));
  };
  only = λ others k.
      let on = h.only others k in
      let first = first_of n (take used (drop start contents)) (drop used (drop start contents)) on.more on.spelt.spellings g.spelt on.spelt.each (take-append-drop used (drop start contents) ∙ on.spelt.joined) in
      record {
        more = first.others;
        whole = on.whole ∙ (ap (λ t. numbers ++ t) first.whole ∙ sym (append_assoc numbers (n ∷ []) first.others));
        spelt = subst (AreSubidentifiers first.others) (drop-drop used start contents) first.spelt;
      };
}

-- subidentifiers of some octets
record IsSome (numbers contents : List ℕ) : Type 0 where
  number : ℕ
  others : List ℕ
  octets : List ℕ
  rest : List ℕ
  whole : numbers ≡ number ∷ others
  parts : contents ≡ octets ++ rest
  spelt : IsBase128 number octets

some_of : (numbers contents : List ℕ) (spellings : List (List ℕ)) → AllZip IsBase128 numbers spellings → contents ≡ concat spellings → 1 ≤ length contents → IsSome numbers contents
some_of [] contents [] each joined some = absurd (omega (arith, ap length joined))
some_of [] contents (p ∷ ps) each joined some = absurd each
some_of (m ∷ ms) contents [] each joined some = absurd each
some_of (m ∷ ms) contents (p ∷ ps) each joined some = record { number = m; others = ms; octets = p; rest = concat ps; whole = refl; parts = joined; spelt = each.0 }

-- as many subidentifiers as there may be, and more octets
pub no_subidentifiers-many : (contents : List ℕ) (start : ℕ) (numbers others : List ℕ) → AreRead contents start numbers → length others ≤ length numbers → start < length contents → AreSmallSubidentifiers others contents → ⊥
no_subidentifiers-many contents start numbers others h many past g =
    let on = h.only others g.spelt in
    let some = some_of on.more (drop start contents) on.spelt.spellings on.spelt.each on.spelt.joined (omega (arith, length-drop start contents)) in
    omega (arith, many, ap length on.whole, length-append numbers on.more, ap length some.whole)

number_below : (numbers : List ℕ) (n : ℕ) (others : List ℕ) → All (λ number. number < 2 ^ 128) (numbers ++ n ∷ others) → n < 2 ^ 128
number_below numbers n others h =
    let below = h (length numbers) 0 (omega (arith, length-append numbers (n ∷ others))) in
    let item : get_or (numbers ++ n ∷ others) (length numbers) 0 ≡ n = get_or-append_seam numbers n others 0 in
    omega (arith, below, item)

-- octets that no subidentifier within the limit begins
pub no_subidentifiers-bad : (contents : List ℕ) (start : ℕ) (numbers others : List ℕ) → AreRead contents start numbers → start < length contents → ((n : ℕ) → n < 2 ^ 128 → HasFront (IsBase128 n) (drop start contents) → ⊥) → AreSmallSubidentifiers others contents → ⊥
no_subidentifiers-bad contents start numbers others h past none g =
    let on = h.only others g.spelt in
    let some = some_of on.more (drop start contents) on.spelt.spellings on.spelt.each on.spelt.joined (omega (arith, length-drop start contents)) in
    let whole : others ≡ numbers ++ some.number ∷ some.others = on.whole ∙ ap (λ t. numbers ++ t) some.whole in
    let first : some.number < 2 ^ 128 = number_below numbers some.number some.others (subst (All (λ number. number < 2 ^ 128)) whole g.below) in
    none some.number first (HasFront-from_parts (IsBase128 some.number) some.octets some.rest (drop start contents) some.parts some.spelt)

none_of : (numbers : List ℕ) (spellings : List (List ℕ)) → AllZip IsBase128 numbers spellings → [] ≡ concat spellings → length numbers ≡ 0
none_of [] spellings each joined = refl
none_of (m ∷ ms) [] each joined = absurd each
none_of (m ∷ ms) (p ∷ ps) each joined = absurd (omega (arith, some_octets m p each.0, ap length joined, length-append p (concat ps)))

-- the arcs of subidentifiers, and the subidentifiers of arcs
pub same_numbers : (arcs m n : List ℕ) → AreOfArcs arcs m → AreOfArcs arcs n → m ≡ n
same_numbers arcs m n f g =
    let whole : f.first ∷ f.second ∷ f.others ≡ g.first ∷ g.second ∷ g.others = sym f.arcs_are ∙ g.arcs_are in
    let first : f.first ≡ g.first = cc whole in
    let second : f.second ≡ g.second = cc whole in
    let others : f.others ≡ g.others = cc whole in
    let shared : 40 * f.first + f.second ≡ 40 * g.first + g.second = omega arith in
    f.numbers_are ∙ (ap (λ k. k ∷ f.others) shared ∙ (ap (λ t. (40 * g.first + g.second) ∷ t) others ∙ sym g.numbers_are))

-- the arcs that share a subidentifier, and those of the others
pub AreOfArcs-from_first : (shared first : ℕ) (others : List ℕ) → IsFirstArc shared first → AreOfArcs (first ∷ (shared - 40 * first) ∷ others) (shared ∷ others)
AreOfArcs-from_first shared first others h = record {
  first = first;
  second = shared - 40 * first;
  others = others;
  arcs_are = refl;
  at_most_2 = h.at_most_2;
  at_most_39 = λ low. omega (arith, h.at_most_39 low);
  numbers_are = ap (λ k. k ∷ others) (omega (arith, h.not_more));
}

-- the first subidentifier is read, and then the others
pub AreSubidentifiers-cons : (contents : List ℕ) (n used : ℕ) (others : List ℕ) → IsReadSubidentifier contents n used → AreSubidentifiers others (drop used contents) → AreSubidentifiers (n ∷ others) contents
AreSubidentifiers-cons contents n used others g h = record {
  spellings = take used contents ∷ h.spellings;
  each = (g.spelt, h.each);
  joined = sym (take-append-drop used contents) ∙ ap (λ t. take used contents ++ t) h.joined;
}

small_of : (arcs contents : List ℕ) (v : IsOidValue arcs) → IsOid arcs contents → AreSmallSubidentifiers v.numbers contents
small_of arcs contents v h = record {
  spelt = subst (λ n. AreSubidentifiers n contents) (same_numbers arcs h.numbers v.numbers h.of_arcs v.of_arcs) h.spelt;
  below = v.within.below;
}

-- octets that no subidentifier within the limit begins
pub no_oid-bad : (contents arcs : List ℕ) → ((n : ℕ) → n < 2 ^ 128 → HasFront (IsBase128 n) contents → ⊥) → IsOidValue arcs → IsOid arcs contents → ⊥
no_oid-bad contents arcs none v h =
    let small = small_of arcs contents v h in
    elim (cases_lt 0 (length contents)) [
      | inl some ↦ no_subidentifiers-bad contents 0 [] v.numbers (AreRead-none contents) some none small
      | inr few ↦
          let empty : [] ≡ contents = sym (nil_from_length contents (omega arith)) in
          let no_numbers = none_of v.numbers small.spelt.spellings small.spelt.each (empty ∙ small.spelt.joined) in
          omega (arith, no_numbers, ap length v.of_arcs.numbers_are)
    ]

-- octets behind the first subidentifier that are not the others
pub no_oid-rest : (contents arcs : List ℕ) (n used : ℕ) → IsReadSubidentifier contents n used → ((others : List ℕ) → length others ≤ 127 → AreSmallSubidentifiers others (drop used contents) → ⊥) → IsOidValue arcs → IsOid arcs contents → ⊥
no_oid-rest contents arcs n used g none v h =
    let small = small_of arcs contents v h in
    let first = first_of n (take used contents) (drop used contents) v.numbers small.spelt.spellings g.spelt small.spelt.each (take-append-drop used contents ∙ small.spelt.joined) in
    let below = subst (All (λ number. number < 2 ^ 128)) first.whole small.below in
    none first.others (omega (arith, v.within.few, ap length first.whole)) (record { spelt = first.spelt; below = All-tail (λ number. number < 2 ^ 128) n first.others below })

same_first : (x y v w : ℕ) → x ≤ 2 → v ≤ 2 → (x ≤ 1 → y ≤ 39) → (v ≤ 1 → w ≤ 39) → 40 * x + y ≡ 40 * v + w → x ≡ v
same_first x y v w hx hv hy hw sum =
    elim (cases_lt 1 x) [
      | inl two ↦
          elim (cases_lt 1 v) [
            | inl also ↦ omega arith
            | inr less ↦ let few : w ≤ 39 = hw less in absurd (omega arith)
          ]
      | inr low ↦
          let some : y ≤ 39 = hy low in
          elim (cases_lt 1 v) [
            | inl more ↦ absurd (omega arith)
            | inr less ↦ let few : w ≤ 39 = hw less in omega arith
          ]
    ]

same_arcs : (a b numbers : List ℕ) → AreOfArcs a numbers → AreOfArcs b numbers → a ≡ b
same_arcs a b numbers f g =
    let whole : (40 * f.first + f.second) ∷ f.others ≡ (40 * g.first + g.second) ∷ g.others = sym f.numbers_are ∙ g.numbers_are in
    let shared : 40 * f.first + f.second ≡ 40 * g.first + g.second = cc whole in
    let others : f.others ≡ g.others = cc whole in
    let first : f.first ≡ g.first = same_first f.first f.second g.first g.second f.at_most_2 g.at_most_2 f.at_most_39 g.at_most_39 shared in
    let second : f.second ≡ g.second = omega (arith, shared, first) in
    f.arcs_are ∙ (ap (λ k. k ∷ f.second ∷ f.others) first ∙ (ap (λ k. g.first ∷ k ∷ f.others) second ∙ (ap (λ t. g.first ∷ g.second ∷ t) others ∙ sym g.arcs_are)))

some_and_none : (x : ℕ) (m p : List ℕ) (ps qs : List (List ℕ)) → AllZip IsBase128 (x ∷ m) (p ∷ ps) → AllZip IsBase128 [] qs → concat (p ∷ ps) ≡ concat qs → ⊥
some_and_none x m p ps [] f g joined = omega (arith, some_octets x p f.0, ap length joined, length-append p (concat ps))
some_and_none x m p ps (q ∷ qs) f g joined = absurd g

numbers_unique : (m n : List ℕ) (ps qs : List (List ℕ)) → AllZip IsBase128 m ps → AllZip IsBase128 n qs → concat ps ≡ concat qs → m ≡ n
numbers_unique [] n [] qs f g joined = sym (nil_from_length n (none_of n qs g joined))
numbers_unique [] n (p ∷ ps) qs f g joined = absurd f
numbers_unique (x ∷ m) n [] qs f g joined = absurd f
numbers_unique (x ∷ m) [] (p ∷ ps) qs f g joined = absurd (some_and_none x m p ps qs f g joined)
numbers_unique (x ∷ m) (y ∷ n) (p ∷ ps) [] f g joined = absurd g
numbers_unique (x ∷ m) (y ∷ n) (p ∷ ps) (q ∷ qs) f g joined =
    let same = subidentifier_unique x y p q (concat ps) (concat qs) f.0 g.0 joined in
    let rest = numbers_unique m n ps qs f.1 g.1 same.rest in
    ap (λ k. k ∷ m) same.value ∙ ap (λ t. y ∷ t) rest

octets_unique : (n : List ℕ) (ps qs : List (List ℕ)) → AllZip IsBase128 n ps → AllZip IsBase128 n qs → concat ps ≡ concat qs
octets_unique [] [] [] f g = refl
octets_unique [] [] (q ∷ qs) f g = absurd g
octets_unique [] (p ∷ ps) qs f g = absurd f
octets_unique (x ∷ n) [] qs f g = absurd f
octets_unique (x ∷ n) (p ∷ ps) [] f g = absurd g
octets_unique (x ∷ n) (p ∷ ps) (q ∷ qs) f g =
    ap (λ t. t ++ concat ps) (base_128_unique x p q f.0 g.0) ∙ ap (λ t. q ++ t) (octets_unique n ps qs f.1 g.1)

one_spelling : (n c d : List ℕ) → AreSubidentifiers n c → AreSubidentifiers n d → c ≡ d
one_spelling n c d f g = f.joined ∙ (octets_unique n f.spellings g.spellings f.each g.each ∙ sym g.joined)

one_meaning : (m n c : List ℕ) → AreSubidentifiers m c → AreSubidentifiers n c → m ≡ n
one_meaning m n c f g = numbers_unique m n f.spellings g.spellings f.each g.each (sym f.joined ∙ g.joined)

pub one_oid_value : OneOidValue
one_oid_value a b c f g =
    let same = one_meaning f.numbers g.numbers c f.spelt g.spelt in
    same_arcs a b g.numbers (subst (AreOfArcs a) same f.of_arcs) g.of_arcs

pub one_oid_encoding : OneOidEncoding
one_oid_encoding a c d f g =
    let same = same_numbers a f.numbers g.numbers f.of_arcs g.of_arcs in
    one_spelling g.numbers c d (subst (λ n. AreSubidentifiers n c) same f.spelt) g.spelt

pub one_relative_oid_value : OneRelativeOidValue
one_relative_oid_value a b c f g = one_meaning a b c f.spelt g.spelt

pub one_relative_oid_encoding : OneRelativeOidEncoding
one_relative_oid_encoding a c d f g = one_spelling a c d f.spelt g.spelt
