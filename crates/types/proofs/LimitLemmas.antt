-- Lemmas on the limits of types: nodes and levels of lists, and how long they are.
use Rattle.std.proofs.Common.{All, map, ◌≡◌, ◌↔◌, ◌+◌, ◌<◌, ◌≤◌, ℕ, ◌-◌, zero, suc, max, List, [], ◌∷◌, ◌++◌, Option, Some, None, Bool, true, false, get_or, drop, length, refl, sym, ap, subst, IsTrue, arith, length-append}
use mathlib.Core.Bool.{not}
use Rattle.std.specs.Prelude.{◌==◌, is_some}
use Rattle.std.proofs.Math.Dec.{leb}
use Rattle.std.proofs.lemmas.Bool.{leb-true, le-leb, eqb-true}
use Rattle.std.proofs.lemmas.List.{drop_all}
use Rattle.std.proofs.lemmas.List.Elements.{All-head, All-tail, All-cons}
use Rattle.types.specs.declared.ty.Field.{Field}
use Rattle.types.specs.declared.ty.Alternative.{Alternative}
use Rattle.types.specs.declared.ty.NamedBit.{NamedBit}
use Rattle.types.specs.Shape.{NamedBitView, Shape}
use Rattle.types.specs.View.{ComponentView, AlternativeView, ty_view, named_bit_view, field_view, alternative_view, components_view, alternatives_view}
use Rattle.types.specs.WellFormed.{count_of_components, count_of_alternatives, IsNodeWithin, nodes_of, levels_of, nodes_of_components, levels_of_components, nodes_of_alternatives, levels_of_alternatives}
use Rattle.types.specs.Judging.{IsLeft}
use Rattle.types.proofs.LoopLemmas.{left_at, is_not_so}
use Rattle.types.proofs.ViewLemmas.{field_is, alternative_is}

pub count_of_fields : (fields : List Field) → count_of_components (components_view fields) ≡ length fields
count_of_fields [] = refl
count_of_fields (f ∷ fields) = ap suc (count_of_fields fields)

pub count_of_choices : (alternatives : List Alternative) → count_of_alternatives (alternatives_view alternatives) ≡ length alternatives
count_of_choices [] = refl
count_of_choices (a ∷ alternatives) = ap suc (count_of_choices alternatives)

-- along equal types
pub within_along : (answer : Type 0) (s t : Shape) → s ≡ t → answer ↔ IsNodeWithin t → answer ↔ IsNodeWithin s
within_along answer s t p h = subst (λ u. answer ↔ IsNodeWithin u) (sym p) h

pub field_type : (f : Field) → (field_view f).type ≡ ty_view f.ty
field_type f = ap (λ (c : ComponentView). c.type) (field_is f)

pub alternative_type : (a : Alternative) → (alternative_view a).type ≡ ty_view a.ty
alternative_type a = ap (λ (c : AlternativeView). c.type) (alternative_is a)

-- a node around a part, which takes one node and, where it is a constructed one, a level
pub left_within : (nodes levels count depth : ℕ) (r : Option ℕ) → 1 ≤ nodes → IsLeft (nodes - 1) levels count depth r → IsLeft nodes levels (suc count) depth r
left_within nodes levels count depth None room h = λ few. h (omega arith)
left_within nodes levels count depth (Some left) room h = (omega arith, h.1)

pub left_within_level : (nodes levels count depth : ℕ) (r : Option ℕ) → 1 ≤ nodes → 1 ≤ levels → IsLeft (nodes - 1) (levels - 1) count depth r → IsLeft nodes levels (suc count) (suc depth) r
left_within_level nodes levels count depth None room high h = λ few low. h (omega arith) (omega arith)
left_within_level nodes levels count depth (Some left) room high h = (omega arith, omega (arith, h.1))

-- a list of parts, whose nodes are those of all of them, and whose levels are the most of one of them
pub record AreCounted {X : Type 0} (type : X → Shape) (nodes_in : List X → List Shape) (levels_in : List X → ℕ) : Type 0 where
  pub no_nodes : nodes_in [] ≡ []
  pub no_levels : levels_in [] ≡ 0
  pub nodes : (x : X) (xs : List X) → nodes_in (x ∷ xs) ≡ nodes_of (type x) ++ nodes_in xs
  pub levels : (x : X) (xs : List X) → levels_in (x ∷ xs) ≡ max (levels_of (type x)) (levels_in xs)

abbrev pub type_of_field : Field → Shape
type_of_field f = ty_view f.ty

abbrev pub nodes_of_fields : List Field → List Shape
nodes_of_fields fields = nodes_of_components (components_view fields)

abbrev pub levels_of_fields : List Field → ℕ
levels_of_fields fields = levels_of_components (components_view fields)

pub fields_counted : AreCounted type_of_field nodes_of_fields levels_of_fields
fields_counted = record {
  no_nodes = refl;
  no_levels = refl;
  nodes = λ f fields. ap (λ s. nodes_of s ++ nodes_of_fields fields) (field_type f);
  levels = λ f fields. ap (λ s. max (levels_of s) (levels_of_fields fields)) (field_type f);
}

abbrev pub type_of_alternative : Alternative → Shape
type_of_alternative a = ty_view a.ty

abbrev pub nodes_of_choices : List Alternative → List Shape
nodes_of_choices alternatives = nodes_of_alternatives (alternatives_view alternatives)

abbrev pub levels_of_choices : List Alternative → ℕ
levels_of_choices alternatives = levels_of_alternatives (alternatives_view alternatives)

pub choices_counted : AreCounted type_of_alternative nodes_of_choices levels_of_choices
choices_counted = record {
  no_nodes = refl;
  no_levels = refl;
  nodes = λ a alternatives. ap (λ s. nodes_of s ++ nodes_of_choices alternatives) (alternative_type a);
  levels = λ a alternatives. ap (λ s. max (levels_of s) (levels_of_choices alternatives)) (alternative_type a);
}

-- what the parts leave of the room
abbrev pub LeftBy : {X : Type 0} → (List X → List Shape) → (List X → ℕ) → ℕ → ℕ → List X → Option ℕ → Type 0
LeftBy nodes_in levels_in nodes levels xs r = IsLeft nodes levels (length (nodes_in xs)) (levels_in xs) r

-- what the parts from the i-th on leave of the room that the others left, all of them leave of the whole
abbrev pub LeadsTo : {X : Type 0} → (List X → List Shape) → (List X → ℕ) → ℕ → ℕ → ℕ → List X → ℕ → Type 0
LeadsTo nodes_in levels_in nodes left levels xs i = (r : Option ℕ) → LeftBy nodes_in levels_in left levels (drop i xs) r → LeftBy nodes_in levels_in nodes levels xs r

-- a part in front of others, which have the room that it leaves
left_by_both : (nodes left levels : ℕ) (first others : List Shape) (depth rest : ℕ) (r : Option ℕ) → IsLeft nodes levels (length first) depth (Some left) → IsLeft left levels (length others) rest r → IsLeft nodes levels (length (first ++ others)) (max depth rest) r
left_by_both nodes left levels first others depth rest None one h = λ few low. h (omega (arith, length-append first others, one.0)) (omega (arith, low))
left_by_both nodes left levels first others depth rest (Some more) one h = (omega (arith, length-append first others, one.0, h.0), omega (arith, one.1, h.1))

none_left : (nodes levels : ℕ) (first others : List Shape) (depth rest : ℕ) → IsLeft nodes levels (length first) depth None → IsLeft nodes levels (length (first ++ others)) (max depth rest) None
none_left nodes levels first others depth rest one = λ few low. one (omega (arith, length-append first others)) (omega arith)

pub left_goes_on : {X : Type 0} {type : X → Shape} {N : List X → List Shape} {D : List X → ℕ} → AreCounted type N D → (nodes before left levels : ℕ) (xs : List X) (i : ℕ) (x : X) → i < length xs → x ≡ get_or xs i x → IsLeft before levels (length (nodes_of (type x))) (levels_of (type x)) (Some left) → LeadsTo N D nodes before levels xs i → LeadsTo N D nodes left levels xs (i + 1)
left_goes_on {type = type} {N = N} {D = D} counted nodes before left levels xs i x below is one leads = λ r h.
    let rest = drop (i + 1) xs in
    let both = left_by_both before left levels (nodes_of (type x)) (N rest) (levels_of (type x)) (D rest) r one h in
    let here : LeftBy N D before levels (x ∷ rest) r =
    subst (λ l. IsLeft before levels (length l) (D (x ∷ rest)) r) (sym (counted.nodes x rest)) (subst (λ d. IsLeft before levels (length (nodes_of (type x) ++ N rest)) d r) (sym (counted.levels x rest)) both) in
    leads r (subst (λ l. LeftBy N D before levels l r) (sym (left_at xs i x below is)) here)

pub left_stops : {X : Type 0} {type : X → Shape} {N : List X → List Shape} {D : List X → ℕ} → AreCounted type N D → (nodes before levels : ℕ) (xs : List X) (i : ℕ) (x : X) → i < length xs → x ≡ get_or xs i x → IsLeft before levels (length (nodes_of (type x))) (levels_of (type x)) None → LeadsTo N D nodes before levels xs i → LeftBy N D nodes levels xs None
left_stops {type = type} {N = N} {D = D} counted nodes before levels xs i x below is one leads =
    let rest = drop (i + 1) xs in
    let both = none_left before levels (nodes_of (type x)) (N rest) (levels_of (type x)) (D rest) one in
    let here : LeftBy N D before levels (x ∷ rest) None =
    subst (λ l. IsLeft before levels (length l) (D (x ∷ rest)) None) (sym (counted.nodes x rest)) (subst (λ d. IsLeft before levels (length (nodes_of (type x) ++ N rest)) d None) (sym (counted.levels x rest)) both) in
    leads None (subst (λ l. LeftBy N D before levels l None) (sym (left_at xs i x below is)) here)

pub left_ends : {X : Type 0} {type : X → Shape} {N : List X → List Shape} {D : List X → ℕ} → AreCounted type N D → (nodes left levels : ℕ) (xs : List X) (i : ℕ) → length xs ≤ i → LeadsTo N D nodes left levels xs i → LeftBy N D nodes levels xs (Some left)
left_ends {N = N} {D = D} counted nodes left levels xs i past leads =
    let none : LeftBy N D left levels [] (Some left) =
    subst (λ l. IsLeft left levels (length l) (D []) (Some left)) (sym counted.no_nodes) (subst (λ d. IsLeft left levels 0 d (Some left)) (sym counted.no_levels) (omega arith, omega arith)) in
    leads (Some left) (subst (λ l. LeftBy N D left levels l (Some left)) (sym (drop_all i xs past)) none)

-- a CHOICE, which takes one node and no level
pub choice_left : (nodes others levels : ℕ) (shape : Shape) (xs items : List Alternative) (r : Option ℕ) → shape ≡ Shape.choice (alternatives_view xs) → items ≡ xs → nodes ≡ others + 1
    → LeftBy nodes_of_choices levels_of_choices others levels items r → IsLeft nodes levels (length (nodes_of shape)) (levels_of shape) r
choice_left nodes others levels shape xs items r is same room h =
    let here : LeftBy nodes_of_choices levels_of_choices (nodes - 1) levels xs r =
    subst (λ n. LeftBy nodes_of_choices levels_of_choices n levels xs r) (omega (arith, room)) (subst (λ l. LeftBy nodes_of_choices levels_of_choices others levels l r) same h) in
    subst (λ s. IsLeft nodes levels (length (nodes_of s)) (levels_of s) r) (sym is)
    (left_within nodes levels (length (nodes_of_choices xs)) (levels_of_choices xs) r (omega (arith, room)) here)

-- a list of at most 256 elements
pub few : (n k : ℕ) (Q : Type 0) → n ≡ k → Q → IsTrue (leb n 256) ↔ (Q × (k ≤ 256))
few n k Q same q = (λ yes. let below = leb-true n 256 yes in (q, omega arith), λ h. le-leb n 256 (omega (arith, h.1)))

pub not_empty : (n : ℕ) → false ≡ (n == 0) → 1 ≤ n
not_empty zero h = absurd (cc h)
not_empty (suc n) h = omega arith

pub empty : (n : ℕ) → true ≡ (n == 0) → 1 ≤ n → ⊥
empty n h some = let none : n ≡ 0 = eqb-true n 0 (sym h) in omega arith

pub not_true : (b : Bool) (P : Type 0) → b ≡ true → (P → ⊥) → IsTrue (not b) ↔ P
not_true true P is never = is_not_so never
not_true false P is never = absurd (cc is)

pub fits : (nodes levels count depth : ℕ) (r : Option ℕ) → IsLeft nodes levels count depth r → is_some r ≡ true → (count ≤ nodes) × (depth ≤ levels)
fits nodes levels count depth None h some = absurd (cc some)
fits nodes levels count depth (Some left) h some = (omega (arith, h.0), h.1)

-- the numbers of these named bits are within the limit
abbrev pub NumbersWithin : List NamedBit → Type 0
NumbersWithin bits = All (λ bit. bit.number ≤ 65_535) (map named_bit_view bits)

pub numbers_first : (bit : NamedBit) (bits : List NamedBit) → NumbersWithin (bit ∷ bits) ↔ ((bit.number ≤ 65_535) × NumbersWithin bits)
numbers_first bit bits =
    let Within = λ (b : NamedBitView). b.number ≤ 65_535 in (
      λ h. (All-head Within (named_bit_view bit) (map named_bit_view bits) h, All-tail Within (named_bit_view bit) (map named_bit_view bits) h),
      λ h. All-cons Within (named_bit_view bit) (map named_bit_view bits) h.0 h.1,
    )
