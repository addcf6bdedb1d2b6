-- Lemmas on what an open encoding holds of a SEQUENCE, and on which parts may come next.
use Rattle.std.proofs.Common.{◌≡◌, ◌↔◌, ◌+◌, ◌<◌, ℕ, zero, suc, List, [], ◌∷◌, ◌++◌, Option, None, length, get_or, replicate, take, drop, map, option_map, append_assoc, Contains, refl, sym, ap, ◌∙◌, subst, arith, add-zero}
use Rattle.std.proofs.lemmas.List.{length-append, length-replicate, length-take-le, take-append-drop, drop_more, take_more, get_or-drop, drop-drop, drop-take, take-take, drop-map, length-map, length-drop, map_push, replicate_more, get_or-map}
use Rattle.std.specs.List.{AllByRecursion}
use Rattle.octets.specs.declared.tag.Tag.{Tag}
use Rattle.types.specs.Conforms.{MayBeAbsent}
use Rattle.types.specs.FirstTags.{first_tags}
use Rattle.types.specs.Shape.{Shape, Val}
use Rattle.types.specs.View.{ComponentView, ty_view, value_view, field_view, requirement_view}
use Rattle.types.specs.declared.value.Value.{Value}
use Rattle.types.specs.declared.ty.Field.{Field}
use Rattle.types.proofs.LimitLemmas.{field_type}
use Rattle.types.proofs.LoopLemmas.{left_at}
use Rattle.encoding_parts.specs.HeldParts.{run_view}
use Rattle.encoding_parts.specs.Parts.{IsNextOf, IsSlotOf, IsPut}
use Rattle.encoding_parts.proofs.SetComponentLemmas.{requirement_is}

-- no component that may come next begins with the tag
abbrev pub NoneNext : Tag → List Field → Type 0
NoneNext tag xs = (which : ℕ) (type : Shape) → IsNextOf (map field_view xs) which type → Contains (first_tags type) tag → ⊥

none_next-cons : (tag : Tag) (x : Field) (xs : List Field) → (Contains (first_tags (ty_view x.ty)) tag → ⊥) → (MayBeAbsent (requirement_view x.presence) → NoneNext tag xs) → NoneNext tag (x ∷ xs)
none_next-cons tag x xs first rest zero type n c = first (subst (λ (s : Shape). Contains (first_tags s) tag) (sym n ∙ field_type x) c)
none_next-cons tag x xs first rest (suc which) type n c = rest (subst MayBeAbsent (requirement_is x) n.0) which type n.1 c

pub none_next_first : (tag : Tag) (x : Field) (xs : List Field) → MayBeAbsent (requirement_view x.presence) → NoneNext tag (x ∷ xs) ↔ ((Contains (first_tags (ty_view x.ty)) tag → ⊥) × NoneNext tag xs)
none_next_first tag x xs may = (
  λ h. (h zero (ty_view x.ty) (field_type x), λ which type n. h (suc which) type (subst MayBeAbsent (sym (requirement_is x)) may, n)),
  λ h. none_next-cons tag x xs h.0 (λ m. h.1),
)

pub none_next_last : (tag : Tag) (x : Field) (xs : List Field) → (MayBeAbsent (requirement_view x.presence) → ⊥) → (Contains (first_tags (ty_view x.ty)) tag → ⊥) → NoneNext tag (x ∷ xs)
none_next_last tag x xs stands first = none_next-cons tag x xs first (λ may. absurd (stands may))

-- all components before the i-th may be absent
abbrev pub LeadsTo : List Field → ℕ → Type 0
LeadsTo xs i = (which : ℕ) (type : Shape) → IsNextOf (map field_view (drop i xs)) which type → IsNextOf (map field_view xs) (i + which) type

pub leads_none : (xs : List Field) → LeadsTo xs 0
leads_none xs which type n =
    let same : which ≡ 0 + which = omega arith in
    subst (λ k. IsNextOf (map field_view xs) k type) same n

pub leads_on : (xs : List Field) (i : ℕ) (x : Field) → i < length xs → x ≡ get_or xs i x → MayBeAbsent (requirement_view x.presence) → LeadsTo xs i → LeadsTo xs (i + 1)
leads_on xs i x below is may leads which type n =
    let here : IsNextOf (map field_view (x ∷ drop (i + 1) xs)) (suc which) type = (subst MayBeAbsent (sym (requirement_is x)) may, n) in
    let there = leads (suc which) type (subst (λ (l : List Field). IsNextOf (map field_view l) (suc which) type) (sym (left_at xs i x below is)) here) in
    let same : i + suc which ≡ i + 1 + which = omega arith in
    subst (λ k. IsNextOf (map field_view xs) k type) same there

pub next_at : (xs : List Field) (i : ℕ) (x : Field) → i < length xs → x ≡ get_or xs i x → LeadsTo xs i → IsNextOf (map field_view xs) i (ty_view x.ty)
next_at xs i x below is leads =
    let here : IsNextOf (map field_view (x ∷ drop (i + 1) xs)) zero (ty_view x.ty) = field_type x in
    let there = leads zero (ty_view x.ty) (subst (λ (l : List Field). IsNextOf (map field_view l) zero (ty_view x.ty)) (sym (left_at xs i x below is)) here) in
    subst (λ k. IsNextOf (map field_view xs) k (ty_view x.ty)) (add-zero i) there

-- a component that may come next is there
pub next_below : (cs : List ComponentView) (which : ℕ) (type : Shape) → IsNextOf cs which type → which < length cs
next_below [] which type n = absurd n
next_below (c ∷ cs) zero type n = omega arith
next_below (c ∷ cs) (suc which) type n = omega (arith, next_below cs which type n.1)

-- the slot of a component that has not come
abbrev pub no_slot : ComponentView → Option Val
no_slot c = None

pub nones : (cs : List ComponentView) → map no_slot cs ≡ replicate (length cs) None
nones [] = refl
nones (c ∷ cs) = ap (λ (l : List (Option Val)). None ∷ l) (nones cs)

pub put_into : (cs : List ComponentView) (slots new : List (Option Val)) (which : ℕ) (type : Shape) (c : ComponentView) (slot : Option Val) (value : Val) → IsNextOf (drop (length slots) cs) which type → c ≡ get_or cs (length slots + which) c → IsSlotOf c.requirement value slot → new ≡ slots ++ (replicate which None ++ (slot ∷ [])) → IsPut (run_view cs slots) which value (run_view cs new)
put_into cs slots new which type c slot value next is slot_is new_is =
    let n = length slots in
    let left = drop n cs in
    let below : which < length left = next_below left which type next in
    let many : length new ≡ n + (which + 1) =
    ap length new_is ∙ length-append slots (replicate which None ++ (slot ∷ [])) ∙ ap (λ k. n + k) (length-append (replicate which None) (slot ∷ []) ∙ ap (λ k. k + 1) (length-replicate which None)) in
    let here : get_or left which c ≡ c = get_or-drop n cs which c ∙ sym is in
    let behind : drop (which + 1) left ≡ drop (length new) cs = drop-drop (which + 1) n cs ∙ ap (λ k. drop k cs) (sym many) in
    let count : length (take which left) ≡ which = length-take-le which left (omega arith) in
    record {
      more_passed = take (which + 1) left;
      more_slots = replicate which None ++ (slot ∷ []);
      come = record {
        component = c;
        slot = slot;
        slot_is = slot_is;
        before = take which left;
        count = count;
        left_is = sym (take-append-drop which left) ∙ ap (λ (l : List ComponentView). take which left ++ l) (drop_more left which c below ∙ ap (λ (x : ComponentView). x ∷ drop (which + 1) left) here ∙ ap (λ (l : List ComponentView). c ∷ l) behind);
        passed_is = take_more left which c below ∙ ap (λ (x : ComponentView). take which left ++ (x ∷ [])) here;
        slots_are = ap (λ (l : List (Option Val)). l ++ (slot ∷ [])) (ap (λ k. replicate k None) (sym count) ∙ sym (nones (take which left)));
      };
      passed_are = ap (λ k. take k cs) many ∙ sym (take-append-drop n (take (n + (which + 1)) cs)) ∙ ap (λ (l : List ComponentView). l ++ drop n (take (n + (which + 1)) cs)) (take-take n (n + (which + 1)) cs (omega arith)) ∙ ap (λ (l : List ComponentView). take n cs ++ l) (drop-take n (which + 1) cs);
      slots_are = new_is;
    }

-- all of these may be absent
abbrev pub AllAbsent : List Field → Type 0
AllAbsent xs = AllByRecursion (λ (c : ComponentView). MayBeAbsent c.requirement) (map field_view xs)

pub absent_first : (x : Field) (xs : List Field) → AllAbsent (x ∷ xs) ↔ (MayBeAbsent (requirement_view x.presence) × AllAbsent xs)
absent_first x xs =
    let same = requirement_is x in
    (λ h. (subst MayBeAbsent same h.0, h.1), λ h. (subst MayBeAbsent (sym same) h.0, h.1))

-- one more slot is left empty
pub pass_more : (slots : List (Option Value)) (before : List (Option Val)) (i : ℕ) → map (option_map value_view) slots ≡ before ++ replicate i None → map (option_map value_view) (slots ++ (None ∷ [])) ≡ before ++ replicate (i + 1) None
pass_more slots before i h =
    let last : List (Option Val) = None ∷ [] in
    let none : Option Val = None in
    map_push (option_map value_view) slots None ∙ ap (λ (l : List (Option Val)). l ++ last) h ∙ append_assoc before (replicate i none) last ∙ ap (λ (l : List (Option Val)). before ++ l) (replicate_more i none)

-- the components that are left
pub left_is : (fields xs : List Field) (slots : List (Option Value)) (n : ℕ) → xs ≡ drop n fields → n ≡ length slots → map field_view xs ≡ drop (length (map (option_map value_view) slots)) (map field_view fields)
left_is fields xs slots n same many =
    ap (map field_view) same ∙ sym (drop-map field_view n fields) ∙ ap (λ k. drop k (map field_view fields)) (many ∙ sym (length-map slots (option_map value_view)))

pub left_empty : (xs : List Field) (left : List ComponentView) (i : ℕ) → map field_view xs ≡ left → i ≡ length xs → replicate i None ≡ map no_slot left
left_empty xs left i same all = ap (λ k. replicate k None) (all ∙ sym (length-map xs field_view) ∙ ap length same) ∙ sym (nones left)

-- where the component stands whose value is put
pub record IsPlace (fields : List Field) (slots : List (Option Val)) (which place : ℕ) : Type 0 where
  pub place_is : place ≡ length slots + which
  pub below : place < length fields

pub place_of : (fields : List Field) (slots : List (Option Val)) (new : List (Option Value)) (which : ℕ) (type : Shape) → map (option_map value_view) new ≡ slots ++ replicate which None → IsNextOf (drop (length slots) (map field_view fields)) which type → IsPlace fields slots which (length new)
place_of fields slots new which type new_is next =
    let none : Option Val = None in
    let many : length new ≡ length slots + which = sym (length-map new (option_map value_view)) ∙ ap length new_is ∙ length-append slots (replicate which none) ∙ ap (λ k. length slots + k) (length-replicate which none) in
    let short = next_below (drop (length slots) (map field_view fields)) which type next in
    record { place_is = many; below = omega (arith, many, short, length-drop (length slots) (map field_view fields), length-map fields field_view) }

pub put_at : (fields : List Field) (slots : List (Option Val)) (passed new : List (Option Value)) (which place : ℕ) (type : Shape) (f : Field) (slot : Option Value) (value : Val) → IsNextOf (drop (length slots) (map field_view fields)) which type → IsPlace fields slots which place → f ≡ get_or fields place f → IsSlotOf (requirement_view f.presence) value (option_map value_view slot) → map (option_map value_view) passed ≡ slots ++ replicate which None → new ≡ passed ++ (slot ∷ []) → IsPut (run_view (map field_view fields) slots) which value (run_view (map field_view fields) (map (option_map value_view) new))
put_at fields slots passed new which place type f slot value next at is slot_is passed_is new_is =
    let cs = map field_view fields in
    let none : Option Val = None in
    let last : List (Option Val) = option_map value_view slot ∷ [] in
    let there : field_view f ≡ get_or cs place (field_view f) = ap field_view is ∙ sym (get_or-map field_view fields place f (field_view f) at.below) in
    let all : map (option_map value_view) new ≡ slots ++ (replicate which none ++ last) =
    ap (map (option_map value_view)) new_is ∙ map_push (option_map value_view) passed slot ∙ ap (λ (l : List (Option Val)). l ++ last) passed_is ∙ append_assoc slots (replicate which none) last in
    put_into cs slots (map (option_map value_view) new) which type (field_view f) (option_map value_view slot) value next (subst (λ k. field_view f ≡ get_or cs k (field_view f)) at.place_is there)
    (subst (λ r. IsSlotOf r value (option_map value_view slot)) (sym (requirement_is f)) slot_is) all
