-- Lemmas on texts of values, part by part.
use Rattle.std.proofs.Common.{◌≡◌, ◌∙◌, ◌+◌, ◌*◌, ◌-◌, ◌/◌, ◌%◌, ◌<◌, ◌≤◌, ◌++◌, ℕ, zero, suc, Bool, false, cond, List, [], ◌∷◌, Option, Some, None, OnOk, codes, length, map, take, drop, get_or, min, nat_eq, replicate, refl, sym, ap, ap₂, subst, subst₂, arith, append_assoc, length-drop}
use Rattle.std.proofs.lemmas.List.{append-nil, map-append, take_more, take-append-drop, length-map, length-replicate}
use Rattle.std.proofs.lemmas.Slice.{take-put_mid}
use borrow.Rule.Slice.PartMut.{put_mid}
use Rattle.std.specs.declared.result.Result.{Result}
use Rattle.octets.proofs.ResultLemmas.{OnOk-map}
use Rattle.primitives.specs.Bits.{bits_of, bits_of_octet, bits_before, IsPadded}
use Rattle.primitives.proofs.BitsLemmas.{length-bits_of_octet, bits_of-append, bits_before-parts, one_padding}
use Rattle.types.specs.declared.ty.Ty.{Ty}
use Rattle.types.specs.declared.ty.Field.{Field}
use Rattle.types.specs.declared.ty.Alternative.{Alternative}
use Rattle.types.specs.declared.value.Value.{Value}
use Rattle.types.specs.Shape.{Val, Shape, listed}
use Rattle.types.specs.View.{ty_view, value_view, items_view, components_view, alternatives_view, slots_view, ComponentView, AlternativeView}
use Rattle.types.proofs.ViewLemmas.{listed-items_view, field_is, alternative_is}
use Rattle.texts.specs.Leaf.{bit_digit}
use Rattle.texts.specs.Text.{led, in_braces, text_of, component_texts, alternative_text}

-- a text was appended
abbrev pub Added : {E : Type 0} → Result (Unit {0}) E → List ℕ → List ℕ → List ℕ → Type 0
Added r old text new = OnOk r (new ≡ old ++ text)

pub text_along : {E : Type 0} (r : Result (Unit {0}) E) (old new : List ℕ) (s t : Shape) (v w : Val) → s ≡ t → v ≡ w → Added r old (text_of t w) new → Added r old (text_of s v) new
text_along r old new s t v w p q h = subst₂ (λ x y. Added r old (text_of x y) new) (sym p) (sym q) h

pub slots_added : {E : Type 0} (r : Result (Unit {0}) E) (old new : List ℕ) (fs gs : List Field) (ss ts : List (Option Value)) → fs ≡ gs → ss ≡ ts → Added r old (in_braces (component_texts (components_view fs) (slots_view ss))) new
    → Added r old (in_braces (component_texts (components_view gs) (slots_view ts))) new
slots_added r old new fs gs ss ts p q h = subst₂ (λ x y. Added r old (in_braces (component_texts (components_view x) (slots_view y))) new) p q h

pub items_added : {E : Type 0} (r : Result (Unit {0}) E) (old new : List ℕ) (s t : Ty) (vs ws : List Value) → s ≡ t → vs ≡ ws → Added r old (in_braces (map (text_of (ty_view s)) (map value_view vs))) new
    → Added r old (in_braces (map (text_of (ty_view t)) (listed (items_view ws)))) new
items_added r old new s t vs ws p q h =
    subst (λ xs. Added r old (in_braces (map (text_of (ty_view t)) xs)) new) (sym (listed-items_view ws)) (subst₂ (λ x y. Added r old (in_braces (map (text_of (ty_view x)) (map value_view y))) new) p q h)

-- braces around texts
pub braced : (old opened mid new : List ℕ) (texts : List (List ℕ)) → opened ≡ old ++ codes "{" → mid ++ [] ≡ opened ++ led (codes " ") texts → new ≡ mid ++ codes " }" → new ≡ old ++ in_braces texts
braced old opened mid new texts a b c =
    c ∙ (ap (λ m. m ++ codes " }") (sym (append-nil mid) ∙ (b ∙ ap (λ o. o ++ led (codes " ") texts) a)) ∙ regroup old (codes "{") (led (codes " ") texts) (codes " }"))
  where
    regroup : (p q r s : List ℕ) → ((p ++ q) ++ r) ++ s ≡ p ++ (q ++ r ++ s)
    regroup p q r s = simp append_assoc

-- the text of an alternative, by its place
pub alternative_at : (xs : List Alternative) (which : ℕ) (a : Alternative) (v : Val) → which < length xs → a ≡ get_or xs which a → alternative_text (alternatives_view xs) which v ≡ a.name ++ codes " : " ++ text_of (ty_view a.ty) v
alternative_at [] which a v below is = absurd (omega arith)
alternative_at (x ∷ xs) zero a v below is =
    ap (λ (w : AlternativeView). w.name ++ codes " : " ++ text_of w.type v) (alternative_is x) ∙ ap (λ (y : Alternative). y.name ++ codes " : " ++ text_of (ty_view y.ty) v) (sym is)
alternative_at (x ∷ xs) (suc which) a v below is = alternative_at xs which a v (omega arith) is

pub no_alternative_past : (xs : List Alternative) (which : ℕ) (v : Val) → length xs ≤ which → alternative_text (alternatives_view xs) which v ≡ []
no_alternative_past [] which v past = refl
no_alternative_past (x ∷ xs) zero v past = absurd (omega arith)
no_alternative_past (x ∷ xs) (suc which) v past = no_alternative_past xs which v (omega arith)

pub chosen_added : {E : Type 0} (r : Result (Unit {0}) E) (old one two new : List ℕ) (xs : List Alternative) (which : ℕ) (a : Alternative) (v : Val) → which < length xs → a ≡ get_or xs which a → one ≡ old ++ a.name → two ≡ one ++ codes " : "
    → Added r two (text_of (ty_view a.ty) v) new → Added r old (alternative_text (alternatives_view xs) which v) new
chosen_added r old one two new xs which a v below at named colon put =
    OnOk-map r _ _
    (λ e. e ∙ (ap (λ m. m ++ text_of (ty_view a.ty) v) (colon ∙ ap (λ m. m ++ codes " : ") named) ∙ (regroup old a.name (codes " : ") (text_of (ty_view a.ty) v) ∙ ap (λ x. old ++ x) (sym (alternative_at xs which a v below at)))))
    put
  where
    regroup : (p q r' s : List ℕ) → ((p ++ q) ++ r') ++ s ≡ p ++ (q ++ r' ++ s)
    regroup p q r' s = simp append_assoc

-- the texts of components that are left, from a place on
abbrev pub texts_from : List Field → List (Option Value) → ℕ → List (List ℕ)
texts_from fields slots i = component_texts (components_view (drop i fields)) (slots_view (drop i slots))

pub present_at : (fields : List Field) (slots : List (Option Value)) (i : ℕ) (f : Field) (v : Value) → i < length fields → i < length slots → f ≡ get_or fields i f → Some v ≡ get_or slots i (Some v)
    → texts_from fields slots i ≡ (f.name ++ codes " " ++ text_of (ty_view f.ty) (value_view v)) ∷ texts_from fields slots (suc i)
present_at [] slots i f v l k at stands = absurd (omega arith)
present_at (g ∷ fields) [] i f v l k at stands = absurd (omega arith)
present_at (g ∷ fields) (None ∷ slots) zero f v l k at stands = cc
present_at (g ∷ fields) (Some w ∷ slots) zero f v l k at stands =
    let same : w ≡ v = cc stands in
    ap₂ (λ (x : ComponentView) (y : Value). (x.name ++ codes " " ++ text_of x.type (value_view y)) ∷ component_texts (components_view fields) (slots_view slots)) (field_is g) same
    ∙ ap (λ (h : Field). (h.name ++ codes " " ++ text_of (ty_view h.ty) (value_view v)) ∷ component_texts (components_view fields) (slots_view slots)) (sym at)
present_at (g ∷ fields) (None ∷ slots) (suc i) f v l k at stands = present_at fields slots i f v (omega arith) (omega arith) at stands
present_at (g ∷ fields) (Some w ∷ slots) (suc i) f v l k at stands = present_at fields slots i f v (omega arith) (omega arith) at stands

pub absent_at : (fields : List Field) (slots : List (Option Value)) (i : ℕ) → i < length fields → i < length slots → None ≡ get_or slots i None → texts_from fields slots i ≡ texts_from fields slots (suc i)
absent_at [] slots i l k stands = absurd (omega arith)
absent_at (g ∷ fields) [] i l k stands = absurd (omega arith)
absent_at (g ∷ fields) (None ∷ slots) zero l k stands = refl
absent_at (g ∷ fields) (Some w ∷ slots) zero l k stands = cc
absent_at (g ∷ fields) (None ∷ slots) (suc i) l k stands = absent_at fields slots i (omega arith) (omega arith) stands
absent_at (g ∷ fields) (Some w ∷ slots) (suc i) l k stands = absent_at fields slots i (omega arith) (omega arith) stands

no_slots_left : (fields : List Field) → component_texts (components_view fields) (slots_view []) ≡ []
no_slots_left [] = refl
no_slots_left (f ∷ fields) = refl

pub none_past : (fields : List Field) (slots : List (Option Value)) (i : ℕ) → min (length fields) (length slots) ≤ i → texts_from fields slots i ≡ []
none_past [] slots zero past = refl
none_past [] slots (suc i) past = refl
none_past (g ∷ fields) [] zero past = refl
none_past (g ∷ fields) [] (suc i) past = no_slots_left (drop i fields)
none_past (g ∷ fields) (s ∷ slots) zero past = absurd (omega arith)
none_past (g ∷ fields) (s ∷ slots) (suc i) past = none_past fields slots i (omega arith)

-- one more component was appended, behind a space where it is the first and else behind a comma
pub one_more : (is_first : Bool) (whole now mid new name text : List ℕ) (texts others : List (List ℕ)) → now ++ led (cond is_first (codes " ") (codes ", ")) texts ≡ whole → texts ≡ (name ++ codes " " ++ text) ∷ others
    → mid ≡ now ++ cond is_first (codes " ") (codes ", ") → new ≡ mid ++ name ++ codes " " ++ text → new ++ led (codes ", ") others ≡ whole
one_more is_first whole now mid new name text texts others h is pushed put =
    let lead = cond is_first (codes " ") (codes ", ") in
    let here : now ++ (lead ++ (name ++ codes " " ++ text) ++ led (codes ", ") others) ≡ whole = ap (λ ts. now ++ led lead ts) (sym is) ∙ h in
    let there : new ≡ (now ++ lead) ++ name ++ codes " " ++ text = put ∙ ap (λ m. m ++ name ++ codes " " ++ text) pushed in
    ap (λ n. n ++ led (codes ", ") others) there ∙ (regroup now lead name (codes " ") text (led (codes ", ") others) ∙ here)
  where
    regroup : (a b c d e f : List ℕ) → ((a ++ b) ++ c ++ d ++ e) ++ f ≡ a ++ (b ++ (c ++ d ++ e) ++ f)
    regroup a b c d e f = simp append_assoc

-- the bits of octets, those of the last one apart
pub bits_before_last : (octets front : List ℕ) (last unused : ℕ) → octets ≡ front ++ last ∷ [] → unused ≤ 7 → bits_before octets unused ≡ bits_of front ++ take (8 - unused) (bits_of_octet last)
bits_before_last octets front last unused is few =
    let all = bits_of_octet last in
    let whole : bits_of octets ≡ bits_of front ++ (all ++ []) = ap bits_of is ∙ bits_of-append front (last ∷ []) in
    let split : bits_of octets ≡ (bits_of front ++ take (8 - unused) all) ++ drop (8 - unused) all =
    whole ∙ (ap (λ bs. bits_of front ++ bs) (append-nil all ∙ sym (take-append-drop (8 - unused) all)) ∙ sym (append_assoc (bits_of front) (take (8 - unused) all) (drop (8 - unused) all))) in
    bits_before-parts octets unused (bits_of front ++ take (8 - unused) all) (drop (8 - unused) all) split (omega (arith, length-drop (8 - unused) all, length-bits_of_octet last))

pub bits_padded : (bits : List Bool) (octets others : List ℕ) (unused other : ℕ) → IsPadded bits octets other → IsPadded bits others unused → bits_before octets unused ≡ bits
bits_padded bits octets others unused other h g =
    ap (λ u. bits_before octets u) (sym (one_padding bits octets others other unused h g).unused) ∙ bits_before-parts octets other bits (replicate other false) h.bits_are (length-replicate other false)

-- the digits of an octet are those of its high four bits, and then those of its low ones
digits_by_four : (octet : ℕ) → map bit_digit (bits_of_octet octet) ≡ map bit_digit (drop 4 (bits_of_octet (octet / 16))) ++ map bit_digit (drop 4 (bits_of_octet (octet % 16)))
unfolding bits_of_octet
digits_by_four octet =
    let digit = λ (n : ℕ) (rest : List ℕ). bit_digit (nat_eq n 1) ∷ rest in
    ap₂ digit (let e : octet / 128 % 2 ≡ octet / 16 / 8 % 2 = omega arith in e)
    (ap₂ digit (let e : octet / 64 % 2 ≡ octet / 16 / 4 % 2 = omega arith in e)
    (ap₂ digit (let e : octet / 32 % 2 ≡ octet / 16 / 2 % 2 = omega arith in e)
    (ap₂ digit (let e : octet / 16 % 2 ≡ octet / 16 / 1 % 2 = omega arith in e)
    (ap₂ digit (let e : octet / 8 % 2 ≡ octet % 16 / 8 % 2 = omega arith in e)
    (ap₂ digit (let e : octet / 4 % 2 ≡ octet % 16 / 4 % 2 = omega arith in e)
    (ap₂ digit (let e : octet / 2 % 2 ≡ octet % 16 / 2 % 2 = omega arith in e)
    (ap₂ digit (let e : octet / 1 % 2 ≡ octet % 16 / 1 % 2 = omega arith in e) refl)))))))

pub eight_digits : (octet : ℕ) (high low : List ℕ) → high ≡ map bit_digit (drop 4 (bits_of_octet (octet / 16))) → low ≡ map bit_digit (drop 4 (bits_of_octet (octet % 16))) → put_mid 4 4 (high ++ replicate 4 0) low ≡ map bit_digit (bits_of_octet octet)
unfolding bits_of_octet
eight_digits octet high low first second = ap₂ (λ front back. put_mid 4 4 (front ++ replicate 4 0) back) first second ∙ sym (digits_by_four octet)

pub digits-append : (xs ys : List ℕ) → map bit_digit (bits_of (xs ++ ys)) ≡ map bit_digit (bits_of xs) ++ map bit_digit (bits_of ys)
digits-append xs ys = ap (map bit_digit) (bits_of-append xs ys) ∙ map-append bit_digit (bits_of xs) (bits_of ys)

-- the digits of one more octet stand behind those of the octets before
pub digits_more : (octets digits eight : List ℕ) (i x k : ℕ) → i < length octets → x ≡ get_or octets i 0 → 8 * i ≤ length digits → eight ≡ map bit_digit (bits_of_octet x) → take (8 * i) digits ≡ map bit_digit (bits_of (take i octets))
    → take (8 * (i + 1)) (put_mid (8 * i) k digits eight) ≡ map bit_digit (bits_of (take (i + 1) octets))
digits_more octets digits eight i x k below at fits is h =
    let long : length eight ≡ 8 = ap length is ∙ (length-map (bits_of_octet x) bit_digit ∙ length-bits_of_octet x) in
    let all : take (i + 1) octets ≡ take i octets ++ x ∷ [] = take_more octets i 0 below ∙ ap (λ y. take i octets ++ y ∷ []) (sym at) in
    let one : map bit_digit (bits_of (x ∷ [])) ≡ eight = ap (map bit_digit) (append-nil (bits_of_octet x)) ∙ sym is in
    take-put_mid (8 * i) k digits eight (8 * (i + 1)) (omega arith) fits ∙ ap₂ (λ front back. front ++ back) h (sym one) ∙ sym (ap (λ xs. map bit_digit (bits_of xs)) all ∙ digits-append (take i octets) (x ∷ []))

pub digits_end : {E : Type 0} (r : Result (Unit {0}) E) (octets front : List ℕ) (last unused n : ℕ) (old now new : List ℕ) → octets ≡ front ++ last ∷ [] → unused ≤ 7 → n ≡ 8 - unused → now ≡ old ++ map bit_digit (bits_of front) → Added r now (map bit_digit (take n (bits_of_octet last))) new
    → Added r old (map bit_digit (bits_before octets unused)) new
digits_end r octets front last unused n old now new is few many h g =
    let bits = ap (map bit_digit) (bits_before_last octets front last unused is few) ∙ map-append bit_digit (bits_of front) (take (8 - unused) (bits_of_octet last)) in
    OnOk-map r _ _ (λ e. e ∙ (ap₂ (λ m k. m ++ map bit_digit (take k (bits_of_octet last))) h many ∙ (append_assoc old (map bit_digit (bits_of front)) (map bit_digit (take (8 - unused) (bits_of_octet last))) ∙ ap (λ d. old ++ d) (sym bits)))) g

pub quoted : (old opened mid new digits bits : List ℕ) → opened ≡ old ++ codes "'" → mid ≡ opened ++ digits → digits ≡ bits → new ≡ mid ++ codes "'B" → new ≡ old ++ (codes "'" ++ bits ++ codes "'B")
quoted old opened mid new digits bits a b same c =
    c ∙ (ap (λ m. m ++ codes "'B") (b ∙ ap₂ (λ x y. x ++ y) a same) ∙ regroup old (codes "'") bits (codes "'B"))
  where
    regroup : (p q r s : List ℕ) → ((p ++ q) ++ r) ++ s ≡ p ++ (q ++ r ++ s)
    regroup p q r s = simp append_assoc
