-- Lemmas on the items of a SEQUENCE OF or SET OF, one after another: where they are ordered, each is at most the next one.
use Rattle.std.proofs.Common.{◌≡◌, ℕ, ◌+◌, ◌-◌, ◌<◌, ◌≤◌, ◌⊎◌, inl, inr, List, [], ◌∷◌, ◌++◌, Bool, true, false, Vec, Global, length, take, drop, map, refl, sym, ◌∙◌, ap, subst, subst₂, arith, append_assoc, length-append}
use Rattle.std.specs.List.{AllByRecursion, AllZip, concat}
use Rattle.std.specs.Ordering.{nat_cmp, is_lt, ordering_then, MatchOrdering}
use Rattle.std.specs.declared.cmp.Ordering.{Ordering}
use Rattle.std.specs.declared.cmp.Ordering.TheVariants.{Less, Equal, Greater}
use Rattle.std.specs.Cmp.{ranked}
use Rattle.std.specs.Cmp.Lexicographic.{slice_cmp}
use Rattle.std.proofs.Math.Seq.{take-add}
use Rattle.std.proofs.lemmas.List.{length-take-le, length-drop, drop-drop, map-append}
use Rattle.std.proofs.lemmas.List.Sorted.{IsPermutation-refl}
use Rattle.octets.specs.declared.canonical.Canonical.{Canonical}
use Rattle.octets.specs.declared.tag.Tag.{Tag}
use Rattle.octets.specs.Rule.{Rule, rule_of}
use Rattle.octets.proofs.FrontLemmas.{front_of_more}
use Rattle.types.specs.declared.value.Value.{Value}
use Rattle.types.specs.declared.value.Value as value
use Rattle.types.specs.Shape.{Shape, Val, listed}
use Rattle.types.specs.Encoding.{IsEncoding}
use Rattle.types.specs.Form.{IsConstructed}
use Rattle.types.specs.Order.{IsPaddedAtMost, Ascends}
use Rattle.types.specs.View.{value_view, items_of}
use Rattle.types.proofs.AscendingLemmas.{padded_from_cmp}
use Rattle.types.proofs.ListLemmas.{contains_first, contains_cases, not_in_nil, AllPairs-nil}
use Rattle.types.proofs.TagLemmas.{contains_either}
use Rattle.types.proofs.OrderLemmas.{padded_trans, padded_refl, nested_tie}
use Rattle.types.proofs.SortedLemmas.{AllPairs-first, AllPairs-rest, AllPairs-from_first}
use Rattle.types.proofs.ViewLemmas.{value-Items, listed-items_of}
use Rattle.types.proofs.ZipLemmas.{zip_permutes}
use Rattle.encoding_parts.specs.Parts.{IsGoodType}
use Rattle.encoding_parts.specs.Segments.{BeginsAboveZero}
use Rattle.strict.specs.Head.{Fills, mark, EndsHere}
use Rattle.strict.specs.Inside.{HasInside, IsInsideRead, list_of}
use Rattle.strict.specs.Reading.{IsRead, HasPart}
use Rattle.strict.specs.Items.{IsSomeEncoding, HasItems, AreItemsRead, between}
use Rattle.strict.proofs.PartLemmas.{one_of, same_part, one_begins, no_end_here, ends_here, fills_after, zip_last, concat_last}
use Rattle.strict.proofs.FrontLemmas.{canonical_of}

lt_step : (x y : ℕ) (xs ys : List ℕ) (first rest : Ordering) → MatchOrdering first (x < y) (x ≡ y) (y < x) → is_lt (ordering_then first rest) ≡ true → (is_lt rest ≡ true → IsPaddedAtMost xs ys) → IsPaddedAtMost (x ∷ xs) (y ∷ ys)
lt_step x y xs ys Less rest m h k = inl m
lt_step x y xs ys Equal rest m h k = inr (m, k h)
lt_step x y xs ys Greater rest m h k = cc

-- what comes before is at most the other
less_at_most : (xs ys : List ℕ) → is_lt (slice_cmp nat_cmp xs ys) ≡ true → IsPaddedAtMost xs ys
less_at_most [] ys h = tt
less_at_most (x ∷ xs) [] h = cc
less_at_most (x ∷ xs) (y ∷ ys) h = lt_step x y xs ys (nat_cmp x y) (slice_cmp nat_cmp xs ys) (ranked x y (nat_cmp x y) refl) h (less_at_most xs ys)

not_less_step : (x : ℕ) (first rest : Ordering) → MatchOrdering first (x < x) (x ≡ x) (x < x) → is_lt (ordering_then first rest) ≡ true → (is_lt rest ≡ true → ⊥) → ⊥
not_less_step x Less rest m h k = absurd (omega (arith, m))
not_less_step x Equal rest m h k = k h
not_less_step x Greater rest m h k = cc

not_less : (xs : List ℕ) → is_lt (slice_cmp nat_cmp xs xs) ≡ true → ⊥
not_less [] h = cc
not_less (x ∷ xs) h = not_less_step x (nat_cmp x x) (slice_cmp nat_cmp xs xs) (ranked x x (nat_cmp x x) refl) h (not_less xs)

none_before_nil : (xs : List ℕ) → is_lt (slice_cmp nat_cmp xs []) ≡ true → ⊥
none_before_nil [] h = cc
none_before_nil (x ∷ xs) h = cc

-- of two encodings of a type, one that comes before the other is not after it
not_after : (rule : Rule) (type : Shape) (a b : List ℕ) → IsGoodType type → IsSomeEncoding rule type a → (b ≡ []) ⊎ IsSomeEncoding rule type b → is_lt (slice_cmp nat_cmp a b) ≡ true → IsPaddedAtMost b a → ⊥
not_after rule type a b good h (inl none) less at_most = none_before_nil a (subst (λ x. is_lt (slice_cmp nat_cmp a x) ≡ true) none less)
not_after rule type a b good h (inr k) less at_most =
    let one = one_of rule type h.0 a good h.1 in
    let other = one_of rule type k.0 b good k.1 in
    let same : a ≡ b = nested_tie one.0 other.0 a b one.1 other.1 (less_at_most a b less) at_most in
    not_less b (subst (λ x. is_lt (slice_cmp nat_cmp x b) ≡ true) same less)

-- what goes on: an item that, where they are ordered, is at least the last one
pub record IsNextItem (rule : Rule) (type : Shape) (ordered definite : Bool) (room : ℕ) (last octets : List ℕ) : Type 0 where
  pub value : Val
  pub part : List ℕ
  pub tail : List ℕ
  pub encoding : IsEncoding rule type value part
  pub fits : length part ≤ room
  pub at_most : ordered ≡ true → IsPaddedAtMost last part
  pub parts : octets ≡ part ++ tail
  pub later : HasItems rule type ordered definite (room - length part) part tail

next_of : (rule : Rule) (type : Shape) (ordered definite : Bool) (room : ℕ) (last octets rest : List ℕ) (values : List Val) (order : List (List ℕ)) → AllZip (IsEncoding rule type) values order → (ordered ≡ true → Ascends (last ∷ order)) → Fills definite room (concat order)
    → octets ≡ concat order ++ (mark definite ++ rest) → EndsHere definite room octets ⊎ IsNextItem rule type ordered definite room last octets
next_of rule type ordered definite room last octets rest [] [] each ascends fills parts = inl (subst (EndsHere definite room) (sym parts) (ends_here definite room rest fills))
next_of rule type ordered definite room last octets rest [] (y ∷ ys) each ascends fills parts = elim each [ ]
next_of rule type ordered definite room last octets rest (x ∷ xs) [] each ascends fills parts = elim each [ ]
next_of rule type ordered definite room last octets rest (x ∷ xs) (y ∷ ys) each ascends fills parts =
    let tail = concat ys ++ (mark definite ++ rest) in
    inr record {
      value = x;
      part = y;
      tail = tail;
      encoding = each.0;
      fits = omega (arith, fills.within, length-append y (concat ys));
      at_most = λ on. AllPairs-first IsPaddedAtMost last y (y ∷ ys) (ascends on) (contains_first y y ys refl);
      parts = parts ∙ append_assoc y (concat ys) (mark definite ++ rest);
      later = record { values = xs; order = ys; rest = rest; each = each.1; ascends = λ on. AllPairs-rest IsPaddedAtMost last (y ∷ ys) (ascends on); fills = fills_after definite room (length y) y (concat ys) refl fills; parts = refl };
    }

pub next_item : (rule : Rule) (type : Shape) (ordered definite : Bool) (room : ℕ) (last octets : List ℕ) → HasItems rule type ordered definite room last octets → EndsHere definite room octets ⊎ IsNextItem rule type ordered definite room last octets
next_item rule type ordered definite room last octets h = next_of rule type ordered definite room last octets h.rest h.values h.order h.each h.ascends h.fills h.parts

pub item_or_end : (rule : Rule) (type : Shape) (ordered definite : Bool) (room : ℕ) (last octets : List ℕ) → IsGoodType type → HasItems rule type ordered definite room last octets → EndsHere definite room octets ⊎ BeginsAboveZero octets
item_or_end rule type ordered definite room last octets good h =
    elim (next_item rule type ordered definite room last octets h) [
      | inl ends ↦ inl ends
      | inr n ↦ inr (subst BeginsAboveZero (sym n.parts) (one_begins n.part n.tail (one_of rule type n.value n.part good n.encoding)))
    ]

pub item_stands : (rule : Rule) (type : Shape) (ordered definite : Bool) (room : ℕ) (last octets : List ℕ) → (EndsHere definite room octets → ⊥) → HasItems rule type ordered definite room last octets → HasPart rule type room octets
item_stands rule type ordered definite room last octets goes h =
    elim (next_item rule type ordered definite room last octets h) [
      | inl ends ↦ absurd (goes ends)
      | inr n ↦ record { value = n.value; part = n.part; rest = n.tail; encoding = n.encoding; fits = n.fits; parts = n.parts }
    ]

-- what was read is that item
pub record IsThatItem (rule : Rule) (type : Shape) (ordered definite : Bool) (room used : ℕ) (last octets more : List ℕ) : Type 0 where
  pub at_most : ordered ≡ true → IsPaddedAtMost last (take used octets)
  pub later : HasItems rule type ordered definite (room - used) (take used octets) (drop used octets ++ more)

pub that_item : (rule : Rule) (type : Shape) (ordered definite : Bool) (room used : ℕ) (v : Val) (last octets more : List ℕ) → IsGoodType type → used ≤ length octets → used ≤ room → IsEncoding rule type v (take used octets)
    → HasItems rule type ordered definite room last (octets ++ more) → IsThatItem rule type ordered definite room used last octets more
that_item rule type ordered definite room used v last octets more good there fits encoding h =
    let front = take used octets in
    let tail = drop used octets ++ more in
    let one = one_of rule type v front good encoding in
    let size : length front ≡ used = length-take-le used octets there in
    let split : octets ++ more ≡ front ++ tail = front_of_more used octets more in
    elim (next_item rule type ordered definite room last (octets ++ more) h) [
      | inl ends ↦ absurd (no_end_here definite room front tail one (omega (arith, size, fits)) (subst (EndsHere definite room) split ends))
      | inr n ↦
          let same = same_part n.part front n.tail tail (one_of rule type n.value n.part good n.encoding) one (sym n.parts ∙ split) in
          let here : HasItems rule type ordered definite (room - length n.part) front tail = subst₂ (HasItems rule type ordered definite (room - length n.part)) same.0 same.1 n.later in
          record { at_most = λ on. subst (IsPaddedAtMost last) same.0 (n.at_most on); later = subst (λ m. HasItems rule type ordered definite (room - m) front tail) (ap length same.0 ∙ size) here }
    ]

-- no item yet
pub no_items : (rule : Rule) (type : Shape) (ordered definite : Bool) (room : ℕ) (octets : List ℕ) (items : List Value) → items ≡ [] → AreItemsRead rule type ordered definite room octets items 0 0
no_items rule type ordered definite room octets items none = record {
  there = omega arith;
  within = omega arith;
  behind = omega arith;
  encodings = [];
  each = subst (λ l. AllZip (IsEncoding rule type) (map value_view l) []) (sym none) tt;
  joined = refl;
  ascends = λ on. AllPairs-nil IsPaddedAtMost;
  most = λ on. tt;
  one = inl refl;
  forth = λ more h. subst (λ n. HasItems rule type ordered definite n [] (octets ++ more)) (omega arith) h;
}

all_step : (P Q : List ℕ → Type 0) → ((e : List ℕ) → P e → Q e) → (es : List (List ℕ)) (e : List ℕ) → AllByRecursion P es → Q e → AllByRecursion Q (es ++ (e ∷ []))
all_step P Q f [] e h k = (k, tt)
all_step P Q f (x ∷ es) e h k = (f x h.0, all_step P Q f es e h.1 k)

ascends_last : (es : List (List ℕ)) (e : List ℕ) → Ascends es → AllByRecursion (λ a. IsPaddedAtMost a e) es → Ascends (es ++ (e ∷ []))
ascends_last [] e h k = AllPairs-from_first IsPaddedAtMost e [] (λ b c. absurd (not_in_nil b c)) (AllPairs-nil IsPaddedAtMost)
ascends_last (x ∷ es) e h k =
    AllPairs-from_first IsPaddedAtMost x (es ++ (e ∷ []))
    (λ b c. elim (contains_either es (e ∷ []) b c) [ inl here ↦ AllPairs-first IsPaddedAtMost x b es h here | inr last ↦ elim (contains_cases e b [] last) [ inl same ↦ subst (IsPaddedAtMost x) same k.0 | inr never ↦ absurd (not_in_nil b never) ] ])
    (ascends_last es e (AllPairs-rest IsPaddedAtMost x es h) k.1)

all_below : (es : List (List ℕ)) (last part : List ℕ) → AllByRecursion (λ e. IsPaddedAtMost e last) es → IsPaddedAtMost last part → AllByRecursion (λ e. IsPaddedAtMost e part) es
all_below [] last part h k = tt
all_below (x ∷ es) last part h k = (padded_trans x last part h.0 k, all_below es last part h.1 k)

-- one item more
pub item_read : (rule : Rule) (type : Shape) (ordered definite : Bool) (room : ℕ) (octets : List ℕ) (items : List Value) (v : Value) (before at used : ℕ) → IsGoodType type → AreItemsRead rule type ordered definite room octets items before at
    → IsRead rule type (room - at) (drop at octets) v used → (ordered ≡ true → is_lt (slice_cmp nat_cmp (take used (drop at octets)) (between octets before at)) ≡ false) → AreItemsRead rule type ordered definite room octets (items ++ (v ∷ [])) at (at + used)
item_read rule type ordered definite room octets items v before at used good h one order =
    let rest = drop at octets in
    let part = take used rest in
    let last = between octets before at in
    let size = length-drop at octets in
    let next : between octets at (at + used) ≡ part = ap (λ n. take n rest) (omega arith) in
    let at_most : ordered ≡ true → IsPaddedAtMost last part = λ on. padded_from_cmp last part (order on) in
    record {
      there = omega (arith, h.there, one.0, size);
      within = omega (arith, h.within, one.1);
      behind = omega arith;
      encodings = h.encodings ++ (part ∷ []);
      each = subst (λ l. AllZip (IsEncoding rule type) l (h.encodings ++ (part ∷ []))) (sym (map-append value_view items (v ∷ []))) (zip_last (IsEncoding rule type) (map value_view items) h.encodings (value_view v) part h.each one.2);
      joined = take-add at used octets ∙ (ap (λ x. x ++ part) h.joined ∙ sym (concat_last h.encodings part));
      ascends = λ on. ascends_last h.encodings part (h.ascends on) (all_below h.encodings last part (h.most on) (at_most on));
      most = λ on. subst (λ x. AllByRecursion (λ e. IsPaddedAtMost e x) (h.encodings ++ (part ∷ []))) (sym next)
          (all_step (λ e. IsPaddedAtMost e last) (λ e. IsPaddedAtMost e part) (λ e k. padded_trans e last part k (at_most on)) h.encodings part (h.most on) (padded_refl part));
      one = inr (value_view v, subst (IsEncoding rule type (value_view v)) (sym next) one.2);
      forth = λ more k.
          let that = that_item rule type ordered definite (room - at) used (value_view v) last rest more good one.0 one.1 one.2 (h.forth more k) in
          let left : (room - at) - used ≡ room - (at + used) = omega arith in
          subst (λ l. HasItems rule type ordered definite (room - (at + used)) l (drop (at + used) octets ++ more)) (sym next) (subst₂ (λ n x. HasItems rule type ordered definite n part (x ++ more)) left (drop-drop used at octets) that.later);
    }

-- what comes before the last one cannot stand there
pub none_out_of_order : (rule : Rule) (type : Shape) (ordered definite : Bool) (room : ℕ) (octets more : List ℕ) (items : List Value) (v : Value) (before at used : ℕ) → IsGoodType type → AreItemsRead rule type ordered definite room octets items before at
    → IsRead rule type (room - at) (drop at octets) v used → ordered ≡ true → is_lt (slice_cmp nat_cmp (take used (drop at octets)) (between octets before at)) ≡ true → HasItems rule type ordered definite room [] (octets ++ more) → ⊥
none_out_of_order rule type ordered definite room octets more items v before at used good h one on less k =
    let rest = drop at octets in
    let last = between octets before at in
    let that = that_item rule type ordered definite (room - at) used (value_view v) last rest more good one.0 one.1 one.2 (h.forth more k) in
    not_after rule type (take used rest) last good (value_view v, one.2) h.one less (that.at_most on)

-- they are the contents octets of a SEQUENCE OF or SET OF
pub list_read : (rule : Canonical) (ordered : Bool) (tag : Tag) (type : Shape) (definite : Bool) (room : ℕ) (octets : List ℕ) (items : Vec Value Global) (before used : ℕ) → AreItemsRead (rule_of rule) type ordered definite room octets items.items before used
    → EndsHere definite (room - used) (drop used octets) → IsInsideRead (rule_of rule) (list_of ordered tag type) definite room octets (value.Items items) used
list_read rule true tag type definite room octets items before used read ends =
    let values = map value_view items.items in
    let shape = Shape.set_of tag type in
    record {
      there = read.there;
      within = read.within;
      ends = ends;
      makes = λ own whole is made.
          let same : tag ≡ own = cc is in
          let encodes : IsEncoding (rule_of rule) shape (Val.items (items_of values)) whole = record {
            items = items_of values;
            is = refl;
            encodings = read.encodings;
            each = subst (λ l. AllZip (IsEncoding (rule_of rule) type) l read.encodings) (sym (listed-items_of values)) read.each;
            order = read.encodings;
            permutes = IsPermutation-refl read.encodings;
            ascends = λ canonical. read.ascends refl;
            whole = subst₂ (λ t x. IsConstructed (rule_of rule) t x whole) (sym same) read.joined made;
          } in
          subst (λ v. IsEncoding (rule_of rule) shape v whole) (sym (value-Items items)) encodes;
    }
list_read rule false tag type definite room octets items before used read ends =
    let values = map value_view items.items in
    let shape = Shape.sequence_of tag type in
    record {
      there = read.there;
      within = read.within;
      ends = ends;
      makes = λ own whole is made.
          let same : tag ≡ own = cc is in
          let encodes : IsEncoding (rule_of rule) shape (Val.items (items_of values)) whole = record {
            items = items_of values;
            is = refl;
            encodings = read.encodings;
            each = subst (λ l. AllZip (IsEncoding (rule_of rule) type) l read.encodings) (sym (listed-items_of values)) read.each;
            whole = subst₂ (λ t x. IsConstructed (rule_of rule) t x whole) (sym same) read.joined made;
          } in
          subst (λ v. IsEncoding (rule_of rule) shape v whole) (sym (value-Items items)) encodes;
    }

-- what can stand inside one
pub items_inside : (rule : Canonical) (ordered : Bool) (tag : Tag) (type : Shape) (definite : Bool) (room : ℕ) (octets : List ℕ) → HasInside (rule_of rule) (list_of ordered tag type) definite room octets → HasItems (rule_of rule) type ordered definite room [] octets
items_inside rule true tag type definite room octets h =
    let e = h.encoding in
    let zipped = zip_permutes (IsEncoding (rule_of rule) type) (listed e.items) e.encodings e.order e.each e.permutes in
    record { values = zipped.0; order = e.order; rest = h.rest; each = zipped.2; ascends = λ on. AllPairs-from_first IsPaddedAtMost [] e.order (λ b k. tt) (e.ascends (canonical_of rule)); fills = h.fills; parts = h.parts }
items_inside rule false tag type definite room octets h =
    let e = h.encoding in
    record { values = listed e.items; order = e.encodings; rest = h.rest; each = e.each; ascends = λ on. absurd (cc on); fills = h.fills; parts = h.parts }
