-- Lemmas on the numbers of an ENUMERATED's items and of named bits.
use Rattle.std.proofs.Common.{◌<ℤ◌, ◌+◌, ◌≤◌, Bool, true, false, IsPermutation, ◌≡◌, ◌≢◌, ◌↔◌, ◌<◌, ℕ, ℤ, pos, zero, suc, List, [], ◌∷◌, length, get_or, map, Contains, AllPairs, inl, inr, refl, sym, ap, subst, ◌∙◌, arith}
use Rattle.std.specs.List.{AllByRecursion, IsDistinct}
use Rattle.std.specs.List.Sorted.{IsSorted}
use Rattle.std.specs.declared.cmp.Ordering.{Ordering}
use Rattle.std.specs.declared.cmp.Ordering.TheVariants.{Less, Equal, Greater}
use Rattle.std.specs.Ordering.{is_lt, ordering_reverse, int_cmp, int_eq, MatchOrdering}
use Rattle.std.specs.Cmp.{int_ranks}
use Rattle.std.proofs.lemmas.Cmp.{int_cmp_total, int_eq_equiv}
use Rattle.std.proofs.lemmas.Bool.Decides.{Decides-int_eq}
use Rattle.std.proofs.lemmas.List.{length-map, get_or-map}
use Rattle.std.proofs.lemmas.List.Sorted.{sorted_far, ranks_by, IsPermutation-sym}
use Rattle.std.proofs.lemmas.Map.Keys.{IsDistinct-IsPermutation}
use Rattle.types.specs.declared.ty.Item.{Item}
use Rattle.types.specs.declared.ty.NamedBit.{NamedBit}
use Rattle.types.specs.View.{item_view, named_bit_view}
use Rattle.types.proofs.ListLemmas.{not_in_nil, contains_first, contains_later, contains_cases, first_differs, others_differ, all_differ-cons, AllPairs-nil}

abbrev pub item_numbers : List Item → List ℤ
item_numbers items = map (λ (item : Item). item.number) items

-- no item has the number
abbrev pub Lacks : ℤ → List Item → Type 0
Lacks n items = Contains (item_numbers items) n → ⊥

pub lacks_nil : (n : ℤ) → Lacks n []
lacks_nil n h = not_in_nil n h

pub lacks_first : (n : ℤ) (x : Item) (xs : List Item) → Lacks n (x ∷ xs) ↔ ((x.number ≢ n) × Lacks n xs)
lacks_first n x xs = (
  λ h. (λ same. h (contains_first x.number n (item_numbers xs) same), λ later. h (contains_later x.number n (item_numbers xs) later)),
  λ h c. elim (contains_cases x.number n (item_numbers xs) c) [ inl same ↦ h.0 same | inr later ↦ h.1 later ],
)

pub has_at : (n : ℤ) (xs : List Item) (i : ℕ) (x : Item) → i < length xs → x ≡ get_or xs i x → x.number ≡ n → Contains (item_numbers xs) n
has_at n [] i x below is same = absurd (omega arith)
has_at n (y ∷ xs) zero x below is same = contains_first y.number n (item_numbers xs) (ap (λ (z : Item). z.number) (sym is) ∙ same)
has_at n (y ∷ xs) (suc i) x below is same = contains_later y.number n (item_numbers xs) (has_at n xs i x (omega arith) is same)

-- the numbers differ
abbrev pub Differ : List Item → Type 0
Differ items = AllPairs (λ a b. a ≢ b) (item_numbers items)

pub differ_nil : Differ []
differ_nil = AllPairs-nil (λ a b. a ≢ b)

pub differ_first : (x : Item) (xs : List Item) → Differ (x ∷ xs) ↔ (Lacks x.number xs × Differ xs)
differ_first x xs = (
  λ h. (λ c. first_differs x.number (item_numbers xs) h c, others_differ x.number (item_numbers xs) h),
  λ h. all_differ-cons x.number (item_numbers xs) h.0 h.1,
)

-- the numbers of the items, whether or not with their names
pub numbers_of : (items : List Item) → map (λ item. item.number) (map item_view items) ≡ item_numbers items
numbers_of [] = refl
numbers_of (i ∷ items) = ap (λ numbers. i.number ∷ numbers) (numbers_of items)

pub differ_along : (answer : Type 0) (items found : List Item) → found ≡ items → answer ↔ Differ found → answer ↔ AllPairs (λ a b. a ≢ b) (map (λ item. item.number) (map item_view items))
differ_along answer items found p h =
    subst (λ numbers. answer ↔ AllPairs (λ a b. a ≢ b) numbers) (sym (numbers_of items)) (subst (λ (l : List Item). answer ↔ Differ l) p h)

-- numbers of which neither is below the other
tied_by : (x y : ℤ) (r : Ordering) → is_lt r ≡ false → is_lt (ordering_reverse r) ≡ false → MatchOrdering r (x <ℤ y) (x ≡ y) (y <ℤ x) → x ≡ y
tied_by x y Less below above told = absurd (cc below)
tied_by x y Equal below above told = told
tied_by x y Greater below above told = absurd (cc above)

tied : (x y : ℤ) → is_lt (int_cmp x y) ≡ false → is_lt (int_cmp y x) ≡ false → x ≡ y
tied x y below above = tied_by x y (int_cmp x y) below (subst (λ r. is_lt r ≡ false) (int_cmp_total.antisymm y x) above) (int_ranks x y)

abbrev pub AllDiffer : List ℤ → Type 0
AllDiffer numbers = AllPairs (λ a b. a ≢ b) numbers

-- numbers in order differ where neighbours do
pub differ_in_order : (xs : List ℤ) → IsSorted int_cmp xs → ((k : ℕ) (d : ℤ) → k + 1 < length xs → get_or xs k d ≢ get_or xs (k + 1) d) → AllDiffer xs
differ_in_order xs sorted next = λ i j d less within same.
    let a = get_or xs i d in
    let b = get_or xs (i + 1) d in
    let far : is_lt (int_cmp (get_or xs j d) b) ≡ false = sorted_far (λ x y. is_lt (int_cmp x y)) (ranks_by int_cmp_total (λ (x : ℤ). x)) xs sorted (i + 1) j d (omega arith) within in
    let one : is_lt (int_cmp a b) ≡ false = subst (λ z. is_lt (int_cmp z b) ≡ false) (sym same) far in
    let two : is_lt (int_cmp b a) ≡ false = sorted i d (omega arith) (omega arith) in
    next i d (omega arith) (tied a b one two)

not_true : (b : Bool) → (b ≡ true → ⊥) → b ≡ false
not_true true h = absurd (h refl)
not_true false h = refl

unequal_to_all : (x : ℤ) (xs : List ℤ) → (Contains xs x → ⊥) → AllByRecursion (λ y. int_eq x y ≡ false) xs
unequal_to_all x [] none = tt
unequal_to_all x (y ∷ ys) none = (
  not_true (int_eq x y) (λ same. none (contains_first y x ys (sym ((Decides-int_eq x y).0 same)))),
  unequal_to_all x ys (λ later. none (contains_later y x ys later)),
)

none_equal : (x : ℤ) (xs : List ℤ) → AllByRecursion (λ y. int_eq x y ≡ false) xs → Contains xs x → ⊥
none_equal x [] h c = not_in_nil x c
none_equal x (y ∷ ys) h c = elim (contains_cases y x ys c) [ inl same ↦ (let is = (Decides-int_eq x y).1 (sym same) in cc (is, h.0)) | inr later ↦ none_equal x ys h.1 later ]

distinct_from_differ : (xs : List ℤ) → AllDiffer xs → IsDistinct int_eq xs
unfolding IsDistinct
distinct_from_differ [] h = tt
distinct_from_differ (x ∷ xs) h = (unequal_to_all x xs (λ c. first_differs x xs h c), distinct_from_differ xs (others_differ x xs h))

differ_from_distinct : (xs : List ℤ) → IsDistinct int_eq xs → AllDiffer xs
unfolding IsDistinct
differ_from_distinct [] h = AllPairs-nil (λ a b. a ≢ b)
differ_from_distinct (x ∷ xs) h = all_differ-cons x xs (none_equal x xs h.0) (differ_from_distinct xs h.1)

flips : (x y : ℤ) → int_eq x y ≡ int_eq y x
flips x y = int_eq_equiv.symm x y

-- numbers that differ stay so when they change places
pub differ_moved : (xs ys : List ℤ) → IsPermutation xs ys → AllDiffer xs → AllDiffer ys
differ_moved xs ys moved h = differ_from_distinct ys (IsDistinct-IsPermutation int_eq flips xs ys moved (distinct_from_differ xs h))

pub moved_back : (xs ys : List ℤ) → IsPermutation xs ys → AllDiffer ys → AllDiffer xs
moved_back xs ys moved h = differ_moved ys xs (IsPermutation-sym xs ys moved) h

pub few_items : (items : List Item) → length items ≤ 256 → length (map item_view items) ≤ 256
few_items items few = omega (arith, length-map items item_view)

-- the numbers of named bits
abbrev pub bit_numbers : List NamedBit → List ℕ
bit_numbers bits = map (λ (bit : NamedBit). bit.number) bits

pub bit_numbers_of : (bits : List NamedBit) → map (λ bit. bit.number) (map named_bit_view bits) ≡ bit_numbers bits
bit_numbers_of [] = refl
bit_numbers_of (bit ∷ bits) = ap (λ numbers. bit.number ∷ numbers) (bit_numbers_of bits)

pub few_bits : (bits : List NamedBit) → length bits ≤ 256 → length (map named_bit_view bits) ≤ 256
few_bits bits few = omega (arith, length-map bits named_bit_view)

-- natural numbers differ exactly where they do as integers
pub differ_as_naturals : (ns : List ℕ) → AllDiffer (map pos ns) ↔ AllPairs (λ a b. a ≢ b) ns
differ_as_naturals ns = (
  λ h i j d less below same.
      h i j (pos d) less (omega (arith, length-map ns pos)) (get_or-map pos ns i d (pos d) (omega arith) ∙ ap pos same ∙ sym (get_or-map pos ns j d (pos d) below)),
  λ h i j d less below same.
      let short : j < length ns = omega (arith, length-map ns pos) in
      let equal : pos (get_or ns i 0) ≡ pos (get_or ns j 0) = sym (get_or-map pos ns i 0 d (omega arith)) ∙ same ∙ get_or-map pos ns j 0 d short in
      let one : get_or ns i 0 ≡ get_or ns j 0 = cc equal in
      h i j 0 less short one,
)

pub bits_differ_along : (answer : Type 0) (bits found : List NamedBit) → found ≡ bits → answer ↔ AllPairs (λ a b. a ≢ b) (bit_numbers found) → answer ↔ AllPairs (λ a b. a ≢ b) (map (λ bit. bit.number) (map named_bit_view bits))
bits_differ_along answer bits found p h =
    subst (λ numbers. answer ↔ AllPairs (λ a b. a ≢ b) numbers) (sym (bit_numbers_of bits)) (subst (λ (l : List NamedBit). answer ↔ AllPairs (λ a b. a ≢ b) (bit_numbers l)) p h)
