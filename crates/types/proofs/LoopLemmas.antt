-- Lemmas for loops that judge a list from its front on: the judgement of the whole list is that of what is left of it.
use Rattle.std.proofs.Common.{◌≡◌, ◌↔◌, ◌+◌, ◌<◌, ◌≤◌, ℕ, Bool, true, false, IsTrue, List, [], ◌∷◌, length, get_or, drop, refl, sym, subst, ap, ◌∙◌}
use Rattle.std.proofs.lemmas.List.{drop_more, drop_all}

-- the judgement of the list is that of what is left from the i-th element on
abbrev pub IsLeftTo : {X : Type 0} → (List X → Type 0) → List X → ℕ → Type 0
IsLeftTo T xs i = T xs ↔ T (drop i xs)

pub left_at : {X : Type 0} (xs : List X) (i : ℕ) (x : X) → i < length xs → x ≡ get_or xs i x → drop i xs ≡ x ∷ drop (i + 1) xs
left_at xs i x below is = drop_more xs i x below ∙ ap (λ y. y ∷ drop (i + 1) xs) (sym is)

pub begins : {X : Type 0} (T : List X → Type 0) (xs : List X) → IsLeftTo T xs 0
begins T xs = (λ h. h, λ h. h)

pub goes_on : {X : Type 0} (T : List X → Type 0) (P : Type 0) (xs : List X) (i : ℕ) (x : X) → i < length xs → x ≡ get_or xs i x → T (x ∷ drop (i + 1) xs) ↔ (P × T (drop (i + 1) xs)) → P → IsLeftTo T xs i → IsLeftTo T xs (i + 1)
goes_on T P xs i x below is first holds left =
    let here = left_at xs i x below is in (
      λ h. (first.0 (subst T here (left.0 h))).1,
      λ h. left.1 (subst T (sym here) (first.1 (holds, h))),
    )

pub stops : {X : Type 0} (T : List X → Type 0) (P : Type 0) (xs : List X) (i : ℕ) (x : X) → i < length xs → x ≡ get_or xs i x → T (x ∷ drop (i + 1) xs) ↔ (P × T (drop (i + 1) xs)) → (P → ⊥) → IsLeftTo T xs i → T xs → ⊥
stops T P xs i x below is first fails left h = fails (first.0 (subst T (left_at xs i x below is) (left.0 h))).0

pub ends : {X : Type 0} (T : List X → Type 0) (xs : List X) (i : ℕ) → length xs ≤ i → T [] → IsLeftTo T xs i → T xs
ends T xs i past none left = left.1 (subst T (sym (drop_all i xs past)) none)

pub ends_with : {X : Type 0} (T : List X → Type 0) (xs : List X) (i : ℕ) (x : X) → i < length xs → x ≡ get_or xs i x → T (x ∷ drop (i + 1) xs) → IsLeftTo T xs i → T xs
ends_with T xs i x below is h left = left.1 (subst T (sym (left_at xs i x below is)) h)

-- the same of two lists of one length
abbrev pub AreLeftTo : {X Y : Type 0} → (List X → List Y → Type 0) → List X → List Y → ℕ → Type 0
AreLeftTo T xs ys i = T xs ys ↔ T (drop i xs) (drop i ys)

pub both_at : {X Y : Type 0} (T : List X → List Y → Type 0) (xs : List X) (ys : List Y) (i : ℕ) (x : X) (y : Y) → i < length xs → i < length ys → x ≡ get_or xs i x → y ≡ get_or ys i y → T (drop i xs) (drop i ys) ↔ T (x ∷ drop (i + 1) xs) (y ∷ drop (i + 1) ys)
both_at T xs ys i x y below below' x_is y_is =
    let a = left_at xs i x below x_is in
    let b = left_at ys i y below' y_is in (
      λ h. subst (λ l. T l (y ∷ drop (i + 1) ys)) a (subst (T (drop i xs)) b h),
      λ h. subst (λ l. T l (drop i ys)) (sym a) (subst (T (x ∷ drop (i + 1) xs)) (sym b) h),
    )

pub both_go_on : {X Y : Type 0} (T : List X → List Y → Type 0) (P : Type 0) (xs : List X) (ys : List Y) (i : ℕ) (x : X) (y : Y) → i < length xs → i < length ys → x ≡ get_or xs i x → y ≡ get_or ys i y → T (x ∷ drop (i + 1) xs) (y ∷ drop (i + 1) ys) ↔ (P × T (drop (i + 1) xs) (drop (i + 1) ys)) → P → AreLeftTo T xs ys i → AreLeftTo T xs ys (i + 1)
both_go_on T P xs ys i x y below below' x_is y_is first holds left =
    let here = both_at T xs ys i x y below below' x_is y_is in (
      λ h. (first.0 (here.0 (left.0 h))).1,
      λ h. left.1 (here.1 (first.1 (holds, h))),
    )

pub both_stop : {X Y : Type 0} (T : List X → List Y → Type 0) (P : Type 0) (xs : List X) (ys : List Y) (i : ℕ) (x : X) (y : Y) → i < length xs → i < length ys → x ≡ get_or xs i x → y ≡ get_or ys i y → T (x ∷ drop (i + 1) xs) (y ∷ drop (i + 1) ys) ↔ (P × T (drop (i + 1) xs) (drop (i + 1) ys)) → (P → ⊥) → AreLeftTo T xs ys i → T xs ys → ⊥
both_stop T P xs ys i x y below below' x_is y_is first fails left h = fails (first.0 ((both_at T xs ys i x y below below' x_is y_is).0 (left.0 h))).0

pub both_end : {X Y : Type 0} (T : List X → List Y → Type 0) (xs : List X) (ys : List Y) (i : ℕ) → length xs ≤ i → length ys ≤ i → T [] [] → AreLeftTo T xs ys i → T xs ys
both_end T xs ys i past past' none left = left.1 (subst (λ l. T l (drop i ys)) (sym (drop_all i xs past)) (subst (T []) (sym (drop_all i ys past')) none))

-- what a test answers, and what it says
pub is_so : {P : Type 0} → P → IsTrue true ↔ P
is_so h = (λ yes. h, λ p. refl)

pub is_not_so : {P : Type 0} → (P → ⊥) → IsTrue false ↔ P
is_not_so never = (λ yes. cc yes, λ p. absurd (never p))

pub so : (answer : Bool) (P : Type 0) → IsTrue answer ↔ P → answer ≡ true → P
so answer P says is = says.0 is

pub not_so : (answer : Bool) (P : Type 0) → IsTrue answer ↔ P → answer ≡ false → P → ⊥
not_so answer P says is p = cc (says.1 p, is)
