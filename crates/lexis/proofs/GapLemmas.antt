-- Comments and gaps, part by part: what follows one part is found in no other way.
use Rattle.std.proofs.Common.{◌≡◌, ◌≢◌, ℕ, zero, suc, ◌+◌, ◌-◌, ◌<◌, ◌≤◌, List, [], ◌∷◌, length, take, drop, get_or, refl, sym, ◌∙◌, ap, subst, arith, Option, Some, None, Bool, true, false, inl, inr, ◌⊎◌, add-zero}
use Rattle.std.specs.Prelude.{codes}
use Rattle.std.proofs.lemmas.Bool.{false≢true}
use Rattle.std.proofs.lemmas.Bool.Decides.{nat_tests}
use Rattle.std.proofs.lemmas.List.{take_rest, length-drop, drop-drop, get_or-drop}
use Rattle.lexis.specs.Octets.{is_white, is_line_end, begins}
use Rattle.lexis.specs.Gap.{IsLineRest, IsLineEndAt, IsBlockRest, closed, nested, further, IsPiece, white, line, block, IsGap, none, some}

-- what is told of a slice from an octet on, told of what follows that many octets
pub begins_behind : (front x : List ℕ) (count : ℕ) (r t : Bool) → r ≡ begins front (take (length x - count) (drop count x)) → r ≡ t → begins front (drop count x) ≡ t
begins_behind front x count r t e h = sym (ap (begins front) (take_rest x count)) ∙ sym e ∙ h

pub room_behind : (x : List ℕ) (count k : ℕ) → count ≤ length x → k ≤ length (take (length x - count) (drop count x)) → count + k ≤ length x
room_behind x count k h l = omega (arith, rw take_rest at l, length-drop count x)

-- `*/` and `/*` do not begin alike
apart : (x : List ℕ) → begins (codes "*/") x ≡ true → begins (codes "/*") x ≡ true → ⊥
apart [] p q = false≢true p
apart (a ∷ []) p q = grind (arith, nat_tests)
apart (a ∷ b ∷ x) p q = grind (arith, nat_tests)

-- d + 1 comments that are open are closed by the first n octets of x
abbrev pub Closes : ℕ → List ℕ → ℕ → Type 0
Closes zero x n = IsBlockRest x n
Closes (suc d) x n = (k : ℕ) × (m : ℕ) × IsBlockRest x k × Closes d (drop k x) m × (n ≡ k + m)

-- what follows the first k octets of x
abbrev pub Behind : (ℕ → Type 0) → ℕ → ℕ → Type 0
Behind P k n = (m : ℕ) × P m × (n ≡ k + m)

after-open : (x : List ℕ) (n : ℕ) → begins (codes "/*") x ≡ true → IsBlockRest x n → (k : ℕ) × (m : ℕ) × IsBlockRest (drop 2 x) k × IsBlockRest (drop (2 + k) x) m × (n ≡ 2 + k + m)
after-open x n p (closed q e) = absurd (apart x q p)
after-open x n p (nested {inner = k} {rest = m} q a b e) = (k, m, a, b, e)
after-open x n p (further q r h a e) = absurd (false≢true (sym r ∙ p))

after-close : (x : List ℕ) (n : ℕ) → begins (codes "*/") x ≡ true → IsBlockRest x n → n ≡ 2
after-close x n p (closed q e) = e
after-close x n p (nested q a b e) = absurd (apart x p q)
after-close x n p (further q r h a e) = absurd (false≢true (sym q ∙ p))

after-other : (x : List ℕ) (n : ℕ) → begins (codes "*/") x ≡ false → begins (codes "/*") x ≡ false → IsBlockRest x n → Behind (IsBlockRest (drop 1 x)) 1 n
after-other x n p q (closed r e) = absurd (false≢true (sym p ∙ r))
after-other x n p q (nested r a b e) = absurd (false≢true (sym q ∙ r))
after-other x n p q (further {rest = m} r s h a e) = (m, a, e)

after-end : (x : List ℕ) (n : ℕ) → length x ≡ 0 → IsBlockRest x n → ⊥
after-end [] n h (closed p e) = false≢true p
after-end [] n h (nested p a b e) = false≢true p
after-end [] n h (further p q l a e) = absurd (omega arith)
after-end (b ∷ x) n h r = absurd (omega arith)

opens-forth : (d : ℕ) (x : List ℕ) (n : ℕ) → begins (codes "/*") x ≡ true → Closes (suc d) (drop 2 x) n → Closes d x (2 + n)
opens-forth zero x n p (k, m, a, b, e) =
    let same : drop k (drop 2 x) ≡ drop (2 + k) x = drop-drop k 2 x in
    nested p a (subst (λ y. IsBlockRest y m) same b) (omega arith)
opens-forth (suc d) x n p (k, m, a, (j, i, b, c, f), e) =
    let same : drop k (drop 2 x) ≡ drop (2 + k) x = drop-drop k 2 x in
    let far : drop j (drop k (drop 2 x)) ≡ drop (2 + k + j) x = ap (drop j) same ∙ drop-drop j (2 + k) x in
    (2 + k + j, i, nested p a (subst (λ y. IsBlockRest y j) same b) refl, subst (λ y. Closes d y i) far c, omega arith)

opens-back : (d : ℕ) (x : List ℕ) (n : ℕ) → begins (codes "/*") x ≡ true → Closes d x n → Behind (Closes (suc d) (drop 2 x)) 2 n
opens-back zero x n p r =
    let u = after-open x n p r in
    let same : drop u.0 (drop 2 x) ≡ drop (2 + u.0) x = drop-drop u.0 2 x in
    (u.0 + u.1, (u.0, u.1, u.2, subst (λ y. IsBlockRest y u.1) (sym same) u.3, refl), omega (arith, u.4))
opens-back (suc d) x n p (k, m, a, c, e) =
    let u = after-open x k p a in
    let same : drop u.0 (drop 2 x) ≡ drop (2 + u.0) x = drop-drop u.0 2 x in
    let far : drop u.1 (drop u.0 (drop 2 x)) ≡ drop k x = ap (drop u.1) same ∙ drop-drop u.1 (2 + u.0) x ∙ ap (λ (i : ℕ). drop i x) (sym u.4) in
    (u.0 + (u.1 + m), (u.0, u.1 + m, u.2, (u.1, m, subst (λ y. IsBlockRest y u.1) (sym same) u.3, subst (λ y. Closes d y m) (sym far) c, refl), refl), omega (arith, u.4))

closes-forth : (d : ℕ) (x : List ℕ) (n : ℕ) → begins (codes "*/") x ≡ true → Closes d (drop 2 x) n → Closes (suc d) x (2 + n)
closes-forth d x n p c = (2, n, closed p refl, c, refl)

closes-back : (d : ℕ) (x : List ℕ) (n : ℕ) → begins (codes "*/") x ≡ true → Closes (suc d) x n → Behind (Closes d (drop 2 x)) 2 n
closes-back d x n p (k, m, a, c, e) =
    let two = after-close x k p a in
    (m, subst (λ i. Closes d (drop i x) m) two c, omega arith)

others-forth : (d : ℕ) (x : List ℕ) (n : ℕ) → begins (codes "*/") x ≡ false → begins (codes "/*") x ≡ false → 1 ≤ length x → Closes d (drop 1 x) n → Closes d x (1 + n)
others-forth zero x n p q h c = further p q h c refl
others-forth (suc d) x n p q h (k, m, a, c, e) =
    let same : drop k (drop 1 x) ≡ drop (1 + k) x = drop-drop k 1 x in
    (1 + k, m, further p q h a refl, subst (λ y. Closes d y m) same c, omega arith)

others-back : (d : ℕ) (x : List ℕ) (n : ℕ) → begins (codes "*/") x ≡ false → begins (codes "/*") x ≡ false → Closes d x n → Behind (Closes d (drop 1 x)) 1 n
others-back zero x n p q c = after-other x n p q c
others-back (suc d) x n p q (k, m, a, c, e) =
    let u = after-other x k p q a in
    let same : drop u.0 (drop 1 x) ≡ drop k x = drop-drop u.0 1 x ∙ ap (λ (i : ℕ). drop i x) (sym u.2) in
    (u.0 + m, (u.0, m, u.1, subst (λ y. Closes d y m) (sym same) c, refl), omega (arith, u.2))

end-back : (d : ℕ) (x : List ℕ) (n : ℕ) → length x ≡ 0 → Closes d x n → ⊥
end-back zero x n h c = after-end x n h c
end-back (suc d) x n h (k, m, a, c, e) = after-end x k h a

-- behind the first count octets of x, d comments are open beside the one that x ends
pub record IsInside (x : List ℕ) (count d : ℕ) : Type 0 where
  pub forth : (n : ℕ) → Closes d (drop count x) n → IsBlockRest x (count + n)
  pub back : (n : ℕ) → IsBlockRest x n → Behind (Closes d (drop count x)) count n

pub inside_start : (x : List ℕ) → IsInside x 0 0
inside_start x = record { forth = λ n c. subst (IsBlockRest x) (omega arith) c; back = λ n c. (n, c, omega arith) }

-- one step of k octets
step : (x : List ℕ) (count k d e : ℕ) → ((n : ℕ) → Closes e (drop k (drop count x)) n → Closes d (drop count x) (k + n)) → ((n : ℕ) → Closes d (drop count x) n → Behind (Closes e (drop k (drop count x))) k n) → IsInside x count d → IsInside x (count + k) e
step x count k d e forth back so_far =
    let same : drop k (drop count x) ≡ drop (count + k) x = drop-drop k count x in
    record {
      forth = λ n c. subst (IsBlockRest x) (omega arith) (so_far.forth (k + n) (forth n (subst (λ y. Closes e y n) (sym same) c)));
      back = λ n c.
          let u = so_far.back n c in
          let v = back u.0 u.1 in
          (v.0, subst (λ y. Closes e y v.0) same v.1, omega (arith, u.2, v.2));
    }

pub inside_opens : (x : List ℕ) (count d : ℕ) → begins (codes "/*") (drop count x) ≡ true → IsInside x count d → IsInside x (count + 2) (d + 1)
inside_opens x count d p so_far = subst (IsInside x (count + 2)) (omega arith) (step x count 2 d (suc d) (λ n. opens-forth d (drop count x) n p) (λ n. opens-back d (drop count x) n p) so_far)

pub inside_closes : (x : List ℕ) (count d : ℕ) → begins (codes "*/") (drop count x) ≡ true → d ≢ 0 → IsInside x count d → IsInside x (count + 2) (d - 1)
inside_closes x count zero p h so_far = absurd (h refl)
inside_closes x count (suc d) p h so_far = subst (IsInside x (count + 2)) (omega arith) (step x count 2 (suc d) d (λ n. closes-forth d (drop count x) n p) (λ n. closes-back d (drop count x) n p) so_far)

pub inside_goes_on : (x : List ℕ) (count d : ℕ) → begins (codes "*/") (drop count x) ≡ false → begins (codes "/*") (drop count x) ≡ false → count < length x → IsInside x count d → IsInside x (count + 1) d
inside_goes_on x count d p q h so_far =
    let room : 1 ≤ length (drop count x) = omega (arith, length-drop count x) in
    step x count 1 d d (λ n. others-forth d (drop count x) n p q room) (λ n. others-back d (drop count x) n p q) so_far

pub inside_ends : (x : List ℕ) (count d : ℕ) → begins (codes "*/") (drop count x) ≡ true → d ≡ 0 → IsInside x count d → IsBlockRest x (count + 2)
inside_ends x count zero p h so_far = so_far.forth 2 (closed p refl)
inside_ends x count (suc d) p h so_far = absurd (omega arith)

pub inside_ends_only : (x : List ℕ) (count d : ℕ) → begins (codes "*/") (drop count x) ≡ true → d ≡ 0 → IsInside x count d → (n : ℕ) → IsBlockRest x n → Some (count + 2) ≡ Some n
inside_ends_only x count zero p h so_far n r =
    let u = so_far.back n r in
    let two = after-close (drop count x) u.0 p u.1 in
    ap Some (omega (arith, u.2))
inside_ends_only x count (suc d) p h so_far n r = absurd (omega arith)

pub inside_never : (x : List ℕ) (count d : ℕ) → length x ≤ count → IsInside x count d → (n : ℕ) → IsBlockRest x n → ⊥
inside_never x count d h so_far n r =
    let u = so_far.back n r in
    let nothing : length (drop count x) ≡ 0 = omega (arith, length-drop count x) in
    end-back d (drop count x) u.0 nothing u.1

-- two octets in front
pub begins_two : (a b : ℕ) (x : List ℕ) → begins (a ∷ b ∷ []) x ≡ true → (get_or x 0 0 ≡ a) × (get_or x 1 0 ≡ b) × (2 ≤ length x)
begins_two a b [] p = absurd (false≢true p)
begins_two a b (c ∷ []) p = grind (arith, nat_tests)
begins_two a b (c ∷ d ∷ x) p = grind (arith, nat_tests)

hyphen-ends-no-line : (x : List ℕ) (i : ℕ) → begins (codes "--") (drop i x) ≡ true → IsLineEndAt x i → ⊥
hyphen-ends-no-line x i p (inl e) =
    let two = begins_two 45 45 (drop i x) p in
    absurd (omega (arith, two.2, length-drop i x))
hyphen-ends-no-line x i p (inr e) =
    let two = begins_two 45 45 (drop i x) p in
    let first : get_or x i 0 ≡ 45 = sym (get_or-drop i x 0 0 ∙ ap (λ (k : ℕ). get_or x k 0) (add-zero i)) ∙ two.0 in
    let seen : is_line_end 45 ≡ true = subst (λ o. is_line_end o ≡ true) first e in
    false≢true seen

-- a comment does not end inside another's line
ends-first : (x : List ℕ) (m n : ℕ) (a : IsLineRest x m) (b : IsLineRest x n) → a.inside < b.inside → ⊥
ends-first x m n a b h = go a.ends
  where
    go : ((begins (codes "--") (drop a.inside x) ≡ true) × (m ≡ a.inside + 2)) ⊎ (IsLineEndAt x a.inside × (m ≡ a.inside)) → ⊥
    go (inl (p, e)) = false≢true (sym (b.no_hyphens a.inside h) ∙ p)
    go (inr (inl e, f)) = let w = b.within in absurd (omega arith)
    go (inr (inr e, f)) = false≢true (sym (b.line_goes_on a.inside h) ∙ e)

same-inside : (x : List ℕ) (m n : ℕ) (a : IsLineRest x m) (b : IsLineRest x n) → a.inside ≡ b.inside
same-inside x m n a b =
    let p : ¬ (a.inside < b.inside) = ends-first x m n a b in
    let q : ¬ (b.inside < a.inside) = ends-first x n m b a in
    omega (arith, p, q)

pub line_only : (x : List ℕ) (m n : ℕ) → IsLineRest x m → IsLineRest x n → m ≡ n
line_only x m n a b = go a.ends b.ends
  where
    same : a.inside ≡ b.inside
    same = same-inside x m n a b

    Ends : ℕ → ℕ → Type 0
    Ends i k = ((begins (codes "--") (drop i x) ≡ true) × (k ≡ i + 2)) ⊎ (IsLineEndAt x i × (k ≡ i))

    go : Ends a.inside m → Ends b.inside n → m ≡ n
    go (inl (p, e)) (inl (q, f)) = omega (arith, same)
    go (inr (p, e)) (inr (q, f)) = omega (arith, same)
    go (inl (p, e)) (inr (q, f)) = absurd (hyphen-ends-no-line x a.inside p (subst (IsLineEndAt x) (sym same) q))
    go (inr (p, e)) (inl (q, f)) = absurd (hyphen-ends-no-line x b.inside q (subst (IsLineEndAt x) same p))

white-no-two : (a b : ℕ) (x : List ℕ) → is_white a ≡ false → is_white (get_or x 0 0) ≡ true → begins (a ∷ b ∷ []) x ≡ true → ⊥
white-no-two a b x w p q =
    let two = begins_two a b x q in
    false≢true (sym w ∙ sym (ap is_white two.0) ∙ p)

hyphen-no-slash : (x : List ℕ) → begins (codes "--") x ≡ true → begins (codes "/*") x ≡ true → ⊥
hyphen-no-slash x p q =
    let one = begins_two 45 45 x p in
    let two = begins_two 47 42 x q in
    absurd (omega (arith, one.0, two.0))

pub white_only : (x : List ℕ) (n : ℕ) → is_white (get_or x 0 0) ≡ true → IsPiece x n → Some 1 ≡ Some n
white_only x n p (white q e) = ap Some (sym e)
white_only x n p (line q r e) = absurd (white-no-two 45 45 x refl p q)
white_only x n p (block q r e) = absurd (white-no-two 47 42 x refl p q)

pub line_piece : (x : List ℕ) (m : ℕ) → begins (codes "--") x ≡ true → IsLineRest (take (length x - 2) (drop 2 x)) m → IsPiece x (2 + m)
line_piece x m p r = line p (rw take_rest at r) refl

pub line_piece_only : (x : List ℕ) (m n : ℕ) → begins (codes "--") x ≡ true → IsLineRest (take (length x - 2) (drop 2 x)) m → IsPiece x n → Some (2 + m) ≡ Some n
line_piece_only x m n p r (white q e) = absurd (white-no-two 45 45 x refl q p)
line_piece_only x m n p r (line {rest = k} q s e) = let same = line_only (drop 2 x) m k (rw take_rest at r) s in ap Some (omega arith)
line_piece_only x m n p r (block q s e) = absurd (hyphen-no-slash x p q)

pub block_piece : (x : List ℕ) (m : ℕ) → begins (codes "/*") x ≡ true → IsBlockRest (take (length x - 2) (drop 2 x)) m → IsPiece x (2 + m)
block_piece x m p r = block p (rw take_rest at r) refl

abbrev pub two_more : Option ℕ → Option ℕ
two_more (Some n) = Some (2 + n)
two_more None = None

pub block_piece_only : (x : List ℕ) (o : Option ℕ) (n : ℕ) → begins (codes "/*") x ≡ true → ((k : ℕ) → IsBlockRest (take (length x - 2) (drop 2 x)) k → o ≡ Some k) → IsPiece x n → two_more o ≡ Some n
block_piece_only x o n p only (white q e) = absurd (white-no-two 47 42 x refl q p)
block_piece_only x o n p only (line q s e) = absurd (hyphen-no-slash x q p)
block_piece_only x o n p only (block {rest = k} q s e) = ap two_more (only k (subst (λ y. IsBlockRest y k) (sym (take_rest x 2)) s)) ∙ ap Some (sym e)

pub no_piece : (x : List ℕ) (n : ℕ) → is_white (get_or x 0 0) ≡ false → begins (codes "--") x ≡ false → begins (codes "/*") x ≡ false → IsPiece x n → ⊥
no_piece x n p q r (white s e) = false≢true (sym p ∙ s)
no_piece x n p q r (line s t e) = false≢true (sym q ∙ s)
no_piece x n p q r (block s t e) = false≢true (sym r ∙ s)

-- Gaps.
abbrev pub Stops : List ℕ → Type 0
Stops x = (m : ℕ) → ¬ IsPiece x m

-- a gap of x goes on behind the first count octets of x
pub record Reaches (x : List ℕ) (count : ℕ) : Type 0 where
  pub forth : (n : ℕ) → IsGap (drop count x) n → IsGap x (count + n)
  pub back : (n : ℕ) → IsGap x n → Stops (drop n x) → Behind (IsGap (drop count x)) count n

pub reach_start : (x : List ℕ) → Reaches x 0
reach_start x = record { forth = λ n g. subst (IsGap x) (omega arith) g; back = λ n g s. (n, g, omega arith) }

behind-first : (x : List ℕ) (k n : ℕ) → IsPiece x k → ((m : ℕ) → IsPiece x m → m ≡ k) → IsGap x n → Stops (drop n x) → Behind (IsGap (drop k x)) k n
behind-first x k n p only (none e) s =
    let here : Stops x = subst (λ i. Stops (drop i x)) e s in
    absurd (here k p)
behind-first x k n p only (some {first = j} {rest = m} q g e) s =
    let same = only j q in
    (m, subst (λ i. IsGap (drop i x) m) same g, omega arith)

pub reach_on : (x : List ℕ) (count k : ℕ) → IsPiece (drop count x) k → ((m : ℕ) → IsPiece (drop count x) m → m ≡ k) → Reaches x count → Reaches x (count + k)
reach_on x count k p only so_far =
    let same : drop k (drop count x) ≡ drop (count + k) x = drop-drop k count x in
    record {
      forth = λ n g. subst (IsGap x) (omega arith) (so_far.forth (k + n) (some p (subst (λ y. IsGap y n) (sym same) g) refl));
      back = λ n g s.
          let u = so_far.back n g s in
          let there : drop u.0 (drop count x) ≡ drop n x = drop-drop u.0 count x ∙ ap (λ (i : ℕ). drop i x) (sym u.2) in
          let v = behind-first (drop count x) k u.0 p only u.1 (subst Stops (sym there) s) in
          (v.0, subst (λ y. IsGap y v.0) same v.1, omega (arith, u.2, v.2));
    }

pub reach_end : (x : List ℕ) (count : ℕ) → Reaches x count → IsGap x count
reach_end x count so_far = subst (IsGap x) (omega arith) (so_far.forth 0 (none refl))

nothing-more : (x : List ℕ) (n : ℕ) → Stops x → IsGap x n → n ≡ 0
nothing-more x n s (none e) = e
nothing-more x n s (some {first = j} p g e) = absurd (s j p)

pub reach_end_only : (x : List ℕ) (count : ℕ) → Stops (drop count x) → Reaches x count → (n : ℕ) → IsGap x n → Stops (drop n x) → n ≡ count
reach_end_only x count s so_far n g t =
    let u = so_far.back n g t in
    let zero_more = nothing-more (drop count x) u.0 s u.1 in
    omega (arith, u.2)
