-- A text has at most one list of tokens, and each step of the scanner finds the next of them.
use Rattle.std.proofs.Common.{◌≡◌, ◌≢◌, ℕ, ◌+◌, ◌-◌, ◌<◌, ◌≤◌, List, [], ◌∷◌, ◌++◌, length, take, drop, refl, sym, ◌∙◌, ap, subst, arith, append_assoc, append-nil}
use Rattle.std.proofs.lemmas.Bool.{false≢true}
use Rattle.std.proofs.lemmas.List.{take_rest, length-drop, length-take-le, drop-drop, drop_all}
use Rattle.lexis.specs.declared.token.Kind.{Kind}
use Rattle.lexis.specs.declared.token.Token.{Token}
use Rattle.lexis.specs.Gap.{IsPiece, white, line, block, IsGap}
use Rattle.lexis.specs.Spelling.{Spells}
use Rattle.lexis.specs.Tokens.{IsToken, StandsNext, TokensFrom, IsTokens}
use Rattle.lexis.specs.Fronts.{StandsApart, HasNoToken, EndsFrom, IsNext, IsLast, HasNoNext}
use Rattle.lexis.proofs.KindLemmas.{spells_some}
use Rattle.lexis.proofs.EdgeLemmas.{same_kind}

-- the gap behind the first p octets of x, as far as it goes
pub record IsWholeGap (x : List ℕ) (p g : ℕ) : Type 0 where
  pub gap : IsGap (drop p x) g
  pub apart : StandsApart (drop (p + g) x)
  pub only : (n : ℕ) → IsGap (drop p x) n → StandsApart (drop (p + n) x) → n ≡ g

nothing-apart : StandsApart []
nothing-apart m (white p e) = false≢true p
nothing-apart m (line p r e) = false≢true p
nothing-apart m (block p r e) = false≢true p

-- the scanner's gap is told of a slice
pub whole_gap : (x : List ℕ) (p g : ℕ) → IsGap (take (length x - p) (drop p x)) g → ((n : ℕ) → ¬ IsPiece (drop g (take (length x - p) (drop p x))) n) → ((n : ℕ) → IsGap (take (length x - p) (drop p x)) n → ((m : ℕ) → ¬ IsPiece (drop n (take (length x - p) (drop p x))) m) → n ≡ g) → IsWholeGap x p g
whole_gap x p g gap apart only =
    let rest = take_rest x p in
    let there : (n : ℕ) → drop n (take (length x - p) (drop p x)) ≡ drop (p + n) x = λ n. ap (drop n) rest ∙ drop-drop n p x in
    record {
      gap = subst (λ (y : List ℕ). IsGap y g) rest gap;
      apart = subst StandsApart (there g) apart;
      only = λ n h s. only n (subst (λ (y : List ℕ). IsGap y n) (sym rest) h) (subst StandsApart (sym (there n)) s);
    }

token-some : (x : List ℕ) (k : Kind) (n : ℕ) → IsToken x k n → 1 ≤ n
token-some x k n t = let size = length-take-le n x t.within in omega (arith, spells_some k (take n x) t.spelt)

-- every token that stands next begins behind the whole gap
next-start : (x : List ℕ) (p g : ℕ) (t : Token) → IsWholeGap x p g → StandsNext x p t → t.start ≡ p + g
next-start x p g t w s =
    let place : t.start ≡ p + (t.start - p) = omega (arith, s.behind) in
    let apart : StandsApart (drop (p + (t.start - p)) x) = subst (λ (i : ℕ). StandsApart (drop i x)) place s.is_token.no_comment in
    let size = w.only (t.start - p) s.gap apart in
    omega (arith, place)

-- where the text ends behind a gap, that is the whole gap
end-size : (x : List ℕ) (p g : ℕ) → p ≤ length x → IsWholeGap x p g → EndsFrom x p → length x ≡ p + g
end-size x p g h w e =
    let place : p + (length x - p) ≡ length x = omega arith in
    let nothing : drop (p + (length x - p)) x ≡ [] = ap (λ (i : ℕ). drop i x) place ∙ drop_all (length x) x (omega arith) in
    let size = w.only (length x - p) e (subst StandsApart (sym nothing) nothing-apart) in
    omega (arith, place)

-- the end of the text
pub last_here : (x : List ℕ) (p g : ℕ) → p ≤ length x → IsWholeGap x p g → p + g ≡ length x → IsLast x p
last_here x p g h w e = record {
  ends = let size : g ≡ length x - p = omega arith in subst (IsGap (drop p x)) size w.gap;
  no_token = λ t s.
      let start = next-start x p g t w s in
      let some = token-some (drop t.start x) t.kind (t.end - t.start) s.is_token in
      let within = s.is_token.within in
      absurd (omega (arith, length-drop t.start x));
}

-- no token stands behind the gap
pub none_here : (x : List ℕ) (p g : ℕ) → p ≤ length x → IsWholeGap x p g → p + g ≢ length x → HasNoToken (drop (p + g) x) → HasNoNext x p
none_here x p g h w more none = record {
  no_token = λ t s. none t.kind (t.end - t.start) (subst (λ (i : ℕ). IsToken (drop i x) t.kind (t.end - t.start)) (next-start x p g t w s) s.is_token);
  no_end = λ e. more (sym (end-size x p g h w e));
}

same-token : (x : List ℕ) (j k : Kind) (m n : ℕ) → IsToken x j m → IsToken x k n → (j ≡ k) × (m ≡ n)
same-token x j k m n a b =
    let e : m ≡ n = omega (arith, b.longest j m a.within a.spelt, a.longest k n b.within b.spelt) in
    (same_kind j k (take n x) (subst (λ (i : ℕ). Spells j (take i x)) e a.spelt) b.spelt, e)

abbrev pub token_of : Kind → ℕ → ℕ → Token
token_of k s e = record { kind = k; start = s; end = e }

token-eq : (u : Token) (k : Kind) (s e : ℕ) → u.kind ≡ k → u.start ≡ s → u.end ≡ e → u ≡ token_of k s e
token-eq u k s e p q r = ap (λ (i : Kind). token_of i u.start u.end) p ∙ ap (λ (i : ℕ). token_of k i u.end) q ∙ ap (λ (i : ℕ). token_of k s i) r

-- the token behind the gap
pub next_here : (x : List ℕ) (p g : ℕ) (k : Kind) (n : ℕ) → p ≤ length x → IsWholeGap x p g → p + g ≢ length x → IsToken (drop (p + g) x) k n → IsNext x p (token_of k (p + g) (p + g + n))
next_here x p g k n h w more t =
    let gap-size : p + g - p ≡ g = omega arith in
    let token-size : p + g + n - (p + g) ≡ n = omega arith in
    record {
      stands = record {
        behind = omega arith;
        gap = subst (IsGap (drop p x)) (sym gap-size) w.gap;
        forward = omega arith;
        is_token = subst (IsToken (drop (p + g) x) k) (sym token-size) t;
      };
      only = λ u s.
          let start = next-start x p g u w s in
          let same = same-token (drop (p + g) x) u.kind k (u.end - u.start) n (subst (λ (i : ℕ). IsToken (drop i x) u.kind (u.end - u.start)) start s.is_token) t in
          let forward = s.forward in
          let end : u.end ≡ p + g + n = omega (arith, same.1) in
          token-eq u k (p + g) (p + g + n) same.0 start end;
      no_end = λ e. more (sym (end-size x p g h w e));
    }

-- the tokens of x are those in front, and then those behind its first p octets
pub record IsScanned (x : List ℕ) (front : List Token) (p : ℕ) : Type 0 where
  pub forth : (ts : List Token) → TokensFrom x p ts → TokensFrom x 0 (front ++ ts)
  pub back : (ts : List Token) → TokensFrom x 0 ts → (us : List Token) × TokensFrom x p us × (ts ≡ front ++ us)

pub scan_start : (x : List ℕ) → IsScanned x [] 0
scan_start x = record { forth = λ ts l. l; back = λ ts l. (ts, l, refl) }

behind : (x : List ℕ) (p : ℕ) (t : Token) → IsNext x p t → (us : List Token) → TokensFrom x p us → (vs : List Token) × TokensFrom x t.end vs × (us ≡ t ∷ vs)
behind x p t n [] l = absurd (n.no_end l)
behind x p t n (u ∷ us) l =
    let same = n.only u l.0 in
    (us, subst (λ (v : Token). TokensFrom x v.end us) same l.1, ap (λ (v : Token). v ∷ us) same)

pub scan_more : (x : List ℕ) (front : List Token) (p : ℕ) (t : Token) → IsNext x p t → IsScanned x front p → IsScanned x (front ++ t ∷ []) t.end
scan_more x front p t n so_far = record {
  forth = λ ts l. subst (TokensFrom x 0) (sym (append_assoc front (t ∷ []) ts)) (so_far.forth (t ∷ ts) (n.stands, l));
  back = λ ts l.
      let u = so_far.back ts l in
      let v = behind x p t n u.0 u.1 in
      (v.0, v.1, u.2 ∙ ap (λ (i : List Token). front ++ i) v.2 ∙ sym (append_assoc front (t ∷ []) v.0));
}

pub scan_end : (x : List ℕ) (front : List Token) (p : ℕ) → length x ≤ 262144 → IsLast x p → IsScanned x front p → IsTokens x front
scan_end x front p h e so_far = record { within = h; in_turn = subst (TokensFrom x 0) (append-nil front) (so_far.forth [] e.ends) }

pub scan_end_only : (x : List ℕ) (front : List Token) (p : ℕ) → IsLast x p → IsScanned x front p → (ts : List Token) → IsTokens x ts → ts ≡ front
scan_end_only x front p e so_far ts l = let u = so_far.back ts l.in_turn in go u.0 u.1 u.2
  where
    go : (us : List Token) → TokensFrom x p us → ts ≡ front ++ us → ts ≡ front
    go [] m f = f ∙ append-nil front
    go (v ∷ vs) m f = absurd (e.no_token v m.0)

pub scan_refused : (x : List ℕ) (front : List Token) (p : ℕ) → HasNoNext x p → IsScanned x front p → (ts : List Token) → IsTokens x ts → ⊥
scan_refused x front p n so_far ts l = let u = so_far.back ts l.in_turn in go u.0 u.1
  where
    go : (us : List Token) → TokensFrom x p us → ⊥
    go [] m = n.no_end m
    go (v ∷ vs) m = n.no_token v m.0

-- a token that stands next ends within the text
pub next_within : (x : List ℕ) (p : ℕ) (t : Token) → StandsNext x p t → t.end ≤ length x
next_within x p t s = let forward = s.forward in let some = token-some (drop t.start x) t.kind (t.end - t.start) s.is_token in omega (arith, s.is_token.within, length-drop t.start x)

pub next_after : (x : List ℕ) (p : ℕ) (t : Token) → StandsNext x p t → p < t.end
next_after x p t s = let some = token-some (drop t.start x) t.kind (t.end - t.start) s.is_token in omega (arith, s.behind, s.forward)
