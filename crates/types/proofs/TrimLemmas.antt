-- Lemmas on bits without a 0 behind their last 1.
use Rattle.std.proofs.Common.{◌≡◌, inl, inr, ℕ, zero, suc, Bool, true, false, List, [], ◌∷◌, ◌++◌, replicate, sym, ap, ◌∙◌}
use Rattle.std.proofs.lemmas.List.{append_assoc}
use Rattle.primitives.specs.Bits.{IsTrimmed}

-- no 1 stands among bits 0
no_one : (count : ℕ) (front rest : List Bool) → replicate count false ≡ front ++ (true ∷ rest) → ⊥
no_one zero [] rest h = cc
no_one zero (bit ∷ front) rest h = cc
no_one (suc count) [] rest h = cc
no_one (suc count) (bit ∷ front) rest h = let rest_is : replicate count false ≡ front ++ (true ∷ rest) = cc in no_one count front rest rest_is

trimmed_tail : (bit : Bool) (bits : List Bool) → IsTrimmed (bit ∷ bits) → IsTrimmed bits
trimmed_tail bit bits (inl none) = cc
trimmed_tail bit bits (inr ([], is)) = let none : bits ≡ [] = cc in inl none
trimmed_tail bit bits (inr (first ∷ front, is)) = let rest : bits ≡ front ++ (true ∷ []) = cc in inr (front, rest)

none_are_zeros : (bits : List Bool) (m n : ℕ) → IsTrimmed bits → replicate m false ≡ bits ++ replicate n false → bits ≡ []
none_are_zeros bits m n (inl none) same = none
none_are_zeros bits m n (inr (front, is)) same =
    absurd (no_one m front (replicate n false) (same ∙ ap (λ b. b ++ replicate n false) is ∙ append_assoc front (true ∷ []) (replicate n false)))

-- bits and zeros behind them are in one way trimmed
pub trimmed_unique : (a b : List Bool) (m n : ℕ) → IsTrimmed a → IsTrimmed b → a ++ replicate m false ≡ b ++ replicate n false → a ≡ b
trimmed_unique [] b m n h g same = sym (none_are_zeros b m n g same)
trimmed_unique (bit ∷ a) [] m n h g same = none_are_zeros (bit ∷ a) n m h (sym same)
trimmed_unique (bit ∷ a) (other ∷ b) m n h g same =
    let first : bit ≡ other = cc in
    let rest : a ++ replicate m false ≡ b ++ replicate n false = cc in
    let same_rest : a ≡ b = trimmed_unique a b m n (trimmed_tail bit a h) (trimmed_tail other b g) rest in
    cc
