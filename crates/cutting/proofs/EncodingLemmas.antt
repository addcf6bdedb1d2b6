-- Lemmas on encodings by their heads: how deep they nest, and those one after another.
use Rattle.std.proofs.Common.{◌≡◌, ℕ, zero, suc, ◌+◌, ◌⊎◌, inl, inr, List, [], ◌∷◌, refl, subst, arith}
use Rattle.std.specs.List.{AllByRecursion}
use Rattle.cutting.specs.Encoding.{IsSomeDefinite, IsIndefiniteOf, IsAnyWithin, IsAnyEncoding}

all_map : (P Q : List ℕ → Type 0) → ((x : List ℕ) → P x → Q x) → (xs : List (List ℕ)) → AllByRecursion P xs → AllByRecursion Q xs
all_map P Q f [] h = tt
all_map P Q f (x ∷ xs) h = (f x h.0, all_map P Q f xs h.1)

-- the same around other parts
around_others : (P Q : List ℕ → Type 0) → ((x : List ℕ) → P x → Q x) → (octets : List ℕ) → IsIndefiniteOf P octets → IsIndefiniteOf Q octets
around_others P Q f octets h = record { tag = h.tag; usable = h.usable; number = h.number; parts = h.parts; each = all_map P Q f h.parts h.each; whole = h.whole }

one_deeper : (n : ℕ) (octets : List ℕ) → IsAnyWithin n octets → IsAnyWithin (suc n) octets
unfolding IsAnyWithin
one_deeper zero octets h = inl h
one_deeper (suc n) octets (inl h) = inl h
one_deeper (suc n) octets (inr h) = inr (around_others (IsAnyWithin n) (IsAnyWithin (suc n)) (one_deeper n) octets h)

deeper : (more n m : ℕ) (octets : List ℕ) → m ≡ more + n → IsAnyWithin n octets → IsAnyWithin m octets
deeper zero n m octets is h = subst (λ k. IsAnyWithin k octets) (omega arith) h
deeper (suc more) n m octets is h =
    let below : IsAnyWithin (more + n) octets = deeper more n (more + n) octets refl h in
    subst (λ k. IsAnyWithin k octets) (omega arith) (one_deeper (more + n) octets below)

-- encodings one after another have one depth
record AreWithin (parts : List (List ℕ)) : Type 0 where
  depth : ℕ
  each : AllByRecursion (IsAnyWithin depth) parts

one_depth : (parts : List (List ℕ)) → AllByRecursion IsAnyEncoding parts → AreWithin parts
one_depth [] h = record { depth = 0; each = tt }
one_depth (part ∷ parts) h =
    let rest = one_depth parts h.1 in
    let n : ℕ = h.0.0 + rest.depth in
    record {
      depth = n;
      each = (deeper rest.depth h.0.0 n part (omega arith) h.0.1, all_map (IsAnyWithin rest.depth) (IsAnyWithin n) (λ x k. deeper h.0.0 rest.depth n x refl k) parts rest.each);
    }

pub definite_encoding : (octets : List ℕ) → IsSomeDefinite octets → IsAnyEncoding octets
unfolding IsAnyWithin
definite_encoding octets h = (0, h)

pub indefinite_encoding : (octets : List ℕ) → IsIndefiniteOf IsAnyEncoding octets → IsAnyEncoding octets
unfolding IsAnyWithin
indefinite_encoding octets h =
    let all = one_depth h.parts h.each in
    (suc all.depth, inr record { tag = h.tag; usable = h.usable; number = h.number; parts = h.parts; each = all.each; whole = h.whole })

cases_within : (n : ℕ) (octets : List ℕ) → IsAnyWithin n octets → IsSomeDefinite octets ⊎ IsIndefiniteOf IsAnyEncoding octets
unfolding IsAnyWithin
cases_within zero octets h = inl h
cases_within (suc n) octets (inl h) = inl h
cases_within (suc n) octets (inr h) = inr (around_others (IsAnyWithin n) IsAnyEncoding (λ x k. (n, k)) octets h)

-- it is of either form
pub encoding_cases : (octets : List ℕ) → IsAnyEncoding octets → IsSomeDefinite octets ⊎ IsIndefiniteOf IsAnyEncoding octets
encoding_cases octets h = cases_within h.0 octets h.1
