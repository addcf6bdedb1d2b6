-- Lemmas on strings that are appended in pieces.
use Rattle.std.proofs.Common.{◌≡◌, ◌∙◌, ◌≤◌, ◌++◌, ◌&&◌, ℕ, zero, suc, Bool, true, false, List, [], ◌∷◌, map, replicate, refl, sym, ap, leb, arith, append_assoc}
use Rattle.std.specs.Str.{IsAscii}
use Rattle.std.proofs.lemmas.Bool.{leb-true}
use Rattle.std.proofs.lemmas.Str.Ascii.{IsAscii-nil, IsAscii-cons}
use Rattle.texts.specs.Leaf.{bit_digit, is_printable, are_printable}

pub ascii_zeros : (n : ℕ) → IsAscii (replicate n 0)
ascii_zeros zero = IsAscii-nil
ascii_zeros (suc n) = IsAscii-cons 0 (replicate n 0) (omega arith) (ascii_zeros n)

pub ascii_front : (xs ys : List ℕ) → IsAscii (xs ++ ys) → IsAscii xs
ascii_front [] ys h = IsAscii-nil
ascii_front (x ∷ xs) ys h = IsAscii-cons x xs (h 0) (ascii_front xs ys (λ i. h (suc i)))

pub ascii_back : (xs ys : List ℕ) → IsAscii (xs ++ ys) → IsAscii ys
ascii_back [] ys h = h
ascii_back (x ∷ xs) ys h = ascii_back xs ys (λ i. h (suc i))

both : (p q : Bool) → p && q ≡ true → (p ≡ true) × (q ≡ true)
both true q h = (refl, h)
both false q h = cc

pub printable_ascii : (octets : List ℕ) → are_printable octets ≡ true → IsAscii octets
printable_ascii [] h = IsAscii-nil
printable_ascii (x ∷ xs) h =
    let parts = both (is_printable x) (are_printable xs) h in
    let above : x ≤ 126 = leb-true x 126 (both (leb 32 x) (leb x 126) parts.0).1 in
    IsAscii-cons x xs (omega (arith, above)) (printable_ascii xs parts.1)

pub ascii_digits : (bits : List Bool) → IsAscii (map bit_digit bits)
ascii_digits [] = IsAscii-nil
ascii_digits (true ∷ bits) = IsAscii-cons 49 (map bit_digit bits) (omega arith) (ascii_digits bits)
ascii_digits (false ∷ bits) = IsAscii-cons 48 (map bit_digit bits) (omega arith) (ascii_digits bits)

-- a chunk was appended, and others are left
pub chunk_more : (f : List ℕ → List ℕ) (now new chunk rest left whole : List ℕ) → f (chunk ++ rest) ≡ f chunk ++ f rest → left ≡ chunk ++ rest → now ++ f left ≡ whole → new ≡ now ++ f chunk → new ++ f rest ≡ whole
chunk_more f now new chunk rest left whole splits parts h put =
    ap (λ n. n ++ f rest) put ∙ (append_assoc now (f chunk) (f rest) ∙ (ap (λ t. now ++ t) (sym splits ∙ ap f (sym parts)) ∙ h))
