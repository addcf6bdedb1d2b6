use Rattle.std.proofs.Common.{◌≡◌, ◌↔◌, ◌^◌, ◌<◌, ℕ, List, length, refl, sym, ◌∙◌, subst, arith}
use Rattle.octets.specs.Length.{IsLength, IsShortestLength}
use Rattle.octets.proofs.ShortestLemmas.{shortest_length, IsLength-same_size}
use Rattle.octets.proofs.SizeLemmas.{short_length_size, long_length_size}
use Rattle.strict.proofs.head.shortest.Goals as goal

-- a length of the size of the shortest one is the shortest one
of_size : (n k : ℕ) (l : List ℕ) → n < 2 ^ 64 → ((s : List ℕ) → IsShortestLength n s → length s ≡ k) → IsLength n l → IsShortestLength n l ↔ (length l ≡ k)
of_size n k l small size h = (size l, λ same. let s = shortest_length n small in subst (IsShortestLength n) (IsLength-same_size n s.0 l s.1.form h (size s.0 s.1 ∙ sym same)) s.1)

pub returns-then-size-lt128 : goal.returns-then-size-lt128
returns-then-size-lt128 c = λ l h. of_size c.args.size 1 l (omega (arith, c.requires)) (λ s k. short_length_size c.args.size s c.if-size-lt128.true k) h

pub returns-then-size-lt256 : goal.returns-then-size-lt256
returns-then-size-lt256 c = λ l h.
    let one : 256 ^ 0 ≡ 1 = refl in
    of_size c.args.size 2 l (omega (arith, c.requires)) (λ s k. long_length_size c.args.size 0 s c.if-size-lt128.false (omega (arith, one, c.if-size-lt128.false)) (omega (arith, c.if-size-lt256.true)) (omega arith) k) h

pub returns-then-size-lt65536 : goal.returns-then-size-lt65536
returns-then-size-lt65536 c = λ l h.
    of_size c.args.size 3 l (omega (arith, c.requires)) (λ s k. long_length_size c.args.size 1 s c.if-size-lt128.false (omega (arith, c.if-size-lt256.false)) (omega (arith, c.if-size-lt65536.true)) (omega arith) k) h

pub returns-else-size-lt65536 : goal.returns-else-size-lt65536
returns-else-size-lt65536 c = λ l h.
    of_size c.args.size 4 l (omega (arith, c.requires)) (λ s k. long_length_size c.args.size 2 s c.if-size-lt128.false (omega (arith, c.if-size-lt65536.false)) (omega (arith, c.requires)) (omega arith) k) h
