-- The octets up to one place, by those up to another.
use Rattle.std.proofs.Common.{◌≡◌, ℕ, ◌+◌, ◌-◌, ◌≤◌, List, ◌++◌, take, slice_range, ap, sym, ◌∙◌, arith}
use Rattle.std.proofs.Math.Seq.{take-add}

pub take_to : (l : List ℕ) (m n : ℕ) → m ≤ n → take n l ≡ take m l ++ slice_range l m n
take_to l m n h =
    let e : m + (n - m) ≡ n = omega (arith, h) in
    ap (λ k. take k l) (sym e) ∙ take-add m (n - m) l
