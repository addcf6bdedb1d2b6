-- Lemmas on two facts that hold of the same octets.
use Rattle.std.proofs.Common.{ℕ, List, Ok, Err, OnOk}
use Rattle.std.specs.declared.result.Result.{Result}
use Rattle.octets.specs.Front.{Appends}
use Rattle.canon.specs.Size.{HasSize}

pub record HoldAlike (P Q : List ℕ → Type 0) : Type 0 where
  pub to : (b : List ℕ) → P b → Q b
  pub from : (b : List ℕ) → Q b → P b

pub alike-sym : (P Q : List ℕ → Type 0) → HoldAlike P Q → HoldAlike Q P
alike-sym P Q h = record { to = h.from; from = h.to }

pub alike-chain : (P Q R : List ℕ → Type 0) → HoldAlike P Q → HoldAlike Q R → HoldAlike P R
alike-chain P Q R h g = record { to = λ b p. g.to b (h.to b p); from = λ b r. h.from b (g.from b r) }

-- what was appended, by what follows from it
pub appended_by : {E : Type 0} (r : Result (Unit {0}) E) (P Q : List ℕ → Type 0) (old new : List ℕ) → ((b : List ℕ) → P b → Q b) → OnOk r (Appends P old new) → OnOk r (Appends Q old new)
appended_by (Ok x) P Q old new to h = (h.0, h.1, to h.0 h.2)
appended_by (Err e) P Q old new to h = tt

-- octets of the one kind are as many as of the other
pub size_alike : (P Q : List ℕ → Type 0) (n : ℕ) → HoldAlike P Q → HasSize P n → HasSize Q n
size_alike P Q n alike h = record {
  each = λ b q. h.each b (alike.from b q);
  there = λ within. let some = h.there within in (some.0, alike.to some.0 some.1);
}
