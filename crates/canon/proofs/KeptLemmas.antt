-- Lemmas on what a refused call leaves.
use Rattle.std.proofs.Common.{◌≡◌, ◌∙◌, ◌++◌, ℕ, List, Ok, Err, OnErr, length, take, drop, sym, ap, subst, append_assoc}
use Rattle.std.proofs.lemmas.List.{take-append-drop}
use Rattle.std.specs.declared.result.Result.{Result}
use Rattle.canon.specs.Part.{Keeps}
use Rattle.canon.proofs.PartLemmas.{take_front}

pub kept : {E : Type 0} (r : Result (Unit {0}) E) (P Q : Type 0) → (P → Q) → OnErr r P → OnErr r Q
kept (Ok x) P Q f h = tt
kept (Err e) P Q f h = f h

pub always_kept : {E : Type 0} (r : Result (Unit {0}) E) (P : Type 0) → P → OnErr r P
always_kept (Ok x) P h = tt
always_kept (Err e) P h = h

pub keeps_more : (old one two added : List ℕ) → Keeps old one → two ≡ one ++ added → Keeps old two
keeps_more old one two added h e = (h.0 ++ added, e ∙ ap (λ s. s ++ added) h.1 ∙ append_assoc old h.0 added, tt)

pub keeps_front : (n : ℕ) (old : List ℕ) → Keeps (take n old) old
keeps_front n old = (drop n old, sym (take-append-drop n old), tt)

pub keeps_chain : (old one two : List ℕ) → Keeps old one → Keeps one two → Keeps old two
keeps_chain old one two h g = keeps_more old one two g.0 h g.1

-- what kept the front of what had been appended
pub keeps_taken : (old added mid new : List ℕ) (n : ℕ) → n ≡ length old → mid ≡ old ++ added → Keeps (take n mid) new → Keeps old new
keeps_taken old added mid new n at is h = subst (λ s. Keeps s new) (ap (take n) is ∙ take_front old added n at) h
