-- Lemmas on subidentifiers that are read octet by octet.
use Rattle.std.proofs.Common.{◌≡◌, ◌≢◌, ℕ, ◌+◌, ◌-◌, ◌*◌, ◌%◌, ◌^◌, ◌<◌, ◌≤◌, List, [], ◌∷◌, ◌++◌, length, take, drop, refl, ◌∙◌, ap, arith, get_or, subst}
use Rattle.std.proofs.lemmas.List.{take_all, length-drop, get_or-drop}
use Rattle.octets.specs.Base128.{IsBase128}
use Rattle.primitives.specs.Oid.{AreSmallSubidentifiers, IsReadSubidentifier}
use Rattle.primitives.proofs.SubidentifierLemmas.{IsBegun, IsBegun-none, IsBegun-more, IsBase128-from_begun}
use Rattle.primitives.proofs.OidLemmas.{AreRead, AreRead-none, AreRead-more}

-- the first i octets are those of the numbers, and of one that is begun
pub record AreBegun (contents : List ℕ) (i : ℕ) (numbers : List ℕ) (number : ℕ) : Type 0 where
  pub mark : ℕ
  pub more : ℕ
  pub place : mark + more ≡ i
  pub read : AreRead contents mark numbers
  pub begun : IsBegun (drop mark contents) more number
  pub no_octets : number ≡ 0 → more ≡ 0
  pub no_number : more ≡ 0 → number ≡ 0

pub AreBegun-none : (contents : List ℕ) → AreBegun contents 0 [] 0
AreBegun-none contents = record {
  mark = 0;
  more = 0;
  place = refl;
  read = AreRead-none contents;
  begun = IsBegun-none (drop 0 contents);
  no_octets = λ none. refl;
  no_number = λ none. refl;
}

-- the octet that ends a subidentifier
pub AreBegun-last : (contents : List ℕ) (i : ℕ) (numbers : List ℕ) (number octet : ℕ) → AreBegun contents i numbers number → i < length contents → get_or contents i 0 ≡ octet → octet < 128 → number < 2 ^ 21 → AreBegun contents (i + 1) (numbers ++ (number * 128 + octet) ∷ []) 0
AreBegun-last contents i numbers number octet h below item low small =
    let rest = drop h.mark contents in
    let there : h.more < length rest = omega (arith, h.place, length-drop h.mark contents, below) in
    let last : get_or rest h.more 0 ≡ octet = get_or-drop h.mark contents h.more 0 ∙ (ap (λ k. get_or contents k 0) h.place ∙ item) in
    let whole : number * 128 + octet % 128 ≡ number * 128 + octet = omega (arith, low) in
    let spelt = subst (λ n. IsBase128 n (take (h.more + 1) rest)) whole (IsBase128-from_begun rest h.more number octet h.begun there last low) in
    let limit : 2 ^ 21 * 128 ≤ 2 ^ 128 = omega arith in
    let one : IsReadSubidentifier rest (number * 128 + octet) (h.more + 1) = record { there = omega (arith, there); within = omega (arith, small, low, limit); spelt = spelt } in
    record {
      mark = h.mark + (h.more + 1);
      more = 0;
      place = omega (arith, h.place);
      read = AreRead-more contents h.mark numbers (number * 128 + octet) (h.more + 1) h.read one;
      begun = IsBegun-none (drop (h.mark + (h.more + 1)) contents);
      no_octets = λ none. refl;
      no_number = λ none. refl;
    }

-- an octet that another follows
pub AreBegun-more : (contents : List ℕ) (i : ℕ) (numbers : List ℕ) (number octet : ℕ) → AreBegun contents i numbers number → i < length contents → get_or contents i 0 ≡ octet → 128 ≤ octet → octet < 256 → number * 128 + (octet - 128) ≢ 0 → AreBegun contents (i + 1) numbers (number * 128 + (octet - 128))
AreBegun-more contents i numbers number octet h below item high byte some =
    let rest = drop h.mark contents in
    let there : h.more < length rest = omega (arith, h.place, length-drop h.mark contents, below) in
    let next : get_or rest h.more 0 ≡ octet = get_or-drop h.mark contents h.more 0 ∙ (ap (λ k. get_or contents k 0) h.place ∙ item) in
    let first : h.more ≡ 0 → octet ≢ 128 = λ none same. some (omega (arith, h.no_number none, same)) in
    let whole : number * 128 + octet % 128 ≡ number * 128 + (octet - 128) = omega (arith, high, byte) in
    record {
      mark = h.mark;
      more = h.more + 1;
      place = omega (arith, h.place);
      read = h.read;
      begun = subst (IsBegun rest (h.more + 1)) whole (IsBegun-more rest h.more number octet h.begun there next high byte first);
      no_octets = λ none. absurd (some none);
      no_number = λ none. absurd (omega (arith, none));
    }

-- no subidentifier is begun at the end
pub AreBegun-all : (contents : List ℕ) (i : ℕ) (numbers : List ℕ) (number : ℕ) → AreBegun contents i numbers number → i ≡ length contents → number ≡ 0 → AreSmallSubidentifiers numbers contents
AreBegun-all contents i numbers number h end none =
    subst (AreSmallSubidentifiers numbers) (take_all h.mark contents (omega (arith, h.place, h.no_octets none, end))) h.read.spelt
