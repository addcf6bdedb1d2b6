-- Lemmas on encodings that two octets stand before.
use Rattle.std.proofs.Common.{◌≡◌, ℕ, ◌+◌, ◌-◌, ◌<◌, ◌≤◌, List, [], ◌∷◌, Bool, true, false, length, take, drop, get_or, refl, sym, ◌∙◌, ap, subst, arith}
use Rattle.std.proofs.Math.Seq.{take-suc, drop-cons}
use Rattle.std.proofs.lemmas.List.{length-drop}
use Rattle.octets.specs.declared.canonical.Canonical.{Canonical}
use Rattle.octets.specs.declared.canonical.Canonical.TheVariants.{Cer, Der}
use Rattle.octets.specs.declared.tag.Tag.{Tag}
use Rattle.octets.specs.Identifier.{IsIdentifier}
use Rattle.octets.specs.Length.{IsShortestLength}
use Rattle.octets.specs.Rule.{cer, der}
use Rattle.octets.proofs.LengthLemmas.{IsShortestLength-short}
use Rattle.types.specs.Shape.{Shape}
use Rattle.strict.specs.Head.{IsOpened}
use Rattle.strict.specs.Leaf.{IsPlace, IsWhole}
use Rattle.strict.proofs.HeadLemmas.{definite_at}
use Rattle.strict.proofs.InsideLemmas.{opened_definite, opened_indefinite}
use Rattle.strict.proofs.PlaceLemmas.{place_of}

-- what was read of the first two octets
record AreTwo (tag : Tag) (constructed : Bool) (octets : List ℕ) : Type 0 where
  pub one : 1 ≤ length octets
  pub other : 1 ≤ length (drop 1 octets)
  pub tagged : IsIdentifier tag constructed (take 1 octets)
  pub second : take 1 (drop 1 octets) ≡ get_or octets 1 0 ∷ []

two_of : (tag : Tag) (constructed : Bool) (octets : List ℕ) → 2 ≤ length octets → IsIdentifier tag constructed (get_or octets 0 0 ∷ []) → AreTwo tag constructed octets
two_of tag constructed octets there id = record {
  one = omega (arith, there);
  other = omega (arith, there, length-drop 1 octets);
  tagged = subst (IsIdentifier tag constructed) (sym (take-suc octets 0 0 (omega (arith, there)))) id;
  second = ap (take 1) (drop-cons octets 1 0 (omega (arith, there)));
}

-- one length octet below 128 is the shortest length
short_length : (tag : Tag) (constructed : Bool) (n : ℕ) (octets : List ℕ) → AreTwo tag constructed octets → n < 128 → n ≡ get_or octets 1 0 → IsShortestLength n (take 1 (drop 1 octets))
short_length tag constructed n octets two low is = subst (IsShortestLength n) (ap (λ octet. octet ∷ []) is ∙ sym two.second) (IsShortestLength-short n low)

-- the contents octets of a primitive encoding
pub short_place : (tag : Tag) (room n : ℕ) (octets : List ℕ) → 2 ≤ length octets → IsIdentifier tag false (get_or octets 0 0 ∷ []) → n < 128 → n ≡ get_or octets 1 0 → 2 + n ≤ room → 2 + n ≤ length octets → IsPlace tag room octets 2 (2 + n)
short_place tag room n octets there id low is fits enough =
    let two = two_of tag false octets there id in
    let s = short_length tag false n octets two low is in
    place_of tag room 1 n 1 octets two.one two.tagged (record { there = two.other; fits = omega (arith, fits); sized = s.form }) s (omega (arith, enough))

-- so few are not to be cut
pub short_whole : (rule : Canonical) (type : Shape) (size : ℕ) → size ≤ 1000 → IsWhole rule type size
short_whole Cer (Shape.string tag type) size short = short
short_whole Cer type size short = tt
short_whole Der type size short = tt

-- what stands inside a constructed encoding of the definite form
pub short_definite : (tag : Tag) (room n : ℕ) (octets : List ℕ) → 2 ≤ length octets → IsIdentifier tag true (get_or octets 0 0 ∷ []) → n < 128 → n ≡ get_or octets 1 0 → 2 + n ≤ room → IsOpened der tag room octets record { start = 2; room = n; definite = true }
short_definite tag room n octets there id low is fits =
    let two = two_of tag true octets there id in
    let s = short_length tag true n octets two low is in
    opened_definite tag room 2 n octets (definite_at tag true 1 1 n room octets two.one two.tagged two.other s (omega (arith, fits)))

-- and of the indefinite form
pub short_indefinite : (tag : Tag) (room : ℕ) (octets : List ℕ) → 2 ≤ length octets → IsIdentifier tag true (get_or octets 0 0 ∷ []) → get_or octets 1 0 ≡ 128 → 4 ≤ room → IsOpened cer tag room octets record { start = 2; room = room - 2 - 2; definite = false }
short_indefinite tag room octets there id mark fits =
    let two = two_of tag true octets there id in
    opened_indefinite tag room 1 1 octets two.one two.tagged (record { there = two.other; fits = omega (arith, fits); form = refl; mark = two.second ∙ ap (λ octet. octet ∷ []) mark })
