-- Lemmas on how many octets constructed encodings have.
use Rattle.std.specs.List.{AllZip, concat, sum_by}
use Rattle.std.proofs.Common.{◌≡◌, ◌+◌, ◌^◌, ◌≤◌, ℕ, List, [], ◌∷◌, ◌++◌, Option, Some, None, length, min, refl, sym, ap, ◌∙◌, arith, length-append, IsPermutation}
use Rattle.std.proofs.lemmas.List.Sorted.{sum_by-IsPermutation}
use Rattle.std.proofs.lemmas.List.Sums.{sum_by-cons}
use Rattle.octets.specs.declared.tag.Tag.{Tag}
use Rattle.octets.specs.Rule.{Rule, ber, cer, der, IsCanonical}
use Rattle.octets.proofs.ShortestLemmas.{shortest_length}
use Rattle.types.specs.Shape.{Val, Slots, no_slot, absent, present, Requirement, required, optional, default, Shape, Components, no_component, component}
use Rattle.types.specs.Conforms.{MayBeAbsent, DiffersFromDefault}
use Rattle.types.specs.Form.{IsConstructed}
use Rattle.types.specs.Order.{IsPaddedAtMost}
use Rattle.types.specs.Encoding.{Meaning, IsEncoding, AreSlotEncodings, StandsForAbsent, standing}
use Rattle.types.proofs.DepthLemmas.{absent_is_none}
use Rattle.types.proofs.FormExistenceLemmas.{constructed_around}
use Rattle.types.proofs.OrderLemmas.{padded_total, padded_trans}
use Rattle.canon.specs.Size.{HasSize}
use Rattle.canon.specs.Node.{IsAround, AreItems, AreItemsInOrder, AreComponents}
use Rattle.canon.proofs.SortLemmas.{put_in_order}

length_concat : (ps : List (List ℕ)) → length (concat ps) ≡ sum_by length ps
length_concat [] = refl
length_concat (p ∷ ps) = omega (arith, length-append p (concat ps), length_concat ps, sum_by-cons length p ps)

pub length_permuted : (ps qs : List (List ℕ)) → IsPermutation ps qs → length (concat qs) ≡ length (concat ps)
length_permuted ps qs h = length_concat qs ∙ sum_by-IsPermutation length ps qs h ∙ sym (length_concat ps)

-- what `size_of_constructed` says
abbrev pub SizesConstructed : Rule → Tag → ℕ → ℕ → Type 0
SizesConstructed rule tag contents size = (inside octets : List ℕ) → contents ≡ min (length inside) 1_048_577 → IsConstructed rule tag inside octets → size ≡ min (length octets) 1_048_577

pub around_size : (IsInside : List ℕ → Type 0) (rule : Rule) (tag : Tag) (n size : ℕ) → tag.number ≤ 268_435_455 → HasSize IsInside n → n ≤ size → SizesConstructed rule tag n size → HasSize (IsAround IsInside rule tag) size
around_size IsInside rule tag n size kept h more sizes = record {
  each = λ octets k. sizes k.contents octets (h.each k.contents k.inside) k.whole;
  there = λ within.
      let inner = h.there (omega (arith, within, more)) in
      let wide : 2 ^ 64 ≡ 18446744073709551616 = refl in
      let around = constructed_around (2 ^ 64) shortest_length rule tag inner.0 kept (omega (arith, h.each inner.0 inner.1, within, more, wide)) in
      (around.octets, record { contents = inner.0; inside = inner.1; whole = around.whole });
}

module _ (IsItem : Meaning) where
  pub no_items_size : HasSize (AreItems IsItem []) 0
  no_items_size = record { each = λ octets h. none octets h.encodings h.each h.joined; there = λ within. ([], record { encodings = []; each = tt; joined = refl }) }
    where
      none : (octets : List ℕ) (encodings : List (List ℕ)) → AllZip IsItem [] encodings → octets ≡ concat encodings → 0 ≡ min (length octets) 1_048_577
      none octets [] each joined = omega (arith, ap length joined)
      none octets (e ∷ es) each joined = elim each [ ]

  pub more_items_size : (value : Val) (others : List Val) (m n : ℕ) → HasSize (IsItem value) m → HasSize (AreItems IsItem others) n → HasSize (AreItems IsItem (value ∷ others)) (min (n + m) 1_048_577)
  more_items_size value others m n h k = record {
    each = λ octets w. split octets w.encodings w.each w.joined;
    there = λ within.
        let one = h.there (omega (arith, within)) in
        let rest = k.there (omega (arith, within)) in
        (one.0 ++ rest.0, record { encodings = one.0 ∷ rest.1.encodings; each = (one.1, rest.1.each); joined = ap (λ x. one.0 ++ x) rest.1.joined });
  }
    where
      split : (octets : List ℕ) (encodings : List (List ℕ)) → AllZip IsItem (value ∷ others) encodings → octets ≡ concat encodings → min (n + m) 1_048_577 ≡ min (length octets) 1_048_577
      split octets [] each joined = elim each [ ]
      split octets (e ∷ es) each joined =
          omega (arith, ap length joined, length-append e (concat es), h.each e each.0, k.each (concat es) record { encodings = es; each = each.1; joined = refl })

  -- in order they are as many
  pub ordered_items_size : (values : List Val) (n : ℕ) → HasSize (AreItems IsItem values) n → HasSize (AreItemsInOrder IsItem values) n
  ordered_items_size values n h = record {
    each = λ octets w. omega (arith, h.each (concat w.encodings) record { encodings = w.encodings; each = w.each; joined = refl }, length_permuted w.encodings w.order w.permutes, ap length w.joined);
    there = λ within.
        let some = h.there within in
        let order = put_in_order IsPaddedAtMost padded_total padded_trans some.1.encodings in
        (concat order.0, record { encodings = some.1.encodings; each = some.1.each; order = order.0; permutes = order.1; ascends = order.2; joined = refl });
  }

pub no_components_size : (rule : Rule) → HasSize (AreComponents rule no_component no_slot) 0
no_components_size rule = record { each = λ octets h. none octets h.encodings h.each h.joined; there = λ within. ([], record { encodings = []; each = tt; joined = refl }) }
  where
    none : (octets : List ℕ) (encodings : List (Option (List ℕ))) → AreSlotEncodings rule no_component no_slot encodings → octets ≡ concat (standing encodings) → 0 ≡ min (length octets) 1_048_577
    none octets [] each joined = omega (arith, ap length joined)
    none octets (e ∷ es) each joined = elim each [ ]

pub absent_stands : (rule : Rule) (requirement : Requirement) (Encodes : Meaning) → IsCanonical rule → MayBeAbsent requirement → StandsForAbsent rule requirement Encodes None
absent_stands rule required Encodes canonical may = may
absent_stands rule optional Encodes canonical may = refl
absent_stands ber (default value) Encodes canonical may = tt
absent_stands cer (default value) Encodes canonical may = refl
absent_stands der (default value) Encodes canonical may = refl

pub absent_component_size : (rule : Rule) (name : List ℕ) (type : Shape) (requirement : Requirement) (others : Components) (slots : Slots) (n : ℕ) → IsCanonical rule → MayBeAbsent requirement → HasSize (AreComponents rule others slots) n
    → HasSize (AreComponents rule (component name type requirement others) (absent slots)) n
absent_component_size rule name type requirement others slots n canonical may h = record {
  each = λ octets w. split octets w.encodings w.each w.joined;
  there = λ within.
      let rest = h.there within in
      (rest.0, record { encodings = None ∷ rest.1.encodings; each = (absent_stands rule requirement (IsEncoding rule type) canonical may, rest.1.each); joined = rest.1.joined });
}
  where
    split : (octets : List ℕ) (encodings : List (Option (List ℕ))) → AreSlotEncodings rule (component name type requirement others) (absent slots) encodings → octets ≡ concat (standing encodings) → n ≡ min (length octets) 1_048_577
    split octets [] each joined = elim each [ ]
    split octets (e ∷ es) each joined =
        let none : e ≡ None = absent_is_none rule requirement (IsEncoding rule type) e canonical each.0 in
        let same : octets ≡ concat (standing es) = joined ∙ ap (λ x. concat (standing (x ∷ es))) none in
        omega (arith, ap length same, h.each (concat (standing es)) record { encodings = es; each = each.1; joined = refl })

pub present_component_size : (rule : Rule) (name : List ℕ) (type : Shape) (requirement : Requirement) (others : Components) (value : Val) (slots : Slots) (m n : ℕ) → DiffersFromDefault requirement value → HasSize (IsEncoding rule type value) m
    → HasSize (AreComponents rule others slots) n → HasSize (AreComponents rule (component name type requirement others) (present value slots)) (min (n + m) 1_048_577)
present_component_size rule name type requirement others value slots m n differs h k = record {
  each = λ octets w. split octets w.encodings w.each w.joined;
  there = λ within.
      let one = h.there (omega (arith, within)) in
      let rest = k.there (omega (arith, within)) in
      (one.0 ++ rest.0, record { encodings = Some one.0 ∷ rest.1.encodings; each = (one.1, differs, rest.1.each); joined = ap (λ x. one.0 ++ x) rest.1.joined });
}
  where
    split : (octets : List ℕ) (encodings : List (Option (List ℕ))) → AreSlotEncodings rule (component name type requirement others) (present value slots) encodings → octets ≡ concat (standing encodings)
        → min (n + m) 1_048_577 ≡ min (length octets) 1_048_577
    split octets [] each joined = elim each [ ]
    split octets (None ∷ es) each joined = elim each [ ]
    split octets (Some e ∷ es) each joined =
        omega (arith, ap length joined, length-append e (concat (standing es)), h.each e each.0, k.each (concat (standing es)) record { encodings = es; each = each.2; joined = refl })
