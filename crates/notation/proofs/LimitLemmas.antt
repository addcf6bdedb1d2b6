-- Expressions that mean no well-formed type, since a list is too long, a number too great, or a name or number of an
-- item or a bit stands twice.
use Rattle.std.proofs.Common.{◌≡◌, ◌≢◌, ◌<◌, ◌≤◌, ◌⊎◌, inl, inr, ℕ, suc, ℤ, All, List, [], ◌∷◌, Option, Some, None, map, length, refl, sym, ap, ◌∙◌, subst, arith, Contains, FitsSigned}
use Rattle.std.specs.List.{AllPairs}
use Rattle.std.proofs.lemmas.List.{length-map}
use Rattle.std.proofs.lemmas.List.Elements.{All-nil, All-cons, All-head, All-tail}
use Rattle.std.proofs.lemmas.Simd.{map-map}
use Rattle.std.specs.Int.{w128}
use Rattle.octets.specs.declared.tag.Tag.{Tag}
use Rattle.types.specs.Shape.{EnumerationItem, NamedBitView, SimpleType, Shape}
use Rattle.types.specs.View.{ComponentView, AlternativeView, components_of, alternatives_of}
use Rattle.types.specs.WellFormed.{AreNamedBitsWithin, IsWellFormed}
use Rattle.types.proofs.ListLemmas.{not_in_nil, contains_first, contains_later, contains_cases, AllPairs-nil, first_differs, others_differ, all_differ-cons}
use Rattle.syntax.specs.declared.tree.Group.{Group}
use Rattle.syntax.specs.declared.tree.Group.TheVariants.{Sequence, Set}
use Rattle.syntax.specs.declared.tree.TagPrefix.{TagPrefix}
use Rattle.syntax.specs.Tree.{Ending, Entry, Form, tagged, list, choice, enumerated, named_bits, Tree}
use Rattle.syntax.specs.View.{components_of as written_components, alternatives_of as written_alternatives}
use Rattle.types.specs.Universal.{enumerated_tag}
use Rattle.builtin_types.specs.Universal.{named_bit, with_named_bits, list_of}
use Rattle.types.specs.Tagging.{tagged_implicitly}
use Rattle.builtin_types.specs.Tagging.{tag_of, IsUntaggedChoice}
use Rattle.builtin_types.specs.Numbering.{number_of, written_numbers, AreWithin, NumbersDiffer, AreNumbered}
use Rattle.builtin_types.specs.Names.{NamesDiffer}
use Rattle.notation.specs.Meaning.{IsMeaning, of_items, of_named_bits}
use Rattle.notation.specs.Parts.{AreFrom}
use Rattle.notation.specs.Under.{IsUnder, MeansUnder, IsExplicitAt}
use Rattle.notation.specs.Refused.{HasNoType, NeverHasType}
use Rattle.notation.proofs.UnderLemmas.{behind_tag}
use Rattle.notation.proofs.ListLemmas.{list-meaning, choice-meaning}
use Rattle.notation.proofs.WellFormedLemmas.{count_views, count_alternative_views, HasTag, tag_within}

pub same_length : {W V : Type 0} (IsOne : ℕ → W → V → Type 0) (place : ℕ) (ws : List W) (vs : List V) → AreFrom IsOne place ws vs → length ws ≡ length vs
same_length IsOne place [] [] h = refl
same_length IsOne place [] (v ∷ vs) h = absurd h
same_length IsOne place (w ∷ ws) [] h = absurd h
same_length IsOne place (w ∷ ws) (v ∷ vs) h = ap suc (same_length IsOne (suc place) ws vs h.1)

-- lists of more than 256
list_length : (group : Group) (outer : Option Tag) (vs : List ComponentView) (whole : Shape) → IsUnder outer (list_of group (components_of vs)) whole → IsWellFormed whole → length vs ≤ 256
list_length Sequence None vs whole u good = subst (λ (n : ℕ). n ≤ 256) (count_views vs) ((subst IsWellFormed u good).limits.each.0.1)
list_length Sequence (Some tag) vs whole u good = subst (λ (n : ℕ). n ≤ 256) (count_views vs) ((subst IsWellFormed u.1 good).limits.each.0.1)
list_length Set None vs whole u good = subst (λ (n : ℕ). n ≤ 256) (count_views vs) ((subst IsWellFormed u good).limits.each.0.1)
list_length Set (Some tag) vs whole u good = subst (λ (n : ℕ). n ≤ 256) (count_views vs) ((subst IsWellFormed u.1 good).limits.each.0.1)

pub never-long_list : (m : Tree) (group : Group) (ws : List (List ℕ × Form × Ending)) → 256 < length ws → NeverHasType m (list group (written_components ws))
never-long_list m group ws long outer whole d good =
    let l = list-meaning m group ws d.type d.meaning in
    let few = list_length group outer l.views whole (subst (λ (i : Shape). IsUnder outer i whole) l.is d.under) good in
    absurd (omega (arith, long, few, same_length _ 0 ws l.views l.parts))

choice_length : (outer : Option Tag) (vs : List AlternativeView) (whole : Shape) → IsUnder outer (Shape.choice (alternatives_of vs)) whole → IsWellFormed whole → (1 ≤ length vs) × (length vs ≤ 256)
choice_length None vs whole u good = subst (λ (n : ℕ). (1 ≤ n) × (n ≤ 256)) (count_alternative_views vs) ((subst IsWellFormed u good).limits.each.0)
choice_length (Some tag) vs whole u good = absurd (u.0 tt)

pub never-long_choice : (m : Tree) (ws : List (List ℕ × Form)) → (length ws ≡ 0) ⊎ (256 < length ws) → NeverHasType m (choice (written_alternatives ws))
never-long_choice m ws long outer whole d good =
    let l = choice-meaning m ws d.type d.meaning in
    let few = choice_length outer l.views whole (subst (λ (i : Shape). IsUnder outer i whole) l.is d.under) good in
    elim long [ inl none ↦ absurd (omega (arith, none, few.0, same_length _ 0 ws l.views l.parts)) | inr many ↦ absurd (omega (arith, many, few.1, same_length _ 0 ws l.views l.parts)) ]

-- items of an ENUMERATED
numbered_length : (written : List ℤ) (from : ℕ) (entries : List Entry) (items : List EnumerationItem) → AreNumbered written from entries items → length entries ≡ length items
numbered_length written from [] [] h = refl
numbered_length written from [] (item ∷ items) h = absurd h
numbered_length written from (entry ∷ entries) [] h = absurd h
numbered_length written from ((name, Some number) ∷ entries) (item ∷ items) h = ap suc (numbered_length written from entries items h.3)
numbered_length written from ((name, None) ∷ entries) (item ∷ items) h = ap suc (numbered_length written (suc h.1.0) entries items h.1.3)

abbrev numbers : List EnumerationItem → List ℤ
numbers items = map (λ (item : EnumerationItem). item.number) items

written_among : (written : List ℤ) (from : ℕ) (entries : List Entry) (items : List EnumerationItem) → AreNumbered written from entries items → (number : ℤ) → Contains (written_numbers entries) number → Contains (numbers items) number
written_among written from [] [] h number c = c
written_among written from [] (item ∷ items) h number c = absurd h
written_among written from (entry ∷ entries) [] h number c = absurd h
written_among written from ((name, Some own) ∷ entries) (item ∷ items) h number c =
    elim (contains_cases (number_of own) number (written_numbers entries) c) [ inl same ↦ contains_first item.number number (numbers items) (h.1 ∙ same) | inr later ↦ contains_later item.number number (numbers items) (written_among written from entries items h.3 number later) ]
written_among written from ((name, None) ∷ entries) (item ∷ items) h number c = contains_later item.number number (numbers items) (written_among written (suc h.1.0) entries items h.1.3 number c)

-- where the items' numbers differ, those that are written do
written_differ : (written : List ℤ) (from : ℕ) (entries : List Entry) (items : List EnumerationItem) → AreNumbered written from entries items → AllPairs (λ (a b : ℤ). a ≢ b) (numbers items) → AllPairs (λ (a b : ℤ). a ≢ b) (written_numbers entries)
written_differ written from [] [] h differ = AllPairs-nil (λ (a b : ℤ). a ≢ b)
written_differ written from [] (item ∷ items) h differ = absurd h
written_differ written from (entry ∷ entries) [] h differ = absurd h
written_differ written from ((name, Some own) ∷ entries) (item ∷ items) h differ =
    all_differ-cons (number_of own) (written_numbers entries)
    (λ c. first_differs item.number (numbers items) differ (subst (Contains (numbers items)) (sym h.1) (written_among written from entries items h.3 (number_of own) c)))
    (written_differ written from entries items h.3 (others_differ item.number (numbers items) differ))
written_differ written from ((name, None) ∷ entries) (item ∷ items) h differ = written_differ written (suc h.1.0) entries items h.1.3 (others_differ item.number (numbers items) differ)

numbers_within : (written : List ℤ) (from : ℕ) (entries : List Entry) (items : List EnumerationItem) → AreNumbered written from entries items → AreWithin entries
numbers_within written from [] [] h number c = absurd (not_in_nil number c)
numbers_within written from [] (item ∷ items) h number c = absurd h
numbers_within written from (entry ∷ entries) [] h number c = absurd h
numbers_within written from ((name, Some own) ∷ entries) (item ∷ items) h number c =
    elim (contains_cases (number_of own) number (written_numbers entries) c) [ inl same ↦ subst (FitsSigned w128) same h.2 | inr later ↦ numbers_within written from entries items h.3 number later ]
numbers_within written from ((name, None) ∷ entries) (item ∷ items) h number c = numbers_within written (suc h.1.0) entries items h.1.3 number c

-- what a well-formed ENUMERATED has
pub record HasGoodItems (entries : List Entry) : Type 0 where
  pub some : 1 ≤ length entries
  pub few : length entries ≤ 256
  pub names : NamesDiffer (map (λ (entry : Entry). entry.0) entries)
  pub numbers_differ : NumbersDiffer entries
  pub within : AreWithin entries

good_items : (outer : Option Tag) (items : List EnumerationItem) (whole : Shape) → IsUnder outer (Shape.simple enumerated_tag (SimpleType.enumerated items)) whole → IsWellFormed whole
    → (1 ≤ length items) × (length items ≤ 256) × AllPairs (λ (a b : ℤ). a ≢ b) (numbers items)
good_items None items whole u good = let g = subst IsWellFormed u good in (g.limits.each.0.1.0, g.limits.each.0.1.1, g.numbers.0)
good_items (Some tag) items whole u good = let g = subst IsWellFormed u.1 good in (g.limits.each.0.1.0, g.limits.each.0.1.1, g.numbers.0)

pub items_meant : (m : Tree) (entries : List Entry) (outer : Option Tag) (whole : Shape) → MeansUnder m outer (enumerated entries) whole → IsWellFormed whole → HasGoodItems entries
items_meant m entries outer whole d good = by_meaning d.meaning
  where
    by_meaning : IsMeaning m (enumerated entries) d.type → HasGoodItems entries
    by_meaning (of_items {items} names numbered e) =
        let g = good_items outer items whole (subst (λ (i : Shape). IsUnder outer i whole) e d.under) good in
        let long = numbered_length (written_numbers entries) 0 entries items numbered in
        let some = g.0 in
        let few = g.1 in
        record {
          some = omega (arith, long, some);
          few = omega (arith, long, few);
          names = names;
          numbers_differ = written_differ (written_numbers entries) 0 entries items numbered g.2;
          within = numbers_within (written_numbers entries) 0 entries items numbered;
        }

-- an ENUMERATED without one of these never has a type
pub never-items : (m : Tree) (entries : List Entry) → (HasGoodItems entries → ⊥) → NeverHasType m (enumerated entries)
never-items m entries bad outer whole d good = bad (items_meant m entries outer whole d good)

-- what holds of each that is made of another one
pub all_behind : {A B : Type 0} (P : B → Type 0) (f : A → B) (xs : List A) → All P (map f xs) → All (λ (x : A). P (f x)) xs
all_behind {A} P f [] h = All-nil (λ (x : A). P (f x))
all_behind {A} P f (x ∷ xs) h = All-cons (λ (x : A). P (f x)) x xs (All-head P (f x) (map f xs) h) (all_behind P f xs (All-tail P (f x) (map f xs) h))

-- what a well-formed BIT STRING with named bits has
pub record HasGoodBits (bits : List (List ℕ × ℕ)) : Type 0 where
  pub some : 1 ≤ length bits
  pub few : length bits ≤ 256
  pub names : NamesDiffer (map (λ (bit : List ℕ × ℕ). bit.0) bits)
  pub numbers_differ : AllPairs (λ (a b : ℕ). a ≢ b) (map (λ (bit : List ℕ × ℕ). bit.1) bits)
  pub within : All (λ (bit : List ℕ × ℕ). bit.1 ≤ 65_535) bits

good_bits : (outer : Option Tag) (bits : List (List ℕ × ℕ)) (whole : Shape) → IsUnder outer (with_named_bits bits) whole → IsWellFormed whole
    → AreNamedBitsWithin (map named_bit bits) × AllPairs (λ (a b : ℕ). a ≢ b) (map (λ (bit : NamedBitView). bit.number) (map named_bit bits))
good_bits None bits whole u good = let g = subst IsWellFormed u good in (g.limits.each.0.1, g.numbers.0)
good_bits (Some tag) bits whole u good = let g = subst IsWellFormed u.1 good in (g.limits.each.0.1, g.numbers.0)

pub bits_meant : (m : Tree) (bits : List (List ℕ × ℕ)) (outer : Option Tag) (whole : Shape) → MeansUnder m outer (named_bits bits) whole → IsWellFormed whole → HasGoodBits bits
bits_meant m bits outer whole d good = by_meaning d.meaning
  where
    by_meaning : IsMeaning m (named_bits bits) d.type → HasGoodBits bits
    by_meaning (of_named_bits names e) =
        let g = good_bits outer bits whole (subst (λ (i : Shape). IsUnder outer i whole) e d.under) good in
        let long = length-map bits named_bit in
        record {
          some = subst (λ (n : ℕ). 1 ≤ n) long g.0.at_least_one;
          few = subst (λ (n : ℕ). n ≤ 256) long g.0.at_most_256;
          names = names;
          numbers_differ = subst (AllPairs (λ (a b : ℕ). a ≢ b)) (map-map (λ (bit : NamedBitView). bit.number) named_bit bits) g.1;
          within = all_behind (λ (bit : NamedBitView). bit.number ≤ 65_535) named_bit bits g.0.each;
        }

-- one without one of these never has a type
pub never-bits : (m : Tree) (bits : List (List ℕ × ℕ)) → (HasGoodBits bits → ⊥) → NeverHasType m (named_bits bits)
never-bits m bits bad outer whole d good = bad (bits_meant m bits outer whole d good)

-- a tag from outside whose number is too great
has_tag-implicitly : (tag : Tag) (type : Shape) → (IsUntaggedChoice type → ⊥) → HasTag tag (tagged_implicitly tag type)
has_tag-implicitly tag (Shape.simple other type) h = refl
has_tag-implicitly tag (Shape.string other type) h = refl
has_tag-implicitly tag (Shape.sequence other components) h = refl
has_tag-implicitly tag (Shape.set other components) h = refl
has_tag-implicitly tag (Shape.sequence_of other type) h = refl
has_tag-implicitly tag (Shape.set_of other type) h = refl
has_tag-implicitly tag (Shape.choice alternatives) h = absurd (h tt)
has_tag-implicitly tag (Shape.explicit other type) h = refl

pub no_type-great_tag : (m : Tree) (tag : Tag) (form : Form) → 268_435_455 < tag.number → HasNoType m (Some tag) form
no_type-great_tag m tag form great whole d good =
    let within = tag_within tag whole (subst (HasTag tag) (sym d.under.1) (has_tag-implicitly tag d.type d.under.0)) good in
    absurd (omega (arith, great, within))

-- and one that is written, where nothing stands outside
pub no_type-great_prefix : (m : Tree) (prefix : TagPrefix) (form : Form) → IsExplicitAt m prefix form → 268_435_455 < prefix.number → HasNoType m None (tagged prefix form)
no_type-great_prefix m prefix form explicit great whole d good =
    let b = behind_tag m prefix form d.type d.meaning in
    let is = d.under ∙ (explicit b.0 d.type b.1).0 b.2 in
    let within = tag_within (tag_of prefix) whole (subst (HasTag (tag_of prefix)) (sym is) refl) good in
    absurd (omega (arith, great, within))
