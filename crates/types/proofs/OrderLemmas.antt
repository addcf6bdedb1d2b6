-- Lemmas on the orders of encodings: under padding, and by tags.
use Rattle.std.proofs.Common.{◌≡◌, ◌⊎◌, inl, inr, ◌<◌, ℕ, List, [], ◌∷◌, ◌++◌, refl, sym, ap₂, ◌∙◌, subst, arith, append-nil, Contains}
use Rattle.std.specs.Ordering.{MatchOrdering}
use Rattle.std.specs.declared.cmp.Ordering.{Ordering}
use Rattle.std.specs.declared.cmp.Ordering.TheVariants.{Less, Equal, Greater}
use Rattle.octets.specs.declared.tag.Tag.{Tag}
use Rattle.octets.specs.Tag.{ComesBefore}
use Rattle.octets.proofs.TagLemmas.{tag_order, tag_order-means, tags_are_ordered}
use Rattle.types.specs.Order.{IsPaddedAtMost, IsLeast}
use Rattle.types.specs.Depth.{IsNested}
use Rattle.types.proofs.ListLemmas.{not_in_nil, contains_first, contains_later, contains_cases}
use Rattle.types.proofs.NestingLemmas.{nested_unique}

compared : (x y : ℕ) → (x < y) ⊎ ((x ≡ y) ⊎ (y < x))
compared x y = grind arith

pub padded_refl : (a : List ℕ) → IsPaddedAtMost a a
padded_refl [] = tt
padded_refl (x ∷ a) = inr (refl, padded_refl a)

pub padded_total : (a b : List ℕ) → IsPaddedAtMost a b ⊎ IsPaddedAtMost b a
padded_total [] b = inl tt
padded_total (x ∷ a) [] = inr tt
padded_total (x ∷ a) (y ∷ b) = by_first (compared x y) (padded_total a b)
  where
    by_first : (x < y) ⊎ ((x ≡ y) ⊎ (y < x)) → IsPaddedAtMost a b ⊎ IsPaddedAtMost b a → IsPaddedAtMost (x ∷ a) (y ∷ b) ⊎ IsPaddedAtMost (y ∷ b) (x ∷ a)
    by_first (inl l) r = inl (inl l)
    by_first (inr (inr l)) r = inr (inl l)
    by_first (inr (inl e)) (inl r) = inl (inr (e, r))
    by_first (inr (inl e)) (inr r) = inr (inr (sym e, r))

pub padded_trans : (a b c : List ℕ) → IsPaddedAtMost a b → IsPaddedAtMost b c → IsPaddedAtMost a c
padded_trans [] b c h g = tt
padded_trans (x ∷ a) [] [] h g = h
padded_trans (x ∷ a) [] (z ∷ c) h g = by_first (compared x z) (padded_trans a [] c h.1 tt)
  where
    by_first : (x < z) ⊎ ((x ≡ z) ⊎ (z < x)) → IsPaddedAtMost a c → IsPaddedAtMost (x ∷ a) (z ∷ c)
    by_first (inl l) r = inl l
    by_first (inr (inl e)) r = inr (e, r)
    by_first (inr (inr l)) r = absurd (omega (arith, h.0))
padded_trans (x ∷ a) (y ∷ b) [] (inl h) g = absurd (omega (arith, g.0))
padded_trans (x ∷ a) (y ∷ b) [] (inr h) g = (h.0 ∙ g.0, padded_trans a b [] h.1 g.1)
padded_trans (x ∷ a) (y ∷ b) (z ∷ c) (inl h) (inl g) = inl (omega arith)
padded_trans (x ∷ a) (y ∷ b) (z ∷ c) (inl h) (inr g) = inl (omega (arith, g.0))
padded_trans (x ∷ a) (y ∷ b) (z ∷ c) (inr h) (inl g) = inl (omega (arith, h.0))
padded_trans (x ∷ a) (y ∷ b) (z ∷ c) (inr h) (inr g) = inr (h.0 ∙ g.0, padded_trans a b c h.1 g.1)

-- octets that tie under padding differ by what stands at the end of one
padded_tie : (a b : List ℕ) → IsPaddedAtMost a b → IsPaddedAtMost b a → (z : List ℕ) × ((a ++ z ≡ b) ⊎ (b ++ z ≡ a))
padded_tie [] b h g = (b, inl refl)
padded_tie (x ∷ a) [] h g = (x ∷ a, inr refl)
padded_tie (x ∷ a) (y ∷ b) (inl h) (inl g) = absurd (omega arith)
padded_tie (x ∷ a) (y ∷ b) (inl h) (inr g) = absurd (omega (arith, g.0))
padded_tie (x ∷ a) (y ∷ b) (inr h) (inl g) = absurd (omega (arith, h.0))
padded_tie (x ∷ a) (y ∷ b) (inr h) (inr g) =
    let r = padded_tie a b h.1 g.1 in (r.0, tied r.0 r.1)
  where
    tied : (z : List ℕ) → ((a ++ z ≡ b) ⊎ (b ++ z ≡ a)) → ((x ∷ a) ++ z ≡ y ∷ b) ⊎ ((y ∷ b) ++ z ≡ x ∷ a)
    tied z (inl e) = inl (ap₂ (λ i j. i ∷ j) h.0 e)
    tied z (inr e) = inr (ap₂ (λ i j. i ∷ j) g.0 e)

-- nested encodings that tie are equal, since none begins another
pub nested_tie : (n m : ℕ) (a b : List ℕ) → IsNested n a → IsNested m b → IsPaddedAtMost a b → IsPaddedAtMost b a → a ≡ b
nested_tie n m a b h g below above =
    let tie = padded_tie a b below above in apart tie.0 tie.1
  where
    apart : (z : List ℕ) → ((a ++ z ≡ b) ⊎ (b ++ z ≡ a)) → a ≡ b
    apart z (inl e) = nested_unique n m a b z [] h g (e ∙ sym (append-nil b))
    apart z (inr e) = nested_unique n m a b [] z h g (append-nil a ∙ sym e)

pub ComesBefore-trans : (a b c : Tag) → ComesBefore a b → ComesBefore b c → ComesBefore a c
ComesBefore-trans = tags_are_ordered.chain

pub ComesBefore-irrefl : (a : Tag) → ComesBefore a a → ⊥
ComesBefore-irrefl = tags_are_ordered.not_itself

pub ComesBefore-asym : (a b : Tag) → ComesBefore a b → ComesBefore b a → ⊥
ComesBefore-asym a b h g = ComesBefore-irrefl a (ComesBefore-trans a b a h g)

pub ComesBefore-total : (a b : Tag) → ComesBefore a b ⊎ ((a ≡ b) ⊎ ComesBefore b a)
ComesBefore-total a b = by_order (tag_order a b) (tag_order-means a b)
  where
    by_order : (o : Ordering) → MatchOrdering o (ComesBefore a b) (a ≡ b) (ComesBefore b a) → ComesBefore a b ⊎ ((a ≡ b) ⊎ ComesBefore b a)
    by_order Less before = inl before
    by_order Equal same = inr (inl same)
    by_order Greater after = inr (inr after)

-- a list of at least one tag has a least one
pub least_tag : (tags : List Tag) (tag : Tag) → Contains tags tag → (least : Tag) × IsLeast tags least
least_tag [] tag h = absurd (not_in_nil tag h)
least_tag (first ∷ []) tag h = (first, (contains_first first first [] refl, λ other c before. alone other (contains_cases first other [] c) before))
  where
    alone : (other : Tag) → (first ≡ other) ⊎ Contains [] other → ComesBefore other first → ⊥
    alone other (inl e) before = ComesBefore-irrefl first (subst (λ t. ComesBefore t first) (sym e) before)
    alone other (inr c) before = not_in_nil other c
least_tag (first ∷ second ∷ tags) tag h =
    let later = least_tag (second ∷ tags) second (contains_first second second tags refl) in
    chosen later.0 later.1 (ComesBefore-total first later.0)
  where
    chosen : (least : Tag) → IsLeast (second ∷ tags) least → ComesBefore first least ⊎ ((first ≡ least) ⊎ ComesBefore least first) → (t : Tag) × IsLeast (first ∷ second ∷ tags) t
    chosen least g (inl before) = (first, (contains_first first first (second ∷ tags) refl, λ other c l. none other (contains_cases first other (second ∷ tags) c) l))
      where
        none : (other : Tag) → (first ≡ other) ⊎ Contains (second ∷ tags) other → ComesBefore other first → ⊥
        none other (inl e) l = ComesBefore-irrefl first (subst (λ t. ComesBefore t first) (sym e) l)
        none other (inr c) l = g.1 other c (ComesBefore-trans other first least l before)
    chosen least g (inr after) = (least, (contains_later first least (second ∷ tags) g.0, λ other c l. none other (contains_cases first other (second ∷ tags) c) l))
      where
        not_first : (first ≡ least) ⊎ ComesBefore least first → ComesBefore first least → ⊥
        not_first (inl e) l = ComesBefore-irrefl first (subst (λ t. ComesBefore first t) (sym e) l)
        not_first (inr m) l = ComesBefore-asym first least l m

        none : (other : Tag) → (first ≡ other) ⊎ Contains (second ∷ tags) other → ComesBefore other least → ⊥
        none other (inl e) l = not_first after (subst (λ t. ComesBefore t least) (sym e) l)
        none other (inr c) l = g.1 other c l
