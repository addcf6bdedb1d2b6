-- Lemmas on the type within a CHOICE that an encoding is of.
use Rattle.std.specs.List.{AllByRecursion}
use Rattle.std.specs.Prelude.{IsTrue, is_some, MatchOption}
use Rattle.std.proofs.Common.{◌≡◌, ◌↔◌, ◌⊎◌, ◌+◌, ◌<◌, ◌≤◌, ℕ, zero, suc, inl, inr, List, [], ◌∷◌, ◌++◌, length, get_or, drop, refl, sym, subst, ap, ◌∙◌, arith, Bool, Option, Some, None, Contains, Vec, Box, Global, Bor}
use Rattle.octets.specs.declared.tag.Tag.{Tag}
use Rattle.octets.specs.Rule.{ber}
use Rattle.types.specs.declared.ty.Ty.{Ty}
use Rattle.types.specs.declared.ty.Ty as ty
use Rattle.types.specs.declared.ty.Alternative.{Alternative}
use Rattle.types.specs.declared.value.Value.{Value}
use Rattle.types.specs.declared.value.Value as value
use Rattle.types.specs.Shape.{Shape, Val, Alternatives, no_alternative, alternative}
use Rattle.types.specs.View.{ty_view, value_view, alternative_view, alternatives_view}
use Rattle.types.specs.FirstTags.{first_tags, tags_of_alternatives, AreDistinct, HasDistinctTags}
use Rattle.types.specs.WellFormed.{nodes_of, nodes_of_alternatives, IsNodeWithin, HasGoodDefaults}
use Rattle.types.specs.Order.{BeginsWith}
use Rattle.types.specs.Encoding.{IsEncoding, IsAlternativeEncoding}
use Rattle.types.proofs.BeginningLemmas.{begins_once, encoding_begins, alternative_begins}
use Rattle.types.proofs.LimitLemmas.{alternative_type}
use Rattle.types.proofs.ListLemmas.{not_in_nil, contains_first, contains_cases, contains_left, contains_right, distinct_apart, distinct_right, all_append}
use Rattle.types.proofs.LoopLemmas.{IsLeftTo, left_at, is_so, is_not_so}
use Rattle.types.proofs.TagLemmas.{contains_either, tags_of_choices, tags_of_first_choice, choice_tags}
use Rattle.types.proofs.ViewLemmas.{ty-Choice, value-Chosen}
use Rattle.std.proofs.lemmas.List.{drop_all}
use Rattle.encoding_parts.specs.HeldParts.{IsNode}
use Rattle.encoding_parts.specs.Parts.{IsGoodType, IsNodeFor, IsNodeForOneOf}

-- a list is searched from its front on: what one element has, the list has
pub passes : {X : Type 0} (T : List X → Type 0) (P : Type 0) (xs : List X) (i : ℕ) (x : X) → i < length xs → x ≡ get_or xs i x → (T (x ∷ drop (i + 1) xs) → P ⊎ T (drop (i + 1) xs)) → (T (drop (i + 1) xs) → T (x ∷ drop (i + 1) xs)) → (P → ⊥) → IsLeftTo T xs i → IsLeftTo T xs (i + 1)
passes T P xs i x below is cases later none left =
    let here = left_at xs i x below is in (
      λ h. elim (cases (subst T here (left.0 h))) [ inl p ↦ absurd (none p) | inr r ↦ r ],
      λ h. left.1 (subst T (sym here) (later h)),
    )

pub finds : {X : Type 0} (T : List X → Type 0) (xs : List X) (i : ℕ) (x : X) → i < length xs → x ≡ get_or xs i x → T (x ∷ drop (i + 1) xs) → IsLeftTo T xs i → T xs
finds T xs i x below is here left = left.1 (subst T (sym (left_at xs i x below is)) here)

pub lacks : {X : Type 0} (T : List X → Type 0) (xs : List X) (i : ℕ) → length xs ≤ i → (T [] → ⊥) → IsLeftTo T xs i → T xs → ⊥
lacks T xs i past none left h = none (subst T (drop_all i xs past) (left.0 h))

-- the tags of alternatives
abbrev pub ChoicesHave : Tag → List Alternative → Type 0
ChoicesHave tag alternatives = Contains (tags_of_choices alternatives) tag

pub have_cases : (tag : Tag) (a : Alternative) (as' : List Alternative) → ChoicesHave tag (a ∷ as') → Contains (first_tags (ty_view a.ty)) tag ⊎ ChoicesHave tag as'
have_cases tag a as' h = contains_either (first_tags (ty_view a.ty)) (tags_of_choices as') tag (subst (λ tags. Contains tags tag) (tags_of_first_choice a as') h)

pub have_first : (tag : Tag) (a : Alternative) (as' : List Alternative) → Contains (first_tags (ty_view a.ty)) tag → ChoicesHave tag (a ∷ as')
have_first tag a as' h = subst (λ tags. Contains tags tag) (sym (tags_of_first_choice a as')) (contains_left (first_tags (ty_view a.ty)) (tags_of_choices as') tag h)

pub have_later : (tag : Tag) (a : Alternative) (as' : List Alternative) → ChoicesHave tag as' → ChoicesHave tag (a ∷ as')
have_later tag a as' h = subst (λ tags. Contains tags tag) (sym (tags_of_first_choice a as')) (contains_right (first_tags (ty_view a.ty)) (tags_of_choices as') tag h)

-- the alternative at a place has its tags in the list
pub have_at : (tag : Tag) (xs : List Alternative) (which : ℕ) (a : Alternative) → which < length xs → a ≡ get_or xs which a → Contains (first_tags (ty_view a.ty)) tag → ChoicesHave tag xs
have_at tag [] which a below is h = absurd (omega (arith, below))
have_at tag (x ∷ xs) zero a below is h = have_first tag x xs (subst (λ (b : Alternative). Contains (first_tags (ty_view b.ty)) tag) is h)
have_at tag (x ∷ xs) (suc which) a below is h = have_later tag x xs (have_at tag xs which a (omega (arith, below)) is h)

-- whether an alternative was found says whether one has the tag
pub found_tells : {X : Type 0} (A : Type 0) (P : X → Type 0) (found : Option X) (told : Bool) → told ≡ is_some found → MatchOption found (A → ⊥) P → ((x : X) → P x → A) → IsTrue told ↔ A
found_tells A P None told is none some = subst (λ b. IsTrue b ↔ A) (sym is) (is_not_so none)
found_tells A P (Some x) told is has some = subst (λ b. IsTrue b ↔ A) (sym is) (is_so (some x has))

-- the nodes of alternatives
abbrev pub ChoicesLeadTo : Tag → Shape → List Alternative → Type 0
ChoicesLeadTo tag node alternatives = IsNodeForOneOf tag (alternatives_view alternatives) node

pub lead_cases : (tag : Tag) (node : Shape) (a : Alternative) (as' : List Alternative) → ChoicesLeadTo tag node (a ∷ as') → IsNodeFor tag (ty_view a.ty) node ⊎ ChoicesLeadTo tag node as'
lead_cases tag node a as' (inl h) = inl (subst (λ type. IsNodeFor tag type node) (alternative_type a) h)
lead_cases tag node a as' (inr h) = inr h

pub lead_first : (tag : Tag) (node : Shape) (a : Alternative) (as' : List Alternative) → IsNodeFor tag (ty_view a.ty) node → ChoicesLeadTo tag node (a ∷ as')
lead_first tag node a as' h = inl (subst (λ type. IsNodeFor tag type node) (sym (alternative_type a)) h)

pub lead_later : (tag : Tag) (node : Shape) (a : Alternative) (as' : List Alternative) → ChoicesLeadTo tag node as' → ChoicesLeadTo tag node (a ∷ as')
lead_later tag node a as' h = inr h

pub lead_nowhere : (tag : Tag) (node : Shape) → ChoicesLeadTo tag node [] → ⊥
lead_nowhere tag node h = h

pub lead_at : (tag : Tag) (node : Shape) (xs : List Alternative) (which : ℕ) (a : Alternative) → which < length xs → a ≡ get_or xs which a → IsNodeFor tag (ty_view a.ty) node → ChoicesLeadTo tag node xs
lead_at tag node [] which a below is h = absurd (omega (arith, below))
lead_at tag node (x ∷ xs) zero a below is h = lead_first tag node x xs (subst (λ (b : Alternative). IsNodeFor tag (ty_view b.ty) node) is h)
lead_at tag node (x ∷ xs) (suc which) a below is h = lead_later tag node x xs (lead_at tag node xs which a (omega (arith, below)) is h)

-- a CHOICE has the tags and the nodes of its alternatives
pub choice_has : (t : Ty) (v : Vec Alternative Global) (xs : List Alternative) (tag : Tag) → t ≡ ty.Choice v → xs ≡ v.items → ChoicesHave tag xs ↔ Contains (first_tags (ty_view t)) tag
choice_has t v xs tag is same =
    let tags = choice_tags t v xs is same in
    (λ h. subst (λ l. Contains l tag) (sym tags) h, λ h. subst (λ l. Contains l tag) tags h)

pub choice_leads : (t : Ty) (v : Vec Alternative Global) (xs : List Alternative) (tag : Tag) (node : Shape) → t ≡ ty.Choice v → xs ≡ v.items → ChoicesLeadTo tag node xs ↔ IsNodeFor tag (ty_view t) node
choice_leads t v xs tag node is same =
    let shape : ty_view t ≡ Shape.choice (alternatives_view xs) = ap (λ (u : Ty). ty_view u) is ∙ ty-Choice v ∙ ap (λ l. Shape.choice (alternatives_view l)) (sym same) in
    (λ h. subst (λ s. IsNodeFor tag s node) (sym shape) h, λ h. subst (λ s. IsNodeFor tag s node) shape h)

mutual
  -- encodings of a type that has a node for the tag can begin with the tag
  pub node_tag : (tag : Tag) (type node : Shape) → IsNodeFor tag type node → Contains (first_tags type) tag
  node_tag tag (Shape.simple own type) node h = contains_first own tag [] h.0
  node_tag tag (Shape.string own type) node h = contains_first own tag [] h.0
  node_tag tag (Shape.sequence own components) node h = contains_first own tag [] h.0
  node_tag tag (Shape.set own components) node h = contains_first own tag [] h.0
  node_tag tag (Shape.sequence_of own type) node h = contains_first own tag [] h.0
  node_tag tag (Shape.set_of own type) node h = contains_first own tag [] h.0
  node_tag tag (Shape.choice alternatives) node h = node_tag_of tag alternatives node h
  node_tag tag (Shape.explicit own type) node h = contains_first own tag [] h.0

  pub node_tag_of : (tag : Tag) (alternatives : Alternatives) (node : Shape) → IsNodeForOneOf tag alternatives node → Contains (tags_of_alternatives alternatives) tag
  node_tag_of tag no_alternative node h = absurd h
  node_tag_of tag (alternative name type others) node (inl h) = contains_left (first_tags type) (tags_of_alternatives others) tag (node_tag tag type node h)
  node_tag_of tag (alternative name type others) node (inr h) = contains_right (first_tags type) (tags_of_alternatives others) tag (node_tag_of tag others node h)

only_tag : (own tag : Tag) → Contains (own ∷ []) tag → own ≡ tag
only_tag own tag h = elim (contains_cases own tag [] h) [ inl same ↦ same | inr later ↦ absurd (not_in_nil tag later) ]

mutual
  -- and have a node for each tag that they can begin with
  pub begins_node : (tag : Tag) (type : Shape) → Contains (first_tags type) tag → (node : Shape) × IsNodeFor tag type node
  begins_node tag (Shape.simple own type) h = (Shape.simple own type, (only_tag own tag h, refl))
  begins_node tag (Shape.string own type) h = (Shape.string own type, (only_tag own tag h, refl))
  begins_node tag (Shape.sequence own components) h = (Shape.sequence own components, (only_tag own tag h, refl))
  begins_node tag (Shape.set own components) h = (Shape.set own components, (only_tag own tag h, refl))
  begins_node tag (Shape.sequence_of own type) h = (Shape.sequence_of own type, (only_tag own tag h, refl))
  begins_node tag (Shape.set_of own type) h = (Shape.set_of own type, (only_tag own tag h, refl))
  begins_node tag (Shape.choice alternatives) h = begins_node_of tag alternatives h
  begins_node tag (Shape.explicit own type) h = (Shape.explicit own type, (only_tag own tag h, refl))

  pub begins_node_of : (tag : Tag) (alternatives : Alternatives) → Contains (tags_of_alternatives alternatives) tag → (node : Shape) × IsNodeForOneOf tag alternatives node
  begins_node_of tag no_alternative h = absurd (not_in_nil tag h)
  begins_node_of tag (alternative name type others) h = elim (contains_either (first_tags type) (tags_of_alternatives others) tag h) [
    | inl l ↦ let n = begins_node tag type l in (n.0, inl n.1)
    | inr r ↦ let n = begins_node_of tag others r in (n.0, inr n.1)
  ]

-- the node of the alternative that has the tag, which one has, is the node of all
pub leads_on : (found : Option (Bor Ty)) (tag : Tag) (xs : List Alternative) (which : ℕ) (a : Alternative) → which < length xs → a ≡ get_or xs which a → Contains (first_tags (ty_view a.ty)) tag
    → MatchOption found ((node : Shape) → IsNodeFor tag (ty_view a.ty) node → ⊥) (λ node. IsNodeFor tag (ty_view a.ty) (ty_view node.now)) → (type : Shape) → ((node : Shape) → ChoicesLeadTo tag node xs → IsNodeFor tag type node)
    → MatchOption found ((node : Shape) → IsNodeFor tag type node → ⊥) (λ node. IsNodeFor tag type (ty_view node.now))
leads_on None tag xs which a below is has none type leads = let there = begins_node tag (ty_view a.ty) has in absurd (none there.0 there.1)
leads_on (Some node) tag xs which a below is has found type leads = leads (ty_view node.now) (lead_at tag (ty_view node.now) xs which a below is found)

-- a type whose encodings have a tag of their own is its own node
pub own_node : (tag : Tag) (type : Shape) → IsNode type → Contains (first_tags type) tag → IsNodeFor tag type type
own_node tag (Shape.simple own type) is h = (only_tag own tag h, refl)
own_node tag (Shape.string own type) is h = (only_tag own tag h, refl)
own_node tag (Shape.sequence own components) is h = (only_tag own tag h, refl)
own_node tag (Shape.set own components) is h = (only_tag own tag h, refl)
own_node tag (Shape.sequence_of own type) is h = (only_tag own tag h, refl)
own_node tag (Shape.set_of own type) is h = (only_tag own tag h, refl)
own_node tag (Shape.choice alternatives) is h = absurd is
own_node tag (Shape.explicit own type) is h = (only_tag own tag h, refl)

mutual
  -- the node begins with the tag alone
  pub node_own : (tag : Tag) (type node : Shape) → IsNodeFor tag type node → first_tags node ≡ tag ∷ []
  node_own tag (Shape.simple own type) node h = ap first_tags h.1 ∙ ap (λ t. t ∷ []) h.0
  node_own tag (Shape.string own type) node h = ap first_tags h.1 ∙ ap (λ t. t ∷ []) h.0
  node_own tag (Shape.sequence own components) node h = ap first_tags h.1 ∙ ap (λ t. t ∷ []) h.0
  node_own tag (Shape.set own components) node h = ap first_tags h.1 ∙ ap (λ t. t ∷ []) h.0
  node_own tag (Shape.sequence_of own type) node h = ap first_tags h.1 ∙ ap (λ t. t ∷ []) h.0
  node_own tag (Shape.set_of own type) node h = ap first_tags h.1 ∙ ap (λ t. t ∷ []) h.0
  node_own tag (Shape.choice alternatives) node h = node_own_of tag alternatives node h
  node_own tag (Shape.explicit own type) node h = ap first_tags h.1 ∙ ap (λ t. t ∷ []) h.0

  node_own_of : (tag : Tag) (alternatives : Alternatives) (node : Shape) → IsNodeForOneOf tag alternatives node → first_tags node ≡ tag ∷ []
  node_own_of tag no_alternative node h = absurd h
  node_own_of tag (alternative name type others) node (inl h) = node_own tag type node h
  node_own_of tag (alternative name type others) node (inr h) = node_own_of tag others node h

-- what holds of the nodes of a CHOICE holds of those of its alternatives
abbrev pub AreGoodNodes : List Shape → Type 0
AreGoodNodes nodes = AllByRecursion HasDistinctTags nodes × AllByRecursion HasGoodDefaults nodes × AllByRecursion IsNodeWithin nodes

good_left : (nodes others : List Shape) → AreGoodNodes (nodes ++ others) → AreGoodNodes nodes
good_left nodes others h = ((all_append HasDistinctTags nodes others h.0).0, (all_append HasGoodDefaults nodes others h.1).0, (all_append IsNodeWithin nodes others h.2).0)

good_right : (nodes others : List Shape) → AreGoodNodes (nodes ++ others) → AreGoodNodes others
good_right nodes others h = ((all_append HasDistinctTags nodes others h.0).1, (all_append HasGoodDefaults nodes others h.1).1, (all_append IsNodeWithin nodes others h.2).1)

mutual
  node_nodes : (tag : Tag) (type node : Shape) → IsNodeFor tag type node → AreGoodNodes (nodes_of type) → AreGoodNodes (nodes_of node)
  node_nodes tag (Shape.simple own type) node h good = subst (λ s. AreGoodNodes (nodes_of s)) (sym h.1) good
  node_nodes tag (Shape.string own type) node h good = subst (λ s. AreGoodNodes (nodes_of s)) (sym h.1) good
  node_nodes tag (Shape.sequence own components) node h good = subst (λ s. AreGoodNodes (nodes_of s)) (sym h.1) good
  node_nodes tag (Shape.set own components) node h good = subst (λ s. AreGoodNodes (nodes_of s)) (sym h.1) good
  node_nodes tag (Shape.sequence_of own type) node h good = subst (λ s. AreGoodNodes (nodes_of s)) (sym h.1) good
  node_nodes tag (Shape.set_of own type) node h good = subst (λ s. AreGoodNodes (nodes_of s)) (sym h.1) good
  node_nodes tag (Shape.choice alternatives) node h good = node_nodes_of tag alternatives node h (good.0.1, good.1.1, good.2.1)
  node_nodes tag (Shape.explicit own type) node h good = subst (λ s. AreGoodNodes (nodes_of s)) (sym h.1) good

  node_nodes_of : (tag : Tag) (alternatives : Alternatives) (node : Shape) → IsNodeForOneOf tag alternatives node → AreGoodNodes (nodes_of_alternatives alternatives) → AreGoodNodes (nodes_of node)
  node_nodes_of tag no_alternative node h good = absurd h
  node_nodes_of tag (alternative name type others) node (inl h) good = node_nodes tag type node h (good_left (nodes_of type) (nodes_of_alternatives others) good)
  node_nodes_of tag (alternative name type others) node (inr h) good = node_nodes_of tag others node h (good_right (nodes_of type) (nodes_of_alternatives others) good)

-- the node of a good type is good
pub node_good : (tag : Tag) (type node : Shape) → IsNodeFor tag type node → IsGoodType type → IsGoodType node
node_good tag type node h good =
    let nodes = node_nodes tag type node h (good.tags, good.defaults, good.within) in
    record { within = nodes.2; tags = nodes.0; defaults = nodes.1 }

mutual
  node_encodes : (tag : Tag) (type node : Shape) (v : Val) (octets : List ℕ) → AllByRecursion HasDistinctTags (nodes_of type) → IsNodeFor tag type node → BeginsWith tag octets → IsEncoding ber type v octets → (w : Val) × IsEncoding ber node w octets
  node_encodes tag (Shape.simple own type) node v octets good h b e = (v, subst (λ s. IsEncoding ber s v octets) (sym h.1) e)
  node_encodes tag (Shape.string own type) node v octets good h b e = (v, subst (λ s. IsEncoding ber s v octets) (sym h.1) e)
  node_encodes tag (Shape.sequence own components) node v octets good h b e = (v, subst (λ s. IsEncoding ber s v octets) (sym h.1) e)
  node_encodes tag (Shape.set own components) node v octets good h b e = (v, subst (λ s. IsEncoding ber s v octets) (sym h.1) e)
  node_encodes tag (Shape.sequence_of own type) node v octets good h b e = (v, subst (λ s. IsEncoding ber s v octets) (sym h.1) e)
  node_encodes tag (Shape.set_of own type) node v octets good h b e = (v, subst (λ s. IsEncoding ber s v octets) (sym h.1) e)
  node_encodes tag (Shape.choice alternatives) node v octets good h b e = node_encodes_of tag alternatives node e.which e.value octets good.0 good.1 h b e.chosen
  node_encodes tag (Shape.explicit own type) node v octets good h b e = (v, subst (λ s. IsEncoding ber s v octets) (sym h.1) e)

  node_encodes_of : (tag : Tag) (alternatives : Alternatives) (node : Shape) (which : ℕ) (v : Val) (octets : List ℕ) → AreDistinct (tags_of_alternatives alternatives) → AllByRecursion HasDistinctTags (nodes_of_alternatives alternatives)
      → IsNodeForOneOf tag alternatives node → BeginsWith tag octets → IsAlternativeEncoding ber alternatives which v octets → (w : Val) × IsEncoding ber node w octets
  node_encodes_of tag no_alternative node which v octets distinct good h b e = absurd h
  node_encodes_of tag (alternative name type others) node zero v octets distinct good (inl h) b e =
      node_encodes tag type node v octets (all_append HasDistinctTags (nodes_of type) (nodes_of_alternatives others) good).0 h b e
  node_encodes_of tag (alternative name type others) node zero v octets distinct good (inr h) b e =
      let begins = encoding_begins ber type v octets e in
      let first = subst (Contains (first_tags type)) (begins_once begins.0 tag octets begins.2 b) begins.1 in
      absurd (distinct_apart (first_tags type) (tags_of_alternatives others) distinct tag first (node_tag_of tag others node h))
  node_encodes_of tag (alternative name type others) node (suc which) v octets distinct good (inl h) b e =
      let begins = alternative_begins ber others which v octets e in
      let later = subst (Contains (tags_of_alternatives others)) (begins_once begins.0 tag octets begins.2 b) begins.1 in
      absurd (distinct_apart (first_tags type) (tags_of_alternatives others) distinct tag (node_tag tag type node h) later)
  node_encodes_of tag (alternative name type others) node (suc which) v octets distinct good (inr h) b e =
      node_encodes_of tag others node which v octets (distinct_right (first_tags type) (tags_of_alternatives others) distinct) (all_append HasDistinctTags (nodes_of type) (nodes_of_alternatives others) good).1 h b e

-- an encoding of a type that begins with the tag is one of the node
pub node_encoding : (tag : Tag) (type node : Shape) (v : Val) (octets : List ℕ) → IsGoodType type → IsNodeFor tag type node → BeginsWith tag octets → IsEncoding ber type v octets → (w : Val) × IsEncoding ber node w octets
node_encoding tag type node v octets good h b e = node_encodes tag type node v octets good.tags h b e

-- the alternative at a place
pub alternative_encodes : (xs : List Alternative) (which : ℕ) (a : Alternative) (v : Val) (octets : List ℕ) → which < length xs → a ≡ get_or xs which a → IsEncoding ber (ty_view a.ty) v octets → IsAlternativeEncoding ber (alternatives_view xs) which v octets
alternative_encodes [] which a v octets below is e = absurd (omega (arith, below))
alternative_encodes (x ∷ xs) zero a v octets below is e = subst (λ type. IsEncoding ber type v octets) (sym (alternative_type x)) (subst (λ (b : Alternative). IsEncoding ber (ty_view b.ty) v octets) is e)
alternative_encodes (x ∷ xs) (suc which) a v octets below is e = alternative_encodes xs which a v octets (omega (arith, below)) is e

pub alternative_nodes : (xs : List Alternative) (which : ℕ) (a : Alternative) → which < length xs → a ≡ get_or xs which a → AreGoodNodes (nodes_of_alternatives (alternatives_view xs)) → AreGoodNodes (nodes_of (ty_view a.ty))
alternative_nodes [] which a below is good = absurd (omega (arith, below))
alternative_nodes (x ∷ xs) zero a below is good =
    subst (λ (b : Alternative). AreGoodNodes (nodes_of (ty_view b.ty))) (sym is) (subst (λ type. AreGoodNodes (nodes_of type)) (alternative_type x) (good_left (nodes_of (alternative_view x).type) (nodes_of_alternatives (alternatives_view xs)) good))
alternative_nodes (x ∷ xs) (suc which) a below is good = alternative_nodes xs which a (omega (arith, below)) is (good_right (nodes_of (alternative_view x).type) (nodes_of_alternatives (alternatives_view xs)) good)

-- what is known of a CHOICE
pub record IsGoodChoice (xs : List Alternative) : Type 0 where
  pub distinct : AreDistinct (tags_of_choices xs)
  pub nodes : AreGoodNodes (nodes_of_alternatives (alternatives_view xs))

pub good_choice : (t : Ty) (v : Vec Alternative Global) (xs : List Alternative) → t ≡ ty.Choice v → xs ≡ v.items → IsGoodType (ty_view t) → IsGoodChoice xs
good_choice t v xs is same good =
    let shape : ty_view t ≡ Shape.choice (alternatives_view xs) = ap (λ (u : Ty). ty_view u) is ∙ ty-Choice v ∙ ap (λ l. Shape.choice (alternatives_view l)) (sym same) in
    let g = subst IsGoodType shape good in
    record { distinct = g.tags.0; nodes = (g.tags.1, g.defaults.1, g.within.1) }

pub good_alternative : (xs : List Alternative) (which : ℕ) (a : Alternative) → which < length xs → a ≡ get_or xs which a → IsGoodChoice xs → IsGoodType (ty_view a.ty)
good_alternative xs which a below is good =
    let nodes = alternative_nodes xs which a below is good.nodes in
    record { within = nodes.2; tags = nodes.0; defaults = nodes.1 }

-- the alternative that can begin with the tag is the one that has the node
pub leads_here : (xs : List Alternative) (which : ℕ) (a : Alternative) (tag : Tag) (node : Shape) → which < length xs → a ≡ get_or xs which a → AreDistinct (tags_of_choices xs) → Contains (first_tags (ty_view a.ty)) tag → ChoicesLeadTo tag node xs → IsNodeFor tag (ty_view a.ty) node
leads_here [] which a tag node below is distinct has h = absurd (omega (arith, below))
leads_here (x ∷ xs) zero a tag node below is distinct has h =
    let first = subst (λ (b : Alternative). Contains (first_tags (ty_view b.ty)) tag) is has in
    elim (lead_cases tag node x xs h) [
      | inl n ↦ subst (λ (b : Alternative). IsNodeFor tag (ty_view b.ty) node) (sym is) n
      | inr n ↦ absurd (distinct_apart (first_tags (ty_view x.ty)) (tags_of_choices xs) (subst AreDistinct (tags_of_first_choice x xs) distinct) tag first (node_tag_of tag (alternatives_view xs) node n))
    ]
leads_here (x ∷ xs) (suc which) a tag node below is distinct has h =
    let below' : which < length xs = omega (arith, below) in
    let apart = subst AreDistinct (tags_of_first_choice x xs) distinct in
    elim (lead_cases tag node x xs h) [
      | inl n ↦ absurd (distinct_apart (first_tags (ty_view x.ty)) (tags_of_choices xs) apart tag (node_tag tag (ty_view x.ty) node n) (have_at tag xs which a below' is has))
      | inr n ↦ leads_here xs which a tag node below' is (distinct_right (first_tags (ty_view x.ty)) (tags_of_choices xs) apart) has n
    ]

-- the value of a CHOICE
pub choice_encodes : (t : Ty) (v : Vec Alternative Global) (xs : List Alternative) (which : ℕ) (a : Alternative) (chosen : Value) (inner : Box Value Global) (octets : List ℕ) → t ≡ ty.Choice v → xs ≡ v.items → which < length xs → a ≡ get_or xs which a → inner.value ≡ chosen → IsEncoding ber (ty_view a.ty) (value_view chosen) octets
    → IsEncoding ber (ty_view t) (value_view (value.Chosen which inner)) octets
choice_encodes t v xs which a chosen inner octets is same below at boxed e =
    let shape : ty_view t ≡ Shape.choice (alternatives_view xs) = ap (λ (u : Ty). ty_view u) is ∙ ty-Choice v ∙ ap (λ l. Shape.choice (alternatives_view l)) (sym same) in
    let viewed : value_view (value.Chosen which inner) ≡ Val.chosen which (value_view chosen) = value-Chosen which inner ∙ ap (λ (w : Value). Val.chosen which (value_view w)) boxed in
    let whole : IsEncoding ber (Shape.choice (alternatives_view xs)) (Val.chosen which (value_view chosen)) octets = record { which = which; value = value_view chosen; is = refl; chosen = alternative_encodes xs which a (value_view chosen) octets below at e } in
    subst (λ s. IsEncoding ber s (value_view (value.Chosen which inner)) octets) (sym shape) (subst (λ w. IsEncoding ber (Shape.choice (alternatives_view xs)) w octets) (sym viewed) whole)
