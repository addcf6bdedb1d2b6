-- Lemmas on what is judged of each node of a type.
use Rattle.std.proofs.Common.{ℕ, ◌↔◌, List, [], ◌∷◌, ◌++◌, sym, subst}
use Rattle.std.specs.List.{AllByRecursion}
use Rattle.types.specs.declared.ty.Field.{Field}
use Rattle.types.specs.Shape.{Shape, StringType, SimpleType}
use Rattle.types.specs.declared.condition.Condition.TheVariants.{Numbers}
use Rattle.types.specs.Judging.{Meets, HasFewItems}
use Rattle.types.specs.View.{ty_view, requirement_view, components_view, ComponentView}
use Rattle.types.specs.WellFormed.{IsNodeWithin, NumbersDiffer, IsGoodDefault, AreGoodDefaults, nodes_of}
use Rattle.types.proofs.ViewLemmas.{field_is}
use Rattle.types.proofs.ListLemmas.{all_append}
use Rattle.types.proofs.LimitLemmas.{AreCounted}

abbrev pub GoodDefaults : List Field → Type 0
GoodDefaults fields = AreGoodDefaults (components_view fields)

pub good_first : (f : Field) (fs : List Field) → GoodDefaults (f ∷ fs) ↔ (IsGoodDefault (ty_view f.ty) (requirement_view f.presence) × GoodDefaults fs)
good_first f fs =
    let P : ComponentView → Type 0 = λ c. IsGoodDefault c.type c.requirement in
    (λ h. (subst P (field_is f) h.0, h.1), λ h. (subst P (sym (field_is f)) h.0, h.1))

pub all_both : {X : Type 0} (P : X → Type 0) (xs ys : List X) → AllByRecursion P xs → AllByRecursion P ys → AllByRecursion P (xs ++ ys)
all_both P [] ys h g = g
all_both P (x ∷ xs) ys h g = (h.0, all_both P xs ys h.1 g)

-- the nodes of a list of parts, one part after another
pub nodes_first : {X : Type 0} {type : X → Shape} {N : List X → List Shape} {D : List X → ℕ} → AreCounted type N D → (P : Shape → Type 0) (x : X) (xs : List X) → AllByRecursion P (N (x ∷ xs)) ↔ (AllByRecursion P (nodes_of (type x)) × AllByRecursion P (N xs))
nodes_first {type = type} {N = N} counted P x xs = (
  λ h. all_append P (nodes_of (type x)) (N xs) (subst (AllByRecursion P) (counted.nodes x xs) h),
  λ h. subst (AllByRecursion P) (sym (counted.nodes x xs)) (all_both P (nodes_of (type x)) (N xs) h.0 h.1),
)

-- numbers that are judged where the items are few, and whose items are few, are judged
pub numbers_differ : (nodes : List Shape) → AllByRecursion IsNodeWithin nodes → AllByRecursion (Meets Numbers) nodes → AllByRecursion NumbersDiffer nodes
numbers_differ [] within told = tt
numbers_differ (s ∷ nodes) within told = (told.0 (few_items_of s within.0), numbers_differ nodes within.1 told.1)
  where
    few_items_of : (s : Shape) → IsNodeWithin s → HasFewItems s
    few_items_of (Shape.simple tag SimpleType.boolean) h = tt
    few_items_of (Shape.simple tag SimpleType.integer) h = tt
    few_items_of (Shape.simple tag (SimpleType.enumerated items)) h = h.1.1
    few_items_of (Shape.simple tag SimpleType.null) h = tt
    few_items_of (Shape.simple tag SimpleType.oid) h = tt
    few_items_of (Shape.simple tag SimpleType.relative_oid) h = tt
    few_items_of (Shape.string tag StringType.bit_string) h = tt
    few_items_of (Shape.string tag (StringType.named_bits bits)) h = h.1.at_most_256
    few_items_of (Shape.string tag StringType.octet_string) h = tt
    few_items_of (Shape.string tag (StringType.text kind)) h = tt
    few_items_of (Shape.string tag (StringType.time kind)) h = tt
    few_items_of (Shape.sequence tag components) h = tt
    few_items_of (Shape.set tag components) h = tt
    few_items_of (Shape.sequence_of tag type) h = tt
    few_items_of (Shape.set_of tag type) h = tt
    few_items_of (Shape.choice alternatives) h = tt
    few_items_of (Shape.explicit tag type) h = tt

pub numbers_asked : (nodes : List Shape) → AllByRecursion NumbersDiffer nodes → AllByRecursion (Meets Numbers) nodes
numbers_asked [] h = tt
numbers_asked (s ∷ nodes) h = (λ few. h.0, numbers_asked nodes h.1)
