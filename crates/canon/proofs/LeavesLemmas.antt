-- Lemmas on lists of values without parts.
use Rattle.std.specs.List.{AllByRecursion, AllZip}
use Rattle.std.proofs.Common.{◌≡◌, ◌∙◌, ◌+◌, ◌<◌, ℕ, zero, suc, List, [], ◌∷◌, ◌++◌, length, take, get_or, map, sym, ap, subst, arith, append_assoc}
use Rattle.octets.specs.declared.tag.Tag.{Tag}
use Rattle.octets.specs.Front.{Appends}
use Rattle.octets.specs.Rule.{Rule, IsCanonical}
use Rattle.types.specs.declared.value.Value.{Value}
use Rattle.types.specs.Shape.{Val, Shape}
use Rattle.types.specs.View.{value_view}
use Rattle.types.specs.Conforms.{Conforms}
use Rattle.types.specs.Encoding.{Meaning, IsEncoding}
use Rattle.canon.specs.Leaf.{IsLeafValue, IsLeafEncoding, IsLeafOf}
use Rattle.canon.specs.Node.{AreItems}
use Rattle.canon.proofs.AlikeLemmas.{HoldAlike}
use Rattle.canon.proofs.LeafLemmas.{leaf_alike, leaf_conforms}
use Rattle.canon.proofs.OrderedLemmas.{taken, zip_push}
use Rattle.canon.proofs.PartLemmas.{concat_push}

pub leaf_at : (xs : List Value) (i : ℕ) (x : Value) → i < length xs → x ≡ get_or xs i x → AllByRecursion IsLeafValue (map value_view xs) → IsLeafValue (value_view x)
leaf_at [] i x l at h = absurd (omega arith)
leaf_at (y ∷ xs) zero x l at h = subst (λ (v : Value). IsLeafValue (value_view v)) (sym at) h.0
leaf_at (y ∷ xs) (suc i) x l at h = leaf_at xs i x (omega arith) at h.1

module _ (tag : Tag) (shape : Shape) (is : IsLeafOf tag shape) where
  pub leaves_conform : (vs : List Val) → AllByRecursion (Conforms shape) vs → AllByRecursion IsLeafValue vs
  leaves_conform [] c = tt
  leaves_conform (v ∷ vs) c = (leaf_conforms tag shape v is c.0, leaves_conform vs c.1)

  to_each : (rule : Rule) → IsCanonical rule → (vs : List Val) (es : List (List ℕ)) → AllByRecursion (Conforms shape) vs → AllZip (IsLeafEncoding rule tag) vs es → AllZip (IsEncoding rule shape) vs es
  to_each rule canonical [] [] c h = tt
  to_each rule canonical [] (e ∷ es) c h = elim h [ ]
  to_each rule canonical (v ∷ vs) [] c h = elim h [ ]
  to_each rule canonical (v ∷ vs) (e ∷ es) c h = ((leaf_alike rule canonical tag shape v is c.0).to e h.0, to_each rule canonical vs es c.1 h.1)

  from_each : (rule : Rule) → IsCanonical rule → (vs : List Val) (es : List (List ℕ)) → AllByRecursion (Conforms shape) vs → AllZip (IsEncoding rule shape) vs es → AllZip (IsLeafEncoding rule tag) vs es
  from_each rule canonical [] [] c h = tt
  from_each rule canonical [] (e ∷ es) c h = elim h [ ]
  from_each rule canonical (v ∷ vs) [] c h = elim h [ ]
  from_each rule canonical (v ∷ vs) (e ∷ es) c h = ((leaf_alike rule canonical tag shape v is c.0).from e h.0, from_each rule canonical vs es c.1 h.1)

  pub leaves_alike : (rule : Rule) → IsCanonical rule → (vs : List Val) → AllByRecursion (Conforms shape) vs → HoldAlike (AreItems (IsLeafEncoding rule tag) vs) (AreItems (IsEncoding rule shape) vs)
  leaves_alike rule canonical vs c = record {
    to = λ b h. record { encodings = h.encodings; each = to_each rule canonical vs h.encodings c h.each; joined = h.joined };
    from = λ b h. record { encodings = h.encodings; each = from_each rule canonical vs h.encodings c h.each; joined = h.joined };
  }

-- one more behind
pub item_behind : (IsItem : Meaning) (xs : List Value) (i : ℕ) (x : Value) (old mid new : List ℕ) → i < length xs → x ≡ get_or xs i x → Appends (AreItems IsItem (map value_view (take i xs))) old mid → Appends (IsItem (value_view x)) mid new
    → Appends (AreItems IsItem (map value_view (take (i + 1) xs))) old new
item_behind IsItem xs i x old mid new l at h a = (
  h.0 ++ a.0,
  a.1 ∙ ap (λ s. s ++ a.0) h.1 ∙ append_assoc old h.0 a.0,
  subst (λ (vs : List Val). AreItems IsItem vs (h.0 ++ a.0)) (sym (taken xs i x l at)) record {
    encodings = h.2.encodings ++ a.0 ∷ [];
    each = zip_push IsItem (map value_view (take i xs)) h.2.encodings (value_view x) a.0 h.2.each a.2;
    joined = ap (λ s. s ++ a.0) h.2.joined ∙ sym (concat_push h.2.encodings a.0);
  },
)
