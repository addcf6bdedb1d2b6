-- Lemmas on parts that are written one after another, from the first to the last.
use Rattle.std.proofs.Common.{◌≡◌, ◌∙◌, ◌<◌, ℕ, suc, List, [], ◌∷◌, ◌++◌, Option, Some, None, length, drop, get_or, refl, sym, ap, subst, append_assoc, append-nil}
use Rattle.octets.specs.Front.{Appends}
use Rattle.octets.specs.Rule.{Rule, IsCanonical}
use Rattle.types.specs.declared.ty.Field.{Field}
use Rattle.types.specs.declared.value.Value.{Value}
use Rattle.types.specs.Conforms.{SlotsConform}
use Rattle.types.specs.Encoding.{IsEncoding}
use Rattle.types.specs.Shape.{Slots, absent, present, Components, component}
use Rattle.types.specs.View.{value_view, ty_view, field_view, components_view, slots_view}
use Rattle.canon.specs.Node.{AreComponents}
use Rattle.canon.proofs.NodeSizeLemmas.{absent_stands}
use Rattle.canon.proofs.StepLemmas.{drop_all, element, type_of_field, IsPresent, absent_at, components_from, slots_from_present, slots_from_absent}

module _ (rule : Rule) (fields : List Field) (slots : List (Option Value)) where
  -- what encodes the components from there on makes, behind these octets, an encoding of all of them
  abbrev pub BeginsComponents : ℕ → List ℕ → Type 0
  BeginsComponents i octets = (rest : List ℕ) → AreComponents rule (components_view (drop i fields)) (slots_view (drop i slots)) rest → AreComponents rule (components_view fields) (slots_view slots) (octets ++ rest)

  pub none_joined : (out : List ℕ) → Appends (BeginsComponents 0) out out
  none_joined out = ([], sym (append-nil out), λ rest h. h)

  pub present_joined : (i : ℕ) (f : Field) (v : Value) (old mid new : List ℕ) → i < length fields → i < length slots → f ≡ get_or fields i f → Some v ≡ get_or slots i (Some v) → IsPresent f (value_view v)
      → Appends (BeginsComponents i) old mid → Appends (IsEncoding rule (ty_view f.ty) (value_view v)) mid new → Appends (BeginsComponents (suc i)) old new
  present_joined i f v old mid new l k at stands is h a =
      let here : IsEncoding rule (field_view f).type (value_view v) a.0 = subst (λ s. IsEncoding rule s (value_view v) a.0) (sym (type_of_field f)) a.2 in (
        h.0 ++ a.0,
        a.1 ∙ ap (λ s. s ++ a.0) h.1 ∙ append_assoc old h.0 a.0,
        λ rest more.
            let whole : AreComponents rule (component (field_view f).name (field_view f).type (field_view f).requirement (components_view (drop (suc i) fields))) (present (value_view v) (slots_view (drop (suc i) slots))) (a.0 ++ rest) = record {
              encodings = Some a.0 ∷ more.encodings;
              each = (here, is.differs, more.each);
              joined = ap (λ s. a.0 ++ s) more.joined;
            } in
            let from : AreComponents rule (components_view (drop i fields)) (slots_view (drop i slots)) (a.0 ++ rest) = subst (λ (c : Components). AreComponents rule c (slots_view (drop i slots)) (a.0 ++ rest)) (sym (components_from fields i f l at))
            (subst (λ (s : Slots). AreComponents rule (component (field_view f).name (field_view f).type (field_view f).requirement (components_view (drop (suc i) fields))) s (a.0 ++ rest)) (sym (slots_from_present slots i v k stands)) whole) in
            subst (AreComponents rule (components_view fields) (slots_view slots)) (sym (append_assoc h.0 a.0 rest)) (h.2 (a.0 ++ rest) from),
      )

  pub absent_joined : (i : ℕ) (old new : List ℕ) → i < length fields → i < length slots → None ≡ get_or slots i None → IsCanonical rule → SlotsConform (components_view fields) (slots_view slots) → Appends (BeginsComponents i) old new
      → Appends (BeginsComponents (suc i)) old new
  absent_joined i old new l k stands canonical conform h =
      let e = element fields i l in
      let f = e.0 in
      let may = absent_at fields slots i f k e.1 stands conform in (
        h.0,
        h.1,
        λ rest more.
            let whole : AreComponents rule (component (field_view f).name (field_view f).type (field_view f).requirement (components_view (drop (suc i) fields))) (absent (slots_view (drop (suc i) slots))) rest = record {
              encodings = None ∷ more.encodings;
              each = (absent_stands rule (field_view f).requirement (IsEncoding rule (field_view f).type) canonical may, more.each);
              joined = more.joined;
            } in
            h.2 rest (subst (λ (c : Components). AreComponents rule c (slots_view (drop i slots)) rest) (sym (components_from fields i f l e.1))
            (subst (λ (s : Slots). AreComponents rule (component (field_view f).name (field_view f).type (field_view f).requirement (components_view (drop (suc i) fields))) s rest) (sym (slots_from_absent slots i k stands)) whole)),
      )

  pub all_joined : (n : ℕ) (old new : List ℕ) → n ≡ length slots → length slots ≡ length fields → Appends (BeginsComponents n) old new → Appends (AreComponents rule (components_view fields) (slots_view slots)) old new
  all_joined n old new all same h =
      let none_left : drop n slots ≡ [] = ap (λ k. drop k slots) all ∙ drop_all slots in
      let none_there : drop n fields ≡ [] = ap (λ k. drop k fields) (all ∙ same) ∙ drop_all fields in
      let none : AreComponents rule (components_view (drop n fields)) (slots_view (drop n slots)) [] = subst (λ (fs : List Field). AreComponents rule (components_view fs) (slots_view (drop n slots)) []) (sym none_there)
      (subst (λ (ss : List (Option Value)). AreComponents rule (components_view []) (slots_view ss) []) (sym none_left) record { encodings = []; each = tt; joined = refl }) in
      (h.0, h.1, subst (AreComponents rule (components_view fields) (slots_view slots)) (append-nil h.0) (h.2 [] none))
