-- Names that are entered one by one differ, and one that is there already repeats an earlier one.
use Rattle.std.proofs.Common.{◌≡◌, ◌≢◌, ◌+◌, ◌<◌, ◌↔◌, ◌⊎◌, inl, inr, ℕ, Bool, true, false, not, ◌||◌, IsTrue, List, [], ◌∷◌, ◌++◌, map, take, drop, length, get_or, Contains, Option, Some, if◌then◌else◌, refl, sym, ap, ◌∙◌, subst}
use Rattle.std.specs.List.{list_any}
use Rattle.std.specs.Str.{bytes_eq}
use Rattle.std.proofs.lemmas.Slice.Eq.{bytes_eq-Decides}
use Rattle.std.proofs.lemmas.Bool.{false≢true}
use Rattle.std.proofs.lemmas.List.{map_more, map-append, take-append-drop, take-map}
use Rattle.std.proofs.lemmas.List.Elements.{Contains-push_cases}
use Rattle.std.proofs.lemmas.Option.{slice_get-map, slice_get-get_or}
use Rattle.std.specs.Prelude.{option_map}
use Rattle.types.proofs.ListLemmas.{not_in_nil, contains_first, contains_later, contains_cases, all_differ-cons, distinct_apart, distinct_left, others_differ, first_differs, AllPairs-nil}
use Rattle.builtin_types.specs.Names.{NamesDiffer, IsEntered, AreEntered, IsFirstRepeat}

module _ {K : Type 0} (text : K → List ℕ) (name : List ℕ) where
  pub new_name : (ks : List K) → list_any (λ (k : K). bytes_eq name (text k)) ks ≡ false → Contains (map text ks) name → ⊥
  new_name [] e c = not_in_nil name c
  new_name (k ∷ ks) e c = by_mark (bytes_eq name (text k)) refl (contains_cases (text k) name (map text ks) c) (new_name ks)
    where
      by_mark : (mark : Bool) → bytes_eq name (text k) ≡ mark → (text k ≡ name) ⊎ Contains (map text ks) name → (list_any (λ (j : K). bytes_eq name (text j)) ks ≡ false → Contains (map text ks) name → ⊥) → ⊥
      by_mark true f p more = false≢true (sym e ∙ ap (λ (b : Bool). b || list_any (λ (j : K). bytes_eq name (text j)) ks) f)
      by_mark false f (inl same) more = false≢true (sym f ∙ (bytes_eq-Decides name (text k)).1 (sym same))
      by_mark false f (inr later) more = more (sym (ap (λ (b : Bool). b || list_any (λ (j : K). bytes_eq name (text j)) ks) f) ∙ e) later

  pub old_name : (ks : List K) → list_any (λ (k : K). bytes_eq name (text k)) ks ≡ true → Contains (map text ks) name
  old_name [] e = absurd (false≢true e)
  old_name (k ∷ ks) e = by_mark (bytes_eq name (text k)) refl (old_name ks)
    where
      by_mark : (mark : Bool) → bytes_eq name (text k) ≡ mark → (list_any (λ (j : K). bytes_eq name (text j)) ks ≡ true → Contains (map text ks) name) → Contains (map text (k ∷ ks)) name
      by_mark true f more = contains_first (text k) name (map text ks) (sym ((bytes_eq-Decides name (text k)).0 f))
      by_mark false f more = contains_later (text k) name (map text ks) (more (sym (ap (λ (b : Bool). b || list_any (λ (j : K). bytes_eq name (text j)) ks) f) ∙ e))

  -- what a set tells of a key that it is given
  pub enter_told : (ks after : List K) (key : K) (new : Bool) → text key ≡ name → new ≡ not (list_any (λ (k : K). bytes_eq name (text k)) ks) → after ≡ (if list_any (λ (k : K). bytes_eq name (text k)) ks then ks else ks ++ key ∷ []) → IsEntered (map text ks) name new (map text after)
  enter_told ks after key new named added keys = by_mark (list_any (λ (k : K). bytes_eq name (text k)) ks) refl
    where
      by_mark : (mark : Bool) → list_any (λ (k : K). bytes_eq name (text k)) ks ≡ mark → IsEntered (map text ks) name new (map text after)
      by_mark true e = subst (λ (b : Bool). IsEntered (map text ks) name b (map text after)) (sym (added ∙ ap not e)) (old_name ks e, ap (map text) (keys ∙ ap (λ (b : Bool). if b then ks else ks ++ key ∷ []) e))
      by_mark false e = subst (λ (b : Bool). IsEntered (map text ks) name b (map text after)) (sym (added ∙ ap not e)) (
        new_name ks e,
        ap (map text) (keys ∙ ap (λ (b : Bool). if b then ks else ks ++ key ∷ []) e) ∙ map-append text ks (key ∷ []) ∙ ap (λ (n : List ℕ). map text ks ++ n ∷ []) named,
      )

-- one more name behind names that differ
pub differ-push : (names : List (List ℕ)) (name : List ℕ) → NamesDiffer names → (Contains names name → ⊥) → NamesDiffer (names ++ name ∷ [])
differ-push [] name differ none = all_differ-cons name [] (not_in_nil name) (AllPairs-nil (λ a b. a ≢ b))
differ-push (first ∷ names) name differ none =
    all_differ-cons first (names ++ name ∷ []) (λ c. by_place (Contains-push_cases names name first c)) (differ-push names name (others_differ first names differ) (λ c. none (contains_later first name names c)))
  where
    by_place : Contains names first ⊎ (name ≡ first) → ⊥
    by_place (inl before) = first_differs first names differ before
    by_place (inr same) = none (contains_first first name names (sym same))

-- a name that stands in front of another place repeats
pub differ-repeat : (names others : List (List ℕ)) (name : List ℕ) → Contains names name → NamesDiffer ((names ++ name ∷ []) ++ others) → ⊥
differ-repeat names others name c differ = distinct_apart names (name ∷ []) (distinct_left (names ++ name ∷ []) others differ) name c (contains_first name name [] refl)

module _ {W X : Type 0} (p : W → List ℕ) (q : X → W) (xs : List X) where
  names_more : (i : ℕ) (x : X) → i < length xs → x ≡ get_or xs i x → map p (map q (take (i + 1) xs)) ≡ map p (map q (take i xs)) ++ p (q x) ∷ []
  names_more i x within is = ap (map p) (map_more q xs i x within ∙ ap (λ (y : X). map q (take i xs) ++ q y ∷ []) (sym is)) ∙ map-append p (map q (take i xs)) (q x ∷ [])

  names_all : (i : ℕ) (x : X) → i < length xs → x ≡ get_or xs i x → map p (map q xs) ≡ (map p (map q (take i xs)) ++ p (q x) ∷ []) ++ map p (map q (drop (i + 1) xs))
  names_all i x within is =
      ap (λ (ys : List X). map p (map q ys)) (sym (take-append-drop (i + 1) xs)) ∙ ap (map p) (map-append q (take (i + 1) xs) (drop (i + 1) xs)) ∙ map-append p (map q (take (i + 1) xs)) (map q (drop (i + 1) xs))
      ∙ ap (λ (ns : List (List ℕ)). ns ++ map p (map q (drop (i + 1) xs))) (names_more i x within is)

  -- one more name is entered
  pub entered_more : (i : ℕ) (x : X) (name : List ℕ) (new : Bool) (entered after : List (List ℕ)) → i < length xs → x ≡ get_or xs i x → name ≡ p (q x) → new ≡ true → AreEntered entered (map p (map q (take i xs))) → IsEntered entered name new after
      → AreEntered after (map p (map q (take (i + 1) xs)))
  entered_more i x name false entered after within is named t h e = absurd (false≢true t)
  entered_more i x name true entered after within is named t h e =
      let more = names_more i x within is in
      let none = subst (λ (ns : List (List ℕ)). Contains ns name → ⊥) h.are e.0 in
      record {
        are = e.1 ∙ ap (λ (ns : List (List ℕ)). ns ++ name ∷ []) h.are ∙ ap (λ (n : List ℕ). map p (map q (take i xs)) ++ n ∷ []) named ∙ sym more;
        differ = subst NamesDiffer (ap (λ (n : List ℕ). map p (map q (take i xs)) ++ n ∷ []) named ∙ sym more) (differ-push (map p (map q (take i xs))) name h.differ none);
      }

  -- it is one of those that are
  pub repeat_told : (i : ℕ) (x : X) (name : List ℕ) (new : Bool) (entered after : List (List ℕ)) → i < length xs → x ≡ get_or xs i x → name ≡ p (q x) → new ≡ false → AreEntered entered (map p (map q (take i xs))) → IsEntered entered name new after
      → IsTrue false ↔ NamesDiffer (map p (map q xs))
  repeat_told i x name true entered after within is named t h e = absurd (false≢true (sym t))
  repeat_told i x name false entered after within is named t h e =
      let there : Contains (map p (map q (take i xs))) (p (q x)) = subst (Contains (map p (map q (take i xs)))) named (subst (λ (ns : List (List ℕ)). Contains ns name) h.are e.0) in
      (λ f. absurd (false≢true f), λ differ. absurd (differ-repeat (map p (map q (take i xs))) (map p (map q (drop (i + 1) xs))) (p (q x)) there (subst NamesDiffer (names_all i x within is) differ)))

  -- and so its place is that of the first that repeats
  pub repeat_place : (i : ℕ) (x : X) (name : List ℕ) (new : Bool) (entered after : List (List ℕ)) → i < length xs → x ≡ get_or xs i x → name ≡ p (q x) → new ≡ false → AreEntered entered (map p (map q (take i xs))) → IsEntered entered name new after
      → IsFirstRepeat (map p (map q xs)) i
  repeat_place i x name true entered after within is named t h e = absurd (false≢true (sym t))
  repeat_place i x name false entered after within is named t h e =
      let same : take i (map p (map q xs)) ≡ map p (map q (take i xs)) = take-map p i (map q xs) ∙ ap (map p) (take-map q i xs) in
      record {
        name = name;
        at = slice_get-map p (map q xs) i ∙ ap (option_map p) (slice_get-map q xs i) ∙ ap (λ (o : Option X). option_map p (option_map q o)) (slice_get-get_or xs i x within ∙ ap Some (sym is)) ∙ ap Some (sym named);
        earlier = subst (λ (ns : List (List ℕ)). Contains ns name) (h.are ∙ sym same) e.0;
        differ = subst NamesDiffer (sym same) h.differ;
      }
