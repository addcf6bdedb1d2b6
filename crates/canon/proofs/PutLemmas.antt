-- Lemmas on the parts of constructed encodings as they are written.
use Rattle.std.specs.List.{concat}
use Rattle.std.proofs.Common.{◌≡◌, ◌+◌, ◌-◌, ◌<◌, ℕ, List, [], ◌∷◌, ◌++◌, length, take, drop, get_or, map, refl, sym, ap, ◌∙◌, subst, arith, append_assoc, append-nil, length-append, All, IsPermutation}
use Rattle.std.proofs.lemmas.List.{map-append}
use Rattle.std.proofs.lemmas.List.Elements.{All-nil, All-cons}
use Rattle.std.proofs.lemmas.List.Sorted.{IsPermutation-map}
use Rattle.octets.specs.Front.{Appends}
use Rattle.types.specs.declared.value.Value.{Value}
use Rattle.types.specs.Shape.{Val}
use Rattle.types.specs.View.{value_view}
use Rattle.types.specs.Encoding.{Meaning}
use Rattle.canon.specs.declared.spans.Span.{Span}
use Rattle.canon.specs.declared.spans.Keyed.{Keyed}
use Rattle.canon.specs.Keyed.{HasKey}
use Rattle.canon.specs.Node.{AreItemsInOrder}
use Rattle.canon.specs.Part.{IsPut, Cuts, AreLaid, IsCutInto, IsArranged}
use Rattle.canon.specs.Span.{part_of, key_of}
use Rattle.canon.proofs.OrderedLemmas.{taken, zip_push}
use Rattle.canon.proofs.PartLemmas.{take_front, drop_front, concat_push, part_put}

-- spans of parts
pub cuts_push : (from : ℕ) (ss : List Span) (ps : List (List ℕ)) (s : Span) (p : List ℕ) → Cuts from ss ps → s.start ≡ from + length (concat ps) → s.end ≡ s.start + length p → Cuts from (ss ++ s ∷ []) (ps ++ p ∷ [])
cuts_push from [] [] s p h a e = (omega (arith, a), omega (arith, a, e), tt)
cuts_push from [] (q ∷ ps) s p h a e = elim h [ ]
cuts_push from (r ∷ ss) [] s p h a e = elim h [ ]
cuts_push from (r ∷ ss) (q ∷ ps) s p h a e = (h.0, h.1, cuts_push (from + length q) ss ps s p h.2 (omega (arith, a, length-append q (concat ps))) e)

pub cuts_read : (old : List ℕ) (ss : List Span) (ps : List (List ℕ)) (buffer : List ℕ) → Cuts (length old) ss ps → buffer ≡ old ++ concat ps → map (part_of buffer) ss ≡ ps
cuts_read old [] [] buffer h e = refl
cuts_read old [] (p ∷ ps) buffer h e = elim h [ ]
cuts_read old (s ∷ ss) [] buffer h e = elim h [ ]
cuts_read old (s ∷ ss) (p ∷ ps) buffer h e =
    let size : s.end - s.start ≡ length p = omega (arith, h.0, h.1) in
    let first : part_of buffer s ≡ p =
    ap (λ b. take (s.end - s.start) (drop s.start b)) e ∙ ap (take (s.end - s.start)) (drop_front old (p ++ concat ps) s.start h.0) ∙ take_front p (concat ps) (s.end - s.start) size in
    let rest : map (part_of buffer) ss ≡ ps =
    cuts_read (old ++ p) ss ps buffer (subst (λ n. Cuts n ss ps) (sym (length-append old p)) h.2) (e ∙ sym (append_assoc old p (concat ps))) in
    ap (λ b. b ∷ map (part_of buffer) ss) first ∙ ap (λ r. p ∷ r) rest

-- the keys of encodings that stand in a buffer
keys_stand : (parts : List (Keyed ℕ)) (buffer : List ℕ) → map (λ (p : Keyed ℕ). p.key) parts ≡ map (key_of 16) (map (part_of buffer) (map (λ (p : Keyed ℕ). p.span) parts)) → All (HasKey buffer) parts
keys_stand [] buffer h = All-nil (HasKey buffer)
keys_stand (p ∷ parts) buffer h = All-cons (HasKey buffer) p parts (ap (λ ks. get_or ks 0 0) h) (keys_stand parts buffer (ap (drop 1) h))

pub none_laid : (IsItem : Meaning) (out : List ℕ) → AreLaid IsItem [] [] out out
none_laid IsItem out = record { encodings = []; each = tt; cuts = tt; keys = refl; is = sym (append-nil out) }

-- one more behind
pub laid_more : (IsItem : Meaning) (xs : List Value) (i : ℕ) (x : Value) (ps : List (Keyed ℕ)) (p : Keyed ℕ) (old mid new : List ℕ) → i < length xs → x ≡ get_or xs i x → AreLaid IsItem (map value_view (take i xs)) ps old mid → IsPut (IsItem (value_view x)) mid new p.span → HasKey new p
    → AreLaid IsItem (map value_view (take (i + 1) xs)) (ps ++ p ∷ []) old new
laid_more IsItem xs i x ps p old mid new l at h a key =
    let span = λ (one : Keyed ℕ). one.span in
    let number = λ (one : Keyed ℕ). one.key in
    let was : length mid ≡ length old + length (concat h.encodings) = ap length h.is ∙ length-append old (concat h.encodings) in
    let now : length new ≡ length mid + length a.octets = ap length a.is ∙ length-append mid a.octets in
    let stood : number p ≡ key_of 16 a.octets = key ∙ ap (key_of 16) (part_put (IsItem (value_view x)) mid new p.span a) in
    subst (λ (vs : List Val). AreLaid IsItem vs (ps ++ p ∷ []) old new) (sym (taken xs i x l at)) record {
      encodings = h.encodings ++ a.octets ∷ [];
      each = zip_push IsItem (map value_view (take i xs)) h.encodings (value_view x) a.octets h.each a.holds;
      cuts = subst (λ (ss : List Span). Cuts (length old) ss (h.encodings ++ a.octets ∷ [])) (sym (map-append span ps (p ∷ [])))
          (cuts_push (length old) (map span ps) h.encodings p.span a.octets h.cuts (omega (arith, a.start, was)) (omega (arith, a.start, a.end, now)));
      keys = map-append number ps (p ∷ []) ∙ ap (λ ks. ks ++ number p ∷ []) h.keys ∙ ap (λ k. map (key_of 16) h.encodings ++ k ∷ []) stood ∙ sym (map-append (key_of 16) h.encodings (a.octets ∷ []));
      is = a.is ∙ ap (λ z. z ++ a.octets) h.is ∙ append_assoc old (concat h.encodings) a.octets ∙ ap (λ z. old ++ z) (sym (concat_push h.encodings a.octets));
    }

module _ (IsItem : Meaning) (values : List Val) (ps : List (Keyed ℕ)) (old new : List ℕ) (h : AreLaid IsItem values ps old new) where
  abbrev spans : List Span
  spans = map (λ (p : Keyed ℕ). p.span) ps

  laid_read : map (part_of new) spans ≡ h.encodings
  laid_read = cuts_read old spans h.encodings new h.cuts h.is

  -- laid parts are all that stands behind what stood before
  pub laid_cut : (n : ℕ) → n ≡ length old → IsCutInto n spans new
  laid_cut n at = record {
    within = omega (arith, at, ap length h.is, length-append old (concat h.encodings));
    whole =
        let kept : take n new ≡ old = ap (take n) h.is ∙ take_front old (concat h.encodings) n at in
        h.is ∙ ap (λ s. s ++ concat h.encodings) (sym kept) ∙ ap (λ qs. take n new ++ concat qs) (sym laid_read);
  }

  -- with their keys
  pub laid_keys : All (HasKey new) ps
  laid_keys = keys_stand ps new (h.keys ∙ ap (map (key_of 16)) (sym laid_read))

  -- and that they were put in ascending order
  pub order_made : (last : List ℕ) (n : ℕ) → n ≡ length old → IsArranged n spans new last → Appends (AreItemsInOrder IsItem values) old last
  order_made last n at made =
      let sorted = map (part_of new) made.order in
      let kept : take n new ≡ old = ap (take n) h.is ∙ take_front old (concat h.encodings) n at in (
        concat sorted,
        made.is ∙ ap (λ s. s ++ concat sorted) kept,
        record {
          encodings = h.encodings;
          each = h.each;
          order = sorted;
          permutes = subst (λ qs. IsPermutation qs sorted) laid_read (IsPermutation-map (part_of new) spans made.order made.permutes);
          ascends = made.ascends;
          joined = refl;
        },
      )
