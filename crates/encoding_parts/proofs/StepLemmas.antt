-- Lemmas on what comes next in the innermost open encoding.
use Rattle.std.proofs.Common.{◌≡◌, ◌⊎◌, inl, inr, ◌+◌, ◌<◌, ◌≤◌, ℕ, Bool, true, false, List, ◌∷◌, ◌++◌, length, take, drop, refl, sym, ap, ap₂, ◌∙◌, subst, arith, append_assoc, length-append}
use Rattle.std.proofs.lemmas.List.{append_cancel_left, length-take-le}
use Rattle.octets.specs.declared.tag.Tag.{Tag}
use Rattle.octets.specs.Identifier.{IsIdentifier}
use Rattle.octets.specs.Rule.{ber}
use Rattle.octets.proofs.IdentifierLemmas.{identifier_unique}
use Rattle.octets.proofs.LengthLemmas.{length_unique}
use Rattle.octets.proofs.ShortestLemmas.{IsLength-size}
use Rattle.types.specs.Form.{IsPrimitive}
use Rattle.types.specs.FirstTags.{IsUsable}
use Rattle.types.proofs.FormLemmas.{definite_unique, parts_of_definite, length-definite}
use Rattle.types.proofs.NestingLemmas.{IsAboveZero, identifier_above, definite_above, not_end, no_length-128}
use Rattle.encoding_parts.specs.declared.frame.Frame.{Frame}
use Rattle.encoding_parts.specs.Completing.{Completes, IsEndOf, Opens, IsOpening, IsSegment}
use Rattle.encoding_parts.specs.Head.{IsTagWithin, IsExtentWithin}
use Rattle.encoding_parts.specs.Segments.{EndsAt}
use Rattle.octets.proofs.FrontLemmas.{front_of_more}

end_unique : (f : Frame) (taken : ℕ) (a b : List ℕ) → IsEndOf f taken a → IsEndOf f taken b → a ≡ b
end_unique f taken a b (inl x) (inl y) = x.none ∙ sym y.none
end_unique f taken a b (inl x) (inr y) = let absurd_form : true ≡ false = sym x.definite ∙ y.indefinite in cc
end_unique f taken a b (inr x) (inl y) = let absurd_form : true ≡ false = sym y.definite ∙ x.indefinite in cc
end_unique f taken a b (inr x) (inr y) = x.zeros ∙ sym y.zeros

-- nothing else comes where an encoding ends
pub end_alone : (f : Frame) (taken : ℕ) (mark part x y : List ℕ) → IsEndOf f taken mark → IsAboveZero part → taken + length part ≤ f.end → mark ++ x ≡ part ++ y → ⊥
end_alone f taken mark part x y (inl e) above fits whole = omega (arith, e.there, ap length above.is)
end_alone f taken mark part x y (inr e) above fits whole = not_end part y (0 ∷ 0 ∷ x) above refl (ap (λ z. z ++ x) (sym e.zeros) ∙ whole)

pub opening_above : (tag : Tag) (end taken : ℕ) (opened : Frame) (part : List ℕ) → IsUsable tag → IsOpening tag end taken opened part → IsAboveZero part
opening_above tag end taken opened part kept h =
    let begins = identifier_above tag true h.identifier kept h.tagged in
    record { first = begins.first; others = begins.others ++ h.size; above = begins.above; is = h.joined ∙ ap (λ x. x ++ h.size) begins.is }

opens_fits : (end taken : ℕ) (opened : Frame) (size : List ℕ) → Opens end taken opened size → taken + length size ≤ end
opens_fits end taken opened size (inl h) = omega (arith, h.ends, h.fits)
opens_fits end taken opened size (inr h) = omega (arith, h.fits, h.ends, ap length h.mark)

pub opening_fits : (tag : Tag) (end taken : ℕ) (opened : Frame) (part : List ℕ) → IsOpening tag end taken opened part → taken + length part ≤ end
opening_fits tag end taken opened part h = omega (arith, opens_fits end (taken + length h.identifier) opened h.size h.form, ap length h.joined, length-append h.identifier h.size)

-- where an opened encoding ends
pub opens_below : (end taken : ℕ) (frame : Frame) (size : List ℕ) → Opens end taken frame size → frame.end ≤ end
opens_below end taken frame size (inl h) = h.fits
opens_below end taken frame size (inr h) = omega (arith, h.ends)

pub opens_room : (end taken : ℕ) (frame : Frame) (size : List ℕ) → Opens end taken frame size → frame.definite ≡ false → frame.end + 2 ≤ end
opens_room end taken frame size (inl h) marked = absurd (let both : true ≡ false = sym h.definite ∙ marked in cc)
opens_room end taken frame size (inr h) marked = omega (arith, h.ends)

-- identifier octets are some, and so are length octets
pub identifier_some : (tag : Tag) (constructed : Bool) (octets : List ℕ) → IsIdentifier tag constructed octets → 1 ≤ length octets
identifier_some tag constructed octets (inl h) = omega (arith, ap length h.spelt)
identifier_some tag constructed octets (inr h) = omega (arith, ap length h.spelt)

opens_some : (end taken : ℕ) (frame : Frame) (size : List ℕ) → Opens end taken frame size → 1 ≤ length size
opens_some end taken frame size (inl h) = (IsLength-size h.contents size h.sized).0
opens_some end taken frame size (inr h) = omega (arith, ap length h.mark)

pub opening_some : (tag : Tag) (end taken : ℕ) (opened : Frame) (part : List ℕ) → IsOpening tag end taken opened part → 2 ≤ length part
opening_some tag end taken opened part h =
    omega (arith, identifier_some tag true h.identifier h.tagged, opens_some end (taken + length h.identifier) opened h.size h.form, ap length h.joined, length-append h.identifier h.size)

frame_same : (g h : Frame) → g.definite ≡ h.definite → g.end ≡ h.end → g ≡ h
frame_same g h definite end = ap₂ (λ d e. record { definite = d; end = e }) definite end

-- length octets open one encoding
pub record IsSameOpened (g h : Frame) (a b r s : List ℕ) : Type 0 where
  pub frame : g ≡ h
  pub octets : a ≡ b
  pub rest : r ≡ s

opens_unique : (end taken : ℕ) (g h : Frame) (a b r s : List ℕ) → Opens end taken g a → Opens end taken h b → a ++ r ≡ b ++ s → IsSameOpened g h a b r s
opens_unique end taken g h a b r s (inl x) (inl y) whole =
    let same = length_unique x.contents y.contents a b r s x.sized y.sized whole in
    let end_same : g.end ≡ h.end = omega (arith, x.ends, y.ends, same.value, ap length same.octets) in
    record { frame = frame_same g h (x.definite ∙ sym y.definite) end_same; octets = same.octets; rest = same.rest }
opens_unique end taken g h a b r s (inl x) (inr y) whole =
    absurd (no_length-128 x.contents a r s x.sized (ap (λ z. z ++ s) (sym y.mark) ∙ sym whole))
opens_unique end taken g h a b r s (inr x) (inl y) whole =
    absurd (no_length-128 y.contents b s r y.sized (ap (λ z. z ++ r) (sym x.mark) ∙ whole))
opens_unique end taken g h a b r s (inr x) (inr y) whole =
    let same : a ≡ b = x.mark ∙ sym y.mark in
    record {
      frame = frame_same g h (x.indefinite ∙ sym y.indefinite) (omega (arith, x.ends, y.ends));
      octets = same;
      rest = append_cancel_left b r s (subst (λ z. z ++ r ≡ b ++ s) same whole);
    }

pub opening_unique : (tag : Tag) (end taken : ℕ) (g h : Frame) (a b r s : List ℕ) → IsOpening tag end taken g a → IsOpening tag end taken h b → a ++ r ≡ b ++ s → IsSameOpened g h a b r s
opening_unique tag end taken g h a b r s x y whole =
    let parts : x.identifier ++ (x.size ++ r) ≡ y.identifier ++ (y.size ++ s) =
    sym (append_assoc x.identifier x.size r) ∙ (ap (λ z. z ++ r) (sym x.joined) ∙ (whole ∙ (ap (λ z. z ++ s) y.joined ∙ append_assoc y.identifier y.size s))) in
    let same = identifier_unique tag tag true true x.identifier y.identifier (x.size ++ r) (y.size ++ s) x.tagged y.tagged parts in
    let form : Opens end (taken + length x.identifier) h y.size = subst (λ i. Opens end (taken + length i) h y.size) (sym same.octets) y.form in
    let opened = opens_unique end (taken + length x.identifier) g h x.size y.size r s x.form form same.rest in
    record { frame = opened.frame; octets = x.joined ∙ (ap₂ (λ i z. i ++ z) same.octets opened.octets ∙ sym y.joined); rest = opened.rest }

-- an encoding that opens is not primitive
pub primitive_not_opening : (tag : Tag) (end taken : ℕ) (opened : Frame) (c part head r s : List ℕ) → IsPrimitive ber tag c part → IsOpening tag end taken opened head → part ++ r ≡ head ++ s → ⊥
primitive_not_opening tag end taken opened c part head r s p h whole =
    let parts : p.identifier ++ (p.size ++ (c ++ r)) ≡ h.identifier ++ (h.size ++ s) = sym (parts_of_definite ber tag false c part r p) ∙ (whole ∙ (ap (λ z. z ++ s) h.joined ∙ append_assoc h.identifier h.size s)) in
    let same = identifier_unique tag tag false true p.identifier h.identifier (p.size ++ (c ++ r)) (h.size ++ s) p.tagged h.tagged parts in
    let form : false ≡ true = same.form in cc

-- behind the identifier octets of a constructed encoding stand its length octets
extent_of_opens : (end taken : ℕ) (opened : Frame) (size rest octets : List ℕ) → Opens end taken opened size → octets ≡ size ++ rest → IsExtentWithin true end taken octets
extent_of_opens end taken opened size rest octets (inl h) is =
    inl (record { contents = h.contents; size = size; rest = rest; sized = h.sized; fits = omega (arith, h.ends, h.fits); parts = is })
extent_of_opens end taken opened size rest octets (inr h) is =
    inr (record { form = refl; rest = rest; fits = omega (arith, h.fits, h.ends); parts = is ∙ ap (λ z. z ++ rest) h.mark })

pub extent_of_opening : (tag : Tag) (end taken i : ℕ) (opened : Frame) (head octets more s : List ℕ) → i ≤ length octets → IsIdentifier tag true (take i octets) → IsOpening tag end taken opened head → octets ++ more ≡ head ++ s
    → IsExtentWithin true end (taken + i) (drop i octets ++ more)
extent_of_opening tag end taken i opened head octets more s there f h is =
    let same = identifier_unique tag tag true true (take i octets) h.identifier (drop i octets ++ more) (h.size ++ s) f h.tagged (sym (front_of_more i octets more) ∙ (is ∙ (ap (λ z. z ++ s) h.joined ∙ append_assoc h.identifier h.size s))) in
    let size : length (take i octets) ≡ i = length-take-le i octets there in
    let place : taken + length h.identifier ≡ taken + i = omega (arith, size, ap length same.octets) in
    subst (λ x. IsExtentWithin true end x (drop i octets ++ more)) place (extent_of_opens end (taken + length h.identifier) opened h.size s (drop i octets ++ more) h.form same.rest)

module _ {A : Type 0} (inner : Tag) (Holds : List A → List ℕ → Type 0) (Whole : List A → Type 0) (levels : ℕ) (one : (p q : List A) (c : List ℕ) → Holds p c → Holds q c → p ≡ q) (kept : IsUsable inner) where
  pub after_end : (f : Frame) (fs : List Frame) (taken : ℕ) (s t : List A) (octets r mark z : List ℕ) → IsEndOf f taken mark → octets ≡ mark ++ z → Completes inner Holds Whole levels (f ∷ fs) taken s octets t r
      → Completes inner Holds Whole levels fs (taken + length mark) s z t r
  after_end f fs taken s t octets r mark z e is (Completes.ends other others after e' is' place k) =
      let same : mark ≡ other = end_unique f taken mark other e e' in
      let rest : others ≡ z = append_cancel_left other others z (sym is' ∙ (is ∙ ap (λ x. x ++ z) same)) in
      let there : after ≡ taken + length mark = place ∙ ap (λ x. taken + length x) (sym same) in
      subst (λ x. Completes inner Holds Whole levels fs x s z t r) there (subst (λ x. Completes inner Holds Whole levels fs after s x t r) rest k)
  after_end f fs taken s t octets r mark z e is (Completes.segment piece joined part others after whole seg is' place join k) =
      absurd (end_alone f taken mark part z others e (definite_above inner false seg.contents part kept seg.primitive) seg.fits (sym is ∙ is'))
  after_end f fs taken s t octets r mark z e is (Completes.opens opened part others after whole deep h is' place k) =
      absurd (end_alone f taken mark part z others e (opening_above inner f.end taken opened part kept h) (opening_fits inner f.end taken opened part h) (sym is ∙ is'))

  -- a primitive segment comes
  pub record BeginsPrimitive (f : Frame) (fs : List Frame) (taken : ℕ) (s t : List A) (octets r : List ℕ) : Type 0 where
    pub whole : Whole s
    pub piece : List A
    pub part : List ℕ
    pub others : List ℕ
    pub segment : IsSegment inner Holds f.end taken piece part
    pub is : octets ≡ part ++ others
    pub next : Completes inner Holds Whole levels (f ∷ fs) (taken + length part) (s ++ piece) others t r

  -- a constructed segment begins
  pub record BeginsConstructed (f : Frame) (fs : List Frame) (taken : ℕ) (s t : List A) (octets r : List ℕ) : Type 0 where
    pub whole : Whole s
    pub deep : length (f ∷ fs) < levels
    pub opened : Frame
    pub part : List ℕ
    pub others : List ℕ
    pub opening : IsOpening inner f.end taken opened part
    pub is : octets ≡ part ++ others
    pub next : Completes inner Holds Whole levels (opened ∷ f ∷ fs) (taken + length part) s others t r

  pub begun : (f : Frame) (fs : List Frame) (taken : ℕ) (s t : List A) (octets r : List ℕ) → (EndsAt f taken octets → ⊥) → Completes inner Holds Whole levels (f ∷ fs) taken s octets t r
      → BeginsPrimitive f fs taken s t octets r ⊎ BeginsConstructed f fs taken s t octets r
  begun f fs taken s t octets r absent (Completes.ends mark others after e is place k) = absurd (absent (record { mark = mark; others = others; ends = e; parts = is }))
  begun f fs taken s t octets r absent (Completes.segment piece joined part others after whole seg is place join k) =
      inl (record {
        whole = whole;
        piece = piece;
        part = part;
        others = others;
        segment = seg;
        is = is;
        next = subst (λ x. Completes inner Holds Whole levels (f ∷ fs) x (s ++ piece) others t r) place (subst (λ x. Completes inner Holds Whole levels (f ∷ fs) after x others t r) join k);
      })
  begun f fs taken s t octets r absent (Completes.opens opened part others after whole deep h is place k) =
      inr (record {
        whole = whole;
        deep = deep;
        opened = opened;
        part = part;
        others = others;
        opening = h;
        is = is;
        next = subst (λ x. Completes inner Holds Whole levels (opened ∷ f ∷ fs) x s others t r) place k;
      })

  pub ends_or_begins : (f : Frame) (fs : List Frame) (taken : ℕ) (s t : List A) (octets r : List ℕ) → Completes inner Holds Whole levels (f ∷ fs) taken s octets t r → EndsAt f taken octets ⊎ IsTagWithin inner f.end taken octets
  ends_or_begins f fs taken s t octets r (Completes.ends mark others after e is place k) = inl (record { mark = mark; others = others; ends = e; parts = is })
  ends_or_begins f fs taken s t octets r (Completes.segment piece joined part others after whole seg is place join k) =
      let p = seg.primitive in
      inr (record {
        constructed = false;
        identifier = p.identifier;
        rest = p.size ++ (seg.contents ++ others);
        tagged = p.tagged;
        fits = omega (arith, seg.fits, length-definite ber inner false seg.contents part p);
        parts = is ∙ parts_of_definite ber inner false seg.contents part others p;
      })
  ends_or_begins f fs taken s t octets r (Completes.opens opened part others after whole deep h is place k) =
      inr (record {
        constructed = true;
        identifier = h.identifier;
        rest = h.size ++ others;
        tagged = h.tagged;
        fits = omega (arith, opening_fits inner f.end taken opened part h, ap length h.joined, length-append h.identifier h.size);
        parts = is ∙ (ap (λ z. z ++ others) h.joined ∙ append_assoc h.identifier h.size others);
      })

  pub after_primitive : (f : Frame) (fs : List Frame) (taken : ℕ) (s t p : List A) (octets r c part z : List ℕ) → (EndsAt f taken octets → ⊥) → IsPrimitive ber inner c part → Holds p c → octets ≡ part ++ z
      → Completes inner Holds Whole levels (f ∷ fs) taken s octets t r → Completes inner Holds Whole levels (f ∷ fs) (taken + length part) (s ++ p) z t r
  after_primitive f fs taken s t p octets r c part z absent prim holds is h =
      elim (begun f fs taken s t octets r absent h) [
        | inl b ↦
            let same = definite_unique ber ber inner inner false false c b.segment.contents part b.part z b.others prim b.segment.primitive (sym is ∙ b.is) in
            let piece : b.piece ≡ p = one b.piece p c (subst (Holds b.piece) (sym same.contents) b.segment.holds) holds in
            subst (λ x. Completes inner Holds Whole levels (f ∷ fs) (taken + length x) (s ++ p) z t r) (sym same.octets)
            (subst (λ x. Completes inner Holds Whole levels (f ∷ fs) (taken + length b.part) (s ++ x) z t r) piece
            (subst (λ x. Completes inner Holds Whole levels (f ∷ fs) (taken + length b.part) (s ++ b.piece) x t r) (sym same.rest) b.next))
        | inr b ↦ absurd (primitive_not_opening inner f.end taken b.opened c part b.part z b.others prim b.opening (sym is ∙ b.is))
      ]

  pub after_opening : (f g : Frame) (fs : List Frame) (taken : ℕ) (s t : List A) (octets r part z : List ℕ) → (EndsAt f taken octets → ⊥) → IsOpening inner f.end taken g part → octets ≡ part ++ z
      → Completes inner Holds Whole levels (f ∷ fs) taken s octets t r → Completes inner Holds Whole levels (g ∷ f ∷ fs) (taken + length part) s z t r
  after_opening f g fs taken s t octets r part z absent opening is h =
      elim (begun f fs taken s t octets r absent h) [
        | inl b ↦ absurd (primitive_not_opening inner f.end taken g b.segment.contents b.part part b.others z b.segment.primitive opening (sym b.is ∙ is))
        | inr b ↦
            let same = opening_unique inner f.end taken g b.opened part b.part z b.others opening b.opening (sym is ∙ b.is) in
            subst (λ x. Completes inner Holds Whole levels (x ∷ f ∷ fs) (taken + length part) s z t r) (sym same.frame)
            (subst (λ x. Completes inner Holds Whole levels (b.opened ∷ f ∷ fs) (taken + length x) s z t r) (sym same.octets)
            (subst (λ x. Completes inner Holds Whole levels (b.opened ∷ f ∷ fs) (taken + length b.part) s x t r) (sym same.rest) b.next))
      ]

  -- what comes next has the form that the identifier octets say
  pub begun_constructed : (f : Frame) (fs : List Frame) (taken i : ℕ) (s t : List A) (octets more r : List ℕ) → i ≤ length octets → IsIdentifier inner true (take i octets) → (EndsAt f taken (octets ++ more) → ⊥)
      → Completes inner Holds Whole levels (f ∷ fs) taken s (octets ++ more) t r → (length (f ∷ fs) < levels) × IsExtentWithin true f.end (taken + i) (drop i octets ++ more)
  begun_constructed f fs taken i s t octets more r there id absent h =
      elim (begun f fs taken s t (octets ++ more) r absent h) [
        | inl b ↦
            let p = b.segment.primitive in
            let same = identifier_unique inner inner true false (take i octets) p.identifier (drop i octets ++ more) (p.size ++ (b.segment.contents ++ b.others)) id p.tagged
            (sym (front_of_more i octets more) ∙ (b.is ∙ parts_of_definite ber inner false b.segment.contents b.part b.others p)) in
            let form : true ≡ false = same.form in cc
        | inr b ↦ (b.deep, extent_of_opening inner f.end taken i b.opened b.part octets more b.others there id b.opening b.is)
      ]

  pub begun_primitive : (f : Frame) (fs : List Frame) (taken i : ℕ) (s t : List A) (octets more r : List ℕ) → IsIdentifier inner false (take i octets) → (EndsAt f taken (octets ++ more) → ⊥)
      → Completes inner Holds Whole levels (f ∷ fs) taken s (octets ++ more) t r → BeginsPrimitive f fs taken s t (octets ++ more) r
  begun_primitive f fs taken i s t octets more r id absent h =
      elim (begun f fs taken s t (octets ++ more) r absent h) [
        | inl b ↦ b
        | inr b ↦
            let o = b.opening in
            let same = identifier_unique inner inner false true (take i octets) o.identifier (drop i octets ++ more) (o.size ++ b.others) id o.tagged
            (sym (front_of_more i octets more) ∙ (b.is ∙ (ap (λ z. z ++ b.others) o.joined ∙ append_assoc o.identifier o.size b.others))) in
            let form : false ≡ true = same.form in cc
      ]
