-- Lemmas on encodings inside one another, opened from the outside in and closed from the inside out.
use Rattle.std.proofs.Common.{true, ◌≡◌, ◌∙◌, ◌+◌, ◌-◌, ◌*◌, ◌<◌, ◌≤◌, inl, inr, ℕ, zero, suc, List, [], ◌∷◌, ◌++◌, length, sym, ap, subst, subst₂, arith, length-append, append-nil, rules}
use Rattle.octets.specs.declared.tag.Tag.{Tag}
use Rattle.octets.specs.Front.{Appends}
use Rattle.octets.specs.Rule.{Rule}
use Rattle.types.specs.declared.ty.Ty.{Ty}
use Rattle.types.specs.declared.ty.Ty as node
use Rattle.types.proofs.ty.Ty.TheLaws.{the_size}
use Rattle.types.specs.Encoding.{IsEncoding}
use Rattle.types.specs.Form.{IsConstructed}
use Rattle.types.specs.Shape.{Shape, Val}
use Rattle.canon.specs.Nested.{IsBehind, IsOpened, IsInside}
use Rattle.canon.specs.Opening.{IsOpening}
use Rattle.canon.specs.Part.{Keeps}
use Rattle.canon.specs.Writes.{IsWritable}
use Rattle.canon.proofs.KeptLemmas.{keeps_chain}
use Rattle.canon.proofs.NodeLemmas.{explicit_alike}
use Rattle.canon.proofs.OpeningLemmas.{opened_kept}

-- a type is not larger than one that it stands in
pub behind_smaller : (count : ℕ) (outer inner : Ty) → IsBehind count outer inner → the_size inner ≤ the_size outer
behind_smaller zero outer inner h = omega (arith, ap the_size h)
behind_smaller (suc count) outer inner h =
    let around = behind_smaller count outer (node.Explicit h.0 h.1) h.2 in
    let inside : the_size h.1.value < the_size (node.Explicit h.0 h.1) = search (rules, node.the_lemmas) in
    omega (arith, around, inside, ap the_size h.3)

-- a low tag has one identifier octet
low_place : (tag : Tag) (mid new : List ℕ) (place : ℕ) → tag.number < 31 → IsOpening tag true mid new place → place ≡ length mid + 1
low_place tag mid new place low h = elim h.tagged [
  | inl one ↦ omega (arith, h.at, length-append mid h.identifier, ap length one.spelt)
  | inr more ↦ absurd (omega (arith, low, more.high))
]

-- one more tag inside those that were opened
pub opened_more : (count : ℕ) (outer type inner : Shape) (tag : Tag) (place : ℕ) (old mid new : List ℕ) → tag.number < 31 → type ≡ Shape.explicit tag inner → IsOpened count outer old type mid → IsOpening tag true mid new place → IsOpened (suc count) outer old inner new
opened_more count outer type inner tag place old mid new low is h opening =
    (tag, mid, subst (IsOpening tag true mid new) (low_place tag mid new place low opening) opening, subst (λ s. IsOpened count outer old s mid) is h)

pub opened_keeps : (count : ℕ) (outer inner : Shape) (old new : List ℕ) → IsOpened count outer old inner new → Keeps old new
opened_keeps zero outer inner old new h = ([], h.1 ∙ sym (append-nil old), tt)
opened_keeps (suc count) outer inner old new h =
    keeps_chain old h.1 new (opened_keeps count outer (Shape.explicit h.0 inner) old h.1 h.3) (opened_kept h.0 true h.1 new (length h.1 + 1) h.2)

pub opened_writable : (count : ℕ) (outer inner : Shape) (v : Val) (old new : List ℕ) → IsOpened count outer old inner new → IsWritable outer v → IsWritable inner v
opened_writable zero outer inner v old new h w = subst (λ s. IsWritable s v) (sym h.0) w
opened_writable (suc count) outer inner v old new h w =
    let around : IsWritable (Shape.explicit h.0 inner) v = opened_writable count outer (Shape.explicit h.0 inner) v old h.1 h.3 w in
    record { nodes = record { within = around.nodes.within.1; tags = around.nodes.tags.1 }; conforms = around.conforms }

opened_length : (count : ℕ) (outer inner : Shape) (old new : List ℕ) → IsOpened count outer old inner new → length new ≡ length old + 2 * count
opened_length zero outer inner old new h = omega (arith, ap length h.1)
opened_length (suc count) outer inner old new h =
    let before = opened_length count outer (Shape.explicit h.0 inner) old h.1 h.3 in
    omega (arith, before, h.2.at, ap length h.2.is, length-append (h.1 ++ h.2.identifier) (128 ∷ []))

-- no octet more, and no tag was opened
pub none_opened : (count : ℕ) (outer inner : Shape) (old new : List ℕ) → IsOpened count outer old inner new → length new ≡ length old → new ≡ old
none_opened zero outer inner old new h same = h.1
none_opened (suc count) outer inner old new h same = absurd (omega (arith, same, opened_length (suc count) outer inner old new h))

module _ (rule : Rule) (outer : Shape) (v : Val) (start end : ℕ) (old : List ℕ) where
  pub inside_keeps : (buffer : List ℕ) → IsInside rule outer v start end old buffer → Keeps old buffer
  inside_keeps buffer h = keeps_chain old h.opened buffer (opened_keeps h.count outer h.inner old h.opened h.are) (h.holds.0, h.holds.1, tt)

  -- an encoding that was appended behind what was opened
  pub value_inside : (count : ℕ) (inner : Shape) (opened buffer : List ℕ) → IsOpened count outer old inner opened → length old ≡ start → length opened ≡ end → Appends (IsEncoding rule inner v) opened buffer → IsInside rule outer v start end old buffer
  value_inside count inner opened buffer are from at holds = record { count = count; inner = inner; opened = opened; are = are; from = from; at = at; holds = holds }

  -- where nothing was opened, the encoding is that of the outer type
  none_open : (buffer : List ℕ) (count : ℕ) (inner : Shape) (opened : List ℕ) → end ≤ start → IsOpened count outer old inner opened → length old ≡ start → length opened ≡ end → Appends (IsEncoding rule inner v) opened buffer → Appends (IsEncoding rule outer v) old buffer
  none_open buffer zero inner opened few are from at holds = subst₂ (λ s o. Appends (IsEncoding rule s v) o buffer) are.0 are.1 holds
  none_open buffer (suc count) inner opened few are from at holds = absurd (omega (arith, few, from, at, opened_length (suc count) outer inner old opened are))

  pub all_closed : (buffer : List ℕ) → end ≤ start → IsInside rule outer v start end old buffer → Appends (IsEncoding rule outer v) old buffer
  all_closed buffer few h = none_open buffer h.count h.inner h.opened few h.are h.from h.at h.holds

  -- what was opened last
  pub record IsLast (buffer : List ℕ) : Type 0 where
    pub count : ℕ
    pub tag : Tag
    pub inner : Shape
    pub mid : List ℕ
    pub opened : List ℕ
    pub opening : IsOpening tag true mid opened (end - 1)
    pub are : IsOpened count outer old (Shape.explicit tag inner) mid
    pub from : length old ≡ start
    pub before : length mid ≡ end - 2
    pub two : start + 2 ≤ end
    pub there : end ≤ length buffer
    pub holds : Appends (IsEncoding rule inner v) opened buffer

  last_open : (buffer : List ℕ) (count : ℕ) (inner : Shape) (opened : List ℕ) → start < end → IsOpened count outer old inner opened → length old ≡ start → length opened ≡ end → Appends (IsEncoding rule inner v) opened buffer → IsLast buffer
  last_open buffer zero inner opened some are from at holds = absurd (omega (arith, some, from, at, ap length are.1))
  last_open buffer (suc count) inner opened some are from at holds =
      let long = opened_length (suc count) outer inner old opened are in
      let short = opened_length count outer (Shape.explicit are.0 inner) old are.1 are.3 in
      record {
        count = count;
        tag = are.0;
        inner = inner;
        mid = are.1;
        opened = opened;
        opening = subst (IsOpening are.0 true are.1 opened) (omega (arith, long, short, at)) are.2;
        are = are.3;
        from = from;
        before = omega (arith, long, short, at);
        two = omega (arith, long, from, at);
        there = omega (arith, at, ap length holds.1, length-append opened holds.0);
        holds = holds;
      }

  pub last_of_inside : (buffer : List ℕ) → start < end → IsInside rule outer v start end old buffer → IsLast buffer
  last_of_inside buffer some h = last_open buffer h.count h.inner h.opened some h.are h.from h.at h.holds

  -- once it is closed, the others are around
  pub one_closed : (buffer new : List ℕ) → IsLast buffer → ((of : Tag) (before opening inside : List ℕ) → IsOpening of true before opening (end - 1) → buffer ≡ opening ++ inside → Appends (IsConstructed rule of inside) before new)
      → IsInside rule outer v start (end - 2) old new
  one_closed buffer new h closed =
      let w = closed h.tag h.mid h.opened h.holds.0 h.opening h.holds.1 in
      record {
        count = h.count;
        inner = Shape.explicit h.tag h.inner;
        opened = h.mid;
        are = h.are;
        from = h.from;
        at = h.before;
        holds = (w.0, w.1, (explicit_alike rule h.tag h.inner v).to w.0 record { contents = h.holds.0; inside = h.holds.2; whole = w.2 });
      }
