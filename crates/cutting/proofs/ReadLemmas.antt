-- Lemmas on heads that are read from the front of octets.
use Rattle.std.proofs.Common.{◌≡◌, ◌⊎◌, inl, inr, ℕ, ◌+◌, ◌-◌, ◌≤◌, List, [], ◌∷◌, ◌++◌, Bool, true, false, length, take, drop, refl, sym, ◌∙◌, ap, subst, arith, append_assoc, length-append}
use Rattle.std.proofs.Math.Seq.{take-add}
use Rattle.std.proofs.lemmas.List.{length-take-le, length-drop, take_rest}
use Rattle.octets.specs.declared.tag.Tag.{Tag}
use Rattle.octets.specs.Front.{HasFront, Begins}
use Rattle.octets.specs.Identifier.{IsIdentifier, IsSomeIdentifier}
use Rattle.octets.specs.Length.{IsLength, IsSomeLength}
use Rattle.octets.proofs.FrontLemmas.{no_front-append, HasFront-from_parts, front_of_more, whole_front}
use Rattle.octets.proofs.IdentifierLemmas.{identifier_unique}
use Rattle.octets.proofs.IdentifierOctetsLemmas.{IsIdentifier-size}
use Rattle.types.specs.FirstTags.{IsUsable}
use Rattle.types.proofs.NestingLemmas.{no_length-128}
use Rattle.cutting.specs.declared.found.Opened.{Opened}
use Rattle.cutting.specs.declared.found.Opened.TheVariants.{Definite, Indefinite, End}
use Rattle.cutting.specs.Heads.{IsHead, IsSomeHead, IsReadUsable, IsReadEnd}
use Rattle.cutting.proofs.HeadLemmas.{end_tag, end_identifier, no_end}

-- the head at the front of some octets, and what follows it
record IsFronted (octets : List ℕ) : Type 0 where
  opened : Opened
  head : List ℕ
  rest : List ℕ
  is : IsHead opened head
  joined : octets ≡ head ++ rest

fronted : (octets : List ℕ) → HasFront IsSomeHead octets → IsFronted octets
fronted octets (n, there, (o, h)) = record { opened = o; head = take n octets; rest = drop n octets; is = h; joined = whole_front n octets }

identifier_of : (o : Opened) (octets head rest : List ℕ) → IsHead o head → octets ≡ head ++ rest → HasFront IsSomeIdentifier octets
identifier_of (Definite n) octets head rest h joined =
    HasFront-from_parts IsSomeIdentifier h.identifier (h.size ++ rest) octets (joined ∙ (ap (λ x. x ++ rest) h.joined ∙ append_assoc h.identifier h.size rest))
    record { tag = h.tag; constructed = h.constructed; within = h.number; identifier = h.tagged }
identifier_of Indefinite octets head rest h joined =
    HasFront-from_parts IsSomeIdentifier h.identifier (128 ∷ rest) octets (joined ∙ (ap (λ x. x ++ rest) h.joined ∙ append_assoc h.identifier (128 ∷ []) rest))
    record { tag = h.tag; constructed = true; within = h.number; identifier = h.tagged }
identifier_of End octets head rest h joined =
    HasFront-from_parts IsSomeIdentifier (0 ∷ []) (0 ∷ rest) octets (joined ∙ ap (λ x. x ++ rest) h)
    record { tag = end_tag; constructed = false; within = omega arith; identifier = end_identifier }

identifier_front : (octets : List ℕ) → HasFront IsSomeHead octets → HasFront IsSomeIdentifier octets
identifier_front octets h = let f = fronted octets h in identifier_of f.opened octets f.head f.rest f.is f.joined

-- without an identifier there is no head
pub no_identifier_no_head : (octets : List ℕ) → (HasFront IsSomeIdentifier octets → ⊥) → HasFront IsSomeHead octets → ⊥
no_identifier_no_head octets none h = none (identifier_front octets h)

pub no_identifier_never : (octets more : List ℕ) → (HasFront IsSomeIdentifier octets → ⊥) → (Begins IsSomeIdentifier octets → ⊥) → HasFront IsSomeHead (octets ++ more) → ⊥
no_identifier_never octets more none begins h = no_front-append IsSomeIdentifier octets more none begins (identifier_front (octets ++ more) h)

pub identifier_short : (octets : List ℕ) → Begins IsSomeIdentifier octets → length octets ≤ 132
identifier_short octets (more, some) =
    let size = IsIdentifier-size some.tag some.constructed (octets ++ more) some.within some.identifier in
    omega (arith, size.1, length-append octets more)

-- no octet of a head is none
pub no_head-nil : HasFront IsSomeHead [] → ⊥
no_head-nil h =
    let f = identifier_front [] h in
    let some = f.2 in
    let size = IsIdentifier-size some.tag some.constructed (take f.0 []) some.within some.identifier in
    omega (arith, size.0, length-take-le {A = ℕ} f.0 [] f.1, f.1)

-- the octets behind the identifier octets of a head
record IsSizeFront (constructed : Bool) (rest : List ℕ) : Type 0 where
  size : List ℕ
  more : List ℕ
  kind : ((n : ℕ) × (n ≤ 1_048_576) × IsLength n size) ⊎ ((constructed ≡ true) × (size ≡ 128 ∷ []))
  joined : rest ≡ size ++ more

size_of : (o : Opened) (t : Tag) (j : Bool) (id rest octets head behind : List ℕ) → IsUsable t → IsIdentifier t j id → octets ≡ id ++ rest → IsHead o head → octets ≡ head ++ behind → IsSizeFront j rest
size_of (Definite n) t j id rest octets head behind usable f parts h joined =
    let whole = sym parts ∙ (joined ∙ (ap (λ x. x ++ behind) h.joined ∙ append_assoc h.identifier h.size behind)) in
    let same = identifier_unique t h.tag j h.constructed id h.identifier rest (h.size ++ behind) f h.tagged whole in
    record { size = h.size; more = behind; kind = inl (n, h.within, h.sized); joined = same.rest }
size_of Indefinite t j id rest octets head behind usable f parts h joined =
    let whole = sym parts ∙ (joined ∙ (ap (λ x. x ++ behind) h.joined ∙ append_assoc h.identifier (128 ∷ []) behind)) in
    let same = identifier_unique t h.tag j true id h.identifier rest (128 ∷ behind) f h.tagged whole in
    record { size = 128 ∷ []; more = behind; kind = inr (same.form, refl); joined = same.rest }
size_of End t j id rest octets head behind usable f parts h joined =
    let whole : id ++ rest ≡ (0 ∷ []) ++ (0 ∷ behind) = sym parts ∙ (joined ∙ ap (λ x. x ++ behind) h) in
    absurd (no_end t j false id (0 ∷ []) rest (0 ∷ behind) usable f end_identifier whole)

size_front : (t : Tag) (j : Bool) (id rest octets : List ℕ) → IsUsable t → IsIdentifier t j id → octets ≡ id ++ rest → HasFront IsSomeHead octets → IsSizeFront j rest
size_front t j id rest octets usable f parts h =
    let g = fronted octets h in size_of g.opened t j id rest octets g.head g.rest usable f parts g.is g.joined

some_length : (j : Bool) (rest : List ℕ) → IsSizeFront j rest → HasFront IsSomeLength rest
some_length j rest h =
    let some : IsSomeLength h.size = elim h.kind [ inl one ↦ inl one | inr two ↦ inr two.1 ] in
    HasFront-from_parts IsSomeLength h.size h.more rest h.joined some

-- without length octets there is no head
pub no_length_no_head : (octets : List ℕ) (j : Bool) (at : ℕ) → IsReadUsable octets j at → (HasFront IsSomeLength (drop at octets) → ⊥) → HasFront IsSomeHead octets → ⊥
no_length_no_head octets j at read none h =
    none (some_length j (drop at octets) (size_front read.tag j (take at octets) (drop at octets) octets read.usable read.read.identifier (whole_front at octets) h))

pub no_length_never : (octets more : List ℕ) (j : Bool) (at : ℕ) → IsReadUsable octets j at → (HasFront IsSomeLength (drop at octets) → ⊥) → (Begins IsSomeLength (drop at octets) → ⊥) → HasFront IsSomeHead (octets ++ more) → ⊥
no_length_never octets more j at read none begins h =
    no_front-append IsSomeLength (drop at octets) more none begins
    (some_length j (drop at octets ++ more) (size_front read.tag j (take at octets) (drop at octets ++ more) (octets ++ more) read.usable read.read.identifier (front_of_more at octets more) h))

-- at most 127 length octets
length_size : (octets : List ℕ) → IsSomeLength octets → length octets ≤ 127
length_size octets (inl (n, within, inl short)) = omega (arith, ap length short.spelt)
length_size octets (inl (n, within, inr long)) = omega (arith, ap length long.spelt, long.at_most_126)
length_size octets (inr is) = omega (arith, ap length is)

pub length_short : (octets : List ℕ) (j : Bool) (at : ℕ) → IsReadUsable octets j at → Begins IsSomeLength (drop at octets) → length octets ≤ 132
length_short octets j at read (more, some) =
    let id = IsIdentifier-size read.tag j (take at octets) read.read.within read.read.identifier in
    let size : length (take at octets) ≡ at = length-take-le at octets read.read.there in
    omega (arith, id.1, length_size (drop at octets ++ more) some, length-append (drop at octets) more, length-drop at octets)

-- the indefinite form of a primitive encoding begins no head
pub form_never : (octets more : List ℕ) (at used : ℕ) → IsReadUsable octets false at → take used (drop at octets) ≡ 128 ∷ [] → HasFront IsSomeHead (octets ++ more) → ⊥
form_never octets more at used read is h =
    let front = size_front read.tag false (take at octets) (drop at octets ++ more) (octets ++ more) read.usable read.read.identifier (front_of_more at octets more) h in
    let begins : drop at octets ++ more ≡ 128 ∷ (drop used (drop at octets) ++ more) = front_of_more used (drop at octets) more ∙ ap (λ x. x ++ (drop used (drop at octets) ++ more)) is in
    elim front.kind [
      | inl (n, within, sized) ↦ no_length-128 n front.size front.more (drop used (drop at octets) ++ more) sized (sym begins ∙ front.joined)
      | inr two ↦ cc two.0
    ]

-- the octets that were read
pub definite_read : (octets : List ℕ) (j : Bool) (at n used : ℕ) → IsReadUsable octets j at → n ≤ 1_048_576 → IsLength n (take used (drop at octets)) → IsHead (Definite n) (take (at + used) octets)
definite_read octets j at n used read within sized = record {
  tag = read.tag;
  usable = read.usable;
  number = read.read.within;
  within = within;
  constructed = j;
  identifier = take at octets;
  size = take used (drop at octets);
  tagged = read.read.identifier;
  sized = sized;
  joined = take-add at used octets;
}

pub indefinite_read : (octets : List ℕ) (at used : ℕ) → IsReadUsable octets true at → take used (drop at octets) ≡ 128 ∷ [] → IsHead Indefinite (take (at + used) octets)
indefinite_read octets at used read is = record {
  tag = read.tag;
  usable = read.usable;
  number = read.read.within;
  identifier = take at octets;
  tagged = read.read.identifier;
  joined = take-add at used octets ∙ ap (λ x. take at octets ++ x) is;
}

-- behind the identifier octets of end-of-contents octets
record IsEndFront (constructed : Bool) (rest : List ℕ) : Type 0 where
  primitive : constructed ≡ false
  more : List ℕ
  joined : rest ≡ 0 ∷ more

end_of : (o : Opened) (j : Bool) (id rest octets head behind : List ℕ) → IsIdentifier end_tag j id → octets ≡ id ++ rest → IsHead o head → octets ≡ head ++ behind → IsEndFront j rest
end_of (Definite n) j id rest octets head behind f parts h joined =
    let whole = sym (joined ∙ (ap (λ x. x ++ behind) h.joined ∙ append_assoc h.identifier h.size behind)) ∙ parts in
    absurd (no_end h.tag h.constructed j h.identifier id (h.size ++ behind) rest h.usable h.tagged f whole)
end_of Indefinite j id rest octets head behind f parts h joined =
    let whole = sym (joined ∙ (ap (λ x. x ++ behind) h.joined ∙ append_assoc h.identifier (128 ∷ []) behind)) ∙ parts in
    absurd (no_end h.tag true j h.identifier id (128 ∷ behind) rest h.usable h.tagged f whole)
end_of End j id rest octets head behind f parts h joined =
    let whole : id ++ rest ≡ (0 ∷ []) ++ (0 ∷ behind) = sym parts ∙ (joined ∙ ap (λ x. x ++ behind) h) in
    let same = identifier_unique end_tag end_tag j false id (0 ∷ []) rest (0 ∷ behind) f end_identifier whole in
    record { primitive = same.form; more = behind; joined = same.rest }

end_front : (octets more : List ℕ) (j : Bool) (at : ℕ) → IsReadEnd octets j at → HasFront IsSomeHead (octets ++ more) → IsEndFront j (drop at octets ++ more)
end_front octets more j at read h =
    let g = fronted (octets ++ more) h in
    end_of g.opened j (take at octets) (drop at octets ++ more) (octets ++ more) g.head g.rest read.identifier (front_of_more at octets more) g.is g.joined

pub constructed_end_never : (octets more : List ℕ) (at : ℕ) → IsReadEnd octets true at → HasFront IsSomeHead (octets ++ more) → ⊥
constructed_end_never octets more at read h = let front = end_front octets more true at read h in let no = front.primitive in cc no

pub other_end_never : (octets more : List ℕ) (j : Bool) (at octet : ℕ) (rest : List ℕ) → IsReadEnd octets j at → drop at octets ≡ octet ∷ rest → (octet ≡ 0 → ⊥) → HasFront IsSomeHead (octets ++ more) → ⊥
other_end_never octets more j at octet rest read is other h =
    let front = end_front octets more j at read h in
    let begins : octet ∷ (rest ++ more) ≡ 0 ∷ front.more = ap (λ x. x ++ more) (sym is) ∙ front.joined in
    let first : octet ≡ 0 = cc begins in
    other first

pub cut_end_none : (octets : List ℕ) (j : Bool) (at : ℕ) → IsReadEnd octets j at → length octets ≤ at → (HasFront IsSomeHead octets → ⊥) × (length octets ≤ 132)
cut_end_none octets j at read short =
    let size = IsIdentifier-size end_tag j (take at octets) read.within read.identifier in
    let all : length (take at octets) ≡ at = length-take-le at octets read.there in (
      λ h.
          let g = fronted octets h in
          let front = end_of g.opened j (take at octets) (drop at octets) octets g.head g.rest read.identifier (whole_front at octets) g.is g.joined in
          omega (arith, ap length front.joined, length-drop at octets),
      omega (arith, size.1),
    )

-- what is read behind the identifier octets
pub behind : (P : List ℕ → Type 0) (octets : List ℕ) (at : ℕ) → P (take (length octets - at) (drop at octets)) → P (drop at octets)
behind P octets at h = subst P (take_rest octets at) h
