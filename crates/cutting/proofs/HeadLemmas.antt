-- Lemmas on heads: octets begin with at most one.
use Rattle.std.proofs.Common.{◌≡◌, ℕ, List, [], ◌∷◌, ◌++◌, Bool, true, false, inl, refl, sym, ap, ◌∙◌, arith, append_assoc}
use Rattle.octets.specs.declared.tag.Class.TheVariants.{Universal}
use Rattle.octets.specs.declared.tag.Tag.{Tag}
use Rattle.octets.specs.Identifier.{IsIdentifier}
use Rattle.octets.proofs.IdentifierLemmas.{identifier_unique}
use Rattle.octets.proofs.LengthLemmas.{length_unique}
use Rattle.types.specs.FirstTags.{IsUsable}
use Rattle.types.proofs.NestingLemmas.{no_length-128}
use Rattle.cutting.specs.declared.found.Opened.{Opened}
use Rattle.cutting.specs.declared.found.Opened.TheVariants.{Definite, Indefinite, End}
use Rattle.cutting.specs.Heads.{IsHead, IsDefiniteHead, IsIndefiniteHead}

-- the tag of end-of-contents octets
abbrev pub end_tag : Tag
end_tag = record { class = Universal; number = 0 }

pub end_identifier : IsIdentifier end_tag false (0 ∷ [])
end_identifier = inl record { low = omega arith; spelt = refl }

pub not_end : (t : Tag) → IsUsable t → t ≡ end_tag → ⊥
not_end t usable same = usable (ap (λ x. x.class) same) (ap (λ x. x.number) same)

-- an identifier that can begin an encoding does not begin as they do
pub no_end : (t : Tag) (j k : Bool) (a b r s : List ℕ) → IsUsable t → IsIdentifier t j a → IsIdentifier end_tag k b → a ++ r ≡ b ++ s → ⊥
no_end t j k a b r s usable f g whole = not_end t usable (identifier_unique t end_tag j k a b r s f g whole).tag

pub record IsSameHead (o p : Opened) (a b r s : List ℕ) : Type 0 where
  pub opened : o ≡ p
  pub octets : a ≡ b
  pub rest : r ≡ s

parts_of_definite : (n : ℕ) (a r : List ℕ) → (h : IsDefiniteHead n a) → a ++ r ≡ h.identifier ++ (h.size ++ r)
parts_of_definite n a r h = ap (λ x. x ++ r) h.joined ∙ append_assoc h.identifier h.size r

parts_of_indefinite : (a r : List ℕ) → (h : IsIndefiniteHead a) → a ++ r ≡ h.identifier ++ (128 ∷ r)
parts_of_indefinite a r h = ap (λ x. x ++ r) h.joined ∙ append_assoc h.identifier (128 ∷ []) r

apart : (n : ℕ) (a b r s : List ℕ) → IsDefiniteHead n a → IsIndefiniteHead b → a ++ r ≡ b ++ s → ⊥
apart n a b r s f g whole =
    let parts = sym (parts_of_definite n a r f) ∙ (whole ∙ parts_of_indefinite b s g) in
    let same = identifier_unique f.tag g.tag f.constructed true f.identifier g.identifier (f.size ++ r) (128 ∷ s) f.tagged g.tagged parts in
    no_length-128 n f.size r s f.sized (sym same.rest)

definite_no_end : (n : ℕ) (a r s : List ℕ) → IsDefiniteHead n a → a ++ r ≡ 0 ∷ 0 ∷ s → ⊥
definite_no_end n a r s f whole = no_end f.tag f.constructed false f.identifier (0 ∷ []) (f.size ++ r) (0 ∷ s) f.usable f.tagged end_identifier (sym (parts_of_definite n a r f) ∙ whole)

indefinite_no_end : (a r s : List ℕ) → IsIndefiniteHead a → a ++ r ≡ 0 ∷ 0 ∷ s → ⊥
indefinite_no_end a r s f whole = no_end f.tag true false f.identifier (0 ∷ []) (128 ∷ r) (0 ∷ s) f.usable f.tagged end_identifier (sym (parts_of_indefinite a r f) ∙ whole)

end_rest : (a b : List ℕ) (s : List ℕ) → b ≡ 0 ∷ 0 ∷ [] → a ≡ b ++ s → a ≡ 0 ∷ 0 ∷ s
end_rest a b s is whole = whole ∙ ap (λ x. x ++ s) is

pub head_unique : (o p : Opened) (a b r s : List ℕ) → IsHead o a → IsHead p b → a ++ r ≡ b ++ s → IsSameHead o p a b r s
head_unique (Definite m) (Definite n) a b r s f g whole =
    let parts = sym (parts_of_definite m a r f) ∙ (whole ∙ parts_of_definite n b s g) in
    let same = identifier_unique f.tag g.tag f.constructed g.constructed f.identifier g.identifier (f.size ++ r) (g.size ++ s) f.tagged g.tagged parts in
    let sizes = length_unique m n f.size g.size r s f.sized g.sized same.rest in
    let octets : f.identifier ++ f.size ≡ g.identifier ++ g.size = ap (λ x. x ++ f.size) same.octets ∙ ap (λ x. g.identifier ++ x) sizes.octets in
    record { opened = ap Definite sizes.value; octets = f.joined ∙ (octets ∙ sym g.joined); rest = sizes.rest }
head_unique (Definite m) Indefinite a b r s f g whole = absurd (apart m a b r s f g whole)
head_unique (Definite m) End a b r s f g whole = absurd (definite_no_end m a r s f (end_rest (a ++ r) b s g whole))
head_unique Indefinite (Definite n) a b r s f g whole = absurd (apart n b a s r g f (sym whole))
head_unique Indefinite Indefinite a b r s f g whole =
    let parts = sym (parts_of_indefinite a r f) ∙ (whole ∙ parts_of_indefinite b s g) in
    let same = identifier_unique f.tag g.tag true true f.identifier g.identifier (128 ∷ r) (128 ∷ s) f.tagged g.tagged parts in
    let rest = same.rest in
    record { opened = refl; octets = f.joined ∙ (ap (λ x. x ++ (128 ∷ [])) same.octets ∙ sym g.joined); rest = cc rest }
head_unique Indefinite End a b r s f g whole = absurd (indefinite_no_end a r s f (end_rest (a ++ r) b s g whole))
head_unique End (Definite n) a b r s f g whole = absurd (definite_no_end n b s r g (end_rest (b ++ s) a r f (sym whole)))
head_unique End Indefinite a b r s f g whole = absurd (indefinite_no_end b s r g (end_rest (b ++ s) a r f (sym whole)))
head_unique End End a b r s f g whole =
    let both : 0 ∷ 0 ∷ r ≡ 0 ∷ 0 ∷ s = sym (ap (λ x. x ++ r) f) ∙ (whole ∙ ap (λ x. x ++ s) g) in
    record { opened = refl; octets = f ∙ sym g; rest = cc both }
