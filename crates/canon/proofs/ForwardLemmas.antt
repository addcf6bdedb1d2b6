-- Lemmas on the alternatives of a CHOICE.
use Rattle.std.proofs.Common.{◌≡◌, ◌∙◌, ℕ, List, get_or, sym, ap, subst}
use Rattle.octets.specs.Rule.{Rule}
use Rattle.types.specs.Conforms.{Conforms}
use Rattle.types.specs.Encoding.{IsEncoding}
use Rattle.types.specs.Shape.{Shape, Val}
use Rattle.types.specs.View.{ty_view, alternatives_view}
use Rattle.types.specs.declared.ty.Alternative.{Alternative}
use Rattle.canon.specs.Writes.{IsWritable}
use Rattle.canon.proofs.AlikeLemmas.{HoldAlike, alike-chain}
use Rattle.canon.proofs.NodeLemmas.{IsChosenOf, choice_alike}

-- an alternative, the value chosen of it, and its encodings
pub record IsChosenIn (rule : Rule) (shape : Shape) (v : Val) (type : Shape) (picked : Val) : Type 0 where
  pub writable : IsWritable type picked
  pub alike : HoldAlike (IsEncoding rule type picked) (IsEncoding rule shape v)

pub chosen_in_choice : (rule : Rule) (alternatives : List Alternative) (shape : Shape) (v : Val) (which : ℕ) (picked : Val) (a : Alternative) → shape ≡ Shape.choice (alternatives_view alternatives) → (parts : IsChosenOf alternatives v)
    → (which ≡ parts.which) × (picked ≡ parts.value) → a ≡ get_or alternatives which a → IsChosenIn rule shape v (ty_view a.ty) picked
chosen_in_choice rule alternatives shape v which picked a is parts told place =
    let at : a ≡ get_or alternatives parts.which a = place ∙ ap (λ k. get_or alternatives k a) told.0 in
    let alike = alike-chain _ _ _ (parts.alternative.encodes rule a at) (choice_alike rule (alternatives_view alternatives) parts.which parts.value) in
    record {
      writable = record { nodes = parts.alternative.nodes a at; conforms = subst (Conforms (ty_view a.ty)) (sym told.1) (parts.alternative.conforms a at) };
      alike = subst (λ s. HoldAlike (IsEncoding rule (ty_view a.ty) picked) (IsEncoding rule s v)) (sym is)
          (subst (λ w. HoldAlike (IsEncoding rule (ty_view a.ty) picked) (IsEncoding rule (Shape.choice (alternatives_view alternatives)) w)) (sym parts.is)
          (subst (λ w. HoldAlike (IsEncoding rule (ty_view a.ty) w) (IsEncoding rule (Shape.choice (alternatives_view alternatives)) (Val.chosen parts.which parts.value))) (sym told.1) alike));
    }
