-- The machine values of a `Kept`. Assumes `Logic`.
use Rattle.std.proofs.Common.{◌≡◌, List, [], ◌∷◌, ◌++◌, refl, ap, ◌∙◌, Option, None, Some}
use Rattle.std.specs.Prelude.{◌≢◌}
use seplogic.Ra.Ura.{Ura}
use mir.Val.{Val, vstruct, of_list}
use types.Logic.{Logic}
use types.Kit.{Item, Goal, Seq, Step, step, ‵, ◌$◌, drop, fsplit, fjoin, fpick, fpack, feq_i, feq_l}
use denote.RattleType.{RattleType, Valss}
use denote.Builtin.{RawPtr}
use denote.RawPtr.{Ptr, ptr_val}
use denote.Steps.{nothing}
use denote.Struct.Struct.{within}
use denote.Struct.Owning.{shape}
use Rattle.types.specs.declared.ty.Ty.{Ty}
use Rattle.asn1x_c.specs.Kept.{kept_owns}
use Rattle.asn1x_c.specs.contracts.kept.Kept as kept

abbrev pub Kept : RattleType
Kept = kept.the_row

abbrev pub lone_ptr : Ptr → Val
lone_ptr p = vstruct (of_list (ptr_val p ∷ []))

module _ {M : Type 1} {𝓤 : Ura M} {𝓛 : Logic 𝓤} {K : Type 0} {Γ : List (Item 𝓤)} {G : Goal 𝓤 𝓛.H} where
  pub kept_out : K → (d : Kept.Denot) (vs : List Val) → (vs ≡ lone_ptr d.at ∷ [] → Seq K 𝓛 (‵ (kept_owns d.at d.ty) ∷ Γ) G) → Seq K 𝓛 (‵ (Kept.own_val d vs) ∷ Γ) G
  kept_out t d vs k =
      fsplit t $ fpick t (λ vss. fsplit t $ feq_l t (λ ev. fsplit t $ feq_l t (λ ep. drop t $ k (ev ∙ ap (λ (ps : List Val). vstruct (of_list (ps ++ [])) ∷ []) ep))))

  pub kept_in : K → (p : Ptr) (ty : Option Ty) → Step K 𝓛 (‵ (Kept.own_val (record { at = p; ty = ty }) (lone_ptr p ∷ [])) ∷ Γ) G (‵ (kept_owns p ty) ∷ Γ) G
  kept_in t p ty = step (λ s. let v : Val = lone_ptr p in
      nothing t $ feq_i t (List Val) (ptr_val p ∷ []) (ptr_val p ∷ []) refl $ fjoin t $ feq_i t (List Val) (v ∷ []) (v ∷ []) refl $ fjoin t $
      fpack t (Valss (RawPtr ∷ [])) (within (shape kept.the_type) (p, tt) (v ∷ [])) (ptr_val p ∷ [], tt) $ fjoin t $ s)

-- what is there
pub there : {X : Type 0} (o : Option X) → o ≢ None → (x : X) × (o ≡ Some x)
there (Some x) is = (x, refl)
there None is = absurd (is refl)
