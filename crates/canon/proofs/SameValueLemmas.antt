-- Lemmas on values that are the same: they conform alike, and those that are the same as a third are the same.
use Rattle.std.specs.List.{AllByRecursion, AllZip}
use Rattle.std.proofs.Common.{ℕ, zero, suc, List, [], ◌∷◌, sym, ◌∙◌, subst}
use Rattle.std.proofs.lemmas.List.Sorted.{IsPermutation-trans}
use Rattle.types.specs.Shape.{Val, Slots, no_slot, absent, present, listed, Requirement, required, optional, default, Shape, Components, no_component, component, Alternatives, no_alternative, alternative}
use Rattle.types.specs.Conforms.{Conforms, SlotsConform, AlternativeConforms, DiffersFromDefault}
use Rattle.types.specs.WellFormed.{nodes_of, nodes_of_components, nodes_of_alternatives, HasGoodDefaults, AreGoodDefaults, IsGoodDefault}
use Rattle.types.specs.Same.{IsSame, AreSameSlots, IsSameAlternative}
use Rattle.types.proofs.BeginningLemmas.{all_permutation}
use Rattle.types.proofs.ListLemmas.{all_append}
use Rattle.types.proofs.SameLemmas.{same_is_equal}
use Rattle.types.proofs.ZipLemmas.{zip_trans, zip_permutes}

-- what holds of each element of a list holds of each of a related one
pub all_related : {X Y : Type 0} (R : X → Y → Type 0) (P : X → Type 0) (Q : Y → Type 0) → ((x : X) (y : Y) → R x y → P x → Q y) → (xs : List X) (ys : List Y) → AllZip R xs ys → AllByRecursion P xs → AllByRecursion Q ys
all_related R P Q f [] [] h g = tt
all_related R P Q f [] (y ∷ ys) h g = elim h [ ]
all_related R P Q f (x ∷ xs) [] h g = elim h [ ]
all_related R P Q f (x ∷ xs) (y ∷ ys) h g = (f x y h.0 g.0, all_related R P Q f xs ys h.1 g.1)

differs_moves : (type : Shape) (requirement : Requirement) (v w : Val) → IsGoodDefault type requirement → IsSame type v w → DiffersFromDefault requirement v → DiffersFromDefault requirement w
differs_moves type required v w good same h = tt
differs_moves type optional v w good same h = tt
differs_moves type (default value) v w good same h = λ e. h (same_is_equal type good.0 v w same ∙ e)

mutual
  pub same_conforms : (type : Shape) (v w : Val) → AllByRecursion HasGoodDefaults (nodes_of type) → IsSame type v w → Conforms type v → Conforms type w
  same_conforms (Shape.simple tag type) v w good same h = subst (Conforms (Shape.simple tag type)) same h
  same_conforms (Shape.string tag type) v w good same h = subst (Conforms (Shape.string tag type)) same h
  same_conforms (Shape.sequence tag components) (Val.fields vs) (Val.fields ws) good same h = slots_conform components vs ws good.0 good.1 same h
  same_conforms (Shape.sequence tag components) (Val.fields vs) _ good same h = elim same [ ]
  same_conforms (Shape.sequence tag components) _ w good same h = elim same [ ]
  same_conforms (Shape.set tag components) (Val.fields vs) (Val.fields ws) good same h = slots_conform components vs ws good.0 good.1 same h
  same_conforms (Shape.set tag components) (Val.fields vs) _ good same h = elim same [ ]
  same_conforms (Shape.set tag components) _ w good same h = elim same [ ]
  same_conforms (Shape.sequence_of tag type) (Val.items vs) (Val.items ws) good same h =
      all_related (IsSame type) (Conforms type) (Conforms type) (λ x y s c. same_conforms type x y good.1 s c) (listed vs) (listed ws) same h
  same_conforms (Shape.sequence_of tag type) (Val.items vs) _ good same h = elim same [ ]
  same_conforms (Shape.sequence_of tag type) _ w good same h = elim same [ ]
  same_conforms (Shape.set_of tag type) (Val.items vs) (Val.items ws) good same h =
      all_related (IsSame type) (Conforms type) (Conforms type) (λ x y s c. same_conforms type x y good.1 s c) same.order (listed ws) same.each
      (all_permutation (Conforms type) (listed vs) same.order same.permutes h)
  same_conforms (Shape.set_of tag type) (Val.items vs) _ good same h = elim same [ ]
  same_conforms (Shape.set_of tag type) _ w good same h = elim same [ ]
  same_conforms (Shape.choice alternatives) (Val.chosen i v) (Val.chosen j w) good same h =
      subst (λ k. AlternativeConforms alternatives k w) same.0 (alternative_conforms alternatives i v w good.1 same.1 h)
  same_conforms (Shape.choice alternatives) (Val.chosen i v) _ good same h = elim same [ ]
  same_conforms (Shape.choice alternatives) _ w good same h = elim same [ ]
  same_conforms (Shape.explicit tag type) v w good same h = same_conforms type v w good.1 same h

  slots_conform : (components : Components) (vs ws : Slots) → AreGoodDefaults components → AllByRecursion HasGoodDefaults (nodes_of_components components) → AreSameSlots components vs ws → SlotsConform components vs → SlotsConform components ws
  slots_conform no_component no_slot no_slot goods good same h = tt
  slots_conform no_component no_slot _ goods good same h = elim same [ ]
  slots_conform no_component _ ws goods good same h = elim same [ ]
  slots_conform (component name type requirement others) no_slot ws goods good same h = elim same [ ]
  slots_conform (component name type requirement others) (absent vs) (absent ws) goods good same h =
      (h.0, slots_conform others vs ws goods.1 (all_append HasGoodDefaults (nodes_of type) (nodes_of_components others) good).1 same h.1)
  slots_conform (component name type requirement others) (absent vs) _ goods good same h = elim same [ ]
  slots_conform (component name type requirement others) (present v vs) (present w ws) goods good same h =
      let parts = all_append HasGoodDefaults (nodes_of type) (nodes_of_components others) good in
      (same_conforms type v w parts.0 same.0 h.0, differs_moves type requirement v w goods.0 same.0 h.1, slots_conform others vs ws goods.1 parts.1 same.1 h.2)
  slots_conform (component name type requirement others) (present v vs) _ goods good same h = elim same [ ]

  alternative_conforms : (alternatives : Alternatives) (which : ℕ) (v w : Val) → AllByRecursion HasGoodDefaults (nodes_of_alternatives alternatives) → IsSameAlternative alternatives which v w → AlternativeConforms alternatives which v → AlternativeConforms alternatives which w
  alternative_conforms no_alternative which v w good same h = elim same [ ]
  alternative_conforms (alternative name type others) zero v w good same h = same_conforms type v w (all_append HasGoodDefaults (nodes_of type) (nodes_of_alternatives others) good).0 same h
  alternative_conforms (alternative name type others) (suc which) v w good same h = alternative_conforms others which v w (all_append HasGoodDefaults (nodes_of type) (nodes_of_alternatives others) good).1 same h

mutual
  pub same_trans : (type : Shape) (u v w : Val) → IsSame type u v → IsSame type v w → IsSame type u w
  same_trans (Shape.simple tag type) u v w h g = h ∙ g
  same_trans (Shape.string tag type) u v w h g = h ∙ g
  same_trans (Shape.sequence tag components) (Val.fields us) (Val.fields vs) (Val.fields ws) h g = slots_trans components us vs ws h g
  same_trans (Shape.sequence tag components) (Val.fields us) (Val.fields vs) _ h g = elim g [ ]
  same_trans (Shape.sequence tag components) (Val.fields us) _ w h g = elim h [ ]
  same_trans (Shape.sequence tag components) _ v w h g = elim h [ ]
  same_trans (Shape.set tag components) (Val.fields us) (Val.fields vs) (Val.fields ws) h g = slots_trans components us vs ws h g
  same_trans (Shape.set tag components) (Val.fields us) (Val.fields vs) _ h g = elim g [ ]
  same_trans (Shape.set tag components) (Val.fields us) _ w h g = elim h [ ]
  same_trans (Shape.set tag components) _ v w h g = elim h [ ]
  same_trans (Shape.sequence_of tag type) (Val.items us) (Val.items vs) (Val.items ws) h g =
      zip_trans (IsSame type) (IsSame type) (IsSame type) (λ x y z p q. same_trans type x y z p q) (listed us) (listed vs) (listed ws) h g
  same_trans (Shape.sequence_of tag type) (Val.items us) (Val.items vs) _ h g = elim g [ ]
  same_trans (Shape.sequence_of tag type) (Val.items us) _ w h g = elim h [ ]
  same_trans (Shape.sequence_of tag type) _ v w h g = elim h [ ]
  same_trans (Shape.set_of tag type) (Val.items us) (Val.items vs) (Val.items ws) h g =
      let moved = zip_permutes (IsSame type) h.order (listed vs) g.order h.each g.permutes in
      record {
        order = moved.0;
        permutes = IsPermutation-trans (listed us) h.order moved.0 h.permutes moved.1;
        each = zip_trans (IsSame type) (IsSame type) (IsSame type) (λ x y z p q. same_trans type x y z p q) moved.0 g.order (listed ws) moved.2 g.each;
      }
  same_trans (Shape.set_of tag type) (Val.items us) (Val.items vs) _ h g = elim g [ ]
  same_trans (Shape.set_of tag type) (Val.items us) _ w h g = elim h [ ]
  same_trans (Shape.set_of tag type) _ v w h g = elim h [ ]
  same_trans (Shape.choice alternatives) (Val.chosen i u) (Val.chosen j v) (Val.chosen k w) h g =
      (h.0 ∙ g.0, alternative_trans alternatives i u v w h.1 (subst (λ n. IsSameAlternative alternatives n v w) (sym h.0) g.1))
  same_trans (Shape.choice alternatives) (Val.chosen i u) (Val.chosen j v) _ h g = elim g [ ]
  same_trans (Shape.choice alternatives) (Val.chosen i u) _ w h g = elim h [ ]
  same_trans (Shape.choice alternatives) _ v w h g = elim h [ ]
  same_trans (Shape.explicit tag type) u v w h g = same_trans type u v w h g

  slots_trans : (components : Components) (us vs ws : Slots) → AreSameSlots components us vs → AreSameSlots components vs ws → AreSameSlots components us ws
  slots_trans no_component no_slot no_slot no_slot h g = tt
  slots_trans no_component no_slot no_slot _ h g = elim g [ ]
  slots_trans no_component no_slot _ ws h g = elim h [ ]
  slots_trans no_component _ vs ws h g = elim h [ ]
  slots_trans (component name type requirement others) no_slot vs ws h g = elim h [ ]
  slots_trans (component name type requirement others) (absent us) (absent vs) (absent ws) h g = slots_trans others us vs ws h g
  slots_trans (component name type requirement others) (absent us) (absent vs) _ h g = elim g [ ]
  slots_trans (component name type requirement others) (absent us) _ ws h g = elim h [ ]
  slots_trans (component name type requirement others) (present u us) (present v vs) (present w ws) h g = (same_trans type u v w h.0 g.0, slots_trans others us vs ws h.1 g.1)
  slots_trans (component name type requirement others) (present u us) (present v vs) _ h g = elim g [ ]
  slots_trans (component name type requirement others) (present u us) _ ws h g = elim h [ ]

  alternative_trans : (alternatives : Alternatives) (which : ℕ) (u v w : Val) → IsSameAlternative alternatives which u v → IsSameAlternative alternatives which v w → IsSameAlternative alternatives which u w
  alternative_trans no_alternative which u v w h g = elim h [ ]
  alternative_trans (alternative name type others) zero u v w h g = same_trans type u v w h g
  alternative_trans (alternative name type others) (suc which) u v w h g = alternative_trans others which u v w h g
