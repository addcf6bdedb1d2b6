-- Lemmas on values that are the same: so are their encodings.
use Rattle.std.specs.List.{AllByRecursion, AllZip}
use Rattle.std.proofs.Common.{◌≡◌, ℕ, zero, suc, List, Option, refl, sym, ap, ◌∙◌, subst, subst₂}
use Rattle.std.proofs.lemmas.List.Sorted.{IsPermutation-sym, IsPermutation-trans}
use Rattle.octets.specs.Rule.{Rule}
use Rattle.types.specs.Shape.{Val, Slots, no_slot, absent, present, listed, Requirement, required, optional, default, Shape, Components, no_component, component, Alternatives, no_alternative, alternative}
use Rattle.types.specs.Conforms.{DiffersFromDefault}
use Rattle.types.specs.WellFormed.{nodes_of, nodes_of_components, nodes_of_alternatives, HasGoodDefaults, AreGoodDefaults, IsGoodDefault, TakesDefault}
use Rattle.types.specs.Same.{IsSame, AreSameSlots, IsSameAlternative}
use Rattle.types.specs.Encoding.{IsEncoding, AreSlotEncodings, IsAlternativeEncoding}
use Rattle.types.specs.Laws.{SameValuesHaveTheSameEncodings}
use Rattle.types.proofs.ListLemmas.{all_append}
use Rattle.types.proofs.ZipLemmas.{zip_map, zip_trans, zip_flip, zip_permutes}
use Rattle.types.proofs.SlotLemmas.{AreFilled, filled, unfilled}

-- values of a type that takes a default are the same only where they are equal
pub same_is_equal : (type : Shape) → TakesDefault type → (v w : Val) → IsSame type v w → v ≡ w
same_is_equal (Shape.simple tag type) takes v w h = h
same_is_equal (Shape.string tag type) takes v w h = h
same_is_equal (Shape.sequence tag components) takes v w h = elim takes [ ]
same_is_equal (Shape.set tag components) takes v w h = elim takes [ ]
same_is_equal (Shape.sequence_of tag type) takes v w h = elim takes [ ]
same_is_equal (Shape.set_of tag type) takes v w h = elim takes [ ]
same_is_equal (Shape.choice alternatives) takes v w h = elim takes [ ]
same_is_equal (Shape.explicit tag type) takes v w h = same_is_equal type takes v w h

differs_moves : (type : Shape) (requirement : Requirement) (v w : Val) → IsGoodDefault type requirement → IsSame type v w → DiffersFromDefault requirement v → DiffersFromDefault requirement w
differs_moves type required v w good same h = tt
differs_moves type optional v w good same h = tt
differs_moves type (default value) v w good same h = λ e. h (same_is_equal type good.0 v w same ∙ e)

mutual
  pub same_sym : (type : Shape) (v w : Val) → IsSame type v w → IsSame type w v
  same_sym (Shape.simple tag type) v w h = sym h
  same_sym (Shape.string tag type) v w h = sym h
  same_sym (Shape.sequence tag components) (Val.fields vs) (Val.fields ws) h = slots_sym components vs ws h
  same_sym (Shape.sequence tag components) (Val.fields vs) _ h = elim h [ ]
  same_sym (Shape.sequence tag components) _ w h = elim h [ ]
  same_sym (Shape.set tag components) (Val.fields vs) (Val.fields ws) h = slots_sym components vs ws h
  same_sym (Shape.set tag components) (Val.fields vs) _ h = elim h [ ]
  same_sym (Shape.set tag components) _ w h = elim h [ ]
  same_sym (Shape.sequence_of tag type) (Val.items vs) (Val.items ws) h =
      zip_map (λ y x. IsSame type x y) (IsSame type) (λ y x s. same_sym type x y s) (listed ws) (listed vs) (zip_flip (IsSame type) (listed vs) (listed ws) h)
  same_sym (Shape.sequence_of tag type) (Val.items vs) _ h = elim h [ ]
  same_sym (Shape.sequence_of tag type) _ w h = elim h [ ]
  same_sym (Shape.set_of tag type) (Val.items vs) (Val.items ws) h =
      let flipped = zip_map (λ y x. IsSame type x y) (IsSame type) (λ y x s. same_sym type x y s) (listed ws) h.order (zip_flip (IsSame type) h.order (listed ws) h.each) in
      let moved = zip_permutes (IsSame type) (listed ws) h.order (listed vs) flipped (IsPermutation-sym (listed vs) h.order h.permutes) in
      record { order = moved.0; permutes = moved.1; each = moved.2 }
  same_sym (Shape.set_of tag type) (Val.items vs) _ h = elim h [ ]
  same_sym (Shape.set_of tag type) _ w h = elim h [ ]
  same_sym (Shape.choice alternatives) (Val.chosen i v) (Val.chosen j w) h =
      (sym h.0, alternative_sym alternatives j v w (subst (λ k. IsSameAlternative alternatives k v w) h.0 h.1))
  same_sym (Shape.choice alternatives) (Val.chosen i v) _ h = elim h [ ]
  same_sym (Shape.choice alternatives) _ w h = elim h [ ]
  same_sym (Shape.explicit tag type) v w h = same_sym type v w h

  pub slots_sym : (components : Components) (vs ws : Slots) → AreSameSlots components vs ws → AreSameSlots components ws vs
  slots_sym no_component no_slot no_slot h = tt
  slots_sym no_component no_slot _ h = elim h [ ]
  slots_sym no_component _ ws h = elim h [ ]
  slots_sym (component name type requirement others) no_slot ws h = elim h [ ]
  slots_sym (component name type requirement others) (absent vs) (absent ws) h = slots_sym others vs ws h
  slots_sym (component name type requirement others) (absent vs) _ h = elim h [ ]
  slots_sym (component name type requirement others) (present v vs) (present w ws) h = (same_sym type v w h.0, slots_sym others vs ws h.1)
  slots_sym (component name type requirement others) (present v vs) _ h = elim h [ ]

  pub alternative_sym : (alternatives : Alternatives) (which : ℕ) (v w : Val) → IsSameAlternative alternatives which v w → IsSameAlternative alternatives which w v
  alternative_sym no_alternative which v w h = elim h [ ]
  alternative_sym (alternative name type others) zero v w h = same_sym type v w h
  alternative_sym (alternative name type others) (suc which) v w h = alternative_sym others which v w h

mutual
  -- what one value has as an encoding, each value that is the same has too
  pub encoding_moves : (rule : Rule) (type : Shape) (v w : Val) (octets : List ℕ) → AllByRecursion HasGoodDefaults (nodes_of type) → IsSame type v w → IsEncoding rule type v octets → IsEncoding rule type w octets
  encoding_moves rule (Shape.simple tag type) v w octets good same h = subst (λ x. IsEncoding rule (Shape.simple tag type) x octets) same h
  encoding_moves rule (Shape.string tag type) v w octets good same h = subst (λ x. IsEncoding rule (Shape.string tag type) x octets) same h
  encoding_moves rule (Shape.sequence tag components) (Val.fields vs) (Val.fields ws) octets good same h =
      let is : Val.fields vs ≡ Val.fields h.slots = h.is in
      let slots : vs ≡ h.slots = cc is in
      let each = filled rule components vs h.encodings (subst (λ s. AreSlotEncodings rule components s h.encodings) (sym slots) h.each) in
      record { slots = ws; is = refl; encodings = h.encodings; each = unfilled rule components ws h.encodings (slots_move rule components vs ws h.encodings good.0 good.1 same each); whole = h.whole }
  encoding_moves rule (Shape.sequence tag components) (Val.fields vs) _ octets good same h = elim same [ ]
  encoding_moves rule (Shape.sequence tag components) _ w octets good same h = elim same [ ]
  encoding_moves rule (Shape.set tag components) (Val.fields vs) (Val.fields ws) octets good same h =
      let is : Val.fields vs ≡ Val.fields h.slots = h.is in
      let slots : vs ≡ h.slots = cc is in
      let each = filled rule components vs h.encodings (subst (λ s. AreSlotEncodings rule components s h.encodings) (sym slots) h.each) in
      record { slots = ws; is = refl; encodings = h.encodings; each = unfilled rule components ws h.encodings (slots_move rule components vs ws h.encodings good.0 good.1 same each); order = h.order; permutes = h.permutes; ascends = h.ascends; whole = h.whole }
  encoding_moves rule (Shape.set tag components) (Val.fields vs) _ octets good same h = elim same [ ]
  encoding_moves rule (Shape.set tag components) _ w octets good same h = elim same [ ]
  encoding_moves rule (Shape.sequence_of tag type) (Val.items vs) (Val.items ws) octets good same h =
      let is : Val.items vs ≡ Val.items h.items = h.is in
      let items : vs ≡ h.items = cc is in
      let each = subst (λ s. AllZip (IsEncoding rule type) (listed s) h.encodings) (sym items) h.each in
      let moved = zip_trans (λ y x. IsSame type x y) (IsEncoding rule type) (IsEncoding rule type) (λ y x c s f. encoding_moves rule type x y c good.1 s f) (listed ws) (listed vs) h.encodings (zip_flip (IsSame type) (listed vs) (listed ws) same) each in
      record { items = ws; is = refl; encodings = h.encodings; each = moved; whole = h.whole }
  encoding_moves rule (Shape.sequence_of tag type) (Val.items vs) _ octets good same h = elim same [ ]
  encoding_moves rule (Shape.sequence_of tag type) _ w octets good same h = elim same [ ]
  encoding_moves rule (Shape.set_of tag type) (Val.items vs) (Val.items ws) octets good same h =
      let is : Val.items vs ≡ Val.items h.items = h.is in
      let items : vs ≡ h.items = cc is in
      let each = subst (λ s. AllZip (IsEncoding rule type) (listed s) h.encodings) (sym items) h.each in
      let ordered = zip_permutes (λ c x. IsEncoding rule type x c) h.encodings (listed vs) same.order (zip_flip (IsEncoding rule type) (listed vs) h.encodings each) same.permutes in
      let moved = zip_trans (λ y x. IsSame type x y) (IsEncoding rule type) (IsEncoding rule type) (λ y x c s f. encoding_moves rule type x y c good.1 s f) (listed ws) same.order ordered.0 (zip_flip (IsSame type) same.order (listed ws) same.each) (zip_flip (λ c x. IsEncoding rule type x c) ordered.0 same.order ordered.2) in
      record { items = ws; is = refl; encodings = ordered.0; each = moved; order = h.order; permutes = IsPermutation-trans ordered.0 h.encodings h.order (IsPermutation-sym h.encodings ordered.0 ordered.1) h.permutes; ascends = h.ascends; whole = h.whole }
  encoding_moves rule (Shape.set_of tag type) (Val.items vs) _ octets good same h = elim same [ ]
  encoding_moves rule (Shape.set_of tag type) _ w octets good same h = elim same [ ]
  encoding_moves rule (Shape.choice alternatives) (Val.chosen i v) (Val.chosen j w) octets good same h =
      let is : Val.chosen i v ≡ Val.chosen h.which h.value = h.is in
      let which : i ≡ h.which = cc is in
      let value : v ≡ h.value = cc is in
      let chosen = subst₂ (λ k x. IsAlternativeEncoding rule alternatives k x octets) (sym which) (sym value) h.chosen in
      record { which = i; value = w; is = ap (λ k. Val.chosen k w) (sym same.0); chosen = alternative_moves rule alternatives i v w octets good.1 same.1 chosen }
  encoding_moves rule (Shape.choice alternatives) (Val.chosen i v) _ octets good same h = elim same [ ]
  encoding_moves rule (Shape.choice alternatives) _ w octets good same h = elim same [ ]
  encoding_moves rule (Shape.explicit tag type) v w octets good same h = record { inner = h.inner; encodes = encoding_moves rule type v w h.inner good.1 same h.encodes; whole = h.whole }

  pub slots_move : (rule : Rule) (components : Components) (vs ws : Slots) (encodings : List (Option (List ℕ))) → AreGoodDefaults components → AllByRecursion HasGoodDefaults (nodes_of_components components)
      → AreSameSlots components vs ws → AreFilled rule components vs encodings → AreFilled rule components ws encodings
  slots_move rule no_component vs no_slot encodings goods good same AreFilled.no_more = AreFilled.no_more
  slots_move rule no_component vs _ encodings goods good same AreFilled.no_more = elim same [ ]
  slots_move rule (component name type requirement others) vs (absent ws) encodings goods good same (AreFilled.left_out {slots = vs'} {encodings = rest} n t r m h) =
      AreFilled.left_out name type requirement m (slots_move rule others vs' ws rest goods.1 (all_append HasGoodDefaults (nodes_of type) (nodes_of_components others) good).1 same h)
  slots_move rule (component name type requirement others) vs _ encodings goods good same (AreFilled.left_out {slots = vs'} {encodings = rest} n t r m h) = elim same [ ]
  slots_move rule (component name type requirement others) vs (absent ws) encodings goods good same (AreFilled.spelt_out {slots = vs'} {encodings = rest} n t value octets e f h) =
      AreFilled.spelt_out name type value octets e f (slots_move rule others vs' ws rest goods.1 (all_append HasGoodDefaults (nodes_of type) (nodes_of_components others) good).1 same h)
  slots_move rule (component name type requirement others) vs _ encodings goods good same (AreFilled.spelt_out {slots = vs'} {encodings = rest} n t value octets e f h) = elim same [ ]
  slots_move rule (component name type requirement others) vs (present w ws) encodings goods good same (AreFilled.stands {slots = vs'} {encodings = rest} n t r value octets f d h) =
      let parts = all_append HasGoodDefaults (nodes_of type) (nodes_of_components others) good in
      AreFilled.stands name type requirement w octets (encoding_moves rule type value w octets parts.0 same.0 f) (differs_moves type requirement value w goods.0 same.0 d) (slots_move rule others vs' ws rest goods.1 parts.1 same.1 h)
  slots_move rule (component name type requirement others) vs _ encodings goods good same (AreFilled.stands {slots = vs'} {encodings = rest} n t r value octets f d h) = elim same [ ]

  pub alternative_moves : (rule : Rule) (alternatives : Alternatives) (which : ℕ) (v w : Val) (octets : List ℕ) → AllByRecursion HasGoodDefaults (nodes_of_alternatives alternatives)
      → IsSameAlternative alternatives which v w → IsAlternativeEncoding rule alternatives which v octets → IsAlternativeEncoding rule alternatives which w octets
  alternative_moves rule no_alternative which v w octets good same h = elim h [ ]
  alternative_moves rule (alternative name type others) zero v w octets good same h =
      encoding_moves rule type v w octets (all_append HasGoodDefaults (nodes_of type) (nodes_of_alternatives others) good).0 same h
  alternative_moves rule (alternative name type others) (suc which) v w octets good same h =
      alternative_moves rule others which v w octets (all_append HasGoodDefaults (nodes_of type) (nodes_of_alternatives others) good).1 same h

pub same_encodings : SameValuesHaveTheSameEncodings
same_encodings rule shape v w octets well same =
    (λ h. encoding_moves rule shape v w octets well.defaults same h, λ h. encoding_moves rule shape w v octets well.defaults (same_sym shape v w same) h)
