-- Only a value of the type has an encoding.
use Rattle.std.proofs.Common.{ℕ, zero, suc, List, Option, sym, subst}
use Rattle.octets.specs.declared.tag.Tag.{Tag}
use Rattle.octets.specs.Rule.{Rule}
use Rattle.types.specs.Shape.{StringType, Val, Slots, listed, Shape, Components, no_component, component, Alternatives, no_alternative, alternative}
use Rattle.types.specs.Conforms.{Conforms, SlotsConform, AlternativeConforms}
use Rattle.types.specs.Encoding.{IsEncoding, IsEncodingOfString, IsAlternativeEncoding}
use Rattle.types.specs.Laws.{EncodedValuesConform}
use Rattle.types.proofs.ZipLemmas.{zip_flip}
use Rattle.types.proofs.BeginningLemmas.{all_zip}
use Rattle.types.proofs.SlotLemmas.{AreFilled, filled}

string_conforms : (rule : Rule) (tag : Tag) (type : StringType) (v : Val) (octets : List ℕ) → IsEncodingOfString rule tag type v octets → Conforms (Shape.string tag type) v
string_conforms rule tag StringType.bit_string v octets h = subst (Conforms (Shape.string tag StringType.bit_string)) (sym h.is) tt
string_conforms rule tag (StringType.named_bits names) v octets h = subst (Conforms (Shape.string tag (StringType.named_bits names))) (sym h.is) h.trimmed
string_conforms rule tag StringType.octet_string v octets h = subst (Conforms (Shape.string tag StringType.octet_string)) (sym h.is) h.conforms
string_conforms rule tag (StringType.text kind) v octets h = subst (Conforms (Shape.string tag (StringType.text kind))) (sym h.is) h.conforms
string_conforms rule tag (StringType.time kind) v octets h = subst (Conforms (Shape.string tag (StringType.time kind))) (sym h.is) h.conforms

mutual
  pub encoded_conforms : EncodedValuesConform
  encoded_conforms rule (Shape.simple tag type) v octets h = subst (Conforms (Shape.simple tag type)) (sym h.is) h.conforms
  encoded_conforms rule (Shape.string tag type) v octets h = string_conforms rule tag type v octets h
  encoded_conforms rule (Shape.sequence tag components) v octets h =
      subst (Conforms (Shape.sequence tag components)) (sym h.is) (slots_conform rule components h.slots h.encodings (filled rule components h.slots h.encodings h.each))
  encoded_conforms rule (Shape.set tag components) v octets h =
      subst (Conforms (Shape.set tag components)) (sym h.is) (slots_conform rule components h.slots h.encodings (filled rule components h.slots h.encodings h.each))
  encoded_conforms rule (Shape.sequence_of tag type) v octets h =
      let items = all_zip (λ c x. IsEncoding rule type x c) (Conforms type) (λ c x f. encoded_conforms rule type x c f) h.encodings (listed h.items) (zip_flip (IsEncoding rule type) (listed h.items) h.encodings h.each) in
      subst (Conforms (Shape.sequence_of tag type)) (sym h.is) items
  encoded_conforms rule (Shape.set_of tag type) v octets h =
      let items = all_zip (λ c x. IsEncoding rule type x c) (Conforms type) (λ c x f. encoded_conforms rule type x c f) h.encodings (listed h.items) (zip_flip (IsEncoding rule type) (listed h.items) h.encodings h.each) in
      subst (Conforms (Shape.set_of tag type)) (sym h.is) items
  encoded_conforms rule (Shape.choice alternatives) v octets h =
      subst (Conforms (Shape.choice alternatives)) (sym h.is) (alternative_conforms rule alternatives h.which h.value octets h.chosen)
  encoded_conforms rule (Shape.explicit tag type) v octets h = encoded_conforms rule type v h.inner h.encodes

  pub slots_conform : (rule : Rule) (components : Components) (slots : Slots) (encodings : List (Option (List ℕ))) → AreFilled rule components slots encodings → SlotsConform components slots
  slots_conform rule no_component slots encodings AreFilled.no_more = tt
  slots_conform rule (component name type requirement others) slots encodings (AreFilled.left_out {slots = later} {encodings = rest} n t r m h) = (m, slots_conform rule others later rest h)
  slots_conform rule (component name type requirement others) slots encodings (AreFilled.spelt_out {slots = later} {encodings = rest} n t value octets e f h) = (tt, slots_conform rule others later rest h)
  slots_conform rule (component name type requirement others) slots encodings (AreFilled.stands {slots = later} {encodings = rest} n t r value octets f d h) =
      (encoded_conforms rule type value octets f, d, slots_conform rule others later rest h)

  pub alternative_conforms : (rule : Rule) (alternatives : Alternatives) (which : ℕ) (v : Val) (octets : List ℕ) → IsAlternativeEncoding rule alternatives which v octets → AlternativeConforms alternatives which v
  alternative_conforms rule no_alternative which v octets h = elim h [ ]
  alternative_conforms rule (alternative name type others) zero v octets h = encoded_conforms rule type v octets h
  alternative_conforms rule (alternative name type others) (suc which) v octets h = alternative_conforms rule others which v octets h
