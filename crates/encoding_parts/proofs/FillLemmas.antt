-- Values of which each contents octet is one.
use Rattle.std.proofs.Common.{◌≡◌, ◌<◌, ℕ, List, All, refl, sym, subst}
use Rattle.octets.specs.declared.tag.Tag.{Tag}
use Rattle.octets.specs.Rule.{ber}
use Rattle.strings.specs.Alphabet.{IsText}
use Rattle.strings.specs.Time.{IsTime}
use Rattle.strings.specs.declared.text.TextKind.{TextKind}
use Rattle.strings.specs.declared.time.TimeKind.{TimeKind}
use Rattle.types.specs.declared.ty.Ty.{Ty}
use Rattle.types.specs.declared.value.Value.{Value}
use Rattle.types.specs.Shape.{StringType, StringValue, Shape, Val}
use Rattle.types.specs.View.{ty_view, value_view}
use Rattle.encoding_parts.specs.Contents.{HoldsValue, octets_view, text_view}

-- the value is that whose contents octets they are
pub filled_as : (ty : Ty) (shape : Shape) (v : Val) (contents : List ℕ) (value : Value) → ty_view ty ≡ shape → HoldsValue ber shape v contents → value_view value ≡ v → HoldsValue ber (ty_view ty) (value_view value) contents
filled_as ty shape v contents value of holds same =
    subst (λ (t : Shape). HoldsValue ber t (value_view value) contents) (sym of) (subst (λ (x : Val). HoldsValue ber shape x contents) (sym same) holds)

-- an OCTET STRING
pub octets_held : (tag : Tag) (contents : List ℕ) → All (λ octet. octet < 256) contents → HoldsValue ber (Shape.string tag StringType.octet_string) (octets_view contents) contents
octets_held tag contents fits = (fits, record { value = StringValue.octets contents; is = refl; spelt = refl })

-- a character string
pub text_held : (tag : Tag) (kind : TextKind) (contents : List ℕ) → All (λ octet. octet < 256) contents → IsText kind contents → HoldsValue ber (Shape.string tag (StringType.text kind)) (text_view contents) contents
text_held tag kind contents fits text = ((fits, text), record { value = StringValue.text contents; is = refl; spelt = refl })

-- a time
pub time_held : (tag : Tag) (kind : TimeKind) (contents : List ℕ) → All (λ octet. octet < 256) contents → IsTime kind contents → HoldsValue ber (Shape.string tag (StringType.time kind)) (text_view contents) contents
time_held tag kind contents fits time = ((fits, time), record { value = StringValue.text contents; is = refl; spelt = refl })
