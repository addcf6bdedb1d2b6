-- What a type takes of the notation behind DEFAULT.
use Rattle.std.proofs.Common.{◌≡◌, ◌+◌, ◌<◌, inl, inr, ℕ, List, [], ◌∷◌, ◌++◌, length, map, take, get_or, Option, Some, None, IfSome, IsNone, Contains, refl, sym, ap, ◌∙◌, subst}
use Rattle.std.specs.Prelude.{Bool, false, replicate, MatchOption, Result, Ok, Err, IfOk}
use Rattle.primitives.specs.Bits.{IsTrimmed}
use Rattle.std.proofs.lemmas.List.{map_more, length-map, get_or-map}
use Rattle.std.proofs.lemmas.List.Elements.{Contains-push_cases}
use Rattle.strings.specs.declared.text.TextKind.{TextKind}
use Rattle.strings.specs.Alphabet.{IsText}
use Rattle.types.specs.declared.value.Value.{Value}
use Rattle.types.specs.declared.value.Value.TheVariants.{Bits as BitsValue}
use Rattle.types.specs.declared.ty.Item.{Item}
use Rattle.octets.specs.declared.tag.Tag.{Tag}
use Rattle.types.specs.Shape.{EnumerationItem, NamedBitView, SimpleType, StringType, SimpleValue, StringValue, Val, Shape}
use Rattle.types.specs.View.{value_view, item_view}
use Rattle.types.proofs.ViewLemmas.{value-Bits}
use Rattle.syntax.specs.declared.tree.DefaultValue.{DefaultValue}
use Rattle.syntax.specs.Tree.{Value as Notation, chars_value}
use Rattle.syntax.specs.View.{value_view as written_view}
use Rattle.builtin_types.specs.Defaults.{AreWritten, IsHexString, character_string, IsSimpleDefault, IsStringDefault}
use Rattle.builtin_types.specs.Taken.{IsSimpleTaken, IsStringTaken, IsTakenText, IsTaken}
use Rattle.builtin_types.proofs.SpellingLemmas.{one_character_string}

-- the notation stands for the value
abbrev pub TakesSimple : SimpleType → Notation → Val → Type 0
TakesSimple type written view = (v : SimpleValue) × IsSimpleDefault type written v × (view ≡ Val.simple v)

abbrev pub TakesString : StringType → Notation → Val → Type 0
TakesString type written view = (v : StringValue) × IsStringDefault type written v × (view ≡ Val.string v)

-- where the code has the notation in a variant
pub simple_at : (type : SimpleType) (written : DefaultValue) (other : DefaultValue) (view : Val) (v : SimpleValue) → written ≡ other → IsSimpleDefault type (written_view other) v → view ≡ Val.simple v → TakesSimple type (written_view written) view
simple_at type written other view v is takes same = (v, subst (λ (w : DefaultValue). IsSimpleDefault type (written_view w) v) (sym is) takes, same)

pub string_at : (type : StringType) (written : DefaultValue) (other : DefaultValue) (view : Val) (v : StringValue) → written ≡ other → IsStringDefault type (written_view other) v → view ≡ Val.string v → TakesString type (written_view written) view
string_at type written other view v is takes same = (v, subst (λ (w : DefaultValue). IsStringDefault type (written_view w) v) (sym is) takes, same)

-- no item so far has the name
abbrev pub IsNoneNamed : List ℕ → List EnumerationItem → Type 0
IsNoneNamed name items = (item : EnumerationItem) → Contains items item → item.name ≡ name → ⊥

pub none_more : (name : List ℕ) (items : List Item) (i : ℕ) (x : Item) → i < length items → x ≡ get_or items i x → (x.name ≡ name → ⊥) → IsNoneNamed name (map item_view (take i items)) → IsNoneNamed name (map item_view (take (i + 1) items))
none_more name items i x within is other h =
    subst (λ (l : List EnumerationItem). IsNoneNamed name l) (sym (map_more item_view items i x within ∙ ap (λ (y : Item). map item_view (take i items) ++ item_view y ∷ []) (sym is)))
    (λ item among named. elim (Contains-push_cases (map item_view (take i items)) (item_view x) item among) [ inl before ↦ h item before named | inr last ↦ other (ap (λ (y : EnumerationItem). y.name) last ∙ named) ])

pub is_among : (items : List Item) (i : ℕ) (x : Item) → i < length items → x ≡ get_or items i x → Contains (map item_view items) (item_view x)
is_among items i x within is = (i, subst (λ (n : ℕ). i < n) (sym (length-map items item_view)) within, get_or-map item_view items i x (item_view x) within ∙ ap item_view (sym is))

pub no_simple_at : (type : SimpleType) (written : DefaultValue) (other : DefaultValue) → written ≡ other → ((v : SimpleValue) → IsSimpleDefault type (written_view other) v → ⊥) → (v : SimpleValue) → IsSimpleDefault type (written_view written) v → ⊥
no_simple_at type written other is never v h = never v (subst (λ (w : DefaultValue). IsSimpleDefault type (written_view w) v) is h)

pub no_string_at : (type : StringType) (written : DefaultValue) (other : DefaultValue) → written ≡ other → ((v : StringValue) → IsStringDefault type (written_view other) v → ⊥) → (v : StringValue) → IsStringDefault type (written_view written) v → ⊥
no_string_at type written other is never v h = never v (subst (λ (w : DefaultValue). IsStringDefault type (written_view w) v) is h)

pub simple_none : (type : SimpleType) (written : Notation) (found : Option Value) → found ≡ None → ((v : SimpleValue) → IsSimpleDefault type written v → ⊥) → IsSimpleTaken type written found
simple_none type written found none never = subst (λ (o : Option Value). IsSimpleTaken type written o) (sym none) never

pub hex_spelled : (spelled other values : List ℕ) → spelled ≡ other → IsHexString spelled values → IsHexString other values
hex_spelled spelled other values is h = subst (λ (s : List ℕ). IsHexString s values) is h

-- a character string
pub text_taken : (kind : TextKind) (written : Notation) (spelled octets : List ℕ) (found : Option Value) → IfSome found (λ value. IsTakenText kind octets × (value_view value ≡ Val.string (StringValue.text octets))) → (IsNone found → IsTakenText kind octets → ⊥)
    → written ≡ chars_value spelled → spelled ≡ character_string octets → IsStringTaken (StringType.text kind) written found
text_taken kind written spelled octets None told none is spelt =
    subst (λ (n : Notation). (v : StringValue) → IsStringDefault (StringType.text kind) n v → ⊥) (sym is) (λ v h. none refl (h.2, subst (IsText kind) (one_character_string h.0 octets (sym h.1 ∙ spelt)) h.3))
text_taken kind written spelled octets (Some value) told none is spelt =
    (StringValue.text octets, subst (λ (n : Notation). IsStringDefault (StringType.text kind) n (StringValue.text octets)) (sym is) (octets, spelt, told.0.0, told.0.1, refl), told.1)

-- a string type takes what its kind of string does
pub taken_by_string : {E : Type 0} (type : Shape) (tag : Tag) (string : StringType) (written : Notation) (found : Result (Option Value) E) → type ≡ Shape.string tag string → IfOk found (λ found. IsStringTaken string written found) → IfOk found (λ found. IsTaken type written found)
taken_by_string type tag string written (Err e) is taken = tt
taken_by_string type tag string written (Ok None) is taken = subst (λ (t : Shape). IsTaken t written None) (sym is) (λ v default. taken default.0 default.1)
taken_by_string type tag string written (Ok (Some value)) is taken = subst (λ (t : Shape). IsTaken t written (Some value)) (sym is) taken

-- and one with named bits the bits that are written, without those 0 at their end
pub trimmed_taken : (written : Notation) (found : Option (List Bool)) (bits kept : List Bool) (names : List NamedBitView)
    → MatchOption found ((bits : List Bool) → AreWritten written bits → ⊥) (λ bits. AreWritten written bits) → found ≡ Some bits → (zeros : ℕ) × (bits ≡ kept ++ replicate zeros false) → IsTrimmed kept
    → IsStringTaken (StringType.named_bits names) written (Some (BitsValue kept))
trimmed_taken written found bits kept names told some front trimmed =
    let is : AreWritten written bits = subst (λ (o : Option (List Bool)). MatchOption o ((bits : List Bool) → AreWritten written bits → ⊥) (λ bits. AreWritten written bits)) some told in
    (StringValue.bits kept, (kept, trimmed, (front.0, subst (λ (bits : List Bool). AreWritten written bits) front.1 is), refl), value-Bits kept)
