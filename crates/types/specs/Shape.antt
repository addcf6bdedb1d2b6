-- Types and values as the definitions see them: without where they lie in memory.
use Rattle.std.specs.Prelude.{ℕ, ℤ, Bool, List, [], ◌∷◌}
use Rattle.strings.specs.declared.time.TimeKind.{TimeKind}
use Rattle.strings.specs.declared.text.TextKind.{TextKind}
use Rattle.octets.specs.declared.tag.Tag.{Tag}

-- an item of an ENUMERATED (X.680 clause 20)
pub record EnumerationItem : Type 0 where
  pub name : List ℕ
  pub number : ℤ

-- a bit of a BIT STRING that has a name (X.680 22.1)
pub record NamedBitView : Type 0 where
  pub name : List ℕ
  pub number : ℕ

-- a type without parts whose encodings are primitive
pub data SimpleType : Type 0 where
  boolean : SimpleType
  integer : SimpleType
  enumerated : List EnumerationItem → SimpleType
  null : SimpleType
  oid : SimpleType
  relative_oid : SimpleType

-- a type without parts whose encodings may be cut into segments
pub data StringType : Type 0 where
  bit_string : StringType
  named_bits : List NamedBitView → StringType
  octet_string : StringType
  text : TextKind → StringType
  time : TimeKind → StringType

-- a value of a type without parts whose encodings are primitive; an INTEGER past 128 bits has its contents octets
pub data SimpleValue : Type 0 where
  boolean : Bool → SimpleValue
  integer : ℤ → SimpleValue
  wide_integer : List ℕ → SimpleValue
  enumerated : ℤ → SimpleValue
  null : SimpleValue
  oid : List ℕ → SimpleValue
  relative_oid : List ℕ → SimpleValue

-- a value of a string type
pub data StringValue : Type 0 where
  bits : List Bool → StringValue
  octets : List ℕ → StringValue
  text : List ℕ → StringValue

mutual
  -- a value
  pub data Val : Type 0 where
    simple : SimpleValue → Val
    string : StringValue → Val
    fields : Slots → Val
    items : Items → Val
    chosen : ℕ → Val → Val

  -- a slot for each component of a SEQUENCE or SET, in order of declaration
  pub data Slots : Type 0 where
    no_slot : Slots
    absent : Slots → Slots
    present : Val → Slots → Slots

  -- the items of a SEQUENCE OF or SET OF
  pub data Items : Type 0 where
    no_item : Items
    item : Val → Items → Items

-- whether a component may be absent, and what its absence then means
pub data Requirement : Type 0 where
  required : Requirement
  optional : Requirement
  default : Val → Requirement

mutual
  -- a type; each node but CHOICE has its outermost tag
  pub data Shape : Type 0 where
    simple : Tag → SimpleType → Shape
    string : Tag → StringType → Shape
    sequence : Tag → Components → Shape
    set : Tag → Components → Shape
    sequence_of : Tag → Shape → Shape
    set_of : Tag → Shape → Shape
    choice : Alternatives → Shape
    explicit : Tag → Shape → Shape

  -- the components of a SEQUENCE or SET, each with its name
  pub data Components : Type 0 where
    no_component : Components
    component : List ℕ → Shape → Requirement → Components → Components

  -- the alternatives of a CHOICE, each with its name
  pub data Alternatives : Type 0 where
    no_alternative : Alternatives
    alternative : List ℕ → Shape → Alternatives → Alternatives

-- the items as a list
abbrev pub listed : Items → List Val
listed no_item = []
listed (item value others) = value ∷ listed others
