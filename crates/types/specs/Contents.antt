-- Contents octets of the values without parts that are no strings (X.690 8.2 to 8.4, 8.8, 8.19 and 8.20).
use Rattle.std.specs.Prelude.{◌≡◌, ℕ, List}
use Rattle.octets.specs.Rule.{Rule}
use Rattle.primitives.specs.Boolean.{IsBoolean}
use Rattle.primitives.specs.Integer.{IsInteger}
use Rattle.primitives.specs.Null.{IsNull}
use Rattle.primitives.specs.Oid.{IsOid, IsRelativeOid}
use Rattle.types.specs.Shape.{SimpleValue}

-- these are contents octets of the value under the rule; an ENUMERATED has those of its number (8.4), and a wide
-- INTEGER is its own
abbrev pub IsContents : Rule → SimpleValue → List ℕ → Type 0
IsContents rule (SimpleValue.boolean truth) contents = IsBoolean rule truth contents
IsContents rule (SimpleValue.integer number) contents = IsInteger number contents
IsContents rule (SimpleValue.wide_integer octets) contents = contents ≡ octets
IsContents rule (SimpleValue.enumerated number) contents = IsInteger number contents
IsContents rule SimpleValue.null contents = IsNull contents
IsContents rule (SimpleValue.oid arcs) contents = IsOid arcs contents
IsContents rule (SimpleValue.relative_oid arcs) contents = IsRelativeOid arcs contents
