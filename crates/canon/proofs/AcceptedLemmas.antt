-- Lemmas on encodings within the limits.
use Rattle.std.proofs.Common.{◌≤◌, ℕ, List, length}
use Rattle.types.specs.Shape.{Shape, Val}
use Rattle.types.specs.WellFormed.{IsWellFormed}
use Rattle.types.specs.Encoding.{IsAccepted, IsEncoding}
use Rattle.octets.proofs.RuleLemmas.{rule_is_canonical}
use Rattle.types.proofs.BeginningLemmas.{nested_suc}
use Rattle.types.proofs.DepthLemmas.{canonical_are_ber}
use Rattle.canon.specs.Node.{HasGoodNodes}
use Rattle.octets.specs.declared.canonical.Canonical.{Canonical}
use Rattle.octets.specs.Rule.{rule_of}

pub accepted : (rule : Canonical) (shape : Shape) (v : Val) (octets : List ℕ) → IsWellFormed shape → IsEncoding (rule_of rule) shape v octets → length octets ≤ 1_048_576 → IsAccepted (rule_of rule) shape v octets
accepted rule shape v octets well h size =
    let nested = canonical_are_ber (rule_of rule) shape v octets well (rule_is_canonical rule) h in
    record { encoding = h; depth = nested_suc 63 octets (nested_suc 62 octets (nested_suc 61 octets nested.depth)); size = size }

pub good_nodes : (shape : Shape) → IsWellFormed shape → HasGoodNodes shape
good_nodes shape well = record { within = well.limits.each; tags = well.tags }
