-- Lemmas on how much a reader holds.
use Rattle.std.proofs.Common.{◌≡◌, ◌+◌, ◌*◌, ◌≤◌, ℕ, true, List, [], ◌∷◌, ◌++◌, Option, Some, None, IfSome, length, take, ap, ◌∙◌, arith, length-append}
use Rattle.std.proofs.Math.Nat.{mul-add}
use Rattle.std.proofs.lemmas.List.{length-take-le}
use Rattle.octets.specs.declared.tag.Tag.{Tag}
use Rattle.octets.specs.Rule.{ber}
use Rattle.types.specs.declared.value.Value.{Value}
use Rattle.types.specs.Encoding.{IsAccepted}
use Rattle.types.specs.Shape.{Shape, Val}
use Rattle.types.specs.View.{value_view}
use Rattle.types.specs.Weight.{weight_of}
use Rattle.types.specs.WellFormed.{nodes_of}
use Rattle.encoding_parts.specs.declared.frame.Frame.{Frame}
use Rattle.berreader.specs.declared.pieces.Pieces.{Pieces}
use Rattle.encoding_parts.specs.Completing.{IsOpening}
use Rattle.berreader.specs.Feeding.{HasBeenFed, IsDone, IsFed, shape_of}
use Rattle.berreader.specs.Nest.{IsDueInside, StandsAt, levels_inside}
use Rattle.berreader.specs.Stack.{Layer, layers_of}
use Rattle.berreader.specs.Weight.{most_weight, weight_held, weight_of_layers, weight_of_parts}
use Rattle.berreader.proofs.CursorLemmas.{octets_few, some_size}
use Rattle.berreader.proofs.WeightLemmas.{at_least_once, light, more_of, some_identifier, some_nodes}
use Rattle.berreader.proofs.PartsWeightLemmas.{due_nodes, node_nodes, parts_light}

opening_size : (tag : Tag) (end taken : ℕ) (frame : Frame) (head : List ℕ) → IsOpening tag end taken frame head → 2 ≤ length head
opening_size tag end taken frame head h =
    omega (arith, ap length h.joined, length-append h.identifier h.size, some_identifier tag true h.identifier h.tagged, some_size end (taken + length h.identifier) frame h.size h.form)

-- what is open has no more nodes than the whole
inside_nodes : (shape : Shape) (layers : List Layer) (octets : List ℕ) (type : Shape) → StandsAt shape layers octets → IsDueInside shape layers type → length (nodes_of type) ≤ length (nodes_of shape)
inside_nodes shape [] octets type h due = omega (arith, ap (λ s. length (nodes_of s)) due)
inside_nodes shape (layer ∷ others) octets type h due =
    omega (arith, due_nodes h.node layer.parts layer.which type h.parts due, node_nodes layer.tag layer.type h.node h.chosen, inside_nodes shape others h.before layer.type h.behind h.due)

layers_light : (shape : Shape) (layers : List Layer) (octets : List ℕ) → StandsAt shape layers octets → weight_of_layers layers ≤ length (nodes_of shape) * length octets
layers_light shape [] octets h = omega arith
layers_light shape (layer ∷ others) octets h =
    let n = length (nodes_of shape) in
    let few : length (nodes_of h.node) ≤ n = omega (arith, node_nodes layer.tag layer.type h.node h.chosen, inside_nodes shape others h.before layer.type h.behind h.due) in
    let own : weight_of_parts layer.parts ≤ n + n * length h.contents = parts_light h.node layer.parts (levels_inside others) h.contents n few h.parts h.holds in
    let rest : weight_of_layers others ≤ n * length h.before = layers_light shape others h.before h.behind in
    let size : length octets ≡ length h.before + (length h.head + length h.contents) = ap length h.joined ∙ length-append h.before (h.head ++ h.contents) ∙ ap (λ k. length h.before + k) (length-append h.head h.contents) in
    let whole : n * length octets ≡ n * length h.before + (n * length h.head + n * length h.contents) =
    ap (λ k. n * k) size ∙ mul-add n (length h.before) (length h.head + length h.contents) ∙ ap (λ k. n * length h.before + k) (mul-add n (length h.head) (length h.contents)) in
    let head : n * 1 ≤ n * length h.head = more_of n 1 (length h.head) (omega (arith, opening_size layer.tag _ (length h.before) layer.frame h.head h.opening)) in
    omega (arith, own, rest, whole, head)

-- what is held weighs no more than the octets of the value that is begun may
pub held_light : (pieces : Pieces) (octets : List ℕ) → HasBeenFed pieces octets → weight_held pieces ≤ most_weight (shape_of pieces) (length octets)
held_light pieces octets fed =
    let n = length (nodes_of (shape_of pieces)) in
    let cursor = pieces.cursor in
    let kept = pieces.pending.items in
    let some = some_nodes (shape_of pieces) in
    let taken = fed.goes_on.taken in
    let layers = layers_light (shape_of pieces) (layers_of cursor.nest.layers) taken.before taken.taken.stands in
    let string = octets_few cursor.nest cursor.string taken.passed taken.string in
    let before : n * length fed.before ≡ n * length taken.before + n * length taken.passed = ap (λ k. n * k) (ap length taken.joined ∙ length-append taken.before taken.passed) ∙ mul-add n (length taken.before) (length taken.passed) in
    let size : length octets ≡ length fed.before + length kept = ap length fed.joined ∙ length-append fed.before kept in
    let split : n * length octets ≡ n * length fed.before + n * length kept = ap (λ k. n * k) size ∙ mul-add n (length fed.before) (length kept) in
    let more : n * length octets ≤ n * (length octets + 1) = more_of n (length octets) (length octets + 1) (omega arith) in
    omega (arith, layers, string, before, split, more, at_least_once n (length taken.passed) some, at_least_once n (length kept) some)

-- so does a value
pub value_light : (shape : Shape) (value : Val) (octets : List ℕ) (used : ℕ) → used ≡ length octets → IsAccepted ber shape value octets → weight_of value ≤ most_weight shape used
value_light shape value octets used size h =
    let n = length (nodes_of shape) in
    let more : n * length octets ≤ n * (used + 1) = more_of n (length octets) (used + 1) (omega (arith, size)) in
    omega (arith, light shape value octets n (omega arith) h.encoding, more)

done_light : (shape : Shape) (octets piece : List ℕ) (value : Val) (used : ℕ) → IsDone shape octets piece value used → weight_of value ≤ most_weight shape (length octets + used)
done_light shape octets piece value used h =
    let size : length (octets ++ take used piece) ≡ length octets + length (take used piece) = length-append octets (take used piece) in
    value_light shape value (octets ++ take used piece) (length octets + used) (omega (arith, size, length-take-le used piece h.there)) h.accepted

pub slot_light : (old new : Pieces) (piece : List ℕ) (slot : Option Value) (used : ℕ) → ((octets : List ℕ) → HasBeenFed old octets → IsFed old new octets piece slot used)
    → IfSome slot (λ value. (octets : List ℕ) → HasBeenFed old octets → weight_of (value_view value) ≤ most_weight (shape_of old) (length octets + used))
slot_light old new piece None used h = tt
slot_light old new piece (Some value) used h = λ octets fed. done_light (shape_of old) octets piece (value_view value) used (h octets fed).0
