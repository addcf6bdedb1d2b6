-- Lemmas on a reader of whose next value no octet has come.
use Rattle.std.proofs.Common.{◌≡◌, ◌+◌, ◌≤◌, ℕ, List, [], ◌∷◌, ◌++◌, Option, None, Some, IfSome, IsSome, length, take, refl, sym, ap, ◌∙◌, subst, arith, length-append}
use Rattle.std.proofs.lemmas.List.{take_all}
use Rattle.octets.specs.declared.TheConstants.{MAX_ENCODING}
use Rattle.octets.specs.Front.{HasFront}
use Rattle.octets.specs.Rule.{ber}
use Rattle.types.specs.declared.value.Value.{Value}
use Rattle.types.specs.Encoding.{IsAccepted, IsEncoding, most_nested}
use Rattle.types.specs.Shape.{Shape, Val}
use Rattle.types.specs.View.{value_view}
use Rattle.types.proofs.ApartInstances.{of_no_octets}
use Rattle.berreader.specs.declared.pieces.Pieces.{Pieces}
use Rattle.berreader.specs.declared.reader.Step as answer
use Rattle.encoding_parts.specs.Parts.{IsPartWithin}
use Rattle.encoding_parts.proofs.StepLemmas.{opening_some}
use Rattle.berreader.specs.Cut.{IsCut}
use Rattle.berreader.specs.Nest.{end_inside, CanComplete, StandsAt}
use Rattle.berreader.specs.Stack.{Layer, layers_of}
use Rattle.berreader.specs.Feeding.{HasBeenFed, HasValue, IsDone, IsFed, IsFedStep, IsFinished, IsFresh, IsMore, shape_of}
use Rattle.berreader.proofs.AcceptedLemmas.{within_of_accepted}
use Rattle.berreader.proofs.FeedingLemmas.{done_is_fed}
use Rattle.berreader.proofs.CutLemmas.{none_cut}
use Rattle.berreader.proofs.CursorLemmas.{finishes, no_octets, none_begun, taken_by_nest, taken_of_nest}

none_in_none : (shape : Shape) → HasValue shape [] → ⊥
none_in_none shape h = of_no_octets ber shape h.2.0 (subst (IsEncoding ber shape h.2.0) (take_all h.0 [] (omega arith)) h.2.1.encoding)

-- no octets have been fed to it
pub fresh_has_been_fed : (pieces : Pieces) → IsFresh pieces → HasBeenFed pieces []
fresh_has_been_fed pieces fresh =
    let shape = shape_of pieces in
    let cursor = pieces.cursor in
    let kept = pieces.pending.items in
    record {
      accepts = fresh.accepts;
      before = [];
      joined = sym fresh.kept;
      goes_on = record {
        taken = taken_of_nest cursor [] fresh.string (record { count = sym fresh.taken; stands = subst (λ l. StandsAt shape l []) (sym fresh.layers) refl });
        forth = λ more h.
            let part : HasFront (IsPartWithin most_nested shape MAX_ENCODING cursor.nest.taken) (kept ++ more) =
            subst (λ n. HasFront (IsPartWithin most_nested shape MAX_ENCODING n) (kept ++ more)) (sym fresh.taken) (within_of_accepted shape (kept ++ more) h) in
            finishes cursor (kept ++ more) fresh.string (subst (λ l. CanComplete shape l cursor.nest.taken (kept ++ more)) (sym fresh.layers) part);
      };
      cut = subst (IsCut cursor) (sym fresh.kept) (none_cut cursor fresh.string fresh.layers fresh.taken);
      none = none_in_none shape;
    }

-- and no others
pub fresh_has_been_fed_none : (pieces : Pieces) (octets : List ℕ) → IsFresh pieces → HasBeenFed pieces octets → octets ≡ []
fresh_has_been_fed_none pieces octets fresh fed =
    let none : fed.before ≡ [] = subst (λ l. StandsAt (shape_of pieces) l fed.before) fresh.layers (taken_by_nest pieces.cursor fed.before fresh.string fed.goes_on.taken).stands in
    fed.joined ∙ ap (λ o. o ++ pieces.pending.items) none ∙ fresh.kept

-- nothing has come where no value is begun
pub finished_has_been_fed : (pieces : Pieces) (octets : List ℕ) → IsFinished pieces → HasBeenFed pieces octets → octets ≡ []
finished_has_been_fed pieces octets done fed =
    let cursor = pieces.cursor in
    let taken = taken_by_nest cursor fed.before done.string fed.goes_on.taken in
    let none : fed.before ≡ [] = no_octets fed.before (taken.count ∙ done.taken) in
    fed.joined ∙ ap (λ o. o ++ pieces.pending.items) none ∙ done.kept

-- and no value is begun where nothing has come
pub fed_none_finished : (pieces : Pieces) → HasBeenFed pieces [] → IsFinished pieces
fed_none_finished pieces fed =
    let cursor = pieces.cursor in
    let taken = fed.goes_on.taken in
    let before : length fed.before ≡ length taken.before + length taken.passed = ap length taken.joined ∙ length-append taken.before taken.passed in
    let size : length fed.before + length pieces.pending.items ≡ 0 = sym (ap length fed.joined ∙ length-append fed.before pieces.pending.items) in
    record {
      accepts = fed.accepts;
      taken = sym taken.taken.count ∙ zero_of (length taken.before) (omega (arith, before, size));
      string = none_begun cursor.nest cursor.string taken.passed taken.string (zero_of (length taken.passed) (omega (arith, before, size)));
      kept = no_octets pieces.pending.items (zero_of (length pieces.pending.items) (omega (arith, size)));
    }
  where
    zero_of : (n : ℕ) → n ≤ 0 → n ≡ 0
    zero_of n h = omega (arith, h)

-- no encoding is open where no octet has been taken
none_open : (shape : Shape) (layers : List Layer) (octets : List ℕ) → length octets ≡ 0 → StandsAt shape layers octets → layers ≡ []
none_open shape [] octets none h = refl
none_open shape (layer ∷ others) octets none h =
    let head : 2 ≤ length h.head = opening_some layer.tag (end_inside others) (length h.before) layer.frame h.head h.opening in
    absurd (omega (arith, none, ap length h.joined, length-append h.before (h.head ++ h.contents), length-append h.head h.contents, head))

pub finished_fresh : (pieces : Pieces) (octets : List ℕ) → IsFinished pieces → HasBeenFed pieces octets → IsFresh pieces
finished_fresh pieces octets done fed =
    let cursor = pieces.cursor in
    let taken = taken_by_nest cursor fed.before done.string fed.goes_on.taken in
    record {
      accepts = done.accepts;
      layers = none_open (shape_of pieces) (layers_of cursor.nest.layers) fed.before (taken.count ∙ done.taken) taken.stands;
      taken = done.taken;
      string = done.string;
      kept = done.kept;
    }

-- a value that is whole in the piece, where no value is begun
pub done_at_once : (pieces : Pieces) (octets piece : List ℕ) (value : Val) (used : ℕ) → IsFinished pieces → HasBeenFed pieces octets → used ≤ length piece → IsAccepted ber (shape_of pieces) value (take used piece)
    → IsDone (shape_of pieces) octets piece value used × IsFresh pieces
done_at_once pieces octets piece value used done fed there accepted =
    let none : octets ≡ [] = finished_has_been_fed pieces octets done fed in
    done_is_fed pieces pieces octets piece value used fed.none record {
      there = there;
      accepted = subst (λ o. IsAccepted ber (shape_of pieces) value (o ++ take used piece)) (sym none) accepted;
      fresh = finished_fresh pieces octets done fed;
    }

pub fed_at_once : (pieces : Pieces) (octets piece : List ℕ) (whole : Option Value) (used : ℕ) → IsFinished pieces → HasBeenFed pieces octets → used ≤ length piece → IfSome whole (λ value. IsAccepted ber (shape_of pieces) (value_view value) (take used piece)) → IsSome whole
    → IsFed pieces pieces octets piece whole used
fed_at_once pieces octets piece None used done fed there accepted some = absurd (cc some)
fed_at_once pieces octets piece (Some value) used done fed there accepted some = done_at_once pieces octets piece (value_view value) used done fed there accepted

-- what the first piece comes to
pub read_done : (shape : Shape) (old new : Pieces) (octets : List ℕ) (value : Value) (used : ℕ) (step : answer.Step) → shape_of old ≡ shape → HasBeenFed old [] → step ≡ answer.TheVariants.Done value used
    → ((before : List ℕ) → HasBeenFed old before → IsFedStep old new before octets step) → (used ≤ length octets) × IsAccepted ber shape (value_view value) (take used octets)
read_done shape old new octets value used step same fed is h =
    let done : IsDone (shape_of old) [] octets (value_view value) used × IsFresh new = subst (IsFedStep old new [] octets) is (h [] fed) in
    (done.0.there, subst (λ s. IsAccepted ber s (value_view value) (take used octets)) same done.0.accepted)

pub read_more : (old new : Pieces) (octets : List ℕ) (step : answer.Step) → HasBeenFed old [] → step ≡ answer.TheVariants.More → ((before : List ℕ) → HasBeenFed old before → IsFedStep old new before octets step) → IsMore (shape_of old) new octets
read_more old new octets step fed is h = subst (IsFedStep old new [] octets) is (h [] fed)
