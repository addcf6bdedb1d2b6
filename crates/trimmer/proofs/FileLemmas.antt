-- The octets of files.
use Rattle.std.proofs.Common.{◌≡◌, ◌∙◌, ℕ, List, [], ◌++◌, Option, Some, None, ap, take}
use Rattle.std.specs.Prelude.{IfSome, option_map}

-- what a reader gives up to a limit, read into an empty vector
pub read_up_to : (left : Option (List ℕ)) (limit most : ℕ) (old new : List ℕ) → limit ≡ most → old ≡ [] → IfSome (option_map (take limit) left) (λ xs. new ≡ old ++ xs)
    → IfSome left (λ octets. new ≡ take most octets)
read_up_to None limit most old new is empty h = tt
read_up_to (Some octets) limit most old new is empty h = h ∙ ap (λ o. o ++ take limit octets) empty ∙ ap (λ n. take n octets) is
