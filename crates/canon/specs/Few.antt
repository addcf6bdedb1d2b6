-- Up to eight octets as a word.
use Rattle.std.specs.Prelude.{◌≡◌, ℕ, ◌<◌, ◌*◌, ◌-◌, ◌^◌, All, List, length}
use Rattle.octets.specs.Digits.{number_of}
use Rattle.canon.specs.declared.few.Few.{Few}

-- the word has these octets in front, and zeros behind them
pub record AreFew (few : Few) (octets : List ℕ) : Type 0 where
  pub below_256 : All (λ octet. octet < 256) octets
  pub counted : length octets ≡ few.count
  pub spelt : few.word ≡ number_of 256 octets * 256 ^ (8 - few.count)

-- octets of some kind, as a word
pub record Spells (IsThis : List ℕ → Type 0) (few : Few) : Type 0 where
  pub octets : List ℕ
  pub are : AreFew few octets
  pub holds : IsThis octets
