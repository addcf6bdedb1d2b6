-- Assignments by their places, each waiting for those that it refers to until they are done.
use Rattle.std.specs.Prelude.{◌≡◌, ◌+◌, ◌<◌, ⊤, ℕ, Bool, true, false, ◌||◌, List, [], ◌∷◌, ◌++◌, length, slice_index, ◌==◌, if◌then◌else◌}

-- the place is one of these
abbrev pub is_among : List ℕ → ℕ → Bool
is_among [] place = false
is_among (first ∷ others) place = first == place || is_among others place

-- no place stands twice
abbrev pub AreOnce : List ℕ → Type 0
AreOnce [] = ⊤
AreOnce (first ∷ others) = (is_among others first ≡ false) × AreOnce others

-- how many of the places are not done, one that stands twice counted twice
abbrev pub left_of : List ℕ → List ℕ → ℕ
left_of done [] = 0
left_of done (place ∷ places) = (if is_among done place then 0 else 1) + left_of done places

-- how often the place stands among these
abbrev pub times : ℕ → List ℕ → ℕ
times place [] = 0
times place (first ∷ others) = (if first == place then 1 else 0) + times place others

-- those of the first places that wait for nothing are ready, each once, and no others are
pub record AreReady (waiting : List ℕ) (bound : ℕ) (ready : List ℕ) : Type 0 where
  pub each : (place : ℕ) → place < bound → slice_index waiting place ≡ 0 → is_among ready place ≡ true
  pub only : (place : ℕ) → is_among ready place ≡ true → (place < bound) × (slice_index waiting place ≡ 0)
  pub once : AreOnce ready

-- each place waits for so many that are left and for the users, from here on, that release it, and those are ready that
-- wait for nothing
pub record AreWaiting (left : ℕ → ℕ) (users waiting ready : List ℕ) : Type 0 where
  pub counts : (place : ℕ) → place < length waiting → slice_index waiting place ≡ left place + times place users
  pub are_ready : AreReady waiting (length waiting) ready

-- the later list begins with the earlier one
abbrev pub Extends : List ℕ → List ℕ → Type 0
Extends earlier later = (more : List ℕ) × (later ≡ earlier ++ more)
