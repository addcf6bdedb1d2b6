-- A constructed string of which some octets have come, in the nest that it belongs to.
use Rattle.std.specs.Prelude.{◌≡◌, ◌≤◌, ℕ, true, List, length, take, Option, None, Some}
use Rattle.types.specs.Leaf.{IsLeaf}
use Rattle.types.specs.declared.value.Value.{Value}
use Rattle.types.specs.View.{ty_view}
use Rattle.berreader.specs.declared.nest.Nest.{Nest}
use Rattle.berreader.specs.declared.nest.OpenString.{OpenString}
use Rattle.encoding_parts.specs.Joined.{IsStringOf}
use Rattle.berreader.specs.Nest.{IsReadNext, IsStep, end_inside, levels_left}
use Rattle.encoding_parts.specs.Segments.{IsPassed, IsSound}
use Rattle.berreader.specs.Stack.{layers_of}

-- these octets are the front of a constructed string that may come next in the nest
pub record IsString (nest : Nest) (string : OpenString) (passed : List ℕ) : Type 0 where
  pub next : IsReadNext nest passed string.next
  pub leaf : IsLeaf (ty_view string.next.node.now)
  pub kind : IsStringOf string.kind (ty_view string.next.node.now)
  pub constructed : string.next.constructed ≡ true
  pub segments : IsPassed string.kind (levels_left (layers_of nest.layers)) (end_inside (layers_of nest.layers)) nest.taken string.next.identifier string.segments passed

-- what is known of a constructed string whatever has come of it
pub record IsSoundString (nest : Nest) (string : OpenString) : Type 0 where
  pub segments : IsSound string.kind string.segments
  pub levels : string.segments.levels ≡ levels_left (layers_of nest.layers)
  pub octets : List ℕ
  pub begun : IsString nest string octets

-- a constructed string begins with so many of the octets
pub record IsOpenedString (old new : Nest) (octets : List ℕ) (string : OpenString) (used : ℕ) : Type 0 where
  pub there : used ≤ length octets
  pub some : 2 ≤ used
  pub same : new ≡ old
  pub begun : IsString old string (take used octets)
  pub sound : IsSoundString old string
  pub frames : length string.segments.frames.items ≡ 1

-- what was found at the front of the octets: what a step takes, or a constructed string that begins
abbrev pub IsFound : Nest → Nest → List ℕ → Option OpenString → Option Value → ℕ → Type 0
IsFound old new octets None whole used = IsStep old new octets whole used
IsFound old new octets (Some string) None used = IsOpenedString old new octets string used
IsFound old new octets (Some string) (Some value) used = ⊥

-- these octets were a constructed string
abbrev pub IsClosed : Nest → Nest → List ℕ → Option Value → ℕ → Type 0
IsClosed old new passed whole used = (used ≡ length passed) × IsStep old new passed whole used
