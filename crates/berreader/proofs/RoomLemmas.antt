-- Lemmas on a reader that has other room for a list.
use Rattle.std.proofs.Common.{◌≡◌, ℕ, List, ◌++◌, Option, Some, None, Vec, Global, sym, subst}
use Rattle.types.specs.declared.value.Value.{Value}
use Rattle.berreader.specs.declared.pieces.Pieces.{Pieces}
use Rattle.berreader.specs.Feeding.{HasBeenFed, HasValue, IsFed, shape_of}

-- the reader with this room
abbrev pub with_room : Pieces → Vec Value Global → Pieces
with_room pieces room = record { alloc = pieces.alloc; cursor = pieces.cursor; pending = pieces.pending; refused = pieces.refused; room = room }

fed_in_room : (pieces : Pieces) (room : Vec Value Global) (octets : List ℕ) → HasBeenFed pieces octets → HasBeenFed (with_room pieces room) octets
fed_in_room pieces room octets h = record { accepts = h.accepts; before = h.before; joined = h.joined; goes_on = h.goes_on; cut = h.cut; none = h.none }

is_fed_in_room : (old new : Pieces) (room : Vec Value Global) (octets piece : List ℕ) (whole : Option Value) (used : ℕ) → IsFed (with_room old room) new octets piece whole used → IsFed old new octets piece whole used
is_fed_in_room old new room octets piece None used h = h
is_fed_in_room old new room octets piece (Some value) used h = h

module _ (old mid : Pieces) (room : Vec Value Global) (is : mid ≡ with_room old room) where
  -- it has been fed what the other has
  fed : (octets : List ℕ) → HasBeenFed old octets → HasBeenFed mid octets
  fed octets h = subst (λ p. HasBeenFed p octets) (sym is) (fed_in_room old room octets h)

  -- and answers what the other does
  pub value_in_room : (new : Pieces) (piece : List ℕ) (whole : Option Value) (used : ℕ) → ((octets : List ℕ) → HasBeenFed mid octets → IsFed mid new octets piece whole used) → (octets : List ℕ) → HasBeenFed old octets → IsFed old new octets piece whole used
  value_in_room new piece whole used h octets before = is_fed_in_room old new room octets piece whole used (subst (λ p. IsFed p new octets piece whole used) is (h octets (fed octets before)))

  pub none_in_room : (piece : List ℕ) → ((octets more : List ℕ) → HasBeenFed mid octets → HasValue (shape_of mid) ((octets ++ piece) ++ more) → ⊥) → (octets more : List ℕ) → HasBeenFed old octets → HasValue (shape_of old) ((octets ++ piece) ++ more) → ⊥
  none_in_room piece h octets more before = subst (λ p. HasValue (shape_of p) ((octets ++ piece) ++ more) → ⊥) is (h octets more (fed octets before))
