use Rattle.std.proofs.Common.{false, refl, ◌≡◌, ◌-◌, ℕ, None, length, map, ap, subst, arith}
use Rattle.types.specs.View.{ComponentView, field_view}
use Rattle.encoding_parts.specs.HeldParts.{members_view}
use Rattle.berslice.specs.RenewedSet.{without}
use Rattle.berslice.proofs.RenewedSetLemmas.{filled_first, without_all}
use Rattle.berslice.proofs.renewed_set.RenewedSet.over.Goals as goal

pub returns-clause-none : goal.returns-clause-none
returns-clause-none c =
    let fields = c.args.fields.now in
    let slots = c.in-Ok.slots.items in
    let all : length fields ≡ length fields - 0 = omega arith in
    subst (λ (n : ℕ). members_view fields (without 0 n slots) ≡ members_view fields (map (λ (x : ComponentView). None) (map field_view fields))) all
    (ap (members_view fields) (without_all fields slots c.in-Ok.ensures))

pub returns-clause-filled : goal.returns-clause-filled
returns-clause-filled c = filled_first (record { set_components = record { fields = c.args.fields; slots = c.in-Ok.slots; behind = 0 }; first = 0; stop = length c.args.fields.now; has_passed = false }) refl refl
