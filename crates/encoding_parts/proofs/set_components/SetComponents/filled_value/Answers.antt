use Rattle.std.proofs.Common.{◌≡◌, ◌∙◌, ◌≤◌, List, Option, length, take, map, option_map, ap, sym, subst, arith}
use Rattle.std.proofs.lemmas.List.{length-take, with_items_is}
use Rattle.std.proofs.Math.Nat.{min-le_left}
use Rattle.std.specs.List.{AllZip}
use Rattle.types.specs.Shape.{Val}
use Rattle.types.specs.View.{value_view, slots_of}
use Rattle.types.specs.declared.value.Value.{Value}
use Rattle.types.proofs.ViewLemmas.{value-Fields}
use Rattle.encoding_parts.specs.HeldParts.{members_view}
use Rattle.encoding_parts.specs.Parts.{SetComponent, IsSettled}
use Rattle.encoding_parts.proofs.SetComponentLemmas.{AreSettled, members_cut, settled_length}
use Rattle.encoding_parts.proofs.set_components.SetComponents.filled_value.Goals as goal

pub returns : goal.returns
returns c =
    let fields = c.args.self.fields.now in
    let slots = c.args.self.slots.items in
    let kept = c.truncate.new.self in
    let new = c.drop_defaults.new.slots in
    let lent : c.deref_mut.result.now ≡ kept.items = c.deref_mut.ensures.value in
    let settled : AreSettled fields kept.items new = subst (λ (l : List (Option Value)). AreSettled fields l new) lent c.drop_defaults.ensures in
    let cut : kept.items ≡ take (length fields) slots = c.truncate.ensures.items in
    let same : members_view fields kept.items ≡ members_view fields slots = ap (members_view fields) cut ∙ members_cut fields slots in
    let within : length kept.items ≤ length fields = omega (arith, ap length cut ∙ length-take (length fields) slots, min-le_left (length fields) (length slots)) in
    let many : length new ≡ length kept.items = settled_length fields kept.items new within settled in
    record {
      filled = c.requires;
      slots = map (option_map value_view) new;
      each = subst (λ (l : List SetComponent). AllZip IsSettled l (map (option_map value_view) new)) same settled;
      value_is = value-Fields _ ∙ ap (λ (l : List (Option Value)). Val.fields (slots_of (map (option_map value_view) l))) (with_items_is kept new (many ∙ sym kept.ok.0));
    }
