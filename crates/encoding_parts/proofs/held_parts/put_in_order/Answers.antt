use Rattle.std.proofs.Common.{◌≡◌, ◌∙◌, ap, map, option_map, length, subst, sym, arith, None, Some}
use Rattle.types.specs.View.{value_view}
use Rattle.encoding_parts.proofs.HeldPartsLemmas.{IsPlace, place_of, put_at}
use Rattle.encoding_parts.proofs.held_parts.put_in_order.Goals as goal

pub offset_bounds-fields-len : goal.offset_bounds-fields-len
offset_bounds-fields-len c =
    let passed = ap (map (option_map value_view)) c.reserve.ensures.items ∙ c.in_ok-pass_over.ensures in
    let at = place_of c.args.fields.now (map (option_map value_view) c.args.slots.now.items) c.reserve.new.self.items c.args.which c.requires.0 passed c.requires.1 in
    omega (arith, at.below, c.len.ensures, c.reserve.new.self.ok.0)

pub bounds-fields-len : goal.bounds-fields-len
bounds-fields-len c =
    let passed = ap (map (option_map value_view)) c.reserve.ensures.items ∙ c.in_ok-pass_over.ensures in
    let at = place_of c.args.fields.now (map (option_map value_view) c.args.slots.now.items) c.reserve.new.self.items c.args.which c.requires.0 passed c.requires.1 in
    omega (arith, at.below, c.len.ensures, c.reserve.new.self.ok.0)

pub returns-then-is_default : goal.returns-then-is_default
returns-then-is_default c =
    let fields = c.args.fields.now in
    let slots = map (option_map value_view) c.args.slots.now.items in
    let held = c.reserve.new.self.items in
    let passed = ap (map (option_map value_view)) c.reserve.ensures.items ∙ c.in_ok-pass_over.ensures in
    let at = place_of fields slots held c.args.which c.requires.0 passed c.requires.1 in
    let many : c.len.result ≡ length held = c.len.ensures ∙ c.reserve.new.self.ok.0 in
    put_at fields slots held c.push_reserved.new.self.items c.args.which c.len.result c.requires.0 c.index-fields-len.result None (value_view c.args.value) c.requires.1
    (subst (IsPlace fields slots c.args.which) (sym many) at) c.index-fields-len.is (c.is_default.ensures.default c.if-is_default.true) passed c.push_reserved.ensures.items

pub returns-else-is_default : goal.returns-else-is_default
returns-else-is_default c =
    let fields = c.args.fields.now in
    let slots = map (option_map value_view) c.args.slots.now.items in
    let held = c.reserve.new.self.items in
    let passed = ap (map (option_map value_view)) c.reserve.ensures.items ∙ c.in_ok-pass_over.ensures in
    let at = place_of fields slots held c.args.which c.requires.0 passed c.requires.1 in
    let many : c.len.result ≡ length held = c.len.ensures ∙ c.reserve.new.self.ok.0 in
    put_at fields slots held c.push_reserved-else-is_default.new.self.items c.args.which c.len.result c.requires.0 c.index-fields-len.result (Some c.args.value) (value_view c.args.value) c.requires.1
    (subst (IsPlace fields slots c.args.which) (sym many) at) c.index-fields-len.is (c.is_default.ensures.other c.if-is_default.false) passed c.push_reserved-else-is_default.ensures.items
