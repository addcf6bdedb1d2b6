use Rattle.std.proofs.Common.{◌≡◌, ◌+◌, List, [], ◌∷◌, ◌++◌, ℕ, map, take, sym, ap, ◌∙◌, arith}
use Rattle.std.proofs.lemmas.List.{map-append, map_more}
use Rattle.types.specs.declared.ty.NamedBit.{NamedBit as TypeBit}
use Rattle.types.specs.Shape.{NamedBitView}
use Rattle.types.specs.View.{named_bit_view}
use Rattle.syntax.specs.declared.tree.NamedBit.{NamedBit}
use Rattle.syntax.specs.View.{bit}
use Rattle.builtin_types.specs.Universal.{named_bit}
use Rattle.builtin_types.proofs.bits.named_bits.Goals as goal

pub loop-bit-preserved : goal.loop-bit-preserved
loop-bit-preserved c =
    let bits = c.args.bits.now in
    let i = c.loop-bit.bit-index in
    let x = c.bit-item.result in
    let old = c.loop-bit.made.items in
    let y : TypeBit = record { name = c.in_ok-clone.field-0; number = x.number } in
    let pushed : map named_bit_view c.push.new.self.items ≡ map named_bit_view old ++ named_bit_view y ∷ [] = ap (λ (l : List TypeBit). map named_bit_view l) c.in_ok-push.ensures.items ∙ map-append named_bit_view old (y ∷ []) in
    let same : named_bit_view y ≡ named_bit (bit x) = ap (λ (name : List ℕ). record { name = name; number = x.number }) c.in_ok-clone.ensures.cases in
    let front = map bit (take i bits) in
    let more : map bit (take (i + 1) bits) ≡ front ++ bit x ∷ [] = map_more bit bits i x (omega arith) ∙ ap (λ (b : NamedBit). front ++ bit b ∷ []) (sym c.bit-item.is) in
    pushed ∙ ap (λ (l : List NamedBitView). l ++ named_bit_view y ∷ []) c.loop-bit.invariant ∙ ap (λ (v : NamedBitView). map named_bit front ++ v ∷ []) same ∙ sym (ap (λ (l : List (List ℕ × ℕ)). map named_bit l) more ∙ map-append named_bit front (bit x ∷ []))
