use Rattle.std.proofs.Common.{◌≡◌, ◌∙◌, ◌+◌, ◌-◌, ◌<◌, ℕ, suc, List, [], ◌∷◌, ◌++◌, length, take, drop, get_or, ap, ap₂, sym, arith, append_assoc, length-append, take-suc, drop-cons}
use Rattle.canon.proofs.PartLemmas.{take_front, drop_front}
use Rattle.canon.proofs.heads.last_to_front.Goals as goal

-- one octet more before the others
one_more : (xs now new : List ℕ) (left rest : ℕ) → left ≡ suc rest → rest < length xs → now ≡ drop left xs ++ take left xs → new ≡ drop (length now - 1) now ++ take (length now - 1) now → new ≡ drop rest xs ++ take rest xs
one_more xs now new left rest next there is moved =
    let x = get_or xs rest 0 in
    let body = drop (suc rest) xs ++ take rest xs in
    let split : now ≡ body ++ x ∷ [] =
    is ∙ ap₂ (λ a b. drop a xs ++ take b xs) next next ∙ ap (λ t. drop (suc rest) xs ++ t) (take-suc xs rest 0 there) ∙ sym (append_assoc (drop (suc rest) xs) (take rest xs) (x ∷ [])) in
    let count : length now - 1 ≡ length body = omega (arith, ap length split, length-append body (x ∷ [])) in
    let last : drop (length now - 1) now ≡ x ∷ [] = ap (drop (length now - 1)) split ∙ drop_front body (x ∷ []) (length now - 1) count in
    let others : take (length now - 1) now ≡ body = ap (take (length now - 1)) split ∙ take_front body (x ∷ []) (length now - 1) count in
    moved ∙ ap₂ (λ a b. a ++ b) last others ∙ ap (λ a. a ++ take rest xs) (sym (drop-cons xs rest 0 there))

pub loop-done-preserved : goal.loop-done-preserved
loop-done-preserved c =
    let xs = c.args.octets.now in
    one_more xs c.loop-done.octets c.rotate_right-in-loop-done.new.self (length xs - c.loop-done.done) (length xs - (c.loop-done.done + 1)) (omega arith) (omega arith) c.loop-done.invariant c.rotate_right-in-loop-done.ensures.after
