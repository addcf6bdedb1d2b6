use Rattle.std.proofs.Common.{◌≡◌, ◌∙◌, ◌++◌, ◌<◌, ◌≤◌, rules, ℕ, List, [], length, take, replicate, sym, ap, subst}
use Rattle.std.specs.Int.Count.{count_trailing_zeros}
use Rattle.primitives.specs.Bits.{IsPadded, bits_before}
use Rattle.primitives.proofs.TrimLemmas.{IsTrimming, IsTrimming-none, IsTrimming-from_front, trimmed_front}
use Rattle.primitives.proofs.bits.Bits.trimmed.Goals as goal

pub returns-then-count-eq0-clause-front : goal.returns-then-count-eq0-clause-front
returns-then-count-eq0-clause-front c =
    let o : List ℕ = c.self.inside.octets.items in
    let p : List ℕ = c.truncate.new.self.items in
    let count : ℕ = c.count_before_zeros-count.result in
    let u : ℕ = c.self.inside.unused in
    let f : IsPadded c.args.self o u = subst (λ t. IsPadded t o u) c.self.view_is c.self.invariant in
    let none : p ≡ [] = c.truncate.ensures.items ∙ ap (λ n. take n o) c.if-count-eq0.true in
    let h : IsTrimming p 0 = IsTrimming-none p none in
    let zeros : (n : ℕ) × (o ≡ take count o ++ replicate n 0) = subst (λ t. (n : ℕ) × (t ≡ take count t ++ replicate n 0)) c.deref.ensures.value c.count_before_zeros-count.ensures.zeros in
    let parts : o ≡ p ++ replicate zeros.0 0 = zeros.1 ∙ ap (λ t. t ++ replicate zeros.0 0) (sym c.truncate.ensures.items) in
    trimmed_front c.args.self (bits_before p 0) o p u 0 zeros.0 f h.padded h.trimmed parts

pub invariant_of-result-2 : goal.invariant_of-result-2
invariant_of-result-2 c =
    let o : List ℕ = c.self.inside.octets.items in
    let p : List ℕ = c.truncate.new.self.items in
    let count : ℕ = c.count_before_zeros-count.result in
    let within : count ≤ length o = subst (λ t. count ≤ length t) c.deref.ensures.value c.count_before_zeros-count.ensures.within in
    let last : 0 < c.index.result.now = search rules in
    let h = IsTrimming-from_front o p count c.index.result.now c.self.invariant.below_256 c.truncate.ensures.items within c.if-count-eq0.false c.index.ensures last in
    h.padded

pub returns-clause-front : goal.returns-clause-front
returns-clause-front c =
    let o : List ℕ = c.self.inside.octets.items in
    let p : List ℕ = c.truncate.new.self.items in
    let count : ℕ = c.count_before_zeros-count.result in
    let u : ℕ = c.self.inside.unused in
    let v : ℕ = count_trailing_zeros 8 c.index.result.now in
    let f : IsPadded c.args.self o u = subst (λ t. IsPadded t o u) c.self.view_is c.self.invariant in
    let within : count ≤ length o = subst (λ t. count ≤ length t) c.deref.ensures.value c.count_before_zeros-count.ensures.within in
    let last : 0 < c.index.result.now = search rules in
    let h = IsTrimming-from_front o p count c.index.result.now c.self.invariant.below_256 c.truncate.ensures.items within c.if-count-eq0.false c.index.ensures last in
    let zeros : (n : ℕ) × (o ≡ take count o ++ replicate n 0) = subst (λ t. (n : ℕ) × (t ≡ take count t ++ replicate n 0)) c.deref.ensures.value c.count_before_zeros-count.ensures.zeros in
    let parts : o ≡ p ++ replicate zeros.0 0 = zeros.1 ∙ ap (λ t. t ++ replicate zeros.0 0) (sym c.truncate.ensures.items) in
    trimmed_front c.args.self (bits_before p v) o p u v zeros.0 f h.padded h.trimmed parts

pub returns-clause-trimmed : goal.returns-clause-trimmed
returns-clause-trimmed c =
    let o : List ℕ = c.self.inside.octets.items in
    let p : List ℕ = c.truncate.new.self.items in
    let count : ℕ = c.count_before_zeros-count.result in
    let within : count ≤ length o = subst (λ t. count ≤ length t) c.deref.ensures.value c.count_before_zeros-count.ensures.within in
    let last : 0 < c.index.result.now = search rules in
    let h = IsTrimming-from_front o p count c.index.result.now c.self.invariant.below_256 c.truncate.ensures.items within c.if-count-eq0.false c.index.ensures last in
    h.trimmed
