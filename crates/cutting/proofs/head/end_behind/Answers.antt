use Rattle.std.proofs.Common.{◌≡◌, ◌∷◌, suc, true, drop, subst, sym, drop-cons, ap, ◌∙◌}
use Rattle.cutting.specs.Heads.{IsReadEnd}
use Rattle.cutting.proofs.ReadLemmas.{constructed_end_never, other_end_never, cut_end_none}
use Rattle.cutting.proofs.head.end_behind.Goals as goal

pub returns-then-constructed : goal.returns-then-constructed
returns-then-constructed c =
    let read : IsReadEnd c.args.octets.now true c.args.at = subst (λ j. IsReadEnd c.args.octets.now j c.args.at) c.if-constructed.true c.requires in
    (tt, λ e. cc e, λ more. constructed_end_never c.args.octets.now more c.args.at read)

pub returns-in-Some : goal.returns-in-Some
returns-in-Some c =
    let octets = c.args.octets.now in
    let octet = c.in-Some.field-0.now in
    let there = c.in-Some.ensures.lookup in
    let is : drop c.args.at octets ≡ octet ∷ drop (suc c.args.at) octets = drop-cons octets c.args.at octet there.3.0 ∙ ap (λ x. x ∷ drop (suc c.args.at) octets) (sym there.1) in
    (tt, λ e. cc e, λ more. other_end_never octets more c.args.constructed c.args.at octet (drop (suc c.args.at) octets) c.requires is c.in-Some.field-0-test.1)

pub returns-in-None : goal.returns-in-None
returns-in-None c = cut_end_none c.args.octets.now c.args.constructed c.args.at c.requires c.in-None.ensures.lookup.3
