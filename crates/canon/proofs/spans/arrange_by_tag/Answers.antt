use Rattle.std.proofs.Common.{◌∙◌, ◌++◌, List, take, subst, ap, map, rules}
use Rattle.std.proofs.lemmas.List.Sorted.{IsPermutation-refl}
use Rattle.octets.specs.declared.tag.Tag.{Tag}
use Rattle.octets.proofs.ResultLemmas.{OnOk-map}
use Rattle.canon.specs.Span.{RisesByTag}
use Rattle.canon.specs.declared.spans.Keyed.{Keyed}
use Rattle.canon.proofs.PartLemmas.{joined}
use Rattle.canon.proofs.SortLemmas.{rises_from_sort}
use Rattle.canon.proofs.spans.arrange_by_tag.Goals as goal

pub returns-then-rise-clause-arranged : goal.returns-then-rise-clause-arranged
returns-then-rise-clause-arranged c = record {
  order = c.args.parts.items;
  permutes = IsPermutation-refl c.args.parts.items;
  rises = subst (λ (ps : List (Keyed Tag)). RisesByTag (map (λ (p : Keyed Tag). p.key) ps)) c.deref.ensures.value (c.rise.ensures c.if-rise.true);
  is = c.requires.whole;
}

pub returns-clause-arranged : goal.returns-clause-arranged
returns-clause-arranged c =
    let old = c.args.out.now.items in
    let sorted = c.sort_unstable_by.new.self.items in
    OnOk-map c.join_again.result _ _
    (λ is. record {
      order = sorted;
      permutes = c.sort_unstable_by.ensures.permutation;
      rises = rises_from_sort (λ (p : Keyed Tag). p.key) sorted c.sort_unstable_by.ensures.sorted (λ a r g h. search rules);
      is = is ∙ ap (λ (ps : List (Keyed Tag)). take c.args.from old ++ joined old ps) c.deref-2.ensures.value;
    }) c.join_again.ensures.joined
