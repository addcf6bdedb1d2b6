use Rattle.std.proofs.Common.{◌≡◌, ◌-◌, [], true, Err, sym, ap, subst}
use Rattle.types.specs.Encoding.{most_nested}
use Rattle.types.specs.Leaf.{tag_of}
use Rattle.types.specs.View.{ty_view}
use Rattle.encoding_parts.specs.Head.{IsReadTag}
use Rattle.berreader.specs.Nest.{end_inside, levels_left}
use Rattle.berreader.specs.Stack.{layers_of}
use Rattle.berreader.proofs.NestStepLemmas.{part_next, part_next_whole}
use Rattle.berreader.proofs.StringLemmas.{string_opened, tag_of_leaf}
use Rattle.encoding_parts.specs.Cut.{IsPartCut}
use Rattle.encoding_parts.proofs.RefusesLemmas.{passed_on}
use Rattle.berreader.proofs.CutLemmas.{part_cut}
use Rattle.berreader.proofs.nest.Nest.begin.Goals as goal

pub begin_string-requires-clause-tagged : goal.begin_string-requires-clause-tagged
begin_string-requires-clause-tagged c =
    let nest = c.args.self.now in
    let next = c.args.next in
    let node = ty_view next.node.now in
    let octets = c.args.octets.now in
    subst (λ e. IsReadTag (tag_of node) e nest.taken octets true next.identifier) (sym c.end.ensures)
    (subst (λ b. IsReadTag (tag_of node) (end_inside (layers_of nest.layers)) nest.taken octets b next.identifier) c.requires.constructed
    (subst (λ t. IsReadTag t (end_inside (layers_of nest.layers)) nest.taken octets next.constructed next.identifier) (sym (tag_of_leaf nest octets next c.requires.next.read c.requires.leaf)) c.requires.next.read.read))

pub returns-in_err-kind-clause-refused : goal.returns-in_err-kind-clause-refused
returns-in_err-kind-clause-refused c =
    let nest = c.args.self.now in
    let next = c.args.next in
    let here = c.requires.next in
    let node = ty_view next.node.now in
    let octets = c.args.octets.now in
    let said = c.in_err-kind.ensures in
    let levels : most_nested - c.depth-levels.result ≡ levels_left (layers_of nest.layers) = ap (λ k. most_nested - k) c.depth-levels.ensures in
    passed_on c.from_residual.result _ _ _ _ c.from_residual.ensures.1 (record {
      truncated = λ is h. said.truncated (ap Err is) (part_next_whole nest octets next c.end.result (most_nested - c.depth-levels.result) here.sound (here.no_end []) here.read c.end.ensures levels h);
      cut = λ is.
          part_cut nest octets next here.read
          (subst (λ t. IsPartCut t node (levels_left (layers_of nest.layers)) (end_inside (layers_of nest.layers)) nest.taken octets) (tag_of_leaf nest octets next here.read c.requires.leaf)
          (subst (λ e. IsPartCut (tag_of node) node (levels_left (layers_of nest.layers)) e nest.taken octets) c.end.ensures
          (subst (λ l. IsPartCut (tag_of node) node l c.end.result nest.taken octets) levels (said.cut (ap Err is)))));
      never = λ final more h. said.never final more (part_next nest octets more next c.end.result (most_nested - c.depth-levels.result) here.sound (here.no_end more) here.read c.end.ensures levels h);
      numbers = said.numbers;
    })

pub returns-clause-begun : goal.returns-clause-begun
returns-clause-begun c =
    let nest = c.args.self.now in
    let levels : most_nested - c.depth-levels.result ≡ levels_left (layers_of nest.layers) = ap (λ k. most_nested - k) c.depth-levels.ensures in
    string_opened nest c.args.octets.now c.args.next c.in_ok-kind.kind c.in_ok-kind.segments c.end.result (most_nested - c.depth-levels.result) c.in_ok-kind.used c.requires.next.read c.requires.leaf c.requires.constructed c.end.ensures levels c.in_ok-kind.ensures.begun
