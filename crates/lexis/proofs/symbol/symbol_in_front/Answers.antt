use Rattle.std.proofs.Common.{subst, arith}
use Rattle.lexis.proofs.SymbolLemmas.{symbol_token, no_symbol, NoLonger}
use Rattle.lexis.proofs.symbol.symbol_in_front.Goals as goal

pub returns-then-used-eq0 : goal.returns-then-used-eq0
returns-then-used-eq0 c = no_symbol c.args.octets.now c.requires.first (subst (NoLonger c.args.octets.now) c.if-used-eq0.true c.symbol_octets-used.ensures.longest)

pub returns : goal.returns
returns c =
    let found = c.symbol_octets-used.ensures in
    symbol_token c.args.octets.now c.symbol_octets-used.result c.requires.apart c.requires.first found.within (found.value (omega arith)) found.longest
