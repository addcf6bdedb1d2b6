use Rattle.std.proofs.Common.{refl}
use Rattle.builtin_types.proofs.EnteredLemmas.{enter_told}
use Rattle.builtin_types.proofs.differing.enter.Goals as goal

pub returns : goal.returns
returns c = enter_told (λ k. k.now) c.args.name.now c.args.names.now.keys c.insert.new.self.keys c.args.name c.in_ok-insert.field-0 refl c.in_ok-insert.ensures.added c.in_ok-insert.ensures.keys
