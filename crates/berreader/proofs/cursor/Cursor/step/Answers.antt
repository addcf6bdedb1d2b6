use Rattle.std.proofs.Common.{◌≡◌, None, rules}
use Rattle.berreader.proofs.CursorLemmas.{nest_steps}
use Rattle.berreader.proofs.cursor.Cursor.step.Goals as goal

pub returns-then-is_none : goal.returns-then-is_none
returns-then-is_none c =
    let none : c.args.self.now.string ≡ None = search rules in
    let said = c.step.ensures in
    nest_steps c.args.self.now c.step.new.self c.step.new.string c.args.octets.now c.step.new.whole c.step.result none said.taken said.sound said.refused said.unchanged said.kept
