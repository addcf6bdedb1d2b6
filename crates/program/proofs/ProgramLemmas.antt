-- The program's command is one of which `clap` gives the matches.
use Rattle.std.proofs.Common.{◌≡◌, ◌∙◌, true, ap, refl}
use Rattle.clap.specs.Words.{App, is_simple, is_simple_and_free}
use Rattle.clap.specs.declared.builder.value_parser.ValueParser.{ValueParser}
use Rattle.clap.proofs.OnLiterals.{clap_on_literals}
use Rattle.program.specs.Program.{IsProgram, program_app}

written_simple : (show check convert to : ValueParser) → is_simple (program_app show check convert to) ≡ true
unfolding clap_on_literals
written_simple show check convert to = refl

pub program_simple : (app : App) → IsProgram app → is_simple app ≡ true
program_simple app program = ap is_simple program.is ∙ written_simple program.show program.check program.convert program.to

written_free : (show check convert to : ValueParser) → is_simple_and_free (program_app show check convert to) ≡ true
unfolding clap_on_literals
written_free show check convert to = refl

pub program_free : (app : App) → IsProgram app → is_simple_and_free app ≡ true
program_free app program = ap is_simple_and_free program.is ∙ written_free program.show program.check program.convert program.to
