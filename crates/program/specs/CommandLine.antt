-- The program's command line, as words.
use Rattle.std.specs.Prelude.{ℕ, List, codes, map}
use denote.Bor.{Bor}
use Rattle.program.specs.declared.command_line.Verb.{Verb}
use Rattle.program.specs.declared.command_line.Verb.TheVariants.{Show, Check, Convert}
use Rattle.engine.specs.declared.rule.Rule.{Rule}
use Rattle.engine.specs.declared.rule.Rule.TheVariants.{Ber, Cer as ReadCer, Der as ReadDer}
use Rattle.engine.specs.Canonical.{Canonical}
use Rattle.engine.specs.Canonical.TheVariants.{Cer, Der}

-- the octets of each word
abbrev pub texts_of : List (Bor (List ℕ)) → List (List ℕ)
texts_of words = map (λ word. word.now) words

abbrev pub word_of_verb : Verb → List ℕ
word_of_verb Show = codes "show"
word_of_verb Check = codes "check"
word_of_verb Convert = codes "convert"

abbrev pub word_of_rule : Rule → List ℕ
word_of_rule Ber = codes "ber"
word_of_rule ReadCer = codes "cer"
word_of_rule ReadDer = codes "der"

abbrev pub word_of_canonical : Canonical → List ℕ
word_of_canonical Cer = codes "cer"
word_of_canonical Der = codes "der"
