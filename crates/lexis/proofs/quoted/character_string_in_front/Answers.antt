use Rattle.lexis.proofs.StringLemmas.{string_token, no_string}
use Rattle.lexis.proofs.quoted.character_string_in_front.Goals as goal

pub returns-in-Some : goal.returns-in-Some
returns-in-Some c = string_token c.args.octets.now c.in-Some.rest c.requires.apart c.requires.first c.in-Some.ensures

pub returns-in-None : goal.returns-in-None
returns-in-None c = no_string c.args.octets.now c.requires.first c.in-None.ensures
