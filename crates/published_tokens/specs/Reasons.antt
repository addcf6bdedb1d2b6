use Rattle.published_tokens.specs.declared.fault.Reason.{Reason}
use Rattle.published_tokens.specs.declared.fault.Reason.TheVariants.{NoToken, NumberTooGreat, Unexpected}
use Rattle.published_tokens.specs.declared.fault.Reason.TheVariants as reason
use Rattle.published_tokens.specs.declared.token.Kind.{Kind}
use Rattle.published_tokens.specs.declared.token.Kind.TheVariants.{Bad, Unclosed, TooGreat}
use Rattle.published_tokens.specs.declared.token.Token.{Token}
use Rattle.published_tokens.specs.declared.stop.Stop.{Stop}
use Rattle.published_tokens.specs.declared.stop.Stop.TheVariants.{Refused}

-- why a token is refused where another must stand
abbrev pub reason_of : Kind → Reason
reason_of Bad = NoToken
reason_of Unclosed = reason.Unclosed
reason_of TooGreat = NumberTooGreat
reason_of _ = Unexpected

-- how a token is refused where another must stand
abbrev pub refusal_of : Token → Stop
refusal_of token = Refused (record { place = token.place; reason = reason_of token.kind })
