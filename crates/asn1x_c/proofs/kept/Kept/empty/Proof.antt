-- `empty` makes a pointer that owns nothing.
use Rattle.std.proofs.Common.{[], ◌∷◌, refl, lit<, None}
use base.Fml.{ftrue}
use types.Kit.{‵, ◌⊛◌, ◌$◌, ◌∵◌, !, qed, drop, suffices, done}
use types.Run.{lit, no_more, and_then, returns, enter}
use types.ByLocal.{alloc_all, pass_all, free_all, look_at, sets}
use types.Part.{agg}
use contract.Running.{tables}
use denote.RawPtr.{null_ptr}
use denote.Steps.{nothing}
use denote.Triple.Walked.{walk_of, says, ends_at}
use Rattle.std.proofs.raw_atomic.Walks.{proved_at}
use Rattle.asn1x_c.proofs.KeptValues.{lone_ptr, kept_in}
use Rattle.asn1x_c.specs.contracts.kept.Kept.empty.{ended, clauses}
use Rattle.asn1x_c.specs.contracts.kept.Kept.empty.Key.{name as #self}
use Rattle.asn1x_c.proofs.kept.Kept.empty.Statement.{statement}
use Rattle.asn1x_c.proofs.kept.Kept.empty.Code as code

pub empty_spec : {M : Type 1} → statement M
empty_spec 𝓤 𝓛 𝓜 𝓡 wired =
    let H = 𝓛.H in let 𝓣 = tables 𝓤 H 𝓜 𝓡 𝓡.env in let c = clauses 𝓛 𝓜.mem 𝓡.returns in
    proved_at 𝓛 ended tt c 𝓜 𝓡 tt #self code.function (code.unfolded 𝓤 H 𝓜 𝓡 wired) (λ z are.
    qed 𝓛 ((‵ ftrue ⊛ ‵ ftrue) ∷ ‵ ftrue ∷ []) ∵ drop ! $ drop ! $
    enter ! 𝓣.C 𝓣.Λ code.function [] ((walk_of 𝓛 ended tt c).post z) $ alloc_all ! (λ l. pass_all ! refl tt $
    sets ! (agg ! (and_then ! (lit ! tt) (no_more !))) refl (tt, (record { fits = lit< tt }, tt)) $
    returns ! (look_at ! 0 refl) $ free_all ! refl $
    suffices ! _ (ends_at 𝓛 ended tt c z (lone_ptr null_ptr) (record { at = null_ptr; ty = None }) tt tt) $ says ! refl $
    nothing ! $ kept_in ! null_ptr None $ nothing ! $ nothing ! $ done !))
