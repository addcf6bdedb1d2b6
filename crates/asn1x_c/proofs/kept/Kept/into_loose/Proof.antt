-- `into_loose` gives the box's pointer back.
use Rattle.std.proofs.Common.{◌≡◌, List, [], ◌∷◌, ◌++◌, refl, sym, ap, ◌∙◌, subst, Option}
use mir.Val.{Val, vptr}
use base.Logic.{SProp, ent, id⊢, fst∗, never}
use base.Fml.{ftrue}
use prog.Wp.{WpFn}
use types.Kit.{‵, raw, ◌⊛◌, ◌$◌, ◌∵◌, !, qed, move, keep, drop, rewrite, split, join, fsplit, suffices, done}
use types.Run.{stop, fld, of_opd, no_more, and_then, returns, enter}
use types.ByLocal.{alloc_all, pass_all, free_all, look_at, get, get_in, sets}
use types.Part.{agg, sub, whole}
use contract.Running.{tables}
use denote.Exit.{yes}
use denote.RattleType.{RattleType, owns}
use denote.Signature.{types_at, plain}
use denote.RawPtr.{Ptr, block_ptr, null_ptr, in_a_block}
use denote.Memory.{lone}
use mir.Raw.{raw as bare}
use types.Logic.{sem}
use contract.Monad.{fact}
use Rattle.std.specs.Prelude.{◌≢◌, None}
use Rattle.asn1x_c.specs.Kept.{kept_owns}
use Rattle.std.specs.Box.Ownership.{box_owns}
use denote.Steps.{nothing, heard}
use denote.Triple.Walked.{Stays, stay_dropped, walk_of, says, ends_at}
use Rattle.std.proofs.alloc.Calls.{Goes-blank, handle_tells}
use Rattle.std.proofs.raw_atomic.Walks.{proved_at}
use Rattle.std.specs.contracts.alloc.Global as Heap
use Rattle.std.proofs.alloc.Global.TheLaws as heap
use Rattle.std.specs.contracts.impls.GlobalAllocator.TheImpl.{ghosts}
use Rattle.types.specs.contracts.well_typed.WellTyped as ty
use Rattle.asn1x_c.proofs.LooseValues.{both, Loose, loose_good, loose_in, al}
use Rattle.asn1x_c.proofs.KeptValues.{Kept, lone_ptr, kept_out, there}
use Rattle.asn1x_c.specs.contracts.kept.Kept.into_loose.{ended, clauses}
use Rattle.asn1x_c.specs.contracts.kept.Kept.into_loose.Key.{name as #self}
use Rattle.asn1x_c.proofs.kept.Kept.into_loose.Statement.{statement}
use Rattle.asn1x_c.proofs.kept.Kept.into_loose.Code as code

abbrev R : RattleType
R = ty.the_row

abbrev Z : RattleType
Z = Heap.the_row

abbrev To : RattleType
To = Loose R Z heap.the_row_laws ghosts

abbrev stayed : Stays ended.signature.params ended.kept
stayed = (stay_dropped (plain (λ _. Kept)) yes, (stay_dropped (plain (λ _. Z)) yes, tt))

pub into_loose_spec : {M : Type 1} → statement M
into_loose_spec 𝓤 𝓛 𝓜 𝓡 wired =
    let H = 𝓛.H in let 𝓣 = tables 𝓤 H 𝓜 𝓡 𝓡.env in let c = clauses 𝓛 𝓜.mem 𝓡.returns in let L = heap.the_row_laws in
    proved_at 𝓛 ended stayed c 𝓜 𝓡 (Goes-blank 𝓛 0 (plain (λ _. Kept)) yes (λ κs x f. tt), (Goes-blank 𝓛 0 (plain (λ _. Z)) yes (λ κs x f. tt), tt)) #self code.function (code.unfolded 𝓤 H 𝓜 𝓡 wired) (λ z are.
    let v = z.0.3.0 in let a = z.0.3.1.0 in let Post : Val → SProp 𝓤 = (walk_of 𝓛 ended stayed c).post z in let Run : List Val → SProp 𝓤 = λ ws. WpFn 𝓤 H 𝓣.C 𝓣.Λ code.function ws Post in
    qed 𝓛 ((‵ ftrue ⊛ ‵ (owns (types_at ended.signature.params tt) z.0.3 z.0.4)) ∷ raw (fact 𝓤 (v.ty ≢ None)) ∷ []) ∵ move ! (1 ∷ []) $ heard ! (v.ty ≢ None) (λ is_there. let has = there v.ty is_there in let x = has.0 in
    split ! $ drop ! $ fsplit ! $ kept_out ! v z.0.4.0 (λ ew. move ! (1 ∷ []) $ fsplit ! $ handle_tells (al R Z L ghosts) ! a z.0.4.1.0 (λ h eh fits. move ! (2 ∷ []) $
    rewrite ! 0 (λ (t : Option R.Denot). ‵ (kept_owns v.at t)) has.1 refl $
    in_a_block ! v.at (λ p. box_owns (ghosts.dealloc_token a) R p x) (fst∗ 𝓤 (never 𝓤) (sem 𝓛 (ghosts.dealloc_token a (bare (lone R.mir)) null_ptr))) (λ b o e.
    let w : Val = lone_ptr (block_ptr b o) in let ws : List Val = w ∷ h ∷ [] in let is : z.0.4.0 ≡ w ∷ [] = ew ∙ ap (λ (p : Ptr). lone_ptr p ∷ []) e in
    suffices ! (Run ws) (subst (λ (us : List Val). ent 𝓤 (Run ws) (Run us)) (sym (λ i. is i ++ (eh i ++ []))) (id⊢ 𝓤 (Run ws))) $
    enter ! 𝓣.C 𝓣.Λ code.function ws Post $ alloc_all ! (λ l. pass_all ! refl ((tt, (tt, tt)), (fits, tt)) $
    sets ! (of_opd ! (get_in ! (fld ! refl (stop !)) (sub ! 0 refl (whole !)))) refl (tt, tt) $
    sets ! (of_opd ! (get ! refl)) refl (tt, tt) $
    sets ! (agg ! (and_then ! (get ! refl) (and_then ! (get ! refl) (no_more !)))) refl (loose_good R Z L ghosts b o h fits) $
    returns ! (look_at ! 0 refl) $ free_all ! refl $ keep ! (0 ∷ 1 ∷ []) $ loose_in R Z L ghosts ! b o h a x $
    suffices ! _ (ends_at 𝓛 ended stayed c z (both (vptr b o) h) (record { at = block_ptr b o; alloc = a; value = x }) (tt, (tt, tt)) (tt, (tt, tt))) $ says ! has.1 $
    nothing ! $ nothing ! $ join ! $ nothing ! $ join ! $ nothing ! $ done !))))))
