-- A name that is refused means no well-formed type.
use Rattle.std.proofs.Common.{◌≡◌, ◌<◌, ℕ, Bool, IsTrue, List, Option, None, Some, map, slice_get, refl, sym, ap, ◌∙◌, subst, arith}
use Rattle.std.specs.Prelude.{option_and_then}
use Rattle.std.proofs.lemmas.List.{get_or-take, length-take-le}
use Rattle.std.proofs.lemmas.Option.{slice_get_within, get_or_from_slice_get}
use Rattle.types.specs.Shape.{Shape}
use Rattle.types.specs.WellFormed.{IsWellFormed}
use Rattle.syntax.specs.Tree.{Form, reference, Tree}
use Rattle.syntax.specs.View.{form, tree}
use Rattle.syntax.specs.declared.tree.Module.{Module}
use Rattle.builtin_types.specs.Names.{NamesDiffer, IsFirstRepeat}
use Rattle.builtin_types.specs.declared.stop.Cause.{Cause}
use Rattle.notation.specs.Meaning.{NameMeans}
use Rattle.notation.specs.Under.{MeansUnder, IsAtRoot}
use Rattle.notation.specs.Size.{HaveSize}
use Rattle.notation.specs.Refused.{HasNoType, HasNoTypeWithin}
use Rattle.notation.specs.Known.{LeadsTo, StandsAt}
use Rattle.notation.specs.Settled.{place_in, known_of, known_at, IsSettled}
use Rattle.notation.specs.Weighed.{IsWeight, AreWeighed}
use Rattle.notation.specs.Apart.{AreApart, CanMake}
use Rattle.notation.specs.declared.root.Root.{Root}
use Rattle.notation.specs.declared.scope.Seen.{Seen}
use Rattle.notation.specs.declared.scope.Scope.{Scope}
use Rattle.notation.specs.declared.weight.Weight.{Weight}
use Rattle.notation.proofs.RefusedLemmas.{no_type-root}
use Rattle.notation.proofs.UniqueLemmas.{one_type}
use Rattle.notation.proofs.WeighedLemmas.{weighs_unless}
use Rattle.notation.proofs.WeighingLemmas.{weighs_own, weighs_seen}
use Rattle.notation.proofs.KnownLemmas.{reference_leads}
use Rattle.notation.proofs.ApartLemmas.{can_make-seen}

-- a name that stands twice in front of the place
pub repeat_refused : (names : List (List ℕ)) (place : ℕ) → IsFirstRepeat names place → NamesDiffer names → ⊥
repeat_refused names place h differ =
    let within = slice_get_within names place h.name h.at in
    let front = length-take-le place names (omega (arith, within)) in
    let c = h.earlier in
    let before : c.0 < place = (let below = c.1 in omega (arith, below, front)) in
    let first = sym (get_or-take place names c.0 h.name before) ∙ c.2 in
    let second = get_or_from_slice_get names place h.name h.name h.at in
    differ c.0 place h.name before within (first ∙ sym second)

-- a cause that was found while the expression was weighed, or the tag of its root
pub weight_refused : (m : Tree) (f : Form) (root : Root) (w v : Weight) (within : Bool) → LeadsTo m None f root → (IsAtRoot m (form root.expr.now) → (IsTrue within → ⊥) → HasNoType m root.tag (form root.expr.now))
    → (IsTrue within → v ≡ w) → (v.cause ≡ None → IsTrue within) → (v.cause ≡ None → ⊥) → IsWeight m f w → HasNoType m None f
weight_refused m f root w v within leads told kept refused some h =
    (weighs_unless (HaveSize m f) (HasNoType m None f) w v within kept refused (λ lost. no_type-root m None root.tag f (form root.expr.now) leads (told leads.at_root lost)) (weighs_own m f w h)).never some

-- nothing is made of the root
pub made_refused : (m : Tree) (f : Form) (root : Root) → LeadsTo m None f root → HasNoTypeWithin m 4_096 root.tag (form root.expr.now) → HasNoType m None f
made_refused m f root leads none whole d good = none whole ((leads.same whole).0 d) (record { good = good; few = good.limits.nodes })

-- what is made of it is not well formed, and nothing else can be made
pub judged_refused : (m : Tree) (f : Form) (root : Root) (type : Shape) → NamesDiffer (map (λ (a : List ℕ × Form). a.0) m.assignments) → LeadsTo m None f root → MeansUnder m root.tag (form root.expr.now) type → (IsWellFormed type → ⊥) → HasNoType m None f
judged_refused m f root type differ leads made bad whole d good =
    let u = (leads.same type).1 made in
    let same = one_type m f d.type u.type (record { names_differ = differ; meaning = d.meaning }) (record { names_differ = differ; meaning = u.meaning }) in
    bad (subst IsWellFormed (d.under ∙ same ∙ sym u.under) good)

pub no_cause : (cause : Cause) → Some cause ≡ None → ⊥
no_cause cause e = absurd cc

pub no_some : (cause : Option Cause) → ((x : Cause) → cause ≡ Some x → ⊥) → cause ≡ None
no_some None not = refl
no_some (Some x) not = absurd (not x refl)

-- so for the name
pub name_refused : (m : Tree) (name : List ℕ) → HasNoType m None (reference name) → (type : Shape) → NameMeans m name type → IsWellFormed type → ⊥
name_refused m name none type means good = none type (record { type = type; meaning = means.meaning; under = refl }) good

-- what is made of what is known of it
pub type_refused : (m : Module) (scope : Scope) (name : List ℕ) (place : ℕ) (seen : Seen) → IsSettled m scope → AreWeighed m scope → AreApart scope → StandsAt m name place → Some place ≡ place_in (tree m) name → Some seen ≡ known_at scope.seen.items place → slice_get scope.seen.items place ≡ Some (Some seen)
    → ((seen.weight.cause ≡ None → CanMake scope.module.now scope (form seen.root.expr.now)) → (f : Form) → LeadsTo (tree scope.module.now) None f seen.root → IsWeight (tree scope.module.now) f seen.weight → HasNoType (tree scope.module.now) None f) → (type : Shape) → NameMeans (tree m) name type → IsWellFormed type → ⊥
type_refused m scope name place seen s weighed apart stands placed known at none =
    let told : known_of (tree m) scope.seen.items name ≡ Some seen = ap (option_and_then (known_at scope.seen.items)) (sym placed) ∙ sym known in
    let moved = subst (λ (i : Module). (seen.weight.cause ≡ None → CanMake i scope (form seen.root.expr.now)) → (f : Form) → LeadsTo (tree i) None f seen.root → IsWeight (tree i) f seen.weight → HasNoType (tree i) None f) s.known.module_is none in
    name_refused (tree m) name (moved (can_make-seen m scope name seen s apart told) (reference name) (reference_leads m scope name place seen s.known stands at) (weighs_seen m scope name seen s.known weighed told))
