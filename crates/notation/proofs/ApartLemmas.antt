-- Names that differ in the lists of an expression, also through what is known of the names in it.
use Rattle.std.proofs.Common.{◌≡◌, ◌≢◌, Bool, IsTrue, ◌<◌, ◌++◌, ◌⊎◌, inl, inr, ℕ, zero, suc, List, [], ◌∷◌, Option, Some, None, IfSome, Vec, Global, false, take, map, length, set, slice_get, get_or, refl, sym, ap, ◌∙◌, subst, arith}
use Rattle.std.specs.Prelude.{option_and_then, unwrap_or}
use Rattle.std.proofs.lemmas.Bool.{cases_eq}
use Rattle.std.proofs.lemmas.List.{length-set}
use Rattle.std.proofs.lemmas.Option.{slice_get_within}
use Rattle.syntax.specs.declared.tree.Group.{Group}
use Rattle.syntax.specs.declared.tree.Component.{Component}
use Rattle.syntax.specs.declared.tree.Alternative.{Alternative}
use Rattle.syntax.specs.declared.tree.Module.{Module}
use Rattle.syntax.specs.declared.tree.TagPrefix.{TagPrefix}
use Rattle.syntax.specs.Tree.{Ending, Form, tagged, list, of, choice, enumerated, named_bits, simple, reference, Components, no_component, next_component, Alternatives, no_alternative, next_alternative}
use Rattle.syntax.specs.View.{form, tree, component, alternative, components_of, alternatives_of}
use Rattle.builtin_types.specs.Names.{NamesDiffer}
use Rattle.notation.specs.Known.{IsScope, IsNewScope}
use Rattle.notation.specs.Settled.{place_in, known_at, known_of, IsSettled}
use Rattle.notation.specs.Waiting.{is_among}
use Rattle.notation.specs.Settling.{IsSettling}
use Rattle.notation.specs.Apart.{HasNamesApart, ComponentsHaveNamesApart, AlternativesHaveNamesApart, IsTold, IsApart, AreApart, CanMake}
use Rattle.notation.specs.declared.root.Root.{Root}
use Rattle.notation.specs.declared.weight.Weight.{Weight}
use Rattle.notation.specs.declared.scope.Seen.{Seen}
use Rattle.notation.specs.declared.scope.Scope.{Scope}
use Rattle.notation.proofs.ListLemmas.{names_of_components, names_of_alternatives}
use Rattle.notation.proofs.WaitingLemmas.{next_is_new}
use Rattle.notation.proofs.SettlingLemmas.{known_other, known_same}

-- names of another kind
module _ (P Q : List ℕ → Type 0) (more : (name : List ℕ) → P name → Q name) where
  mutual
    pub apart-kept : (f : Form) → HasNamesApart P f → HasNamesApart Q f
    apart-kept (tagged prefix f) h = apart-kept f h
    apart-kept (list group components) h = (h.0, components_apart-kept components h.1)
    apart-kept (of group f) h = apart-kept f h
    apart-kept (choice alternatives) h = (h.0, alternatives_apart-kept alternatives h.1)
    apart-kept (enumerated entries) h = h
    apart-kept (named_bits bits) h = h
    apart-kept (simple words) h = h
    apart-kept (reference name) h = more name h

    components_apart-kept : (components : Components) → ComponentsHaveNamesApart P components → ComponentsHaveNamesApart Q components
    components_apart-kept no_component h = h
    components_apart-kept (next_component name f ending others) h = (apart-kept f h.0, components_apart-kept others h.1)

    alternatives_apart-kept : (alternatives : Alternatives) → AlternativesHaveNamesApart P alternatives → AlternativesHaveNamesApart Q alternatives
    alternatives_apart-kept no_alternative h = h
    alternatives_apart-kept (next_alternative name f others) h = (apart-kept f h.0, alternatives_apart-kept others h.1)

module _ (P : List ℕ → Type 0) where
  -- one component more
  pub components_apart-more : (ws : List (List ℕ × Form × Ending)) (w : List ℕ × Form × Ending) → ComponentsHaveNamesApart P (components_of ws) → HasNamesApart P w.1 → ComponentsHaveNamesApart P (components_of (ws ++ w ∷ []))
  components_apart-more [] w h one = (one, tt)
  components_apart-more (x ∷ ws) w h one = (h.0, components_apart-more ws w h.1 one)

  pub alternatives_apart-more : (ws : List (List ℕ × Form)) (w : List ℕ × Form) → AlternativesHaveNamesApart P (alternatives_of ws) → HasNamesApart P w.1 → AlternativesHaveNamesApart P (alternatives_of (ws ++ w ∷ []))
  alternatives_apart-more [] w h one = (one, tt)
  alternatives_apart-more (x ∷ ws) w h one = (h.0, alternatives_apart-more ws w h.1 one)

  -- one of the components
  pub component_apart : (xs : List Component) (i : ℕ) (x : Component) → i < length xs → x ≡ get_or xs i x → ComponentsHaveNamesApart P (components_of (map component xs)) → HasNamesApart P (form x.body)
  component_apart [] i x within at h = absurd (omega (arith, within))
  component_apart (y ∷ ys) zero x within at h = subst (λ (z : Component). HasNamesApart P (form z.body)) (sym at) h.0
  component_apart (y ∷ ys) (suc i) x within at h = component_apart ys i x (omega (arith, within)) at h.1

  pub alternative_apart : (xs : List Alternative) (i : ℕ) (x : Alternative) → i < length xs → x ≡ get_or xs i x → AlternativesHaveNamesApart P (alternatives_of (map alternative xs)) → HasNamesApart P (form x.body)
  alternative_apart [] i x within at h = absurd (omega (arith, within))
  alternative_apart (y ∷ ys) zero x within at h = subst (λ (z : Alternative). HasNamesApart P (form z.body)) (sym at) h.0
  alternative_apart (y ∷ ys) (suc i) x within at h = alternative_apart ys i x (omega (arith, within)) at h.1

  -- the whole list
  pub list_apart : (group : Group) (ws : List (List ℕ × Form × Ending)) → NamesDiffer (map (λ (w : List ℕ × Form × Ending). w.0) ws) → ComponentsHaveNamesApart P (components_of ws) → HasNamesApart P (list group (components_of ws))
  list_apart group ws differ h = (subst NamesDiffer (sym (names_of_components ws)) differ, h)

  pub choice_apart : (ws : List (List ℕ × Form)) → NamesDiffer (map (λ (w : List ℕ × Form). w.0) ws) → AlternativesHaveNamesApart P (alternatives_of ws) → HasNamesApart P (choice (alternatives_of ws))
  choice_apart ws differ h = (subst NamesDiffer (sym (names_of_alternatives ws)) differ, h)

  pub components_differ : (group : Group) (ws : List (List ℕ × Form × Ending)) → HasNamesApart P (list group (components_of ws)) → NamesDiffer (map (λ (w : List ℕ × Form × Ending). w.0) ws)
  components_differ group ws h = subst NamesDiffer (names_of_components ws) h.0

  pub alternatives_differ : (ws : List (List ℕ × Form)) → HasNamesApart P (choice (alternatives_of ws)) → NamesDiffer (map (λ (w : List ℕ × Form). w.0) ws)
  alternatives_differ ws h = subst NamesDiffer (names_of_alternatives ws) h.0

-- what is known of a name is known of a place
placed : (seen : List (Option Seen)) (o : Option ℕ) (s : Seen) → option_and_then (known_at seen) o ≡ Some s → (place : ℕ) × (o ≡ Some place) × (known_at seen place ≡ Some s)
placed seen None s e = absurd cc
placed seen (Some place) s e = (place, refl, e)

known_within : (seen : List (Option Seen)) (place : ℕ) (s : Seen) → known_at seen place ≡ Some s → place < length seen
known_within seen place s e = slice_get_within seen place (Some s) (by_value (slice_get seen place) e)
  where
    by_value : (o : Option (Option Seen)) → unwrap_or o None ≡ Some s → o ≡ Some (Some s)
    by_value None e = absurd cc
    by_value (Some known) e = ap Some e

-- one more name is looked at
module _ (scope after : Scope) (place : ℕ) (x : Option Seen) (same_module : after.module ≡ scope.module) (is : after.seen.items ≡ set scope.seen.items place x) (new : known_at scope.seen.items place ≡ None) where
  known_moved : (name : List ℕ) → known_of (tree after.module.now) after.seen.items name ≡ option_and_then (known_at after.seen.items) (place_in (tree scope.module.now) name)
  known_moved name = ap (λ r. option_and_then (known_at after.seen.items) (place_in (tree r.now) name)) same_module

  told_kept : (name : List ℕ) → IsTold scope name → IsTold after name
  told_kept name (s, known, none) =
      let p = placed scope.seen.items (place_in (tree scope.module.now) name) s known in
      let other : place ≡ p.0 → ⊥ = λ same. absurd (let e : None ≡ Some s = sym new ∙ ap (known_at scope.seen.items) same ∙ p.2 in cc) in
      (s, known_moved name ∙ ap (option_and_then (known_at after.seen.items)) p.1 ∙ known_other scope.seen.items after.seen.items place p.0 x is other ∙ p.2, none)

  apart_moved : (f : Form) → IsApart scope f → IsApart after f
  apart_moved f h = apart-kept (IsTold scope) (IsTold after) told_kept f h

  pub apart_more : IfSome x (λ s. s.weight.cause ≡ None → IsApart scope (form s.root.expr.now)) → AreApart scope → AreApart after
  apart_more own h name s known none =
      let p = placed after.seen.items (place_in (tree scope.module.now) name) s (sym (known_moved name) ∙ known) in
      apart_moved (form s.root.expr.now) (by_place p.0 p.1 p.2 (cases_eq place p.0))
    where
      by_value : (o : Option Seen) → o ≡ Some s → IfSome o (λ t. t.weight.cause ≡ None → IsApart scope (form t.root.expr.now)) → IsApart scope (form s.root.expr.now)
      by_value None e g = absurd cc
      by_value (Some t) e g = let same : t ≡ s = cc in subst (λ (u : Seen). u.weight.cause ≡ None → IsApart scope (form u.root.expr.now)) same g none

      by_place : (p : ℕ) → place_in (tree scope.module.now) name ≡ Some p → known_at after.seen.items p ≡ Some s → (place ≡ p) ⊎ (place ≢ p) → IsApart scope (form s.root.expr.now)
      by_place p at here (inr ne) =
          h name s (ap (option_and_then (known_at scope.seen.items)) at ∙ sym (known_other scope.seen.items after.seen.items place p x is ne) ∙ here) none
      by_place p at here (inl same) =
          let below = known_within after.seen.items p s here in
          let long = ap length is ∙ length-set scope.seen.items place x in
          by_value x (sym (known_same scope.seen.items after.seen.items place x is (omega (arith, below, long, same))) ∙ ap (known_at after.seen.items) same ∙ here) own

-- of the next name that is looked at nothing is known yet
pub next_unknown : (m : Module) (seen : List (Option Seen)) (waiting ready : List ℕ) (users : List (Vec ℕ Global)) (turn place d : ℕ) → turn < length ready → place ≡ get_or ready turn d → IsSettling m seen waiting users ready turn → known_at seen place ≡ None
next_unknown m seen waiting ready users turn place d within is h = h.rest place (subst (λ (p : ℕ). is_among (take turn ready) p ≡ false) (sym is) (next_is_new ready turn d within h.wait.are_ready.once))

-- what a look tells
pub look_apart : (scope : Scope) (x : Option Seen) → IsScope scope.module.now scope → AreApart scope → IfSome x (λ s. IsScope scope.module.now scope → AreApart scope → s.weight.cause ≡ None → IsApart scope (form s.root.expr.now)) → IfSome x (λ s. s.weight.cause ≡ None → IsApart scope (form s.root.expr.now))
look_apart scope None known apart h = tt
look_apart scope (Some s) known apart h = h known apart

-- nothing is known yet
pub apart_start : (m : Module) (scope : Scope) → IsNewScope m scope → AreApart scope
apart_start m scope new name s known none =
    let p = placed scope.seen.items (place_in (tree scope.module.now) name) s known in
    absurd (new.new p.0 s (by_value (slice_get scope.seen.items p.0) p.2))
  where
    by_value : (o : Option (Option Seen)) → unwrap_or o None ≡ Some s → o ≡ Some (Some s)
    by_value None e = absurd cc
    by_value (Some known) e = ap Some e

-- a weight without a cause is that of before, and one cause more was none
pub unless_none : (w v : Weight) (holds : Bool) → (IsTrue holds → v ≡ w) → (v.cause ≡ None → IsTrue holds) → v.cause ≡ None → w.cause ≡ None
unless_none w v holds kept refused none = subst (λ (x : Weight). x.cause ≡ None) (kept (refused none)) none

-- what can make an expression can make what it is at its root, and each part of that
pub can_make-root : (scope : Scope) (f g : Form) (found : Option Root) (root : Root) → found ≡ Some root → IfSome found (λ root. IsScope scope.module.now scope → AreApart scope → IsApart scope f → IsApart scope (form root.expr.now)) → form root.expr.now ≡ g
    → CanMake scope.module.now scope f → CanMake scope.module.now scope g
can_make-root scope f g found root at h is can = record {
  settled = can.settled;
  apart = can.apart;
  own = subst (IsApart scope) is (subst (λ (r : Option Root). IfSome r (λ root. IsScope scope.module.now scope → AreApart scope → IsApart scope f → IsApart scope (form root.expr.now))) at h can.settled.known can.apart can.own);
}

pub can_make-tagged : (m : Module) (scope : Scope) (prefix : TagPrefix) (f : Form) → CanMake m scope (tagged prefix f) → CanMake m scope f
can_make-tagged m scope prefix f can = record { settled = can.settled; apart = can.apart; own = can.own }

pub can_make-of : (m : Module) (scope : Scope) (group : Group) (f : Form) → CanMake m scope (of group f) → CanMake m scope f
can_make-of m scope group f can = record { settled = can.settled; apart = can.apart; own = can.own }

pub can_make-component : (m : Module) (scope : Scope) (group : Group) (xs : List Component) (i : ℕ) (x : Component) → i < length xs → x ≡ get_or xs i x → CanMake m scope (list group (components_of (map component xs))) → CanMake m scope (form x.body)
can_make-component m scope group xs i x within at can = record { settled = can.settled; apart = can.apart; own = component_apart (IsTold scope) xs i x within at can.own.1 }

pub can_make-alternative : (m : Module) (scope : Scope) (xs : List Alternative) (i : ℕ) (x : Alternative) → i < length xs → x ≡ get_or xs i x → CanMake m scope (choice (alternatives_of (map alternative xs))) → CanMake m scope (form x.body)
can_make-alternative m scope xs i x within at can = record { settled = can.settled; apart = can.apart; own = alternative_apart (IsTold scope) xs i x within at can.own.1 }

-- what is known of a name without a cause to refuse it can make what the name is at its root
pub can_make-seen : (m : Module) (scope : Scope) (name : List ℕ) (seen : Seen) → IsSettled m scope → AreApart scope → known_of (tree m) scope.seen.items name ≡ Some seen → seen.weight.cause ≡ None → CanMake m scope (form seen.root.expr.now)
can_make-seen m scope name seen settled apart known none = record {
  settled = settled;
  apart = apart;
  own = apart name seen (subst (λ (i : Module). known_of (tree i) scope.seen.items name ≡ Some seen) (sym settled.known.module_is) known) none;
}
