-- Components and alternatives as lists.
use Rattle.std.proofs.Common.{◌≡◌, ℕ, zero, suc, List, [], ◌∷◌, ◌++◌, length, refl, ap}
use Rattle.std.specs.Prelude.{All}
use Rattle.std.proofs.lemmas.List.Elements.{All-head, All-tail}
use Rattle.lexis.specs.declared.symbol.Symbol.TheVariants.{CloseBrace, Comma}
use Rattle.syntax.specs.Tree.{Ending, Form, Components, no_component, next_component, Alternatives, no_alternative, next_alternative}
use Rattle.syntax.specs.View.{components_of, alternatives_of}
use Rattle.lexis.specs.Signs.{Sign, symbol, identifier}
use Rattle.syntax.specs.Grammar.{ending, joined, behind, spelling, components, components_behind, alternatives, alternatives_behind}
use Rattle.syntax.specs.Limits.{Fits, FitsEnding, FitComponents, FitAlternatives, component_count, alternative_count}

abbrev pub Part : Type 0
Part = List ℕ × Form × Ending

abbrev pub comma : List Sign
comma = symbol Comma ∷ []

abbrev pub brace : List Sign
brace = symbol CloseBrace ∷ []

-- the terminals of a component, and of an alternative
abbrev pub part : Part → List Sign
part c = identifier c.0 ∷ (spelling c.1 ++ ending c.2)

abbrev pub option : List ℕ × Form → List Sign
option c = identifier c.0 ∷ spelling c.1

abbrev pub parts_in : Components → List Part
parts_in no_component = []
parts_in (next_component n f e others) = (n, f, e) ∷ parts_in others

abbrev pub options_in : Alternatives → List (List ℕ × Form)
options_in no_alternative = []
options_in (next_alternative n f others) = (n, f) ∷ options_in others

pub components-there : (cs : Components) → components_of (parts_in cs) ≡ cs
components-there no_component = refl
components-there (next_component n f e others) = ap (next_component n f e) (components-there others)

pub alternatives-there : (cs : Alternatives) → alternatives_of (options_in cs) ≡ cs
alternatives-there no_alternative = refl
alternatives-there (next_alternative n f others) = ap (next_alternative n f) (alternatives-there others)

components_behind-joined : (cs : List Part) → components_behind (components_of cs) ≡ behind part comma brace cs
components_behind-joined [] = refl
components_behind-joined (c ∷ cs) = ap (λ i. symbol Comma ∷ (part c ++ i)) (components_behind-joined cs)

pub components-joined : (cs : List Part) → components (components_of cs) ≡ joined part comma brace cs
components-joined [] = refl
components-joined (c ∷ cs) = ap (λ i. part c ++ i) (components_behind-joined cs)

alternatives_behind-joined : (cs : List (List ℕ × Form)) → alternatives_behind (alternatives_of cs) ≡ behind option comma brace cs
alternatives_behind-joined [] = refl
alternatives_behind-joined (c ∷ cs) = ap (λ i. symbol Comma ∷ (option c ++ i)) (alternatives_behind-joined cs)

pub alternatives-joined : (cs : List (List ℕ × Form)) → alternatives (alternatives_of cs) ≡ joined option comma brace cs
alternatives-joined [] = refl
alternatives-joined (c ∷ cs) = ap (λ i. option c ++ i) (alternatives_behind-joined cs)

pub component-count : (cs : List Part) → component_count (components_of cs) ≡ length cs
component-count [] = refl
component-count (c ∷ cs) = ap suc (component-count cs)

pub alternative-count : (cs : List (List ℕ × Form)) → alternative_count (alternatives_of cs) ≡ length cs
alternative-count [] = refl
alternative-count (c ∷ cs) = ap suc (alternative-count cs)

-- within n levels, its own included
abbrev pub FitsIn : ℕ → Form → Type 0
FitsIn zero f = ⊥
FitsIn (suc d) f = Fits d f

abbrev pub FitsPart : ℕ → Part → Type 0
FitsPart n c = FitsIn n c.1 × FitsEnding c.2

pub fit-components : (n : ℕ) (cs : List Part) → All (FitsPart n) cs → FitComponents n (components_of cs)
fit-components n [] h = tt
fit-components zero (c ∷ cs) h = (All-head (FitsPart zero) c cs h).0
fit-components (suc d) (c ∷ cs) h =
    let v = All-head (FitsPart (suc d)) c cs h in
    (v.0, v.1, fit-components (suc d) cs (All-tail (FitsPart (suc d)) c cs h))

pub fit-alternatives : (n : ℕ) (cs : List (List ℕ × Form)) → All (λ c. FitsIn n c.1) cs → FitAlternatives n (alternatives_of cs)
fit-alternatives n [] h = tt
fit-alternatives zero (c ∷ cs) h = All-head (λ (i : List ℕ × Form). FitsIn zero i.1) c cs h
fit-alternatives (suc d) (c ∷ cs) h =
    (All-head (λ (i : List ℕ × Form). FitsIn (suc d) i.1) c cs h, fit-alternatives (suc d) cs (All-tail (λ (i : List ℕ × Form). FitsIn (suc d) i.1) c cs h))
