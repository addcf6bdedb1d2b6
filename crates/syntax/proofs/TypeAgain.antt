-- Types: what is spelled is read again, where that follows it which may follow a type.
use Rattle.std.proofs.Common.{◌≡◌, ℕ, zero, suc, ◌≤◌, List, [], ◌∷◌, ◌++◌, length, refl, sym, ◌∙◌, ap, arith, Some, Bool, true, false, append_assoc}
use Rattle.std.specs.Prelude.{All}
use Rattle.std.proofs.lemmas.List.Elements.{All-nil, All-cons}
use Rattle.lexis.specs.declared.symbol.Symbol.TheVariants.{OpenBrace, OpenBracket}
use Rattle.lexis.specs.declared.word.Word.TheVariants.{Bit, Choice, Enumerated, Of, String}
use Rattle.syntax.specs.declared.tree.Group.{Group}
use Rattle.syntax.specs.declared.tree.Group.TheVariants.{Sequence as InOrder, Set as InAnyOrder}
use Rattle.syntax.specs.declared.tree.TagPrefix.{TagPrefix}
use Rattle.syntax.specs.declared.tree.Simple.{Simple}
use Rattle.syntax.specs.declared.tree.Simple.TheVariants.{BitString, Boolean}
use Rattle.syntax.specs.Tree.{Ending, required, optional, default, Entry, Form, tagged, list, of, choice, enumerated, named_bits, simple, reference, Components, no_component, next_component, Alternatives, no_alternative, next_alternative}
use Rattle.syntax.specs.View.{components_of, alternatives_of}
use Rattle.lexis.specs.Signs.{Sign, word, symbol, identifier}
use Rattle.syntax.specs.Grammar.{ending, item, named_bit, joined, spelling, components, alternatives}
use Rattle.syntax.specs.Words.{group_word, simple_type}
use Rattle.syntax.specs.Limits.{Fits, FitsEntry, FitsEnding, FitComponents, FitAlternatives, component_count, alternative_count}
use Rattle.syntax.specs.Reading.{Reads, symbol_at, word_at, identifier_at, more_at}
use Rattle.syntax.specs.ValueReading.{item_at}
use Rattle.syntax.specs.TypeReading.{named_at, component_at, alternative_at, components_at, list_at, of_at, group_at, choice_at, enumerated_at, tagged_at, shape_at, type_at}
use Rattle.syntax.specs.BitReading.{bit_string_at}
use Rattle.syntax.specs.SimpleReading.{simple_at, behind_at, plain_at}
use Rattle.syntax.proofs.ValueReading.{mark, ending-again, end-again, item-again}
use Rattle.syntax.proofs.PrefixReading.{prefix_word, prefix-shape, prefix-again}
use Rattle.syntax.proofs.ListReading.{more-again}
use Rattle.syntax.proofs.BitReading.{Follows, bit_list-again, bit_string-again}
use Rattle.syntax.proofs.TypeLists.{Part, comma, brace, part, option, parts_in, options_in, components-there, alternatives-there, components-joined, alternatives-joined, component-count, alternative-count}

-- p reads f again
abbrev pub Again : Reads Form → Form → Type 0
Again p f = (r : List Sign) → Follows r → p (spelling f ++ r) ≡ Some (f, r)

-- p reads the component's type again
record GoodPart (p : Reads Form) (c : Part) : Type 0 where
  again : Again p c.1
  fits : FitsEnding c.2

record GoodOption (p : Reads Form) (c : List ℕ × Form) : Type 0 where
  again : Again p c.1

-- what may follow a type: `,`, `}`, and what begins an ending
mark-follows : (b : Bool) (r : List Sign) → Follows (mark b ++ r)
mark-follows true r = refl
mark-follows false r = refl

ending-follows : (v : Ending) (b : Bool) (r : List Sign) → Follows (ending v ++ (mark b ++ r))
ending-follows required b r = mark-follows b r
ending-follows optional b r = refl
ending-follows (default v) b r = refl

named-again : (p : Reads Form) (n : List ℕ) (f : Form) (r : List Sign) → Follows r → Again p f → named_at p (identifier n ∷ (spelling f ++ r)) ≡ Some ((n, f), r)
unfolding named_at identifier_at
named-again p n f r next again = rw (again r next) refl

component-again : (p : Reads Form) (c : Part) (b : Bool) (r : List Sign) → GoodPart p c → component_at p (part c ++ (mark b ++ r)) ≡ Some ((c, b), r)
unfolding component_at
component-again p c b r g =
    let whole : part c ++ (mark b ++ r) ≡ identifier c.0 ∷ (spelling c.1 ++ (ending c.2 ++ (mark b ++ r))) = ap (λ i. identifier c.0 ∷ i) (append_assoc (spelling c.1) (ending c.2) (mark b ++ r)) in
    ap (component_at p) whole ∙ rw (named-again p c.0 c.1 (ending c.2 ++ (mark b ++ r)) (ending-follows c.2 b r) g.again) (rw (ending-again c.2 b r g.fits) (rw (end-again b r) refl))

alternative-again : (p : Reads Form) (c : List ℕ × Form) (b : Bool) (r : List Sign) → GoodOption p c → alternative_at p (option c ++ (mark b ++ r)) ≡ Some ((c, b), r)
unfolding alternative_at
alternative-again p c b r g = rw (named-again p c.0 c.1 (mark b ++ r) (mark-follows b r) g.again) (rw (end-again b r) refl)

parts-again : (p : Reads Form) (c : Part) (others : List Part) (r : List Sign) → length (c ∷ others) ≤ 256 → All (GoodPart p) (c ∷ others)
    → more_at (component_at p) 256 (joined part comma brace (c ∷ others) ++ r) ≡ Some (c ∷ others, r)
parts-again p c others r h g = more-again (component_at p) part comma brace (GoodPart p) (λ a s v. component-again p a true s v) (λ a b s v. component-again p a false (part b ++ s) v) c others 256 r h g

options-again : (p : Reads Form) (c : List ℕ × Form) (others : List (List ℕ × Form)) (r : List Sign) → length (c ∷ others) ≤ 256 → All (GoodOption p) (c ∷ others)
    → more_at (alternative_at p) 256 (joined option comma brace (c ∷ others) ++ r) ≡ Some (c ∷ others, r)
options-again p c others r h g = more-again (alternative_at p) option comma brace (GoodOption p) (λ a s v. alternative-again p a true s v) (λ a b s v. alternative-again p a false (option b ++ s) v) c others 256 r h g

list-again : (p : Reads Form) (g : Group) (cs : Components) (r : List Sign) → component_count cs ≤ 256 → All (GoodPart p) (parts_in cs)
    → list_at p g (components cs ++ r) ≡ Some (list g cs, r)
unfolding list_at components_at
list-again p g no_component r h good = refl
list-again p g (next_component n f e others) r h good =
    let there : components_of (parts_in others) ≡ others = components-there others in
    let size : length (parts_in (next_component n f e others)) ≤ 256 = omega (arith, component-count (parts_in others), ap component_count there) in
    let whole : joined part comma brace ((n, f, e) ∷ parts_in others) ≡ components (next_component n f e others) =
    sym (components-joined ((n, f, e) ∷ parts_in others)) ∙ ap (λ i. components (next_component n f e i)) there in
    let read : more_at (component_at p) 256 (components (next_component n f e others) ++ r) ≡ Some ((n, f, e) ∷ parts_in others, r) =
    ap (λ i. more_at (component_at p) 256 (i ++ r)) (sym whole) ∙ parts-again p (n, f, e) (parts_in others) r size good in
    rw read (ap (λ i. Some (list g (next_component n f e i), r)) there)

choice-again : (p : Reads Form) (cs : Alternatives) (r : List Sign) → 1 ≤ alternative_count cs → alternative_count cs ≤ 256 → All (GoodOption p) (options_in cs)
    → choice_at p (symbol OpenBrace ∷ (alternatives cs ++ r)) ≡ Some (choice cs, r)
unfolding choice_at symbol_at
choice-again p no_alternative r low h good = absurd (omega arith)
choice-again p (next_alternative n f others) r low h good =
    let there : alternatives_of (options_in others) ≡ others = alternatives-there others in
    let size : length (options_in (next_alternative n f others)) ≤ 256 = omega (arith, alternative-count (options_in others), ap alternative_count there) in
    let whole : joined option comma brace ((n, f) ∷ options_in others) ≡ alternatives (next_alternative n f others) =
    sym (alternatives-joined ((n, f) ∷ options_in others)) ∙ ap (λ i. alternatives (next_alternative n f i)) there in
    let read : more_at (alternative_at p) 256 (alternatives (next_alternative n f others) ++ r) ≡ Some ((n, f) ∷ options_in others, r) =
    ap (λ i. more_at (alternative_at p) 256 (i ++ r)) (sym whole) ∙ options-again p (n, f) (options_in others) r size good in
    rw read (ap (λ i. Some (choice (next_alternative n f i), r)) there)

enumerated-again : (es : List Entry) (r : List Sign) → 1 ≤ length es → length es ≤ 256 → All (λ e. FitsEntry e.1) es
    → enumerated_at (symbol OpenBrace ∷ (joined item comma brace es ++ r)) ≡ Some (enumerated es, r)
unfolding enumerated_at symbol_at
enumerated-again [] r low h good = absurd (omega arith)
enumerated-again (e ∷ es) r low h good =
    let read : more_at item_at 256 (joined item comma brace (e ∷ es) ++ r) ≡ Some (e ∷ es, r) =
    more-again item_at item comma brace (λ (i : Entry). FitsEntry i.1) (λ a s v. item-again a true s v) (λ a b s v. item-again a false (item b ++ s) v) e es 256 r h good in
    rw read refl

tagged-again : (p : Reads Form) (t : TagPrefix) (f : Form) (r : List Sign) → t.number ≤ 268435455 → Follows r → Again p f → tagged_at p (prefix_word t (spelling f ++ r)) ≡ Some (tagged t f, r)
unfolding tagged_at
tagged-again p t f r h next again = rw (prefix-again t f r h) (rw (again r next) refl)

of-again : (p : Reads Form) (g : Group) (f : Form) (r : List Sign) → Follows r → Again p f → group_at p g (word Of ∷ (spelling f ++ r)) ≡ Some (of g f, r)
unfolding group_at of_at
of-again p g f r next again = rw (again r next) refl

group-again : (p : Reads Form) (g : Group) (ts : List Sign) → group_at p g (symbol OpenBrace ∷ ts) ≡ list_at p g ts
unfolding group_at
group-again p g ts = refl

-- a type whose first terminal tells which
group-first : (d : ℕ) (g : Group) (ts : List Sign) → type_at (suc d) (group_word g ∷ ts) ≡ group_at (type_at d) g ts
unfolding type_at shape_at
group-first d InOrder ts = refl
group-first d InAnyOrder ts = refl

tagged-first : (d : ℕ) (ts : List Sign) → type_at (suc d) (symbol OpenBracket ∷ ts) ≡ tagged_at (type_at d) ts
unfolding type_at shape_at
tagged-first d ts = refl

choice-first : (d : ℕ) (ts : List Sign) → type_at (suc d) (word Choice ∷ ts) ≡ choice_at (type_at d) ts
unfolding type_at shape_at
choice-first d ts = refl

enumerated-first : (d : ℕ) (ts : List Sign) → type_at (suc d) (word Enumerated ∷ ts) ≡ enumerated_at ts
unfolding type_at shape_at
enumerated-first d ts = refl

bit-first : (d : ℕ) (ts : List Sign) → type_at (suc d) (word Bit ∷ ts) ≡ bit_string_at ts
unfolding type_at shape_at
bit-first d ts = refl

simple-again : (d : ℕ) (s : Simple) (r : List Sign) → Follows r → type_at (suc d) (simple_type s ++ r) ≡ Some (simple s, r)
unfolding type_at shape_at plain_at simple_at behind_at word_at
simple-again d BitString r next = bit-first d (word String ∷ r) ∙ bit_string-again r next
simple-again d Boolean r next = refl
simple-again d s r next = refl

reference-again : (d : ℕ) (n : List ℕ) (r : List Sign) → type_at (suc d) (spelling (reference n) ++ r) ≡ Some (reference n, r)
unfolding type_at shape_at plain_at
reference-again d n r = refl

mutual
  pub type-again : (f : Form) (d : ℕ) → Fits d f → (r : List Sign) → Follows r → type_at (suc d) (spelling f ++ r) ≡ Some (f, r)
  type-again (tagged t f) zero h r next = absurd h
  type-again (tagged t f) (suc d) h r next = ap (type_at (suc (suc d))) (prefix-shape t f r) ∙ tagged-first (suc d) (prefix_word t (spelling f ++ r)) ∙ tagged-again (type_at (suc d)) t f r h.0 next (type-again f d h.1)
  type-again (of g f) zero h r next = absurd h
  type-again (of g f) (suc d) h r next = group-first (suc d) g (word Of ∷ (spelling f ++ r)) ∙ of-again (type_at (suc d)) g f r next (type-again f d h)
  type-again (list g cs) d h r next = group-first d g (symbol OpenBrace ∷ (components cs ++ r)) ∙ group-again (type_at d) g (components cs ++ r) ∙ list-again (type_at d) g cs r h.0 (good-parts cs d h.1)
  type-again (choice cs) d h r next = choice-first d (symbol OpenBrace ∷ (alternatives cs ++ r)) ∙ choice-again (type_at d) cs r h.0 h.1 (good-options cs d h.2)
  type-again (enumerated es) d h r next = enumerated-first d (symbol OpenBrace ∷ (joined item comma brace es ++ r)) ∙ enumerated-again es r h.0 h.1 h.2
  type-again (named_bits bits) d h r next = bit-first d (word String ∷ symbol OpenBrace ∷ (joined named_bit comma brace bits ++ r)) ∙ bit_list-again bits r h.0 h.1 h.2
  type-again (simple s) d h r next = simple-again d s r next
  type-again (reference n) d h r next = reference-again d n r

  good-parts : (cs : Components) (d : ℕ) → FitComponents d cs → All (GoodPart (type_at d)) (parts_in cs)
  good-parts no_component d h = All-nil (GoodPart (type_at d))
  good-parts (next_component n f e others) zero h = absurd h
  good-parts (next_component n f e others) (suc d) h =
      All-cons (GoodPart (type_at (suc d))) (n, f, e) (parts_in others) (record { again = type-again f d h.0; fits = h.1 }) (good-parts others (suc d) h.2)

  good-options : (cs : Alternatives) (d : ℕ) → FitAlternatives d cs → All (GoodOption (type_at d)) (options_in cs)
  good-options no_alternative d h = All-nil (GoodOption (type_at d))
  good-options (next_alternative n f others) zero h = absurd h
  good-options (next_alternative n f others) (suc d) h =
      All-cons (GoodOption (type_at (suc d))) (n, f) (options_in others) (record { again = type-again f d h.0 }) (good-options others (suc d) h.1)
