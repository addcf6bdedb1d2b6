-- Types: what is read is spelled so, and keeps the limits.
use Rattle.std.proofs.Common.{◌≡◌, ℕ, zero, suc, ◌≤◌, List, [], ◌∷◌, ◌++◌, length, refl, sym, ◌∙◌, ap, subst, arith, Option, Some, None, Bool, true, false, append_assoc}
use Rattle.std.specs.Prelude.{All}
use Rattle.std.proofs.lemmas.Option.{none-some}
use Rattle.std.proofs.lemmas.List.Elements.{All-nil}
use Rattle.lexis.specs.declared.symbol.Symbol.TheVariants.{OpenBrace, OpenBracket, CloseBrace}
use Rattle.lexis.specs.declared.word.Word.{Word}
use Rattle.lexis.specs.declared.word.Word.TheVariants.{Bit, BmpString, Boolean, Choice, Enumerated, GeneralizedTime, Ia5String, Identifier, Integer, Null, NumericString, Object, Octet, Of, PrintableString, RelativeOid, Sequence, Set, String, UtcTime, Utf8String, VisibleString}
use Rattle.syntax.specs.declared.tree.Group.{Group}
use Rattle.syntax.specs.declared.tree.Group.TheVariants.{Sequence as InOrder, Set as InAnyOrder}
use Rattle.syntax.specs.declared.tree.TagPrefix.{TagPrefix}
use Rattle.syntax.specs.declared.tree.Simple.{Simple}
use Rattle.syntax.specs.declared.tree.Simple.TheVariants as t
use Rattle.syntax.specs.Tree.{Entry, Form, tagged, list, of, choice, enumerated, simple, reference}
use Rattle.syntax.specs.View.{components_of, alternatives_of}
use Rattle.lexis.specs.Signs.{Sign, word, symbol, type_name, identifier}
use Rattle.syntax.specs.Grammar.{ending, item, joined, spelling}
use Rattle.syntax.specs.Words.{group_word, simple_type}
use Rattle.syntax.specs.Limits.{Fits, FitsEntry}
use Rattle.syntax.specs.Reading.{Reads, is_word, is_symbol, symbol_at, identifier_at, more_at}
use Rattle.syntax.specs.TagReading.{prefix_at}
use Rattle.syntax.specs.ValueReading.{item_at, ending_at, end_at}
use Rattle.syntax.specs.TypeReading.{named_at, component_at, alternative_at, components_at, list_at, of_at, group_at, choice_at, enumerated_at, tagged_at, shape_at, type_at}
use Rattle.syntax.specs.SimpleReading.{simple_of, simple_at, behind_at, plain_at}
use Rattle.syntax.proofs.WordPlaces.{word-found, symbol-found}
use Rattle.syntax.proofs.Inversions.{bind, arrive, split, Spelled, symbol-some, word-some, identifier-some}
use Rattle.syntax.proofs.ValueReading.{mark, ending-some, end-some, item-some}
use Rattle.syntax.proofs.PrefixReading.{prefix_word, prefix-shape, prefix-some}
use Rattle.syntax.proofs.ListReading.{more-some}
use Rattle.syntax.proofs.BitReading.{bit_string-some}
use Rattle.syntax.proofs.TypeLists.{Part, comma, brace, part, option, components-joined, alternatives-joined, component-count, alternative-count, FitsIn, FitsPart, fit-components, fit-alternatives}

-- what is read at a place where this stands before it
abbrev Reading : ℕ → List Sign → (Form × List Sign) → Type 0
Reading n ts y = Spelled spelling (Fits n) ts y

-- p reads only types of at most n levels
abbrev pub SoundType : ℕ → Reads Form → Type 0
SoundType n p = (ts : List Sign) (y : Form × List Sign) → p ts ≡ Some y → Spelled spelling (FitsIn n) ts y

fits-tagged : (n : ℕ) (p : TagPrefix) (f : Form) → p.number ≤ 268435455 → FitsIn n f → Fits n (tagged p f)
fits-tagged zero p f h i = absurd i
fits-tagged (suc n) p f h i = (h, i)

fits-of : (n : ℕ) (g : Group) (f : Form) → FitsIn n f → Fits n (of g f)
fits-of zero g f i = absurd i
fits-of (suc n) g f i = i

named-some : (p : Reads Form) (n : ℕ) → SoundType n p → (ts : List Sign) (y : (List ℕ × Form) × List Sign) → named_at p ts ≡ Some y → Spelled option (λ c. FitsIn n c.1) ts y
unfolding named_at
named-some p n sound ts y e =
    let u = bind _ (identifier_at ts) y e in
    let v = bind _ (p u.0.1) y u.2 in
    let g = sound u.0.1 v.0 v.1 in
    arrive (λ (z : (List ℕ × Form) × List Sign). Spelled option (λ c. FitsIn n c.1) ts z) ((u.0.0, v.0.0), v.0.1) y v.2
    (record { whole = identifier-some ts u.0 u.1 ∙ ap (λ i. identifier u.0.0 ∷ i) g.whole; valid = g.valid })

alternative-some : (p : Reads Form) (n : ℕ) → SoundType n p → (ts : List Sign) (y : ((List ℕ × Form) × Bool) × List Sign) → alternative_at p ts ≡ Some y
    → (ts ≡ option y.0.0 ++ (mark y.0.1 ++ y.1)) × FitsIn n y.0.0.1
unfolding alternative_at
alternative-some p n sound ts y e =
    let u = bind _ (named_at p ts) y e in
    let v = bind _ (end_at u.0.1) y u.2 in
    let g = named-some p n sound ts u.0 u.1 in
    arrive (λ (z : ((List ℕ × Form) × Bool) × List Sign). (ts ≡ option z.0.0 ++ (mark z.0.1 ++ z.1)) × FitsIn n z.0.0.1) ((u.0.0, v.0.0), v.0.1) y v.2
    (g.whole ∙ ap (λ i. option u.0.0 ++ i) (end-some u.0.1 v.0 v.1), g.valid)

component-some : (p : Reads Form) (n : ℕ) → SoundType n p → (ts : List Sign) (y : (Part × Bool) × List Sign) → component_at p ts ≡ Some y
    → (ts ≡ part y.0.0 ++ (mark y.0.1 ++ y.1)) × FitsPart n y.0.0
unfolding component_at
component-some p n sound ts y e =
    let u = bind _ (named_at p ts) y e in
    let w = bind _ (ending_at u.0.1) y u.2 in
    let v = bind _ (end_at w.0.1) y w.2 in
    let g = named-some p n sound ts u.0 u.1 in
    let h = ending-some u.0.1 w.0 w.1 in
    arrive (λ (z : (Part × Bool) × List Sign). (ts ≡ part z.0.0 ++ (mark z.0.1 ++ z.1)) × FitsPart n z.0.0) (((u.0.0.0, u.0.0.1, w.0.0), v.0.0), v.0.1) y v.2 (
      g.whole ∙ ap (λ i. option u.0.0 ++ i) (h.whole ∙ ap (λ i. ending w.0.0 ++ i) (end-some w.0.1 v.0 v.1))
          ∙ ap (λ i. identifier u.0.0.0 ∷ i) (sym (append_assoc (spelling u.0.0.1) (ending w.0.0) (mark v.0.0 ++ v.0.1))),
      (g.valid, h.valid),
    )

tagged-some : (p : Reads Form) (n : ℕ) → SoundType n p → (ts : List Sign) (y : Form × List Sign) → tagged_at p ts ≡ Some y → Reading n (symbol OpenBracket ∷ ts) y
unfolding tagged_at
tagged-some p n sound ts y e =
    let u = bind _ (prefix_at ts) y e in
    let v = bind _ (p u.0.1) y u.2 in
    let g = prefix-some ts u.0 u.1 in
    let h = sound u.0.1 v.0 v.1 in
    arrive (λ (z : Form × List Sign). Reading n (symbol OpenBracket ∷ ts) z) (tagged u.0.0 v.0.0, v.0.1) y v.2
    (record {
      whole = ap (λ i. symbol OpenBracket ∷ i) (g.0 ∙ ap (prefix_word u.0.0) h.whole) ∙ sym (prefix-shape u.0.0 v.0.0 v.0.1);
      valid = fits-tagged n u.0.0 v.0.0 g.1 h.valid;
    })

of-some : (p : Reads Form) (n : ℕ) → SoundType n p → (g : Group) (ts : List Sign) (y : Form × List Sign) → of_at p g ts ≡ Some y → Reading n (group_word g ∷ word Of ∷ ts) y
unfolding of_at
of-some p n sound g ts y e =
    let u = bind _ (p ts) y e in
    let h = sound ts u.0 u.1 in
    arrive (λ (z : Form × List Sign). Reading n (group_word g ∷ word Of ∷ ts) z) (of g u.0.0, u.0.1) y u.2
    (record { whole = ap (λ i. group_word g ∷ word Of ∷ i) h.whole; valid = fits-of n g u.0.0 h.valid })

-- components to their closing brace
record Listed (n : ℕ) (ts : List Sign) (y : List Part × List Sign) : Type 0 where
  whole : ts ≡ joined part comma brace y.0 ++ y.1
  most : length y.0 ≤ 256
  valid : All (FitsPart n) y.0

components-some : (p : Reads Form) (n : ℕ) → SoundType n p → (ts : List Sign) (y : List Part × List Sign) → components_at p ts ≡ Some y → Listed n ts y
unfolding components_at
components-some p n sound [] y e = absurd (none-some y e)
components-some p n sound (s ∷ ts) y e =
    split (is_symbol CloseBrace s) _ _ y
    (λ b h. arrive (λ (z : List Part × List Sign). Listed n (s ∷ ts) z) ([], ts) y h
    (record { whole = ap (λ i. i ∷ ts) (symbol-found CloseBrace s b); most = omega arith; valid = All-nil (FitsPart n) }))
    (λ _ h.
    let g = more-some (component_at p) part comma brace (FitsPart n) (turn) 256 (s ∷ ts) y h in
    record { whole = g.whole; most = g.most; valid = g.valid }) e
  where
    turn : (xs : List Sign) (z : (Part × Bool) × List Sign) → component_at p xs ≡ Some z → (xs ≡ part z.0.0 ++ (mark z.0.1 ++ z.1)) × FitsPart n z.0.0
    turn xs ((c, true), r) h = component-some p n sound xs ((c, true), r) h
    turn xs ((c, false), r) h = component-some p n sound xs ((c, false), r) h

list-some : (p : Reads Form) (n : ℕ) → SoundType n p → (g : Group) (ts : List Sign) (y : Form × List Sign) → list_at p g ts ≡ Some y → Reading n (group_word g ∷ symbol OpenBrace ∷ ts) y
unfolding list_at
list-some p n sound g ts y e =
    let u = bind _ (components_at p ts) y e in
    let h = components-some p n sound ts u.0 u.1 in
    arrive (λ (z : Form × List Sign). Reading n (group_word g ∷ symbol OpenBrace ∷ ts) z) (list g (components_of u.0.0), u.0.1) y u.2
    (record {
      whole = ap (λ i. group_word g ∷ symbol OpenBrace ∷ i) (h.whole ∙ ap (λ i. i ++ u.0.1) (sym (components-joined u.0.0)));
      valid = (omega (arith, component-count u.0.0, h.most), fit-components n u.0.0 h.valid);
    })

group-some : (p : Reads Form) (n : ℕ) → SoundType n p → (g : Group) (ts : List Sign) (y : Form × List Sign) → group_at p g ts ≡ Some y → Reading n (group_word g ∷ ts) y
unfolding group_at
group-some p n sound g [] y e = absurd (none-some y e)
group-some p n sound g (s ∷ ts) y e =
    split (is_word Of s) _ _ y
    (λ b h. subst (λ i. Reading n (group_word g ∷ i ∷ ts) y) (sym (word-found Of s b)) (of-some p n sound g ts y h))
    (λ _ h. split (is_symbol OpenBrace s) _ _ y
    (λ b i. subst (λ j. Reading n (group_word g ∷ j ∷ ts) y) (sym (symbol-found OpenBrace s b)) (list-some p n sound g ts y i))
    (λ _ i. absurd (none-some y i)) h) e

choice-some : (p : Reads Form) (n : ℕ) → SoundType n p → (ts : List Sign) (y : Form × List Sign) → choice_at p ts ≡ Some y → Reading n (word Choice ∷ ts) y
unfolding choice_at
choice-some p n sound ts y e =
    let r = bind _ (symbol_at OpenBrace ts) y e in
    let u = bind _ (more_at (alternative_at p) 256 r.0) y r.2 in
    let h = more-some (alternative_at p) option comma brace (λ (c : List ℕ × Form). FitsIn n c.1) turn 256 r.0 u.0 u.1 in
    arrive (λ (z : Form × List Sign). Reading n (word Choice ∷ ts) z) (choice (alternatives_of u.0.0), u.0.1) y u.2
    (record {
      whole = ap (λ i. word Choice ∷ i) (symbol-some OpenBrace ts r.0 r.1 ∙ ap (λ i. symbol OpenBrace ∷ i) (h.whole ∙ ap (λ i. i ++ u.0.1) (sym (alternatives-joined u.0.0))));
      valid = (omega (arith, alternative-count u.0.0, h.some), omega (arith, alternative-count u.0.0, h.most), fit-alternatives n u.0.0 h.valid);
    })
  where
    turn : (xs : List Sign) (z : ((List ℕ × Form) × Bool) × List Sign) → alternative_at p xs ≡ Some z → (xs ≡ option z.0.0 ++ (mark z.0.1 ++ z.1)) × FitsIn n z.0.0.1
    turn xs ((c, true), r) h = alternative-some p n sound xs ((c, true), r) h
    turn xs ((c, false), r) h = alternative-some p n sound xs ((c, false), r) h

enumerated-some : (n : ℕ) (ts : List Sign) (y : Form × List Sign) → enumerated_at ts ≡ Some y → Reading n (word Enumerated ∷ ts) y
unfolding enumerated_at
enumerated-some n ts y e =
    let r = bind _ (symbol_at OpenBrace ts) y e in
    let u = bind _ (more_at item_at 256 r.0) y r.2 in
    let h = more-some item_at item comma brace (λ (i : Entry). FitsEntry i.1) turn 256 r.0 u.0 u.1 in
    arrive (λ (z : Form × List Sign). Reading n (word Enumerated ∷ ts) z) (enumerated u.0.0, u.0.1) y u.2
    (record {
      whole = ap (λ i. word Enumerated ∷ i) (symbol-some OpenBrace ts r.0 r.1 ∙ ap (λ i. symbol OpenBrace ∷ i) h.whole);
      valid = (h.some, h.most, h.valid);
    })
  where
    turn : (xs : List Sign) (z : (Entry × Bool) × List Sign) → item_at xs ≡ Some z → (xs ≡ item z.0.0 ++ (mark z.0.1 ++ z.1)) × FitsEntry z.0.0.1
    turn xs ((c, true), r) h = item-some xs ((c, true), r) h
    turn xs ((c, false), r) h = item-some xs ((c, false), r) h

-- the word that must follow
abbrev second : Option Word → List Sign
second None = []
second (Some k) = word k ∷ []

simple-found : (w : Word) (x : Simple × Option Word) → simple_of w ≡ Some x → simple_type x.0 ≡ word w ∷ second x.1
simple-found Boolean x e = arrive (λ (z : Simple × Option Word). simple_type z.0 ≡ word Boolean ∷ second z.1) (t.Boolean, None) x e refl
simple-found Integer x e = arrive (λ (z : Simple × Option Word). simple_type z.0 ≡ word Integer ∷ second z.1) (t.Integer, None) x e refl
simple-found Null x e = arrive (λ (z : Simple × Option Word). simple_type z.0 ≡ word Null ∷ second z.1) (t.Null, None) x e refl
simple-found Octet x e = arrive (λ (z : Simple × Option Word). simple_type z.0 ≡ word Octet ∷ second z.1) (t.OctetString, Some String) x e refl
simple-found Object x e = arrive (λ (z : Simple × Option Word). simple_type z.0 ≡ word Object ∷ second z.1) (t.ObjectIdentifier, Some Identifier) x e refl
simple-found RelativeOid x e = arrive (λ (z : Simple × Option Word). simple_type z.0 ≡ word RelativeOid ∷ second z.1) (t.RelativeOid, None) x e refl
simple-found Utf8String x e = arrive (λ (z : Simple × Option Word). simple_type z.0 ≡ word Utf8String ∷ second z.1) (t.Utf8String, None) x e refl
simple-found NumericString x e = arrive (λ (z : Simple × Option Word). simple_type z.0 ≡ word NumericString ∷ second z.1) (t.NumericString, None) x e refl
simple-found PrintableString x e = arrive (λ (z : Simple × Option Word). simple_type z.0 ≡ word PrintableString ∷ second z.1) (t.PrintableString, None) x e refl
simple-found Ia5String x e = arrive (λ (z : Simple × Option Word). simple_type z.0 ≡ word Ia5String ∷ second z.1) (t.Ia5String, None) x e refl
simple-found VisibleString x e = arrive (λ (z : Simple × Option Word). simple_type z.0 ≡ word VisibleString ∷ second z.1) (t.VisibleString, None) x e refl
simple-found BmpString x e = arrive (λ (z : Simple × Option Word). simple_type z.0 ≡ word BmpString ∷ second z.1) (t.BmpString, None) x e refl
simple-found UtcTime x e = arrive (λ (z : Simple × Option Word). simple_type z.0 ≡ word UtcTime ∷ second z.1) (t.UtcTime, None) x e refl
simple-found GeneralizedTime x e = arrive (λ (z : Simple × Option Word). simple_type z.0 ≡ word GeneralizedTime ∷ second z.1) (t.GeneralizedTime, None) x e refl
simple-found w x e = absurd (none-some x e)

behind-some : (o : Option Word) (ts r : List Sign) → behind_at o ts ≡ Some r → ts ≡ second o ++ r
unfolding behind_at
behind-some None ts r e = arrive (λ i. ts ≡ i) ts r e refl
behind-some (Some k) ts r e = word-some k ts r e

simple-some : (n : ℕ) (w : Word) (ts : List Sign) (y : Form × List Sign) → simple_at w ts ≡ Some y → Reading n (word w ∷ ts) y
unfolding simple_at
simple-some n w ts y e =
    let u = bind _ (simple_of w) y e in
    let r = bind _ (behind_at u.0.1 ts) y u.2 in
    arrive (λ (z : Form × List Sign). Reading n (word w ∷ ts) z) (simple u.0.0, r.0) y r.2
    (record { whole = ap (λ i. word w ∷ i) (behind-some u.0.1 ts r.0 r.1) ∙ ap (λ i. i ++ r.0) (sym (simple-found w u.0 u.1)); valid = tt })

plain-some : (n : ℕ) (s : Sign) (ts : List Sign) (y : Form × List Sign) → plain_at s ts ≡ Some y → Reading n (s ∷ ts) y
unfolding plain_at
plain-some n (type_name m) ts y e = arrive (λ (z : Form × List Sign). Reading n (type_name m ∷ ts) z) (reference m, ts) y e (record { whole = refl; valid = tt })
plain-some n (word w) ts y e = simple-some n w ts y e
plain-some n s ts y e = absurd (none-some y e)

shape-some : (p : Reads Form) (n : ℕ) → SoundType n p → (s : Sign) (ts : List Sign) (y : Form × List Sign) → shape_at p s ts ≡ Some y → Reading n (s ∷ ts) y
unfolding shape_at
shape-some p n sound s ts y e =
    split (is_symbol OpenBracket s) _ _ y
    (λ b h. subst (λ i. Reading n (i ∷ ts) y) (sym (symbol-found OpenBracket s b)) (tagged-some p n sound ts y h))
    (λ _ h. split (is_word Sequence s) _ _ y
    (λ b i. subst (λ j. Reading n (j ∷ ts) y) (sym (word-found Sequence s b)) (group-some p n sound InOrder ts y i))
    (λ _ i. split (is_word Set s) _ _ y
    (λ b j. subst (λ k. Reading n (k ∷ ts) y) (sym (word-found Set s b)) (group-some p n sound InAnyOrder ts y j))
    (λ _ j. split (is_word Choice s) _ _ y
    (λ b k. subst (λ l. Reading n (l ∷ ts) y) (sym (word-found Choice s b)) (choice-some p n sound ts y k))
    (λ _ k. split (is_word Enumerated s) _ _ y
    (λ b l. subst (λ m. Reading n (m ∷ ts) y) (sym (word-found Enumerated s b)) (enumerated-some n ts y l))
    (λ _ l. split (is_word Bit s) _ _ y
    (λ b m. subst (λ q. Reading n (q ∷ ts) y) (sym (word-found Bit s b)) (bit_string-some n ts y m))
    (λ _ m. plain-some n s ts y m) l) k) j) i) h) e

pub type-some : (n : ℕ) → SoundType n (type_at n)
unfolding type_at
type-some zero ts y e = absurd (none-some y e)
type-some (suc n) [] y e = absurd (none-some y e)
type-some (suc n) (s ∷ ts) y e = shape-some (type_at n) n (type-some n) s ts y e
