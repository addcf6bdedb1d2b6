-- Tags: what is spelled is read again, and what is read is spelled so.
use Rattle.std.proofs.Common.{◌≡◌, ℕ, ◌≤◌, List, [], ◌∷◌, ◌++◌, refl, ◌∙◌, ap, Some, append_assoc}
use Rattle.std.proofs.lemmas.Option.{none-some}
use Rattle.lexis.specs.declared.word.Word.TheVariants.{Application, Private, Implicit, Explicit}
use Rattle.lexis.specs.declared.symbol.Symbol.TheVariants.{OpenBracket, CloseBracket}
use Rattle.syntax.specs.declared.tree.Group.TheVariants.{Sequence as InOrder, Set as InAnyOrder}
use Rattle.syntax.specs.declared.tree.TagClass.{TagClass}
use Rattle.syntax.specs.declared.tree.TagClass.TheVariants.{ContextSpecific, Application as ClassApplication, Private as ClassPrivate}
use Rattle.syntax.specs.declared.tree.TagMode.{TagMode}
use Rattle.syntax.specs.declared.tree.TagMode.TheVariants.{Unmarked, Implicit as ModeImplicit, Explicit as ModeExplicit}
use Rattle.syntax.specs.declared.tree.TagPrefix.{TagPrefix}
use Rattle.syntax.specs.declared.tree.Simple.{Simple}
use Rattle.syntax.specs.declared.tree.Simple.TheVariants.{Boolean}
use Rattle.syntax.specs.Tree.{Form, tagged, list, of, choice, enumerated, named_bits, simple, reference}
use Rattle.lexis.specs.Signs.{Sign, symbol, number}
use Rattle.syntax.specs.Words.{class_word, mode_word, simple_type}
use Rattle.syntax.specs.Grammar.{spelling}
use Rattle.syntax.specs.Reading.{is_word, symbol_at, limited_number_at}
use Rattle.syntax.specs.TagReading.{class_at, mode_at, prefix_at}
use Rattle.syntax.proofs.WordPlaces.{word-found}
use Rattle.syntax.proofs.Inversions.{bind, arrive, split, symbol-some, limited_number-some, limited_number-again}

class-again : (c : TagClass) (n : ℕ) (r : List Sign) → class_at (class_word c ++ (number n ∷ r)) ≡ Some (c, number n ∷ r)
unfolding class_at
class-again ContextSpecific n r = refl
class-again ClassApplication n r = refl
class-again ClassPrivate n r = refl

unmarked-simple : (s : Simple) (r : List Sign) → mode_at (simple_type s ++ r) ≡ Some (Unmarked, simple_type s ++ r)
unfolding mode_at
unmarked-simple Boolean r = refl
unmarked-simple s r = refl

unmarked-again : (f : Form) (r : List Sign) → mode_at (spelling f ++ r) ≡ Some (Unmarked, spelling f ++ r)
unfolding mode_at
unmarked-again (tagged p f) r = refl
unmarked-again (list InOrder cs) r = refl
unmarked-again (list InAnyOrder cs) r = refl
unmarked-again (of InOrder f) r = refl
unmarked-again (of InAnyOrder f) r = refl
unmarked-again (choice parts) r = refl
unmarked-again (enumerated es) r = refl
unmarked-again (named_bits bits) r = refl
unmarked-again (simple s) r = unmarked-simple s r
unmarked-again (reference n) r = refl

mode-again : (m : TagMode) (f : Form) (r : List Sign) → mode_at (mode_word m ++ (spelling f ++ r)) ≡ Some (m, spelling f ++ r)
unfolding mode_at
mode-again Unmarked f r = unmarked-again f r
mode-again ModeImplicit f r = refl
mode-again ModeExplicit f r = refl

-- the terminals between `[` and the type
pub prefix_word : TagPrefix → List Sign → List Sign
prefix_word p r = class_word p.class ++ (number p.number ∷ symbol CloseBracket ∷ (mode_word p.mode ++ r))

pub prefix-shape : (p : TagPrefix) (f : Form) (r : List Sign) → spelling (tagged p f) ++ r ≡ symbol OpenBracket ∷ prefix_word p (spelling f ++ r)
unfolding prefix_word
prefix-shape p f r =
    ap (λ i. symbol OpenBracket ∷ i) (append_assoc (class_word p.class) (number p.number ∷ symbol CloseBracket ∷ (mode_word p.mode ++ spelling f)) r)
    ∙ ap (λ i. symbol OpenBracket ∷ (class_word p.class ++ (number p.number ∷ symbol CloseBracket ∷ i))) (append_assoc (mode_word p.mode) (spelling f) r)

pub prefix-again : (p : TagPrefix) (f : Form) (r : List Sign) → p.number ≤ 268435455 → prefix_at (prefix_word p (spelling f ++ r)) ≡ Some (p, spelling f ++ r)
unfolding prefix_at symbol_at prefix_word
prefix-again p f r h = rw (class-again p.class p.number (symbol CloseBracket ∷ (mode_word p.mode ++ (spelling f ++ r)))) (rw (limited_number-again 268435455 p.number (symbol CloseBracket ∷ (mode_word p.mode ++ (spelling f ++ r))) h) (rw (mode-again p.mode f r) refl))

class-some : (ts : List Sign) (y : TagClass × List Sign) → class_at ts ≡ Some y → ts ≡ class_word y.0 ++ y.1
unfolding class_at
class-some [] y e = absurd (none-some y e)
class-some (s ∷ ts) y e =
    split (is_word Application s) _ _ y
    (λ b h. arrive (λ (z : TagClass × List Sign). s ∷ ts ≡ class_word z.0 ++ z.1) (ClassApplication, ts) y h (ap (λ i. i ∷ ts) (word-found Application s b)))
    (λ _ h. split (is_word Private s) _ _ y
    (λ b i. arrive (λ (z : TagClass × List Sign). s ∷ ts ≡ class_word z.0 ++ z.1) (ClassPrivate, ts) y i (ap (λ j. j ∷ ts) (word-found Private s b)))
    (λ _ i. arrive (λ (z : TagClass × List Sign). s ∷ ts ≡ class_word z.0 ++ z.1) (ContextSpecific, s ∷ ts) y i refl) h) e

mode-some : (ts : List Sign) (y : TagMode × List Sign) → mode_at ts ≡ Some y → ts ≡ mode_word y.0 ++ y.1
unfolding mode_at
mode-some [] y e = absurd (none-some y e)
mode-some (s ∷ ts) y e =
    split (is_word Implicit s) _ _ y
    (λ b h. arrive (λ (z : TagMode × List Sign). s ∷ ts ≡ mode_word z.0 ++ z.1) (ModeImplicit, ts) y h (ap (λ i. i ∷ ts) (word-found Implicit s b)))
    (λ _ h. split (is_word Explicit s) _ _ y
    (λ b i. arrive (λ (z : TagMode × List Sign). s ∷ ts ≡ mode_word z.0 ++ z.1) (ModeExplicit, ts) y i (ap (λ j. j ∷ ts) (word-found Explicit s b)))
    (λ _ i. arrive (λ (z : TagMode × List Sign). s ∷ ts ≡ mode_word z.0 ++ z.1) (Unmarked, s ∷ ts) y i refl) h) e

pub prefix-some : (ts : List Sign) (y : TagPrefix × List Sign) → prefix_at ts ≡ Some y → (ts ≡ prefix_word y.0 y.1) × (y.0.number ≤ 268435455)
unfolding prefix_at prefix_word
prefix-some ts y e =
    let c = bind _ (class_at ts) y e in
    let n = bind _ (limited_number_at 268435455 c.0.1) y c.2 in
    let r = bind _ (symbol_at CloseBracket n.0.1) y n.2 in
    let m = bind _ (mode_at r.0) y r.2 in
    let k = limited_number-some 268435455 c.0.1 n.0 n.1 in
    arrive (λ (z : TagPrefix × List Sign). (ts ≡ prefix_word z.0 z.1) × (z.0.number ≤ 268435455)) _ y m.2
    (class-some ts c.0 c.1 ∙ ap (λ i. class_word c.0.0 ++ i) (k.0 ∙ ap (λ i. number n.0.0 ∷ i) (symbol-some CloseBracket n.0.1 r.0 r.1 ∙ ap (λ i. symbol CloseBracket ∷ i) (mode-some r.0 m.0 m.1))), k.1)
