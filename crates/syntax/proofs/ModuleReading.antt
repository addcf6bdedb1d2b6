-- Modules: what is spelled is read again, and what is read is spelled so.
use Rattle.std.proofs.Common.{◌≡◌, ℕ, ◌≤◌, List, [], ◌∷◌, ◌++◌, length, refl, sym, ◌∙◌, ap, subst, arith, Some, None, Bool, true, false, inl, inr}
use Rattle.std.specs.Prelude.{All}
use Rattle.std.proofs.lemmas.Option.{none-some, cond_some}
use Rattle.std.proofs.lemmas.List.{append-nil, length-append}
use Rattle.std.proofs.lemmas.List.Elements.{All-nil}
use Rattle.lexis.specs.declared.symbol.Symbol.TheVariants.{Assignment}
use Rattle.lexis.specs.declared.word.Word.{Word}
use Rattle.lexis.specs.declared.word.Word.TheVariants.{Application, Definitions, Begin, End, Tags, Explicit, Implicit, Automatic}
use Rattle.syntax.specs.declared.tree.Tagging.{Tagging}
use Rattle.syntax.specs.declared.tree.Tagging.TheVariants.{Explicit as ExplicitTags, Implicit as ImplicitTags, Automatic as AutomaticTags}
use Rattle.syntax.specs.Tree.{Form, Tree}
use Rattle.lexis.specs.Signs.{Sign, word, symbol, type_name}
use Rattle.syntax.specs.Grammar.{joined, behind, spelling, assignment, IsTagDefault, IsSpelling}
use Rattle.syntax.specs.Limits.{Fits, FitsTree}
use Rattle.syntax.specs.Reading.{is_word, symbol_at, word_at, type_name_at}
use Rattle.syntax.specs.TypeReading.{type_at}
use Rattle.syntax.specs.ModuleReading.{following_at, assignment_at, assignments_at, tagging_of, tags_at, tagging_at, module_at}
use Rattle.syntax.proofs.WordPlaces.{word-found}
use Rattle.syntax.proofs.Inversions.{bind, arrive, split, symbol-some, word-some, type_name-some}
use Rattle.syntax.proofs.ListReading.{more-some, more-again}
use Rattle.syntax.proofs.TypeAgain.{type-again}
use Rattle.syntax.proofs.TypeSound.{type-some}

Assigned : Type 0
Assigned = List ℕ × Form

abbrev pub end_word : List Sign
end_word = word End ∷ []

abbrev FitsAssigned : List ℕ × Form → Type 0
FitsAssigned a = Fits 64 a.1

last-again : (a : List ℕ × Form) (r : List Sign) → FitsAssigned a → assignment_at (assignment a ++ (end_word ++ r)) ≡ Some ((a, true), r)
unfolding assignment_at following_at type_name_at symbol_at
last-again a r h = rw (type-again a.1 64 h (word End ∷ r) refl) refl

next-again : (a b : List ℕ × Form) (r : List Sign) → FitsAssigned a → assignment_at (assignment a ++ ([] ++ (assignment b ++ r))) ≡ Some ((a, false), assignment b ++ r)
unfolding assignment_at following_at type_name_at symbol_at
next-again a b r h = rw (type-again a.1 64 h (assignment b ++ r) refl) refl

assignments-again : (parts : List (List ℕ × Form)) (limit : ℕ) (r : List Sign) → length parts ≤ limit → All FitsAssigned parts
    → assignments_at limit (joined assignment [] end_word parts ++ r) ≡ Some (parts, r)
unfolding assignments_at
assignments-again [] limit r h v = refl
assignments-again (a ∷ others) limit r h v = more-again assignment_at assignment [] end_word FitsAssigned last-again next-again a others limit r h v

tagging-again : (g : Tagging) (d r : List Sign) → IsTagDefault g d → tagging_at (d ++ (symbol Assignment ∷ r)) ≡ Some (g, symbol Assignment ∷ r)
unfolding tagging_at tags_at word_at
tagging-again ExplicitTags d r (inl e) = rw e refl
tagging-again ExplicitTags d r (inr e) = rw e refl
tagging-again ImplicitTags d r e = rw e refl
tagging-again AutomaticTags d r e = rw e refl

pub module-again : (m : Tree) (limit : ℕ) (ts : List Sign) → IsSpelling m ts → FitsTree m → length m.assignments ≤ limit → module_at limit ts ≡ Some (m, [])
unfolding module_at type_name_at word_at symbol_at
module-again m limit ts (d, h, whole) fits size =
    let parts : assignments_at limit (joined assignment [] end_word m.assignments) ≡ Some (m.assignments, []) =
    ap (assignments_at limit) (sym (append-nil (joined assignment [] end_word m.assignments))) ∙ assignments-again m.assignments limit [] size fits in
    rw whole (rw (tagging-again m.tagging d (word Begin ∷ joined assignment [] end_word m.assignments) h) (rw parts refl))

-- what is read is spelled so
abbrev closing : Bool → List Sign
closing true = end_word
closing false = []

following-some : (ts : List Sign) (y : Bool × List Sign) → following_at ts ≡ Some y → ts ≡ closing y.0 ++ y.1
unfolding following_at
following-some [] y e = absurd (none-some y e)
following-some (type_name n ∷ ts) y e = arrive (λ (z : Bool × List Sign). type_name n ∷ ts ≡ closing z.0 ++ z.1) (false, type_name n ∷ ts) y e refl
following-some (word w ∷ ts) y e =
    let v = cond_some (is_word End (word w)) (true, ts) y e in
    subst (λ (z : Bool × List Sign). word w ∷ ts ≡ closing z.0 ++ z.1) v.1 (ap (λ i. i ∷ ts) (word-found End (word w) v.0))
following-some (s ∷ ts) y e = absurd (none-some y e)

assignment-some : (ts : List Sign) (y : ((List ℕ × Form) × Bool) × List Sign) → assignment_at ts ≡ Some y → (ts ≡ assignment y.0.0 ++ (closing y.0.1 ++ y.1)) × FitsAssigned y.0.0
unfolding assignment_at
assignment-some ts y e =
    let n = bind _ (type_name_at ts) y e in
    let r = bind _ (symbol_at Assignment n.0.1) y n.2 in
    let f = bind _ (type_at 65 r.0) y r.2 in
    let v = bind _ (following_at f.0.1) y f.2 in
    let g = type-some 65 r.0 f.0 f.1 in
    arrive (λ (z : ((List ℕ × Form) × Bool) × List Sign). (ts ≡ assignment z.0.0 ++ (closing z.0.1 ++ z.1)) × FitsAssigned z.0.0) (((n.0.0, f.0.0), v.0.0), v.0.1) y v.2
    (type_name-some ts n.0 n.1 ∙ ap (λ i. type_name n.0.0 ∷ i) (symbol-some Assignment n.0.1 r.0 r.1 ∙ ap (λ i. symbol Assignment ∷ i) (g.whole ∙ ap (λ i. spelling f.0.0 ++ i) (following-some f.0.1 v.0 v.1))), g.valid)

assignments-some : (limit : ℕ) (ts : List Sign) (y : List (List ℕ × Form) × List Sign) → assignments_at limit ts ≡ Some y
    → (ts ≡ joined assignment [] end_word y.0 ++ y.1) × All FitsAssigned y.0
unfolding assignments_at
assignments-some limit [] y e = absurd (none-some y e)
assignments-some limit (s ∷ ts) y e =
    split (is_word End s) _ _ y
    (λ b h. arrive (λ (z : List (List ℕ × Form) × List Sign). (s ∷ ts ≡ joined assignment [] end_word z.0 ++ z.1) × All FitsAssigned z.0) ([], ts) y h
    (ap (λ i. i ∷ ts) (word-found End s b), All-nil FitsAssigned))
    (λ _ h. let g = more-some assignment_at assignment [] end_word FitsAssigned turn limit (s ∷ ts) y h in (g.whole, g.valid)) e
  where
    turn : (xs : List Sign) (z : ((List ℕ × Form) × Bool) × List Sign) → assignment_at xs ≡ Some z → (xs ≡ assignment z.0.0 ++ (closing z.0.1 ++ z.1)) × FitsAssigned z.0.0
    turn xs ((c, true), r) h = assignment-some xs ((c, true), r) h
    turn xs ((c, false), r) h = assignment-some xs ((c, false), r) h

record Tags_read (ts : List Sign) (y : Tagging × List Sign) : Type 0 where
  default : List Sign
  is_default : IsTagDefault y.0 default
  whole : ts ≡ default ++ y.1

tags-some : (w : Word) (ts : List Sign) (y : Tagging × List Sign) → tags_at (tagging_of (word w)) ts (word w ∷ ts) ≡ Some y → Tags_read (word w ∷ ts) y
unfolding tags_at
tags-some Explicit ts y e =
    let r = bind _ (word_at Tags ts) y e in
    arrive (λ (z : Tagging × List Sign). Tags_read (word Explicit ∷ ts) z) (ExplicitTags, r.0) y r.2 (record { default = word Explicit ∷ word Tags ∷ []; is_default = inr refl; whole = ap (λ i. word Explicit ∷ i) (word-some Tags ts r.0 r.1) })
tags-some Implicit ts y e =
    let r = bind _ (word_at Tags ts) y e in
    arrive (λ (z : Tagging × List Sign). Tags_read (word Implicit ∷ ts) z) (ImplicitTags, r.0) y r.2 (record { default = word Implicit ∷ word Tags ∷ []; is_default = refl; whole = ap (λ i. word Implicit ∷ i) (word-some Tags ts r.0 r.1) })
tags-some Automatic ts y e =
    let r = bind _ (word_at Tags ts) y e in
    arrive (λ (z : Tagging × List Sign). Tags_read (word Automatic ∷ ts) z) (AutomaticTags, r.0) y r.2 (record { default = word Automatic ∷ word Tags ∷ []; is_default = refl; whole = ap (λ i. word Automatic ∷ i) (word-some Tags ts r.0 r.1) })
tags-some Application ts y e = arrive (λ (z : Tagging × List Sign). Tags_read (word Application ∷ ts) z) (ExplicitTags, word Application ∷ ts) y e (record { default = []; is_default = inl refl; whole = refl })
tags-some w ts y e = arrive (λ (z : Tagging × List Sign). Tags_read (word w ∷ ts) z) (ExplicitTags, word w ∷ ts) y e (record { default = []; is_default = inl refl; whole = refl })

tagging-some : (ts : List Sign) (y : Tagging × List Sign) → tagging_at ts ≡ Some y → Tags_read ts y
unfolding tagging_at tags_at
tagging-some [] y e = absurd (none-some y e)
tagging-some (word w ∷ ts) y e = tags-some w ts y e
tagging-some (s ∷ ts) y e = arrive (λ (z : Tagging × List Sign). Tags_read (s ∷ ts) z) (ExplicitTags, s ∷ ts) y e (record { default = []; is_default = inl refl; whole = refl })

pub module-some : (limit : ℕ) (ts : List Sign) (y : Tree × List Sign) → module_at limit ts ≡ Some y → y.1 ≡ [] → IsSpelling y.0 ts × FitsTree y.0
unfolding module_at
module-some limit ts y e =
    let n = bind _ (type_name_at ts) y e in
    let d = bind _ (word_at Definitions n.0.1) y n.2 in
    let g = bind _ (tagging_at d.0) y d.2 in
    let a = bind _ (symbol_at Assignment g.0.1) y g.2 in
    let b = bind _ (word_at Begin a.0) y a.2 in
    let p = bind _ (assignments_at limit b.0) y b.2 in
    let t = tagging-some d.0 g.0 g.1 in
    let v = assignments-some limit b.0 p.0 p.1 in
    arrive (λ (z : Tree × List Sign). z.1 ≡ [] → IsSpelling z.0 ts × FitsTree z.0) (record { name = n.0.0; tagging = g.0.0; assignments = p.0.0 }, p.0.1) y p.2
    (λ over. (
      (t.default, t.is_default, type_name-some ts n.0 n.1 ∙ ap (λ i. type_name n.0.0 ∷ i) (word-some Definitions n.0.1 d.0 d.1 ∙ ap (λ i. word Definitions ∷ i) (t.whole ∙ ap (λ i. t.default ++ i) (symbol-some Assignment g.0.1 a.0 a.1 ∙ ap (λ i. symbol Assignment ∷ i) (word-some Begin a.0 b.0 b.1 ∙ ap (λ i. word Begin ∷ i) (v.0 ∙ ap (λ i. joined assignment [] end_word p.0.0 ++ i) over ∙ append-nil (joined assignment [] end_word p.0.0))))))),
      v.1,
    ))

-- a module has no more assignments than terminals
behind-long : (parts : List (List ℕ × Form)) → length parts ≤ length (behind assignment [] end_word parts)
behind-long [] = omega arith
behind-long (a ∷ others) = let ih = behind-long others in simp length-append (omega (arith, ih))

assignments-long : (parts : List (List ℕ × Form)) → length parts ≤ length (joined assignment [] end_word parts)
assignments-long [] = omega arith
assignments-long (a ∷ others) = let ih = behind-long others in simp length-append (omega (arith, ih))

pub module-long : (m : Tree) (ts : List Sign) → IsSpelling m ts → length m.assignments ≤ length ts
module-long m ts (d, h, whole) =
    let ih = assignments-long m.assignments in
    rw whole (simp length-append (omega (arith, ih)))

-- the whole list of terminals
pub only_module : (limit : ℕ) (ts : List Sign) (m : Tree) (r : List Sign) → length ts ≤ limit → module_at limit ts ≡ Some (m, r)
    → (other : Tree) → IsSpelling other ts → FitsTree other → (other ≡ m) × (r ≡ [])
only_module limit ts m r size e other h fits =
    let long = module-long other ts h in
    let short : length other.assignments ≤ limit = omega arith in
    let same : Some (other, []) ≡ Some (m, r) = sym (module-again other limit ts h fits short) ∙ e in
    arrive (λ (z : Tree × List Sign). (other ≡ z.0) × (z.1 ≡ [])) (other, []) (m, r) same (refl, refl)

pub no_module : (limit : ℕ) (ts : List Sign) → length ts ≤ limit → module_at limit ts ≡ None → (other : Tree) → IsSpelling other ts → FitsTree other → ⊥
no_module limit ts size e other h fits =
    let long = module-long other ts h in
    let short : length other.assignments ≤ limit = omega arith in
    none-some (other, []) (sym e ∙ module-again other limit ts h fits short)
