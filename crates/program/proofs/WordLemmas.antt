-- What a command line takes of the program's words.
use Rattle.std.proofs.Common.{◌≡◌, ℕ, List, [], true, Option, None, Some, Result, Ok, Err, IfOk, ap, ap₂, refl, subst, sym, ◌∙◌, codes, inl, inr}
use Rattle.std.specs.Prelude.{IsSome, is_some, option_map, unwrap_or}
use Rattle.clap.specs.Words.{App, HasKind, HasMatchesOf, Row, fault_of, first_value, found_of, has_subcommand, kind_of, rows_of, subcommand_name_of, subcommand_rows_of}
use Rattle.clap.specs.declared.error.Error.{Error}
use Rattle.clap.specs.declared.error.kind.ErrorKind.{ErrorKind}
use Rattle.clap.specs.declared.error.kind.ErrorKind.TheVariants.{OutOfMemory}
use Rattle.clap.proofs.WalkLemmas.{first_value-rows}
use Rattle.clap.specs.declared.parser.matches.ArgMatches.{ArgMatches}
use Rattle.clap.specs.declared.parser.matches.ArgMatches.TheViews.{out-ArgMatches, out-SubCommand}
use Rattle.std.specs.Box.{box_value}
use Rattle.program.specs.declared.command_line.Line.{Line}
use Rattle.program.specs.declared.command_line.Verb.{Verb}
use Rattle.program.specs.declared.command_line.Verb.TheVariants.{Show, Check, Convert}
use Rattle.engine.specs.Canonical.{Canonical}
use Rattle.engine.specs.declared.rule.Rule.{Rule}
use Rattle.program.specs.CommandLine.{word_of_canonical, word_of_rule, word_of_verb}
use Rattle.program.specs.Entries.{HasEntries, HasWords, IsLineOf}
use Rattle.program.specs.Fault.{IsRefusalOf}
use Rattle.command_words.specs.Fault.{line_fault_by}
use Rattle.program.specs.Program.{IsProgram}
use Rattle.program.proofs.MetLemmas.{IsMet, met_of}
use Rattle.program.proofs.ProgramLemmas.{program_simple}
use Rattle.program.proofs.SubcommandLemmas.{HasRowsOf, HasWord, IsCanonicalWord, IsRuleWord}

abbrev pub NamedRows : Type 0
NamedRows = List ℕ × List Row

abbrev pub named : List ℕ → List Row → Option NamedRows
named name rows = Some (name, rows)

-- what two views of an option say of it
of_both : {A : Type 0} (f : A → List ℕ) (h : A → NamedRows) (s : Option A) (name : List ℕ) (rows : List Row) → ((a : A) → f a ≡ (h a).0) → Some name ≡ option_map f s → Some rows ≡ option_map (λ (p : NamedRows). p.1) (option_map h s)
    → option_map h s ≡ named name rows
of_both f h None name rows same a b = absurd (cc a)
of_both f h (Some x) name rows same a b =
    let name_is : name ≡ f x = cc a in
    let rows_are : rows ≡ (h x).1 = cc b in
    ap₂ named (sym (same x) ∙ sym name_is) (sym rows_are)

-- the subcommand that was met
pub met : (m : ArgMatches) (name : List ℕ) (rows : List Row) → Some name ≡ subcommand_name_of m → Some rows ≡ option_map (λ (p : NamedRows). p.1) (subcommand_rows_of m) → subcommand_rows_of m ≡ named name rows
met m name rows a b = of_both (λ s. (out-SubCommand (box_value s)).name.now) (λ s. ((out-SubCommand (box_value s)).name.now, rows_of (found_of (out-SubCommand (box_value s)).matches))) (out-ArgMatches m).subcommand name rows (λ s. refl) a b

-- the subcommand of a verb was met, and its matches have what it asks for
pub record IsMetBy (inner : ArgMatches) (name : List ℕ) (verb : Verb) : Type 0 where
  pub is_named : name ≡ word_of_verb verb
  pub words : HasWords verb inner

first_word : (inner : ArgMatches) (id : List ℕ) (Fits : List ℕ → Type 0) → HasWord Fits (rows_of (found_of inner)) id
    → (word : List ℕ) × (first_value (found_of inner) id ≡ Some word) × Fits word
first_word inner id Fits has = (has.0, first_value-rows (found_of inner) id ∙ has.1, has.2)

some_value : (inner : ArgMatches) (id : List ℕ) → HasWord (λ _. Unit {0}) (rows_of (found_of inner)) id → IsSome (first_value (found_of inner) id)
some_value inner id has = rw (first_word inner id (λ _. Unit {0}) has).1 refl

rule_of_row : (inner : ArgMatches) → HasWord IsRuleWord (rows_of (found_of inner)) (codes "from") → (rule : Rule) × (first_value (found_of inner) (codes "from") ≡ Some (word_of_rule rule))
rule_of_row inner has =
    let word = first_word inner (codes "from") IsRuleWord has in
    (word.2.0, word.1 ∙ ap Some word.2.1)

canonical_of_row : (inner : ArgMatches) → HasWord IsCanonicalWord (rows_of (found_of inner)) (codes "to")
    → (rule : Canonical) × (first_value (found_of inner) (codes "to") ≡ Some (word_of_canonical rule))
canonical_of_row inner has =
    let word = first_word inner (codes "to") IsCanonicalWord has in
    (word.2.0, word.1 ∙ ap Some word.2.1)

words_of_rows : (verb : Verb) (inner : ArgMatches) → HasRowsOf verb (rows_of (found_of inner)) → HasWords verb inner
words_of_rows verb inner rows = record {
  «module» = some_value inner (codes "MODULE") rows.input.«module»;
  name = some_value inner (codes "TYPE") rows.input.name;
  input = some_value inner (codes "INPUT") rows.input.input;
  from = rule_of_row inner rows.input.from;
  to = λ e. canonical_of_row inner (rows.to e);
}

-- some subcommand was met
pub some_met : (app : App) (words : List (List ℕ)) (m : ArgMatches) → IsProgram app → fault_of app words ≡ [] → HasMatchesOf app words m → IsMet (subcommand_rows_of m)
some_met app words m program taken parsed = subst IsMet (sym (parsed (program_simple app program)).1) (met_of app words program taken)

is_some_of : {A B : Type 0} (f : A → B) (s : Option A) (b : B) → option_map f s ≡ Some b → is_some s ≡ true
is_some_of f None b h = absurd (cc h)
is_some_of f (Some a) b h = refl

pub has_met : (m : ArgMatches) → IsMet (subcommand_rows_of m) → has_subcommand m ≡ true
has_met m found = is_some_of _ (out-ArgMatches m).subcommand (word_of_verb found.0, found.1) found.2

-- and it is this one
pub met_by : (m inner : ArgMatches) (name : List ℕ) → IsMet (subcommand_rows_of m) → subcommand_rows_of m ≡ named name (rows_of (found_of inner)) → (verb : Verb) × IsMetBy inner name verb
met_by m inner name found is =
    let same : named name (rows_of (found_of inner)) ≡ named (word_of_verb found.0) found.1 = sym is ∙ found.2 in
    let name_is : name ≡ word_of_verb found.0 = ap (λ (o : Option NamedRows). (unwrap_or o (name, [])).0) same in
    let rows_are : rows_of (found_of inner) ≡ found.1 = ap (λ (o : Option NamedRows). (unwrap_or o (name, rows_of (found_of inner))).1) same in
    (found.0, record { is_named = name_is; words = words_of_rows found.0 inner (subst (HasRowsOf found.0) (sym rows_are) found.3) })

-- two verbs have two words
same_verb : (a b : Verb) → word_of_verb a ≡ word_of_verb b → a ≡ b
same_verb Show Show e = refl
same_verb Check Check e = refl
same_verb Convert Convert e = refl
same_verb Show Check e = absurd (cc e)
same_verb Show Convert e = absurd (cc e)
same_verb Check Show e = absurd (cc e)
same_verb Check Convert e = absurd (cc e)
same_verb Convert Show e = absurd (cc e)
same_verb Convert Check e = absurd (cc e)

-- what it asks for is what any verb of this name asks for
pub words_of : (inner : ArgMatches) (name : List ℕ) (verb : Verb) → (found : (other : Verb) × IsMetBy inner name other) → name ≡ word_of_verb verb → HasWords verb inner
words_of inner name verb found is = subst (λ v. HasWords v inner) (same_verb found.0 verb (sym found.1.is_named ∙ is)) found.1.words

-- the command line that its entries are
pub line_of : (words : List (List ℕ)) (app : App) (m inner : ArgMatches) (name : List ℕ) (verb : Verb) {E : Type 0} (r : Result Line E) → IsProgram app → fault_of app words ≡ [] → HasMatchesOf app words m
    → subcommand_rows_of m ≡ named name (rows_of (found_of inner)) → name ≡ word_of_verb verb → IfOk r (HasEntries inner) → IfOk r (λ line. line.verb ≡ verb) → IfOk r (IsLineOf words)
line_of words app m inner name verb (Err e) program taken parsed is name_is entries verb_is = tt
line_of words app m inner name verb (Ok line) program taken parsed is name_is entries verb_is = record {
  app = app;
  inner = inner;
  program = program;
  taken = taken;
  met = sym (parsed (program_simple app program)).1 ∙ is ∙ ap (λ n. named n (rows_of (found_of inner))) (name_is ∙ ap word_of_verb (sym verb_is));
  entries = entries;
}

-- what `clap` refuses
pub refused_by : (words : List (List ℕ)) (app : App) (kind : ErrorKind) (error : Error) → kind ≡ kind_of error → IsProgram app → HasKind (fault_of app words) error → IsRefusalOf words (line_fault_by kind error)
refused_by words app OutOfMemory error is program has = tt
refused_by words app kind error is program (inr among) = (app, program, among)
refused_by words app kind error is program (inl memory) = absurd (cc (is ∙ memory))
