use Rattle.std.proofs.Common.{◌≡◌, Some, refl}
use Rattle.std.proofs.lemmas.Result.{err_from_is_err_and}
use Rattle.clap.specs.Words.{app_of, found_of, kind_of, rows_of, subcommand_name_of}
use Rattle.program.specs.CommandLine.{texts_of}
use Rattle.program.proofs.ProgramLemmas.{program_free}
use Rattle.program.proofs.WordLemmas.{line_of, met, met_by, refused_by, some_met, words_of}
use Rattle.program.proofs.words.line.Goals as goal

pub returns-in_err-matches-clause-refused : goal.returns-in_err-matches-clause-refused
returns-in_err-matches-clause-refused c =
    let program = c.in_ok-program.ensures in
    let app = app_of c.in_ok-program.field-0 in
    let error = c.in_err-matches.field-0.0 in
    let kinds = c.in_err-matches.ensures.kinds (program_free app program) in
    let returned = err_from_is_err_and c.from_residual-in_err-matches.result c.from_residual-in_err-matches.ensures.1 in
    rw (returned.1, returned.2) (refused_by (texts_of c.args.words.now) app (kind_of error) error refl program kinds)

pub verb_of-requires : goal.verb_of-requires
verb_of-requires c =
    let program = c.in_ok-program.ensures in
    let app = app_of c.in_ok-program.field-0 in
    let m = c.in_ok-matches.matches in
    let inner = c.unwrap.result.1.now in
    let name = c.unwrap.result.0.now in
    let name_is : Some name ≡ subcommand_name_of m = rw c.unwrap.ensures at c.subcommand.ensures.name in
    let rows_are = rw c.unwrap.ensures at c.subcommand.ensures.rows in
    let found = met_by m inner name (some_met app (texts_of c.args.words.now) m program (c.in_ok-matches.ensures.kinds (program_free app program)) c.in_ok-matches.ensures.matches)
    (met m name (rows_of (found_of inner)) name_is rows_are) in
    (found.0, found.1.is_named)

pub line_of-requires : goal.line_of-requires
line_of-requires c =
    let program = c.in_ok-program.ensures in
    let app = app_of c.in_ok-program.field-0 in
    let m = c.in_ok-matches.matches in
    let inner = c.unwrap.result.1.now in
    let name = c.unwrap.result.0.now in
    let name_is : Some name ≡ subcommand_name_of m = rw c.unwrap.ensures at c.subcommand.ensures.name in
    let rows_are = rw c.unwrap.ensures at c.subcommand.ensures.rows in
    let found = met_by m inner name (some_met app (texts_of c.args.words.now) m program (c.in_ok-matches.ensures.kinds (program_free app program)) c.in_ok-matches.ensures.matches)
    (met m name (rows_of (found_of inner)) name_is rows_are) in
    words_of inner name c.verb_of.result found c.verb_of.ensures

pub returns-clause-value : goal.returns-clause-value
returns-clause-value c =
    let program = c.in_ok-program.ensures in
    let app = app_of c.in_ok-program.field-0 in
    let m = c.in_ok-matches.matches in
    let inner = c.unwrap.result.1.now in
    let name = c.unwrap.result.0.now in
    let name_is : Some name ≡ subcommand_name_of m = rw c.unwrap.ensures at c.subcommand.ensures.name in
    let rows_are = rw c.unwrap.ensures at c.subcommand.ensures.rows in
    line_of (texts_of c.args.words.now) app m inner name c.verb_of.result c.line_of.result program (c.in_ok-matches.ensures.kinds (program_free app program)) c.in_ok-matches.ensures.matches
    (met m name (rows_of (found_of inner)) name_is rows_are) c.verb_of.ensures c.line_of.ensures.entries c.line_of.ensures.verb
