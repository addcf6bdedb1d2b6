use Rattle.std.proofs.Common.{◌∙◌, ap, ap₂}
use Rattle.std.proofs.lemmas.Result.{IfOk-weaker}
use Rattle.clap.specs.Words.{App, with_subcommand}
use Rattle.program.proofs.commands.program.Goals as goal

pub returns : goal.returns
returns c =
    let show = c.in_ok-show.ensures in
    let check = c.in_ok-check.ensures in
    let convert = c.in_ok-convert.ensures in
    let one = c.in_ok-program.ensures.shape show.local ∙ ap₂ with_subcommand c.own_command.ensures (ap (λ (a : App). a.top) show.is) in
    let two = c.in_ok-program-2.ensures.shape check.local ∙ ap₂ with_subcommand one (ap (λ (a : App). a.top) check.is) in
    IfOk-weaker c.subcommand-3.result _ _ (λ r h. record {
      show = show.from;
      check = check.from;
      convert = convert.from;
      to = convert.to;
      show_names = show.from_names;
      check_names = check.from_names;
      convert_names = convert.from_names;
      to_names = convert.to_names;
      is = h.shape convert.local ∙ ap₂ with_subcommand two (ap (λ (a : App). a.top) convert.is);
    }) c.subcommand-3.ensures
