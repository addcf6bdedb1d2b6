use Rattle.std.proofs.Common.{rules, ◌≡◌, ◌∙◌, ◌||◌, ap, ap₂, codes, false}
use Rattle.std.proofs.lemmas.Result.{IfOk-weaker}
use Rattle.clap.specs.Words.{app_of, new_app, rule_of, with_rule}
use Rattle.clap.specs.declared.builder.value_parser.ValueParser.TheVariants.{Names}
use Rattle.program.specs.Program.{to_option, with_input}
use Rattle.program.proofs.commands.convert_command.Goals as goal

pub returns : goal.returns
returns c =
    let to_is : rule_of c.required-to.result ≡ to_option (Names c.as_slice.result) = search rules in
    let no_to : c.required-to.result.global ≡ false = search rules in
    let new_is : app_of c.after_help-command.result ≡ new_app (codes "convert") = search rules in
    let i = c.in_ok-command.ensures in
    IfOk-weaker c.arg.result _ _ (λ r h. record {
      from = i.from;
      to = Names c.as_slice.result;
      from_names = i.from_names;
      to_names = search rules;
      is = h.shape no_to ∙ ap₂ with_rule (i.is ∙ ap (with_input i.from) new_is) to_is;
      local = h.globals ∙ ap₂ (λ a b. a || b) i.local no_to;
    }) c.arg.ensures
