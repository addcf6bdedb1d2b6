use Rattle.std.proofs.Common.{rules, ◌≡◌, ◌∙◌, ◌||◌, ap, ap₂, codes, Bool, true, false}
use Rattle.std.proofs.lemmas.Result.{IfOk-weaker}
use Rattle.clap.specs.Walk.{Rule}
use Rattle.clap.specs.Words.{app_of, rule_of, with_rule}
use Rattle.clap.specs.declared.builder.arg.Arg.{Arg}
use Rattle.clap.specs.declared.builder.value_parser.ValueParser.TheVariants.{Names}
use Rattle.program.specs.Program.{from_option, hex_option, needed}
use Rattle.program.proofs.commands.with_input.Goals as goal

pub returns : goal.returns
returns c =
    let must_be : Rule → Rule = λ r. record r { required = true } in
    let is_global : Arg → Bool = λ a. a.global in
    let module_is : rule_of c.help-module.result ≡ needed (codes "MODULE") = ap rule_of c.help-module.ensures ∙ ap rule_of c.required.ensures ∙ ap must_be c.new.ensures.rule in
    let name_is : rule_of c.help-name.result ≡ needed (codes "TYPE") = ap rule_of c.help-name.ensures ∙ ap rule_of c.required-2.ensures ∙ ap must_be c.new-2.ensures.rule in
    let input_is : rule_of c.help-input.result ≡ needed (codes "INPUT") = ap rule_of c.help-input.ensures ∙ ap rule_of c.required-3.ensures ∙ ap must_be c.new-3.ensures.rule in
    let from_is : rule_of c.default_value-from.result ≡ from_option (Names c.as_slice.result) = search rules in
    let hex_is : rule_of c.help-hex.result ≡ hex_option = search rules in
    let no_module : c.help-module.result.global ≡ false = ap is_global c.help-module.ensures ∙ ap is_global c.required.ensures ∙ c.new.ensures.optional.1 in
    let no_name : c.help-name.result.global ≡ false = ap is_global c.help-name.ensures ∙ ap is_global c.required-2.ensures ∙ c.new-2.ensures.optional.1 in
    let no_input : c.help-input.result.global ≡ false = ap is_global c.help-input.ensures ∙ ap is_global c.required-3.ensures ∙ c.new-3.ensures.optional.1 in
    let no_from : c.default_value-from.result.global ≡ false = search rules in
    let no_hex : c.help-hex.result.global ≡ false = search rules in
    let one = c.in_ok-command.ensures.shape no_module ∙ ap (with_rule (app_of c.args.command)) module_is in
    let two = c.in_ok-command-2.ensures.shape no_name ∙ ap₂ with_rule one name_is in
    let three = c.in_ok-command-3.ensures.shape no_input ∙ ap₂ with_rule two input_is in
    let four = c.in_ok-command-4.ensures.shape no_from ∙ ap₂ with_rule three from_is in
    let local_1 = c.in_ok-command.ensures.globals ∙ ap₂ (λ a b. a || b) c.requires no_module in
    let local_2 = c.in_ok-command-2.ensures.globals ∙ ap₂ (λ a b. a || b) local_1 no_name in
    let local_3 = c.in_ok-command-3.ensures.globals ∙ ap₂ (λ a b. a || b) local_2 no_input in
    let local_4 = c.in_ok-command-4.ensures.globals ∙ ap₂ (λ a b. a || b) local_3 no_from in
    IfOk-weaker c.arg-5.result _ _ (λ r h. record {
      from = Names c.as_slice.result;
      from_names = search rules;
      is = h.shape no_hex ∙ ap₂ with_rule four hex_is;
      local = h.globals ∙ ap₂ (λ a b. a || b) local_4 no_hex;
    }) c.arg-5.ensures
