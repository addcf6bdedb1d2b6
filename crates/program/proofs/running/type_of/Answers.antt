use Rattle.std.proofs.Common.{rules, ◌≡◌, refl, inl, subst, sym}
use Rattle.std.specs.Prelude.{codes, string_bytes}
use Rattle.program.specs.Line.{IsBuiltIn}
use Rattle.program.proofs.running.type_of.Goals as goal

pub returns-in-None-clause-fault : goal.returns-in-None-clause-fault
returns-in-None-clause-fault c =
    let built_in : string_bytes c.args.line.now.module ≡ codes "@builtin" = (search rules) in
    inl (
      refl,
      λ can. c.in-None.ensures.none (can built_in).0 (subst (λ name. IsBuiltIn name (can built_in).0) (sym c.as_str-name.ensures.value) (can built_in).1),
    )
