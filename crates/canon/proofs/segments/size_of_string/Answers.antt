use Rattle.std.proofs.Common.{◌≡◌, ◌+◌, ◌≤◌, ◌<◌, ◌^◌, ◌++◌, length, min, sym, ◌∙◌, subst, refl, arith, false, length-append}
use Rattle.octets.specs.declared.canonical.Canonical.{Canonical}
use Rattle.octets.specs.Rule.{cer, rule_of}
use Rattle.canon.specs.Segments.{IsStringOf}
use Rattle.canon.specs.Size.{HasSize}
use Rattle.canon.proofs.StringSizeLemmas.{SizesPrimitive, long_string_size, primitive_string_size, short_string_size, cut_string_size}
use Rattle.canon.proofs.segments.size_of_string.Goals as goal

pub returns-then-octets-gt-MAX_ENCODING-clause-size : goal.returns-then-octets-gt-MAX_ENCODING-clause-size
returns-then-octets-gt-MAX_ENCODING-clause-size c = λ segment whole front string low one two three.
    long_string_size c.args.rule c.args.tag segment whole front string (omega (arith, three, c.if-octets-gt-MAX_ENCODING.true))

pub returns-in-Cer-clause-size : goal.returns-in-Cer-clause-size
returns-in-Cer-clause-size c = λ segment whole front string low one two three.
    let long : 1000 < length (front ++ string) = omega (arith, length-append front string, two, three) in
    let cut = cut_string_size c.args.tag segment whole front string c.size_of_cut.result c.requires.tag low (one ∙ sym two) (omega (arith, two, c.requires.lead)) long
    (λ octets h. c.size_of_cut.ensures segment whole front string octets low one two three h) in
    let capped : min c.size_of_cut.result 1_048_577 ≡ c.min.result = omega (arith, c.min.ensures) in
    subst (λ (r : Canonical). HasSize (IsStringOf (rule_of r) c.args.tag segment whole front string) c.min.result) (sym c.in-Cer.is) (subst (HasSize (IsStringOf cer c.args.tag segment whole front string)) capped cut)

pub returns-in-Cer-2-clause-size : goal.returns-in-Cer-2-clause-size
returns-in-Cer-2-clause-size c = λ segment whole front string low one two three.
    let size = c.size_of_definite.result in
    let count : length (front ++ string) ≡ c.args.lead + c.args.octets = omega (arith, length-append front string, two, three) in
    let short : length (front ++ string) ≤ 1000 = omega (arith, count, c.if-octets-lead.false, c.requires.lead) in
    let sizes : SizesPrimitive c.args.tag (length (front ++ string)) size = λ inside octets same h. c.size_of_definite.ensures.size false inside octets (sym count ∙ same) h in
    subst (λ (r : Canonical). HasSize (IsStringOf (rule_of r) c.args.tag segment whole front string) size) (sym c.in-Cer-2.is) (short_string_size c.args.tag segment whole front string size c.requires.tag short sizes)

pub returns-in-Der-clause-size : goal.returns-in-Der-clause-size
returns-in-Der-clause-size c = λ segment whole front string low one two three.
    let size = c.size_of_definite-in-Der.result in
    let count : length (front ++ string) ≡ c.args.lead + c.args.octets = omega (arith, length-append front string, two, three) in
    let wide : 2 ^ 64 ≡ 18446744073709551616 = refl in
    let contents : min (length (front ++ string)) 1_048_577 ≡ c.min-in-Der.result = omega (arith, count, c.min-in-Der.ensures) in
    let sizes : SizesPrimitive c.args.tag (min (length (front ++ string)) 1_048_577) size = λ inside octets same h. c.size_of_definite-in-Der.ensures.size false inside octets (sym contents ∙ same) h in
    subst (λ (r : Canonical). HasSize (IsStringOf (rule_of r) c.args.tag segment whole front string) size) (sym c.in-Der.is)
    (primitive_string_size c.args.tag segment whole front string size c.requires.tag (omega (arith, count, wide, c.requires.lead, c.if-octets-gt-MAX_ENCODING.false)) sizes)
