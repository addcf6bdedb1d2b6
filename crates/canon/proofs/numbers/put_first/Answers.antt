use Rattle.std.proofs.Common.{◌≡◌, ◌∙◌, ◌+◌, ◌%◌, ◌^◌, ◌++◌, ℕ, List, length, ap, arith}
use Rattle.std.specs.Int.{w64, to_be_bytes}
use Rattle.canon.proofs.NumberLemmas.{words_of, both_words, first_word}
use Rattle.canon.proofs.numbers.put_first.Goals.{then-count-gt8+in_ok-put_word-2, else-count-gt8}
use Rattle.canon.proofs.numbers.put_first.Goals as goal

pub returns-clause-appended : goal.returns-clause-appended
returns-clause-appended c = λ octets below size is.
    let count = c.args.count in
    let sixteen = c.args.sixteen in
    let old : List ℕ = c.args.out.now.items in
    let laid : List ℕ = c.if-count-gt8.out.items in
    let end : ℕ = c.len.result + count in
    let at : end ≡ length old + count = omega (arith, c.len.ensures, c.args.out.now.ok) in
    let words = words_of octets count sixteen c.requires.few below size is in
    let two : List ℕ = to_be_bytes w64 (sixteen % 2 ^ 64) in
    c.truncate.ensures.items
    ∙ elim c.if-count-gt8.branch [
      | then-count-gt8+in_ok-put_word-2 w ↦
          both_words octets old laid count sixteen end size at words (ap (λ v. v.items) w.out-is ∙ w.in_ok-put_word-2.ensures.appended ∙ ap (λ s. s ++ two) c.in_ok-put_word.ensures.appended)
      | else-count-gt8 w ↦
          first_word octets old laid count sixteen end w.if-count-gt8.false size at words (ap (λ v. v.items) w.out-is ∙ c.in_ok-put_word.ensures.appended)
    ]
