-- What all values that are returned come to.
use Rattle.std.proofs.Common.{◌≡◌, ℕ, ◌+◌, List, [], ◌∷◌, ◌++◌, length, Option, None, Some, refl, sym, ap, ◌∙◌, append_assoc, append-nil, arith, length-append, subst}
use Rattle.std.specs.Prelude.{IfSome}
use Rattle.std.specs.Io.KnownBytes.{Consumes, IsAtEnd}
use Rattle.octets.specs.Rule as encoding
use Rattle.types.specs.declared.refusal.Refusal.{Refusal}
use Rattle.types.specs.declared.ty.Ty.{Ty}
use Rattle.types.specs.Shape.{Shape, Val}
use Rattle.types.specs.Stream.{IsStream}
use Rattle.types.specs.View.{ty_view}
use Rattle.engine.specs.declared.rule.Rule.{Rule}
use Rattle.engine.specs.Rule.{rule_of}
use Rattle.engine.specs.Stream.{BeginsWith, IsCheckStopped, Refuses}
use Rattle.engine.proofs.StreamLemmas.{stream_append}
use Rattle.value_stream.specs.Laws.{ReturnsAll, ValuesAreThoseOfTheSource}
use Rattle.value_stream.specs.Next.{IsNext, IsStop}
use Rattle.value_stream.specs.Progress.{Progress}

-- the octets of values one after another
record Takes (rule : Rule) (ty : Ty) (values : List Val) (first last : Progress) : Type 0 where
  pub front : List ℕ
  pub read : IsStream (rule_of rule) (ty_view ty) values front
  pub taken : Consumes first.left last.left front
  pub counted : last.done ≡ first.done + length values
  pub offset : last.offset ≡ first.offset + length front
  pub same_rule : last.rule ≡ rule
  pub same_type : last.ty ≡ ty

consumes_both : (a b c : Option (List ℕ)) (x y : List ℕ) → Consumes a b x → Consumes b c y → Consumes a c (x ++ y)
consumes_both None b c x y p q = tt
consumes_both (Some s) None c x y p q = absurd p
consumes_both (Some s) (Some t) None x y p q = absurd q
consumes_both (Some s) (Some t) (Some u) x y p q = p ∙ ap (λ l. x ++ l) q ∙ sym (append_assoc x y u)

consumes_nothing : (a : Option (List ℕ)) → Consumes a a []
consumes_nothing None = tt
consumes_nothing (Some s) = refl

takes_all : (rule : Rule) (ty : Ty) (values : List Val) (first last : Progress) → first.rule ≡ rule → first.ty ≡ ty → ReturnsAll values first last → Takes rule ty values first last
takes_all rule ty [] first last same_rule same_type all = record {
  front = [];
  read = record { encodings = []; each = tt; whole = refl };
  taken = subst (λ p. Consumes first.left p.left []) (sym all) (consumes_nothing first.left);
  counted = ap (λ p. p.done) all ∙ omega arith;
  offset = ap (λ p. p.offset) all ∙ omega arith;
  same_rule = ap (λ p. p.rule) all ∙ same_rule;
  same_type = ap (λ p. p.ty) all ∙ same_type;
}
takes_all rule ty (v ∷ values) first last same_rule same_type all =
    let between = all.0 in
    let r = all.1 in
    let rest = takes_all rule ty values between last (r.rule ∙ same_rule) (r.type ∙ same_type) all.2 in
    let next = subst (λ t. IsNext (rule_of rule) (ty_view t) v first.offset between.offset first.left between.left) same_type (subst (λ k. IsNext (rule_of k) (ty_view first.ty) v first.offset between.offset first.left between.left) same_rule r.next) in
    record {
      front = next.octets ++ rest.front;
      read = stream_append (rule_of rule) (ty_view ty) (v ∷ []) values next.octets rest.front (record { encodings = next.octets ∷ []; each = (next.accepted, tt); whole = sym (append-nil next.octets) }) rest.read;
      taken = consumes_both first.left between.left last.left next.octets rest.front next.taken rest.taken;
      counted = omega (arith, rest.counted, r.done);
      offset = omega (arith, rest.offset, next.counted, length-append next.octets rest.front);
      same_rule = rest.same_rule;
      same_type = rest.same_type;
    }

begins_with : (rule : encoding.Rule) (shape : Shape) (values : List Val) (stream front : List ℕ) (left last : Option (List ℕ)) → IsStream rule shape values front → left ≡ Some stream → Consumes left last front → IfSome last (BeginsWith rule shape values stream)
begins_with rule shape values stream front left None read left_is taken = tt
begins_with rule shape values stream front left (Some rest) read left_is taken = record { front = front; read = read; whole = subst (λ l. Consumes l (Some rest) front) left_is taken }

-- nothing is left of the stream
all_read : (rule : encoding.Rule) (shape : Shape) (values : List Val) (stream front : List ℕ) (left last : Option (List ℕ)) → IsStream rule shape values front → left ≡ Some stream → Consumes left last front → IsAtEnd last → IsStream rule shape values stream
all_read rule shape values stream front left None read left_is taken end = absurd (subst (λ l. Consumes l None front) left_is taken)
all_read rule shape values stream front left (Some rest) read left_is taken end =
    subst (IsStream rule shape values) (sym (subst (λ l. Consumes l (Some rest) front) left_is taken ∙ ap (λ x. front ++ x) end ∙ append-nil front)) read

some_is : (a b : List ℕ) → ◌≡◌ {A = Option (List ℕ)} (Some a) (Some b) → a ≡ b
some_is a b same = cc same

-- the stop, of a stream whose front was read
check_stopped : (rule : encoding.Rule) (shape : Shape) (values : List Val) (refusal : Refusal) (stream front : List ℕ) (read : ℕ) (left last new : Option (List ℕ)) → IsStream rule shape values front → left ≡ Some stream → length front ≡ read → Consumes left last front
    → IsStop rule shape refusal read last new → IsCheckStopped rule shape (length values) refusal stream
check_stopped rule shape values refusal stream front read None last new fronts left_is size taken stop = absurd (cc left_is)
check_stopped rule shape values refusal stream front read (Some all) None new fronts left_is size taken stop = absurd taken
check_stopped rule shape values refusal stream front read (Some all) (Some rest) new fronts left_is size taken stop =
    let whole : stream ≡ front ++ rest = sym (some_is all stream left_is) ∙ taken in
    record {
      values = values;
      counted = refl;
      rest = rest;
      read = record { front = front; read = fronts; whole = whole };
      refused = subst (λ octets. Refuses rule shape refusal octets rest) (sym whole) (stop.refused front size);
    }

pub those_of_the_source : ValuesAreThoseOfTheSource
those_of_the_source stream values first last at_start left_is all =
    let rule = rule_of first.rule in
    let shape = ty_view first.ty in
    let t = takes_all first.rule first.ty values first last refl refl all in
    record {
      counted = t.counted;
      front = begins_with rule shape values stream t.front first.left last.left t.read left_is t.taken;
      all = all_read rule shape values stream t.front first.left last.left t.read left_is t.taken;
      stopped = λ refusal new stop.
          check_stopped rule shape values refusal stream t.front last.offset first.left last.left new.left t.read left_is (omega (arith, t.offset, at_start)) t.taken
          (subst (λ k. IsStop (rule_of k) shape refusal last.offset last.left new.left) t.same_rule (subst (λ x. IsStop (rule_of last.rule) (ty_view x) refusal last.offset last.left new.left) t.same_type stop));
    }
