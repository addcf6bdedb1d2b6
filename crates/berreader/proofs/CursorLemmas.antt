-- Lemmas on where a reader stands in a value.
use Rattle.std.proofs.Common.{◌≡◌, ◌+◌, ◌<◌, ◌≤◌, inl, inr, ℕ, List, [], ◌∷◌, ◌++◌, Option, None, Some, Result, Ok, Err, IfOk, IfErr, OnOk, OnErr, length, take, drop, refl, sym, ap, ap₂, ◌∙◌, subst, arith, append-nil, append_assoc, length-append, length-drop, length-take}
use Rattle.std.proofs.lemmas.List.{take-append-drop, take_all}
use Rattle.octets.specs.Rule.{ber}
use Rattle.octets.proofs.ShortestLemmas.{IsLength-size}
use Rattle.types.specs.Encoding.{IsAccepted}
use Rattle.types.specs.Shape.{Val}
use Rattle.types.specs.View.{ty_view, value_view}
use Rattle.types.specs.declared.refusal.Refusal.{Refusal}
use Rattle.types.specs.declared.refusal.Refusal.TheVariants.{Truncated}
use Rattle.types.specs.declared.value.Value.{Value}
use Rattle.berreader.specs.declared.cursor.Cursor.{Cursor}
use Rattle.encoding_parts.specs.declared.frame.Frame.{Frame}
use Rattle.berreader.specs.declared.nest.Nest.{Nest}
use Rattle.berreader.specs.declared.nest.OpenString.{OpenString}
use Rattle.encoding_parts.specs.Completing.{Opens}
use Rattle.berreader.specs.Nest as nests
use Rattle.encoding_parts.specs.Segments as segments
use Rattle.berreader.specs.Cut.{IsCut, IsCutIn, IsNestCut}
use Rattle.encoding_parts.specs.Cut.{IsStringCut}
use Rattle.encoding_parts.specs.Refuses.{Refuses}
use Rattle.berreader.specs.Stack.{layers_of}
use Rattle.berreader.specs.Cursor.{ends_in, octets_in, taken_by, taken_of, with_string, AreTaken, CanFinish, HasPassed, HasTaken, IsSoundCursor, IsSoundIn, IsStep, IsTaken, IsWhole, Steps}
use Rattle.berreader.specs.Strings.{IsClosed, IsFound, IsOpenedString, IsSoundString, IsString}
use Rattle.berreader.proofs.ItemsLemmas as items
use Rattle.berreader.proofs.StringLemmas.{passed_on, cannot_finish, sound_on}

pub some_size : (end taken : ℕ) (frame : Frame) (size : List ℕ) → Opens end taken frame size → 1 ≤ length size
some_size end taken frame size (inl h) = (IsLength-size h.contents size h.sized).0
some_size end taken frame size (inr h) = omega (arith, ap length h.mark)

-- where no string has begun, the cursor is where its nest is
none_passed : (nest : Nest) (string : Option OpenString) (passed : List ℕ) → string ≡ None → HasPassed nest string passed → passed ≡ []
none_passed nest string passed none h = subst (λ s. HasPassed nest s passed) none h

nothing_passed : (nest : Nest) (string : Option OpenString) → string ≡ None → HasPassed nest string []
nothing_passed nest string none = subst (λ s. HasPassed nest s []) (sym none) refl

string_passed : (nest : Nest) (string : Option OpenString) (s : OpenString) (passed : List ℕ) → string ≡ Some s → IsString nest s passed → HasPassed nest string passed
string_passed nest string s passed some h = subst (λ o. HasPassed nest o passed) (sym some) h

pub finishes_nest : (cursor : Cursor) (octets : List ℕ) → cursor.string ≡ None → CanFinish cursor octets → nests.CanFinish cursor.nest octets
finishes_nest cursor octets none h = subst (λ p. nests.CanFinish cursor.nest (p ++ octets)) (none_passed cursor.nest cursor.string h.passed none h.string) h.rest

pub finishes : (cursor : Cursor) (octets : List ℕ) → cursor.string ≡ None → nests.CanFinish cursor.nest octets → CanFinish cursor octets
finishes cursor octets none h = record { passed = []; string = nothing_passed cursor.nest cursor.string none; rest = h }

pub taken_by_nest : (cursor : Cursor) (octets : List ℕ) → cursor.string ≡ None → HasTaken cursor octets → nests.HasTaken cursor.nest octets
taken_by_nest cursor octets none h =
    let same : octets ≡ h.before = h.joined ∙ ap (λ p. h.before ++ p) (none_passed cursor.nest cursor.string h.passed none h.string) ∙ append-nil h.before in
    subst (nests.HasTaken cursor.nest) (sym same) h.taken

pub taken_of_nest : (cursor : Cursor) (octets : List ℕ) → cursor.string ≡ None → nests.HasTaken cursor.nest octets → HasTaken cursor octets
taken_of_nest cursor octets none h =
    record { before = octets; passed = []; joined = sym (append-nil octets); taken = h; string = nothing_passed cursor.nest cursor.string none }

no_ends : (string : Option OpenString) → string ≡ None → ends_in string ≡ 0
no_ends string none = ap ends_in none

-- a step of the nest is one of the cursor
taken_nest : (old new : Cursor) (octets : List ℕ) (used : ℕ) → old.string ≡ None → new.string ≡ None → nests.IsTaken old.nest new.nest octets used → IsTaken old new octets used
taken_nest old new octets used before after h = record {
  there = h.there;
  type = h.type;
  forth = λ more f. finishes new (drop used octets ++ more) after (h.forth more (finishes_nest old (octets ++ more) before f));
  back = λ passed t. taken_of_nest new (passed ++ take used octets) after (h.back passed (taken_by_nest old passed before t));
  smaller = omega (arith, h.smaller, no_ends old.string before, no_ends new.string after);
}

-- and so are items that the nest takes
pub items_nest : (old new : Cursor) (octets : List ℕ) (used : ℕ) → old.string ≡ None → new.string ≡ None → items.AreTaken old.nest new.nest octets used → AreTaken old new octets used
items_nest old new octets used before after h = record {
  there = h.there;
  type = h.type;
  forth = λ more f. finishes new (drop used octets ++ more) after (h.forth more (finishes_nest old (octets ++ more) before f));
  back = λ passed t. taken_of_nest new (passed ++ take used octets) after (h.back passed (taken_by_nest old passed before t));
  ends = omega (arith, h.ends, no_ends old.string before, no_ends new.string after);
}

whole_nest : (old new : Cursor) (octets : List ℕ) (value : Val) (used : ℕ) → old.string ≡ None → new.string ≡ None → nests.IsWhole old.nest new.nest octets value used → IsWhole old new octets value used
whole_nest old new octets value used before after h = record {
  there = h.there;
  type = h.type;
  accepted = λ passed t. h.accepted passed (taken_by_nest old passed before t);
  layers = h.layers;
  taken = h.taken;
  string = after;
}

pub step_nest : (old new : Cursor) (octets : List ℕ) (whole : Option Value) (used : ℕ) → old.string ≡ None → new.string ≡ None → nests.IsStep old.nest new.nest octets whole used → IsStep old new octets whole used
step_nest old new octets None used before after h = taken_nest old new octets used before after h
step_nest old new octets (Some value) used before after h = whole_nest old new octets (value_view value) used before after h

pub sound_nest : (cursor : Cursor) → cursor.string ≡ None → nests.IsSoundNest cursor.nest → IsSoundCursor cursor
sound_nest cursor none h = record { nest = h; string = subst (IsSoundIn cursor.nest) (sym none) tt }

front_then_rest : (used : ℕ) (octets more : List ℕ) → take used octets ++ (drop used octets ++ more) ≡ octets ++ more
front_then_rest used octets more = sym (append_assoc (take used octets) (drop used octets) more) ∙ ap (λ o. o ++ more) (take-append-drop used octets)

-- a string begins
pub opened : (old new : Cursor) (octets : List ℕ) (string : OpenString) (used : ℕ) → old.string ≡ None → new.string ≡ Some string → IsOpenedString old.nest new.nest octets string used → IsTaken old new octets used
opened old new octets string used before after h =
    let begun : HasPassed new.nest new.string (take used octets) = string_passed new.nest new.string string (take used octets) after (subst (λ n. IsString n string (take used octets)) (sym h.same) h.begun) in
    record {
      there = h.there;
      type = ap (λ (n : Nest). ty_view n.ty.now) h.same;
      forth = λ more f. record {
        passed = take used octets;
        string = begun;
        rest = subst (λ n. nests.CanFinish n (take used octets ++ (drop used octets ++ more))) (sym h.same) (subst (nests.CanFinish old.nest) (sym (front_then_rest used octets more)) (finishes_nest old (octets ++ more) before f));
      };
      back = λ first t. record {
        before = first;
        passed = take used octets;
        joined = refl;
        taken = subst (λ n. nests.HasTaken n first) (sym h.same) (taken_by_nest old first before t);
        string = begun;
      };
      smaller = omega (arith, h.some, h.frames, ap (λ (n : Nest). length (layers_of n.layers)) h.same, no_ends old.string before, ap ends_in after);
    }

pub sound_opened : (old new : Cursor) (octets : List ℕ) (string : OpenString) (used : ℕ) → new.string ≡ Some string → IsOpenedString old.nest new.nest octets string used → nests.IsSoundNest new.nest → IsSoundCursor new
sound_opened old new octets string used after h sound =
    record { nest = sound; string = subst (IsSoundIn new.nest) (sym after) (subst (λ n. IsSoundString n string) (sym h.same) h.sound) }

-- a part of the string was passed
pub passed_string : (nest : Nest) (old new : OpenString) (octets : List ℕ) (used : ℕ) → new.next ≡ old.next → new.kind ≡ old.kind → segments.IsTaken old.kind old.segments new.segments octets used
    → length new.segments.frames.items < length old.segments.frames.items + used → IsTaken (with_string nest old) (with_string nest new) octets used
passed_string nest old new octets used next kind t smaller = record {
  there = t.there;
  type = refl;
  forth = λ more f. record {
    passed = f.passed ++ take used octets;
    string = passed_on nest old new f.passed octets used f.string next kind t;
    rest = subst (nests.CanFinish nest) (sym (append_assoc f.passed (take used octets) (drop used octets ++ more) ∙ ap (λ o. f.passed ++ o) (front_then_rest used octets more))) f.rest;
  };
  back = λ first h. record {
    before = h.before;
    passed = h.passed ++ take used octets;
    joined = ap (λ o. o ++ take used octets) h.joined ∙ append_assoc h.before h.passed (take used octets);
    taken = h.taken;
    string = passed_on nest old new h.passed octets used h.string next kind t;
  };
  smaller = omega (arith, smaller);
}

-- octets that complete no string complete no value
pub cannot : (nest : Nest) (string : OpenString) (octets : List ℕ) → nests.IsSoundNest nest → (segments.CanComplete string.kind string.segments octets → ⊥) → CanFinish (with_string nest string) octets → ⊥
cannot nest string octets sound none f = cannot_finish nest string f.passed octets sound f.string none f.rest

-- the string was put where it belongs: no octet behind it is taken
take_all_passed : (first before passed octets : List ℕ) (n : ℕ) → first ≡ before ++ passed → n ≡ length passed → before ++ take n passed ≡ first ++ take 0 octets
take_all_passed first before passed octets n joined count =
    ap (λ o. before ++ o) (take_all n passed (omega (arith, count))) ∙ sym joined ∙ sym (append-nil first)

closed_taken : (nest : Nest) (new : Cursor) (string : OpenString) (octets : List ℕ) (n : ℕ) → IsSoundString nest string → new.string ≡ None → length (layers_of new.nest.layers) ≤ length (layers_of nest.layers)
    → ((passed : List ℕ) → IsString nest string passed → IsClosed nest new.nest passed None n) → IsTaken (with_string nest string) new octets 0
closed_taken nest new string octets n sound none layers h = record {
  there = omega arith;
  type = (h sound.octets sound.begun).1.type;
  forth = λ more f.
      let k = h f.passed f.string in
      let all : drop n f.passed ≡ [] = ap (λ m. drop m f.passed) k.0 ∙ drop_all f.passed in
      finishes new (octets ++ more) none (subst (λ o. nests.CanFinish new.nest (o ++ (octets ++ more))) all (k.1.forth (octets ++ more) f.rest));
  back = λ first t.
      let k = h t.passed t.string in
      taken_of_nest new (first ++ take 0 octets) none (subst (nests.HasTaken new.nest) (take_all_passed first t.before t.passed octets n t.joined k.0) (k.1.back t.before t.taken));
  smaller = omega (arith, layers, no_ends new.string none);
}
  where
    drop_all : (l : List ℕ) → drop (length l) l ≡ []
    drop_all [] = refl
    drop_all (x ∷ l) = drop_all l

closed_whole : (nest : Nest) (new : Cursor) (string : OpenString) (octets : List ℕ) (value : Value) (n : ℕ) → IsSoundString nest string → new.string ≡ None
    → ((passed : List ℕ) → IsString nest string passed → IsClosed nest new.nest passed (Some value) n) → IsWhole (with_string nest string) new octets (value_view value) 0
closed_whole nest new string octets value n sound none h =
    let one = h sound.octets sound.begun in
    record {
      there = omega arith;
      type = one.1.type;
      accepted = λ first t.
          let k = h t.passed t.string in
          subst (IsAccepted ber (ty_view nest.ty.now) (value_view value)) (take_all_passed first t.before t.passed octets n t.joined k.0) (k.1.accepted t.before t.taken);
      layers = one.1.layers;
      taken = one.1.taken;
      string = none;
    }

pub closed_step : (nest : Nest) (new : Cursor) (string : OpenString) (octets : List ℕ) (whole : Option Value) (n : ℕ) → IsSoundString nest string → new.string ≡ None → length (layers_of new.nest.layers) ≤ length (layers_of nest.layers)
    → ((passed : List ℕ) → IsString nest string passed → IsClosed nest new.nest passed whole n) → IsStep (with_string nest string) new octets whole 0
closed_step nest new string octets None n sound none layers h = closed_taken nest new string octets n sound none layers h
closed_step nest new string octets (Some value) n sound none layers h = closed_whole nest new string octets value n sound none h

-- the string was taken out of where it was
pub put_back : (old : Cursor) (string : OpenString) → old.string ≡ Some string → with_string old.nest string ≡ old
put_back old string is = ap (λ s. let c : Cursor = record { nest = old.nest; string = s } in c) (sym is)

-- as many octets as have been taken
pub count_taken : (cursor : Cursor) (octets : List ℕ) → HasTaken cursor octets → length octets ≡ taken_of cursor
count_taken cursor octets h = go cursor.string h.string
  where
    size : length octets ≡ length h.before + length h.passed
    size = ap length h.joined ∙ length-append h.before h.passed

    go : (string : Option OpenString) → HasPassed cursor.nest string h.passed → length octets ≡ taken_by cursor.nest string
    go None none = omega (arith, size, ap length none, h.taken.count)
    go (Some string) s = omega (arith, size, s.segments.place, h.taken.count)

-- what is held of the string is no more than has come of it
pub octets_few : (nest : Nest) (string : Option OpenString) (passed : List ℕ) → HasPassed nest string passed → octets_in string ≤ length passed
octets_few nest None passed none = omega arith
octets_few nest (Some string) passed s = s.segments.light

pub no_octets : (octets : List ℕ) → length octets ≡ 0 → octets ≡ []
no_octets [] h = refl
no_octets (x ∷ octets) h = absurd (omega (arith, h))

-- a string that has begun has octets
pub none_begun : (nest : Nest) (string : Option OpenString) (passed : List ℕ) → HasPassed nest string passed → length passed ≡ 0 → string ≡ None
none_begun nest None passed none zero = refl
none_begun nest (Some string) passed s zero =
    let size = some_size _ _ s.segments.frame (take s.segments.size (drop string.next.identifier passed)) s.segments.opens in
    absurd (omega (arith, size, length-take s.segments.size (drop string.next.identifier passed), length-drop string.next.identifier passed, zero))

-- what the nest has found is a step of the cursor
pub step_found : (old : Cursor) (nest : Nest) (string : Option OpenString) (octets : List ℕ) (whole : Option Value) (used : ℕ) → old.string ≡ None → IsFound old.nest nest octets string whole used → IsStep old (record { nest = nest; string = string }) octets whole used
step_found old nest None octets whole used none h = step_nest old (record { nest = nest; string = None }) octets whole used none refl h
step_found old nest (Some string) octets None used none h = opened old (record { nest = nest; string = Some string }) octets string used none refl h
step_found old nest (Some string) octets (Some value) used none h = absurd h

pub sound_found : (old : Cursor) (nest : Nest) (string : Option OpenString) (octets : List ℕ) (whole : Option Value) (used : ℕ) → IsFound old.nest nest octets string whole used → nests.IsSoundNest nest → IsSoundCursor (record { nest = nest; string = string })
sound_found old nest None octets whole used h sound = sound_nest (record { nest = nest; string = None }) refl sound
sound_found old nest (Some string) octets None used h sound = sound_opened old (record { nest = nest; string = Some string }) octets string used refl h sound
sound_found old nest (Some string) octets (Some value) used h sound = absurd h

-- and so is what it answers
nest_step : (old : Cursor) (nest : Nest) (string : Option OpenString) (octets : List ℕ) (whole : Option Value) (r : Result ℕ Refusal) → old.string ≡ None → IfOk r (λ used. IsFound old.nest nest octets string whole used) → IfOk r (λ used. IsStep old (record { nest = nest; string = string }) octets whole used)
nest_step old nest string octets whole (Ok used) none h = step_found old nest string octets whole used none h
nest_step old nest string octets whole (Err e) none h = tt

nest_sound : (old : Cursor) (nest : Nest) (string : Option OpenString) (octets : List ℕ) (whole : Option Value) (r : Result ℕ Refusal) → IfOk r (λ used. IsFound old.nest nest octets string whole used) → OnOk r (nests.IsSoundNest nest) → OnOk r (IsSoundCursor (record { nest = nest; string = string }))
nest_sound old nest string octets whole (Ok used) h sound = sound_found old nest string octets whole used h sound
nest_sound old nest string octets whole (Err e) h sound = tt

nest_refused : (old : Cursor) (octets : List ℕ) (r : Result ℕ Refusal) → old.string ≡ None → IfErr r (Refuses (nests.CanFinish old.nest) (IsNestCut old.nest) octets) → IfErr r (Refuses (CanFinish old) (IsCut old) octets)
nest_refused old octets (Ok used) none h = tt
nest_refused old octets (Err e) none h = record {
  truncated = λ is f. h.truncated is (finishes_nest old octets none f);
  cut = λ is. subst (λ s. IsCutIn old.nest s octets) (sym none) (h.cut is);
  never = λ final more f. h.never final more (finishes_nest old (octets ++ more) none f);
  numbers = h.numbers;
}

pub nest_steps : (old : Cursor) (nest : Nest) (string : Option OpenString) (octets : List ℕ) (whole : Option Value) (r : Result ℕ Refusal) → old.string ≡ None → IfOk r (λ used. IsFound old.nest nest octets string whole used) → OnOk r (nests.IsSoundNest nest)
    → IfErr r (Refuses (nests.CanFinish old.nest) (IsNestCut old.nest) octets) → (r ≡ Err Truncated → nest ≡ old.nest) → OnErr r (string ≡ None) → Steps old (record { nest = nest; string = string }) octets whole r
nest_steps old nest string octets whole r none found sound refused unchanged kept = record {
  taken = nest_step old nest string octets whole r none found;
  sound = nest_sound old nest string octets whole r found sound;
  refused = nest_refused old octets r none refused;
  unchanged = λ is. ap₂ (λ n s. let c : Cursor = record { nest = n; string = s } in c) (unchanged is) (subst (λ q. OnErr q (string ≡ None)) is kept ∙ sym none);
}

-- a part of the string that has begun was passed
pub string_step : (old : Cursor) (string new : OpenString) (octets : List ℕ) (used : ℕ) (whole : Option Value) → old.string ≡ Some string → whole ≡ None → new.next ≡ string.next → new.kind ≡ string.kind → segments.IsTaken string.kind string.segments new.segments octets used
    → length new.segments.frames.items < length string.segments.frames.items + used → IsStep old (with_string old.nest new) octets whole used
string_step old string new octets used whole is none next kind t smaller =
    subst (λ w. IsStep old (with_string old.nest new) octets w used) (sym none)
    (subst (λ o. IsTaken o (with_string old.nest new) octets used) (put_back old string is) (passed_string old.nest string new octets used next kind t smaller))

pub string_sound : (old : Cursor) (string new : OpenString) (octets : List ℕ) (used : ℕ) → old.string ≡ Some string → IsSoundCursor old → new.next ≡ string.next → new.kind ≡ string.kind → segments.IsTaken string.kind string.segments new.segments octets used → segments.IsSound string.kind new.segments
    → IsSoundCursor (with_string old.nest new)
string_sound old string new octets used is sound next kind t held =
    record { nest = sound.nest; string = sound_on old.nest string new octets used (subst (IsSoundIn old.nest) is sound.string) next kind t held }

-- what the string says of octets
pub refused_string : (old : Cursor) (string : OpenString) (octets : List ℕ) (refusal : Refusal) → old.string ≡ Some string → IsSoundCursor old → Refuses (segments.CanComplete string.kind string.segments) (IsStringCut string.kind string.segments) octets refusal → Refuses (CanFinish old) (IsCut old) octets refusal
refused_string old string octets refusal is sound h =
    let here : Refuses (CanFinish (with_string old.nest string)) (IsCut (with_string old.nest string)) octets refusal = record {
      truncated = λ t f. cannot old.nest string octets sound.nest (h.truncated t) f;
      cut = h.cut;
      never = λ final more f. cannot old.nest string (octets ++ more) sound.nest (h.never final more) f;
      numbers = h.numbers;
    } in
    subst (λ (o : Cursor). Refuses (CanFinish o) (IsCut o) octets refusal) (put_back old string is) here
