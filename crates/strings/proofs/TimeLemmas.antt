-- Numbers in decimal digits at the front of octets, and a moment read number by number.
use Rattle.std.proofs.Common.{◌≡◌, ℕ, ◌+◌, ◌/◌, ◌%◌, ◌^◌, ◌<◌, ◌≤◌, List, [], ◌∷◌, ◌++◌, length, take, get_or, zero, suc, refl, ap, sym, subst, ◌∙◌, arith, append_assoc, inl, inr, ◌-◌, lit<}
use Rattle.std.specs.Prelude.{Bool, IsTrue, false, Option, Some, None, IfNone}
use Rattle.std.proofs.lemmas.List.{length_push, same_from_push, take_at, append_cancel_left}
use Rattle.std.proofs.Math.Nat.{pow-suc}
use Rattle.strings.specs.Time.{digits_of, year_digits, last_day_of, Spells, IsDate, IsMoment, IsTimeOfDay}
use Rattle.strings.specs.declared.time.TimeKind.{TimeKind}
use Rattle.strings.specs.declared.time.TimeKind.TheVariants.{Generalized}

-- as many digits as were asked for
length_of : (count number : ℕ) → length (digits_of count number) ≡ count
length_of zero number = refl
length_of (suc count) number =
    let e : length (digits_of count (number / 10)) ≡ count = length_of count (number / 10) in
    let f = length_push (digits_of count (number / 10)) (48 + number % 10) in
    omega (arith, e, f)

-- the digits at the front are the number's
front_of : (count number : ℕ) (octets rest : List ℕ) → octets ≡ digits_of count number ++ rest → take count octets ≡ digits_of count number
front_of count number octets rest e =
    ap (take count) e ∙ take_at (digits_of count number) rest count (length_of count number)

-- numbers with the same digits are the same
same_number : (count m n : ℕ) → m < 10 ^ count → n < 10 ^ count → digits_of count m ≡ digits_of count n → m ≡ n
same_number zero m n a b e = omega arith
same_number (suc count) m n a b e =
    let same = same_from_push (digits_of count (m / 10)) (digits_of count (n / 10)) (48 + m % 10) (48 + n % 10) e in
    let tens : m / 10 ≡ n / 10 = same_number count (m / 10) (n / 10) (omega (arith, pow-suc 10 count)) (omega (arith, pow-suc 10 count)) same.0 in
    omega (arith, tens, same.1)

-- octets begin with one number, and one rest follows it
pub agree : {count m n : ℕ} {octets front rest : List ℕ} → Spells count m octets front → Spells count n octets rest → (m ≡ n) × (front ≡ rest)
agree {count = count} {m = m} {n = n} {octets = octets} {front = front} {rest = rest} a b =
    let digits : digits_of count m ≡ digits_of count n = sym (front_of count m octets front a.spelt) ∙ front_of count n octets rest b.spelt in
    let joined : digits_of count n ++ front ≡ digits_of count n ++ rest =
    subst (λ (xs : List ℕ). xs ++ front ≡ digits_of count n ++ rest) digits (sym a.spelt ∙ b.spelt) in
    (same_number count m n a.below b.below digits, append_cancel_left (digits_of count n) front rest joined)

-- so what follows it in one reading follows it in the other
pub follow : {count next m n k : ℕ} {octets front rest last : List ℕ} → Spells count m octets front → Spells count n octets rest → Spells next k rest last → Spells next k front last
follow {next = next} {k = k} {last = last} a b c =
    subst (λ (xs : List ℕ). Spells next k xs last) (sym (agree a b).1) c

-- four digits are two and two
four_digits : (number : ℕ) → digits_of 4 number ≡ digits_of 2 (number / 100) ++ digits_of 2 (number % 100)
four_digits number =
    let a : number / 10 / 10 / 10 % 10 ≡ number / 100 / 10 % 10 = omega arith in
    let b : number / 10 / 10 % 10 ≡ number / 100 % 10 = omega arith in
    let d : number / 10 % 10 ≡ number % 100 / 10 % 10 = omega arith in
    let e : number % 10 ≡ number % 100 % 10 = omega arith in
    cc (a, b, d, e)

-- so where two digits are followed by no two more, there are no four
pub no_year : {kind : TimeKind} {first number : ℕ} {octets middle rest : List ℕ} → kind ≡ Generalized → Spells 2 first octets middle → ((last : ℕ) (rest : List ℕ) → 0 ≤ last → last ≤ 99 → ¬ Spells 2 last middle rest) → ¬ Spells (year_digits kind) number octets rest
no_year {number = number} {octets = octets} {middle = middle} {rest = rest} is a none whole =
    let four : Spells 4 number octets rest = subst (λ (k : TimeKind). Spells (year_digits k) number octets rest) is whole in
    let front : Spells 2 (number / 100) octets (digits_of 2 (number % 100) ++ rest) = record {
      below = omega (arith, four.below);
      spelt = cc (four.spelt, four_digits number);
    } in
    let after : middle ≡ digits_of 2 (number % 100) ++ rest = (agree a front).1 in
    none (number % 100) rest (omega arith) (omega arith) (record { below = omega arith; spelt = after })

-- a moment at the front of octets, number by number
pub record Reading (kind : TimeKind) (octets rest : List ℕ) : Type 0 where
  pub year : ℕ
  pub month : ℕ
  pub day : ℕ
  pub hour : ℕ
  pub minute : ℕ
  pub second : ℕ
  pub after_year : List ℕ
  pub after_month : List ℕ
  pub after_day : List ℕ
  pub after_hour : List ℕ
  pub after_minute : List ℕ
  pub date : IsDate kind year month day
  pub time : IsTimeOfDay hour minute second
  pub year_is : Spells (year_digits kind) year octets after_year
  pub month_is : Spells 2 month after_year after_month
  pub day_is : Spells 2 day after_month after_day
  pub hour_is : Spells 2 hour after_day after_hour
  pub minute_is : Spells 2 minute after_hour after_minute
  pub second_is : Spells 2 second after_minute rest

-- a month has 31 days at most
AllSmall : List ℕ → Type 0
AllSmall [] = Unit {0}
AllSmall (x ∷ xs) = (x < 32) × AllSmall xs

small_at : (xs : List ℕ) (i : ℕ) → AllSmall xs → get_or xs i 0 < 32
unfolding AllSmall
small_at [] i all = omega arith
small_at (x ∷ xs) zero all = all.0
small_at (x ∷ xs) (suc i) all = small_at xs i all.1

last_day_below : (month : ℕ) → last_day_of month < 32
unfolding AllSmall
last_day_below month =
    small_at (31 ∷ 28 ∷ 31 ∷ 30 ∷ 31 ∷ 30 ∷ 31 ∷ 31 ∷ 30 ∷ 31 ∷ 30 ∷ 31 ∷ []) (month - 1)
    (lit< tt, (lit< tt, (lit< tt, (lit< tt, (lit< tt, (lit< tt, (lit< tt, (lit< tt, (lit< tt, (lit< tt, (lit< tt, (lit< tt, tt))))))))))))

pub day_to_31 : {kind : TimeKind} {year month day : ℕ} → IsDate kind year month day → day ≤ 31
day_to_31 {month = month} date = elim date.day_to [ inl le ↦ omega (arith, last_day_below month) | inr leap ↦ omega arith ]

-- a moment at the front is read so
pub to_reading : (kind : TimeKind) (octets moment rest : List ℕ) → IsMoment kind moment → octets ≡ moment ++ rest → Reading kind octets rest
to_reading kind octets moment rest is e =
    let whole : octets ≡ (digits_of (year_digits kind) is.year ++ digits_of 2 is.month ++ digits_of 2 is.day
    ++ digits_of 2 is.hour ++ digits_of 2 is.minute ++ digits_of 2 is.second) ++ rest = subst (λ (xs : List ℕ). octets ≡ xs ++ rest) is.spelt e in
    record {
      year = is.year;
      month = is.month;
      day = is.day;
      hour = is.hour;
      minute = is.minute;
      second = is.second;
      after_year = digits_of 2 is.month ++ (digits_of 2 is.day ++ (digits_of 2 is.hour ++ (digits_of 2 is.minute ++ (digits_of 2 is.second ++ rest))));
      after_month = digits_of 2 is.day ++ (digits_of 2 is.hour ++ (digits_of 2 is.minute ++ (digits_of 2 is.second ++ rest)));
      after_day = digits_of 2 is.hour ++ (digits_of 2 is.minute ++ (digits_of 2 is.second ++ rest));
      after_hour = digits_of 2 is.minute ++ (digits_of 2 is.second ++ rest);
      after_minute = digits_of 2 is.second ++ rest;
      date = is.date;
      time = is.time;
      year_is = record { below = is.year_to; spelt = whole ∙ simp append_assoc };
      month_is = record { below = (let a = is.date.month_to in omega arith); spelt = refl };
      day_is = record { below = (let a = day_to_31 is.date in omega arith); spelt = refl };
      hour_is = record { below = (let a = is.time.0 in omega arith); spelt = refl };
      minute_is = record { below = (let a = is.time.1 in omega arith); spelt = refl };
      second_is = record { below = (let a = is.time.2 in omega arith); spelt = refl };
    }

-- what is read so is a moment at the front
pub from_reading : (kind : TimeKind) (octets rest : List ℕ) → Reading kind octets rest → (moment : List ℕ) × IsMoment kind moment × (octets ≡ moment ++ rest)
from_reading kind octets rest r =
    let tail : r.after_year ≡ digits_of 2 r.month ++ (digits_of 2 r.day ++ (digits_of 2 r.hour ++ (digits_of 2 r.minute ++ (digits_of 2 r.second ++ rest)))) =
    cc (r.month_is.spelt, r.day_is.spelt, r.hour_is.spelt, r.minute_is.spelt, r.second_is.spelt) in (
      digits_of (year_digits kind) r.year ++ digits_of 2 r.month ++ digits_of 2 r.day ++ digits_of 2 r.hour ++ digits_of 2 r.minute ++ digits_of 2 r.second,
      record {
        year = r.year;
        month = r.month;
        day = r.day;
        hour = r.hour;
        minute = r.minute;
        second = r.second;
        year_to = r.year_is.below;
        date = r.date;
        time = r.time;
        spelt = refl;
      },
      r.year_is.spelt ∙ ap (λ xs. digits_of (year_digits kind) r.year ++ xs) tail ∙ sym (simp append_assoc),
    )

-- what holds anyway holds where there is no value
pub if_none : {A : Type 0} {P : Type 0} → (o : Option A) → P → IfNone o P
if_none None p = p
if_none (Some x) p = tt

-- a test that failed did not hold
pub not_true : (b : Bool) → b ≡ false → IsTrue b → ⊥
not_true b e is = cc

-- the date in other letters
pub same_date : {kind : TimeKind} {y m d year month day : ℕ} → y ≡ year → m ≡ month → d ≡ day → IsDate kind year month day → IsDate kind y m d
same_date {kind = kind} {y = y} {m = m} {year = year} {month = month} {day = day} e f g date =
    subst (λ (d : ℕ). IsDate kind y m d) (sym g)
    (subst (λ (m : ℕ). IsDate kind y m day) (sym f) (subst (λ (y : ℕ). IsDate kind y month day) (sym e) date))
