-- Contents octets of UTCTime and GeneralizedTime: YYMMDDhhmmssZ (X.690 11.8), and YYYYMMDDhhmmssZ with
-- perhaps a fraction of a second before the Z (X.690 11.7).
use Rattle.std.specs.Prelude.{◌≡◌, ◌≢◌, ℕ, zero, suc, ◌+◌, ◌-◌, ◌/◌, ◌%◌, ◌^◌, ◌<◌, ◌≤◌, ◌⊎◌, List, [], ◌∷◌, ◌++◌, length, All, codes, slice_index}
use Rattle.std.specs.Char.{IsAsciiDigit}
use Rattle.strings.specs.declared.time.TimeKind.{TimeKind}
use Rattle.strings.specs.declared.time.TimeKind.TheVariants.{Utc, Generalized}

-- the last decimal digits of the number, as many as `count`, the most significant first
abbrev pub digits_of : ℕ → ℕ → List ℕ
digits_of zero number = []
digits_of (suc count) number = digits_of count (number / 10) ++ (48 + number % 10) ∷ []

-- the octets begin with a number in `count` digits, and the rest follows
pub record Spells (count number : ℕ) (octets rest : List ℕ) : Type 0 where
  pub below : number < 10 ^ count
  pub spelt : octets ≡ digits_of count number ++ rest

-- how many digits of the year are written
abbrev pub year_digits : TimeKind → ℕ
year_digits Utc = 2
year_digits Generalized = 4

-- the year has a 29 February; UTCTime leaves the century open, and goes by the two digits alone
abbrev pub IsLeapYear : TimeKind → ℕ → Type 0
IsLeapYear Utc year = year % 4 ≡ 0
IsLeapYear Generalized year = ((year % 4 ≡ 0) × (year % 100 ≢ 0)) ⊎ (year % 400 ≡ 0)

-- the last day of the month, 1 to 12, in a year that is no leap year
abbrev pub last_day_of : ℕ → ℕ
last_day_of month =
    slice_index (31 ∷ 28 ∷ 31 ∷ 30 ∷ 31 ∷ 30 ∷ 31 ∷ 31 ∷ 30 ∷ 31 ∷ 30 ∷ 31 ∷ []) (month - 1)

-- the year has the day
pub record IsDate (kind : TimeKind) (year month day : ℕ) : Type 0 where
  pub month_from : 1 ≤ month
  pub month_to : month ≤ 12
  pub day_from : 1 ≤ day
  pub day_to : (day ≤ last_day_of month) ⊎ ((month ≡ 2) × (day ≡ 29) × IsLeapYear kind year)

-- the day has the time; no second is inserted
abbrev pub IsTimeOfDay : ℕ → ℕ → ℕ → Type 0
IsTimeOfDay hour minute second = (hour ≤ 23) × (minute ≤ 59) × (second ≤ 59)

-- a date and a time of day in digits
pub record IsMoment (kind : TimeKind) (octets : List ℕ) : Type 0 where
  pub year : ℕ
  pub month : ℕ
  pub day : ℕ
  pub hour : ℕ
  pub minute : ℕ
  pub second : ℕ
  pub year_to : year < 10 ^ year_digits kind
  pub date : IsDate kind year month day
  pub time : IsTimeOfDay hour minute second
  pub spelt : octets ≡ digits_of (year_digits kind) year ++ digits_of 2 month ++ digits_of 2 day
      ++ digits_of 2 hour ++ digits_of 2 minute ++ digits_of 2 second

-- 1 to 12 digits, of which the last is not 0
pub record AreFractionDigits (digits : List ℕ) : Type 0 where
  pub each : All IsAsciiDigit digits
  pub at_least_one : 1 ≤ length digits
  pub at_most_12 : length digits ≤ 12
  pub last : slice_index digits (length digits - 1) ≢ 48

-- a point and such digits
abbrev pub IsPointAndDigits : List ℕ → Type 0
IsPointAndDigits octets = (digits : List ℕ) × AreFractionDigits digits × (octets ≡ codes "." ++ digits)

-- what may stand between the seconds and the Z
abbrev pub IsFraction : TimeKind → List ℕ → Type 0
IsFraction Utc octets = octets ≡ []
IsFraction Generalized octets = (octets ≡ []) ⊎ IsPointAndDigits octets

-- what follows the seconds
pub record IsEnd (kind : TimeKind) (octets : List ℕ) : Type 0 where
  pub fraction : List ℕ
  pub is_fraction : IsFraction kind fraction
  pub spelt : octets ≡ fraction ++ codes "Z"

-- these are the contents octets of some time of the type
pub record IsTime (kind : TimeKind) (contents : List ℕ) : Type 0 where
  pub moment : List ℕ
  pub rest : List ℕ
  pub is_moment : IsMoment kind moment
  pub is_end : IsEnd kind rest
  pub spelt : contents ≡ moment ++ rest
