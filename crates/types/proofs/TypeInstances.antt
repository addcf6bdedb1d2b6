-- The types of the worked examples, which are well formed, and lists of tags that differ.
use Rattle.std.proofs.Common.{◌≡◌, ◌≢◌, ◌⊎◌, ◌<◌, ◌≤◌, ℕ, List, [], ◌∷◌, inl, inr, sym, ap, arith, pos, Contains}
use Rattle.std.proofs.lemmas.Int.{ints}
use Rattle.octets.specs.declared.tag.Tag.{Tag}
use Rattle.types.specs.Shape.{Shape, no_component, component, no_alternative, alternative, required, optional, default}
use Rattle.types.specs.FirstTags.{AreDistinct, IsUsable}
use Rattle.types.specs.WellFormed.{IsWellFormed}
use Rattle.types.proofs.ListLemmas.{AllPairs-nil, all_differ-cons, contains_cases, not_in_nil}
use Rattle.types.proofs.FormInstances.{universal, context, usable_universal, usable_context}
use Rattle.types.proofs.LeafInstances.{boolean, integer, null, number}

-- names of components and alternatives
abbrev pub a : List ℕ
a = 0x61 ∷ []

abbrev pub b : List ℕ
b = 0x62 ∷ []

-- lists of tags that differ
pub lower : (t u : Tag) → t.number < u.number → t ≢ u
lower t u less same = omega (arith, less, ap (λ (s : Tag). s.number) same)

pub higher : (t u : Tag) → u.number < t.number → t ≢ u
higher t u less same = omega (arith, less, ap (λ (s : Tag). s.number) same)

pub not_alone : (t u : Tag) → t ≢ u → Contains (u ∷ []) t → ⊥
not_alone t u apart c = of_cases (contains_cases u t [] c)
  where
    of_cases : (u ≡ t) ⊎ Contains {X = Tag} [] t → ⊥
    of_cases (inl same) = apart (sym same)
    of_cases (inr none) = not_in_nil t none

pub not_of_two : (t u w : Tag) → t ≢ u → t ≢ w → Contains (u ∷ w ∷ []) t → ⊥
not_of_two t u w apart other c = of_cases (contains_cases u t (w ∷ []) c)
  where
    of_cases : (u ≡ t) ⊎ Contains (w ∷ []) t → ⊥
    of_cases (inl same) = apart (sym same)
    of_cases (inr later) = not_alone t w other later

pub one_differs : (t : Tag) → AreDistinct (t ∷ [])
one_differs t = all_differ-cons t [] (λ c. not_in_nil t c) (AllPairs-nil (λ x y. x ≢ y))

pub two_differ : (t u : Tag) → t ≢ u → AreDistinct (t ∷ u ∷ [])
two_differ t u apart = all_differ-cons t (u ∷ []) (λ c. not_alone t u apart c) (one_differs u)

pub three_differ : (t u w : Tag) → t ≢ u → t ≢ w → u ≢ w → AreDistinct (t ∷ u ∷ w ∷ [])
three_differ t u w apart other third = all_differ-cons t (u ∷ w ∷ []) (λ c. not_of_two t u w apart other c) (two_differ u w third)

-- the nodes of types without parts
pub well_formed_null : (tag : Tag) → IsUsable tag → tag.number ≤ 30 → IsWellFormed (null tag)
well_formed_null tag usable low = record {
  limits = record { nodes = omega arith; levels = omega arith; each = ((omega (arith, low), tt), tt) };
  tags = (usable, tt);
  numbers = (tt, tt);
  defaults = (tt, tt);
}

pub well_formed_integer : IsWellFormed integer
well_formed_integer = record {
  limits = record { nodes = omega arith; levels = omega arith; each = ((omega arith, tt), tt) };
  tags = (usable_universal 2 (omega arith), tt);
  numbers = (tt, tt);
  defaults = (tt, tt);
}

pub well_formed_boolean : IsWellFormed boolean
well_formed_boolean = record {
  limits = record { nodes = omega arith; levels = omega arith; each = ((omega arith, tt), tt) };
  tags = (usable_universal 1 (omega arith), tt);
  numbers = (tt, tt);
  defaults = (tt, tt);
}

-- [1] EXPLICIT INTEGER
abbrev pub explicit_integer : Shape
explicit_integer = Shape.explicit (context 1) integer

pub well_formed_explicit : IsWellFormed explicit_integer
well_formed_explicit = record {
  limits = record { nodes = omega arith; levels = omega arith; each = (omega arith, ((omega arith, tt), tt)) };
  tags = (usable_context 1, (usable_universal 2 (omega arith), tt));
  numbers = (tt, (tt, tt));
  defaults = (tt, (tt, tt));
}

-- CHOICE { a NULL, b BOOLEAN }
abbrev pub null_or_boolean : Shape
null_or_boolean = Shape.choice (alternative a (null (universal 5)) (alternative b boolean no_alternative))

pub well_formed_choice : IsWellFormed null_or_boolean
well_formed_choice = record {
  limits = record { nodes = omega arith; levels = omega arith; each = ((omega arith, omega arith), ((omega arith, tt), ((omega arith, tt), tt))) };
  tags = (two_differ (universal 5) (universal 1) (higher (universal 5) (universal 1) (omega arith)), (usable_universal 5 (omega arith), (usable_universal 1 (omega arith), tt)));
  numbers = (tt, (tt, (tt, tt)));
  defaults = (tt, (tt, (tt, tt)));
}

-- SEQUENCE { }
abbrev pub empty_sequence : Shape
empty_sequence = Shape.sequence (universal 16) no_component

pub well_formed_empty : IsWellFormed empty_sequence
well_formed_empty = record {
  limits = record { nodes = omega arith; levels = omega arith; each = ((omega arith, omega arith), tt) };
  tags = ((usable_universal 16 (omega arith), tt), tt);
  numbers = (tt, tt);
  defaults = (tt, tt);
}

-- SEQUENCE { a INTEGER OPTIONAL, b BOOLEAN }
abbrev pub optional_first : Shape
optional_first = Shape.sequence (universal 16) (component a integer optional (component b boolean required no_component))

integer_and_boolean : AreDistinct (universal 2 ∷ universal 1 ∷ [])
integer_and_boolean = two_differ (universal 2) (universal 1) (higher (universal 2) (universal 1) (omega arith))

pub well_formed_optional : IsWellFormed optional_first
well_formed_optional = record {
  limits = record { nodes = omega arith; levels = omega arith; each = ((omega arith, omega arith), ((omega arith, tt), ((omega arith, tt), tt))) };
  tags = ((usable_universal 16 (omega arith), (integer_and_boolean, (one_differs (universal 1), tt))), (usable_universal 2 (omega arith), (usable_universal 1 (omega arith), tt)));
  numbers = (tt, (tt, (tt, tt)));
  defaults = ((tt, (tt, tt)), (tt, (tt, tt)));
}

-- SEQUENCE { a INTEGER DEFAULT 1, b BOOLEAN }
abbrev pub default_first : Shape
default_first = Shape.sequence (universal 16) (component a integer (default (number (pos 1))) (component b boolean required no_component))

pub well_formed_default : IsWellFormed default_first
well_formed_default = record {
  limits = record { nodes = omega arith; levels = omega arith; each = ((omega arith, omega arith), ((omega arith, tt), ((omega arith, tt), tt))) };
  tags = ((usable_universal 16 (omega arith), (integer_and_boolean, (one_differs (universal 1), tt))), (usable_universal 2 (omega arith), (usable_universal 1 (omega arith), tt)));
  numbers = (tt, (tt, (tt, tt)));
  defaults = (((tt, omega (arith, ints), tt), (tt, tt)), (tt, (tt, tt)));
}

-- SEQUENCE OF INTEGER, SET OF INTEGER and SET OF BOOLEAN
abbrev pub sequence_of_integer : Shape
sequence_of_integer = Shape.sequence_of (universal 16) integer

abbrev pub set_of_integer : Shape
set_of_integer = Shape.set_of (universal 17) integer

abbrev pub set_of_boolean : Shape
set_of_boolean = Shape.set_of (universal 17) boolean

pub well_formed_sequence_of : IsWellFormed sequence_of_integer
well_formed_sequence_of = record {
  limits = record { nodes = omega arith; levels = omega arith; each = (omega arith, ((omega arith, tt), tt)) };
  tags = (usable_universal 16 (omega arith), (usable_universal 2 (omega arith), tt));
  numbers = (tt, (tt, tt));
  defaults = (tt, (tt, tt));
}

pub well_formed_set_of : IsWellFormed set_of_integer
well_formed_set_of = record {
  limits = record { nodes = omega arith; levels = omega arith; each = (omega arith, ((omega arith, tt), tt)) };
  tags = (usable_universal 17 (omega arith), (usable_universal 2 (omega arith), tt));
  numbers = (tt, (tt, tt));
  defaults = (tt, (tt, tt));
}

pub well_formed_set_of-boolean : IsWellFormed set_of_boolean
well_formed_set_of-boolean = record {
  limits = record { nodes = omega arith; levels = omega arith; each = (omega arith, ((omega arith, tt), tt)) };
  tags = (usable_universal 17 (omega arith), (usable_universal 1 (omega arith), tt));
  numbers = (tt, (tt, tt));
  defaults = (tt, (tt, tt));
}

-- SET { a INTEGER, b BOOLEAN }, and SET { a INTEGER, b CHOICE { a [5] IMPLICIT NULL, b BOOLEAN } }
abbrev pub plain_set : Shape
plain_set = Shape.set (universal 17) (component a integer required (component b boolean required no_component))

abbrev pub null_5_or_boolean : Shape
null_5_or_boolean = Shape.choice (alternative a (null (context 5)) (alternative b boolean no_alternative))

abbrev pub set_with_choice : Shape
set_with_choice = Shape.set (universal 17) (component a integer required (component b null_5_or_boolean required no_component))

pub well_formed_set : IsWellFormed plain_set
well_formed_set = record {
  limits = record { nodes = omega arith; levels = omega arith; each = ((omega arith, omega arith), ((omega arith, tt), ((omega arith, tt), tt))) };
  tags = ((usable_universal 17 (omega arith), integer_and_boolean), (usable_universal 2 (omega arith), (usable_universal 1 (omega arith), tt)));
  numbers = (tt, (tt, (tt, tt)));
  defaults = ((tt, (tt, tt)), (tt, (tt, tt)));
}

pub well_formed_set-choice : IsWellFormed set_with_choice
well_formed_set-choice = record {
  limits = record { nodes = omega arith; levels = omega arith; each = ((omega arith, omega arith), ((omega arith, tt), ((omega arith, omega arith), ((omega arith, tt), ((omega arith, tt), tt))))) };
  tags = (
    (usable_universal 17 (omega arith), three_differ (universal 2) (context 5) (universal 1) (lower (universal 2) (context 5) (omega arith)) (higher (universal 2) (universal 1) (omega arith)) (higher (context 5) (universal 1) (omega arith))),
    (usable_universal 2 (omega arith), (two_differ (context 5) (universal 1) (higher (context 5) (universal 1) (omega arith)), (usable_context 5, (usable_universal 1 (omega arith), tt)))),
  );
  numbers = (tt, (tt, (tt, (tt, (tt, tt)))));
  defaults = ((tt, (tt, tt)), (tt, (tt, (tt, (tt, tt)))));
}
