-- What a tag does, and the numbers of automatic tags (X.680 31.2.7, and "automatic tagging").
use Rattle.std.specs.Prelude.{ℕ, ◌+◌, Bool, true, false, Option, Some, None}
use Rattle.syntax.specs.declared.tree.TagMode.{TagMode}
use Rattle.syntax.specs.declared.tree.TagMode.TheVariants.{Unmarked, Implicit as WrittenImplicit, Explicit as WrittenExplicit}
use Rattle.syntax.specs.declared.tree.Tagging.{Tagging}
use Rattle.syntax.specs.declared.tree.Tagging.TheVariants.{Explicit as ExplicitTags, Implicit as ImplicitTags, Automatic as AutomaticTags}
use Rattle.trim_rules.specs.declared.keyword.Keyword.{Keyword}
use Rattle.trim_rules.specs.declared.keyword.Keyword.TheVariants.{Implicit, Explicit}
use Rattle.trim_rules.specs.declared.keyword.Section.{Section}
use Rattle.trim_rules.specs.declared.keyword.Section.TheVariants.{Root, Additions, Tail}

-- what a tag without a keyword does in front of a type that is neither an untagged CHOICE nor an untagged open type
abbrev pub by_default : Tagging → Keyword
by_default ExplicitTags = Explicit
by_default ImplicitTags = Implicit
by_default AutomaticTags = Implicit

-- what a tag does; true: in front of an untagged CHOICE or an untagged open type
abbrev pub keyword_of : Tagging → TagMode → Bool → Option Keyword
keyword_of environment WrittenExplicit is_open = Some Explicit
keyword_of environment WrittenImplicit true = None
keyword_of environment WrittenImplicit false = Some Implicit
keyword_of environment Unmarked true = Some Explicit
keyword_of environment Unmarked false = Some (by_default environment)

-- the automatic tag of the first part of a section: the whole root is numbered before the additions
abbrev pub first_number : Section → ℕ → ℕ → ℕ
first_number Root root tail = 0
first_number Tail root tail = root
first_number Additions root tail = root + tail
