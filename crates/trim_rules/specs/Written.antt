-- How a tag is written.
use Rattle.syntax.specs.declared.tree.TagMode.{TagMode}
use Rattle.syntax.specs.declared.tree.TagMode.TheVariants as written
use Rattle.trim_rules.specs.declared.keyword.Keyword.{Keyword}
use Rattle.trim_rules.specs.declared.keyword.Keyword.TheVariants.{Implicit, Explicit}

-- the keyword, which is never left out
abbrev pub mode_of : Keyword → TagMode
mode_of Implicit = written.Implicit
mode_of Explicit = written.Explicit
