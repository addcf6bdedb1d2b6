-- The one module that a file spells, and the octets of files.
use Rattle.std.proofs.Common.{◌≡◌, ◌∙◌, ℕ, List, [], ◌++◌, Option, Some, None, ap, refl, subst, sym, take}
use Rattle.std.specs.Prelude.{IfSome, option_map}
use Rattle.types.specs.Shape.{Shape}
use Rattle.syntax.specs.Tree.{Tree}
use Rattle.syntax.specs.ModuleText.{IsModuleText}
use Rattle.notation.specs.Meaning.{NameMeans}
use Rattle.convert.specs.ModuleFile.{FileMeans, IsModuleFile}

-- no type is meant where no module is spelt
pub none_meant : (octets text name : List ℕ) → text ≡ octets → ((m : Tree) → IsModuleText text m → ⊥) → (type : Shape) → FileMeans octets name type → ⊥
none_meant octets text name is none type means = none means.tree (subst (λ o. IsModuleText o means.tree) (sym is) means.file.text)

-- what the name means in the file it means in the one module that this spells
pub meant : (octets text name : List ℕ) (m : Tree) → text ≡ octets → ((other : Tree) → IsModuleText text other → other ≡ m) → (type : Shape) → FileMeans octets name type → NameMeans m name type
meant octets text name m is only type means =
    subst (λ t. NameMeans t name type) (only means.tree (subst (λ o. IsModuleText o means.tree) (sym is) means.file.text)) means.means

-- what a reader gives up to a limit, read into an empty vector
pub read_up_to : (left : Option (List ℕ)) (limit most : ℕ) (old new : List ℕ) → limit ≡ most → old ≡ [] → IfSome (option_map (take limit) left) (λ xs. new ≡ old ++ xs)
    → IfSome left (λ octets. new ≡ take most octets)
read_up_to None limit most old new is empty h = tt
read_up_to (Some octets) limit most old new is empty h = h ∙ ap (λ o. o ++ take limit octets) empty ∙ ap (λ n. take n octets) is
