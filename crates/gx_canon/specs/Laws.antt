-- What a canonical text promises.
use Rattle.std.specs.Prelude.{◌≡◌, ℕ, ◌<◌, IfSome, Contains, List, map, All, Some, Ok}
use Rattle.gx_num.specs.declared.ray.Ray.{Ray}
use Rattle.gx_fraction.specs.Fraction.{Fraction}
use Rattle.gx_text.specs.TextLine.{TextLine}
use Rattle.gx_text.specs.Lines.{cut, ended}
use Rattle.gx_expr.specs.Param.{Param}
use Rattle.gx_tree.specs.declared.placement.Placement.{Placement}
use Rattle.gx_tree.specs.Volume.{Volume, rotation_of}
use Rattle.gx_tree.specs.Hierarchy.{Hierarchy}
use Rattle.gx_tree.specs.Fault.{IsTree}
use Rattle.gx_decl.specs.declared.declaration.Declaration.{Declaration}
use Rattle.gx_decl.specs.declared.declaration.Declaration.TheVariants.{Turn}
use Rattle.gx_decl.specs.Decl.{declared_of}
use Rattle.gx_decl.specs.Range.{IsTraceable}
use Rattle.gx_canon.specs.Text.{text_of, IsWord, IsLine, read_from, lines_from}
use Rattle.gx_canon.specs.Words.{words_of}
use Rattle.gx_canon.specs.Canonical.{rotation_name, rotation_number, turns, declarations_of, canonical, millimetre}
use Rattle.gx_canon.specs.Printable.{AreLowest, IsKept, IsPrintableVolume}

-- the lines of a printed text, read, are those that were printed
abbrev pub LinesBack : Type 0
LinesBack = (number : ℕ) (lines : List (List (List ℕ))) → All IsLine lines → read_from number (cut (text_of lines)) ≡ lines_from number lines

-- a declaration is printed as a line without a fault that declares it, whatever the parameters
pub record IsReadBack (d : Declaration) : Type 0 where
  pub line : IsLine (words_of d)
  pub declared : (params : List Param) → declared_of params millimetre (words_of d) ≡ Ok d

-- so is each declaration of a canonical text
abbrev pub DeclarationsBack : Type 0
DeclarationsBack =
    (h : Hierarchy) (rays : List Ray) → IsTree h → All IsPrintableVolume h.volumes → All IsTraceable rays → All IsReadBack (declarations_of h rays)

-- so the lines of a canonical text, read, are those of its declarations
abbrev pub TextBack : Type 0
TextBack =
    (number : ℕ) (h : Hierarchy) (rays : List Ray) → IsTree h → All IsPrintableVolume h.volumes → All IsTraceable rays →
    read_from number (cut (canonical h rays)) ≡ lines_from number (map words_of (declarations_of h rays))

-- a placement's rotation is declared by its name
abbrev pub IsNamed : List Volume → Placement → Type 0
IsNamed volumes p = IfSome (rotation_number p) (λ k. Contains (turns volumes) (Turn (rotation_name k) (rotation_of p)))

-- so is each, and the names of rotations differ
pub record RotationsBack : Type 0 where
  pub named : (h : Hierarchy) → IsTree h → All (λ v. All (IsNamed h.volumes) v.placements) h.volumes
  pub apart : (j k : ℕ) → j < 24 → k < 24 → rotation_name j ≡ rotation_name k → j ≡ k

-- a line without a fault has words
abbrev pub WordsAreWords : Type 0
WordsAreWords = (number : ℕ) (line : List ℕ) (read : TextLine) → ended number line ≡ Ok (Some read) → All IsWord read.words

-- what is read of words, with parameters in lowest terms, is in its range and printable
abbrev pub Kept : Type 0
Kept = (params : List Param) (grid : Fraction) (words : List (List ℕ)) (d : Declaration) → AreLowest params → All IsWord words → declared_of params grid words ≡ Ok d → IsKept d
