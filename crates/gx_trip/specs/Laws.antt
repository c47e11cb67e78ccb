-- The round trip of a canonical text. The form of the text is this project's own.
use Rattle.std.specs.Prelude.{◌≡◌, ℕ, ◌≤◌, List, length, Ok}
use Rattle.gx_fraction.specs.Fraction.{Fraction}
use Rattle.gx_link.specs.declared.input.Input.{Input}
use Rattle.gx_canon.specs.Canonical.{canonical, millimetre}
use Rattle.gx_reader.specs.declared.reader.TheConstants.{MAX_TEXT}
use Rattle.gx_reader.specs.Reading.{reading}

-- What a text without a fault declares, printed as a canonical text of no more than the most bytes, is read back the same, with
-- lengths in steps.
abbrev pub RoundTrip : Type 0
RoundTrip =
    (grid : Fraction) (text : List ℕ) (input : Input) → reading grid text ≡ Ok input → length (canonical input.tree input.rays) ≤ MAX_TEXT →
    reading millimetre (canonical input.tree input.rays) ≡ Ok input
