-- The extent of points: their least and greatest coordinates.
use Rattle.std.specs.Prelude.{pos, List, [], ◌∷◌, fold}
use Rattle.std.specs.Int.{int_min, int_max}
use Rattle.gx_num.specs.declared.vector.V3.{V3}
use Rattle.gx_num.specs.declared.extent.Extent.{Extent}

abbrev pub lower : V3 → V3 → V3
lower a b = record { x = int_min a.x b.x; y = int_min a.y b.y; z = int_min a.z b.z }

abbrev pub upper : V3 → V3 → V3
upper a b = record { x = int_max a.x b.x; y = int_max a.y b.y; z = int_max a.z b.z }

-- the least and the greatest coordinates; of no points it is the origin
abbrev pub extent_of : List V3 → Extent
extent_of [] = record { low = record { x = pos 0; y = pos 0; z = pos 0 }; high = record { x = pos 0; y = pos 0; z = pos 0 } }
extent_of (p ∷ ps) = record { low = fold lower p ps; high = fold upper p ps }
