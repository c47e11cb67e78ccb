-- Edges by the numbers of their ends among at most 32 points, and how often each stands.
use Rattle.std.specs.Prelude.{◌≡◌, ◌<◌, ℕ, ◌+◌, ◌*◌, min, nat_lt, ◌==◌, Bool, not, ◌&&◌, List, map, filter, length, slice_index}
use Rattle.std.specs.List.{position_or_len}
use Rattle.gx_num.specs.declared.vector.V3.{V3}
use Rattle.gx_num.specs.Vector.{is_same}
use Rattle.gx_polygon.specs.Around.{around}
use Rattle.gx_shapes.specs.declared.facet.Facet.{Facet}
use Rattle.gx_shapes.specs.Tessellation.{corners_of}

-- the place of a point among others
abbrev pub number_of : List V3 → V3 → ℕ
number_of points p = position_or_len (is_same p) points

-- a facet's edges
abbrev pub numbered_edges : List V3 → Facet → List (ℕ × ℕ)
numbered_edges points f = around (map (number_of points) (corners_of f))

-- where the count of an edge is
abbrev pub place_of : ℕ × ℕ → ℕ
place_of e = 32 * e.0 + e.1

-- how often each edge stands, counted up to 255
abbrev pub AreCounts : List (ℕ × ℕ) → List ℕ → Type 0
AreCounts edges counts = (i j : ℕ) → i < 32 → j < 32 → slice_index counts (place_of (i, j)) ≡ min (length (filter (λ e. i == e.0 && j == e.1) edges)) 255

-- the edge joins two points, stands once, and its reverse stands
abbrev pub is_joined_by : List ℕ → ℕ × ℕ → Bool
is_joined_by counts e = not (e.0 == e.1) && slice_index counts (place_of e) == 1 && nat_lt 0 (slice_index counts (place_of (e.1, e.0)))
