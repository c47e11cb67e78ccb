-- The law of headers.
use Rattle.std.specs.Prelude.{◌≡◌, ℕ, List}
use Rattle.std.specs.List.{All}
use Rattle.std.proofs.Common.{inr}
use Rattle.gx_num.specs.declared.extent.Extent.{Extent}
use Rattle.gx_boxes.specs.Boxes.{IsProper}
use Rattle.gx_voxel.specs.Proxy.{content_of, StandsWithin}
use Rattle.gx_voxel.specs.declared.proxy.Proxy.{Proxy}
use Rattle.gx_voxel.specs.declared.proxy.Header.{Header}
use Rattle.gx_along.specs.Runs.{IsRising, HasRuns}

-- the bounds of a header that stands for members with proper extents rise, and each run has coordinates
abbrev pub HeadersRise : Type 0
HeadersRise = (at : ℕ → Extent) (n : ℕ) (p : Proxy) (ks axes : List ℕ) (h : Header) → All (λ k. IsProper (at k)) ks → StandsWithin at n p ks axes → content_of p ≡ inr h → IsRising h × HasRuns h
