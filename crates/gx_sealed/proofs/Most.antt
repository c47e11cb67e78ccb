-- The greatest number of daughters, volume by volume.
use Rattle.std.proofs.Common.{◌≡◌, ℕ, ◌+◌, ◌<◌, ◌≤◌, max, inl, inr, length, below_more, arith}
use Rattle.std.specs.Prelude.{SomeIndex}
use Rattle.std.proofs.lemmas.Bool.{cases_lt}
use Rattle.gx_tree.specs.Hierarchy.{Hierarchy, instances}

-- none of the first so many volumes has more, and some volume has as many
pub record IsMostUpTo (h : Hierarchy) (n most : ℕ) : Type 0 where
  pub at_most : (v : ℕ) → v < n → length (instances h v) ≤ most
  pub reached : SomeIndex h.volumes (λ v. length (instances h v) ≡ most)
  pub few : most ≤ 4096

pub one_more : (h : Hierarchy) (n most count : ℕ) → IsMostUpTo h n most → n < length h.volumes → count ≡ length (instances h n) → count ≤ 4096 → IsMostUpTo h (n + 1) (max most count)
one_more h n most count is below same few = record {
  at_most = below_more _ _ (λ v less. omega (arith, is.at_most v less)) (omega arith);
  reached = elim (cases_lt most count) [
    | inl less ↦ (n, below, omega arith)
    | inr not ↦ (is.reached.0, is.reached.1, omega (arith, is.reached.2))
  ];
  few = omega (arith, is.few);
}
