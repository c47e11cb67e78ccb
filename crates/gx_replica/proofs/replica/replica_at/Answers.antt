use Rattle.std.proofs.Common.{◌≡◌, ◌-◌, ◌*ℤ◌, pos, ap, arith}
use Rattle.std.specs.Prelude.{FitsSigned}
use Rattle.std.specs.Int.{w64}
use Rattle.std.proofs.lemmas.Int.{ints, to_z-of_z}
use Rattle.gx_replica.specs.Replica.{along}
use Rattle.gx_replica.proofs.replica.replica_at.Goals as goal

pub returns : goal.returns
returns c =
    let width : FitsSigned w64 c.args.width = omega (arith, ints) in
    let first : c.times.result ≡ pos (c.args.count - 1) *ℤ c.args.width = grind (arith, to_z-of_z) in
    let step : c.times-2.result ≡ pos c.args.i *ℤ c.args.width = grind (arith, to_z-of_z) in
    rw (c.on_axis_at.ensures, ← first, ← step) (ap (λ t. along c.args.axis t) (omega (arith, ints)))
