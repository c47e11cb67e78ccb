use Rattle.std.proofs.Common.{◌≤◌, ◌*◌, ◌*ℤ◌, unsigned_abs, arith}
use Rattle.std.specs.Prelude.{FitsSigned, ◌^◌}
use Rattle.std.specs.Int.{w64}
use Rattle.std.proofs.lemmas.Int.{fits_signed_mul, unsigned_abs-mul, to_z-of_z}
use Rattle.std.proofs.lemmas.Nat.{mul-le}
use Rattle.gx_num.proofs.vector.short_times.Goals as goal

pub returns-clause-value : goal.returns-clause-value
returns-clause-value c =
    let fits : FitsSigned w64 (c.args.a *ℤ c.args.b) =
    fits_signed_mul w64 c.args.a c.args.b _ _ c.requires.first c.requires.second (omega arith) in
    grind (arith, to_z-of_z)

pub returns-clause-bound : goal.returns-clause-bound
returns-clause-bound c =
    let fits : FitsSigned w64 (c.args.a *ℤ c.args.b) =
    fits_signed_mul w64 c.args.a c.args.b _ _ c.requires.first c.requires.second (omega arith) in
    let bound : unsigned_abs (c.args.a *ℤ c.args.b) ≤ 2 ^ 30 * 2 ^ 30 =
    rw unsigned_abs-mul (mul-le _ _ _ _ c.requires.first c.requires.second) in
    grind (arith, to_z-of_z)
