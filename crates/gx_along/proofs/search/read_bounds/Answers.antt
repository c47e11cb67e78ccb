use Rattle.std.proofs.Common.{◌≤◌, ◌^◌, sym, ◌∙◌, subst, unsigned_abs}
use Rattle.gx_voxel.specs.Proxy.{list_of, low_of, high_of}
use Rattle.gx_along.proofs.Before.{read}
use Rattle.gx_along.proofs.search.read_bounds.Goals as goal

pub returns-clause-low : goal.returns-clause-low
returns-clause-low g c = c.bounds.ensures.low ∙ read low_of (list_of c.args.header.now) c.args.i c.run_at.result.now c.requires.i c.run_at.ensures.run

pub returns-clause-high : goal.returns-clause-high
returns-clause-high g c = c.bounds.ensures.high ∙ read high_of (list_of c.args.header.now) c.args.i c.run_at.result.now c.requires.i c.run_at.ensures.run

pub returns-clause-few : goal.returns-clause-few
returns-clause-few g c = subst (λ z. unsigned_abs z ≤ 2 ^ 31) (sym (c.bounds.ensures.low ∙ read low_of (list_of c.args.header.now) c.args.i c.run_at.result.now c.requires.i c.run_at.ensures.run)) (c.requires.rising.low c.args.i)

pub returns-clause-small : goal.returns-clause-small
returns-clause-small g c = subst (λ z. unsigned_abs z ≤ 2 ^ 31) (sym (c.bounds.ensures.high ∙ read high_of (list_of c.args.header.now) c.args.i c.run_at.result.now c.requires.i c.run_at.ensures.run)) (c.requires.rising.high c.args.i)
