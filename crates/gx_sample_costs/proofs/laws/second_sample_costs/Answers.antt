use Rattle.std.proofs.Common.{arith}
use Rattle.gx_sample_costs.proofs.Costs.{second_costs}
use Rattle.gx_sample_costs.proofs.laws.second_sample_costs.Goals as goal

pub returns : goal.returns
returns c = let sample = c.clean_sample.ensures 2 (omega arith) (omega arith) in second_costs sample.tree sample.clean
