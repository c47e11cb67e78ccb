use Rattle.g4exact.proofs.Samples.{second_sample_is_counted}
use Rattle.g4exact.proofs.laws.second_sample_is_counted.Goals as goal

pub returns : goal.returns
returns c = second_sample_is_counted c.clean_sample.ensures c.second_sample_costs.ensures
