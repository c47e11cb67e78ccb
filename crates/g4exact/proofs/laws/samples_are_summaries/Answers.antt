use Rattle.g4exact.proofs.Samples.{samples_are_summaries}
use Rattle.g4exact.proofs.laws.samples_are_summaries.Goals as goal

pub returns : goal.returns
returns c = samples_are_summaries c.clean_sample.ensures
