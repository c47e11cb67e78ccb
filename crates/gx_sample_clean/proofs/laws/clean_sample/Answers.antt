use Rattle.gx_sample_clean.proofs.laws.clean_sample.Goals as goal
use Rattle.gx_sample_clean.proofs.Sample.{clean_sample}

pub returns : goal.returns
returns c = clean_sample c.clean_where_unrefuted.ensures
