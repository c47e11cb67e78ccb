use Rattle.gx_check.proofs.Clean.{clean_where_unrefuted}
use Rattle.gx_check.proofs.laws.clean_where_unrefuted.Goals as goal

pub returns : goal.returns
returns c = clean_where_unrefuted
