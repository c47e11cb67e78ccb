use Rattle.gx_text.proofs.FaultLemmas.{fault_stays}
use Rattle.gx_text.proofs.laws.fault_stays.Goals as goal

pub returns : goal.returns
returns c = fault_stays
