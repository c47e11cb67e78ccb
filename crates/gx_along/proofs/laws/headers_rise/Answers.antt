use Rattle.gx_along.proofs.Rising.{headers-rise}
use Rattle.gx_along.proofs.laws.headers_rise.Goals as goal

pub returns : goal.returns
returns c = headers-rise
