use Rattle.gx_trip.proofs.RoundTrip.{round_trip}
use Rattle.gx_trip.proofs.laws.round_trip.Goals as goal

pub returns : goal.returns
returns c = round_trip
