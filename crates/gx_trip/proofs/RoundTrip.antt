-- The law: what a text declares is known, and what is known of it makes its canonical text read back.
use Rattle.gx_canon.proofs.Declarations.{declarations_back, text_back}
use Rattle.gx_canon.proofs.KeptLines.{kept}
use Rattle.gx_canon.proofs.LineWords.{words_are_words}
use Rattle.gx_canon.proofs.Rotations.{rotations_back}
use Rattle.gx_trip.specs.Laws.{RoundTrip}
use Rattle.gx_trip.proofs.ReadInput.{read_input}
use Rattle.gx_trip.proofs.Again.{read_again}

pub round_trip : RoundTrip
round_trip grid text input read short = read_again declarations_back text_back rotations_back input (read_input kept words_are_words grid text input read) short
