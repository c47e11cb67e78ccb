use Rattle.gx_canon.proofs.LineWords.{words_are_words}
use Rattle.gx_canon.proofs.laws.words_are_words.Goals as goal

pub returns : goal.returns
returns c = words_are_words
