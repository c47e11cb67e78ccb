use Rattle.g4exact.proofs.Feeding.{finished_text}
use Rattle.g4exact.proofs.input.read_text.Goals as goal

pub returns : goal.returns
returns c = finished_text c.args.grid.now c.new-reader.result c.feed.new.self c.args.text.now c.finish.result c.new-reader.ensures c.in_ok-feed.ensures.goes c.finish.ensures
