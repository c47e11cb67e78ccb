use Rattle.std.proofs.Common.{[]}
use Rattle.gx_reader.specs.Resumed.{left_by}
use Rattle.gx_reader.proofs.Resume.{told_input}
use Rattle.gx_reader.proofs.line_reader.LineReader.finish.Goals as goal

pub returns-in-Reading : goal.returns-in-Reading
returns-in-Reading c = rw c.in-Reading.is (told_input (left_by c.in-Reading.reading []) c.finish.result c.finish.ensures.ok c.finish.ensures.err)
