-- The law: a sample text is read as its hierarchy, which is clean.
use Rattle.std.proofs.Common.{ap, ◌∙◌}
use Rattle.gx_check.specs.Laws.{CleanWhereUnrefuted}
use Rattle.gx_reader.specs.Reading.{input_from}
use Rattle.gx_sample_clean.specs.Sample.{sample_tree}
use Rattle.gx_sample_clean.specs.Laws.{CleanSample}
use Rattle.gx_sample_clean.proofs.Text.{short_text}
use Rattle.gx_sample_clean.proofs.Gathered.{lines_read}
use Rattle.gx_sample_clean.proofs.Linked.{input_made}
use Rattle.gx_sample_clean.proofs.Tree.{tree}
use Rattle.gx_sample_clean.proofs.Clean.{clean, count}

pub clean_sample : CleanWhereUnrefuted → CleanSample
clean_sample law n some few = record {
  read = rw (short_text n few) (ap input_from (lines_read n some few) ∙ input_made n few);
  tree = tree n some few;
  clean = clean n some;
  unrefuted = (law (sample_tree n) (tree n some few)).0 (clean n some);
  count = count n;
}
