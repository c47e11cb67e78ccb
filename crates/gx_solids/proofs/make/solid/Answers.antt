use Rattle.std.proofs.Common.{ap, ◌∙◌}
use Rattle.gx_shapes.specs.Numbers.{start}
use Rattle.gx_shapes.specs.Accepted.{all_of}
use Rattle.gx_solids.proofs.make.solid.Goals as goal

pub seal-requires : goal.seal-requires
seal-requires c = record {
  values = c.args.values.now;
  left = c.read_all.new.numbers;
  given = ap (λ kind. all_of kind (start c.args.values.now)) c.in-Ok.ensures.kind ∙ (rw c.new-numbers.ensures at c.in-Ok.ensures.reads);
}
