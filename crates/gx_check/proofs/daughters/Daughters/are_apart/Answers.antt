use Rattle.std.proofs.Common.{◌∙◌, sym}
use Rattle.gx_check.proofs.Placed.{apart_at, parted_at}
use Rattle.gx_check.proofs.daughters.Daughters.are_apart.Goals as goal

pub returns : goal.returns
returns c = record {
  value = c.are_apart.ensures ∙ apart_at c.self.inside.hulls.items c.args.self.now c.self.inside.extents.items c.self.view_is c.self.invariant c.args.first c.args.second c.index.result.now c.index-2.result.now c.requires.first c.requires.second c.index.ensures c.index-2.ensures;
  parted = λ apart. parted_at c.self.inside.hulls.items c.args.self.now c.self.inside.extents.items c.self.view_is c.self.invariant c.args.first c.args.second c.index.result.now c.index-2.result.now c.requires.first c.requires.second c.index.ensures c.index-2.ensures (sym c.are_apart.ensures ∙ apart);
}
