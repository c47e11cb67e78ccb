use Rattle.std.proofs.Common.{sym, subst, ◌∙◌}
use Rattle.gx_refine.specs.Known.{AreKnown}
use Rattle.gx_refine.proofs.Trees.{all-known}
use Rattle.gx_refine.proofs.tree.build.Goals as goal

pub refine-requires-clause-known : goal.refine-requires-clause-known
refine-requires-clause-known c =
    subst (AreKnown c.args.extents.now) (sym (c.deref.ensures.value ∙ c.in_ok-members.ensures)) (all-known c.args.extents.now c.requires.few c.requires.proper)
