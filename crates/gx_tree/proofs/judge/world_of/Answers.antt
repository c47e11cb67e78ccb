use Rattle.gx_tree.proofs.Formed.{world-below}
use Rattle.gx_tree.proofs.judge.world_of.Goals as goal

pub first_too_deep-requires-clause-world : goal.first_too_deep-requires-clause-world
first_too_deep-requires-clause-world c = world-below c.args.volumes.now c.in_ok-world.world c.in_ok-world.ensures.ok
