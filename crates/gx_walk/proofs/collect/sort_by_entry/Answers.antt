use Rattle.std.proofs.Common.{rules}
use Rattle.std.proofs.lemmas.List.Sorted.{answers_always}
use Rattle.gx_walk.specs.Entry.{is_earlier}
use Rattle.gx_walk.proofs.Sorted.{entry_order}
use Rattle.gx_walk.proofs.collect.sort_by_entry.Goals as goal

pub returns-clause-sorted : goal.returns-clause-sorted
returns-clause-sorted c = c.sort_unstable_by.ensures.sorted is_earlier entry_order (answers_always _ _ _ (λ f a r g h. search rules))
