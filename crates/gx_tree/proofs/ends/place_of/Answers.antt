use Rattle.std.proofs.Common.{length, ap, arith, rules, leb}
use Rattle.std.proofs.lemmas.List.Sorted.{IsPartitionPoint-from_clause, IsPartitionedBy-leb}
use Rattle.gx_tree.specs.Ends.{ends_of}
use Rattle.gx_tree.proofs.Ordinals.{ends_of-rises, place_is}
use Rattle.gx_tree.proofs.ends.place_of.Goals as goal

pub returns : goal.returns
returns c = λ ps ends less.
    let parted = IsPartitionedBy-leb (λ y. y) (ends_of ps) c.args.k (ends_of-rises ps) in
    let point = IsPartitionPoint-from_clause (λ y. leb y c.args.k) _ _ c.partition_point.ensures.partitioned (rw ends parted) (λ a r q k. search rules) in
    place_is ps c.args.k c.partition_point.result less (omega (arith, c.partition_point.ensures.bound, ap length ends)) (rw (← ends) point)
