use Rattle.std.proofs.Common.{◌≡◌, length}
use Rattle.std.specs.Vec.Iter.{into_iter_items, into_iter_len}
use Rattle.gx_link.specs.Links.{no_links, linked_from}
use Rattle.gx_link.proofs.link.link.Given as goal

abbrev pub invariant-loop-item : goal.invariant-loop-item
invariant-loop-item l = record {
  rest : linked_from l.known l.links (into_iter_items l.item-iterator) ≡ linked_from l.known no_links (into_iter_items l.initial.item-iterator);
  long : into_iter_len l.item-iterator ≡ length (into_iter_items l.item-iterator);
}
