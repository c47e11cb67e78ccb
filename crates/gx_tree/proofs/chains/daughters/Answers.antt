use Rattle.std.proofs.Common.{◌≡◌, ◌||◌, ℕ, nat_eq, List, Bool, length, ap, ◌∙◌, arith}
use Rattle.std.specs.List.{list_any}
use Rattle.std.proofs.lemmas.List.{get_or_read, with_items_is}
use Rattle.gx_tree.specs.Volume.{Volume, daughter_of}
use Rattle.gx_tree.specs.Hierarchy.{volume_at}
use Rattle.gx_tree.specs.Marks.{is_marked}
use Rattle.gx_tree.proofs.Marks.{led_more, led_past}
use Rattle.gx_tree.proofs.chains.daughters.Goals as goal
use Rattle.gx_tree.proofs.chains.daughters.Goals.{then-marks-v, else-marks-v}

pub loop-v-preserved : goal.loop-v-preserved
loop-v-preserved c =
    let volumes = c.args.volumes.now in
    let marks = c.args.marks.now in
    let old = c.loop-v.daughters.items in
    let new = c.if-marks-v.daughters.items in
    elim c.if-marks-v.branch [
      | then-marks-v w ↦
          let items : new ≡ w.mark.new.marks = ap (λ d. d.items) w.daughters-is ∙ with_items_is c.loop-v.daughters w.mark.new.marks (omega arith) in
          let at : c.index-volumes-v.result ≡ volume_at volumes c.loop-v.v = get_or_read volumes _ _ c.loop-v-test.true c.index-volumes-v.is _ in
          let placements : w.placements.result.now ≡ (volume_at volumes c.loop-v.v).placements = w.placements.ensures ∙ ap (λ (v : Volume). v.placements) at in
          let marked : (u : ℕ) → is_marked new u ≡ (is_marked old u || list_any (λ p. nat_eq (daughter_of p) u) (volume_at volumes c.loop-v.v).placements) =
          λ u. ap (λ (ms : List Bool). is_marked ms u) items ∙ w.mark.ensures u ∙ (λ i. is_marked (w.deref_mut.ensures.value i) u || list_any (λ p. nat_eq (daughter_of p) u) (placements i)) in
          record {
            count = ap length items ∙ omega (arith, c.loop-v.invariant.count);
            led = λ u. led_more volumes marks old new c.loop-v.v u w.if-marks-v.true (marked u) (c.loop-v.invariant.led u);
          }
      | else-marks-v w ↦
          let items : new ≡ old = ap (λ d. d.items) w.daughters-is in
          record {
            count = ap length items ∙ c.loop-v.invariant.count;
            led = λ u. led_past volumes marks c.loop-v.v u w.if-marks-v.false (rw (ap (λ (ms : List Bool). is_marked ms u) items) (c.loop-v.invariant.led u));
          }
    ]
