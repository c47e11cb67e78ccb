use Rattle.std.proofs.Common.{sym, arith}
use Rattle.gx_text.proofs.PlaceLemmas.{at_blank, at_other, all_words, all_within, at_end}
use Rattle.gx_text.proofs.line.places.Goals as goal
use Rattle.gx_text.proofs.line.places.Goals.{then-is_blank+in_ok-push_place, else-is_blank}

pub loop-i-preserved : goal.loop-i-preserved
loop-i-preserved c =
    let text = c.args.text.now in
    let l = c.loop-i in
    elim c.if-is_blank.branch [
      | then-is_blank+in_ok-push_place w ↦
          rw (w.places-is, w.start-is, w.in_ok-push_place.ensures) (at_blank text l.start l.i l.places.items l.invariant (omega arith) (omega arith) (sym w.if-is_blank.ensures))
      | else-is_blank w ↦ rw (w.places-is, w.start-is) (at_other text l.start l.i l.places.items l.invariant (omega arith) (sym w.if-is_blank.ensures))
    ]

pub returns-clause-words : goal.returns-clause-words
returns-clause-words c =
    let l = c.loop-i in
    let found = at_end c.args.text.now l.start l.i l.places.items (omega arith) l.invariant in
    rw c.in_ok-push_place-2.ensures (sym (all_words c.args.text.now l.start l.places.items found))

pub returns-clause-within : goal.returns-clause-within
returns-clause-within c =
    let l = c.loop-i in
    let found = at_end c.args.text.now l.start l.i l.places.items (omega arith) l.invariant in
    rw c.in_ok-push_place-2.ensures (all_within c.args.text.now l.start l.places.items found)
