use Rattle.std.proofs.Common.{◌≡◌, ◌<◌, ◌+◌, length, refl, sym, ◌∙◌, subst, arith}
use Rattle.std.specs.Prelude.{codes}
use Rattle.std.proofs.lemmas.Result.{err_from_is_err_and}
use Rattle.gx_io.specs.Bytes.{with_after, AppendsFront}
use Rattle.gx_tree.specs.Hierarchy.{instances}
use Rattle.gx_print.specs.Texts.{after, daughter_text, volume_below}
use Rattle.gx_print.proofs.Places.{IsWrittenTo, next_of, written_none, written_more, written_front}
use Rattle.gx_print.proofs.Steps.{below_is}
use Rattle.gx_print.proofs.row.write_path.Goals as goal

pub loop-i-init : goal.loop-i-init
loop-i-init g c =
    let old = g.K.Sink.written c.args.sink.now in
    record {
      so_far = subst (λ v. IsWrittenTo c.args.sealed.now c.args.path.now 0 v old old) (sym c.world-volume.ensures.value) (written_none c.args.sealed.now c.args.path.now old c.requires);
      faults = refl;
    }

pub returns-in_err-write_step-clause-bytes : goal.returns-in_err-write_step-clause-bytes
returns-in_err-write_step-clause-bytes g c =
    let h = c.args.sealed.now in
    let path = c.args.path.now in
    let mid = g.K.Sink.written c.loop-i.sink in
    let new = g.K.Sink.written c.write_step.new.sink in
    let below : c.loop-i.i < length path = omega (arith, c.loop-i-test.true, c.len-i-end.ensures) in
    let stopped = subst (λ k. AppendsFront mid new (after (codes " ") (daughter_text h c.loop-i.volume k))) c.at-ordinal.ensures c.in_err-write_step.ensures.bytes.front in
    let p = err_from_is_err_and c.from_residual.result c.from_residual.ensures.1 in
    rw p.1 (record { all = tt; front = written_front h path c.loop-i.i c.loop-i.volume (g.K.Sink.written c.args.sink.now) mid new below c.loop-i.invariant.so_far stopped })

pub loop-i-preserved : goal.loop-i-preserved
loop-i-preserved g c =
    let h = c.args.sealed.now in
    let path = c.args.path.now in
    let i = c.loop-i.i in
    let v = c.loop-i.volume in
    let old = g.K.Sink.written c.args.sink.now in
    let mid = g.K.Sink.written c.loop-i.sink in
    let new = g.K.Sink.written c.write_step.new.sink in
    let so_far = c.loop-i.invariant.so_far in
    let below : i < length path = omega (arith, c.loop-i-test.true, c.len-i-end.ensures) in
    let more = subst (λ k. new ≡ with_after mid (after (codes " ") (daughter_text h v k))) c.at-ordinal.ensures c.in_ok-write_step.ensures.bytes.all in
    let ordinal = subst (λ k. k < length (instances h v)) (sym c.at-ordinal.ensures) (next_of h path i v old mid below so_far).ordinal in
    let same = below_is h v c.at-ordinal.result c.step-volume.result.volume ordinal c.step-volume.ensures.volume in
    record {
      so_far = subst (λ w. IsWrittenTo h path (i + 1) w old new) (subst (λ k. volume_below h v k ≡ c.step-volume.result.volume) c.at-ordinal.ensures same) (written_more h path i v old mid new below so_far more);
      faults = c.in_ok-write_step.ensures.cause.kept ∙ c.loop-i.invariant.faults;
    }
