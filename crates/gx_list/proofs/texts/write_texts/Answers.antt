use Rattle.std.proofs.Common.{arith}
use Rattle.std.proofs.lemmas.Result.{err_from_is_err_and}
use Rattle.gx_list.proofs.Series.{written-front}
use Rattle.gx_list.proofs.texts.write_texts.Goals as goal

pub returns-in_err-write-clause-bytes : goal.returns-in_err-write-clause-bytes
returns-in_err-write-clause-bytes g c =
    let error = err_from_is_err_and c.from_residual.result c.from_residual.ensures.1 in
    rw error.1 (record {
      all = tt;
      front = written-front (g.T.Texts.texts c.args.texts.now) c.loop-i.i _ _ _ (omega arith) c.loop-i.invariant.written c.in_err-write.ensures.bytes.front;
    })
