use Rattle.std.proofs.Common.{◌+◌, ◌≤◌, ◌++◌, length, take, drop, refl, ap, ◌∙◌, arith, length-take}
use Rattle.std.proofs.lemmas.List.{take-append-le}
use Rattle.std.proofs.lemmas.Result.{err_from_is_err_and}
use Rattle.std.proofs.lemmas.Grind.{common_steps}
use Rattle.gx_reader.specs.Reader.{read_as}
use Rattle.g4exact.specs.Ends.{most_read}
use Rattle.g4exact.proofs.Feeding.{fed_nothing, fed_more, fed_whole, fed_from}
use Rattle.g4exact.proofs.input.feed.Goals as goal

pub reads-init : goal.reads-init
reads-init g c = record { fed = fed_nothing _ c.args.reader.now; faults = refl }

pub reads-preserved : goal.reads-preserved
reads-preserved g c =
    let n = c.in_ok-n.n in
    let bytes = c.read.new.buf in
    let bound : n ≤ length bytes = c.in_ok-n.ensures.bound in
    let most : c.reads.count + n ≤ most_read = grind (arith, common_steps) in
    let piece = take-append-le n bytes (drop c.min-most.result c.reads.buffer) bound in
    record {
      fed = fed_more _ _ _ c.reads.reader c.reads.count c.reads.invariant.fed _ c.feed.new.self (take n bytes) n c.in_ok-n.ensures.bytes
          (omega (arith, length-take n bytes, bound)) most (λ later. c.in_ok-feed.ensures.goes later ∙ ap (λ taken. read_as c.reads.reader (taken ++ later)) piece);
      faults = grind (arith, common_steps);
    }

pub returns-in_err-feed-clause-err : goal.returns-in_err-feed-clause-err
returns-in_err-feed-clause-err g c =
    let n = c.in_ok-n.n in
    let bytes = c.read.new.buf in
    let bound : n ≤ length bytes = c.in_ok-n.ensures.bound in
    let most : c.reads.count + n ≤ most_read = grind (arith, common_steps) in
    let p = err_from_is_err_and c.from_residual-in_err-feed.result c.from_residual-in_err-feed.ensures.1 in
    rw p.1 (fed_from _ _ _ _ _ c.reads.count (take n bytes) n c.reads.invariant.fed c.in_ok-n.ensures.bytes (omega (arith, length-take n bytes, bound)) most)

pub returns-then-n-eq0-clause-ok : goal.returns-then-n-eq0-clause-ok
returns-then-n-eq0-clause-ok g c =
    let n = c.in_ok-n.n in
    let bytes = c.read.new.buf in
    let none = c.if-n-eq0.true in
    let bound : n ≤ length bytes = c.in_ok-n.ensures.bound in
    let most : c.reads.count + n ≤ most_read = omega (arith, none, c.reads.invariant.fed.most) in
    fed_whole _ _ _ c.reads.reader _ (fed_more _ _ _ c.reads.reader c.reads.count c.reads.invariant.fed _ c.reads.reader (take n bytes) n c.in_ok-n.ensures.bytes
    (omega (arith, length-take n bytes, bound)) most (λ later. rw none refl)) (λ short. c.in_ok-n.ensures.end none)
