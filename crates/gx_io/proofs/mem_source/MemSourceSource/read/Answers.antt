use Rattle.std.proofs.Common.{◌≡◌, length, drop, take, arith}
use Rattle.std.proofs.lemmas.Grind.{common_steps}
use Rattle.gx_io.specs.Bytes.{with_before}
use Rattle.gx_io.proofs.Places.{read-from}
use Rattle.gx_io.proofs.mem_source.MemSourceSource.read.Goals as goal

pub returns-clause-bytes : goal.returns-clause-bytes
unfolding with_before
returns-clause-bytes c =
    let s = c.self.inside in
    let n = c.min-n.result in
    let given = c.copy_from_slice.new.self in
    let is : given ≡ take n (drop s.at s.bytes.items) = grind (arith, common_steps) in
    let size : length given ≡ n = grind (arith, common_steps) in
    let parts = read-from s.bytes.items given (drop n c.args.buf.now) s.at n is size in
    grind (arith, parts)
