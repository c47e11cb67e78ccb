use Rattle.std.proofs.Common.{◌≡◌, ◌++◌, take, None}
use Rattle.gx_text.specs.Lines.{fault_of}
use Rattle.gx_text.proofs.partial_line.PartialLine.extend.Given as goal

abbrev pub invariant-loop-byte : goal.invariant-loop-byte
invariant-loop-byte l = record {
  line : l.self ≡ l.fn.self ++ take l.byte-index l.bytes;
  kept : fault_of l.number l.self ≡ None;
}
