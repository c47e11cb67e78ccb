-- A source and a sink in memory.
use Rattle.std.specs.Prelude.{◌≡◌, ℕ, ◌+◌, ◌-◌, ◌^◌, min, List, ◌++◌, take, drop, length, Bool, nat_lt, ◌&&◌, ◌||◌, ◌==◌, ◌↔◌, Result, IsErr, IsTrue, IfOk, OnErr}
use Rattle.std.specs.List.{list_any}
use Rattle.gx_io.specs.Bytes.{next_fault}

-- What a source in memory has left, gives in one read at most, and fails at; the calls that were numbered; the faults.
pub record SourceState : Type 0 where
  pub left : List ℕ
  pub most : ℕ
  pub fails : List ℕ
  pub calls : ℕ
  pub faults : ℕ

-- What a sink in memory was given, has room for in all, takes in one write at most, and fails at; the calls that were numbered; the faults.
pub record SinkState : Type 0 where
  pub written : List ℕ
  pub room : ℕ
  pub most : ℕ
  pub fails : List ℕ
  pub calls : ℕ
  pub faults : ℕ

-- the next call's number, from 1, is listed; numbers end at 2^32 - 1
abbrev pub fails_next : List ℕ → ℕ → Bool
fails_next fails calls = nat_lt calls (2 ^ 32 - 1) && list_any (λ n. n == calls + 1) fails

-- the numbered calls with one more
abbrev pub next_call : ℕ → ℕ
next_call calls = min (calls + 1) (2 ^ 32 - 1)

-- a source after a read that failed
abbrev pub failed_read : SourceState → SourceState
failed_read source = record source { calls = next_call source.calls; faults = next_fault source.faults }

-- one read: exactly the listed calls fail
pub record Reads {E : Type 0} (old new : SourceState) (before after : List ℕ) (result : Result ℕ E) : Type 0 where
  pub fails : IsErr result ↔ IsTrue (fails_next old.fails old.calls)
  pub count : IfOk result (λ n. n ≡ min (min old.most (length before)) (length old.left))
  pub given : IfOk result (λ n. after ≡ take n old.left ++ drop n before)
  pub kept : OnErr result (after ≡ before)
  pub ok : IfOk result (λ n. new ≡ record old { left = drop n old.left; calls = next_call old.calls })
  pub err : OnErr result (new ≡ failed_read old)

-- how many bytes of so many a write takes
abbrev pub taken : SinkState → ℕ → ℕ
taken sink count = min (min sink.most count) (sink.room - length sink.written)

-- one write: exactly the listed calls fail, and those that find no room
pub record Takes {E : Type 0} (old new : SinkState) (piece : List ℕ) (result : Result ℕ E) : Type 0 where
  pub fails : IsErr result ↔ IsTrue (fails_next old.fails old.calls || taken old (length piece) == 0)
  pub count : IfOk result (λ n. n ≡ taken old (length piece))
  pub ok : IfOk result (λ n. new ≡ record old { written = old.written ++ take n piece; calls = next_call old.calls })
  pub err : OnErr result (new ≡ record old { calls = next_call old.calls; faults = next_fault old.faults })
