-- Bytes taken into memory, as contracts see a `MemSink`.
use Rattle.std.specs.Prelude.{◌≡◌, ◌↔◌, ◌⊎◌, ◌-◌, ◌<◌, ◌≤◌, ℕ, Result, List, length, min, IsErr, IfOk, OnErr}
use Rattle.hs_edge.specs.Count.{NextFails, one_more}
use Rattle.hs_edge.specs.Writing.{Writing, unwritten, written}
use Rattle.hs_edge.specs.declared.errors.Failed.{Failed}

pub record SinkState : Type 0 where
  pub writing : Writing
  -- the most bytes that it takes in all
  pub room : ℕ
  -- the most bytes that one write takes
  pub step : ℕ
  -- the numbers of the calls that fail, counted from 1
  pub failing : List ℕ
  -- how many calls have come
  pub calls : ℕ
  pub faults : ℕ

-- a sink to which no call has come
abbrev pub new_sink : ℕ → ℕ → List ℕ → SinkState
new_sink room step failing =
    record { writing = unwritten; room = room; step = step; failing = failing; calls = 0; faults = 0 }

-- the piece has bytes, and the sink no room for them
abbrev pub FindsNoRoom : SinkState → List ℕ → Type 0
FindsNoRoom sink piece = (0 < length piece) × (sink.room ≤ length sink.writing.taken)

-- what `write` does
pub record Writes
    (old : SinkState) (piece : List ℕ) (result : Result ℕ Failed) (new : SinkState)
    : Type 0 where
  pub fails : IsErr result ↔ (NextFails old.failing old.calls ⊎ FindsNoRoom old piece)
  pub count : IfOk result (λ n.
      n ≡ min (min old.step (length piece)) (old.room - length old.writing.taken))
  pub ok : IfOk result (λ n.
      new ≡ record old { writing = written piece n old.writing; calls = one_more old.calls })
  pub err : OnErr result (
      new ≡ record old { calls = one_more old.calls; faults = one_more old.faults })
