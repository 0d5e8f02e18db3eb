-- What contracts see of a `StdSink`.
use Rattle.std.specs.Prelude.{ℕ}
use Rattle.hs_edge.specs.Writing.{Writing, unwritten}

pub record StreamState : Type 0 where
  pub writing : Writing
  -- how many writes have failed
  pub failures : ℕ

-- a stream to which no call has come
abbrev pub new_stream : StreamState
new_stream = record { writing = unwritten; failures = 0 }
