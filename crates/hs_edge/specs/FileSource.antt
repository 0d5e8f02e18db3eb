-- What contracts see of a `FileSource`.
use Rattle.std.specs.Prelude.{ℕ}
use Rattle.hs_edge.specs.Reading.{Reading, unread}

pub record ReaderState : Type 0 where
  pub reading : Reading
  -- how many calls have failed, at whatever name
  pub failures : ℕ

-- a reader to which no call has come
abbrev pub new_reader : ReaderState
new_reader = record { reading = unread; failures = 0 }
