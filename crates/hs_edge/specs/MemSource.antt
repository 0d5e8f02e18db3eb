-- One file in memory, as contracts see a `MemSource`.
use Rattle.std.specs.Prelude.{◌≡◌, ◌≢◌, ◌↔◌, ℕ, if◌then◌else◌, Option, Some, None, Result, List, [], length, take, drop, min, IsErr, IsSome, IfOk, OnOk, OnErr}
use Rattle.std.specs.Str.{bytes_eq}
use Rattle.hs_edge.specs.Count.{NextFails, one_more}
use Rattle.hs_edge.specs.Reading.{Reading, unread, started, handed}
use Rattle.hs_edge.specs.declared.errors.Failed.{Failed}

pub record SourceState : Type 0 where
  pub name : List ℕ
  pub bytes : List ℕ
  -- the most bytes that one read gives
  pub step : ℕ
  -- the numbers of the calls that fail, counted from 1
  pub failing : List ℕ
  -- how many calls have come
  pub calls : ℕ
  pub reading : Reading
  -- the bytes that aren't read yet, none before the first `start` that answered `Ok`
  pub left : List ℕ
  pub own_faults : ℕ
  pub other_faults : ℕ

-- a source to which no call has come
abbrev pub new_source : List ℕ → List ℕ → ℕ → List ℕ → SourceState
new_source name bytes step failing = record {
  name = name;
  bytes = bytes;
  step = step;
  failing = failing;
  calls = 0;
  reading = unread;
  left = [];
  own_faults = 0;
  other_faults = 0;
}

-- the bytes of the one file
abbrev pub file_of : SourceState → List ℕ → Option (List ℕ)
file_of source name = if bytes_eq name source.name then Some source.bytes else None

-- one count for the source's own name, and one for all others
abbrev pub faults_of : SourceState → List ℕ → ℕ
faults_of source name =
    if bytes_eq name source.name then source.own_faults else source.other_faults

-- what `start` does
pub record Starts
    (old : SourceState) (name : List ℕ) (result : Result Unit Failed) (new : SourceState)
    : Type 0 where
  pub other_name : name ≢ old.name → IsErr result
  pub own_name : name ≡ old.name → (IsErr result ↔ NextFails old.failing old.calls)
  pub ok : OnOk result (
      new ≡ record old { calls = one_more old.calls; reading = started name old.reading; left = old.bytes })
  pub err_other : OnErr result (name ≢ old.name →
      new ≡ record old { calls = one_more old.calls; other_faults = one_more old.other_faults })
  pub err_own : OnErr result (name ≡ old.name →
      new ≡ record old { calls = one_more old.calls; own_faults = one_more old.own_faults })

-- what `read` does
pub record ReadsMemory
    (old : SourceState) (buf : List ℕ) (result : Result ℕ Failed) (filled : List ℕ) (new : SourceState)
    : Type 0 where
  pub fails : IsErr result ↔ (IsSome old.reading.begun × NextFails old.failing old.calls)
  pub count : IfOk result (λ n. n ≡ min (min old.step (length buf)) (length old.left))
  pub behind : IfOk result (λ n. drop n filled ≡ drop n buf)
  pub ok : IfOk result (λ n.
      new ≡ record old {
        calls = one_more old.calls;
        reading = handed (length buf) (take n filled) old.reading;
        left = drop n old.left;
      })
  pub err_buf : OnErr result (filled ≡ buf)
  pub err : OnErr result (
      new ≡ record old { calls = one_more old.calls; own_faults = one_more old.own_faults })
