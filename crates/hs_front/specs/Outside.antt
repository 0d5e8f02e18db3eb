-- A source and a sink, as a run found them and left them.
--     SourceRun, source_run    the files by name, what the calls have answered, what is left, and the counts of failures
--     SinkRun, sink_run        what was taken, and the count of failures
--     IsUntouched              nothing was started or read
--     IsReadFromFront          the file of a name was started, and nothing else, and read from its front on
--     IsCalm, KeepsSource      no call of the source failed; what a run leaves as it was, and what doesn't fall
--     HasTakenOrFailed         bytes were taken, or a part of them beside a fault
--     HasTakenNothing          nothing was taken, and nothing failed
use Rattle.std.specs.Prelude.{◌≡◌, ℕ, ◌+◌, ◌≤◌, ◌⊎◌, Bool, true, false, List, [], ◌++◌, Option, Some, IfSome}
use Rattle.std.specs.Io.KnownBytes.{prepend_known}
use Rattle.hs_edge.specs.Reading.{Reading}
use Rattle.hs_edge.specs.Count.{Rose}
use Rattle.hs_edge.specs.Writing.{Writing, AddsPart}

pub record SourceRun : Type 0 where
  -- the files by name, where they are told
  pub file : List ℕ → Option (List ℕ)
  pub file_after : List ℕ → Option (List ℕ)
  pub before : Reading
  pub after : Reading
  -- what is left, where it is told
  pub left : Option (List ℕ)
  pub left_after : Option (List ℕ)
  pub faults : List ℕ → ℕ
  pub faults_after : List ℕ → ℕ

abbrev pub source_run : {S : Type 0} → (S → List ℕ → Option (List ℕ)) → (S → Option (List ℕ)) → (S → Reading) → (S → List ℕ → ℕ) → S → S → SourceRun
source_run file left reading faults old new = record {
  file = file old;
  file_after = file new;
  before = reading old;
  after = reading new;
  left = left old;
  left_after = left new;
  faults = faults old;
  faults_after = faults new;
}

pub record SinkRun : Type 0 where
  pub taken : List ℕ
  pub taken_after : List ℕ
  pub faults : ℕ
  pub faults_after : ℕ

abbrev pub sink_run : {S : Type 0} → (S → Writing) → (S → ℕ) → S → S → SinkRun
sink_run writing faults old new = record {
  taken = (writing old).taken;
  taken_after = (writing new).taken;
  faults = faults old;
  faults_after = faults new;
}

-- nothing was started or read, and what is left is as it was
pub record IsUntouched (source : SourceRun) : Type 0 where
  pub same_reading : source.after ≡ source.before
  pub same_left : source.left_after ≡ source.left

-- The file of this name was started, and nothing else, and it was read from its front on: up to its
-- end and not past it, where the end was met. Where the file is told, what was handed out and what is
-- left make it up.
pub record IsReadFromFront (source : SourceRun) (met : Bool) (name : List ℕ) : Type 0 where
  pub begun : source.after.begun ≡ Some name
  pub once : source.after.starts ≡ source.before.starts + 1
  pub ended : source.after.ended ≡ met
  pub not_behind : source.after.behind ≡ false
  pub told : source.file name ≡ prepend_known source.after.given source.left_after
  pub all : met ≡ true → IfSome source.left_after (λ left. left ≡ [])

-- no call of the source failed
abbrev pub IsCalm : SourceRun → Type 0
IsCalm source = (any : List ℕ) → source.faults_after any ≡ source.faults any

-- what a run leaves as it was, and what doesn't fall
pub record KeepsSource (source : SourceRun) : Type 0 where
  pub same_files : (any : List ℕ) → source.file_after any ≡ source.file any
  pub never_falls : (any : List ℕ) → source.faults any ≤ source.faults_after any

-- the bytes were taken, or a part of them beside a fault
abbrev pub HasTakenOrFailed : SinkRun → List ℕ → Type 0
HasTakenOrFailed sink text = (sink.taken_after ≡ sink.taken ++ text) ⊎ (AddsPart sink.taken sink.taken_after text × Rose sink.faults sink.faults_after)

-- nothing was taken, and nothing failed
pub record HasTakenNothing (sink : SinkRun) : Type 0 where
  pub same_taken : sink.taken_after ≡ sink.taken
  pub same_faults : sink.faults_after ≡ sink.faults
