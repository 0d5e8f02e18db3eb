-- What reading a file whole comes to, and how a refusal is told.
--     IsReadWhole     a file was read whole, and has these bytes, no more than so many
--     IsReadFault     why it wasn't
--     TellsRefusal    a refusal is told, or want of memory in its place
use Rattle.std.specs.Prelude.{◌≡◌, ℕ, ◌<◌, ◌≤◌, true, false, List, length, ◌⊎◌}
use Rattle.hs_edge.specs.Count.{Rose}
use Rattle.hs_front.specs.declared.refusal.Refusal.{Refusal}
use Rattle.hs_front.specs.declared.refusal.Refusal.TheVariants.{Source, FileTooLong, OutOfMemory}
use Rattle.hs_front.specs.Refusal.{line_of, HasFixedLine}
use Rattle.hs_front.specs.Outside.{SourceRun, SinkRun, IsUntouched, IsReadFromFront, HasTakenOrFailed}

-- a file was read whole: these are its bytes, which were handed out
pub record IsReadWhole (limit : ℕ) (name : List ℕ) (source : SourceRun) (bytes : List ℕ) : Type 0 where
  pub given : bytes ≡ source.after.given
  pub within : length bytes ≤ limit
  pub read : IsReadFromFront source true name

-- why it wasn't
abbrev pub IsReadFault : ℕ → List ℕ → SourceRun → Refusal → Type 0
IsReadFault limit name source Source = Rose (source.faults name) (source.faults_after name) × (IsUntouched source ⊎ IsReadFromFront source false name)
IsReadFault limit name source FileTooLong = (limit < length source.after.given) × IsReadFromFront source false name
IsReadFault limit name source OutOfMemory = IsReadFromFront source false name
IsReadFault limit name source refusal = ⊥

-- the refusal is told, or want of memory in its place where its line isn't a fixed one
abbrev pub TellsRefusal : List ℕ → Refusal → SinkRun → Refusal → Type 0
TellsRefusal usage refusal err told =
    ((told ≡ refusal) × HasTakenOrFailed err (line_of usage refusal))
    ⊎ ((HasFixedLine refusal → ⊥) × (told ≡ OutOfMemory) × HasTakenOrFailed err (line_of usage OutOfMemory))
