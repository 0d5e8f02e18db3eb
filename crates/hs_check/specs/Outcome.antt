-- What a run of the second program comes to.
--     OfBothFiles         both files were read up to their ends, and this holds of the bytes that were handed out
--     IsVerified          what status 0 means: the table shows that the tree of the scheme is accepted
--     HasCause            why a table isn't verified, by the words and by what the sources handed out
--     Ends, status_at     how a run ends, with what comes with it; its exit status
--     IsDue, Complies     what has to be answered, by the words and by the bytes; that it is answered
--     Rows                all that is claimed of a run
use Rattle.std.specs.Prelude.{◌≡◌, ◌≢◌, ℕ, ◌≤◌, Bool, true, false, List, ◌++◌, Option, Some, None, Result, Ok, Err, ◌⊎◌, IsSomeAnd}
use Rattle.hs_scheme.specs.Problem.{ProblemData}
use Rattle.hs_edge.specs.Count.{Rose}
use Rattle.hs_edge.specs.Writing.{AddsPart}
use Rattle.hs_front.specs.declared.refusal.Refusal.TheVariants.{Usage, Source, FileTooLong, Sink, OutOfMemory}
use Rattle.hs_front.specs.Files.{max_bytes, IsAccepted}
use Rattle.hs_front.specs.Yields.{Yields}
use Rattle.hs_front.specs.Outside.{SourceRun, SinkRun, IsUntouched, IsReadFromFront, IsCalm, KeepsSource, HasTakenOrFailed, HasTakenNothing}
use Rattle.hs_front.specs.Telling.{IsReadFault}
use Rattle.hs_check.specs.declared.fault.Fault.{Fault}
use Rattle.hs_check.specs.declared.fault.Fault.TheVariants.{Front, TableTooLong}
use Rattle.hs_check.specs.declared.top.Ending.{Ending}
use Rattle.hs_check.specs.declared.top.Ending.TheVariants.{Verified, CutOff, Failed}
use Rattle.hs_check.specs.Words.{FilePair}
use Rattle.hs_check.specs.Fault.{status_of, line_of, HasFixedLine, no_memory, verified_text}
use Rattle.hs_check.specs.declared.verified.Shown.{Shown}
use Rattle.hs_check.specs.Evidence.{max_table, ComesTo}

-- ---- what status 0 means

-- The bytes of the one file are that of a scheme within the limits, with sorts; those of the other are a certificate of a table of its
-- problem, which is closed and lacks the start entry, with the number of its instances; or one of entries and void environments, which are a
-- certificate of acceptance. And the tree of the scheme is accepted.
pub record IsVerified (scheme table : List ℕ) : Type 0 where
  pub shown : Shown
  pub evidence : ComesTo scheme table (Ok shown)
  pub accepted : IsAccepted scheme

module _ (files : Option FilePair) (scheme table : SourceRun) where
  -- both files were read up to their ends, and not past them
  abbrev pub OfBothFiles : (List ℕ → List ℕ → Type 0) → Type 0
  OfBothFiles P =
      IsSomeAnd files (λ f. P scheme.after.given table.after.given × (IsReadFromFront scheme true f.scheme × IsReadFromFront table true f.table))

  -- ---- the answer

  -- the one file was read to its end, and has a problem
  abbrev pub IsProblemRead : FilePair → Type 0
  IsProblemRead f = ((p : ProblemData) × Yields scheme.after.given (Ok p)) × IsReadFromFront scheme true f.scheme

  -- the one file was read as far as `met` says, and not yet the other; or the one has a problem, and the other was read so
  abbrev pub IsReadSoFar : Bool → FilePair → Type 0
  IsReadSoFar met f = (IsReadFromFront scheme met f.scheme × IsUntouched table) ⊎ (IsProblemRead f × IsReadFromFront table met f.table)

  -- why a table isn't verified: the words, a count that rose, or the bytes that were handed out
  abbrev pub HasCause : Fault → Type 0
  HasCause (Front Usage) = (files ≡ None) × (IsUntouched scheme × IsUntouched table)
  HasCause (Front Source) =
      IsSomeAnd files (λ f.
      (IsReadFault max_bytes f.scheme scheme Source × IsUntouched table)
      ⊎ (IsProblemRead f × IsReadFault max_table f.table table Source))
  HasCause (Front FileTooLong) = IsSomeAnd files (λ f. IsReadFault max_bytes f.scheme scheme FileTooLong × IsUntouched table)
  HasCause (Front Sink) = ⊥
  HasCause (Front OutOfMemory) = IsSomeAnd files (λ f. IsReadSoFar false f ⊎ IsReadSoFar true f)
  HasCause (Front refusal) =
      IsSomeAnd files (λ f. Yields scheme.after.given (Err refusal) × (IsReadFromFront scheme true f.scheme × IsUntouched table))
  HasCause TableTooLong = IsSomeAnd files (λ f. IsProblemRead f × IsReadFault max_table f.table table FileTooLong)
  HasCause fault = OfBothFiles (λ s t. ComesTo s t (Err fault))

  abbrev pub IsAnswerOfRun : Result Shown Fault → Type 0
  IsAnswerOfRun (Ok shown) = OfBothFiles (λ s t. ComesTo s t (Ok shown))
  IsAnswerOfRun (Err fault) = HasCause fault

-- the fault is told, or want of memory in its place where its line isn't a fixed one
abbrev pub TellsFault : Fault → SinkRun → Fault → Type 0
TellsFault fault err told =
    ((told ≡ fault) × HasTakenOrFailed err (line_of fault))
    ⊎ ((HasFixedLine fault → ⊥) × (told ≡ no_memory) × HasTakenOrFailed err (line_of no_memory))

-- ---- how a run ends

module _ (files : Option FilePair) (scheme table : SourceRun) (out err : SinkRun) where
  -- that was reported whole
  pub record IsReported (shown : Shown) : Type 0 where
    pub answer : IsAnswerOfRun files scheme table (Ok shown)
    pub taken : out.taken_after ≡ out.taken ++ verified_text shown
    pub same_faults : out.faults_after ≡ out.faults
    pub silent : HasTakenNothing err

  -- the report met a fault
  pub record IsCutOff (shown : Shown) : Type 0 where
    pub answer : IsAnswerOfRun files scheme table (Ok shown)
    pub part : AddsPart out.taken out.taken_after (verified_text shown)
    pub cause : Rose out.faults out.faults_after
    pub told : HasTakenOrFailed err (line_of (Front Sink))

  -- the table isn't verified
  pub record IsUnverified (fault : Fault) : Type 0 where
    pub cause : HasCause files scheme table fault
    pub silent : HasTakenNothing out
    pub told : HasTakenOrFailed err (line_of fault)

  abbrev pub Ends : Ending → Type 0
  Ends (Verified shown) = IsReported shown
  Ends (CutOff shown) = IsCutOff shown
  Ends (Failed fault) = IsUnverified fault

-- the exit status of an ending
abbrev pub status_at : Ending → ℕ
status_at (Verified shown) = 0
status_at (CutOff shown) = status_of (Front Sink)
status_at (Failed fault) = status_of fault

-- ---- what has to be answered

-- the exit status of an answer
abbrev pub status_due : Result Shown Fault → ℕ
status_due (Ok shown) = 0
status_due (Err fault) = status_of fault

-- What the words and the bytes of the files come to, memory and faults of reading and writing aside.
module _ (files : Option FilePair) (schemes tables : List ℕ → Option (List ℕ)) where
  abbrev pub IsDue : Result Shown Fault → Type 0
  IsDue (Err (Front Usage)) = files ≡ None
  IsDue (Err (Front refusal)) = IsSomeAnd files (λ f. IsSomeAnd (schemes f.scheme) (λ bytes. Yields bytes (Err refusal)))
  IsDue answer = IsSomeAnd files (λ f. IsSomeAnd (schemes f.scheme) (λ s. IsSomeAnd (tables f.table) (λ t. ComesTo s t answer)))

  -- what is due is answered, unless reading, writing or memory fails
  abbrev pub Complies : ℕ → Type 0
  Complies status =
      (answer : Result Shown Fault) → IsDue answer
      → (status ≡ status_due answer) ⊎ ((status ≡ 8) ⊎ (((status ≡ 9) × (shown : Shown) × (answer ≡ Ok shown)) ⊎ (status ≡ 10)))

-- ---- the run

pub record Rows (files : Option FilePair) (scheme table : SourceRun) (out err : SinkRun) (status : ℕ) : Type 0 where
  -- the status is that of how the run ended, and all that comes with that came
  pub ending : Ending
  pub ends : Ends files scheme table out err ending
  pub is : status ≡ status_at ending
  pub usage : files ≡ None → status ≡ 4
  pub calm : status ≢ 8 → IsCalm scheme × IsCalm table
  -- by the files, where they are told, and always by the bytes that were handed out
  pub told : Complies files scheme.file table.file status
  pub handed : Complies files (λ _. Some scheme.after.given) (λ _. Some table.after.given) status

-- what a run leaves as it was, and what doesn't fall
pub record Keeps (scheme table : SourceRun) (out err : SinkRun) : Type 0 where
  pub of_scheme : KeepsSource scheme
  pub of_table : KeepsSource table
  pub of_out : out.faults ≤ out.faults_after
  pub of_err : err.faults ≤ err.faults_after
