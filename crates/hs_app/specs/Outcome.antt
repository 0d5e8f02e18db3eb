-- What a run comes to.
--     IsAnswerOfRun         the verdict with its report, or why there is none, by the order and by what the source handed out
--     MayExplain            where `--explain` is among the words, the text explains the answer; else it is empty, and it may be so in any case
--     Ends, status_at       how a run ends, with what comes with it; its exit status
--     IsDue, Complies       what has to be answered, by the order and by the bytes; that it is answered
--     Keeps                 what a run leaves as it was, and what doesn't fall
--     Rows                  all that is claimed of a run
use Rattle.std.specs.Prelude.{◌≡◌, ◌≢◌, ℕ, ◌<◌, ◌≤◌, Bool, true, List, [], ◌++◌, Option, Some, None, Result, Ok, Err, length, codes, ◌⊎◌, IsSomeAnd}
use Rattle.hs_edge.specs.Count.{Rose}
use Rattle.hs_edge.specs.Writing.{AddsPart}
use Rattle.hs_front.specs.Refusal.{line_of, status_of}
use Rattle.hs_front.specs.declared.refusal.Refusal.{Refusal}
use Rattle.hs_front.specs.declared.refusal.Refusal.TheVariants.{Usage, Source, FileTooLong, Sink, OutOfMemory}
use Rattle.hs_app.specs.declared.top.Ending.{Ending}
use Rattle.hs_app.specs.declared.top.Ending.TheVariants.{Reported, CutOff, Refused}
use Rattle.hs_app.specs.declared.verdict.Decided.{Decided}
use Rattle.hs_app.specs.declared.verdict.Decision.{Decision}
use Rattle.hs_app.specs.declared.verdict.Decision.TheVariants.{Accepted, Rejected, Long}
use Rattle.hs_front.specs.Line.{ended}
use Rattle.hs_front.specs.Outside.{SourceRun, SinkRun, IsUntouched, IsCalm, KeepsSource, HasTakenOrFailed, HasTakenNothing}
use Rattle.hs_app.specs.Order.{Order, bytes_of, IsReadToEnd, IsPart, HasFault, OfTold}
use Rattle.hs_front.specs.Files.{max_bytes}
use Rattle.hs_app.specs.Headline.{IsWithinLimits}
use Rattle.hs_app.specs.Verdict.{HasAnswer, Warrants}
use Rattle.hs_app.specs.Explaining.{ExplainsAnswer}

-- ---- the answer

module _ (order : Option Order) (source : SourceRun) where
  -- the answer on the bytes of the job, which was read up to its end
  abbrev pub IsOfBytes : Result Decided Refusal → Type 0
  IsOfBytes answer = IsSomeAnd order (λ o. HasAnswer o.asked answer (bytes_of o.job source.after.given) × IsReadToEnd o.job source)

  -- why there is no verdict: the words, a count that rose, or the bytes that were handed out
  abbrev pub HasCause : Refusal → Type 0
  HasCause Usage = (order ≡ None) × IsUntouched source
  HasCause Source = IsSomeAnd order (λ o. HasFault o.job source × (IsUntouched source ⊎ IsPart o.job source))
  HasCause FileTooLong = IsSomeAnd order (λ o. (max_bytes < length source.after.given) × IsPart o.job source)
  HasCause Sink = ⊥
  HasCause OutOfMemory = IsUntouched source ⊎ IsSomeAnd order (λ o. IsPart o.job source ⊎ IsReadToEnd o.job source)
  HasCause refusal = IsOfBytes (Err refusal)

  -- the verdict is that on the bytes that were handed out up to the end, or the reason has its cause
  abbrev pub IsAnswerOfRun : Result Decided Refusal → Type 0
  IsAnswerOfRun (Ok decided) = IsOfBytes (Ok decided)
  IsAnswerOfRun (Err refusal) = HasCause refusal

-- ---- what may stand on standard error besides

module _ (mentioned : Bool) (source : SourceRun) (answer : Result Decided Refusal) (text : List ℕ) where
  -- of words that are refused nothing is said but that `--explain` is among them
  abbrev pub IsExplained : Option Order → Type 0
  IsExplained None = (answer ≡ Err Usage) × (mentioned ≡ true)
  IsExplained (Some o) = (o.asked.settings.explain ≡ true) × ExplainsAnswer (bytes_of o.job source.after.given) answer text

  abbrev pub MayExplain : Option Order → Type 0
  MayExplain order = (text ≡ []) ⊎ IsExplained order

-- ---- how a run ends

-- the line where the words are refused
abbrev pub usage : List ℕ
usage = ended (codes "usage: horsat [--workers N] [--entries N] [--steps N] [--table] [--first] [--minimal] [--quick] [--explain] [--simplify] [--gen K] [FILE]")

module _ (mentioned : Bool) (order : Option Order) (source : SourceRun) (out err : SinkRun) where
  -- the verdict was reported whole
  pub record IsReported (decided : Decided) : Type 0 where
    pub answer : IsAnswerOfRun order source (Ok decided)
    pub taken : out.taken_after ≡ out.taken ++ decided.report.items
    pub same_faults : out.faults_after ≡ out.faults
    pub text : List ℕ
    pub explains : MayExplain mentioned source (Ok decided) text order
    pub told : HasTakenOrFailed err text
    pub silent : text ≡ [] → HasTakenNothing err

  -- the report met a fault
  pub record IsCutOff (decided : Decided) : Type 0 where
    pub answer : IsAnswerOfRun order source (Ok decided)
    pub part : AddsPart out.taken out.taken_after decided.report.items
    pub cause : Rose out.faults out.faults_after
    pub told : HasTakenOrFailed err (line_of usage Sink)

  -- there is no verdict
  pub record Refuses (refusal : Refusal) : Type 0 where
    pub cause : HasCause order source refusal
    pub silent : HasTakenNothing out
    pub text : List ℕ
    pub explains : MayExplain mentioned source (Err refusal) text order
    pub told : HasTakenOrFailed err (line_of usage refusal ++ text)

  abbrev pub Ends : Ending → Type 0
  Ends (Reported decided) = IsReported decided
  Ends (CutOff decided) = IsCutOff decided
  Ends (Refused refusal) = Refuses refusal

-- the exit status of a verdict
abbrev pub status_of_verdict : Decision → ℕ
status_of_verdict Accepted = 0
status_of_verdict Rejected = 1
status_of_verdict Long = 2

-- the exit status of an ending
abbrev pub status_at : Ending → ℕ
status_at (Reported decided) = status_of_verdict decided.verdict
status_at (CutOff decided) = status_of Sink
status_at (Refused refusal) = status_of refusal

-- ---- what has to be answered

-- what the order and the file's bytes come to, memory and faults of reading and writing aside
abbrev pub IsDue : Option Order → (List ℕ → Option (List ℕ)) → Result Decision Refusal → Type 0
IsDue order file (Err Usage) = order ≡ None
IsDue order file answer = IsSomeAnd order (λ o. OfTold o.job file (Warrants o.asked answer))

-- the exit statuses of what is due: of a tree that is rejected 1, or 2 where the path is too long
abbrev pub IsStatusOf : Result Decision Refusal → ℕ → Type 0
IsStatusOf (Ok Accepted) status = status ≡ 0
IsStatusOf (Ok Rejected) status = (status ≡ 1) ⊎ (status ≡ 2)
IsStatusOf (Ok Long) status = ⊥
IsStatusOf (Err refusal) status = status ≡ status_of refusal

-- what is due of these files is answered, unless reading, writing or memory fails
pub record Complies (order : Option Order) (file : List ℕ → Option (List ℕ)) (status : ℕ) : Type 0 where
  pub due : (answer : Result Decision Refusal) → IsDue order file answer
      → IsStatusOf answer status ⊎ ((status ≡ 8) ⊎ (((status ≡ 9) × (verdict : Decision) × (answer ≡ Ok verdict)) ⊎ (status ≡ 10)))
  pub complete : IsSomeAnd order (λ o. OfTold o.job file (IsWithinLimits o.asked)) → (status ≤ 3) ⊎ ((status ≡ 8) ⊎ ((status ≡ 9) ⊎ (status ≡ 10)))

-- ---- the run

pub record Rows (mentioned : Bool) (order : Option Order) (source : SourceRun) (out err : SinkRun) (status : ℕ) : Type 0 where
  -- the status is that of how the run ended, and all that comes with that came
  pub ending : Ending
  pub ends : Ends mentioned order source out err ending
  pub is : status ≡ status_at ending
  pub usage : order ≡ None → (status ≡ 4) ⊎ (status ≡ 10)
  pub calm : status ≢ 8 → IsCalm source
  -- by the files, where they are told, and always by the bytes that were handed out
  pub told : Complies order source.file status
  pub handed : Complies order (λ _. Some source.after.given) status

-- what a run leaves as it was, and what doesn't fall
pub record Keeps (source : SourceRun) (out err : SinkRun) : Type 0 where
  pub of_source : KeepsSource source
  pub of_out : out.faults ≤ out.faults_after
  pub of_err : err.faults ≤ err.faults_after
