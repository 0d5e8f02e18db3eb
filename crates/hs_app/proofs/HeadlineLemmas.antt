-- The three clauses of the headline follow from the rows.
use Rattle.std.proofs.Common.{◌≡◌, refl, sym, ◌∙◌, subst, ℕ, ◌≤◌, Bool, List, Option, Some, None, Ok, Err, ◌⊎◌, inl, inr, arith}
use Rattle.std.specs.Prelude.{option_map}
use Rattle.std.specs.Option.{IsSomeAnd, IfSome}
use Rattle.hs_scheme.specs.sorting.Unsorted.{UnsortedData}
use Rattle.hs_scheme.specs.acceptance.Run.{Accepts}
use Rattle.hs_front.specs.declared.refusal.Refusal.{Refusal}
use Rattle.hs_front.specs.declared.refusal.Refusal.TheVariants.{Usage, Source, FileTooLong, Syntax, Limit, Names, IllSorted, NotFirstOrder, SortTooLarge, RuleTooLong, PointLimit, FlowLimit, EntryLimit, Sink, OutOfMemory}
use Rattle.hs_app.specs.declared.verdict.Decision.{Decision}
use Rattle.hs_app.specs.declared.verdict.Decision.TheVariants.{Accepted, Rejected, Long}
use Rattle.hs_app.specs.declared.verdict.Decided.{Decided}
use Rattle.hs_app.specs.declared.top.Ending.{Ending}
use Rattle.hs_app.specs.declared.top.Ending.TheVariants.{Reported, CutOff, Refused}
use Rattle.hs_front.specs.Refusal.{status_of}
use Rattle.hs_front.proofs.Statuses.{past}
use Rattle.hs_front.specs.Outside.{SourceRun, SinkRun}
use Rattle.hs_app.specs.Problems.{Asked}
use Rattle.hs_words.specs.Words.{OptionsData, options_of}
use Rattle.hs_passes.specs.Passing.{Image}
use Rattle.hs_app.specs.Order.{FileOrigin, Order, job_of, order_of, ordered, bytes_of, IsReadToEnd}
use Rattle.hs_front.specs.Files.{IsAccepted, IsRejected}
use Rattle.hs_app.specs.Headline.{OfInput, IsOutside, IsFault, IsDecided}
use Rattle.hs_app.specs.Verdict.{Reports, HasDecision}
use Rattle.hs_app.specs.Outcome.{IsOfBytes, HasCause, status_of_verdict, status_at, Ends, Rows}
use Rattle.hs_app.proofs.AnswerLemmas.{decided_comes}

-- ---- what a verdict says of the tree

accepts_of : (asked : Asked) (u : UnsortedData) (v : Decision) (text : List ℕ) → status_of_verdict v ≡ 0 → Reports asked u v text → Accepts u.rules u.automaton.transitions
accepts_of asked u Accepted text e h =
    elim h.reports [
      | inl r ↦ r.accepts
      | inr (quick, s) ↦ s.accepts
    ]
accepts_of asked u Rejected text e h = absurd (omega (arith, e))
accepts_of asked u Long text e h = absurd (omega (arith, e))

rejects_of : (asked : Asked) (u : UnsortedData) (v : Decision) (text : List ℕ) → 1 ≤ status_of_verdict v → Reports asked u v text → Accepts u.rules u.automaton.transitions → ⊥
rejects_of asked u Accepted text e h = absurd (omega (arith, e))
rejects_of asked u Rejected text e h =
    elim h.reports [
      | inl r ↦ r.rejects
      | inr (quick, s) ↦ s.rejects
    ]
rejects_of asked u Long text e h =
    elim h.reports [
      | inl r ↦ r.rejects
      | inr (quick, s) ↦ absurd s
    ]

module _ (asked : Asked) (bytes : List ℕ) (d : Decided) (h : HasDecision asked bytes (Ok d)) where
  is_accepted : status_of_verdict d.verdict ≡ 0 → IsAccepted bytes
  is_accepted e = record { scheme = h.scheme; of_bytes = h.sound.of_bytes.of; accepts = accepts_of asked h.scheme d.verdict d.report.items e h.decides }

  is_rejected : 1 ≤ status_of_verdict d.verdict → IsRejected bytes
  is_rejected e = record { scheme = h.scheme; of_bytes = h.sound.of_bytes.of; rejects = rejects_of asked h.scheme d.verdict d.report.items e h.decides }

small_verdict : (v : Decision) → status_of_verdict v ≤ 2
small_verdict Accepted = omega arith
small_verdict Rejected = omega arith
small_verdict Long = omega arith

-- ---- what an ending says

-- this holds of the bytes of a job, which was done
abbrev OfJob : SourceRun → (List ℕ → Type 0) → FileOrigin → Type 0
OfJob source P job = P (bytes_of job source.after.given) × IsReadToEnd job source

module _ (mentioned : Bool) (o : Order) (source : SourceRun) (out err : SinkRun) where
  accepted_at : (e : Ending) → Ends mentioned (Some o) source out err e → status_at e ≡ 0 → OfJob source IsAccepted o.job
  accepted_at (Reported d) h e = (is_accepted o.asked (bytes_of o.job source.after.given) d h.answer.0.1 e, h.answer.1)
  accepted_at (CutOff d) h e = absurd (omega (arith, e))
  accepted_at (Refused r) h e = absurd (omega (arith, e, past r))

  rejected_at : (e : Ending) → Ends mentioned (Some o) source out err e → 1 ≤ status_at e → status_at e ≤ 2 → OfJob source IsRejected o.job
  rejected_at (Reported d) h e f = (is_rejected o.asked (bytes_of o.job source.after.given) d h.answer.0.1 e, h.answer.1)
  rejected_at (CutOff d) h e f = absurd (omega (arith, f))
  rejected_at (Refused r) h e f = absurd (omega (arith, f, past r))

  abbrev Decides : ℕ → Type 0
  Decides status = (status ≤ 2) ⊎ (IsFault o source out status ⊎ ((status ≡ 10) ⊎ IsOutside o source))

  -- a refusal on bytes that aren't within the limits
  on_bytes : (r : Refusal) → (r ≡ OutOfMemory → ⊥) → IsOfBytes (Some o) source (Err r) → Decides (status_of r)
  on_bytes r other h =
      inr (inr (inr (inr (
        (λ is. elim (decided_comes o.asked (bytes_of o.job source.after.given) (Err r) is h.0) [
          | inl wants ↦ other (cc)
          | inr (x, e) ↦ absurd (cc)
        ]),
        h.1,
      ))))

  decided_by : (r : Refusal) → HasCause (Some o) source r → Decides (status_of r)
  decided_by Usage h = let e = h.0 in absurd (cc)
  decided_by Source h = inr (inl (inl (refl, h.0)))
  decided_by FileTooLong h = inr (inr (inr (inl h)))
  decided_by (Syntax line) h = on_bytes (Syntax line) (λ e. (cc)) h
  decided_by (Limit which) h = on_bytes (Limit which) (λ e. (cc)) h
  decided_by (Names fault) h = on_bytes (Names fault) (λ e. (cc)) h
  decided_by (IllSorted rule) h = on_bytes (IllSorted rule) (λ e. (cc)) h
  decided_by (NotFirstOrder terminal) h = on_bytes (NotFirstOrder terminal) (λ e. (cc)) h
  decided_by (SortTooLarge rule) h = on_bytes (SortTooLarge rule) (λ e. (cc)) h
  decided_by (RuleTooLong rule) h = on_bytes (RuleTooLong rule) (λ e. (cc)) h
  decided_by PointLimit h = on_bytes PointLimit (λ e. (cc)) h
  decided_by FlowLimit h = on_bytes FlowLimit (λ e. (cc)) h
  decided_by EntryLimit h = on_bytes EntryLimit (λ e. (cc)) h
  decided_by Sink h = absurd h
  decided_by OutOfMemory h = inr (inr (inl refl))

  decided_at : (e : Ending) → Ends mentioned (Some o) source out err e → Decides (status_at e)
  decided_at (Reported d) h = inl (small_verdict d.verdict)
  decided_at (CutOff d) h = inr (inl (inr (refl, h.cause)))
  decided_at (Refused r) h = decided_by r h.cause

-- words that are refused have no verdict
none_at : (mentioned : Bool) (source : SourceRun) (out err : SinkRun) (e : Ending) → Ends mentioned None source out err e → 3 ≤ status_at e
none_at mentioned source out err (Reported d) h = absurd h.answer
none_at mentioned source out err (CutOff d) h = omega arith
none_at mentioned source out err (Refused r) h = past r

module _ (mentioned : Bool) (images : List Image) (source : SourceRun) (out err : SinkRun) (status : ℕ) where
  abbrev HasRows : Option OptionsData → Type 0
  HasRows options = Rows mentioned (option_map (order_of images) options) source out err status

  accepted_of : (options : Option OptionsData) → HasRows options → status ≡ 0 → IsSomeAnd (option_map job_of options) (OfJob source IsAccepted)
  accepted_of None rows e = absurd (omega (arith, e, rows.is, none_at mentioned source out err rows.ending rows.ends))
  accepted_of (Some o) rows e = accepted_at mentioned (order_of images o) source out err rows.ending rows.ends (sym rows.is ∙ e)

  rejected_of : (options : Option OptionsData) → HasRows options → 1 ≤ status → status ≤ 2 → IsSomeAnd (option_map job_of options) (OfJob source IsRejected)
  rejected_of None rows e f = absurd (omega (arith, f, rows.is, none_at mentioned source out err rows.ending rows.ends))
  rejected_of (Some o) rows e f = rejected_at mentioned (order_of images o) source out err rows.ending rows.ends (omega (arith, e, rows.is)) (omega (arith, f, rows.is))

  decided_of : (order : Option Order) → Rows mentioned order source out err status → IfSome order (λ o. Decides mentioned o source out err status)
  decided_of None rows = tt
  decided_of (Some o) rows = subst (λ (n : ℕ). Decides mentioned o source out err n) (sym rows.is) (decided_at mentioned o source out err rows.ending rows.ends)

  module _ (words : List (List ℕ)) where
    pub accepted : Rows mentioned (ordered images words) source out err status → status ≡ 0 → OfInput words source IsAccepted
    accepted rows e = accepted_of (options_of words) rows e

    pub rejected : Rows mentioned (ordered images words) source out err status → (status ≡ 1) ⊎ (status ≡ 2) → OfInput words source IsRejected
    rejected rows (inl e) = rejected_of (options_of words) rows (omega (arith, e)) (omega (arith, e))
    rejected rows (inr e) = rejected_of (options_of words) rows (omega (arith, e)) (omega (arith, e))

    pub decided : Rows mentioned (ordered images words) source out err status → IsDecided images words source out status
    decided rows = decided_of (ordered images words) rows

-- want of memory before the run
pub without_memory : (order : Option Order) (source : SourceRun) (out : SinkRun) (status : ℕ) → status ≡ 10
    → IfSome order (λ o. (status ≤ 2) ⊎ (IsFault o source out status ⊎ ((status ≡ 10) ⊎ IsOutside o source)))
without_memory None source out status e = tt
without_memory (Some o) source out status e = inr (inr (inl e))
