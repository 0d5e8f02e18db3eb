-- What is claimed of a run, from how it ends.
use Rattle.std.proofs.Common.{◌≡◌, ◌≢◌, refl, sym, ◌∙◌, ap, subst, ℕ, ◌<◌, ◌≤◌, true, false, List, length, Option, Some, None, Result, Ok, Err, ◌⊎◌, inl, inr, arith}
use Rattle.std.specs.Option.{IsSomeAnd, IfSome}
use Rattle.hs_scheme.specs.Problem.{ProblemData}
use Rattle.hs_front.specs.declared.refusal.Refusal.{Refusal}
use Rattle.hs_front.specs.declared.refusal.Refusal.TheVariants.{Usage, Source, FileTooLong, Syntax, Limit, Names, IllSorted, NotFirstOrder, SortTooLarge, RuleTooLong, PointLimit, FlowLimit, EntryLimit, Sink, OutOfMemory}
use Rattle.hs_front.specs.Refusal as front
use Rattle.hs_front.specs.Files.{max_bytes, IsAccepted}
use Rattle.hs_front.specs.Yields.{Yields}
use Rattle.hs_front.specs.Outside.{SourceRun, SinkRun, IsReadFromFront, IsCalm}
use Rattle.hs_front.proofs.ReadLemmas.{whole_bytes, part_bytes}
use Rattle.hs_front.proofs.Statuses.{past}
use Rattle.hs_front.proofs.Yielding.{one_yield}
use Rattle.hs_check.specs.declared.fault.Fault.{Fault}
use Rattle.hs_check.specs.declared.fault.Fault.TheVariants.{Front, TableTooLong, TableLine, Missing, HasStart, NotVoid, Instances}
use Rattle.hs_check.specs.declared.verified.Shown.{Shown}
use Rattle.hs_check.specs.declared.verified.Shown.TheVariants.{Full}
use Rattle.hs_check.specs.declared.top.Ending.{Ending}
use Rattle.hs_check.specs.declared.top.Ending.TheVariants.{Verified, CutOff, Failed}
use Rattle.hs_check.specs.Words.{FilePair}
use Rattle.hs_check.specs.Fault.{status_of, no_memory}
use Rattle.hs_check.specs.Evidence.{max_table, FileShows, ComesTo}
use Rattle.hs_check.specs.Outcome.{OfBothFiles, IsVerified, IsAnswerOfRun, Ends, status_at, status_due, IsDue, Complies, Rows}
use Rattle.hs_check.proofs.OneAnswer.{one_answer}

-- ---- what was handed out says of a file what it says itself

record SaysOf (name : List ℕ) (run : SourceRun) (file : List ℕ → Option (List ℕ)) : Type 1 where
  whole : (P : List ℕ → Type 0) → P run.after.given → IsReadFromFront run true name → IfSome (file name) P
  part : (limit : ℕ) → limit < length run.after.given → IsReadFromFront run false name → IfSome (file name) (λ bytes. limit < length bytes)

shown_told : (name : List ℕ) (run : SourceRun) → SaysOf name run run.file
shown_told name run = record {
  whole = λ P h read. whole_bytes P run.after.given (run.file name) run.left_after read.told (read.all refl) h;
  part = λ limit h read. part_bytes limit run.after.given (run.file name) run.left_after read.told h;
}

shown_handed : (name : List ℕ) (run : SourceRun) → SaysOf name run (λ _. Some run.after.given)
shown_handed name run = record { whole = λ P h read. h; part = λ limit h read. h }

-- ---- what is due, and what is answered

-- a failure, which nothing of the words and the bytes brings
abbrev IsFailure : Result Shown Fault → Type 0
IsFailure b = (b ≡ Err (Front Source)) ⊎ (b ≡ Err no_memory)

-- why something is answered, and why it is due, by the bytes of the files
abbrev Why : Option (List ℕ) → Option (List ℕ) → Result Shown Fault → Type 0
Why s t b =
    IsFailure b
    ⊎ (((r : Refusal) × ((b ≡ Err (Front r)) × IfSome s (λ bytes. Yields bytes (Err r))))
    ⊎ ((p : ProblemData) × (IfSome s (λ bytes. Yields bytes (Ok p)) × IfSome t (λ bytes. FileShows p bytes b))))

abbrev Due : Option (List ℕ) → Option (List ℕ) → Result Shown Fault → Type 0
Due s t d =
    ((r : Refusal) × ((d ≡ Err (Front r)) × IsSomeAnd s (λ bytes. Yields bytes (Err r))))
    ⊎ IsSomeAnd s (λ bytes. IsSomeAnd t (λ table. ComesTo bytes table d))

abbrev of_front : Result ProblemData Refusal → Result Shown Fault
of_front (Ok p) = Ok (Full 0)
of_front (Err r) = Err (Front r)

abbrev Meet : Result Shown Fault → Result Shown Fault → Type 0
Meet d b = IsFailure b ⊎ (status_due d ≡ status_due b)

module _ (d b : Result Shown Fault) (bytes : List ℕ) where
  same_refusal : (r s : Refusal) → d ≡ Err (Front r) → b ≡ Err (Front s) → Yields bytes (Err r) → Yields bytes (Err s) → status_due d ≡ status_due b
  same_refusal r s e f h k =
      ap status_due e ∙ (ap (λ (x : Result ProblemData Refusal). status_due (of_front x)) (one_yield bytes (Err r) (Err s) h k) ∙ sym (ap status_due f))

  no_problem : (r : Refusal) (p : ProblemData) → Yields bytes (Err r) → Yields bytes (Ok p) → ⊥
  no_problem r p h k = let e = one_yield bytes (Err r) (Ok p) h k in (cc)

  meet_table : (table : Option (List ℕ)) → IsSomeAnd table (λ t. ComesTo bytes t d) → Why (Some bytes) table b → Meet d b
  meet_table None h w = absurd h
  meet_table (Some t) h (inl fails) = inl fails
  meet_table (Some t) h (inr (inl (r, (e, k)))) = absurd (no_problem r h.problem k h.yields)
  meet_table (Some t) h (inr (inr (p, (y, a)))) = inr (one_answer bytes t d b h (record { problem = p; yields = y; answers = a }))

  meet_some : (table : Option (List ℕ)) → Due (Some bytes) table d → Why (Some bytes) table b → Meet d b
  meet_some table (inl (r, (e, h))) (inl fails) = inl fails
  meet_some table (inl (r, (e, h))) (inr (inl (s, (f, k)))) = inr (same_refusal r s e f h k)
  meet_some table (inl (r, (e, h))) (inr (inr (p, (y, a)))) = absurd (no_problem r p h y)
  meet_some table (inr h) w = meet_table table h w

meet : (s t : Option (List ℕ)) (d b : Result Shown Fault) → Due s t d → Why s t b → Meet d b
meet None t d b (inl (r, (e, h))) w = absurd h
meet None t d b (inr h) w = absurd h
meet (Some bytes) t d b due w = meet_some d b bytes t due w

-- no other answer has status 0
faulty : (fault : Fault) → 1 ≤ status_of fault
faulty (Front refusal) = let h : 3 ≤ front.status_of refusal = past refusal in omega (arith, h)
faulty TableTooLong = omega arith
faulty (TableLine line) = omega arith
faulty (Missing entry) = omega arith
faulty HasStart = omega arith
faulty (NotVoid pair) = omega arith
faulty (Instances count) = omega arith

verified_only : (d : Result Shown Fault) → status_due d ≡ 0 → (shown : Shown) × (d ≡ Ok shown)
verified_only (Ok shown) e = (shown, refl)
verified_only (Err fault) e = let h : 1 ≤ status_of fault = faulty fault in absurd (omega (arith, e, h))

abbrev IsDueStatus : ℕ → Result Shown Fault → Type 0
IsDueStatus status d = (status ≡ status_due d) ⊎ ((status ≡ 8) ⊎ (((status ≡ 9) × (shown : Shown) × (d ≡ Ok shown)) ⊎ (status ≡ 10)))

module _ (f : FilePair) (scheme table : SourceRun) (schemes tables : List ℕ → Option (List ℕ)) (ss : SaysOf f.scheme scheme schemes) (st : SaysOf f.table table tables) where
  abbrev Is : Result Shown Fault → Type 0
  Is b = IsAnswerOfRun (Some f) scheme table b

  abbrev WhyHere : Result Shown Fault → Type 0
  WhyHere b = Why (schemes f.scheme) (tables f.table) b

  by_bytes : (b : Result Shown Fault) → OfBothFiles (Some f) scheme table (λ s t. ComesTo s t b) → WhyHere b
  by_bytes b h =
      let p = h.0.problem in
      inr (inr (p, (ss.whole (λ s. Yields s (Ok p)) h.0.yields h.1.0, st.whole (λ t. FileShows p t b) h.0.answers h.1.1)))

  by_scheme : (r : Refusal) → Yields scheme.after.given (Err r) → IsReadFromFront scheme true f.scheme → WhyHere (Err (Front r))
  by_scheme r h read = inr (inl (r, (refl, ss.whole (λ s. Yields s (Err r)) h read)))

  why : (b : Result Shown Fault) → Is b → WhyHere b
  why (Ok shown) h = by_bytes (Ok shown) h
  why (Err (Front Usage)) h = let e = h.0 in absurd (cc)
  why (Err (Front Source)) h = inl (inl refl)
  why (Err (Front FileTooLong)) h = inr (inl (FileTooLong, (refl, ss.part max_bytes h.0.0 h.0.1)))
  why (Err (Front Sink)) h = absurd h
  why (Err (Front OutOfMemory)) h = inl (inr refl)
  why (Err (Front (Syntax line))) h = by_scheme (Syntax line) h.0 h.1.0
  why (Err (Front (Limit which))) h = by_scheme (Limit which) h.0 h.1.0
  why (Err (Front (Names fault))) h = by_scheme (Names fault) h.0 h.1.0
  why (Err (Front (IllSorted rule))) h = by_scheme (IllSorted rule) h.0 h.1.0
  why (Err (Front (NotFirstOrder terminal))) h = by_scheme (NotFirstOrder terminal) h.0 h.1.0
  why (Err (Front (SortTooLarge rule))) h = by_scheme (SortTooLarge rule) h.0 h.1.0
  why (Err (Front (RuleTooLong rule))) h = by_scheme (RuleTooLong rule) h.0 h.1.0
  why (Err (Front PointLimit)) h = by_scheme PointLimit h.0 h.1.0
  why (Err (Front FlowLimit)) h = by_scheme FlowLimit h.0 h.1.0
  why (Err (Front EntryLimit)) h = by_scheme EntryLimit h.0 h.1.0
  why (Err TableTooLong) h =
      let p = h.0.0.0 in inr (inr (p, (ss.whole (λ s. Yields s (Ok p)) h.0.0.1 h.0.1, st.part max_table h.1.0 h.1.1)))
  why (Err (TableLine line)) h = by_bytes (Err (TableLine line)) h
  why (Err (Missing entry)) h = by_bytes (Err (Missing entry)) h
  why (Err HasStart) h = by_bytes (Err HasStart) h
  why (Err (NotVoid pair)) h = by_bytes (Err (NotVoid pair)) h
  why (Err (Instances count)) h = by_bytes (Err (Instances count)) h

  abbrev Ordered : Result Shown Fault → Type 0
  Ordered d = IsDue (Some f) schemes tables d

  due : (d : Result Shown Fault) → Ordered d → Due (schemes f.scheme) (tables f.table) d
  due (Ok shown) h = inr h
  due (Err (Front Usage)) h = absurd (cc)
  due (Err (Front (Syntax line))) h = inl ((Syntax line), (refl, h))
  due (Err (Front (Limit which))) h = inl ((Limit which), (refl, h))
  due (Err (Front (Names fault))) h = inl ((Names fault), (refl, h))
  due (Err (Front (IllSorted rule))) h = inl ((IllSorted rule), (refl, h))
  due (Err (Front (NotFirstOrder terminal))) h = inl ((NotFirstOrder terminal), (refl, h))
  due (Err (Front (SortTooLarge rule))) h = inl ((SortTooLarge rule), (refl, h))
  due (Err (Front (RuleTooLong rule))) h = inl ((RuleTooLong rule), (refl, h))
  due (Err (Front PointLimit)) h = inl (PointLimit, (refl, h))
  due (Err (Front FlowLimit)) h = inl (FlowLimit, (refl, h))
  due (Err (Front EntryLimit)) h = inl (EntryLimit, (refl, h))
  due (Err (Front Source)) h = inl (Source, (refl, h))
  due (Err (Front FileTooLong)) h = inl (FileTooLong, (refl, h))
  due (Err (Front Sink)) h = inl (Sink, (refl, h))
  due (Err (Front OutOfMemory)) h = inl (OutOfMemory, (refl, h))
  due (Err TableTooLong) h = inr h
  due (Err (TableLine line)) h = inr h
  due (Err (Missing entry)) h = inr h
  due (Err HasStart) h = inr h
  due (Err (NotVoid pair)) h = inr h
  due (Err (Instances count)) h = inr h

  meets : (d b : Result Shown Fault) → Ordered d → Is b → Meet d b
  meets d b h is = meet (schemes f.scheme) (tables f.table) d b (due d h) (why b is)

  -- from the answer to its status
  follows : (d b : Result Shown Fault) → Ordered d → Is b → IsDueStatus (status_due b) d
  follows d b h is =
      elim (meets d b h is) [
        | inl (inl e) ↦ inr (inl (ap status_due e))
        | inl (inr e) ↦ inr (inr (inr (ap status_due e)))
        | inr same ↦ inl (sym same)
      ]

  cut_off : (d : Result Shown Fault) (shown : Shown) → Ordered d → Is (Ok shown) → IsDueStatus 9 d
  cut_off d shown h is =
      elim (meets d (Ok shown) h is) [
        | inl (inl e) ↦ absurd (cc)
        | inl (inr e) ↦ absurd (cc)
        | inr same ↦ let v = verified_only d same in inr (inr (inl (refl, v.0, v.1)))
      ]

  module _ (out err : SinkRun) where
    complies : (e : Ending) → Ends (Some f) scheme table out err e → Complies (Some f) schemes tables (status_at e)
    complies (Verified shown) h = λ d ordered. follows d (Ok shown) ordered h.answer
    complies (CutOff shown) h = λ d ordered. cut_off d shown ordered h.answer
    complies (Failed fault) h = λ d ordered. follows d (Err fault) ordered h.cause

-- ---- words of another form

module _ (scheme table : SourceRun) where
  usage_cause : (b : Result Shown Fault) → IsAnswerOfRun None scheme table b → status_due b ≡ 4
  usage_cause (Ok shown) h = absurd h
  usage_cause (Err (Front Usage)) h = refl
  usage_cause (Err (Front (Syntax line))) h = absurd h
  usage_cause (Err (Front (Limit which))) h = absurd h
  usage_cause (Err (Front (Names fault))) h = absurd h
  usage_cause (Err (Front (IllSorted rule))) h = absurd h
  usage_cause (Err (Front (NotFirstOrder terminal))) h = absurd h
  usage_cause (Err (Front (SortTooLarge rule))) h = absurd h
  usage_cause (Err (Front (RuleTooLong rule))) h = absurd h
  usage_cause (Err (Front PointLimit)) h = absurd h
  usage_cause (Err (Front FlowLimit)) h = absurd h
  usage_cause (Err (Front EntryLimit)) h = absurd h
  usage_cause (Err (Front Source)) h = absurd h
  usage_cause (Err (Front FileTooLong)) h = absurd h
  usage_cause (Err (Front Sink)) h = absurd h
  usage_cause (Err (Front OutOfMemory)) h = absurd h
  usage_cause (Err TableTooLong) h = absurd h
  usage_cause (Err (TableLine line)) h = absurd h
  usage_cause (Err (Missing entry)) h = absurd h
  usage_cause (Err HasStart) h = absurd h
  usage_cause (Err (NotVoid pair)) h = absurd h
  usage_cause (Err (Instances count)) h = absurd h

  usage_due : (schemes tables : List ℕ → Option (List ℕ)) (d : Result Shown Fault) → IsDue None schemes tables d → status_due d ≡ 4
  usage_due schemes tables (Ok shown) h = absurd h
  usage_due schemes tables (Err (Front Usage)) h = refl
  usage_due schemes tables (Err (Front (Syntax line))) h = absurd h
  usage_due schemes tables (Err (Front (Limit which))) h = absurd h
  usage_due schemes tables (Err (Front (Names fault))) h = absurd h
  usage_due schemes tables (Err (Front (IllSorted rule))) h = absurd h
  usage_due schemes tables (Err (Front (NotFirstOrder terminal))) h = absurd h
  usage_due schemes tables (Err (Front (SortTooLarge rule))) h = absurd h
  usage_due schemes tables (Err (Front (RuleTooLong rule))) h = absurd h
  usage_due schemes tables (Err (Front PointLimit)) h = absurd h
  usage_due schemes tables (Err (Front FlowLimit)) h = absurd h
  usage_due schemes tables (Err (Front EntryLimit)) h = absurd h
  usage_due schemes tables (Err (Front Source)) h = absurd h
  usage_due schemes tables (Err (Front FileTooLong)) h = absurd h
  usage_due schemes tables (Err (Front Sink)) h = absurd h
  usage_due schemes tables (Err (Front OutOfMemory)) h = absurd h
  usage_due schemes tables (Err TableTooLong) h = absurd h
  usage_due schemes tables (Err (TableLine line)) h = absurd h
  usage_due schemes tables (Err (Missing entry)) h = absurd h
  usage_due schemes tables (Err HasStart) h = absurd h
  usage_due schemes tables (Err (NotVoid pair)) h = absurd h
  usage_due schemes tables (Err (Instances count)) h = absurd h

  module _ (out err : SinkRun) where
    usage_ends : (e : Ending) → Ends None scheme table out err e → status_at e ≡ 4
    usage_ends (Verified shown) h = absurd h.answer
    usage_ends (CutOff shown) h = absurd h.answer
    usage_ends (Failed fault) h = usage_cause (Err fault) h.cause

    usage_complies : (schemes tables : List ℕ → Option (List ℕ)) (e : Ending) → Ends None scheme table out err e → Complies None schemes tables (status_at e)
    usage_complies schemes tables e h = λ d ordered. inl (usage_ends e h ∙ sym (usage_due schemes tables d ordered))

-- ---- all rows

rows_of : (files : Option FilePair) (scheme table : SourceRun) (out err : SinkRun) (e : Ending) → Ends files scheme table out err e
    → (status_at e ≢ 8 → IsCalm scheme × IsCalm table) → Rows files scheme table out err (status_at e)
rows_of None scheme table out err e h calm = record {
  ending = e;
  ends = h;
  is = refl;
  usage = λ none. usage_ends scheme table out err e h;
  calm = calm;
  told = usage_complies scheme table out err scheme.file table.file e h;
  handed = usage_complies scheme table out err (λ _. Some scheme.after.given) (λ _. Some table.after.given) e h;
}
rows_of (Some f) scheme table out err e h calm = record {
  ending = e;
  ends = h;
  is = refl;
  usage = λ none. absurd (cc);
  calm = calm;
  told = complies f scheme table scheme.file table.file (shown_told f.scheme scheme) (shown_told f.table table) out err e h;
  handed = complies f scheme table (λ _. Some scheme.after.given) (λ _. Some table.after.given) (shown_handed f.scheme scheme) (shown_handed f.table table) out err e h;
}

pub rows : (files : Option FilePair) (scheme table : SourceRun) (out err : SinkRun) (e : Ending) (status : ℕ) → Ends files scheme table out err e
    → (e ≢ Failed (Front Source) → IsCalm scheme × IsCalm table) → status ≡ status_at e → Rows files scheme table out err status
rows files scheme table out err e status h calm is =
    subst (Rows files scheme table out err) (sym is) (rows_of files scheme table out err e h (λ other. calm (λ same. other (ap status_at same))))

-- ---- status 0

module _ (scheme table : SourceRun) (out err : SinkRun) where
  verified_at : (files : Option FilePair) (e : Ending) → Ends files scheme table out err e → ((shown : Shown) → e ≡ Verified shown → IsAccepted scheme.after.given) → status_at e ≡ 0 → OfBothFiles files scheme table IsVerified
  verified_at None (Verified shown) h accepted zero = absurd h.answer
  verified_at (Some f) (Verified shown) h accepted zero = (record { shown = shown; evidence = h.answer.0; accepted = accepted shown refl }, h.answer.1)
  verified_at files (CutOff shown) h accepted zero = absurd (omega (arith, zero))
  verified_at files (Failed fault) h accepted zero = let k : 1 ≤ status_of fault = faulty fault in absurd (omega (arith, zero, k))

  pub verified : (files : Option FilePair) (e : Ending) (status : ℕ) → Ends files scheme table out err e → ((shown : Shown) → e ≡ Verified shown → IsAccepted scheme.after.given) → status ≡ status_at e → status ≡ 0
      → OfBothFiles files scheme table IsVerified
  verified files e status h accepted is zero = verified_at files e h accepted (sym is ∙ zero)
