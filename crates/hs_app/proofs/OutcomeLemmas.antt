-- What is claimed of a run, from how it ends.
use Rattle.std.proofs.Common.{◌≡◌, ◌≢◌, refl, sym, ◌∙◌, ap, subst, ℕ, ◌<◌, ◌≤◌, Bool, true, List, Option, Some, None, Result, Ok, Err, length, ◌⊎◌, inl, inr, arith}
use Rattle.std.specs.Option.{IsSomeAnd, IfSome}
use Rattle.hs_gen.specs.Cycle.{cycle_file_text}
use Rattle.hs_front.specs.declared.refusal.Refusal.{Refusal}
use Rattle.hs_front.specs.declared.refusal.Refusal.TheVariants.{Usage, Source, FileTooLong, Syntax, Limit, Names, IllSorted, NotFirstOrder, SortTooLarge, RuleTooLong, PointLimit, FlowLimit, EntryLimit, Sink, OutOfMemory}
use Rattle.hs_app.specs.Problems.{Asked}
use Rattle.hs_app.specs.declared.verdict.Decision.{Decision}
use Rattle.hs_app.specs.declared.verdict.Decision.TheVariants.{Accepted, Rejected, Long}
use Rattle.hs_app.specs.declared.verdict.Decided.{Decided}
use Rattle.hs_app.specs.declared.top.Ending.{Ending}
use Rattle.hs_app.specs.declared.top.Ending.TheVariants.{Reported, CutOff, Refused}
use Rattle.hs_front.specs.Refusal.{HasFixedLine, status_of}
use Rattle.hs_front.specs.Files.{max_bytes}
use Rattle.hs_app.specs.Headline.{IsWithinLimits}
use Rattle.hs_app.specs.Verdict.{HasAnswer, Warrants, IsAnsweredWith}
use Rattle.hs_front.specs.Outside.{SourceRun, SinkRun, IsUntouched, IsReadFromFront, IsCalm}
use Rattle.hs_app.specs.Order.{FileOrigin, read_file, generate, Order, bytes_of, IsReadToEnd, IsPart, OfTold}
use Rattle.hs_front.specs.Telling.{IsReadFault}
use Rattle.hs_app.specs.Outcome.{HasCause, IsOfBytes, IsAnswerOfRun, IsDue, IsStatusOf, status_of_verdict, status_at, Ends, Complies, Rows}
use Rattle.hs_front.proofs.ReadLemmas.{whole_bytes, part_bytes}
use Rattle.hs_app.proofs.AnswerLemmas.{Wants, Matches, answer_meets, readable_comes}

-- ---- facts about the bytes of a job's file

-- the same as `OfTold`, where the file need not be told
abbrev pub OfFile : FileOrigin → (List ℕ → Option (List ℕ)) → (List ℕ → Type 0) → Type 0
OfFile (read_file n) file P = IfSome (file n) P
OfFile (generate k) file P = P (cycle_file_text k)

module _ (P Q R : List ℕ → Type 0) (f : (bytes : List ℕ) → P bytes → Q bytes → R bytes) where
  both_of_bytes : (o : Option (List ℕ)) → IsSomeAnd o P → IfSome o Q → IsSomeAnd o R
  both_of_bytes None p q = p
  both_of_bytes (Some bytes) p q = f bytes p q

  -- two facts about the bytes of a told file
  both_of_job : (j : FileOrigin) (file : List ℕ → Option (List ℕ)) → OfTold j file P → OfFile j file Q → OfTold j file R
  both_of_job (read_file n) file p q = both_of_bytes (file n) p q
  both_of_job (generate k) file p q = f (cycle_file_text k) p q

-- what holds whatever the bytes are
always_of_bytes : (R : Type 0) (o : Option (List ℕ)) → IsSomeAnd o (λ _. R) → R
always_of_bytes R None h = absurd h
always_of_bytes R (Some bytes) h = h

always_of_job : (R : Type 0) (j : FileOrigin) (file : List ℕ → Option (List ℕ)) → OfTold j file (λ _. R) → R
always_of_job R (read_file n) file h = always_of_bytes R (file n) h
always_of_job R (generate k) file h = h

-- What was handed out says of these files what it says itself.
pub record IsShownBy (job : FileOrigin) (source : SourceRun) (file : List ℕ → Option (List ℕ)) : Type 1 where
  pub whole : (P : List ℕ → Type 0) → P (bytes_of job source.after.given) → IsReadToEnd job source → OfFile job file P
  pub part : max_bytes < length source.after.given → IsPart job source → OfFile job file (λ bytes. max_bytes < length bytes)

pub shows_told : (job : FileOrigin) (source : SourceRun) → IsShownBy job source source.file
shows_told (read_file n) source = record {
  whole = λ P h read. whole_bytes P source.after.given (source.file n) source.left_after read.told (read.all refl) h;
  part = λ h read. part_bytes max_bytes source.after.given (source.file n) source.left_after read.told h;
}
shows_told (generate k) source = record { whole = λ P h read. h; part = λ h read. absurd read }

pub shows_handed : (job : FileOrigin) (source : SourceRun) → IsShownBy job source (λ _. Some source.after.given)
shows_handed (read_file n) source = record { whole = λ P h read. h; part = λ h read. h }
shows_handed (generate k) source = record { whole = λ P h read. h; part = λ h read. absurd read }

-- ---- the answer of the words and the bytes

-- the answer on the bytes of a job that was read up to its end
pub of_bytes : (o : Order) (source : SourceRun) (r : Result Decided Refusal) → HasAnswer o.asked r (bytes_of o.job source.after.given) → IsReadToEnd o.job source → IsAnswerOfRun (Some o) source r
of_bytes o source (Ok d) h whole = (h, whole)
of_bytes o source (Err Usage) h whole = absurd h.1
of_bytes o source (Err Source) h whole = absurd h.1
of_bytes o source (Err FileTooLong) h whole = absurd h.1
of_bytes o source (Err (Syntax line)) h whole = (h, whole)
of_bytes o source (Err (Limit which)) h whole = (h, whole)
of_bytes o source (Err (Names fault)) h whole = (h, whole)
of_bytes o source (Err (IllSorted rule)) h whole = (h, whole)
of_bytes o source (Err (NotFirstOrder terminal)) h whole = (h, whole)
of_bytes o source (Err (SortTooLarge rule)) h whole = (h, whole)
of_bytes o source (Err (RuleTooLong rule)) h whole = (h, whole)
of_bytes o source (Err PointLimit) h whole = (h, whole)
of_bytes o source (Err FlowLimit) h whole = (h, whole)
of_bytes o source (Err EntryLimit) h whole = (h, whole)
of_bytes o source (Err Sink) h whole = absurd h.1
of_bytes o source (Err OutOfMemory) h whole = inr (inr whole)

-- the answer on the bytes of a slice
pub has_of : (asked : Asked) (r : Result Decided Refusal) (slice bytes given : List ℕ) → slice ≡ bytes → bytes ≡ given → length bytes ≤ max_bytes → IsAnsweredWith asked slice r → HasAnswer asked r given
has_of asked r slice bytes given e f short h = subst (λ (b : List ℕ). HasAnswer asked r b) (e ∙ f) (subst (λ (b : List ℕ). length b ≤ max_bytes) (sym e) short, h)

-- a file that wasn't read whole
pub of_fault : (name : List ℕ) (asked : Asked) (source : SourceRun) (r : Refusal) → IsReadFault max_bytes name source r
    → IsAnswerOfRun (Some (record { job = read_file name; asked = asked })) source (Err r)
of_fault name asked source Source h = h
of_fault name asked source FileTooLong h = h
of_fault name asked source OutOfMemory h = inr (inl h)
of_fault name asked source Usage h = absurd h
of_fault name asked source (Syntax line) h = absurd h
of_fault name asked source (Limit which) h = absurd h
of_fault name asked source (Names fault) h = absurd h
of_fault name asked source (IllSorted rule) h = absurd h
of_fault name asked source (NotFirstOrder terminal) h = absurd h
of_fault name asked source (SortTooLarge rule) h = absurd h
of_fault name asked source (RuleTooLong rule) h = absurd h
of_fault name asked source PointLimit h = absurd h
of_fault name asked source FlowLimit h = absurd h
of_fault name asked source EntryLimit h = absurd h
of_fault name asked source Sink h = absurd h

-- a file that was
pub of_whole : (name : List ℕ) (asked : Asked) (source : SourceRun) (r : Result Decided Refusal) → HasAnswer asked r source.after.given → IsReadFromFront source true name
    → IsAnswerOfRun (Some (record { job = read_file name; asked = asked })) source r
of_whole name asked source r h read = of_bytes (record { job = read_file name; asked = asked }) source r h read

-- the answer on the bytes of a generated file, of which the source knows nothing
pub of_cycle : (k : ℕ) (asked : Asked) (source : SourceRun) (r : Result Decided Refusal) → IsUntouched source → HasAnswer asked r (cycle_file_text k)
    → IsAnswerOfRun (Some (record { job = generate k; asked = asked })) source r
of_cycle k asked source r same h = of_bytes (record { job = generate k; asked = asked }) source r h same

-- want of memory in the place of a refusal on bytes
memory_too : (order : Option Order) (source : SourceRun) (r : Refusal) → IsOfBytes order source (Err r) → HasCause order source OutOfMemory
memory_too None source r h = absurd h
memory_too (Some o) source r h = inr (inr h.1)

-- want of memory in the place of another refusal
pub any_cause : (order : Option Order) (source : SourceRun) (r : Refusal) → HasCause order source r → (HasFixedLine r → ⊥) → HasCause order source OutOfMemory
any_cause order source Usage h changes = absurd (changes tt)
any_cause order source Source h changes = absurd (changes tt)
any_cause order source FileTooLong h changes = absurd (changes tt)
any_cause order source (Syntax line) h changes = memory_too order source (Syntax line) h
any_cause order source (Limit which) h changes = absurd (changes tt)
any_cause order source (Names fault) h changes = memory_too order source (Names fault) h
any_cause order source (IllSorted rule) h changes = memory_too order source (IllSorted rule) h
any_cause order source (NotFirstOrder terminal) h changes = memory_too order source (NotFirstOrder terminal) h
any_cause order source (SortTooLarge rule) h changes = memory_too order source (SortTooLarge rule) h
any_cause order source (RuleTooLong rule) h changes = memory_too order source (RuleTooLong rule) h
any_cause order source PointLimit h changes = absurd (changes tt)
any_cause order source FlowLimit h changes = absurd (changes tt)
any_cause order source EntryLimit h changes = absurd (changes tt)
any_cause order source Sink h changes = absurd h
any_cause order source OutOfMemory h changes = h

-- ---- what is due, and what is answered

-- a failure, which nothing of the words and the bytes brings
abbrev IsFailure : Result Decided Refusal → Type 0
IsFailure b = (b ≡ Err Source) ⊎ Wants b

abbrev pub status_due : Result Decided Refusal → ℕ
status_due (Ok decided) = status_of_verdict decided.verdict
status_due (Err refusal) = status_of refusal

-- a file that is too long warrants that alone
long_only : (asked : Asked) (bytes : List ℕ) (d : Result Decision Refusal) → max_bytes < length bytes → Warrants asked d bytes → d ≡ Err FileTooLong
long_only asked bytes (Ok v) l h = absurd (omega (arith, l, h.0))
long_only asked bytes (Err Usage) l h = absurd h
long_only asked bytes (Err Source) l h = absurd h
long_only asked bytes (Err Sink) l h = absurd h
long_only asked bytes (Err OutOfMemory) l h = absurd h
long_only asked bytes (Err FileTooLong) l h = refl
long_only asked bytes (Err (Syntax line)) l h = absurd (omega (arith, l, h.0))
long_only asked bytes (Err (Limit which)) l h = absurd (omega (arith, l, h.0))
long_only asked bytes (Err (Names fault)) l h = absurd (omega (arith, l, h.0))
long_only asked bytes (Err (IllSorted rule)) l h = absurd (omega (arith, l, h.0))
long_only asked bytes (Err (NotFirstOrder terminal)) l h = absurd (omega (arith, l, h.0))
long_only asked bytes (Err (SortTooLarge rule)) l h = absurd (omega (arith, l, h.0))
long_only asked bytes (Err (RuleTooLong rule)) l h = absurd (omega (arith, l, h.0))
long_only asked bytes (Err PointLimit) l h = absurd (omega (arith, l, h.0))
long_only asked bytes (Err FlowLimit) l h = absurd (omega (arith, l, h.0))
long_only asked bytes (Err EntryLimit) l h = absurd (omega (arith, l, h.0))

-- the statuses of an answer that the warrant allows
status_matches : (d : Result Decision Refusal) (b : Result Decided Refusal) → Matches d b → IsStatusOf d (status_due b)
status_matches (Ok Accepted) (Ok x) h = ap status_of_verdict h
status_matches (Ok Rejected) (Ok x) (inl e) = inl (ap status_of_verdict e)
status_matches (Ok Rejected) (Ok x) (inr e) = inr (ap status_of_verdict e)
status_matches (Ok Long) (Ok x) h = absurd h
status_matches (Ok Accepted) (Err r) h = absurd h
status_matches (Ok Rejected) (Err r) h = absurd h
status_matches (Ok Long) (Err r) h = absurd h
status_matches (Err r) (Ok x) h = absurd h
status_matches (Err r) (Err s) h = ap status_of (sym h)

verdict_matches : (d : Result Decision Refusal) (x : Decided) → Matches d (Ok x) → (v : Decision) × (d ≡ Ok v)
verdict_matches (Ok v) x h = (v, refl)
verdict_matches (Err r) x h = absurd h

verdict_status : (v : Decision) → status_of_verdict v ≤ 2
verdict_status Accepted = omega arith
verdict_status Rejected = omega arith
verdict_status Long = omega arith

abbrev IsDueStatus : ℕ → Result Decision Refusal → Type 0
IsDueStatus status d = IsStatusOf d status ⊎ ((status ≡ 8) ⊎ (((status ≡ 9) × (v : Decision) × (d ≡ Ok v)) ⊎ (status ≡ 10)))

abbrev Completes : ℕ → Type 0
Completes status = (status ≤ 3) ⊎ ((status ≡ 8) ⊎ ((status ≡ 9) ⊎ (status ≡ 10)))

module _ (o : Order) (source : SourceRun) (file : List ℕ → Option (List ℕ)) (shows : IsShownBy o.job source file) where
  abbrev Told : (List ℕ → Type 0) → Type 0
  Told P = OfTold o.job file P

  abbrev InFile : (List ℕ → Type 0) → Type 0
  InFile P = OfFile o.job file P

  abbrev Is : Result Decided Refusal → Type 0
  Is b = IsAnswerOfRun (Some o) source b

  due_told : (d : Result Decision Refusal) → IsDue (Some o) file d → Told (Warrants o.asked d)
  due_told (Ok v) h = h
  due_told (Err Usage) h = absurd (cc)
  due_told (Err Source) h = h
  due_told (Err Sink) h = h
  due_told (Err OutOfMemory) h = h
  due_told (Err FileTooLong) h = h
  due_told (Err (Syntax line)) h = h
  due_told (Err (Limit which)) h = h
  due_told (Err (Names fault)) h = h
  due_told (Err (IllSorted rule)) h = h
  due_told (Err (NotFirstOrder terminal)) h = h
  due_told (Err (SortTooLarge rule)) h = h
  due_told (Err (RuleTooLong rule)) h = h
  due_told (Err PointLimit) h = h
  due_told (Err FlowLimit) h = h
  due_told (Err EntryLimit) h = h

  -- why something is answered
  abbrev Why : Result Decided Refusal → Type 0
  Why b = IsFailure b ⊎ (((b ≡ Err FileTooLong) × InFile (λ bytes. max_bytes < length bytes)) ⊎ InFile (HasAnswer o.asked b))

  by_bytes : (b : Result Decided Refusal) → HasAnswer o.asked b (bytes_of o.job source.after.given) × IsReadToEnd o.job source → Why b
  by_bytes b h = inr (inr (shows.whole (HasAnswer o.asked b) h.0 h.1))

  pub why : (b : Result Decided Refusal) → Is b → Why b
  why (Ok x) h = by_bytes (Ok x) h
  why (Err Usage) h = let e = h.0 in absurd (cc)
  why (Err Source) h = inl (inl refl)
  why (Err FileTooLong) h = inr (inl (refl, shows.part h.0 h.1))
  why (Err (Syntax line)) h = by_bytes (Err (Syntax line)) h
  why (Err (Limit which)) h = by_bytes (Err (Limit which)) h
  why (Err (Names fault)) h = by_bytes (Err (Names fault)) h
  why (Err (IllSorted rule)) h = by_bytes (Err (IllSorted rule)) h
  why (Err (NotFirstOrder terminal)) h = by_bytes (Err (NotFirstOrder terminal)) h
  why (Err (SortTooLarge rule)) h = by_bytes (Err (SortTooLarge rule)) h
  why (Err (RuleTooLong rule)) h = by_bytes (Err (RuleTooLong rule)) h
  why (Err PointLimit) h = by_bytes (Err PointLimit) h
  why (Err FlowLimit) h = by_bytes (Err FlowLimit) h
  why (Err EntryLimit) h = by_bytes (Err EntryLimit) h
  why (Err Sink) h = absurd h
  why (Err OutOfMemory) h = inl (inr refl)

  abbrev Meet : Result Decision Refusal → Result Decided Refusal → Type 0
  Meet d b = IsFailure b ⊎ Matches d b

  meet_long : (d : Result Decision Refusal) (b : Result Decided Refusal) → b ≡ Err FileTooLong → (bytes : List ℕ) → Warrants o.asked d bytes → max_bytes < length bytes → Meet d b
  meet_long d b e bytes w l =
      inr (subst (λ (x : Result Decided Refusal). Matches d x) (sym e)
      (subst (λ (x : Result Decision Refusal). Matches x (Err FileTooLong)) (sym (long_only o.asked bytes d l w)) refl))

  meet_bytes : (d : Result Decision Refusal) (b : Result Decided Refusal) (bytes : List ℕ) → Warrants o.asked d bytes → HasAnswer o.asked b bytes → Meet d b
  meet_bytes d b bytes w h =
      elim (answer_meets o.asked bytes d b w h) [
        | inl wants ↦ inl (inr wants)
        | inr matches ↦ inr matches
      ]

  -- what is due is answered, unless reading or memory fails
  meets : (d : Result Decision Refusal) (b : Result Decided Refusal) → IsDue (Some o) file d → Is b → Meet d b
  meets d b due h =
      let w = due_told d due in
      elim (why b h) [
        | inl fails ↦ inl fails
        | inr (inl (e, long)) ↦
            always_of_job (Meet d b) o.job file (both_of_job (Warrants o.asked d) (λ bytes. max_bytes < length bytes) (λ _. Meet d b) (meet_long d b e) o.job file w long)
        | inr (inr has) ↦
            always_of_job (Meet d b) o.job file (both_of_job (Warrants o.asked d) (HasAnswer o.asked b) (λ _. Meet d b) (meet_bytes d b) o.job file w has)
      ]

  -- from the answer to its status
  follows : (d : Result Decision Refusal) (b : Result Decided Refusal) → IsDue (Some o) file d → Is b → IsDueStatus (status_due b) d
  follows d b due h =
      elim (meets d b due h) [
        | inl (inl e) ↦ inr (inl (ap status_due e))
        | inl (inr e) ↦ inr (inr (inr (ap status_due e)))
        | inr matches ↦ inl (status_matches d b matches)
      ]

  cut_off : (d : Result Decision Refusal) (x : Decided) → IsDue (Some o) file d → Is (Ok x) → IsDueStatus 9 d
  cut_off d x due h =
      elim (meets d (Ok x) due h) [
        | inl (inl e) ↦ absurd (cc)
        | inl (inr e) ↦ absurd (cc)
        | inr matches ↦ let v = verdict_matches d x matches in inr (inr (inl (refl, v.0, v.1)))
      ]

  -- a readable file has a verdict, or too many entries
  abbrev Comes_to : Result Decided Refusal → Type 0
  Comes_to b = IsFailure b ⊎ (((x : Decided) × (b ≡ Ok x)) ⊎ (b ≡ Err EntryLimit))

  of_readable : (b : Result Decided Refusal) (bytes : List ℕ) → IsWithinLimits o.asked bytes → HasAnswer o.asked b bytes → Comes_to b
  of_readable b bytes r h =
      elim (readable_comes o.asked bytes b r h) [
        | inl wants ↦ inl (inr wants)
        | inr comes ↦ inr comes
      ]

  readable_has : (b : Result Decided Refusal) → Told (IsWithinLimits o.asked) → Is b → Comes_to b
  readable_has b r h =
      elim (why b h) [
        | inl fails ↦ inl fails
        | inr (inl (e, long)) ↦
            absurd (always_of_job ⊥ o.job file (both_of_job (IsWithinLimits o.asked) (λ bytes. max_bytes < length bytes) (λ _. ⊥) (λ bytes q l. omega (arith, q.short, l)) o.job file r long))
        | inr (inr has) ↦
            always_of_job (Comes_to b) o.job file (both_of_job (IsWithinLimits o.asked) (HasAnswer o.asked b) (λ _. Comes_to b) (of_readable b) o.job file r has)
      ]

  completes : (b : Result Decided Refusal) → Told (IsWithinLimits o.asked) → Is b → Completes (status_due b)
  completes b r h =
      elim (readable_has b r h) [
        | inl (inl e) ↦ inr (inl (ap status_due e))
        | inl (inr e) ↦ inr (inr (inr (ap status_due e)))
        | inr (inl (x, e)) ↦ inl (subst (λ (y : Result Decided Refusal). status_due y ≤ 3) (sym e) (omega (arith, verdict_status x.verdict)))
        | inr (inr e) ↦ inl (subst (λ (y : Result Decided Refusal). status_due y ≤ 3) (sym e) (omega arith))
      ]

  module _ (mentioned : Bool) (out err : SinkRun) where
    complies : (e : Ending) → Ends mentioned (Some o) source out err e → Complies (Some o) file (status_at e)
    complies (Reported x) h = record { due = λ d due. follows d (Ok x) due h.answer; complete = λ r. completes (Ok x) r h.answer }
    complies (CutOff x) h = record { due = λ d due. cut_off d x due h.answer; complete = λ r. inr (inr (inl refl)) }
    complies (Refused s) h = record { due = λ d due. follows d (Err s) due h.cause; complete = λ r. completes (Err s) r h.cause }

-- ---- words that are refused

module _ (source : SourceRun) where
  no_order : (b : Result Decided Refusal) → IsAnswerOfRun None source b → (b ≡ Err Usage) ⊎ Wants b
  no_order (Ok x) h = absurd h
  no_order (Err Usage) h = inl refl
  no_order (Err Source) h = absurd h
  no_order (Err FileTooLong) h = absurd h
  no_order (Err (Syntax line)) h = absurd h
  no_order (Err (Limit which)) h = absurd h
  no_order (Err (Names fault)) h = absurd h
  no_order (Err (IllSorted rule)) h = absurd h
  no_order (Err (NotFirstOrder terminal)) h = absurd h
  no_order (Err (SortTooLarge rule)) h = absurd h
  no_order (Err (RuleTooLong rule)) h = absurd h
  no_order (Err PointLimit) h = absurd h
  no_order (Err FlowLimit) h = absurd h
  no_order (Err EntryLimit) h = absurd h
  no_order (Err Sink) h = absurd h
  no_order (Err OutOfMemory) h = inr refl

  usage_only : (file : List ℕ → Option (List ℕ)) (d : Result Decision Refusal) → IsDue None file d → d ≡ Err Usage
  usage_only file (Ok v) h = absurd h
  usage_only file (Err Usage) h = refl
  usage_only file (Err Source) h = absurd h
  usage_only file (Err FileTooLong) h = absurd h
  usage_only file (Err (Syntax line)) h = absurd h
  usage_only file (Err (Limit which)) h = absurd h
  usage_only file (Err (Names fault)) h = absurd h
  usage_only file (Err (IllSorted rule)) h = absurd h
  usage_only file (Err (NotFirstOrder terminal)) h = absurd h
  usage_only file (Err (SortTooLarge rule)) h = absurd h
  usage_only file (Err (RuleTooLong rule)) h = absurd h
  usage_only file (Err PointLimit) h = absurd h
  usage_only file (Err FlowLimit) h = absurd h
  usage_only file (Err EntryLimit) h = absurd h
  usage_only file (Err Sink) h = absurd h
  usage_only file (Err OutOfMemory) h = absurd h

  module _ (mentioned : Bool) (out err : SinkRun) where
    refused_status : (e : Ending) → Ends mentioned None source out err e → (status_at e ≡ 4) ⊎ (status_at e ≡ 10)
    refused_status (Reported x) h = absurd h.answer
    refused_status (CutOff x) h = absurd h.answer
    refused_status (Refused s) h =
        elim (no_order (Err s) h.cause) [
          | inl e ↦ inl (ap status_due e)
          | inr e ↦ inr (ap status_due e)
        ]

    no_order_complies : (file : List ℕ → Option (List ℕ)) (e : Ending) → Ends mentioned None source out err e → Complies None file (status_at e)
    no_order_complies file e h = record {
      due = λ d due. subst (λ (x : Result Decision Refusal). IsDueStatus (status_at e) x) (sym (usage_only file d due)) (elim (refused_status e h) [
        | inl is ↦ inl is
        | inr is ↦ inr (inr (inr is))
      ]);
      complete = λ r. absurd r;
    }

-- ---- all rows

abbrev HasRows : Bool → Option Order → SourceRun → SinkRun → SinkRun → Ending → Type 0
HasRows mentioned order source out err e = Rows mentioned order source out err (status_at e)

rows_of : (mentioned : Bool) (order : Option Order) (source : SourceRun) (out err : SinkRun) (e : Ending) → Ends mentioned order source out err e → (status_at e ≢ 8 → IsCalm source) → HasRows mentioned order source out err e
rows_of mentioned None source out err e h calm = record {
  ending = e;
  ends = h;
  is = refl;
  usage = λ none. refused_status source mentioned out err e h;
  calm = calm;
  told = no_order_complies source mentioned out err source.file e h;
  handed = no_order_complies source mentioned out err (λ _. Some source.after.given) e h;
}
rows_of mentioned (Some o) source out err e h calm = record {
  ending = e;
  ends = h;
  is = refl;
  usage = λ none. absurd (cc);
  calm = calm;
  told = complies o source source.file (shows_told o.job source) mentioned out err e h;
  handed = complies o source (λ _. Some source.after.given) (shows_handed o.job source) mentioned out err e h;
}

pub rows : (mentioned : Bool) (order : Option Order) (source : SourceRun) (out err : SinkRun) (e : Ending) (status : ℕ)
    → Ends mentioned order source out err e
    → (e ≢ Refused Source → IsCalm source)
    → status ≡ status_at e
    → Rows mentioned order source out err status
rows mentioned order source out err e status h calm is =
    subst (Rows mentioned order source out err) (sym is) (rows_of mentioned order source out err e h (λ other. calm (λ same. other (ap status_at same))))
