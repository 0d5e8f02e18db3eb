-- From the calls to what a run comes to.
use Rattle.std.proofs.Common.{◌≡◌, sym, ◌∙◌, ap, subst, ℕ, ◌+◌, ◌<◌, ◌≤◌, true, List, length, slice_get, Option, Some, None, Result, Ok, Err, ◌⊎◌, inl, inr, Vec, arith}
use Rattle.std.specs.Prelude.{MatchResult, OnOk}
use Rattle.std.specs.Option.{IsSomeAnd}
use Rattle.std.proofs.lemmas.Option.{slice_get_within}
use Rattle.std.specs.declared.alloc.Global.{Global}
use Rattle.hs_scheme.specs.Problem.{ProblemData}
use Rattle.hs_table.specs.Entries.{EntryData}
use Rattle.hs_weak.specs.Void.{VoidData}
use Rattle.hs_certificate_checker.specs.Faults.{IsFirstNotVoid}
use Rattle.hs_text.specs.Report.{entry_line, void_line}
use Rattle.hs_cert.specs.declared.table.Cert.{Cert}
use Rattle.hs_cert.specs.declared.table.Cert.TheVariants as cert
use Rattle.hs_cert.specs.Certificate.{IsLine, IsCertificate, IsCompactCertificate, IsCert, pair_text}
use Rattle.hs_cert.proofs.PairLines.{compact_pair_line}
use Rattle.hs_front.specs.declared.refusal.Refusal.{Refusal}
use Rattle.hs_front.specs.declared.refusal.Refusal.TheVariants.{Usage, Source, FileTooLong, Syntax, Limit, Names, IllSorted, NotFirstOrder, SortTooLarge, RuleTooLong, PointLimit, FlowLimit, EntryLimit, Sink, OutOfMemory}
use Rattle.hs_front.specs.Files.{max_bytes}
use Rattle.hs_front.specs.Yields.{Yields}
use Rattle.hs_front.specs.Outside.{SourceRun, SinkRun, IsUntouched, IsReadFromFront, HasTakenOrFailed, HasTakenNothing}
use Rattle.hs_front.specs.Telling.{IsReadWhole, IsReadFault}
use Rattle.hs_check.specs.declared.fault.Fault.{Fault}
use Rattle.hs_check.specs.declared.fault.Fault.TheVariants.{Front, TableTooLong, TableLine, Missing, HasStart, NotVoid, Instances}
use Rattle.hs_check.specs.declared.verified.Shown.{Shown}
use Rattle.hs_check.specs.Words.{FilePair}
use Rattle.hs_check.specs.Fault.{no_memory, table_fault, line_of, HasFixedLine}
use Rattle.hs_check.specs.Evidence.{max_table, TellsMissing, TellsNotVoid, TableShows, CompactShows, CertShows, OwnReads, OfCertificate, OfCompact, TextShows, ComesTo}
use Rattle.hs_check.specs.Outcome.{OfBothFiles, HasCause, IsAnswerOfRun, TellsFault, IsUnverified}

-- ---- the file of the scheme

module _ (name other : List ℕ) (scheme table : SourceRun) (none : IsUntouched table) where
  abbrev Causes : Refusal → Type 0
  Causes r = HasCause (Some (record { scheme = name; table = other })) scheme table (Front r)

  pub scheme_unread : (r : Refusal) → IsReadFault max_bytes name scheme r → Causes r
  scheme_unread Source h = inl (h, none)
  scheme_unread FileTooLong h = (h, none)
  scheme_unread OutOfMemory h = inl (inl (h, none))
  scheme_unread Usage h = absurd h
  scheme_unread Sink h = absurd h
  scheme_unread (Syntax line) h = absurd h
  scheme_unread (Limit which) h = absurd h
  scheme_unread (Names fault) h = absurd h
  scheme_unread (IllSorted rule) h = absurd h
  scheme_unread (NotFirstOrder terminal) h = absurd h
  scheme_unread (SortTooLarge rule) h = absurd h
  scheme_unread (RuleTooLong rule) h = absurd h
  scheme_unread PointLimit h = absurd h
  scheme_unread FlowLimit h = absurd h
  scheme_unread EntryLimit h = absurd h

  module _ (read : IsReadFromFront scheme true name) (short : length scheme.after.given ≤ max_bytes) where
    refused : (r : Refusal) → Yields scheme.after.given (Err r) → Causes r
    refused Usage h = absurd h.1
    refused Source h = absurd h.1
    refused FileTooLong h = absurd (omega (arith, h, short))
    refused Sink h = absurd h.1
    refused OutOfMemory h = absurd h
    refused (Syntax line) h = (h, (read, none))
    refused (Limit which) h = (h, (read, none))
    refused (Names fault) h = (h, (read, none))
    refused (IllSorted rule) h = (h, (read, none))
    refused (NotFirstOrder terminal) h = (h, (read, none))
    refused (SortTooLarge rule) h = (h, (read, none))
    refused (RuleTooLong rule) h = (h, (read, none))
    refused PointLimit h = (h, (read, none))
    refused FlowLimit h = (h, (read, none))
    refused EntryLimit h = (h, (read, none))

    of_yield : (r : Refusal) → (r ≡ OutOfMemory) ⊎ Yields scheme.after.given (Err r) → Causes r
    of_yield r (inl e) = subst Causes (sym e) (inr (inl (read, none)))
    of_yield r (inr h) = refused r h

-- the bytes of the slice are those that were handed out
given_yields : (scheme : SourceRun) (slice bytes : List ℕ) (r : Refusal) → slice ≡ bytes → bytes ≡ scheme.after.given → (r ≡ OutOfMemory) ⊎ Yields slice (Err r) → (r ≡ OutOfMemory) ⊎ Yields scheme.after.given (Err r)
given_yields scheme slice bytes r e f h = subst (λ (b : List ℕ). (r ≡ OutOfMemory) ⊎ Yields b (Err r)) f (subst (λ (b : List ℕ). (r ≡ OutOfMemory) ⊎ Yields b (Err r)) e h)

pub scheme_refused : (name : List ℕ) (scheme : SourceRun) (slice bytes : List ℕ) → slice ≡ bytes → IsReadWhole max_bytes name scheme bytes → (r : Refusal) → (r ≡ OutOfMemory) ⊎ Yields slice (Err r)
    → (other : List ℕ) (table : SourceRun) → IsUntouched table → HasCause (Some (record { scheme = name; table = other })) scheme table (Front r)
scheme_refused name scheme slice bytes e whole r h other table none =
    of_yield name other scheme table none whole.read (subst (λ (b : List ℕ). length b ≤ max_bytes) whole.given whole.within) r
    (given_yields scheme slice bytes r e whole.given h)

pub scheme_answered : (name : List ℕ) (scheme : SourceRun) (slice bytes : List ℕ) → slice ≡ bytes → IsReadWhole max_bytes name scheme bytes → (r : Result ProblemData Refusal)
    → MatchResult r (λ p. Yields slice (Ok p)) (λ x. (x ≡ OutOfMemory) ⊎ Yields slice (Err x))
    → MatchResult r (λ p. Yields scheme.after.given (Ok p) × IsReadFromFront scheme true name)
    (λ x. (other : List ℕ) (table : SourceRun) → IsUntouched table → HasCause (Some (record { scheme = name; table = other })) scheme table (Front x))
scheme_answered name scheme slice bytes e whole (Ok p) h =
    (subst (λ (b : List ℕ). Yields b (Ok p)) whole.given (subst (λ (b : List ℕ). Yields b (Ok p)) e h), whole.read)
scheme_answered name scheme slice bytes e whole (Err x) h = scheme_refused name scheme slice bytes e whole x h

-- ---- the file of the table

-- no certificate shows these
front_shows : {p : ProblemData} {bytes : List ℕ} {r : Refusal} → OfCertificate p bytes (Err (Front r)) ⊎ OfCompact p bytes (Err (Front r)) → ⊥
front_shows (inl h) = h.shows
front_shows (inr h) = h.shows.1.1

long_shows : {p : ProblemData} {bytes : List ℕ} → OfCertificate p bytes (Err TableTooLong) ⊎ OfCompact p bytes (Err TableTooLong) → ⊥
long_shows (inl h) = h.shows
long_shows (inr h) = h.shows.1.1

module _ (p : ProblemData) (other name : List ℕ) (scheme table : SourceRun) (yields : Yields scheme.after.given (Ok p)) (before : IsReadFromFront scheme true other) where
  abbrev Comes : Result Shown Fault → Type 0
  Comes a = IsAnswerOfRun (Some (record { scheme = other; table = name })) scheme table a

  pub table_unread : (r : Refusal) → IsReadFault max_table name table r → Comes (Err (table_fault r))
  table_unread Source h = inr (((p, yields), before), h)
  table_unread FileTooLong h = (((p, yields), before), h)
  table_unread OutOfMemory h = inl (inr (((p, yields), before), h))
  table_unread Usage h = absurd h
  table_unread Sink h = absurd h
  table_unread (Syntax line) h = absurd h
  table_unread (Limit which) h = absurd h
  table_unread (Names fault) h = absurd h
  table_unread (IllSorted rule) h = absurd h
  table_unread (NotFirstOrder terminal) h = absurd h
  table_unread (SortTooLarge rule) h = absurd h
  table_unread (RuleTooLong rule) h = absurd h
  table_unread PointLimit h = absurd h
  table_unread FlowLimit h = absurd h
  table_unread EntryLimit h = absurd h

  module _ (read : IsReadFromFront table true name) (short : length table.after.given ≤ max_table) where
    answered : (a : Result Shown Fault) → TextShows p table.after.given a → Comes a
    answered (Ok shown) h = (record { problem = p; yields = yields; answers = (short, h) }, (before, read))
    answered (Err (Front refusal)) h = absurd (front_shows h)
    answered (Err TableTooLong) h = absurd (long_shows h)
    answered (Err (TableLine line)) h = (record { problem = p; yields = yields; answers = (short, h) }, (before, read))
    answered (Err (Missing entry)) h = (record { problem = p; yields = yields; answers = (short, h) }, (before, read))
    answered (Err HasStart) h = (record { problem = p; yields = yields; answers = (short, h) }, (before, read))
    answered (Err (NotVoid pair)) h = (record { problem = p; yields = yields; answers = (short, h) }, (before, read))
    answered (Err (Instances count)) h = (record { problem = p; yields = yields; answers = (short, h) }, (before, read))

    of_answer : (a : Result Shown Fault) → (a ≡ Err no_memory) ⊎ TextShows p table.after.given a → Comes a
    of_answer a (inl e) = subst Comes (sym e) (inr (inr (((p, yields), before), read)))
    of_answer a (inr h) = answered a h

given_answers : (p : ProblemData) (table : SourceRun) (slice bytes : List ℕ) (a : Result Shown Fault) → slice ≡ bytes → bytes ≡ table.after.given → (a ≡ Err no_memory) ⊎ TextShows p slice a → (a ≡ Err no_memory) ⊎ TextShows p table.after.given a
given_answers p table slice bytes a e f h = subst (λ (b : List ℕ). (a ≡ Err no_memory) ⊎ TextShows p b a) f (subst (λ (b : List ℕ). (a ≡ Err no_memory) ⊎ TextShows p b a) e h)

pub table_answered : (p : ProblemData) (name : List ℕ) (table : SourceRun) (slice bytes : List ℕ) → slice ≡ bytes → IsReadWhole max_table name table bytes → (a : Result Shown Fault) → (a ≡ Err no_memory) ⊎ TextShows p slice a
    → (other : List ℕ) (scheme : SourceRun) → Yields scheme.after.given (Ok p) → IsReadFromFront scheme true other → IsAnswerOfRun (Some (record { scheme = other; table = name })) scheme table a
table_answered p name table slice bytes e whole a h other scheme yields before =
    of_answer p other name scheme table yields before whole.read (subst (λ (b : List ℕ). length b ≤ max_table) whole.given whole.within) a
    (given_answers p table slice bytes a e whole.given h)

-- ---- what a table shows

abbrev failing : Fault → Result Shown Fault
failing f = Err f

-- from an entry that is missing, and a pair that isn't void, to what is told
pub told_missing : (p : ProblemData) (e : EntryData) (P : Result Shown Fault → Type 0) → ((entry : Vec ℕ Global) → entry.items ≡ entry_line p e → P (failing (Missing entry))) → (f : Fault) → (f ≡ no_memory) ⊎ TellsMissing p e f
    → (failing f ≡ failing no_memory) ⊎ P (failing f)
told_missing p e P shows f (inl is) = inl (ap failing is)
told_missing p e P shows (Missing entry) (inr h) = inr (shows entry h)
told_missing p e P shows (Front refusal) (inr h) = absurd h
told_missing p e P shows TableTooLong (inr h) = absurd h
told_missing p e P shows (TableLine line) (inr h) = absurd h
told_missing p e P shows HasStart (inr h) = absurd h
told_missing p e P shows (NotVoid pair) (inr h) = absurd h
told_missing p e P shows (Instances count) (inr h) = absurd h

pub told_not_void : (p : ProblemData) (v : VoidData) (P : Result Shown Fault → Type 0) → ((pair : Vec ℕ Global) → pair.items ≡ void_line p v → P (failing (NotVoid pair))) → (f : Fault) → (f ≡ no_memory) ⊎ TellsNotVoid p v f
    → (failing f ≡ failing no_memory) ⊎ P (failing f)
told_not_void p v P shows f (inl is) = inl (ap failing is)
told_not_void p v P shows (NotVoid pair) (inr h) = inr (shows pair h)
told_not_void p v P shows (Front refusal) (inr h) = absurd h
told_not_void p v P shows TableTooLong (inr h) = absurd h
told_not_void p v P shows (TableLine line) (inr h) = absurd h
told_not_void p v P shows (Missing entry) (inr h) = absurd h
told_not_void p v P shows HasStart (inr h) = absurd h
told_not_void p v P shows (Instances count) (inr h) = absurd h

-- the first pair that isn't void stands in the list, and on a line
pub first_item : (p : ProblemData) (table : List EntryData) (void : List VoidData) (place : ℕ) → IsFirstNotVoid p table void place → (v : VoidData) × (slice_get void place ≡ Some v)
first_item p table void place (inl f) = (f.item, f.at)
first_item p table void place (inr h) = (h.1.item, h.1.at)

module _ (p : ProblemData) (bytes : List ℕ) (table : List EntryData) (void : List VoidData) (text : IsCompactCertificate p bytes table void) (place : ℕ) (first : IsFirstNotVoid p table void place) (entries number : ℕ) (count : entries ≡ length table)
    (is : number ≡ 3 + entries + place) where
  abbrev pub told_pair : VoidData
  told_pair = (first_item p table void place first).0

  pub pair_at : slice_get void place ≡ Some told_pair
  pair_at = (first_item p table void place first).1

  pub told_line : IsLine bytes number (pair_text p told_pair)
  told_line =
      subst (λ n. IsLine bytes n (pair_text p told_pair)) (ap (λ n. 3 + n + place) (sym count) ∙ sym is)
      (compact_pair_line p bytes table void text place told_pair pair_at)

pub first_within : (p : ProblemData) (table : List EntryData) (void : List VoidData) (place : ℕ) → IsFirstNotVoid p table void place → place < length void
first_within p table void place (inl f) = slice_get_within void place f.item f.at
first_within p table void place (inr h) = slice_get_within void place h.1.item h.1.at

-- ---- what a certificate shows

module _ (p : ProblemData) (bytes : List ℕ) where
  full : (table : List EntryData) (checked : ℕ) → IsCertificate p bytes table checked → (a : Result Shown Fault) → TableShows p table checked a → TextShows p bytes a
  full table checked certificate (Ok shown) h = inl (record { table = table; checked = checked; certificate = certificate; shows = h })
  full table checked certificate (Err (Front refusal)) h = absurd h
  full table checked certificate (Err TableTooLong) h = absurd h
  full table checked certificate (Err (TableLine line)) h = absurd h
  full table checked certificate (Err (Missing entry)) h = inl (record { table = table; checked = checked; certificate = certificate; shows = h })
  full table checked certificate (Err HasStart) h = inl (record { table = table; checked = checked; certificate = certificate; shows = h })
  full table checked certificate (Err (NotVoid pair)) h = absurd h
  full table checked certificate (Err (Instances count)) h = inl (record { table = table; checked = checked; certificate = certificate; shows = h })

  compact : (table : List EntryData) (void : List VoidData) → IsCompactCertificate p bytes table void → (a : Result Shown Fault) → OwnReads p (λ reads. CompactShows p table void reads a) → TextShows p bytes a
  compact table void certificate (Ok shown) h = inr (record { table = table; void = void; certificate = certificate; shows = h })
  compact table void certificate (Err (Front refusal)) h = absurd h.1.1
  compact table void certificate (Err TableTooLong) h = absurd h.1.1
  compact table void certificate (Err (TableLine line)) h = absurd h.1.1
  compact table void certificate (Err (Missing entry)) h = inr (record { table = table; void = void; certificate = certificate; shows = h })
  compact table void certificate (Err HasStart) h = inr (record { table = table; void = void; certificate = certificate; shows = h })
  compact table void certificate (Err (NotVoid pair)) h = inr (record { table = table; void = void; certificate = certificate; shows = h })
  compact table void certificate (Err (Instances count)) h = inr (record { table = table; void = void; certificate = certificate; shows = h })

  pub certificate_answers : (c : Cert) → IsCert p bytes c → (a : Result Shown Fault) → CertShows p c a → (a ≡ Err no_memory) ⊎ TextShows p bytes a
  certificate_answers (cert.Full table checked) certificate a (inl is) = inl is
  certificate_answers (cert.Full table checked) certificate a (inr h) = inr (full table.items checked certificate a h)
  certificate_answers (cert.Compact d) certificate a (inl is) = inl is
  certificate_answers (cert.Compact d) certificate a (inr h) = inr (compact d.table d.void certificate a h)

-- ---- memory that is refused for the report

memory_cause : (files : Option FilePair) (scheme table : SourceRun) (a : Result Shown Fault) → OfBothFiles files scheme table (λ s t. ComesTo s t a) → HasCause files scheme table no_memory
memory_cause None scheme table a h = absurd h
memory_cause (Some f) scheme table a h = inr (inr (((h.0.problem, h.0.yields), h.1.0), h.1.1))

pub without_report : (files : Option FilePair) (scheme table : SourceRun) (out err : SinkRun) (shown : Shown) (told : Fault) → told ≡ no_memory → HasTakenNothing out
    → HasTakenOrFailed err (line_of no_memory) → IsAnswerOfRun files scheme table (Ok shown) → IsUnverified files scheme table out err told
without_report files scheme table out err shown told is silent line h =
    subst (λ (f : Fault). IsUnverified files scheme table out err f) (sym is) (record { cause = memory_cause files scheme table (Ok shown) h; silent = silent; told = line })

-- ---- memory that is refused for the line of a fault

refused_cause : (files : Option FilePair) (scheme table : SourceRun) (r : Refusal) → IsSomeAnd files (λ f. Yields scheme.after.given (Err r) × (IsReadFromFront scheme true f.scheme × IsUntouched table))
    → HasCause files scheme table no_memory
refused_cause None scheme table r h = absurd h
refused_cause (Some f) scheme table r h = inr (inl h.1)

lineless : (files : Option FilePair) (scheme table : SourceRun) (fault : Fault) → HasCause files scheme table fault → (HasFixedLine fault → ⊥) → HasCause files scheme table no_memory
lineless files scheme table (Front Usage) h none = absurd (none tt)
lineless files scheme table (Front Source) h none = absurd (none tt)
lineless files scheme table (Front FileTooLong) h none = absurd (none tt)
lineless files scheme table (Front (Syntax line)) h none = refused_cause files scheme table (Syntax line) h
lineless files scheme table (Front (Limit which)) h none = absurd (none tt)
lineless files scheme table (Front (Names fault)) h none = refused_cause files scheme table (Names fault) h
lineless files scheme table (Front (IllSorted rule)) h none = refused_cause files scheme table (IllSorted rule) h
lineless files scheme table (Front (NotFirstOrder terminal)) h none = refused_cause files scheme table (NotFirstOrder terminal) h
lineless files scheme table (Front (SortTooLarge rule)) h none = refused_cause files scheme table (SortTooLarge rule) h
lineless files scheme table (Front (RuleTooLong rule)) h none = refused_cause files scheme table (RuleTooLong rule) h
lineless files scheme table (Front PointLimit) h none = absurd (none tt)
lineless files scheme table (Front FlowLimit) h none = absurd (none tt)
lineless files scheme table (Front EntryLimit) h none = absurd (none tt)
lineless files scheme table (Front Sink) h none = absurd (none tt)
lineless files scheme table (Front OutOfMemory) h none = absurd (none tt)
lineless files scheme table TableTooLong h none = absurd (none tt)
lineless files scheme table (TableLine line) h none = memory_cause files scheme table (Err (TableLine line)) h
lineless files scheme table (Missing entry) h none = memory_cause files scheme table (Err (Missing entry)) h
lineless files scheme table HasStart h none = absurd (none tt)
lineless files scheme table (NotVoid pair) h none = memory_cause files scheme table (Err (NotVoid pair)) h
lineless files scheme table (Instances count) h none = memory_cause files scheme table (Err (Instances count)) h

pub unverified : (files : Option FilePair) (scheme table : SourceRun) (out err : SinkRun) (fault told : Fault) → HasCause files scheme table fault → HasTakenNothing out → TellsFault fault err told
    → IsUnverified files scheme table out err told
unverified files scheme table out err fault told h silent (inl (is, line)) =
    subst (λ (f : Fault). IsUnverified files scheme table out err f) (sym is) (record { cause = h; silent = silent; told = line })
unverified files scheme table out err fault told h silent (inr (none, is, line)) =
    subst (λ (f : Fault). IsUnverified files scheme table out err f) (sym is) (record { cause = lineless files scheme table fault h none; silent = silent; told = line })

pub on_ok : {T E : Type 0} (r : Result T E) (P Q : Type 0) → (P → Q) → OnOk r P → OnOk r Q
on_ok (Ok x) P Q f h = f h
on_ok (Err e) P Q f h = tt
