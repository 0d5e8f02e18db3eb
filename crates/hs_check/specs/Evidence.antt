-- What the text of a table says of a problem.
--     IsVerifiedTable    a closed table without the start entry, with so many instances
--     TableShows         what a table comes to with the number of instances that it says
--     CompactShows       what entries come to with void environments and read pairs
--     OwnReads           the read pairs of the problem have this
--     TextShows          what a text comes to, as a certificate; FileShows with the limit on its length
--     ComesTo            what the bytes of the two files come to, where the one has a problem
-- Instances are counted up to 2^64 - 1, as `checked` of a report has them.
use Rattle.std.specs.Prelude.{◌≡◌, ◌≢◌, ℕ, ◌<◌, ◌≤◌, List, length, slice_get, Some, Result, Ok, Err, ◌⊎◌}
use Rattle.hs_scheme.specs.Problem.{ProblemData}
use Rattle.hs_table.specs.Entries.{EntryData}
use Rattle.hs_table.specs.Tables.{IsClosedTable, HasStart as HasStartEntry}
use Rattle.hs_weak.specs.Void.{VoidData, IsVoidList}
use Rattle.hs_weak.specs.Certificate.{IsAcceptanceCertificate}
use Rattle.hs_reads.specs.Own.{AreReadsOf}
use Rattle.hs_text.specs.Report.{entry_line, void_line}
use Rattle.hs_checker.specs.Checked.{IsCount, IsMissing}
use Rattle.hs_certificate_checker.specs.Faults.{IsFirstNotVoid, IsUncovered}
use Rattle.hs_cert.specs.declared.table.Cert.{Cert}
use Rattle.hs_cert.specs.declared.table.Cert.TheVariants as cert
use Rattle.hs_cert.specs.Certificate.{IsFirstFaulty, IsCertificate, IsCompactCertificate}
use Rattle.hs_front.specs.Yields.{Yields}
use Rattle.hs_check.specs.declared.fault.Fault.{Fault}
use Rattle.hs_check.specs.declared.fault.Fault.TheVariants.{Front, TableTooLong, TableLine, Missing, HasStart, NotVoid, Instances}
use Rattle.hs_check.specs.declared.verified.Shown.{Shown}
use Rattle.hs_check.specs.Fault.{no_memory}
use Rattle.hs_check.specs.declared.verified.Shown.TheVariants.{Full, Compact}

-- 256 MiB
abbrev pub max_table : ℕ
max_table = 268435456

-- all that follows is in the table, the start entry isn't, and so many instances there are
pub record IsVerifiedTable (p : ProblemData) (table : List EntryData) (count : ℕ) : Type 0 where
  pub closed : IsClosedTable p table
  pub lacks : HasStartEntry p table → ⊥
  pub counts : IsCount p table count

pub record IsOtherCount (p : ProblemData) (table : List EntryData) (checked count : ℕ) : Type 0 where
  pub shown : IsVerifiedTable p table count
  pub differs : count ≢ checked

-- the fault tells that this entry is missing, by its line; that this environment isn't void
abbrev pub TellsMissing : ProblemData → EntryData → Fault → Type 0
TellsMissing p e (Missing entry) = entry.items ≡ entry_line p e
TellsMissing p e fault = ⊥

abbrev pub TellsNotVoid : ProblemData → VoidData → Fault → Type 0
TellsNotVoid p v (NotVoid pair) = pair.items ≡ void_line p v
TellsNotVoid p v fault = ⊥

-- A missing entry is told where there is one, else the start entry where it is there, else another number of instances.
abbrev pub TableShows : ProblemData → List EntryData → ℕ → Result Shown Fault → Type 0
TableShows p table checked (Ok (Full count)) = (count ≡ checked) × IsVerifiedTable p table count
TableShows p table checked (Ok (Compact entries void)) = ⊥
TableShows p table checked (Err (Front refusal)) = ⊥
TableShows p table checked (Err TableTooLong) = ⊥
TableShows p table checked (Err (TableLine line)) = ⊥
TableShows p table checked (Err (Missing entry)) = (e : EntryData) × (IsMissing p table e × (entry.items ≡ entry_line p e))
TableShows p table checked (Err HasStart) = IsClosedTable p table × HasStartEntry p table
TableShows p table checked (Err (NotVoid pair)) = ⊥
TableShows p table checked (Err (Instances count)) = IsOtherCount p table checked count

-- The start entry is told where it is there, else the first environment that isn't void, else an entry that is missing.
abbrev pub CompactShows : ProblemData → List EntryData → List VoidData → List (ℕ × ℕ) → Result Shown Fault → Type 0
CompactShows p table void reads (Ok (Full count)) = ⊥
CompactShows p table void reads (Ok (Compact entries pairs)) = (entries ≡ length table) × (pairs ≡ length void) × IsAcceptanceCertificate p table void reads
CompactShows p table void reads (Err (Front refusal)) = ⊥
CompactShows p table void reads (Err TableTooLong) = ⊥
CompactShows p table void reads (Err (TableLine line)) = ⊥
CompactShows p table void reads (Err (Missing entry)) =
    (HasStartEntry p table → ⊥) × IsVoidList p table void × (e : EntryData) × (IsUncovered p table void reads e × (entry.items ≡ entry_line p e))
CompactShows p table void reads (Err HasStart) = HasStartEntry p table
CompactShows p table void reads (Err (NotVoid pair)) =
    (HasStartEntry p table → ⊥) × (place : ℕ) × IsFirstNotVoid p table void place × (v : VoidData) × ((slice_get void place ≡ Some v) × (pair.items ≡ void_line p v))
CompactShows p table void reads (Err (Instances count)) = ⊥

-- for a property of lists of read pairs that depends on no order
abbrev pub OwnReads : ProblemData → (List (ℕ × ℕ) → Type 0) → Type 0
OwnReads p P = (reads : List (ℕ × ℕ)) × (AreReadsOf p reads × P reads)

-- what a certificate shows, or that memory was refused; only private contracts cite it
abbrev pub CertShows : ProblemData → Cert → Result Shown Fault → Type 0
CertShows p (cert.Full table checked) answer = (answer ≡ Err no_memory) ⊎ TableShows p table.items checked answer
CertShows p (cert.Compact certificate) answer = (answer ≡ Err no_memory) ⊎ OwnReads p (λ reads. CompactShows p certificate.table certificate.void reads answer)

-- the text is a certificate of such a table
pub record OfCertificate (p : ProblemData) (bytes : List ℕ) (answer : Result Shown Fault) : Type 0 where
  pub table : List EntryData
  pub checked : ℕ
  pub certificate : IsCertificate p bytes table checked
  pub shows : TableShows p table checked answer

-- the text is a certificate of such entries and void environments
pub record OfCompact (p : ProblemData) (bytes : List ℕ) (answer : Result Shown Fault) : Type 0 where
  pub table : List EntryData
  pub void : List VoidData
  pub certificate : IsCompactCertificate p bytes table void
  pub shows : OwnReads p (λ reads. CompactShows p table void reads answer)

abbrev pub TextShows : ProblemData → List ℕ → Result Shown Fault → Type 0
TextShows p bytes (Err (TableLine line)) = IsFirstFaulty p bytes line
TextShows p bytes answer = OfCertificate p bytes answer ⊎ OfCompact p bytes answer

abbrev pub FileShows : ProblemData → List ℕ → Result Shown Fault → Type 0
FileShows p bytes (Err TableTooLong) = max_table < length bytes
FileShows p bytes answer = (length bytes ≤ max_table) × TextShows p bytes answer

pub record ComesTo (scheme table : List ℕ) (answer : Result Shown Fault) : Type 0 where
  pub problem : ProblemData
  pub yields : Yields scheme (Ok problem)
  pub answers : FileShows problem table answer
