-- When two runs come to one report: they were ordered the same but for the number of workers, and worked on the same bytes.
--     with_workers      an order with another number of workers
--     IsByTable         the verdict is that of the whole least table: neither its beginning nor other evidence is enough
--     HasBytes          these are the bytes of a job: the source tells them, or has handed them out
--     IsUndisturbed     no failure of reading, of writing or of memory brought the status
--     IsRunOn           what is claimed of an undisturbed run on these bytes
--     AddSame, TellSame both sinks gained the same, or on standard error a part of it beside a fault
--     IsListPart        the lines of a compact list, or nothing
--     IsToldAround      the text is these lines, that on a compact list, those behind it, and the list
--     AddAlike          both sinks gained a report, and but for the lines on a compact list it is the same
--     ComeToOne         the same status, and the same bytes
--     HasOneReport      so does each other such run
use Rattle.std.specs.Prelude.{◌≡◌, ◌≢◌, ◌⊎◌, ℕ, Bool, false, List, [], ◌++◌, codes, Option, Some, IfSome}
use Rattle.hs_gen.specs.Cycle.{cycle_file_text}
use Rattle.hs_words.specs.declared.options.Settings.{Settings}
use Rattle.hs_front.specs.Outside.{SourceRun, SinkRun, HasTakenOrFailed}
use Rattle.hs_text.specs.Report.{minimal_line_if}
use Rattle.hs_text.specs.declared.minimal.Minimal.{Minimal}
use Rattle.hs_app.specs.Order.{FileOrigin, read_file, generate, Order}
use Rattle.hs_app.specs.Outcome.{Rows}

abbrev pub with_workers : ℕ → Order → Order
with_workers n o = record o { asked = record o.asked { settings = record o.asked.settings { workers = n } } }

abbrev pub IsByTable : Settings → Type 0
IsByTable settings = (settings.first ≡ false) × (settings.quick ≡ false)

abbrev pub HasBytes : FileOrigin → SourceRun → List ℕ → Type 0
HasBytes (read_file name) source bytes = (source.file name ≡ Some bytes) ⊎ (source.after.given ≡ bytes)
HasBytes (generate k) source bytes = cycle_file_text k ≡ bytes

abbrev pub IsUndisturbed : ℕ → Type 0
IsUndisturbed status = (status ≢ 8) × ((status ≢ 9) × (status ≢ 10))

pub record IsRunOn (o : Order) (bytes : List ℕ) (source : SourceRun) (out err : SinkRun) (status : ℕ) : Type 0 where
  -- whether `--explain` is among the words
  pub mentioned : Bool
  pub rows : Rows mentioned (Some o) source out err status
  pub on : HasBytes o.job source bytes
  pub undisturbed : IsUndisturbed status

abbrev pub AddSame : SinkRun → SinkRun → Type 0
AddSame one other = (text : List ℕ) × ((one.taken_after ≡ one.taken ++ text) × (other.taken_after ≡ other.taken ++ text))

abbrev pub TellSame : SinkRun → SinkRun → Type 0
TellSame one other = (text : List ℕ) × (HasTakenOrFailed one text × HasTakenOrFailed other text)

abbrev pub IsListPart : List ℕ → Type 0
IsListPart list = (list ≡ []) ⊎ ((lines : List ℕ) × (list ≡ codes "compact\n" ++ lines))

abbrev pub IsToldAround : List ℕ → List ℕ → List ℕ → Type 0
IsToldAround before behind text =
    (minimal : Option Minimal) × ((list : List ℕ) × (IsListPart list × (text ≡ before ++ (minimal_line_if minimal ++ (behind ++ list)))))

abbrev pub AreAlike : List ℕ → List ℕ → Type 0
AreAlike one other = (before behind : List ℕ) × (IsToldAround before behind one × IsToldAround before behind other)

abbrev pub AddAlike : SinkRun → SinkRun → Type 0
AddAlike one other =
    (text also : List ℕ) × ((one.taken_after ≡ one.taken ++ text) × ((other.taken_after ≡ other.taken ++ also) × AreAlike text also))

-- Of a compact list only its kind is claimed, and of an explanation only that of a path: so the bytes are the same where these aren't
-- asked for, and where a compact list is, so is the report around its lines.
pub record ComeToOne (settings : Settings) (out err : SinkRun) (status : ℕ) (other_out other_err : SinkRun) (other_status : ℕ) : Type 0 where
  pub same_status : other_status ≡ status
  pub report : settings.minimal ≡ false → AddSame out other_out
  pub alike : AddAlike out other_out
  pub line : settings.explain ≡ false → TellSame err other_err

abbrev pub HasOneReport : Option Order → SourceRun → SinkRun → SinkRun → ℕ → Type 0
HasOneReport order source out err status =
    IfSome order
    (λ o. IsByTable o.asked.settings → IsUndisturbed status → (bytes : List ℕ) → HasBytes o.job source bytes
    → (n : ℕ) (other_source : SourceRun) (other_out other_err : SinkRun) (other_status : ℕ) → IsRunOn (with_workers n o) bytes other_source other_out other_err other_status
    → ComeToOne o.asked.settings out err status other_out other_err other_status)
