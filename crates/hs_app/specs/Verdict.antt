-- What the bytes of a file are answered with.
--     FailsAlong              the path leads, after some number of steps, to a terminal without transition, which it names with its state
--     IsSought                what the search for a compact list came to, where it is asked for
--     IsShown                 the text is the report of a verdict by a table
--     Reports                 the text is the report of the verdict on a scheme, by its table, or, where that is asked for, by evidence
--     IsAnsweredWith          the verdict with its report, or the reason why there is none
--     HasAnswer               the answer of a file that isn't too long
--     Warrants                the verdict that the bytes come to, or the reason why there is none, whatever is answered
use Rattle.std.specs.Prelude.{◌≡◌, ◌≤◌, ◌<◌, ◌⊎◌, ℕ, true, false, List, ◌++◌, length, All, Option, Some, None, Result, Ok, Err, if◌then◌else◌}
use Rattle.hs_scheme.specs.declared.term.Head.{Head}
use Rattle.hs_scheme.specs.declared.term.Rule.{Rule}
use Rattle.hs_scheme.specs.Scheme.{AreRules}
use Rattle.hs_scheme.specs.acceptance.Transition.{TransitionData}
use Rattle.hs_scheme.specs.Tree.{Tree}
use Rattle.hs_scheme.specs.sorting.Unsorted.{UnsortedData}
use Rattle.hs_scheme.specs.sorting.Sorted.{SortedData, IsSorted}
use Rattle.hs_scheme.specs.Problem.{ProblemData}
use Rattle.hs_scheme.specs.acceptance.Run.{start, Accepts}
use Rattle.hs_scheme.specs.acceptance.Steps.{Path, Reaches, HasNoTransition}
use Rattle.hs_scheme.specs.flow.Flow.{IsAscending}
use Rattle.hs_scheme.specs.flow.Points.{IsPoints}
use Rattle.hs_table.specs.Entries.{EntryData, InShape, entry_cmp}
use Rattle.hs_scheme.specs.SameTree.{FailsFromStart}
use Rattle.hs_table.specs.Follows.{Support}
use Rattle.hs_table.specs.Tables.{IsSupportedTable, IsLeastTable, HasSupports, HasStart, Exceeds}
use Rattle.hs_verdict.specs.Naming.{NamesPath}
use Rattle.hs_rank.specs.Canonical.{IsCanonicalLog}
use Rattle.hs_checker.specs.Checked.{IsCount}
use Rattle.hs_passes.specs.Passing.{KeepsRest}
use Rattle.hs_scheme.specs.acceptance.FailingPath.{FailingPathData}
use Rattle.hs_scheme.specs.acceptance.Failing.{IsFailingPath}
use Rattle.hs_reads.specs.Own.{AreReadsOf}
use Rattle.hs_weak.specs.Void.{VoidData, void_cmp}
use Rattle.hs_weak.specs.Certificate.{IsAcceptanceCertificate}
use Rattle.hs_minimal.specs.Compact.{IsTable, IsOneTooMany}
use Rattle.hs_text.specs.Report.{IsReport, IsCertificateReport, path_summary}
use Rattle.hs_text.specs.declared.minimal.Minimal.{Minimal}
use Rattle.hs_text.specs.declared.minimal.Minimal.TheVariants.{Table, More}
use Rattle.hs_text.specs.declared.verdict.Verdict as shown
use Rattle.hs_text.specs.declared.verdict.Verdict.TheVariants as shown_as
use Rattle.hs_front.specs.declared.refusal.Refusal.{Refusal}
use Rattle.hs_front.specs.declared.refusal.Refusal.TheVariants.{Usage, Source, FileTooLong, PointLimit, FlowLimit, EntryLimit, Sink, OutOfMemory}
use Rattle.hs_words.specs.declared.options.Settings.{Settings}
use Rattle.hs_app.specs.declared.verdict.Decision.{Decision}
use Rattle.hs_app.specs.declared.verdict.Decision.TheVariants.{Accepted, Rejected, Long}
use Rattle.hs_app.specs.declared.verdict.Decided.{Decided}
use Rattle.hs_front.specs.Problems.{IsProblemOf, IsPastLimits, HasManyPoints, HasMuchFlow}
use Rattle.hs_front.specs.Faults.{IsSortable, IsFileFault}
use Rattle.hs_app.specs.Problems.{Asked, IsSimplified, IsRemoved, OfForm, HasProblem, IsReportedTable}
use Rattle.hs_front.specs.Files.{max_bytes}

-- ---- the verdict on a scheme, with its report

-- what the search for a compact list came to, where it is asked for: such a list; or more entries came on the way than are allowed
abbrev pub IsSought : Settings → ProblemData → Option Minimal → Type 0
IsSought settings p None = settings.minimal ≡ false
IsSought settings p (Some (Table C)) = (settings.minimal ≡ true) × IsTable p settings.entries C.items
IsSought settings p (Some (More budget)) = (settings.minimal ≡ true) × ((budget ≡ settings.entries) × ((T : List EntryData) × IsOneTooMany p settings.entries T))

-- the text is the report of the verdict, and shows the entries where they are asked for, and a compact list where that is sought
abbrev pub IsShown : Settings → ProblemData → shown.Verdict → List EntryData → Option ℕ → List ℕ → Type 0
IsShown settings p verdict log removed text =
    (minimal : Option Minimal) × (IsSought settings p minimal × IsReport p verdict (if settings.table then Some log else None) removed minimal text)

-- the path leads to its last terminal, which has no transition in its state, after some number of steps
abbrev pub FailsAlong : List Rule → List TransitionData → FailingPathData → Type 0
FailsAlong rules ts path = (used : ℕ) × IsFailingPath rules ts (record path { used = used })

-- The rules whose tree is judged, with their transitions, the problem that was saturated, how much weight was taken off before, and the
-- text of the report.
module _ (settings : Settings) (rules : List Rule) (ts : List TransitionData) (p : ProblemData) (removed : Option ℕ) (text : List ℕ) where
  abbrev pub IsReportOf : shown.Verdict → List EntryData → Type 0
  IsReportOf verdict log = IsShown settings p verdict log removed text

  -- the rules along which steps are counted: where the scheme was simplified, those that came of it
  abbrev pub rules_walked : List Rule
  rules_walked = if settings.simplify then p.sorted.scheme.rules else rules

  -- the tree is accepted, and the least table lacks the start entry; `checked` tells the number of its instances
  pub record ReportsAccepted : Type 0 where
    pub accepts : Accepts rules ts
    pub table : List EntryData
    pub least : IsLeastTable p table
    pub lacks : HasStart p table → ⊥
    pub within : length table ≤ settings.entries
    pub checked : ℕ
    pub count : IsCount p table checked
    pub tells : IsReportOf (shown_as.Accepted (length table) checked) table

  -- it isn't, and the path that the table names leads to its last terminal, which has no transition in its state; unless the first
  -- start entry is enough, this is the path of the canonical log
  pub record ReportsRejected : Type 0 where
    pub rejects : Accepts rules ts → ⊥
    pub table : List EntryData
    pub reported : IsReportedTable settings.first p table
    pub within : length table ≤ settings.entries
    pub path : FailingPathData
    pub fails : FailsAlong rules ts path
    pub walked : IsFailingPath rules_walked ts path
    pub few : path.used ≤ settings.steps
    pub supports : List Support
    pub supported : HasSupports p table supports
    pub canonical : settings.first ≡ false → IsCanonicalLog p table supports
    pub names : NamesPath p table supports path.used path.steps
    pub tells : IsReportOf (shown_as.Rejected (length table) path) table

  -- it isn't, and so many steps lead along a prefix, not to a terminal without transition; the path that the table names, unless the first
  -- start entry is enough that of the canonical log, needs more
  pub record ReportsLong : Type 0 where
    pub rejects : Accepts rules ts → ⊥
    pub table : List EntryData
    pub reported : IsReportedTable settings.first p table
    pub within : length table ≤ settings.entries
    pub prefix : Path
    pub state : ℕ
    pub term : Tree Head
    pub reaches : Reaches rules_walked ts settings.steps 0 start prefix state term
    pub goes_on : HasNoTransition ts state term → ⊥
    pub supports : List Support
    pub supported : HasSupports p table supports
    pub canonical : settings.first ≡ false → IsCanonicalLog p table supports
    pub need : ℕ
    pub whole : Path
    pub names : NamesPath p table supports need whole
    pub longer : settings.steps < need
    pub rest : Path
    pub begins : whole ≡ prefix ++ rest
    pub fails : FailsFromStart rules ts 0 whole
    pub tells : IsReportOf (shown_as.Long (length table) settings.steps) table

abbrev pub ReportsBy : Settings → List Rule → List TransitionData → ProblemData → Option ℕ → Decision → List ℕ → Type 0
ReportsBy settings rules ts p removed Accepted text = ReportsAccepted settings rules ts p removed text
ReportsBy settings rules ts p removed Rejected text = ReportsRejected settings rules ts p removed text
ReportsBy settings rules ts p removed Long text = ReportsLong settings rules ts p removed text

-- ---- the same by evidence, which is sought with `--quick`, and checked

-- the entries are in shape, and each list ascends, so that nothing stands in it twice
pub record AreListed (p : ProblemData) (table : List EntryData) (void : List VoidData) : Type 0 where
  pub shape : All (InShape p) table
  pub entries : IsAscending entry_cmp table
  pub pairs : IsAscending void_cmp void

module _ (settings : Settings) (rules : List Rule) (ts : List TransitionData) (p : ProblemData) (removed : Option ℕ) (text : List ℕ) where
  -- the tree is accepted, and that is seen from a certificate with the problem's read pairs
  pub record ShowsAccepted : Type 0 where
    pub accepts : Accepts rules ts
    pub table : List EntryData
    pub void : List VoidData
    pub reads : List (ℕ × ℕ)
    pub own : AreReadsOf p reads
    pub certificate : IsAcceptanceCertificate p table void reads
    pub listed : AreListed p table void
    pub tells : IsCertificateReport p table void settings.table removed text

  -- it isn't, and that is seen from a path that leads, in so many steps along these rules, to its last terminal
  pub record ShowsRejected : Type 0 where
    pub rejects : Accepts rules ts → ⊥
    pub path : FailingPathData
    pub fails : IsFailingPath rules ts path
    pub few : path.used ≤ settings.steps
    pub tells : text ≡ path_summary p path removed

abbrev pub ShowsBy : Settings → List Rule → List TransitionData → ProblemData → Option ℕ → Decision → List ℕ → Type 0
ShowsBy settings rules ts p removed Accepted text = ShowsAccepted settings rules ts p removed text
ShowsBy settings rules ts p removed Rejected text = ShowsRejected settings rules ts p removed text
ShowsBy settings rules ts p removed Long text = ⊥

-- The verdict is on the rules of the file, and by the problem of their scheme, in which the terminals, the states and their names are
-- those of the file.
pub record Reports (asked : Asked) (u : UnsortedData) (verdict : Decision) (text : List ℕ) : Type 0 where
  pub problem : ProblemData
  pub of : HasProblem asked u problem
  pub points : IsPoints problem.points
  pub rest : KeepsRest of.form problem.sorted
  pub removed : Option ℕ
  pub lighter : IsRemoved asked.settings.simplify of.form problem.sorted removed
  pub reports : ReportsBy asked.settings u.rules u.automaton.transitions problem removed verdict text
      ⊎ ((asked.settings.quick ≡ true) × ShowsBy asked.settings u.rules u.automaton.transitions problem removed verdict text)

-- the least table has more entries than are allowed; where the first start entry is asked for, some supported list of as many lacks it
pub record IsOver (settings : Settings) (p : ProblemData) : Type 0 where
  pub exceeds : Exceeds p settings.entries
  pub first : settings.first ≡ true → (T : List EntryData) × (IsSupportedTable p T × (length T ≡ settings.entries) × (HasStart p T → ⊥))

abbrev pub IsOverBudget : Asked → UnsortedData → Type 0
IsOverBudget asked u = (p : ProblemData) × (HasProblem asked u p × IsOver asked.settings p)

-- what is answered on a scheme that has its sorts
abbrev pub IsAnswerOn : Asked → UnsortedData → Result Decided Refusal → Type 0
IsAnswerOn asked u (Ok decided) = Reports asked u decided.verdict decided.report.items
IsAnswerOn asked u (Err PointLimit) = OfForm asked u HasManyPoints
IsAnswerOn asked u (Err FlowLimit) = OfForm asked u HasMuchFlow
IsAnswerOn asked u (Err EntryLimit) = IsOverBudget asked u
IsAnswerOn asked u (Err OutOfMemory) = Unit {0}
IsAnswerOn asked u (Err refusal) = ⊥

-- the same of a problem that was saturated, whose rules are judged
abbrev pub DecidesProblem : Settings → ProblemData → Option ℕ → Result Decided Refusal → Type 0
DecidesProblem settings p removed (Ok decided) = ReportsBy settings p.sorted.scheme.rules p.sorted.automaton.transitions p removed decided.verdict decided.report.items
DecidesProblem settings p removed (Err EntryLimit) = IsOver settings p
DecidesProblem settings p removed (Err OutOfMemory) = Unit {0}
DecidesProblem settings p removed (Err refusal) = ⊥

-- the same by evidence: a certificate is of the problem, and a path leads along the rules of a scheme that became the problem's
abbrev pub ShowsOf : Settings → SortedData → ProblemData → Option ℕ → Decision → List ℕ → Type 0
ShowsOf settings before p removed Accepted text = ShowsAccepted settings p.sorted.scheme.rules p.sorted.automaton.transitions p removed text
ShowsOf settings before p removed Rejected text = ShowsRejected settings before.scheme.rules before.automaton.transitions p removed text
ShowsOf settings before p removed Long text = ⊥

abbrev pub DecidesQuickly : Settings → SortedData → ProblemData → Option ℕ → Decided → Type 0
DecidesQuickly settings before p removed decided = (settings.quick ≡ true) × ShowsOf settings before p removed decided.verdict decided.report.items

abbrev pub Decides : Settings → SortedData → ProblemData → Option ℕ → Result Decided Refusal → Type 0
Decides settings before p removed (Ok decided) = DecidesProblem settings p removed (Ok decided) ⊎ DecidesQuickly settings before p removed decided
Decides settings before p removed (Err refusal) = DecidesProblem settings p removed (Err refusal)

-- the same of a scheme from which so much weight was taken off, and which may pass a limit
abbrev pub DecidesForm : Settings → SortedData → SortedData → Option ℕ → Result Decided Refusal → Type 0
DecidesForm settings before form removed (Ok decided) =
    AreRules form.scheme.rules (length form.scheme.ranks) × ((p : ProblemData) × (IsProblemOf form p × Decides settings before p removed (Ok decided)))
DecidesForm settings before form removed (Err EntryLimit) = (p : ProblemData) × (IsProblemOf form p × DecidesProblem settings p removed (Err EntryLimit))
DecidesForm settings before form removed (Err refusal) = IsPastLimits form refusal

-- the same of a sorted scheme, which may be simplified before
pub record DecidesSimplified (asked : Asked) (sorted : SortedData) (answer : Result Decided Refusal) : Type 0 where
  pub is_sorted : IsSorted sorted
  pub form : SortedData
  pub simplified : IsSimplified asked sorted form
  pub removed : Option ℕ
  pub lighter : IsRemoved asked.settings.simplify sorted form removed
  pub decides : DecidesForm asked.settings sorted form removed answer

abbrev pub DecidesSorted : Asked → SortedData → Result Decided Refusal → Type 0
DecidesSorted asked sorted (Err OutOfMemory) = Unit {0}
DecidesSorted asked sorted answer = DecidesSimplified asked sorted answer

-- ---- the answer on the bytes of a file

-- what is answered on a scheme that has its sorts
pub record HasDecision (asked : Asked) (bytes : List ℕ) (answer : Result Decided Refusal) : Type 0 where
  pub scheme : UnsortedData
  pub sound : IsSortable bytes scheme
  pub decides : IsAnswerOn asked scheme answer

-- a refusal of bytes: by the front end, or of a scheme that has its sorts
abbrev pub Refused : Asked → List ℕ → Refusal → Type 0
Refused asked bytes PointLimit = HasDecision asked bytes (Err PointLimit)
Refused asked bytes FlowLimit = HasDecision asked bytes (Err FlowLimit)
Refused asked bytes EntryLimit = HasDecision asked bytes (Err EntryLimit)
Refused asked bytes refusal = IsFileFault bytes refusal

abbrev pub IsAnsweredWith : Asked → List ℕ → Result Decided Refusal → Type 0
IsAnsweredWith asked bytes (Ok decided) = HasDecision asked bytes (Ok decided)
IsAnsweredWith asked bytes (Err refusal) = Refused asked bytes refusal

abbrev pub HasAnswer : Asked → Result Decided Refusal → List ℕ → Type 0
HasAnswer asked answer bytes = (length bytes ≤ max_bytes) × IsAnsweredWith asked bytes answer

-- ---- what a file comes to, whatever is answered

-- the least table has at most as many entries as are allowed
pub record IsWithinBudget (asked : Asked) (u : UnsortedData) : Type 0 where
  pub problem : ProblemData
  pub of : HasProblem asked u problem
  pub few : Exceeds problem asked.settings.entries → ⊥

-- it has more, and that is told: no other evidence is sought, and the first start entry isn't asked for, or there is none
pub record IsBoundToExceed (asked : Asked) (u : UnsortedData) : Type 0 where
  pub problem : ProblemData
  pub of : HasProblem asked u problem
  pub exceeds : Exceeds problem asked.settings.entries
  pub plain : asked.settings.quick ≡ false
  pub tells : (asked.settings.first ≡ false) ⊎ Accepts u.rules u.automaton.transitions

abbrev pub WarrantsOnScheme : Asked → UnsortedData → Result Decision Refusal → Type 0
WarrantsOnScheme asked u (Ok Accepted) = Accepts u.rules u.automaton.transitions × IsWithinBudget asked u
WarrantsOnScheme asked u (Ok Rejected) = (Accepts u.rules u.automaton.transitions → ⊥) × IsWithinBudget asked u
WarrantsOnScheme asked u (Err PointLimit) = OfForm asked u HasManyPoints
WarrantsOnScheme asked u (Err FlowLimit) = OfForm asked u HasMuchFlow
WarrantsOnScheme asked u (Err EntryLimit) = IsBoundToExceed asked u
WarrantsOnScheme asked u answer = ⊥

pub record HasWarrant (asked : Asked) (bytes : List ℕ) (answer : Result Decision Refusal) : Type 0 where
  pub scheme : UnsortedData
  pub sound : IsSortable bytes scheme
  pub warrants : WarrantsOnScheme asked scheme answer

-- the verdict of a file, or its refusal
abbrev pub Warrants : Asked → Result Decision Refusal → List ℕ → Type 0
Warrants asked (Err Usage) bytes = ⊥
Warrants asked (Err Source) bytes = ⊥
Warrants asked (Err Sink) bytes = ⊥
Warrants asked (Err OutOfMemory) bytes = ⊥
Warrants asked (Err FileTooLong) bytes = max_bytes < length bytes
Warrants asked (Err PointLimit) bytes = (length bytes ≤ max_bytes) × HasWarrant asked bytes (Err PointLimit)
Warrants asked (Err FlowLimit) bytes = (length bytes ≤ max_bytes) × HasWarrant asked bytes (Err FlowLimit)
Warrants asked (Err EntryLimit) bytes = (length bytes ≤ max_bytes) × HasWarrant asked bytes (Err EntryLimit)
Warrants asked (Err refusal) bytes = (length bytes ≤ max_bytes) × Refused asked bytes refusal
Warrants asked (Ok verdict) bytes = (length bytes ≤ max_bytes) × HasWarrant asked bytes (Ok verdict)
