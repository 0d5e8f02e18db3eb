-- Two runs that were ordered the same but for the number of workers, and worked on the same bytes, come to one report.
use Rattle.std.proofs.Common.{◌≡◌, refl, sym, ◌∙◌, ap, subst, ℕ, ◌<◌, Bool, false, List, [], ◌++◌, append-nil, length, Option, Some, None, Result, Ok, Err, ◌⊎◌, inl, inr, arith}
use Rattle.std.specs.Option.{IfSome}
use Rattle.hs_scheme.specs.sorting.Unsorted.{UnsortedData}
use Rattle.hs_scheme.specs.sorting.Sorted.{SortedData}
use Rattle.hs_scheme.specs.Problem.{ProblemData}
use Rattle.hs_front.specs.declared.refusal.Refusal.{Refusal}
use Rattle.hs_front.specs.declared.refusal.Refusal.TheVariants.{Usage, Source, FileTooLong, Syntax, Limit, Names, IllSorted, NotFirstOrder, SortTooLarge, RuleTooLong, PointLimit, FlowLimit, EntryLimit, Sink, OutOfMemory}
use Rattle.hs_front.specs.Files.{max_bytes}
use Rattle.hs_front.specs.Refusal.{status_of, line_of}
use Rattle.hs_front.specs.Outside.{SourceRun, SinkRun, HasTakenOrFailed, HasTakenNothing}
use Rattle.hs_front.proofs.Layers.{meet}
use Rattle.hs_front.proofs.OneProblem.{one_form}
use Rattle.hs_app.specs.declared.verdict.Decision.{Decision}
use Rattle.hs_app.specs.declared.verdict.Decision.TheVariants.{Accepted, Rejected, Long}
use Rattle.hs_app.specs.declared.verdict.Decided.{Decided}
use Rattle.hs_app.specs.declared.top.Ending.{Ending}
use Rattle.hs_app.specs.declared.top.Ending.TheVariants.{Reported, CutOff, Refused}
use Rattle.hs_app.specs.Problems.{Asked, IsRemoved, OfForm, HasProblem}
use Rattle.hs_app.specs.Order.{FileOrigin, read_file, generate, Order}
use Rattle.hs_app.specs.Verdict.{ReportsBy, Reports, HasAnswer, IsAnswerOn, IsWithinBudget, WarrantsOnScheme}
use Rattle.hs_app.specs.Outcome.{IsAnswerOfRun, MayExplain, usage, Ends, status_of_verdict, status_at, Rows}
use Rattle.hs_app.specs.OneReport.{with_workers, IsByTable, HasBytes, IsUndisturbed, IsToldAround, AreAlike, ComeToOne, HasOneReport}
use Rattle.hs_app.proofs.OneProblem.{one_problem}
use Rattle.hs_app.proofs.OneTable.{not_both, one_removed, reports_same, reported_within}
use Rattle.hs_app.proofs.AnswerLemmas.{Wants, Matches, scheme_matches, answer_layers}
use Rattle.hs_app.proofs.OutcomeLemmas.{OfFile, IsShownBy, shows_told, shows_handed, status_due, why}

-- ---- two answers on a scheme

module _ (asked : Asked) (n : ℕ) (by : IsByTable asked.settings) where
  abbrev with_n : Asked
  with_n = record asked { settings = record asked.settings { workers = n } }

  abbrev Agree : Result Decided Refusal → Result Decided Refusal → Type 0
  Agree (Ok x) (Ok y) = (y.verdict ≡ x.verdict) × ((asked.settings.minimal ≡ false → x.report.items ≡ y.report.items) × AreAlike x.report.items y.report.items)
  Agree (Err r) (Err q) = r ≡ q
  Agree (Ok x) (Err q) = ⊥
  Agree (Err r) (Ok y) = ⊥

  -- want of memory aside
  abbrev Meets : Result Decided Refusal → Result Decided Refusal → Type 0
  Meets a b = Wants a ⊎ (Wants b ⊎ Agree a b)

  both_refuse : (a b : Result Decided Refusal) (r : Refusal) → a ≡ Err r → b ≡ Err r → Agree a b
  both_refuse a b r e f = subst (λ (x : Result Decided Refusal). Agree x b) (sym e) (subst (λ (y : Result Decided Refusal). Agree (Err r) y) (sym f) refl)

  module _ (u : UnsortedData) where
    of_form : (P : SortedData → Type 0) → OfForm asked u P → OfForm with_n u P
    of_form P h = record { form = h.form; of = h.of; holds = h.holds }

    form_of : (P : SortedData → Type 0) → OfForm with_n u P → OfForm asked u P
    form_of P h = record { form = h.form; of = h.of; holds = h.holds }

    problem_of : (p : ProblemData) → HasProblem with_n u p → HasProblem asked u p
    problem_of p h = record { form = h.form; of = h.of; holds = h.holds }

    of_problem : (p : ProblemData) → HasProblem asked u p → HasProblem with_n u p
    of_problem p h = record { form = h.form; of = h.of; holds = h.holds }

    abbrev ByTable : Asked → ProblemData → Option ℕ → Decision → List ℕ → Type 0
    ByTable a p removed v text = ReportsBy a.settings u.rules u.automaton.transitions p removed v text

    table_of : (v : Decision) (text : List ℕ) (h : Reports asked u v text) → ByTable asked h.problem h.removed v text
    table_of v text h =
        elim h.reports [
          | inl r ↦ r
          | inr (quick, r) ↦ absurd (not_both asked.settings.quick quick by.1)
        ]

    table_with_n : (v : Decision) (text : List ℕ) (h : Reports with_n u v text) → ByTable with_n h.problem h.removed v text
    table_with_n v text h =
        elim h.reports [
          | inl r ↦ r
          | inr (quick, r) ↦ absurd (not_both asked.settings.quick quick by.1)
        ]

    both_report : (v w : Decision) (one other : List ℕ) → Reports asked u v one → Reports with_n u w other → (w ≡ v) × ((asked.settings.minimal ≡ false → one ≡ other) × AreAlike one other)
    both_report v w one other h k =
        let same = one_problem asked u h.problem k.problem h.of (problem_of k.problem k.of) in
        let forms = one_form u h.of.form k.of.form h.of.of k.of.of in
        let lighter = subst (λ (q : ProblemData). IsRemoved asked.settings.simplify k.of.form q.sorted h.removed) same
        (subst (λ (s : SortedData). IsRemoved asked.settings.simplify s h.problem.sorted h.removed) forms h.lighter) in
        let removed = one_removed asked.settings.simplify k.of.form k.problem.sorted h.removed k.removed lighter k.lighter in
        reports_same asked.settings n by u.rules u.automaton.transitions k.problem k.points h.removed k.removed removed one other v w
        (subst (λ (q : ProblemData). ByTable asked q h.removed v one) same (table_of v one h)) (table_with_n w other k)

    within_budget : (v : Decision) (text : List ℕ) → Reports asked u v text → IsWithinBudget with_n u
    within_budget v text h = record {
      problem = h.problem;
      of = of_problem h.problem h.of;
      few = reported_within asked.settings by u.rules u.automaton.transitions h.problem h.removed text v (table_of v text h);
    }

    -- what a verdict says of the scheme
    abbrev Judged : Decision → Decision
    Judged Accepted = Accepted
    Judged Rejected = Rejected
    Judged Long = Rejected

    warrant : (v : Decision) (text : List ℕ) → Reports asked u v text → WarrantsOnScheme with_n u (Ok (Judged v))
    warrant Accepted text h = ((table_of Accepted text h).accepts, within_budget Accepted text h)
    warrant Rejected text h = ((table_of Rejected text h).rejects, within_budget Rejected text h)
    warrant Long text h = ((table_of Long text h).rejects, within_budget Long text h)

    no_match : (v : Decision) (r : Refusal) → Matches (Ok v) (Err r) → ⊥
    no_match Accepted r h = h
    no_match Rejected r h = h
    no_match Long r h = h

    beside_verdict : (x : Decided) (b : Result Decided Refusal) → Reports asked u x.verdict x.report.items → IsAnswerOn with_n u b → Meets (Ok x) b
    beside_verdict x (Ok y) h k = inr (inr (both_report x.verdict y.verdict x.report.items y.report.items h k))
    beside_verdict x (Err r) h k =
        elim (scheme_matches with_n u (Ok (Judged x.verdict)) (Err r) (warrant x.verdict x.report.items h) k) [
          | inl wants ↦ inr (inl wants)
          | inr m ↦ absurd (no_match (Judged x.verdict) r m)
        ]

    refused_alike : (r : Refusal) (b : Result Decided Refusal) → Matches (Err r) b → Agree (Err r) b
    refused_alike r (Ok y) m = absurd m
    refused_alike r (Err q) m = m

    beside_refusal : (r : Refusal) (b : Result Decided Refusal) → WarrantsOnScheme with_n u (Err r) → IsAnswerOn with_n u b → Meets (Err r) b
    beside_refusal r b w k =
        elim (scheme_matches with_n u (Err r) b w k) [
          | inl wants ↦ inr (inl wants)
          | inr m ↦ inr (inr (refused_alike r b m))
        ]

    on_scheme : (a b : Result Decided Refusal) → IsAnswerOn asked u a → IsAnswerOn with_n u b → Meets a b
    on_scheme (Ok x) b h k = beside_verdict x b h k
    on_scheme (Err PointLimit) b h k = beside_refusal PointLimit b (of_form _ h) k
    on_scheme (Err FlowLimit) b h k = beside_refusal FlowLimit b (of_form _ h) k
    on_scheme (Err EntryLimit) b h k =
        beside_refusal EntryLimit b (record { problem = h.0; of = of_problem h.0 h.1.0; exceeds = h.1.1.exceeds; plain = by.1; tells = inl by.0 }) k
    on_scheme (Err OutOfMemory) b h k = inl refl
    on_scheme (Err Usage) b h k = absurd h
    on_scheme (Err Source) b h k = absurd h
    on_scheme (Err FileTooLong) b h k = absurd h
    on_scheme (Err (Syntax line)) b h k = absurd h
    on_scheme (Err (Limit which)) b h k = absurd h
    on_scheme (Err (Names fault)) b h k = absurd h
    on_scheme (Err (IllSorted rule)) b h k = absurd h
    on_scheme (Err (NotFirstOrder terminal)) b h k = absurd h
    on_scheme (Err (SortTooLarge rule)) b h k = absurd h
    on_scheme (Err (RuleTooLong rule)) b h k = absurd h
    on_scheme (Err Sink) b h k = absurd h

  -- ---- two answers on the bytes of a file

  on_bytes : (bytes : List ℕ) (a b : Result Decided Refusal) → HasAnswer asked a bytes → HasAnswer with_n b bytes → Meets a b
  on_bytes bytes a b h k =
      elim (answer_layers asked bytes a h.1) [
        | inl wants ↦ inl wants
        | inr l ↦ elim (answer_layers with_n bytes b k.1) [
          | inl wants ↦ inr (inl wants)
          | inr m ↦
              meet (λ r. a ≡ Err r) (λ r. b ≡ Err r) (λ u. IsAnswerOn asked u a) (λ u. IsAnswerOn with_n u b) (Meets a b)
              (λ r e f. inr (inr (both_refuse a b r e f))) (λ u p s. on_scheme u a b p s) bytes l m
        ]
      ]

-- ---- two runs

-- what is known of the bytes says why something is answered
record KnowsBytes (job : FileOrigin) (source : SourceRun) (bytes : List ℕ) : Type 1 where
  file : List ℕ → Option (List ℕ)
  shows : IsShownBy job source file
  tells : (P : List ℕ → Type 0) → OfFile job file P → P bytes

knows : (job : FileOrigin) (source : SourceRun) (bytes : List ℕ) → HasBytes job source bytes → KnowsBytes job source bytes
knows (read_file name) source bytes (inl e) = record {
  file = source.file;
  shows = shows_told (read_file name) source;
  tells = λ P h. subst (λ (o : Option (List ℕ)). IfSome o P) e h;
}
knows (read_file name) source bytes (inr e) = record {
  file = λ _. Some source.after.given;
  shows = shows_handed (read_file name) source;
  tells = λ P h. subst P e h;
}
knows (generate k) source bytes e = record { file = source.file; shows = shows_told (generate k) source; tells = λ P h. subst P e h }

abbrev Cause : Asked → List ℕ → Result Decided Refusal → Type 0
Cause asked bytes a = ((a ≡ Err FileTooLong) × (max_bytes < length bytes)) ⊎ HasAnswer asked a bytes

-- an answer that no failure brought
cause : (o : Order) (source : SourceRun) (bytes : List ℕ) → HasBytes o.job source bytes → (a : Result Decided Refusal) → IsUndisturbed (status_due a) → IsAnswerOfRun (Some o) source a
    → Cause o.asked bytes a
cause o source bytes has a calm h =
    let k = knows o.job source bytes has in
    elim (why o source k.file k.shows a h) [
      | inl (inl e) ↦ absurd (calm.0 (ap status_due e))
      | inl (inr e) ↦ absurd (calm.1.1 (ap status_due e))
      | inr (inl (e, long)) ↦ inl (e, k.tells (λ bs. max_bytes < length bs) long)
      | inr (inr answers) ↦ inr (k.tells (HasAnswer o.asked a) answers)
    ]

module _ (o : Order) (n : ℕ) (by : IsByTable o.asked.settings) (bytes : List ℕ) (source other : SourceRun) (has : HasBytes o.job source bytes) (also : HasBytes o.job other bytes) where
  abbrev Same : Result Decided Refusal → Result Decided Refusal → Type 0
  Same a b = Agree o.asked n by a b

  answers_agree : (a b : Result Decided Refusal) → IsUndisturbed (status_due a) → IsUndisturbed (status_due b) → IsAnswerOfRun (Some o) source a
      → IsAnswerOfRun (Some (with_workers n o)) other b → Same a b
  answers_agree a b calm quiet h k =
      elim (cause o source bytes has a calm h) [
        | inl (e, long) ↦ elim (cause (with_workers n o) other bytes also b quiet k) [
          | inl (f, too) ↦ both_refuse o.asked n by a b FileTooLong e f
          | inr answers ↦ absurd (omega (arith, long, answers.0))
        ]
        | inr mine ↦ elim (cause (with_workers n o) other bytes also b quiet k) [
          | inl (f, long) ↦ absurd (omega (arith, long, mine.0))
          | inr its ↦ elim (on_bytes o.asked n by bytes a b mine its) [
            | inl wants ↦ absurd (calm.1.1 (ap status_due wants))
            | inr (inl wants) ↦ absurd (quiet.1.1 (ap status_due wants))
            | inr (inr agree) ↦ agree
          ]
        ]
      ]

  unexplained : (explain : o.asked.settings.explain ≡ false) (mentioned : Bool) (r : Order) (run : SourceRun) → r.asked.settings.explain ≡ o.asked.settings.explain → (a : Result Decided Refusal) (text : List ℕ)
      → MayExplain mentioned run a text (Some r) → text ≡ []
  unexplained plain mentioned r run same a text (inl e) = e
  unexplained plain mentioned r run same a text (inr h) = absurd (not_both o.asked.settings.explain (sym same ∙ h.0) plain)

  module _ (out err other_out other_err : SinkRun) (mentioned other_mentioned : Bool) where
    abbrev Come : ℕ → ℕ → Type 0
    Come m k = ComeToOne o.asked.settings out err m other_out other_err k

    none_taken : (sink : SinkRun) → HasTakenNothing sink → sink.taken_after ≡ sink.taken ++ []
    none_taken sink h = h.same_taken ∙ sym (append-nil sink.taken)

    nothing_told : IsToldAround [] [] []
    nothing_told = (None, ([], (inl refl, refl)))

    ends_agree : (e f : Ending) → IsUndisturbed (status_at e) → IsUndisturbed (status_at f) → Ends mentioned (Some o) source out err e → Ends other_mentioned (Some (with_workers n o)) other other_out other_err f
        → Come (status_at e) (status_at f)
    ends_agree (CutOff x) f calm quiet h k = absurd (calm.1.0 refl)
    ends_agree (Reported x) (CutOff y) calm quiet h k = absurd (quiet.1.0 refl)
    ends_agree (Refused r) (CutOff y) calm quiet h k = absurd (quiet.1.0 refl)
    ends_agree (Reported x) (Refused q) calm quiet h k = absurd (answers_agree (Ok x) (Err q) calm quiet h.answer k.cause)
    ends_agree (Refused r) (Reported y) calm quiet h k = absurd (answers_agree (Err r) (Ok y) calm quiet h.cause k.answer)
    ends_agree (Reported x) (Reported y) calm quiet h k =
        let same = answers_agree (Ok x) (Ok y) calm quiet h.answer k.answer in record {
          same_status = ap status_of_verdict same.0;
          report = λ plain. (x.report.items, (h.taken, k.taken ∙ ap (λ (text : List ℕ). other_out.taken ++ text) (sym (same.1.0 plain))));
          alike = (x.report.items, y.report.items, (h.taken, (k.taken, same.1.1)));
          line = λ plain. (
            [],
            (
              subst (λ (text : List ℕ). HasTakenOrFailed err text) (unexplained plain mentioned o source refl (Ok x) h.text h.explains) h.told,
              subst (λ (text : List ℕ). HasTakenOrFailed other_err text) (unexplained plain other_mentioned (with_workers n o) other refl (Ok y) k.text k.explains) k.told,
            ),
          );
        }
    ends_agree (Refused r) (Refused q) calm quiet h k =
        let same : r ≡ q = answers_agree (Err r) (Err q) calm quiet h.cause k.cause in record {
          same_status = ap status_of (sym same);
          report = λ plain. ([], (none_taken out h.silent, none_taken other_out k.silent));
          alike = ([], [], (none_taken out h.silent, (none_taken other_out k.silent, ([], [], (nothing_told, nothing_told)))));
          line = λ plain. (
            line_of usage r ++ [],
            (
              subst (λ (text : List ℕ). HasTakenOrFailed err (line_of usage r ++ text)) (unexplained plain mentioned o source refl (Err r) h.text h.explains) h.told,
              subst (λ (x : Refusal). HasTakenOrFailed other_err (line_of usage x ++ [])) (sym same)
                  (subst (λ (text : List ℕ). HasTakenOrFailed other_err (line_of usage q ++ text)) (unexplained plain other_mentioned (with_workers n o) other refl (Err q) k.text k.explains) k.told),
            ),
          );
        }

pub one_report : (mentioned : Bool) (order : Option Order) (source : SourceRun) (out err : SinkRun) (status : ℕ) → Rows mentioned order source out err status → HasOneReport order source out err status
one_report mentioned None source out err status rows = tt
one_report mentioned (Some o) source out err status rows = λ by calm bytes has n other other_out other_err other_status run.
    let come = ends_agree o n by bytes source other has run.on out err other_out other_err mentioned run.mentioned rows.ending run.rows.ending
    (subst (λ (k : ℕ). IsUndisturbed k) rows.is calm) (subst (λ (k : ℕ). IsUndisturbed k) run.rows.is run.undisturbed) rows.ends run.rows.ends in
    record { same_status = run.rows.is ∙ (come.same_status ∙ sym rows.is); report = come.report; alike = come.alike; line = come.line }

-- want of memory before the run
pub disturbed : (order : Option Order) (source : SourceRun) (out err : SinkRun) → HasOneReport order source out err 10
disturbed None source out err = tt
disturbed (Some o) source out err = λ by calm. absurd (calm.1.1 refl)
