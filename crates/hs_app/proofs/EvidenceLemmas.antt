-- Lists that ascend, and what evidence decides.
use Rattle.std.proofs.Common.{◌≡◌, ◌≢◌, sym, ◌∙◌, ap, subst, ℕ, ◌+◌, ◌<◌, true, false, Option, Some, None, List, length, map, Result, Ok, Err, get_or, AllPairs, inl, inr, arith}
use Rattle.std.specs.Prelude.{OnOk, is_err}
use Rattle.std.specs.Option.{IfSome}
use Rattle.std.specs.Cmp.{IsTotalOrder}
use Rattle.std.specs.declared.cmp.Ordering.{Ordering}
use Rattle.std.specs.declared.cmp.Ordering.TheVariants.{Less, Equal}
use Rattle.std.proofs.lemmas.Cmp.{tied_itself}
use Rattle.std.proofs.lemmas.List.{get_or-map, length-map}
use Rattle.hs_scheme.specs.declared.term.Head.TheVariants.{Tm}
use Rattle.hs_scheme.specs.flow.Flow.{IsAscending}
use Rattle.hs_checker.proofs.Ordered.{ascending_from}
use Rattle.hs_scheme.specs.acceptance.FailingPath.{FailingPathData}
use Rattle.hs_scheme.specs.Problem.{ProblemData}
use Rattle.hs_scheme.specs.acceptance.Run.{start}
use Rattle.hs_scheme.specs.sorting.Sorted.{SortedData}
use Rattle.hs_scheme.specs.Tree.{node}
use Rattle.hs_steps.proofs.Failing.{no_failure_accepted}
use Rattle.hs_steps.proofs.PathLemmas.{ends_fails}
use Rattle.hs_reduce.specs.Replays.{IsFailureWithin}
use Rattle.hs_front.specs.declared.refusal.Refusal.{Refusal}
use Rattle.hs_text.specs.Report.{path_summary}
use Rattle.hs_words.specs.declared.options.Settings.{Settings}
use Rattle.hs_app.specs.declared.verdict.Decided.{Decided}
use Rattle.hs_app.specs.declared.verdict.Decision.{Decision}
use Rattle.hs_app.specs.declared.verdict.Decision.TheVariants.{Rejected}
use Rattle.hs_app.specs.Verdict.{DecidesProblem, DecidesQuickly, Decides, ShowsOf}

-- no two items of a list that ascends are equal
pub distinct : {X : Type 0} (R : X → X → Ordering) → IsTotalOrder R → (xs : List X) → IsAscending R xs → AllPairs (λ a b. a ≢ b) xs
distinct R total xs up i j d less within e =
    let b = get_or xs j d in
    let f : Less ≡ Equal = sym (up i j d less within) ∙ (ap (λ c. R c b) e ∙ tied_itself total b) in
    (cc)

-- a list whose items are told by rows ascends where each row's item is less than the next one's
pub ascending_rows : {A X : Type 0} (R : X → X → Ordering) → IsTotalOrder R → ((a b : X) → R a b ≡ Equal → a ≡ b) → (f : A → X) (d : A) (rows : List A) (xs : List X)
    → map f rows ≡ xs → ((k : ℕ) (e : A) → k + 1 < length rows → R (f (get_or rows k e)) (f (get_or rows (k + 1) e)) ≡ Less) → IsAscending R xs
ascending_rows R total same f d rows xs is near =
    let count = length-map rows f in
    subst (λ ys. IsAscending R ys) is (ascending_from R total same (map f rows) (λ k e lt.
    let two : k + 1 < length rows = subst (λ n. k + 1 < n) count lt in
    let first = get_or-map f rows k d e (omega (arith, two)) in
    let second = get_or-map f rows (k + 1) d e two in
    ap (λ x. R x (get_or (map f rows) (k + 1) e)) first ∙ (ap (λ y. R (f (get_or rows k d)) y) second ∙ near k d two)))

-- what holds where no fault is answered
pub without_fault : {A E : Type 0} (r : Result A E) (P : Type 0) → is_err r ≡ false → OnOk r P → P
without_fault (Ok x) P e h = h
without_fault (Err y) P e h = absurd (cc)

-- a path that fails within the steps decides, where it is reported
pub path_decides : (settings : Settings) (before : SortedData) (p : ProblemData) (removed : Option ℕ) (path : List ℕ) (failing : FailingPathData) (o : Option Decided) → settings.quick ≡ true
    → IsFailureWithin before path settings.steps failing
    → IfSome o (λ d. (d.verdict ≡ Rejected) × (d.report.items ≡ path_summary p failing removed))
    → IfSome o (DecidesQuickly settings before p removed)
path_decides settings before p removed path failing None quick is h = tt
path_decides settings before p removed path failing (Some d) quick is h =
    let rules = before.scheme.rules in
    let ts = before.automaton.transitions in (
      quick,
      subst (λ (v : Decision). ShowsOf settings before p removed v d.report.items) (sym h.0) (record {
        rejects = λ accepts.
            no_failure_accepted rules ts accepts failing.used failing.steps
            (ends_fails rules ts failing.used 0 start failing.steps (failing.state, node (Tm failing.last) is.fails.arguments, is.fails.reaches, is.fails.stuck));
        path = failing;
        fails = is.fails;
        few = is.few;
        tells = h.1;
      }),
    )

-- what evidence decides is decided, and what the table does
pub by_evidence_decides : (settings : Settings) (before source : SortedData) (p : ProblemData) (removed : Option ℕ) (d : Decided) → before ≡ source
    → DecidesQuickly settings before p removed d → Decides settings source p removed (Ok d)
by_evidence_decides settings before source p removed d same h = inr (subst (λ (s : SortedData). DecidesQuickly settings s p removed d) same h)

pub by_table_decides : (settings : Settings) (source : SortedData) (p : ProblemData) (removed : Option ℕ) (r : Result Decided Refusal) → DecidesProblem settings p removed r
    → Decides settings source p removed r
by_table_decides settings source p removed (Ok d) h = inl h
by_table_decides settings source p removed (Err r) h = h
