-- From what is answered on a sorted scheme to what is answered on the bytes of its file.
use Rattle.std.proofs.Common.{◌≡◌, refl, sym, ◌∙◌, subst, ap, List, length, ℕ, ◌≤◌, Bool, true, false, Option, None, Result, Ok, Err, inl, inr}
use Rattle.std.specs.Prelude.{if◌then◌else◌}
use Rattle.hs_scheme.specs.declared.term.Rule.{Rule}
use Rattle.hs_scheme.specs.acceptance.Transition.{TransitionData}
use Rattle.hs_scheme.specs.Problem.{ProblemData}
use Rattle.hs_scheme.specs.flow.Points.{PointsData, IsPoints}
use Rattle.hs_scheme.proofs.PointLemmas.{are_points}
use Rattle.hs_scheme.proofs.PlaceLemmas.{once}
use Rattle.hs_scheme.specs.acceptance.Automaton.{next}
use Rattle.hs_scheme.specs.acceptance.Steps.{Path, Fails, Reaches, HasNoTransition}
use Rattle.hs_scheme.specs.acceptance.Run.{start, Accepts}
use Rattle.hs_scheme.specs.sorting.Unsorted.{UnsortedData, IsUnsorted}
use Rattle.hs_scheme.specs.sorting.Sorted.{SortedData, IsSorted, sorts_of}
use Rattle.hs_scheme.specs.Scheme.{AreRules}
use Rattle.hs_scheme.specs.SameTree.{FailsFromStart, HaveSameTree}
use Rattle.hs_scheme.specs.declared.term.Head.{Head}
use Rattle.hs_scheme.specs.declared.term.Head.TheVariants.{Tm}
use Rattle.hs_scheme.specs.Tree.{Tree, node}
use Rattle.hs_scheme.specs.TreeTerms.{AreSortedBy}
use Rattle.hs_steps.proofs.Failing.{accepted_without_failure, no_failure_accepted}
use Rattle.hs_steps.specs.Lengthened.{IsLengthened}
use Rattle.hs_steps.proofs.Trees.{reaches_of_file, failures_of_file}
use Rattle.hs_steps.proofs.SameEnds.{ends_alike}
use Rattle.hs_steps.proofs.PathLemmas.{ends_fails}
use Rattle.hs_reader.specs.Raw.{File}
use Rattle.hs_reader.specs.Faults.{IsFileWithin}
use Rattle.hs_resolve.specs.Numbering.{unsorted_of}
use Rattle.hs_resolve.specs.Answer.{IsFaultless}
use Rattle.hs_sorts.specs.Inference.{IsInferred}
use Rattle.hs_passes.specs.Passing.{KeepsRest}
use Rattle.hs_scheme.specs.acceptance.FailingPath.{FailingPathData}
use Rattle.hs_scheme.specs.acceptance.Failing.{IsFailingPath}
use Rattle.hs_front.specs.declared.refusal.Refusal.{Refusal}
use Rattle.hs_front.specs.declared.refusal.Refusal.TheVariants.{Usage, Source, FileTooLong, Syntax, Limit, Names, IllSorted, NotFirstOrder, SortTooLarge, RuleTooLong, PointLimit, FlowLimit, EntryLimit, Sink, OutOfMemory}
use Rattle.hs_words.specs.declared.options.Settings.{Settings}
use Rattle.hs_app.specs.declared.verdict.Decision.{Decision}
use Rattle.hs_app.specs.declared.verdict.Decision.TheVariants.{Accepted, Rejected, Long}
use Rattle.hs_app.specs.declared.verdict.Decided.{Decided}
use Rattle.hs_front.specs.Problems.{IsSortedFormOf, IsProblemOf, HasManyPoints, HasMuchFlow}
use Rattle.hs_app.specs.Problems.{Asked, IsSimplified, IsRemoved, OfForm, HasProblem}
use Rattle.hs_front.specs.Files.{IsSchemeOf}
use Rattle.hs_front.proofs.OneScheme.{scheme_is}
use Rattle.hs_front.specs.Faults.{IsSortable, IsFileFault}
use Rattle.hs_app.specs.Verdict.{FailsAlong, ReportsBy, ShowsBy, ShowsOf, Decides, DecidesForm, DecidesSimplified, DecidesSorted, Refused, IsAnsweredWith}

-- a path to a terminal without transition fails
ends_fail : (rules : List Rule) (ts : List TransitionData) (path : FailingPathData) → IsFailingPath rules ts path → Fails rules ts path.used 0 start path.steps
ends_fail rules ts path h = ends_fails rules ts path.used 0 start path.steps (path.state, node (Tm path.last) h.arguments, h.reaches, h.stuck)

-- ---- the rules that were saturated, the lengthened ones, and those of the file

module _ (u : UnsortedData) (form : SortedData) (unsorted : IsUnsorted u) (is_sorted : IsSorted form) (inferred : IsInferred u form) where
  made : IsLengthened u form
  made = record { sorting = inferred.least.sorting; rules = inferred.rules; automaton = inferred.automaton }

  transitions_are : form.automaton.transitions ≡ u.automaton.transitions
  transitions_are = ap (λ a. a.transitions) inferred.automaton

  are_sorted : AreSortedBy u.rules (length u.ranks) u.ranks u.automaton.transitions (sorts_of form.sorts form.scheme.ranks)
  are_sorted = record { are_rules = unsorted.rules; sorting = made.sorting; agree = unsorted.ranks }

  fails_too : (path : FailingPathData) → IsFailingPath form.scheme.rules form.automaton.transitions path → IsFailingPath u.rules u.automaton.transitions path
  fails_too path h = record {
    arguments = h.arguments;
    reaches = (reaches_of_file u form unsorted is_sorted made path.used path.steps path.state _).1 h.reaches;
    stuck = subst (λ (ts : List TransitionData). next ts path.state path.last ≡ None) transitions_are h.stuck;
  }

  module _ (settings : Settings) (asked : Asked) (of : asked.settings ≡ settings) (p : ProblemData) (simplified : IsSimplified asked form p.sorted) (removed : Option ℕ) where
    abbrev ts : List TransitionData
    ts = p.sorted.automaton.transitions

    of_form : ts ≡ form.automaton.transitions
    of_form = ap (λ a. a.transitions) simplified.rest.automaton

    of_rules : ts ≡ u.automaton.transitions
    of_rules = of_form ∙ transitions_are

    -- a path fails along the rules that were saturated where it fails along those of the file
    failing_back : (path : Path) → FailsFromStart p.sorted.scheme.rules ts 0 path → FailsFromStart u.rules u.automaton.transitions 0 path
    failing_back path h =
        let there = subst (λ (l : List TransitionData). FailsFromStart p.sorted.scheme.rules l 0 path) of_form h in
        let lengthened = (simplified.same_tree form.automaton.transitions is_sorted.ranks 0 path).1 there in
        (lengthened.0, (failures_of_file u form unsorted is_sorted made lengthened.0 path).1 lengthened.1)

    failing_over : (n : ℕ) (path : Path) → Fails u.rules u.automaton.transitions n 0 start path → FailsFromStart p.sorted.scheme.rules ts 0 path
    failing_over n path h =
        let lengthened = (failures_of_file u form unsorted is_sorted made n path).0 h in
        subst (λ (l : List TransitionData). FailsFromStart p.sorted.scheme.rules l 0 path) (sym of_form)
        ((simplified.same_tree form.automaton.transitions is_sorted.ranks 0 path).0 (n, lengthened))

    accepts_back : Accepts p.sorted.scheme.rules ts → Accepts u.rules u.automaton.transitions
    accepts_back accepts =
        accepted_without_failure u.rules u.automaton.transitions (length u.ranks) u.ranks (sorts_of form.sorts form.scheme.ranks) are_sorted
        (λ n path f. let g = failing_over n path f in no_failure_accepted p.sorted.scheme.rules ts accepts g.0 path g.1)

    rejects_back : (path : Path) → FailsFromStart p.sorted.scheme.rules ts 0 path → Accepts u.rules u.automaton.transitions → ⊥
    rejects_back path h accepts = let g = failing_back path h in no_failure_accepted u.rules u.automaton.transitions accepts g.0 path g.1

    -- so it does to the same terminal
    ends_back : AreRules p.sorted.scheme.rules (length p.sorted.scheme.ranks) → (path : FailingPathData) → IsFailingPath p.sorted.scheme.rules ts path
        → FailsAlong u.rules u.automaton.transitions path
    ends_back are path h =
        let back : HaveSameTree form.scheme.ranks p.sorted.scheme.rules form.scheme.rules = λ l agree q way. let both = simplified.same_tree l agree q way in (both.1, both.0) in
        let there =
        ends_alike form.scheme.ranks p.sorted.scheme.rules form.scheme.rules
        (subst (λ (ranks : List ℕ). AreRules p.sorted.scheme.rules (length ranks)) simplified.rest.ranks are) back form.automaton.transitions is_sorted.ranks
        path.used path.state path.last h.arguments path.steps
        (subst (λ (l : List TransitionData). Reaches p.sorted.scheme.rules l path.used 0 start path.steps path.state (node (Tm path.last) h.arguments)) of_form h.reaches)
        (subst (λ (l : List TransitionData). next l path.state path.last ≡ None) of_form h.stuck) in (
          there.0,
          fails_too (record path { used = there.0 }) (record {
            arguments = there.1;
            reaches = there.2;
            stuck = subst (λ (l : List TransitionData). next l path.state path.last ≡ None) of_form h.stuck;
          }),
        )

    -- where nothing was simplified, steps are counted along the file's rules
    walked_back : (b : Bool) → (b ≡ false → p.sorted ≡ form) → (path : FailingPathData)
        → IsFailingPath (if b then p.sorted.scheme.rules else p.sorted.scheme.rules) ts path
        → IsFailingPath (if b then p.sorted.scheme.rules else u.rules) u.automaton.transitions path
    walked_back true same path h = subst (λ (l : List TransitionData). IsFailingPath p.sorted.scheme.rules l path) of_rules h
    walked_back false same path h = fails_too path (subst (λ (s : SortedData). IsFailingPath s.scheme.rules s.automaton.transitions path) (same refl) h)

    reached_back : (b : Bool) → (b ≡ false → p.sorted ≡ form) → (n : ℕ) (path : Path) (q : ℕ) (t : Tree Head)
        → Reaches (if b then p.sorted.scheme.rules else p.sorted.scheme.rules) ts n 0 start path q t
        → Reaches (if b then p.sorted.scheme.rules else u.rules) u.automaton.transitions n 0 start path q t
    reached_back true same n path q t h = subst (λ (l : List TransitionData). Reaches p.sorted.scheme.rules l n 0 start path q t) of_rules h
    reached_back false same n path q t h =
        (reaches_of_file u form unsorted is_sorted made n path q t).1
        (subst (λ (s : SortedData). Reaches s.scheme.rules s.automaton.transitions n 0 start path q t) (same refl) h)

    same_form : settings.simplify ≡ false → p.sorted ≡ form
    same_form e = simplified.same (ap (λ (s : Settings). s.simplify) of ∙ e)

    judged : AreRules p.sorted.scheme.rules (length p.sorted.scheme.ranks) → (v : Decision) (text : List ℕ) → ReportsBy settings p.sorted.scheme.rules ts p removed v text → ReportsBy settings u.rules u.automaton.transitions p removed v text
    judged are Accepted text r = record {
      accepts = accepts_back r.accepts;
      table = r.table;
      least = r.least;
      lacks = r.lacks;
      within = r.within;
      checked = r.checked;
      count = r.count;
      tells = r.tells;
    }
    judged are Rejected text r =
        let there = record r.path { used = r.fails.0 } in record {
          rejects = rejects_back r.path.steps (r.fails.0, ends_fail p.sorted.scheme.rules ts there r.fails.1);
          table = r.table;
          reported = r.reported;
          within = r.within;
          path = r.path;
          fails = ends_back are there r.fails.1;
          walked = walked_back settings.simplify same_form r.path r.walked;
          few = r.few;
          supports = r.supports;
          supported = r.supported;
          canonical = r.canonical;
          names = r.names;
          tells = r.tells;
        }
    judged are Long text r = record {
      rejects = rejects_back r.whole r.fails;
      table = r.table;
      reported = r.reported;
      within = r.within;
      prefix = r.prefix;
      state = r.state;
      term = r.term;
      reaches = reached_back settings.simplify same_form settings.steps r.prefix r.state r.term r.reaches;
      goes_on = λ stuck. r.goes_on (subst (λ (l : List TransitionData). HasNoTransition l r.state r.term) (sym of_rules) stuck);
      supports = r.supports;
      supported = r.supported;
      canonical = r.canonical;
      need = r.need;
      whole = r.whole;
      names = r.names;
      longer = r.longer;
      rest = r.rest;
      begins = r.begins;
      fails = failing_back r.whole r.fails;
      tells = r.tells;
    }

    -- what evidence shows of the rules that were saturated, and of those before, it shows of the file's
    shown : (v : Decision) (text : List ℕ) → ShowsOf settings form p removed v text → ShowsBy settings u.rules u.automaton.transitions p removed v text
    shown Accepted text r = record {
      accepts = accepts_back r.accepts;
      table = r.table;
      void = r.void;
      reads = r.reads;
      own = r.own;
      certificate = r.certificate;
      listed = r.listed;
      tells = r.tells;
    }
    shown Rejected text r =
        let fails = fails_too r.path r.fails in record {
          rejects = λ accepts. no_failure_accepted u.rules u.automaton.transitions accepts r.path.used r.path.steps (ends_fail u.rules u.automaton.transitions r.path fails);
          path = r.path;
          fails = fails;
          few = r.few;
          tells = r.tells;
        }
    shown Long text r = absurd r

-- the points of a form are in range
points_of_form : (form : SortedData) (p : ProblemData) → IsProblemOf form p → AreRules form.scheme.rules (length form.scheme.ranks) → IsPoints p.points
points_of_form form p w are =
    subst (λ (d : PointsData). IsPoints d) (sym w.points)
    (are_points form.scheme.rules (length form.scheme.ranks) are (subst (λ (d : PointsData). length d.points ≤ 500000) w.points w.few_points) (once form.scheme.rules))

-- what is decided on a problem is decided on its scheme
pub of_problem : (settings : Settings) (before form : SortedData) (p : ProblemData) (removed : Option ℕ) (r : Result Decided Refusal) → IsProblemOf form p
    → AreRules form.scheme.rules (length form.scheme.ranks) → Decides settings before p removed r → DecidesForm settings before form removed r
of_problem settings before form p removed (Ok d) w are h = (are, (p, (w, h)))
of_problem settings before form p removed (Err EntryLimit) w are h = (p, (w, h))
of_problem settings before form p removed (Err OutOfMemory) w are h = tt
of_problem settings before form p removed (Err PointLimit) w are h = absurd h
of_problem settings before form p removed (Err FlowLimit) w are h = absurd h
of_problem settings before form p removed (Err Usage) w are h = absurd h
of_problem settings before form p removed (Err Source) w are h = absurd h
of_problem settings before form p removed (Err FileTooLong) w are h = absurd h
of_problem settings before form p removed (Err (Syntax line)) w are h = absurd h
of_problem settings before form p removed (Err (Limit which)) w are h = absurd h
of_problem settings before form p removed (Err (Names fault)) w are h = absurd h
of_problem settings before form p removed (Err (IllSorted rule)) w are h = absurd h
of_problem settings before form p removed (Err (NotFirstOrder terminal)) w are h = absurd h
of_problem settings before form p removed (Err (SortTooLarge rule)) w are h = absurd h
of_problem settings before form p removed (Err (RuleTooLong rule)) w are h = absurd h
of_problem settings before form p removed (Err Sink) w are h = absurd h

-- a refusal by the front end
pub refused : (asked : Asked) (bytes : List ℕ) (r : Refusal) → IsFileFault bytes r → Refused asked bytes r
refused asked bytes Usage h = absurd h
refused asked bytes Source h = absurd h
refused asked bytes FileTooLong h = absurd h
refused asked bytes (Syntax line) h = h
refused asked bytes (Limit which) h = h
refused asked bytes (Names fault) h = h
refused asked bytes (IllSorted rule) h = h
refused asked bytes (NotFirstOrder terminal) h = h
refused asked bytes (SortTooLarge rule) h = h
refused asked bytes (RuleTooLong rule) h = h
refused asked bytes PointLimit h = absurd h
refused asked bytes FlowLimit h = absurd h
refused asked bytes EntryLimit h = absurd h
refused asked bytes Sink h = absurd h
refused asked bytes OutOfMemory h = tt

module _ (asked : Asked) (bytes : List ℕ) (file : File) (reads : IsFileWithin bytes file) (faultless : IsFaultless file) where
  of_file : IsSchemeOf bytes (unsorted_of file)
  of_file = scheme_is bytes file reads faultless

  module _ (sorted : SortedData) (inferred : IsInferred (unsorted_of file) sorted) (unsorted : IsUnsorted (unsorted_of file)) where
    sound : IsSortable bytes (unsorted_of file)
    sound = record { of_bytes = of_file; sorted = sorted; inferred = inferred }

    form_of : IsSorted sorted → IsSortedFormOf (unsorted_of file) sorted
    form_of is = record { unsorted = unsorted; is_sorted = is; inferred = inferred }

    module _ (is_sorted : IsSorted sorted) (form : SortedData) (simplified : IsSimplified asked sorted form) (removed : Option ℕ) (lighter : IsRemoved asked.settings.simplify sorted form removed) where
      problem : (p : ProblemData) → IsProblemOf form p → HasProblem asked (unsorted_of file) p
      problem p w = record { form = sorted; of = form_of is_sorted; holds = subst (λ (s : SortedData). IsProblemOf s p) simplified.made w }

      many_points : HasManyPoints form → OfForm asked (unsorted_of file) HasManyPoints
      many_points many = record { form = sorted; of = form_of is_sorted; holds = subst (λ (s : SortedData). HasManyPoints s) simplified.made many }

      much_flow : HasMuchFlow form → OfForm asked (unsorted_of file) HasMuchFlow
      much_flow h = record { form = sorted; of = form_of is_sorted; holds = subst (λ (s : SortedData). HasMuchFlow s) simplified.made h }

      verdict : (d : Decided) (p : ProblemData) → IsProblemOf form p → AreRules form.scheme.rules (length form.scheme.ranks) → Decides asked.settings sorted p removed (Ok d)
          → IsAnsweredWith asked bytes (Ok d)
      unfolding problem
      verdict d p w are h = record {
        scheme = unsorted_of file;
        sound = sound;
        decides = record {
          problem = p;
          of = problem p w;
          points = points_of_form form p w are;
          rest = subst (λ (s : SortedData). KeepsRest sorted s) (sym w.same) simplified.rest;
          removed = removed;
          lighter = subst (λ (s : SortedData). IsRemoved asked.settings.simplify sorted s removed) (sym w.same) lighter;
          reports =
              let made_of = subst (λ (s : SortedData). IsSimplified asked sorted s) (sym w.same) simplified in
              elim h [
                | inl r ↦ inl (judged (unsorted_of file) sorted unsorted is_sorted inferred asked.settings asked refl p made_of removed
                    (subst (λ (s : SortedData). AreRules s.scheme.rules (length s.scheme.ranks)) (sym w.same) are) d.verdict d.report.items r)
                | inr (quick, r) ↦ inr (quick, shown (unsorted_of file) sorted unsorted is_sorted inferred asked.settings asked refl p made_of removed d.verdict d.report.items r)
              ];
        };
      }

      of_form_decided : (r : Result Decided Refusal) → DecidesForm asked.settings sorted form removed r → IsAnsweredWith asked bytes r
      of_form_decided (Ok d) h = verdict d h.1.0 h.1.1.0 h.0 h.1.1.1
      of_form_decided (Err EntryLimit) h = record { scheme = unsorted_of file; sound = sound; decides = (h.0, (problem h.0 h.1.0, h.1.1)) }
      of_form_decided (Err PointLimit) h = record { scheme = unsorted_of file; sound = sound; decides = many_points h }
      of_form_decided (Err FlowLimit) h = record { scheme = unsorted_of file; sound = sound; decides = much_flow h }
      of_form_decided (Err OutOfMemory) h = tt
      of_form_decided (Err Usage) h = absurd h
      of_form_decided (Err Source) h = absurd h
      of_form_decided (Err FileTooLong) h = absurd h
      of_form_decided (Err (Syntax line)) h = absurd h
      of_form_decided (Err (Limit which)) h = absurd h
      of_form_decided (Err (Names fault)) h = absurd h
      of_form_decided (Err (IllSorted rule)) h = absurd h
      of_form_decided (Err (NotFirstOrder terminal)) h = absurd h
      of_form_decided (Err (SortTooLarge rule)) h = absurd h
      of_form_decided (Err (RuleTooLong rule)) h = absurd h
      of_form_decided (Err Sink) h = absurd h

    simplified_decided : (r : Result Decided Refusal) → DecidesSimplified asked sorted r → IsAnsweredWith asked bytes r
    simplified_decided r h = of_form_decided h.is_sorted h.form h.simplified h.removed h.lighter r h.decides

    pub decided : (r : Result Decided Refusal) → DecidesSorted asked sorted r → IsAnsweredWith asked bytes r
    decided (Ok d) h = simplified_decided (Ok d) h
    decided (Err OutOfMemory) h = tt
    decided (Err EntryLimit) h = simplified_decided (Err EntryLimit) h
    decided (Err PointLimit) h = simplified_decided (Err PointLimit) h
    decided (Err FlowLimit) h = simplified_decided (Err FlowLimit) h
    decided (Err Usage) h = simplified_decided (Err Usage) h
    decided (Err Source) h = simplified_decided (Err Source) h
    decided (Err FileTooLong) h = simplified_decided (Err FileTooLong) h
    decided (Err (Syntax line)) h = simplified_decided (Err (Syntax line)) h
    decided (Err (Limit which)) h = simplified_decided (Err (Limit which)) h
    decided (Err (Names fault)) h = simplified_decided (Err (Names fault)) h
    decided (Err (IllSorted rule)) h = simplified_decided (Err (IllSorted rule)) h
    decided (Err (NotFirstOrder terminal)) h = simplified_decided (Err (NotFirstOrder terminal)) h
    decided (Err (SortTooLarge rule)) h = simplified_decided (Err (SortTooLarge rule)) h
    decided (Err (RuleTooLong rule)) h = simplified_decided (Err (RuleTooLong rule)) h
    decided (Err Sink) h = simplified_decided (Err Sink) h
