-- What a step does to the fields of a core.
use Rattle.std.proofs.Common.{◌≡◌, refl, sym, ◌∙◌, ap, subst, ℕ, ◌≤◌, true, List, [], ◌∷◌, ◌++◌, length, slice_get, take, get_or, Option, Some, None, IsSome, All, AllPairs, ◌≢◌, arith, Contains, inl, inr, length-append}
use Rattle.hs_scheme.specs.Problem.{ProblemData}
use Rattle.hs_table.specs.Entries.{EntryData, InShape}
use Rattle.hs_scheme.specs.acceptance.Automaton.{IsAutomaton}
use Rattle.hs_scheme.proofs.Lists.{here, at_append, Contains-at, slice_get-push}
use Rattle.hs_table.specs.Tables.{IsSupportedTable, HasStart, IsStart}
use Rattle.hs_table_laws.proofs.Places.{place_of, within_from}
use Rattle.std.proofs.lemmas.Bool.{cases_order, false≢true}
use Rattle.std.proofs.lemmas.List.Elements.{Contains-push_cases, Contains-get_or}
use Rattle.std.proofs.lemmas.Option.{get_or_from_slice_get}
use Rattle.hs_table_laws.proofs.Least.{supports_support, starts_same}
use Rattle.hs_table_laws.proofs.Shapes.{follows_shape}
use Rattle.hs_types.specs.Interned.{InternerData, RowData, IsRow, entry_of, Grows}
use Rattle.hs_types.proofs.Numbers.{row_within}
use Rattle.hs_rules.specs.Conclusions.{DeducedData}
use Rattle.hs_history.specs.declared.step.Work.{Work}
use Rattle.hs_history.specs.declared.step.Work.TheVariants.{Place}
use Rattle.hs_history.specs.declared.step.Flight.{Flight}
use Rattle.hs_history.specs.declared.step.Event.TheVariants.{Take, Added, PastBudget, Finish, GiveBack}
use Rattle.hs_history.specs.Story.{Base, Deduction, Action, takes, adds, passes, finishes, gives_back, CoreStep, Story}
use Rattle.hs_history.specs.CoreStep.{State, without, put, work_under, GoesOn, CanTake, CanAdd, CanPass, CanFinish, CanStep, Holds, after}
use Rattle.hs_history.specs.History.{state_after, IsLegal}
use Rattle.hs_history.proofs.Histories.{legal_push, state_push, holds_after}
use Rattle.hs_history.proofs.Works.{without_first}
use Rattle.hs_core.specs.declared.state.Core.TheInside.{Inside}
use Rattle.hs_core.specs.Tickets.{under}
use Rattle.hs_core.specs.Core.{CoreData, deduction_of, state_of, log_of, stepped, StartsAt}
use Rattle.hs_core.specs.Answers.{IsFound, AddsOrPasses}
use Rattle.hs_core.specs.Inside.{Fields, kept_in, story_of, Shows, IsReadable, KnowsStart, IsInside}
use Rattle.hs_core.proofs.Telling.{told_stays, told_push, places_kept, places_same, deduction_end, past_same, past_grows, past_first, readable_weaker, readable_push}

at_once : {X : Type 0} (xs : List X) (i j : ℕ) (x : X) → AllPairs (λ a b. a ≢ b) xs → slice_get xs i ≡ Some x → slice_get xs j ≡ Some x → i ≡ j
at_once xs i j x distinct at_i at_j = elim (cases_order i j) [
  | inl same ↦ same
  | inr (inl below) ↦ absurd (distinct i j x below (within_from xs j x at_j) (get_or_from_slice_get xs i x x at_i ∙ sym (get_or_from_slice_get xs j x x at_j)))
  | inr (inr above) ↦ absurd (distinct j i x above (within_from xs i x at_i) (get_or_from_slice_get xs j x x at_j ∙ sym (get_or_from_slice_get xs i x x at_i)))
]

-- the fields of a core as plain data
abbrev pub base_of : Inside → Base
base_of a = record { problem = a.problem.now; budget = a.budget; first = a.first }

abbrev pub fields_of : Inside → Fields
fields_of a = record {
  ids = a.replica.ids;
  log = a.replica.log;
  supports = a.supports.items;
  pending = a.pending.works;
  flight = under a.tickets;
  past = a.past;
  journal = a.journal.steps;
  start = a.start;
}

-- the fields after a step
pub record Goes (base : Base) (f : Fields) (step : CoreStep) (g : Fields) : Type 0 where
  pub story : story_of g ≡ story_of f ++ step ∷ []
  pub inside : IsInside base g

-- the state that the fields show
abbrev pub state_in : Base → Fields → State
state_in base f = state_after base (story_of f)

go : (base : Base) (f g : Fields) (step : CoreStep) → IsInside base f → CanStep base (state_in base f) step → story_of g ≡ story_of f ++ step ∷ [] → Shows (after (state_in base f) step) g
    → ((d : DeducedData) → g.past ≡ Some d → IsRow g.ids d.row) → IsReadable (length g.log) g.past g.journal → KnowsStart base.problem g.log g.start → Goes base f step g
go base f g step inside can told shows rows readable start = record {
  story = told;
  inside = record {
    least_budget = inside.least_budget;
    greatest_budget = inside.greatest_budget;
    legal = subst (IsLegal base) (sym told) (legal_push base (story_of f) step inside.legal can);
    shows = subst (λ (story : Story). Shows (state_after base story) g) (sym told) (subst (λ (s : State). Shows s g) (sym (state_push base (story_of f) step)) shows);
    rows = rows;
    readable = readable;
    start = start;
  };
}

module _ (base : Base) (f : Fields) (inside : IsInside base f) where
  -- each entry has its support
  pub each : length f.supports ≡ length f.log
  each =
      let s = state_in base f in
      let h = (holds_after base (story_of f) inside.legal).sound.supports.each in
      ap (λ xs. length xs) (sym inside.shows.supports) ∙ h ∙ ap (λ xs. length xs) inside.shows.log

  -- the entries are in shape
  pub shapes : IsAutomaton base.problem.sorted.automaton → All (InShape base.problem) f.log
  shapes automaton =
      let s = state_in base f in
      let supports = (holds_after base (story_of f) inside.legal).sound.supports in
      let table = supports_support base.problem s.log s.supports supports in
      subst (λ xs. All (InShape base.problem) xs) inside.shows.log (each_in s.log (λ e c. table_shape base.problem s.log automaton table e c))
    where
      each_in : (xs : List EntryData) → ((e : EntryData) → Contains xs e → InShape base.problem e) → All (InShape base.problem) xs
      each_in xs h = λ k d lt. h (get_or xs k d) (Contains-get_or xs k d lt)

      table_shape : (p : ProblemData) (T : List EntryData) → IsAutomaton p.sorted.automaton → IsSupportedTable p T → (e : EntryData) → Contains T e → InShape p e
      table_shape p T automaton table e c = let at = place_of T e c in follows_shape p (take at.0 T) automaton.to e (table.follows at.0 e at.1)

  -- a pending work is taken
  module _ (worker ticket : ℕ) (work : Work) (rest : List Work) (none : f.past ≡ None) (not_found : base.first ≡ true → f.start ≡ None) (front : f.pending ≡ work ∷ rest) (free : f.flight ticket ≡ None) where
    pub can_take : CanTake base (state_in base f) work ticket
    can_take = record {
      none_kept = inside.shows.kept ∙ ap (λ past. kept_in f.ids past) none;
      goes_on = λ first start. inside.start.none (not_found first) (subst (λ xs. HasStart base.problem xs) inside.shows.log start);
      pending = subst (λ ws. Contains ws work) (sym (inside.shows.pending ∙ front)) (here work rest);
      free = inside.shows.flight ticket ∙ free;
    }

    abbrev pub taken : Fields
    taken = record {
      ids = f.ids;
      log = f.log;
      supports = f.supports;
      pending = rest;
      flight = put ticket (Some (record { worker = worker; work = work })) f.flight;
      past = f.past;
      journal = f.journal ++ (record { worker = worker; event = Take work ticket }) ∷ [];
      start = f.start;
    }

    pub takes_goes : Goes base f (record { worker = worker; action = takes work ticket }) taken
    takes_goes =
        go base f taken (record { worker = worker; action = takes work ticket }) inside can_take
        (told_push f.ids f.log f.supports f.past f.journal (record { worker = worker; event = Take work ticket }))
        (record {
          log = inside.shows.log;
          supports = inside.shows.supports;
          pending = ap (without work) (inside.shows.pending ∙ front) ∙ without_first work rest;
          flight = λ other. ap (λ o. put ticket (Some (record { worker = worker; work = work })) (λ t. o) other) (inside.shows.flight other);
          kept = inside.shows.kept;
        })
        inside.rows (readable_push (length f.log) f.past f.journal (record { worker = worker; event = Take work ticket }) inside.readable tt) inside.start

  -- an entry is added
  module _ (worker ticket : ℕ) (d : DeducedData) (start : Option ℕ) (can : CanAdd base (state_in base f) worker ticket (deduction_of f.ids d))
      (knows : KnowsStart base.problem (f.log ++ entry_of f.ids d.row ∷ []) start) where
    abbrev pub added : Fields
    added = record {
      ids = f.ids;
      log = f.log ++ entry_of f.ids d.row ∷ [];
      supports = f.supports ++ d.support ∷ [];
      pending = f.pending ++ Place (length f.log) ∷ [];
      flight = f.flight;
      past = f.past;
      journal = f.journal ++ (record { worker = worker; event = Added ticket (length f.log) }) ∷ [];
      start = start;
    }

    pub adds_goes : Goes base f (record { worker = worker; action = adds ticket (deduction_of f.ids d) }) added
    adds_goes =
        let L = f.log ++ entry_of f.ids d.row ∷ [] in
        let S = f.supports ++ d.support ∷ [] in
        go base f added (record { worker = worker; action = adds ticket (deduction_of f.ids d) }) inside can
        (told_push f.ids L S f.past f.journal (record { worker = worker; event = Added ticket (length f.log) })
        ∙ (λ i.
        told_stays f.ids f.ids f.log L f.supports S f.past f.past (places_kept f.log f.supports (entry_of f.ids d.row) d.support each) (past_same f.ids f.past) f.journal inside.readable i
        ++ (record { worker = worker; action = adds ticket (deduction_end f.log f.supports (entry_of f.ids d.row) d.support each i) }) ∷ []))
        (record {
          log = ap (λ xs. xs ++ entry_of f.ids d.row ∷ []) inside.shows.log;
          supports = ap (λ xs. xs ++ d.support ∷ []) inside.shows.supports;
          pending = λ i. inside.shows.pending i ++ Place (length (inside.shows.log i)) ∷ [];
          flight = inside.shows.flight;
          kept = inside.shows.kept;
        })
        inside.rows
        (readable_push (length L) f.past f.journal (record { worker = worker; event = Added ticket (length f.log) })
        (readable_weaker (length f.log) (length L) f.past f.past f.journal (omega (arith, length-append f.log (entry_of f.ids d.row ∷ []))) (λ some. some) inside.readable)
        (omega (arith, length-append f.log (entry_of f.ids d.row ∷ []))))
        knows

  -- an entry past the budget is kept
  module _ (worker ticket : ℕ) (d : DeducedData) (none : f.past ≡ None) (row : IsRow f.ids d.row) (can : CanPass base (state_in base f) worker ticket (deduction_of f.ids d)) where
    abbrev pub passed : Fields
    passed = record {
      ids = f.ids;
      log = f.log;
      supports = f.supports;
      pending = f.pending;
      flight = f.flight;
      past = Some d;
      journal = f.journal ++ (record { worker = worker; event = PastBudget ticket }) ∷ [];
      start = f.start;
    }

    pub passes_goes : Goes base f (record { worker = worker; action = passes ticket (deduction_of f.ids d) }) passed
    passes_goes =
        go base f passed (record { worker = worker; action = passes ticket (deduction_of f.ids d) }) inside can
        (told_push f.ids f.log f.supports (Some d) f.journal (record { worker = worker; event = PastBudget ticket })
        ∙ (λ i.
        told_stays f.ids f.ids f.log f.log f.supports f.supports f.past (Some d) (places_same f.log f.supports) (past_first f.ids f.past d none) f.journal inside.readable i
        ++ (record { worker = worker; action = passes ticket (deduction_of f.ids d) }) ∷ []))
        (record { log = inside.shows.log; supports = inside.shows.supports; pending = inside.shows.pending; flight = inside.shows.flight; kept = refl })
        (λ x is. subst (λ (y : DeducedData). IsRow f.ids y.row) (some_is d x is) row)
        (readable_push (length f.log) (Some d) f.journal (record { worker = worker; event = PastBudget ticket })
        (readable_weaker (length f.log) (length f.log) f.past (Some d) f.journal (omega arith) (λ some. refl) inside.readable) refl)
        inside.start
      where
        some_is : (x y : DeducedData) → Some x ≡ Some y → x ≡ y
        some_is x y e = (cc)

  -- a work is closed
  module _ (worker ticket : ℕ) (can : CanFinish base (state_in base f) worker ticket) where
    abbrev pub finished : Fields
    finished = record {
      ids = f.ids;
      log = f.log;
      supports = f.supports;
      pending = f.pending;
      flight = put ticket None f.flight;
      past = f.past;
      journal = f.journal ++ (record { worker = worker; event = Finish ticket }) ∷ [];
      start = f.start;
    }

    pub finishes_goes : Goes base f (record { worker = worker; action = finishes ticket }) finished
    finishes_goes =
        go base f finished (record { worker = worker; action = finishes ticket }) inside can
        (told_push f.ids f.log f.supports f.past f.journal (record { worker = worker; event = Finish ticket }))
        (record {
          log = inside.shows.log;
          supports = inside.shows.supports;
          pending = inside.shows.pending;
          flight = λ other. ap (λ o. put ticket None (λ t. o) other) (inside.shows.flight other);
          kept = inside.shows.kept;
        })
        inside.rows (readable_push (length f.log) f.past f.journal (record { worker = worker; event = Finish ticket }) inside.readable tt) inside.start

  -- a work is pending again
  module _ (worker ticket : ℕ) (flown : Flight) (holds : Holds (state_in base f) worker ticket) (there : f.flight ticket ≡ Some flown) where
    abbrev pub given_back : Fields
    given_back = record {
      ids = f.ids;
      log = f.log;
      supports = f.supports;
      pending = f.pending ++ flown.work ∷ [];
      flight = put ticket None f.flight;
      past = f.past;
      journal = f.journal ++ (record { worker = worker; event = GiveBack ticket }) ∷ [];
      start = f.start;
    }

    pub gives_back_goes : Goes base f (record { worker = worker; action = gives_back ticket }) given_back
    gives_back_goes =
        go base f given_back (record { worker = worker; action = gives_back ticket }) inside holds
        (told_push f.ids f.log f.supports f.past f.journal (record { worker = worker; event = GiveBack ticket }))
        (record {
          log = inside.shows.log;
          supports = inside.shows.supports;
          pending = λ i. inside.shows.pending i ++ work_under ((inside.shows.flight ticket ∙ there) i);
          flight = λ other. ap (λ o. put ticket None (λ t. o) other) (inside.shows.flight other);
          kept = inside.shows.kept;
        })
        inside.rows (readable_push (length f.log) f.past f.journal (record { worker = worker; event = GiveBack ticket }) inside.readable tt) inside.start

  -- types gain numbers
  abbrev pub more_ids : InternerData → Fields
  more_ids ids = record { ids = ids; log = f.log; supports = f.supports; pending = f.pending; flight = f.flight; past = f.past; journal = f.journal; start = f.start }

  pub ids_told : (ids : InternerData) → Grows f.ids ids → story_of (more_ids ids) ≡ story_of f
  ids_told ids grows = told_stays f.ids ids f.log f.log f.supports f.supports f.past f.past (places_same f.log f.supports) (λ some. past_grows f.ids ids f.past grows inside.rows) f.journal inside.readable

  pub ids_inside : (ids : InternerData) → Grows f.ids ids → IsInside base (more_ids ids)
  ids_inside ids grows = record {
    least_budget = inside.least_budget;
    greatest_budget = inside.greatest_budget;
    legal = subst (IsLegal base) (sym (ids_told ids grows)) inside.legal;
    shows = subst (λ (story : Story). Shows (state_after base story) (more_ids ids)) (sym (ids_told ids grows)) (record {
      log = inside.shows.log;
      supports = inside.shows.supports;
      pending = inside.shows.pending;
      flight = inside.shows.flight;
      kept = inside.shows.kept ∙ sym (past_grows f.ids ids f.past grows inside.rows);
    });
    rows = λ d is. row_within f.ids ids grows d.row (inside.rows d is);
    readable = inside.readable;
    start = inside.start;
  }

  -- in a log that is the same
  abbrev pub brought : InternerData → List EntryData → Fields
  brought ids log = record { ids = ids; log = log; supports = f.supports; pending = f.pending; flight = f.flight; past = f.past; journal = f.journal; start = f.start }

  pub brought_inside : (ids : InternerData) (log : List EntryData) → log ≡ f.log → Grows f.ids ids → IsInside base (brought ids log)
  brought_inside ids log same grows = subst (λ xs. IsInside base (brought ids xs)) (sym same) (ids_inside ids grows)

  pub brought_told : (ids : InternerData) (log : List EntryData) → log ≡ f.log → Grows f.ids ids → story_of (brought ids log) ≡ story_of f
  brought_told ids log same grows = ap (λ xs. story_of (brought ids xs)) same ∙ ids_told ids grows

-- the place of the start entry
module _ (p : ProblemData) (log : List EntryData) (e : EntryData) (start : Option ℕ) (knows : KnowsStart p log start) where
  pub start_here : IsStart p e → KnowsStart p (log ++ e ∷ []) (Some (length log))
  start_here is = record {
    place = λ i same. record { entry = e; at = ap (λ n. slice_get (log ++ e ∷ []) n) (sym (some_is (length log) i same)) ∙ slice_get-push log e; is_start = is };
    none = λ none. absurd (let n : Some (length log) ≡ None = none in cc);
  }
    where
      some_is : (m n : ℕ) → Some m ≡ Some n → m ≡ n
      some_is m n e = (cc)

  pub start_elsewhere : (IsStart p e → ⊥) → KnowsStart p (log ++ e ∷ []) start
  start_elsewhere other = record {
    place = λ i same. let at = knows.place i same in record { entry = at.entry; at = at_append log (e ∷ []) i at.entry at.at; is_start = at.is_start };
    none = λ none (x, (is, there)). elim (Contains-push_cases log e x there) [
      | inl before ↦ knows.none none (x, (is, before))
      | inr last ↦ other (subst (λ y. IsStart p y) (sym last) is)
    ];
  }

-- what contracts see
abbrev pub value_of : Base → Fields → ℕ → CoreData
value_of base f spare = record { base = base; ids = f.ids; story = story_of f; spare = spare }

pub steps_to : (base : Base) (f g : Fields) (worker : ℕ) (action : Action) (m n k : ℕ) (v : CoreData) → value_of base f m ≡ v → Goes base f (record { worker = worker; action = action }) g → g.ids ≡ f.ids → n ≡ k
    → value_of base g n ≡ stepped v worker action k
steps_to base f g worker action m n k v is goes ids same = λ i. record {
  base = (is i).base;
  ids = (ids ∙ ap (λ (c : CoreData). c.ids) is) i;
  story = (goes.story ∙ ap (λ (c : CoreData). c.story ++ (record { worker = worker; action = action }) ∷ []) is) i;
  spare = same i;
}

-- fields that are the same in other words
pub goes_as : (base : Base) (f : Fields) (step : CoreStep) (g h : Fields) → Goes base f step g → h ≡ g → Goes base f step h
goes_as base f step g h goes same = subst (λ (x : Fields). Goes base f step x) (sym same) goes

-- what contracts see of the state is what the fields show
module _ (base : Base) (f : Fields) (inside : IsInside base f) (spare : ℕ) (v : CoreData) (is : value_of base f spare ≡ v) where
  pub seen : Shows (state_of v) f
  seen = subst (λ (w : CoreData). Shows (state_of w) f) is inside.shows

  pub seen_base : base ≡ v.base
  seen_base = ap (λ (w : CoreData). w.base) is

  start_seen : (place : ℕ) → StartsAt base.problem f.log place → StartsAt v.base.problem (log_of v) place
  start_seen place at = subst (λ (b : Base). StartsAt b.problem (log_of v) place) seen_base (subst (λ xs. StartsAt base.problem xs place) (sym seen.log) at)

  pub found_here : (place : ℕ) → base.first ≡ true → f.start ≡ Some place → IsFound v place
  found_here place first here = record { first = subst (λ (b : Base). b.first ≡ true) seen_base first; start = start_seen place (inside.start.place place here) }

  pub start_place : (place : ℕ) → f.start ≡ Some place → StartsAt v.base.problem (log_of v) place
  start_place place here = start_seen place (inside.start.place place here)

  pub start_nowhere : f.start ≡ None → HasStart v.base.problem (log_of v) → ⊥
  start_nowhere none start =
      inside.start.none none (subst (λ xs. HasStart base.problem xs) seen.log (subst (λ (b : Base). HasStart b.problem (log_of v)) (sym seen_base) start))

  -- there is one place at most
  pub only_here : (place : ℕ) → IsFound v place → f.start ≡ Some place
  only_here place found = go f.start refl
    where
      distinct : AllPairs (λ a b. a ≢ b) (log_of v)
      distinct = (holds_after v.base v.story (subst (λ (w : CoreData). IsLegal w.base w.story) is inside.legal)).sound.supports.distinct

      go : (start : Option ℕ) → f.start ≡ start → f.start ≡ Some place
      go None e = absurd (start_nowhere e (found.start.entry, (found.start.is_start, Contains-at (log_of v) place found.start.entry found.start.at)))
      go (Some i) e =
          let other = start_place i e in
          let same = starts_same v.base.problem other.entry found.start.entry other.is_start found.start.is_start in
          e ∙ ap (λ n. Some n) (at_once (log_of v) i place found.start.entry distinct (other.at ∙ ap (λ x. Some x) same) found.start.at)

  -- where nothing is found, works are given out
  pub goes_on : ((place : ℕ) → IsFound v place → ⊥) → GoesOn v.base (log_of v)
  goes_on never first (e, (start, there)) = let at = place_of (log_of v) e there in never at.0 (record { first = first; start = record { entry = e; at = at.1; is_start = start } })

  pub no_start : ((place : ℕ) → IsFound v place → ⊥) → base.first ≡ true → f.start ≡ None
  no_start never first = go f.start refl
    where
      go : (start : Option ℕ) → f.start ≡ start → f.start ≡ None
      go None e = e
      go (Some i) e = absurd (never i (found_here i first e))

  pub seen_kept : f.past ≡ None → (state_of v).kept ≡ None
  seen_kept none = seen.kept ∙ ap (λ past. kept_in f.ids past) none

  pub some_kept : IsSome f.past → IsSome (state_of v).kept
  some_kept some = subst (λ k. IsSome k) (sym seen.kept) (go f.past some)
    where
      go : (past : Option DeducedData) → IsSome past → IsSome (kept_in f.ids past)
      go None h = h
      go (Some d) h = refl

  pub none_past : (state_of v).kept ≡ None → f.past ≡ None
  none_past none = go f.past (sym seen.kept ∙ none)
    where
      go : (past : Option DeducedData) → kept_in f.ids past ≡ None → past ≡ None
      go None e = refl
      go (Some d) e = absurd (cc)

  -- what is known of the start once an entry is added
  pub knows_seen : (row : RowData) (start : Option ℕ) → KnowsStart base.problem (f.log ++ entry_of f.ids row ∷ []) start → KnowsStart v.base.problem (log_of v ++ entry_of v.ids row ∷ []) start
  knows_seen row start knows =
      subst (λ (b : Base). KnowsStart b.problem (log_of v ++ entry_of v.ids row ∷ []) start) seen_base
      (subst (λ (ids : InternerData). KnowsStart base.problem (log_of v ++ entry_of ids row ∷ []) start) (ap (λ (w : CoreData). w.ids) is)
      (subst (λ xs. KnowsStart base.problem (xs ++ entry_of f.ids row ∷ []) start) (sym seen.log) knows))

  pub knows_fields : (row : RowData) (start : Option ℕ) → KnowsStart v.base.problem (log_of v ++ entry_of v.ids row ∷ []) start → KnowsStart base.problem (f.log ++ entry_of f.ids row ∷ []) start
  knows_fields row start knows =
      subst (λ (b : Base). KnowsStart b.problem (f.log ++ entry_of f.ids row ∷ []) start) (sym seen_base)
      (subst (λ (ids : InternerData). KnowsStart v.base.problem (f.log ++ entry_of ids row ∷ []) start) (sym (ap (λ (w : CoreData). w.ids) is))
      (subst (λ xs. KnowsStart v.base.problem (xs ++ entry_of v.ids row ∷ []) start) seen.log knows))

  pub brought_value : (ids : InternerData) (log : List EntryData) → log ≡ f.log → Grows f.ids ids → value_of base (brought base f inside ids log) spare ≡ record { base = v.base; ids = ids; story = v.story; spare = v.spare }
  brought_value ids log same grows = λ i. record {
    base = (is i).base;
    ids = ids;
    story = (brought_told base f inside ids log same grows ∙ ap (λ (w : CoreData). w.story) is) i;
    spare = (is i).spare;
  }

  -- a new entry, and a full log
  pub absent_seen : (d : DeducedData) → (Contains f.log (entry_of f.ids d.row) → ⊥) → Contains (log_of v) (entry_of v.ids d.row) → ⊥
  absent_seen d absent c = absent (subst (λ (ids : InternerData). Contains f.log (entry_of ids d.row)) (sym (ap (λ (w : CoreData). w.ids) is)) (subst (λ xs. Contains xs (entry_of v.ids d.row)) seen.log c))

  pub full_seen : base.budget ≤ length f.log → length (log_of v) ≡ v.base.budget
  full_seen full =
      let within = (holds_after v.base v.story (subst (λ (w : CoreData). IsLegal w.base w.story) is inside.legal)).sound.within in
      omega (arith, within, full, ap (λ xs. length xs) seen.log, ap (λ (b : Base). b.budget) seen_base)

-- an entry past the budget, where one is kept already
pub passes_again : (old : CoreData) (worker ticket : ℕ) (d : Deduction) (kept : Option Deduction) → IsSome kept → AddsOrPasses old worker ticket d old kept
passes_again old worker ticket d None some = absurd (false≢true some)
passes_again old worker ticket d (Some x) some = refl
