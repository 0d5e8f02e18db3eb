-- What a seat has seen, and a replica of it.
use Rattle.std.proofs.Common.{sym, subst, List, take, get_or, All, Contains}
use Rattle.std.proofs.lemmas.List.Elements.{Contains-get_or, Contains-append_left}
use mathlib.Core.List.{IsPrefix}
use Rattle.hs_scheme.specs.Problem.{ProblemData}
use Rattle.hs_scheme.specs.acceptance.Automaton.{IsAutomaton}
use Rattle.hs_table.specs.Entries.{EntryData, InShape}
use Rattle.hs_table.specs.Tables.{IsSupportedTable}
use Rattle.hs_table_laws.proofs.Places.{place_of}
use Rattle.hs_table_laws.proofs.Least.{supports_support}
use Rattle.hs_table_laws.proofs.Shapes.{follows_shape}
use Rattle.hs_types.specs.Interned.{InternerData}
use Rattle.hs_rules.specs.Conclusions.{DeducedData}
use Rattle.hs_history.specs.declared.step.Work.{Work}
use Rattle.hs_history.specs.Story.{Base, Story}
use Rattle.hs_history.specs.CoreStep.{IsClosedWork}
use Rattle.hs_history.specs.History.{state_after, IsLegal}
use Rattle.hs_history.proofs.Histories.{holds_after}
use Rattle.hs_workers.specs.Forming.{HasFound, AreFormed}

abbrev pub log_after : Base → Story → List EntryData
log_after base story = (state_after base story).log

-- what is in a beginning is there
pub in_whole : (log whole : List EntryData) (e : EntryData) → IsPrefix log whole → Contains log e → Contains whole e
in_whole log whole e p c = subst (λ xs. Contains xs e) p.1 (Contains-append_left log p.0 e c)

-- entries are in shape
pub shapes : (base : Base) (story : Story) (log : List EntryData) → IsAutomaton base.problem.sorted.automaton → IsLegal base story → IsPrefix log (log_after base story) → All (InShape base.problem) log
shapes base story log automaton legal p =
    let s = state_after base story in
    let table = supports_support base.problem s.log s.supports (holds_after base story legal).sound.supports in
    each_in log (λ e c. table_shape base.problem s.log automaton table e (in_whole log s.log e p c))
  where
    each_in : (xs : List EntryData) → ((e : EntryData) → Contains xs e → InShape base.problem e) → All (InShape base.problem) xs
    each_in xs h = λ k d lt. h (get_or xs k d) (Contains-get_or xs k d lt)

    table_shape : (p : ProblemData) (T : List EntryData) → IsAutomaton p.sorted.automaton → IsSupportedTable p T → (e : EntryData) → Contains T e → InShape p e
    table_shape p T automaton table e c = let at = place_of T e c in follows_shape p (take at.0 T) automaton.to e (table.follows at.0 e at.1)

-- what was formed is there: the work is closed
pub formed_closed : (p : ProblemData) (ids : InternerData) (log whole : List EntryData) (work : Work) (found : List DeducedData) → IsPrefix log whole → AreFormed p ids log work found → HasFound ids found whole → IsClosedWork p whole work
formed_closed p ids log whole work found q are has = subst (λ xs. IsClosedWork p xs work) q.1 (are.closes q.0 (subst (λ xs. HasFound ids found xs) (sym q.1) has))
