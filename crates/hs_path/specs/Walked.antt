-- What a walk along a core's log comes to.
--     IsNamedPath     the path that the log names, within the limit on steps; it leads, in as many steps as the naming needs, to its last
--                     terminal, which has no transition in its state
--     IsLongerPath    the log names a longer path; as many steps as the limit lead along its beginning, and not to a terminal without transition
--     IsWalk          so by the answer. A log names one path, so each answer comes exactly where its path has that length
use Rattle.std.specs.Prelude.{◌≡◌, ℕ, ◌<◌, ◌≤◌, List, ◌++◌}
use Rattle.hs_scheme.specs.declared.term.Head.{Head}
use Rattle.hs_scheme.specs.Tree.{Tree}
use Rattle.hs_scheme.specs.Problem.{ProblemData}
use Rattle.hs_scheme.specs.acceptance.Run.{start}
use Rattle.hs_scheme.specs.acceptance.Steps.{Path, Reaches, HasNoTransition}
use Rattle.hs_table.specs.Entries.{EntryData}
use Rattle.hs_table.specs.Follows.{Support}
use Rattle.hs_verdict.specs.Naming.{NamesPath}
use Rattle.hs_scheme.specs.acceptance.FailingPath.{FailingPathData}
use Rattle.hs_scheme.specs.acceptance.Failing.{IsFailingPath}
use Rattle.hs_path.specs.declared.answer.Walk.{Walk}
use Rattle.hs_path.specs.declared.answer.Walk.TheVariants.{Found, StepLimit}

pub record IsNamedPath (p : ProblemData) (log : List EntryData) (supports : List Support) (limit : ℕ) (path : FailingPathData) : Type 0 where
  pub names : NamesPath p log supports path.used path.steps
  pub few : path.used ≤ limit
  pub fails : IsFailingPath p.sorted.scheme.rules p.sorted.automaton.transitions path

pub record IsLongerPath (p : ProblemData) (log : List EntryData) (supports : List Support) (limit : ℕ) (prefix : Path) : Type 0 where
  pub need : ℕ
  pub path : Path
  pub names : NamesPath p log supports need path
  pub longer : limit < need
  pub rest : Path
  pub begins : path ≡ prefix ++ rest
  pub state : ℕ
  pub term : Tree Head
  pub reaches : Reaches p.sorted.scheme.rules p.sorted.automaton.transitions limit 0 start prefix state term
  pub goes_on : HasNoTransition p.sorted.automaton.transitions state term → ⊥

abbrev pub IsWalk : ProblemData → List EntryData → List Support → ℕ → Walk → Type 0
IsWalk p log supports limit (Found path) = IsNamedPath p log supports limit path
IsWalk p log supports limit (StepLimit prefix) = IsLongerPath p log supports limit prefix.items
