-- How far a walk has come; only private contracts cite it.
--     listed       a label, as a path
--     IsWalking    from the continuation, with the stack, the naming goes on as long as the path that the log names, and leads the term that has
--                  been reached
use Rattle.std.specs.Prelude.{◌≡◌, ℕ, ◌+◌, List, [], ◌∷◌, ◌++◌, length, Option, Some, None}
use Rattle.hs_scheme.specs.declared.term.Head.{Head}
use Rattle.hs_scheme.specs.Tree.{Tree}
use Rattle.hs_scheme.specs.Problem.{ProblemData}
use Rattle.hs_scheme.specs.acceptance.Run.{start}
use Rattle.hs_scheme.specs.acceptance.Steps.{Path, Reaches}
use Rattle.hs_table.specs.Entries.{EntryData}
use Rattle.hs_table.specs.Follows.{Support}
use Rattle.hs_verdict.specs.Evidence.{Evidence, Packs}
use Rattle.hs_verdict.specs.Naming.{Named, NamesPath}
use Rattle.hs_verdict.specs.Leading.{Leads}
use Rattle.hs_path.specs.declared.evidence.Store.{Store}
use Rattle.hs_path.specs.declared.evidence.Continuation.{Continuation}
use Rattle.hs_path.specs.Stored.{Nothing, Piled}
use Rattle.hs_path.specs.Moved.{IsContinuationAt}

abbrev pub listed : Option (ℕ × ℕ) → Path
listed None = []
listed (Some label) = label ∷ []

pub record IsWalking (p : ProblemData) (T : List EntryData) (supports : List Support) (s : Store) (items : List ℕ) (continuation : Continuation) (trail : Path) (used : ℕ) : Type 0 where
  pub nothing : Nothing (length T) s
  pub evidence : Evidence
  pub at : IsContinuationAt (length T) s continuation evidence
  pub packs : Packs
  pub stack : Piled (length T) s (length s.nodes.items) items 0 (length items) packs
  pub need : ℕ
  pub path : Path
  pub names : NamesPath p T supports need path
  pub moves : ℕ
  pub steps : ℕ
  pub rest : Path
  pub named : Named p T supports moves evidence packs steps rest
  pub counted : used + steps ≡ need
  pub whole : path ≡ trail ++ rest
  pub state : ℕ
  pub term : Tree Head
  pub reached : Reaches p.sorted.scheme.rules p.sorted.automaton.transitions used 0 start trail state term
  pub leads : Leads p T supports moves state term evidence packs
