-- Closures that have a type by a table, and closures that the flow knows.
--     HasType      an entry at the closure's point has the type, and the closures for its parameters have what it asks of them
--     Have         each closure has each type of its set
--     Flows        each closure in it may stand for its parameter
--     Fits         what the point may become takes the closures of the stack
--     IsGood       a configuration that the flow knows
use Rattle.std.specs.Prelude.{◌≡◌, ℕ, ◌+◌, List, [], ◌∷◌, slice_get, Some, Contains}
use Rattle.hs_scheme.specs.declared.term.Rule.{Rule}
use Rattle.hs_scheme.specs.declared.flow.Pair.{Pair}
use Rattle.hs_scheme.specs.declared.flow.Pair.TheVariants.{OfFlow, OfHead}
use Rattle.hs_scheme.specs.Tree.{Trees, node, children}
use Rattle.hs_scheme.specs.flow.Points.{PointData, points_of}
use Rattle.hs_scheme.specs.flow.Flow.{HasParameter}
use Rattle.hs_scheme.specs.Problem.{ProblemData}
use Rattle.hs_table.specs.Types.{TypeTree}
use Rattle.hs_table.specs.Entries.{Env, EntryData, Has}
use Rattle.hs_table.specs.Follows.{IsAt}
use Rattle.hs_verdict.specs.Closures.{Closure, root}

pub data HasType (p : ProblemData) (T : List EntryData) : Closure → TypeTree → Type 0 where
  has : {point : ℕ} {cs : Trees ℕ} {t : TypeTree} (env : Env) (place : ℕ) → IsAt p T place (record { point = point; env = env; ty = t })
      → ((j : ℕ) (a : TypeTree) (c : Closure) → slice_get (children cs) j ≡ Some c → Has env j a → HasType p T c a) → HasType p T (node point cs) t

abbrev pub Have : ProblemData → List EntryData → List Closure → Env → Type 0
Have p T [] [] = Unit {0}
Have p T [] (s ∷ ss) = ⊥
Have p T (d ∷ ds) [] = ⊥
Have p T (d ∷ ds) (s ∷ ss) = ((a : TypeTree) → Contains s a → HasType p T d a) × Have p T ds ss

-- by the flow pairs and head pairs `found`
pub data Flows (rules : List Rule) (found : List Pair) : Closure → Type 0 where
  flows : {point : ℕ} {cs : Trees ℕ} (d : PointData) → slice_get (points_of rules).points point ≡ Some d
      → ((j : ℕ) (c : Closure) → slice_get (children cs) j ≡ Some c → Contains found (OfFlow (record { rule = d.rule; param = j; point = root c })))
      → ((j : ℕ) (c : Closure) → slice_get (children cs) j ≡ Some c → Flows rules found c)
      → Flows rules found (node point cs)

abbrev pub Fits : List Rule → List Pair → ℕ → List Closure → Type 0
Fits rules found point ds =
    (f g i : ℕ) (d : Closure) → Contains found (OfHead (record { point = point; rule = f; given = g })) → slice_get ds i ≡ Some d → HasParameter rules f (g + i)
    → Contains found (OfFlow (record { rule = f; param = g + i; point = root d }))

pub record IsGood (rules : List Rule) (found : List Pair) (c : Closure) (ds : List Closure) : Type 0 where
  pub front : Flows rules found c
  pub stack : (i : ℕ) (d : Closure) → slice_get ds i ≡ Some d → Flows rules found d
  pub fits : Fits rules found (root c) ds
