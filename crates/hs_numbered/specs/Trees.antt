-- Types, sets, environments and entries in shape for some number of states, or some problem.
use Rattle.std.specs.Prelude.{ℕ, List, Contains}
use Rattle.hs_scheme.specs.Problem.{ProblemData}
use Rattle.hs_table.specs.Types.{TypeTree, IsSet, IsType}
use Rattle.hs_table.specs.Entries.{Env, EntryData, Has, set_at, InShape}

pub record IsSomeType (t : TypeTree) : Type 0 where
  pub states : ℕ
  pub is : IsType states t

pub record IsSomeSet (s : List TypeTree) : Type 0 where
  pub states : ℕ
  pub ascends : IsSet s
  pub types : (a : TypeTree) → Contains s a → IsType states a

pub record IsSomeEnv (E : Env) : Type 0 where
  pub states : ℕ
  pub sets : (j : ℕ) → IsSet (set_at E j)
  pub types : (j : ℕ) (a : TypeTree) → Has E j a → IsType states a

pub record IsSomeEntry (e : EntryData) : Type 0 where
  pub problem : ProblemData
  pub shape : InShape problem e
