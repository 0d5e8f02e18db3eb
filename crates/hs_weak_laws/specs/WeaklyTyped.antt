-- Closures that have a type by a table weakly: by an entry whose type is as strong.
--     HasWeakType     an entry at the closure's point has a type as strong as this one, and the closures for its parameters have what it asks
--     HaveSets        each closure has each type of its set
--     HasEnv          closures for parameters have what an environment asks of them
-- All are written over the relation R that says which type is as strong as which.
use Rattle.std.specs.Prelude.{ℕ, List, [], ◌∷◌, slice_get, ◌≡◌, Some, Contains}
use Rattle.hs_scheme.specs.Tree.{Trees, node, children}
use Rattle.hs_scheme.specs.Problem.{ProblemData}
use Rattle.hs_table.specs.Types.{TypeTree}
use Rattle.hs_table.specs.Entries.{Env, EntryData, Has}
use Rattle.hs_table.specs.Follows.{IsAt}
use Rattle.hs_verdict.specs.Closures.{Closure}

pub data HasWeakType (R : TypeTree → TypeTree → Type 0) (p : ProblemData) (T : List EntryData) : Closure → TypeTree → Type 0 where
  has : {point : ℕ} {cs : Trees ℕ} {t : TypeTree} (env : Env) (place : ℕ) (ty : TypeTree) → IsAt p T place (record { point = point; env = env; ty = ty }) → R ty t
      → ((j : ℕ) (a : TypeTree) (c : Closure) → slice_get (children cs) j ≡ Some c → Has env j a → HasWeakType R p T c a) → HasWeakType R p T (node point cs) t

abbrev pub HaveSets : (TypeTree → TypeTree → Type 0) → ProblemData → List EntryData → List Closure → Env → Type 0
HaveSets R p T [] [] = Unit {0}
HaveSets R p T [] (s ∷ ss) = ⊥
HaveSets R p T (d ∷ ds) [] = ⊥
HaveSets R p T (d ∷ ds) (s ∷ ss) = ((a : TypeTree) → Contains s a → HasWeakType R p T d a) × HaveSets R p T ds ss

abbrev pub HasEnv : (TypeTree → TypeTree → Type 0) → ProblemData → List EntryData → List Closure → Env → Type 0
HasEnv R p T cs E = (j : ℕ) (a : TypeTree) (c : Closure) → slice_get cs j ≡ Some c → Has E j a → HasWeakType R p T c a
