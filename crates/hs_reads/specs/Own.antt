-- The reads of a problem: the least closed list of pairs; or all pairs, where too much is found on the way.
--     IsBecoming p b       a point that flows to the parameter may become the terminal with so many arguments given
--     AreMany P            more than 4,000,000 things are such
--     HasManyReads p       more than 4,000,000 pairs are in each closed list, or parameters may become more than 4,000,000 terminals together
--     AreAllPairs p R      R has each pair of a point and a state
--     AreReadsOf p R       R has all pairs where there are too many, and else it is the least closed list
use Rattle.std.specs.Prelude.{◌≢◌, ℕ, ◌<◌, List, length, Contains, ◌⊎◌, ◌↔◌, AllPairs}
use Rattle.hs_scheme.specs.Problem.{ProblemData}
use Rattle.hs_weak.specs.Reads.{FlowsTo, Becomes, IsClosedReads, IsReads}
use Rattle.hs_reads.specs.declared.becoming.Becoming.{Becoming}

abbrev pub IsBecoming : ProblemData → Becoming → Type 0
IsBecoming p b = (v : ℕ) × (FlowsTo p b.rule b.param v × Becomes p v b.terminal b.given)

pub record AreMany {X : Type 0} (P : X → Type 0) : Type 0 where
  pub these : List X
  pub distinct : AllPairs (λ a b. a ≢ b) these
  pub each : (x : X) → Contains these x → P x
  pub many : 4000000 < length these

abbrev pub HasManyReads : ProblemData → Type 0
HasManyReads p = AreMany (λ (pair : ℕ × ℕ). (S : List (ℕ × ℕ)) → IsClosedReads p S → Contains S pair) ⊎ AreMany (IsBecoming p)

abbrev pub AreAllPairs : ProblemData → List (ℕ × ℕ) → Type 0
AreAllPairs p R = (point q : ℕ) → Contains R (point, q) ↔ ((point < length p.points.points) × (q < p.sorted.automaton.states))

abbrev pub AreReadsOf : ProblemData → List (ℕ × ℕ) → Type 0
AreReadsOf p R = (HasManyReads p × AreAllPairs p R) ⊎ ((HasManyReads p → ⊥) × IsReads p R)
