-- What a flow lacks.
--     Lacks p pair     the pair is demanded by those that the flow holds, and isn't one of them
--     IsOfKind         a pair is a flow pair, or a head pair
use Rattle.std.specs.Prelude.{List, Contains}
use Rattle.hs_scheme.specs.declared.flow.Pair.{Pair}
use Rattle.hs_scheme.specs.declared.flow.Pair.TheVariants.{OfFlow, OfHead}
use Rattle.hs_scheme.specs.flow.Flow.{Demands, pairs_of}
use Rattle.hs_scheme.specs.Problem.{ProblemData}
use Rattle.hs_flow_checker.specs.declared.gaps.Kind.{Kind}
use Rattle.hs_flow_checker.specs.declared.gaps.Kind.TheVariants.{Flow, Heads}

-- the pairs of both kinds that the flow holds
abbrev pub held : ProblemData → List Pair
held p = pairs_of p.flow.pairs p.flow.heads

abbrev pub IsDemanded : ProblemData → Pair → Type 0
IsDemanded p pair = Demands p.sorted.scheme.rules (held p) pair

pub record Lacks (p : ProblemData) (pair : Pair) : Type 0 where
  pub demanded : IsDemanded p pair
  pub absent : Contains (held p) pair → ⊥

abbrev pub IsOfKind : Kind → Pair → Type 0
IsOfKind Flow (OfFlow f) = Unit {0}
IsOfKind Flow (OfHead h) = ⊥
IsOfKind Heads (OfFlow f) = ⊥
IsOfKind Heads (OfHead h) = Unit {0}

-- each demanded pair of the kind is held
abbrev pub HoldsAll : ProblemData → Kind → Type 0
HoldsAll p kind = (pair : Pair) → IsOfKind kind pair → IsDemanded p pair → Contains (held p) pair

-- the first pair that is lacking: a head pair only where no flow pair is
abbrev pub IsFirstLacking : ProblemData → Pair → Type 0
IsFirstLacking p (OfFlow f) = Lacks p (OfFlow f)
IsFirstLacking p (OfHead h) = HoldsAll p Flow × Lacks p (OfHead h)
