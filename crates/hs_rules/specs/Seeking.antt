-- Where the types of a point's head are sought.
--     IsHeadWithin          a nonterminal or a parameter at the head is one of the problem's
--     CanSeekHeads          what the searches for types rely on
--     with_head             the point, with this head
--     AreHeadsFor           just the types of this head that are wanted
--     CanGather             what the search for conclusions relies on
--     ArePartFor, HasAllFor what is found so far; all that follows by a support of a kind is found
--     HasAllOrMany          so it is, or more is found than the search asks for
use Rattle.std.specs.Prelude.{◌≡◌, ℕ, ◌<◌, ◌≤◌, List, length, take, slice_get, None, Some, All}
use Rattle.hs_scheme.specs.declared.term.Head.{Head}
use Rattle.hs_scheme.specs.declared.term.Head.TheVariants.{Var, Nt, Tm}
use Rattle.hs_scheme.specs.flow.Points.{PointData}
use Rattle.hs_scheme.specs.Problem.{ProblemData}
use Rattle.hs_table.specs.declared.support.HeadBy.{HeadBy}
use Rattle.hs_table.specs.Entries.{Env, EntryData, InShape, params_of}
use Rattle.hs_table.specs.Follows.{Support}
use Rattle.hs_types.specs.Interned.{InternerData}
use Rattle.hs_replica.specs.Replica.{ReplicaData}
use Rattle.hs_rules.specs.declared.head_search.HeadSearch.{HeadSearch}
use Rattle.hs_rules.specs.declared.found.Found.{Found}
use Rattle.hs_rules.specs.Filling.{CanSearch}
use Rattle.hs_rules.specs.Found.{HeadData, HaveEnvs}
use Rattle.hs_rules.specs.Heads.{AreHeads}
use Rattle.hs_rules.specs.Parts.{ArePart, HasAll}

abbrev pub IsHeadWithin : ProblemData → ℕ → Head → Type 0
IsHeadWithin p params (Var x) = x < params
IsHeadWithin p params (Nt f) = f < length p.points.bodies
IsHeadWithin p params (Tm a) = Unit {0}

-- the rule has so many parameters, and the entries that count are in shape
pub record CanSeekHeads (r : ReplicaData) (at : HeadSearch) : Type 0 where
  pub search : CanSearch r at.search.args.now at.search.limit at.search.fixed
  pub params_are : at.params ≡ params_of at.problem.now at.rule
  pub shapes : All (InShape at.problem.now) (take at.search.limit r.log)
  pub head : IsHeadWithin at.problem.now at.params at.head

abbrev pub with_head : HeadSearch → Head → PointData
with_head at head = record { rule = at.rule; head = head; args = at.search.args.now }

abbrev pub AreHeadsFor : HeadSearch → Head → List EntryData → InternerData → (HeadBy → Env → Type 0) → List HeadData → Type 0
AreHeadsFor at head log ids Wanted heads = AreHeads at.problem.now (take at.search.limit log) (with_head at head) ids Wanted heads

-- no entry is fixed, the point is one of the problem's, and the entries at its arguments have environments for the rule's parameters
pub record CanGather (r : ReplicaData) (at : HeadSearch) : Type 0 where
  pub heads : CanSeekHeads r at
  pub free : at.search.fixed ≡ None
  pub is_point : slice_get at.problem.now.points.points at.search.point ≡ Some (with_head at at.head)
  pub envs : HaveEnvs (take at.search.limit r.log) at.search.args.now at.params

abbrev pub ArePartFor : HeadSearch → List EntryData → InternerData → (Support → Type 0) → Found → Type 0
ArePartFor at log ids Counts found = ArePart at.problem.now ids (take at.search.limit log) at.search.point Counts found.rows.keys found.list.items

abbrev pub HasAllFor : HeadSearch → List EntryData → InternerData → (Support → Type 0) → Found → Type 0
HasAllFor at log ids Kind found = HasAll at.problem.now ids (take at.search.limit log) at.search.point Kind found.list.items

abbrev pub HasAllOrMany : HeadSearch → List EntryData → InternerData → (Support → Type 0) → Found → Type 0
HasAllOrMany at log ids Kind found = length found.list.items ≤ at.search.most → HasAllFor at log ids Kind found
