-- Which terminals parameters may become, with how many arguments given.
--     AreBecomings p found       the list leaves out nothing that a parameter may become
--     AreShort found             no more arguments are given than 500,000 for each that was found
--     IsHeadedAt p rule x f      a flow pair, whose point has this parameter at its head
--     IsPassedAlike p f g        two flow pairs pass on the same: to one parameter, with as many arguments
--     IsTold p list f            one of the pairs in the list passes on the same as f
--     IsByHead p flows lists     each of the flow pairs whose point has a parameter at its head is told by the list of that parameter's number
--     IsByParameter              what is found stands in the list of its parameter's number
--     AreApart                   and nothing else does
--     HasTerminals p lists       each parameter's list leaves out nothing that a point that flows to it may become
--     HasTerminalsOnly p lists   and has nothing else
use Rattle.std.specs.Prelude.{◌≡◌, ℕ, ◌+◌, ◌*◌, ◌≤◌, List, length, sum, Contains}
use Rattle.hs_scheme.specs.declared.term.Head.TheVariants.{Var, Tm}
use Rattle.hs_scheme.specs.declared.flow.FlowPair.{FlowPair}
use Rattle.hs_scheme.specs.flow.Points.{point_at}
use Rattle.hs_scheme.specs.sorting.Parameters.{IsParameter, parameter_of}
use Rattle.hs_scheme.specs.Problem.{ProblemData}
use Rattle.hs_weak.specs.Reads.{PointIs, FlowsTo, Becomes}
use Rattle.hs_reads.specs.declared.becoming.Becoming.{Becoming}
use Rattle.hs_reads.specs.Lists.{list_of}
use Rattle.hs_reads.specs.Own.{IsBecoming}

abbrev pub AnyBecoming : Type 0
AnyBecoming = Becoming

pub record AreBecomings (p : ProblemData) (found : List Becoming) : Type 0 where
  pub first : (f : FlowPair) (rule a : ℕ) (args : List ℕ) → Contains p.flow.pairs f → PointIs p f.point rule (Tm a) args
      → Contains found (record { rule = f.rule; param = f.param; terminal = a; given = length args })
  pub next : (b : Becoming) (f : FlowPair) (args : List ℕ) → Contains found b → Contains p.flow.pairs f → PointIs p f.point b.rule (Var b.param) args
      → Contains found (record { rule = f.rule; param = f.param; terminal = b.terminal; given = b.given + length args })

abbrev pub AreShort : List Becoming → Type 0
AreShort found = (b : Becoming) → Contains found b → b.given ≤ 500000 * length found

abbrev pub IsHeadedAt : ProblemData → ℕ → ℕ → FlowPair → Type 0
IsHeadedAt p rule x f = Contains p.flow.pairs f × ((args : List ℕ) × PointIs p f.point rule (Var x) args)

-- of the parameter of this number
pub record IsHeadedBy (p : ProblemData) (k : ℕ) (f : FlowPair) : Type 0 where
  pub rule : ℕ
  pub param : ℕ
  pub is : IsParameter p.points.params rule param
  pub number : k ≡ parameter_of p.points.params rule param
  pub headed : IsHeadedAt p rule param f

abbrev pub AreHeaded : ProblemData → List (List FlowPair) → Type 0
AreHeaded p lists = (k : ℕ) (f : FlowPair) → Contains (list_of lists k) f → IsHeadedBy p k f

pub record IsPassedAlike (p : ProblemData) (f g : FlowPair) : Type 0 where
  pub rule : g.rule ≡ f.rule
  pub param : g.param ≡ f.param
  pub long : length (point_at p.points g.point).args ≡ length (point_at p.points f.point).args

abbrev pub IsTold : ProblemData → List FlowPair → FlowPair → Type 0
IsTold p list f = (g : FlowPair) × (Contains list g × IsPassedAlike p f g)

pub record IsByHead (p : ProblemData) (flows : List FlowPair) (lists : List (List FlowPair)) : Type 0 where
  pub len : length lists ≡ sum p.points.params
  pub has : (f : FlowPair) (rule x : ℕ) (args : List ℕ) → Contains flows f → PointIs p f.point rule (Var x) args
      → IsParameter p.points.params rule x × IsTold p (list_of lists (parameter_of p.points.params rule x)) f
  pub only : AreHeaded p lists

pub record IsByParameter (params : List ℕ) (found : List Becoming) (lists : List (List Becoming)) : Type 0 where
  pub len : length lists ≡ sum params
  pub has : (b : Becoming) → Contains found b → IsParameter params b.rule b.param → Contains (list_of lists (parameter_of params b.rule b.param)) b

-- found, and its parameter has this number
pub record IsFoundAt (params : List ℕ) (found : List Becoming) (k : ℕ) (b : Becoming) : Type 0 where
  pub there : Contains found b
  pub is : IsParameter params b.rule b.param
  pub number : k ≡ parameter_of params b.rule b.param

abbrev pub AreApart : List ℕ → List Becoming → List (List Becoming) → Type 0
AreApart params found lists = (k : ℕ) (b : Becoming) → Contains (list_of lists k) b → IsFoundAt params found k b

abbrev pub HasTerminals : ProblemData → List (List Becoming) → Type 0
HasTerminals p lists =
    (rule x v a g : ℕ) → IsParameter p.points.params rule x → FlowsTo p rule x v → Becomes p v a g
    → Contains (list_of lists (parameter_of p.points.params rule x)) (record { rule = rule; param = x; terminal = a; given = g })

abbrev pub HasTerminalsOnly : ProblemData → List (List Becoming) → Type 0
HasTerminalsOnly p lists =
    (rule x : ℕ) (b : Becoming) → IsParameter p.points.params rule x → Contains (list_of lists (parameter_of p.points.params rule x)) b
    → IsBecoming p (record { rule = rule; param = x; terminal = b.terminal; given = b.given })
