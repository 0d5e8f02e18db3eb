-- The flow analysis: which points may stand for which parameters.
--     Pair                         a flow pair: the point may stand for the parameter; or a head pair: the point may become the rule's
--                                  nonterminal with this many arguments given, fewer than it has parameters
--     Demands rules found pair     the pairs found demand the pair
--     IsClosed, IsSupported        all that is demanded is there; what is there is demanded by what came before it
--     IsFlow rules flows heads     the two lists are the closed, supported ones
use Rattle.std.specs.Prelude.{◌≡◌, ◌≢◌, refl, ℕ, ◌+◌, ◌<◌, List, ◌++◌, length, map, take, slice_get, Some, Contains, ◌↔◌, AllPairs}
use Rattle.std.specs.Coded.{Coded, code_by, coded×, coded_ℕ, coded_list}
use Rattle.std.specs.Ordering.{nat_cmp, ordering_then}
use Rattle.std.specs.declared.cmp.Ordering.{Ordering}
use Rattle.std.specs.declared.cmp.Ordering.TheVariants.{Less}
use Rattle.hs_scheme.specs.declared.term.Head.{Head}
use Rattle.hs_scheme.specs.declared.term.Head.TheVariants.{Var, Nt, Tm}
use Rattle.hs_scheme.specs.declared.term.Rule.{Rule}
use Rattle.hs_scheme.specs.declared.flow.FlowPair.{FlowPair}
use Rattle.hs_scheme.specs.declared.flow.HeadPair.{HeadPair}
use Rattle.hs_scheme.specs.declared.flow.Pair.{Pair}
use Rattle.hs_scheme.specs.declared.flow.Pair.TheVariants.{OfFlow, OfHead}
use Rattle.hs_scheme.specs.flow.Points.{PointData, points_of}

-- the two kinds of pairs in one list
abbrev pub pairs_of : List FlowPair → List HeadPair → List Pair
pairs_of flows heads = map (λ f. OfFlow f) flows ++ map (λ h. OfHead h) heads

-- the rule has a parameter of this number
abbrev pub HasParameter : List Rule → ℕ → ℕ → Type 0
HasParameter rules rule x = (r : Rule) × ((slice_get rules rule ≡ Some r) × (x < r.params))

-- The head of a point in this rule may become the nonterminal of the rule `base` with `given` arguments: the nonterminal itself, or
-- what a point that may stand for the parameter may become.
abbrev pub IsBase : List Pair → ℕ → Head → ℕ → ℕ → Type 0
IsBase found rule (Nt f) base given = (base ≡ f) × (given ≡ 0)
IsBase found rule (Var x) base given =
    (u : ℕ) × (Contains found (OfFlow (record { rule = rule; param = x; point = u })) × Contains found (OfHead (record { point = u; rule = base; given = given })))
IsBase found rule (Tm a) base given = ⊥

-- What a point with these arguments demands where its head may become `base` with `given` arguments: each argument may stand for the
-- parameter at its place, and with all arguments the point may become `base` with more of them, where some are still missing.
abbrev pub Passes : List Rule → ℕ → List ℕ → ℕ → ℕ → Pair → Type 0
Passes rules point args base given (OfFlow f) = (i : ℕ) × ((slice_get args i ≡ Some f.point) × (f.rule ≡ base) × (f.param ≡ given + i) × HasParameter rules base (given + i))
Passes rules point args base given (OfHead h) = (h ≡ record { point = point; rule = base; given = given + length args }) × HasParameter rules base (given + length args)

-- the point, with its head's base, that demands the pair
pub record Demands (rules : List Rule) (found : List Pair) (pair : Pair) : Type 0 where
  pub point : ℕ
  pub of : PointData
  pub base : ℕ
  pub given : ℕ
  pub at : slice_get (points_of rules).points point ≡ Some of
  pub is_base : IsBase found of.rule of.head base given
  pub passes : Passes rules point of.args base given pair

abbrev pub IsClosed : List Rule → List Pair → Type 0
IsClosed rules found = (pair : Pair) → Demands rules found pair → Contains found pair

-- no pair twice, and each is demanded by those before it
pub record IsSupported (rules : List Rule) (order : List Pair) : Type 0 where
  pub distinct : AllPairs (λ a b. a ≢ b) order
  pub demanded : (i : ℕ) (pair : Pair) → slice_get order i ≡ Some pair → Demands rules (take i order) pair

pub record IsFlow (rules : List Rule) (flows : List FlowPair) (heads : List HeadPair) : Type 0 where
  pub closed : IsClosed rules (pairs_of flows heads)
  pub order : List Pair
  pub supported : IsSupported rules order
  pub same : (pair : Pair) → Contains order pair ↔ Contains (pairs_of flows heads) pair
  pub flows_once : AllPairs (λ a b. a ≢ b) flows
  pub heads_once : AllPairs (λ a b. a ≢ b) heads

-- pairs are compared field by field
abbrev pub flow_cmp : FlowPair → FlowPair → Ordering
flow_cmp a b = ordering_then (nat_cmp a.rule b.rule) (ordering_then (nat_cmp a.param b.param) (nat_cmp a.point b.point))

abbrev pub head_cmp : HeadPair → HeadPair → Ordering
head_cmp a b = ordering_then (nat_cmp a.point b.point) (ordering_then (nat_cmp a.rule b.rule) (nat_cmp a.given b.given))

-- each is less than those after it
abbrev pub IsAscending : {X : Type 0} → (X → X → Ordering) → List X → Type 0
IsAscending cmp xs = AllPairs (λ a b. cmp a b ≡ Less) xs

pub record FlowData : Type 0 where
  pub pairs : List FlowPair
  pub heads : List HeadPair

pub record IsFlowTable (table : FlowData) : Type 0 where
  pub pairs : IsAscending flow_cmp table.pairs
  pub heads : IsAscending head_cmp table.heads

abbrev pub coded_flow_pair : Coded FlowPair
coded_flow_pair = code_by (ℕ × (ℕ × ℕ)) (coded× coded_ℕ (coded× coded_ℕ coded_ℕ)) (λ p. (p.rule, (p.param, p.point))) (λ p. record { rule = p.0; param = p.1.0; point = p.1.1 }) (λ _. refl)

abbrev pub coded_head_pair : Coded HeadPair
coded_head_pair = code_by (ℕ × (ℕ × ℕ)) (coded× coded_ℕ (coded× coded_ℕ coded_ℕ)) (λ p. (p.point, (p.rule, p.given))) (λ p. record { point = p.0; rule = p.1.0; given = p.1.1 }) (λ _. refl)

abbrev pub coded_flow : Coded FlowData
coded_flow =
    code_by (List FlowPair × List HeadPair) (coded× (coded_list coded_flow_pair) (coded_list coded_head_pair)) (λ t. (t.pairs, t.heads))
    (λ p. record { pairs = p.0; heads = p.1 }) (λ _. refl)
