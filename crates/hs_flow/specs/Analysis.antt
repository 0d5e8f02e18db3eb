-- The pairs that are taken, one after another.
--     AnalysisData            the pairs found, and how many of them were taken
--     point_of q              the point of a pair
--     IsByPoint               lists by number have the pairs that were taken of each point
--     IsAnalysis              what holds at all times
use Rattle.std.specs.Prelude.{◌≡◌, refl, ℕ, ◌^◌, ◌<◌, ◌≤◌, List, length, take, Contains, ◌↔◌}
use Rattle.std.specs.Coded.{Coded, code_by, coded×, coded_ℕ}
use Rattle.hs_scheme.specs.declared.term.Rule.{Rule}
use Rattle.hs_scheme.specs.declared.flow.FlowPair.{FlowPair}
use Rattle.hs_scheme.specs.declared.flow.HeadPair.{HeadPair}
use Rattle.hs_scheme.specs.declared.flow.Pair.{Pair}
use Rattle.hs_scheme.specs.declared.flow.Pair.TheVariants.{OfFlow, OfHead}
use Rattle.hs_scheme.specs.flow.Points.{points_of}
use Rattle.hs_flow.specs.declared.bases.Base.{Base}
use Rattle.hs_flow.specs.Lists.{list_of}
use Rattle.hs_flow.specs.Users.{IsUser}
use Rattle.hs_flow.specs.Passing.{MayBecome}
use Rattle.hs_flow.specs.Pairs.{PairsData, coded_pairs, HasBaseAt}

pub record AnalysisData : Type 0 where
  pub pairs : PairsData
  pub taken : ℕ

abbrev pub coded_analysis : Coded AnalysisData
coded_analysis = code_by (PairsData × ℕ) (coded× coded_pairs coded_ℕ) (λ a. (a.pairs, a.taken)) (λ p. record { pairs = p.0; taken = p.1 }) (λ _. refl)

abbrev pub point_of : Pair → ℕ
point_of (OfFlow f) = f.point
point_of (OfHead h) = h.point

-- all head pairs of each point, and the flow pairs of the parameters that have users
pub record IsByPoint (rules : List Rule) (taken : List Pair) (by_flow : List (List FlowPair)) (by_head : List (List HeadPair)) : Type 0 where
  pub flows : (u : ℕ) (f : FlowPair) → Contains (list_of by_flow u) f → (f.point ≡ u) × Contains taken (OfFlow f)
  pub used : (f : FlowPair) (p : ℕ) → Contains taken (OfFlow f) → IsUser (points_of rules).points f.rule f.param p → Contains (list_of by_flow f.point) f
  pub heads : (u : ℕ) (h : HeadPair) → Contains (list_of by_head u) h ↔ ((h.point ≡ u) × Contains taken (OfHead h))

-- what the users' parameters may become by these pairs is known
abbrev pub HasBases : PairsData → List Pair → Type 0
HasBases a taken = (b : Base) (p : ℕ) → MayBecome taken b → IsUser (points_of a.rules).points b.rule b.param p → HasBaseAt a b

pub record IsAnalysis (flows : List (List FlowPair)) (heads : List (List HeadPair)) (a : AnalysisData) : Type 0 where
  pub few : a.taken ≤ length a.pairs.found
  pub max_fits : a.pairs.max < 2 ^ 32
  pub flows_len : length flows ≡ length (points_of a.pairs.rules).points
  pub heads_len : length heads ≡ length (points_of a.pairs.rules).points
  pub by_point : IsByPoint a.pairs.rules (take a.taken a.pairs.found) flows heads
  pub bases : HasBases a.pairs (take a.taken a.pairs.found)
