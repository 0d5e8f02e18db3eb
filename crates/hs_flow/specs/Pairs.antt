-- The pairs that are found, and what parameters may become.
--     PairsData               the rules, the most pairs, the pairs in the order in which they were found, and the bases
--     HasBaseAt a b           the bases have b
--     AreNone rules max a     nothing is found
--     IsAddable a q           the pair isn't found, and is passed on at first or for a base
--     ArePairs points users a what holds at all times
--     IsReady a               there are no more pairs than the most, and for each base all is passed on
--     FindsOnly P old new     further pairs were found, of each of which P holds, and nothing else has changed
--     Extends old new         what was there is there
--     TellsLimit result a     whether there are more pairs than the most
use Rattle.std.specs.Prelude.{◌≡◌, refl, ℕ, ◌<◌, ◌≤◌, List, [], ◌++◌, length, ◌⊎◌, Contains, OnOk, IsErrOf}
use Rattle.std.proofs.Common.{inl, inr}
use Rattle.std.specs.Coded.{Coded, code_by, coded×, coded⊎, coded_ℕ, coded_list}
use Rattle.std.specs.declared.result.Result.{Result}
use Rattle.hs_scheme.specs.declared.term.Rule.{Rule}
use Rattle.hs_scheme.specs.declared.flow.FlowPair.{FlowPair}
use Rattle.hs_scheme.specs.declared.flow.HeadPair.{HeadPair}
use Rattle.hs_scheme.specs.declared.flow.Pair.{Pair}
use Rattle.hs_scheme.specs.declared.flow.Pair.TheVariants.{OfFlow, OfHead}
use Rattle.hs_scheme.specs.Scheme.{coded_rule}
use Rattle.hs_scheme.specs.flow.Points.{PointsData, points_of}
use Rattle.hs_scheme.specs.flow.Flow.{IsSupported, coded_flow_pair, coded_head_pair}
use Rattle.hs_flow.specs.declared.fault.FlowFault.{FlowFault}
use Rattle.hs_flow.specs.declared.fault.FlowFault.TheVariants.{FlowLimit}
use Rattle.hs_flow.specs.declared.bases.Base.{Base}
use Rattle.hs_flow.specs.Bases.{BasesData, coded_bases, HasBase}
use Rattle.hs_flow.specs.Users.{UserMap, IsUserMap}
use Rattle.hs_flow.specs.Passing.{PassedAtFirst, PassedFor, MayBecome}

abbrev pair_cases : Pair → FlowPair ⊎ HeadPair
pair_cases (OfFlow f) = inl f
pair_cases (OfHead h) = inr h

abbrev pair_of : FlowPair ⊎ HeadPair → Pair
pair_of (inl f) = OfFlow f
pair_of (inr h) = OfHead h

pub pair_of-cases : (q : Pair) → pair_of (pair_cases q) ≡ q
pair_of-cases (OfFlow f) = refl
pair_of-cases (OfHead h) = refl

abbrev pub coded_pair : Coded Pair
coded_pair = code_by (FlowPair ⊎ HeadPair) (coded⊎ coded_flow_pair coded_head_pair) pair_cases pair_of pair_of-cases

pub record PairsData : Type 0 where
  pub rules : List Rule
  pub max : ℕ
  pub found : List Pair
  pub bases : BasesData

abbrev pub coded_pairs : Coded PairsData
coded_pairs =
    code_by (List Rule × (ℕ × (List Pair × BasesData))) (coded× (coded_list coded_rule) (coded× coded_ℕ (coded× (coded_list coded_pair) coded_bases)))
    (λ a. (a.rules, (a.max, (a.found, a.bases)))) (λ p. record { rules = p.0; max = p.1.0; found = p.1.1.0; bases = p.1.1.1 }) (λ _. refl)

abbrev pub HasBaseAt : PairsData → Base → Type 0
HasBaseAt a b = HasBase (points_of a.rules).params a.bases b

pub record AreNone (rules : List Rule) (max : ℕ) (a : PairsData) : Type 0 where
  pub rules_are : a.rules ≡ rules
  pub max_is : a.max ≡ max
  pub none : a.found ≡ []
  pub no_base : (b : Base) → HasBaseAt a b → ⊥

pub record IsAddable (a : PairsData) (q : Pair) : Type 0 where
  pub absent : Contains a.found q → ⊥
  pub passed : PassedAtFirst a.rules q ⊎ ((b : Base) × (HasBaseAt a b × (MayBecome a.found b × PassedFor a.rules b q)))

pub record ArePairs (points : PointsData) (users : UserMap) (a : PairsData) : Type 0 where
  pub points_are : points ≡ points_of a.rules
  pub users_are : IsUserMap (points_of a.rules).points users
  pub supported : IsSupported a.rules a.found
  pub passed : (q : Pair) → Contains a.found q → PassedAtFirst a.rules q ⊎ ((b : Base) × (HasBaseAt a b × PassedFor a.rules b q))

pub record IsReady (a : PairsData) : Type 0 where
  pub within : length a.found ≤ a.max
  pub passed : (b : Base) → HasBaseAt a b → (q : Pair) → PassedFor a.rules b q → Contains a.found q

pub record FindsOnly (P : Pair → Type 0) (old new : PairsData) : Type 0 where
  pub added : List Pair
  pub is : new ≡ record { rules = old.rules; max = old.max; found = old.found ++ added; bases = old.bases }
  pub with : (q : Pair) → Contains added q → P q

pub record Extends (old new : PairsData) : Type 0 where
  pub added : List Pair
  pub bases : BasesData
  pub is : new ≡ record { rules = old.rules; max = old.max; found = old.found ++ added; bases = bases }
  pub keeps : (b : Base) → HasBaseAt old b → HasBase (points_of old.rules).params bases b

pub record TellsLimit (result : Result (Unit {0}) FlowFault) (a : PairsData) : Type 0 where
  pub within : OnOk result (length a.found ≤ a.max)
  pub over : IsErrOf result FlowLimit → IsSupported a.rules a.found × (a.max < length a.found)
