-- For each parameter, the points with that parameter at their head.
--     users_of users rule x      those of this parameter
--     IsUser points rule x p     the point is one of them
--     IsUserMap points users     for each parameter just its users, each once
use Rattle.std.specs.Prelude.{◌≡◌, ◌≢◌, AllPairs, ℕ, List, [], cond, nat_lt, length, sum, slice_index, slice_get, Some, Contains, ◌↔◌}
use Rattle.hs_scheme.specs.declared.term.Head.TheVariants.{Var}
use Rattle.hs_scheme.specs.sorting.Parameters.{parameter_of}
use Rattle.hs_scheme.specs.flow.Points.{PointData}
use Rattle.hs_flow.specs.declared.users.Users.{Users}
use Rattle.hs_flow.specs.Lists.{list_of}

abbrev pub UserMap : Type 0
UserMap = Users

-- the list of this parameter, where the rules have it
abbrev pub list_for : List ℕ → List (List ℕ) → ℕ → ℕ → List ℕ
list_for counts lists rule x = cond (nat_lt x (slice_index counts rule)) (list_of lists (parameter_of counts rule x)) []

abbrev pub users_of : UserMap → ℕ → ℕ → List ℕ
users_of m rule x = list_for m.params m.lists rule x

-- the point stands in the rule and has the parameter at its head
pub record IsUser (points : List PointData) (rule x p : ℕ) : Type 0 where
  pub of : PointData
  pub at : slice_get points p ≡ Some of
  pub rule_is : of.rule ≡ rule
  pub head_is : of.head ≡ Var x

pub record IsUserMap (points : List PointData) (m : UserMap) : Type 0 where
  pub lists : length m.lists ≡ sum m.params
  pub exact : (rule x p : ℕ) → Contains (users_of m rule x) p ↔ IsUser points rule x p
  pub once : (rule x : ℕ) → AllPairs (λ a b. a ≢ b) (users_of m rule x)
