-- Who passes a pair on.
--     PassedBy rules base given point q   the point does where its head may become `base` with `given` arguments
--     PassedAtFirst rules q               a point with a nonterminal at its head does
--     PassedFor rules b q                 a user of the parameter does where this may become b
--     MayBecome found b                   a point may stand for the parameter, and may become b
use Rattle.std.specs.Prelude.{◌≡◌, ℕ, List, slice_get, Some, Contains}
use Rattle.hs_scheme.specs.declared.term.Head.TheVariants.{Nt}
use Rattle.hs_scheme.specs.declared.term.Rule.{Rule}
use Rattle.hs_scheme.specs.declared.flow.Pair.{Pair}
use Rattle.hs_scheme.specs.declared.flow.Pair.TheVariants.{OfFlow, OfHead}
use Rattle.hs_scheme.specs.flow.Points.{PointData, points_of}
use Rattle.hs_scheme.specs.flow.Flow.{Passes}
use Rattle.hs_flow.specs.declared.bases.Base.{Base}
use Rattle.hs_flow.specs.Users.{IsUser}

pub record PassedBy (rules : List Rule) (base given point : ℕ) (q : Pair) : Type 0 where
  pub of : PointData
  pub at : slice_get (points_of rules).points point ≡ Some of
  pub passes : Passes rules point of.args base given q

pub record PassedAtFirst (rules : List Rule) (q : Pair) : Type 0 where
  pub point : ℕ
  pub of : PointData
  pub base : ℕ
  pub at : slice_get (points_of rules).points point ≡ Some of
  pub head : of.head ≡ Nt base
  pub passed : PassedBy rules base 0 point q

pub record PassedFor (rules : List Rule) (b : Base) (q : Pair) : Type 0 where
  pub user : ℕ
  pub is_user : IsUser (points_of rules).points b.rule b.param user
  pub passed : PassedBy rules b.base b.given user q

pub record MayBecome (found : List Pair) (b : Base) : Type 0 where
  pub point : ℕ
  pub flow : Contains found (OfFlow (record { rule = b.rule; param = b.param; point = point }))
  pub head : Contains found (OfHead (record { point = point; rule = b.base; given = b.given }))
