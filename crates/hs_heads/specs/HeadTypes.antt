-- The types of the head of a point that matter, split at the point's arguments, by numbers.
--     HeadTypeData        a number for each argument's set, that of the rest, and that of the environment that asks what the head asks
--     sets_of I h         the sets that the numbers stand for
--     IsHeadTypeAt        the head of the point has the type with these sets, one for each argument, and this rest, in whose last state the
--                         point is read
--     IsHeadRow           the numbers are in use, and the environment is that of the head
--     AreHeadTypes        just the types of the head that are so
use Rattle.std.specs.Prelude.{◌≡◌, refl, ℕ, ◌<◌, List, length, map, Contains, All}
use Rattle.std.specs.Coded.{Coded, code_by, coded×, coded_ℕ, coded_list}
use Rattle.hs_scheme.specs.flow.Points.{PointData}
use Rattle.hs_scheme.specs.Problem.{ProblemData}
use Rattle.hs_table.specs.declared.support.HeadBy.{HeadBy}
use Rattle.hs_table.specs.Types.{TypeTree, arrows}
use Rattle.hs_table.specs.Entries.{Env, EntryData, params_of}
use Rattle.hs_table.specs.Follows.{IsHeadType}
use Rattle.hs_weak.specs.Reads.{last_state}
use Rattle.hs_types.specs.Interned.{InternerData, type_of_id, set_of_id, env_of_id}
use Rattle.hs_choices.specs.Slots.{IsHeadEnv}

pub record HeadTypeData : Type 0 where
  pub sets : List ℕ
  pub ty : ℕ
  pub first : ℕ

abbrev pub coded_head_type : Coded HeadTypeData
coded_head_type =
    code_by (List ℕ × (ℕ × ℕ)) (coded× (coded_list coded_ℕ) (coded× coded_ℕ coded_ℕ)) (λ h. (h.sets, (h.ty, h.first)))
    (λ p. record { sets = p.0; ty = p.1.0; first = p.1.1 }) (λ _. refl)

abbrev pub sets_of : InternerData → HeadTypeData → Env
sets_of I h = map (set_of_id I) h.sets

pub record IsHeadTypeAt (p : ProblemData) (C : List EntryData) (R : List (ℕ × ℕ)) (point : ℕ) (of : PointData) (sets : Env) (ty : TypeTree) : Type 0 where
  pub by : HeadBy
  pub head : IsHeadType p C of.rule of.head by (arrows sets ty)
  pub long : length sets ≡ length of.args
  pub read : Contains R (point, last_state ty)

pub record IsHeadRow (p : ProblemData) (of : PointData) (I : InternerData) (h : HeadTypeData) : Type 0 where
  pub sets : All (λ s. s < length I.sets) h.sets
  pub ty : h.ty < length I.types
  pub env : h.first < length I.envs
  pub first : IsHeadEnv (params_of p of.rule) of.head (arrows (sets_of I h) (type_of_id I h.ty)) (env_of_id I h.first)

pub record AreHeadTypes (p : ProblemData) (C : List EntryData) (R : List (ℕ × ℕ)) (point : ℕ) (of : PointData) (I : InternerData) (found : List HeadTypeData) : Type 0 where
  pub rows : (h : HeadTypeData) → Contains found h → IsHeadRow p of I h
  pub taken : (h : HeadTypeData) → Contains found h → IsHeadTypeAt p C R point of (sets_of I h) (type_of_id I h.ty)
  pub each : (sets : Env) (ty : TypeTree) → IsHeadTypeAt p C R point of sets ty → (h : HeadTypeData) × (Contains found h × ((sets_of I h ≡ sets) × (type_of_id I h.ty ≡ ty)))
