-- Unions that are known: by a pair of numbers, of which the smaller stands first.
use Rattle.std.specs.Prelude.{◌≡◌, ℕ, ◌<◌, List, length, Contains, Option, Some, ◌⊎◌}
use Rattle.hs_types.specs.declared.unions.Operands.{Operands}
use Rattle.hs_types.specs.declared.unions.Kept.{Kept}
use Rattle.hs_types.specs.Interned.{InternerData, set_of_id, env_of_id, IsUnion, IsUnionEnv}

abbrev pub KnownUnions : Type 0
KnownUnions = List (Option Kept)

-- at some place this union of these stands
abbrev pub KeepsUnion : KnownUnions → Operands → ℕ → Type 0
KeepsUnion known p union = Contains known (Some (record { operands = p; union = union }))

abbrev pub AreOperands : Operands → ℕ → ℕ → Type 0
AreOperands p a b = ((p.first ≡ a) × (p.second ≡ b)) ⊎ ((p.first ≡ b) × (p.second ≡ a))

-- the union of a and b is known
abbrev pub KnowsUnion : KnownUnions → ℕ → ℕ → ℕ → Type 0
KnowsUnion known a b union = (p : Operands) × (AreOperands p a b × KeepsUnion known p union)

-- what is known was known, or is that of a and b
abbrev pub KnowsMore : KnownUnions → KnownUnions → ℕ → ℕ → ℕ → Type 0
KnowsMore old new a b union = (p : Operands) (u : ℕ) → KeepsUnion new p u → KeepsUnion old p u ⊎ (AreOperands p a b × (u ≡ union))

pub record IsSetUnion (I : InternerData) (a b union : ℕ) : Type 0 where
  pub first : a < length I.sets
  pub second : b < length I.sets
  pub within : union < length I.sets
  pub is : IsUnion (set_of_id I a) (set_of_id I b) (set_of_id I union)

pub record IsEnvUnion (I : InternerData) (a b union : ℕ) : Type 0 where
  pub first : a < length I.envs
  pub second : b < length I.envs
  pub within : union < length I.envs
  pub long : length (env_of_id I a) ≡ length (env_of_id I b)
  pub is : IsUnionEnv (env_of_id I a) (env_of_id I b) (env_of_id I union)

-- all that is known is so
pub record AreUnions (I : InternerData) (of_sets of_envs : KnownUnions) : Type 0 where
  pub sets : (p : Operands) (u : ℕ) → KeepsUnion of_sets p u → IsSetUnion I p.first p.second u
  pub envs : (p : Operands) (u : ℕ) → KeepsUnion of_envs p u → IsEnvUnion I p.first p.second u
