-- Environments as masks: numbers with a bit for each type that is asked for of a parameter.
--     IsMask I n E mask     for the environment E of n sets bit t * n + j is set just where it has the type with number t at parameter j
--     HasMaskBelow          so it is for the first parameters
--     AddsBitsOf            the bits of a set's types at a parameter are added
--     IsUnionMask           the mask of what two environments ask for together
--     AreMasks              what is remembered are masks of the interner's environments
use Rattle.std.specs.Prelude.{◌≡◌, ℕ, ◌<◌, ◌+◌, ◌*◌, List, length, slice_get, Some, Contains, ◌⊎◌}
use Rattle.std.specs.Int.{bit_at}
use Rattle.std.specs.Int.Bits.{bit_or}
use Rattle.hs_table.specs.Types.{TypeTree}
use Rattle.hs_table.specs.Entries.{Env, Has}
use Rattle.hs_types.specs.Interned.{InternerData, type_of_id, env_of_id}
use Rattle.hs_replica.specs.declared.masks.MaskKey.{MaskKey}

pub record IsMask (I : InternerData) (n : ℕ) (E : Env) (mask : ℕ) : Type 0 where
  pub long : length E ≡ n
  pub each : (j : ℕ) (a : TypeTree) → Has E j a → (t : ℕ) × ((slice_get I.types t ≡ Some a) × (bit_at mask (t * n + j) ≡ 1))
  pub taken : (t j : ℕ) → j < n → bit_at mask (t * n + j) ≡ 1 → (t < length I.types) × Has E j (type_of_id I t)

pub record HasMaskBelow (I : InternerData) (n p : ℕ) (E : Env) (mask : ℕ) : Type 0 where
  pub each : (j : ℕ) (a : TypeTree) → j < p → Has E j a → (t : ℕ) × ((slice_get I.types t ≡ Some a) × (bit_at mask (t * n + j) ≡ 1))
  pub taken : (t j : ℕ) → j < n → bit_at mask (t * n + j) ≡ 1 → (j < p) × ((t < length I.types) × Has E j (type_of_id I t))

-- those of the types of a set
pub record AddsBitsOf (I : InternerData) (n j : ℕ) (set : List TypeTree) (old new : ℕ) : Type 0 where
  pub kept : (i : ℕ) → bit_at old i ≡ 1 → bit_at new i ≡ 1
  pub each : (a : TypeTree) → Contains set a → (t : ℕ) × ((slice_get I.types t ≡ Some a) × (bit_at new (t * n + j) ≡ 1))
  pub come : (i : ℕ) → bit_at new i ≡ 1 → (bit_at old i ≡ 1) ⊎ ((t : ℕ) × ((t < length I.types) × (Contains set (type_of_id I t) × (i ≡ t * n + j))))

-- the mask of what both environments of one length ask for
pub record IsUnionMask (I : InternerData) (E F : Env) (mask : ℕ) : Type 0 where
  pub long : length F ≡ length E
  pub own : ℕ
  pub other : ℕ
  pub of_own : IsMask I (length E) E own
  pub of_other : IsMask I (length E) F other
  pub united : mask ≡ bit_or own other

-- environments by their masks
pub record AreMasks (I : InternerData) (envs : List (MaskKey × ℕ)) : Type 0 where
  pub found : (k : MaskKey) (e : ℕ) → Contains envs (k, e) → (e < length I.envs) × IsMask I k.count (env_of_id I e) k.mask
