-- At a look: what kinds of types an environment asks for.
--     kind_of j q        the number below 64 of the types at parameter j with the last state q; other types may have it, too
--     HasKinds E kinds   the bits of this number are the kinds of the types that the environment asks for
--     AddsKinds           so of the types of one set, beside what was there
use Rattle.std.specs.Prelude.{◌≡◌, ℕ, ◌+◌, ◌*◌, ◌%◌, List, Contains, ◌⊎◌}
use Rattle.std.specs.Int.{bit_at}
use Rattle.hs_table.specs.Types.{TypeTree}
use Rattle.hs_table.specs.Entries.{Env, Has}
use Rattle.hs_weak.specs.Reads.{last_state}

abbrev pub kind_of : ℕ → ℕ → ℕ
kind_of j q = (j % 64 * 7 + q % 64) % 64

pub record HasKinds (E : Env) (kinds : ℕ) : Type 0 where
  pub each : (j : ℕ) (a : TypeTree) → Has E j a → bit_at kinds (kind_of j (last_state a)) ≡ 1
  pub taken : (i : ℕ) → bit_at kinds i ≡ 1 → (j : ℕ) × ((a : TypeTree) × (Has E j a × (kind_of j (last_state a) ≡ i)))

-- the kinds of the types of a set at parameter j are added
pub record AddsKinds (set : List TypeTree) (j old new : ℕ) : Type 0 where
  pub kept : (i : ℕ) → bit_at old i ≡ 1 → bit_at new i ≡ 1
  pub each : (a : TypeTree) → Contains set a → bit_at new (kind_of j (last_state a)) ≡ 1
  pub come : (i : ℕ) → bit_at new i ≡ 1 → (bit_at old i ≡ 1) ⊎ ((a : TypeTree) × (Contains set a × (kind_of j (last_state a) ≡ i)))
