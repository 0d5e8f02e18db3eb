-- What is as strong as another has the same state at its end.
use Rattle.std.proofs.Common.{◌≡◌, refl, subst, ℕ, ◌≤◌, Bool, List, length, map, take, Option, Some, slice_get, Contains, IsTrue}
use Rattle.hs_scheme.specs.Tree.{Tree}
use Rattle.hs_scheme.proofs.Lists.{Contains-at}
use Rattle.hs_table.specs.Types.{TypeTree}
use Rattle.hs_table_laws.proofs.Members.{into_map}
use Rattle.hs_weak.specs.Reads.{last_state}
use Rattle.hs_weak.specs.Strength.{AsStrongAs, same_state, stronger_arrow, AsksEach}
use Rattle.hs_types.specs.Interned.{InternerData, type_of_id}
use Rattle.hs_strength.proofs.Rows.{each_all, each_mapped}

pub strong_last : {t u : Tree (Option ℕ)} → AsStrongAs t u → last_state t ≡ last_state u
strong_last same_state = refl
strong_last (stronger_arrow h f) = strong_last h

-- none of the types of a set has the state at its end
pub none_ends : (I : InternerData) (members : List ℕ) (set : List TypeTree) (q : ℕ) → map (type_of_id I) members ≡ set → (k : ℕ) → length members ≤ k
    → ((t : ℕ) → Contains (take k members) t → last_state (type_of_id I t) ≡ q → ⊥) → (a : TypeTree) → Contains set a → last_state a ≡ q → ⊥
none_ends I members set q is k past none = each_mapped (type_of_id I) (λ (a : TypeTree). last_state a ≡ q → ⊥) members set is (each_all (λ t. last_state (type_of_id I t) ≡ q → ⊥) members k past none)

-- a set that asks at least what another asks, asks for a type with the same last state as one of that one's
pub asks_last : (s r : List TypeTree) (b : Bool) (a : TypeTree) → Contains r a → ((c : TypeTree) → Contains s c → last_state c ≡ last_state a → IsTrue b) → AsksEach AsStrongAs s r → IsTrue b
asks_last s r b a m tells asks = let c = asks a m in tells c.0 c.1.0 (strong_last c.1.1)

-- a member's type is in the set
pub among : (I : InternerData) (members : List ℕ) (set : List TypeTree) (t : ℕ) → map (type_of_id I) members ≡ set → Contains members t → Contains set (type_of_id I t)
among I members set t is there = subst (λ (z : List TypeTree). Contains z (type_of_id I t)) is (into_map (type_of_id I) members t there)

-- the first type of a set
pub first_of : (I : InternerData) (members : List ℕ) (set : List TypeTree) (t : ℕ) → map (type_of_id I) members ≡ set → slice_get members 0 ≡ Some t → Contains set (type_of_id I t)
first_of I members set t is at = among I members set t is (Contains-at members 0 t at)
