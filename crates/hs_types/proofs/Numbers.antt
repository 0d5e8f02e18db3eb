-- What callers of an interner need: numbers keep what they stand for while it grows, and two numbers are equal where that is.
use Rattle.std.proofs.Common.{◌≡◌, ◌∙◌, ap, ℕ, ◌<◌, List, [], length, get_or, Option, Some}
use Rattle.std.proofs.lemmas.Option.{slice_get_within, slice_get-get_or, get_or_from_slice_get}
use Rattle.hs_scheme.specs.Tree.{node}
use Rattle.hs_table.specs.Types.{TypeTree, state}
use Rattle.hs_table.specs.Entries.{EntryData}
use Rattle.hs_table_laws.proofs.Sets.{no_set}
use Rattle.hs_table_laws.proofs.Arrows.{state_no_arrow}
use Rattle.hs_types.specs.Interned.{InternerData, type_of_id, set_of_id, env_of_id, RowData, IsRow, entry_of, IsWithoutRepeats, IsInterner, Begins, Grows}

pub Grows-refl : (I : InternerData) → Grows I I
Grows-refl I = record { types = λ i x h. h; sets = λ i x h. h; envs = λ i x h. h }

pub Grows-trans : (I J K : InternerData) → Grows I J → Grows J K → Grows I K
Grows-trans I J K g h = record {
  types = λ i x e. h.types i x (g.types i x e);
  sets = λ i x e. h.sets i x (g.sets i x e);
  envs = λ i x e. h.envs i x (g.envs i x e);
}

-- where xs begins ys, its places are places of ys
pub within_begun : {X : Type 0} (xs ys : List X) (d : X) (i : ℕ) → Begins xs ys → i < length xs → i < length ys
within_begun xs ys d i g h = slice_get_within ys i (get_or xs i d) (g i (get_or xs i d) (slice_get-get_or xs i d h))

-- and hold the same
pub same_begun : {X : Type 0} (xs ys : List X) (d : X) (i : ℕ) → Begins xs ys → i < length xs → get_or ys i d ≡ get_or xs i d
same_begun xs ys d i g h = get_or_from_slice_get ys i (get_or xs i d) d (g i (get_or xs i d) (slice_get-get_or xs i d h))

module _ (I J : InternerData) (g : Grows I J) where
  pub type_within : (t : ℕ) → t < length I.types → t < length J.types
  type_within t h = within_begun I.types J.types (state 0) t g.types h

  pub type_stays : (t : ℕ) → t < length I.types → type_of_id J t ≡ type_of_id I t
  type_stays t h = same_begun I.types J.types (state 0) t g.types h

  pub set_within : (s : ℕ) → s < length I.sets → s < length J.sets
  set_within s h = within_begun I.sets J.sets [] s g.sets h

  pub set_stays : (s : ℕ) → s < length I.sets → set_of_id J s ≡ set_of_id I s
  set_stays s h = same_begun I.sets J.sets [] s g.sets h

  pub env_within : (e : ℕ) → e < length I.envs → e < length J.envs
  env_within e h = within_begun I.envs J.envs [] e g.envs h

  pub env_stays : (e : ℕ) → e < length I.envs → env_of_id J e ≡ env_of_id I e
  env_stays e h = same_begun I.envs J.envs [] e g.envs h

  pub row_within : (r : RowData) → IsRow I r → IsRow J r
  row_within r h = (env_within r.env h.0, type_within r.ty h.1)

  pub row_stays : (r : RowData) → IsRow I r → entry_of J r ≡ entry_of I r
  row_stays r h = λ i. record { point = r.point; env = env_stays r.env h.0 i; ty = type_stays r.ty h.1 i }

-- the number of an item, by what stands there
pub same_place : {X : Type 0} (xs : List X) (d : X) (i j : ℕ) → IsWithoutRepeats xs → i < length xs → j < length xs → get_or xs i d ≡ get_or xs j d → i ≡ j
same_place xs d i j n h k e =
    n i j (get_or xs j d) (slice_get-get_or xs i d h ∙ ap (λ x. Some x) e) (slice_get-get_or xs j d k)

module _ (I : InternerData) (is : IsInterner I) where
  pub same_type : (t u : ℕ) → t < length I.types → u < length I.types → type_of_id I t ≡ type_of_id I u → t ≡ u
  same_type t u h k e = same_place I.types (state 0) t u is.types h k e

  pub same_set : (s r : ℕ) → s < length I.sets → r < length I.sets → set_of_id I s ≡ set_of_id I r → s ≡ r
  same_set s r h k e = same_place I.sets [] s r is.sets h k e

  pub same_env : (e f : ℕ) → e < length I.envs → f < length I.envs → env_of_id I e ≡ env_of_id I f → e ≡ f
  same_env e f h k eq = same_place I.envs [] e f is.envs h k eq

  -- rows of one entry are one row
  pub same_row : (r q : RowData) → IsRow I r → IsRow I q → entry_of I r ≡ entry_of I q → r ≡ q
  same_row r q h k e =
      let p : r.point ≡ q.point = ap (λ (x : EntryData). x.point) e in
      let v : r.env ≡ q.env = same_env r.env q.env h.0 k.0 (ap (λ (x : EntryData). x.env) e) in
      let t : r.ty ≡ q.ty = same_type r.ty q.ty h.1 k.1 (ap (λ (x : EntryData). x.ty) e) in
      λ i. record { point = p i; env = v i; ty = t i }

-- the state that a type is
abbrev state_in : TypeTree → Option ℕ
state_in (node q ts) = q

-- an interner in which nothing has a number
pub IsInterner-empty : IsInterner (record { types = []; sets = []; envs = [] })
IsInterner-empty = record {
  types = λ i j x h k. absurd (cc);
  sets = λ i j x h k. absurd (cc);
  envs = λ i j x h k. absurd (cc);
  set_ascends = λ s. no_set;
  env_ascends = λ e j. no_set;
  type_ascends = λ t s r e. absurd (state_no_arrow 0 s r e);
}
