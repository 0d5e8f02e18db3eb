-- Numbers for what trees are, one after the other.
use Rattle.std.proofs.Common.{◌≡◌, sym, ◌∙◌, ap, subst, ℕ, ◌+◌, ◌<◌, List, [], ◌∷◌, ◌++◌, length, map, get_or, take, All, slice_get, Some, Contains, inl, inr}
use Rattle.std.proofs.lemmas.List.{map_push}
use Rattle.std.proofs.lemmas.Option.{slice_get_within, slice_get-get_or, get_or_from_slice_get}
use Rattle.std.proofs.lemmas.List.Elements.{All-push, All-weaker}
use Rattle.hs_scheme.specs.Tree.{forest, children-forest}
use Rattle.hs_scheme.proofs.Lists.{none_in, uncons}
use Rattle.hs_table.specs.Types.{TypeTree, state, arrow, IsSet, IsType, AreTypes}
use Rattle.hs_table.specs.Entries.{Env, EntryData}
use Rattle.hs_table_laws.proofs.Members.{taken_next}
use Rattle.hs_table_laws.proofs.Sets.{sets_same}
use Rattle.hs_weak.proofs.ComparingLemmas.{set_read}
use Rattle.hs_types.specs.Interned.{InternerData, type_of_id, set_of_id, entry_of, Begins, Grows, IsSetOf}
use Rattle.hs_types.specs.Nodes.{items_at}
use Rattle.hs_types.proofs.ListLemmas.{items_at-begun}
use Rattle.hs_types.proofs.Numbers.{within_begun, env_within, env_stays}
use Rattle.hs_numbered.specs.Trees.{IsSomeType, IsSomeSet, IsSomeEnv, IsSomeEntry}

all_types : (n : ℕ) (s : List TypeTree) → AreTypes n (forest s) → (a : TypeTree) → Contains s a → IsType n a
all_types n [] h a c = absurd (none_in a c)
all_types n (b ∷ s) h a c = elim (uncons b a s c) [
  | inl e ↦ subst (λ z. IsType n z) (sym e) h.0
  | inr t ↦ all_types n s h.1 a t
]

pub arrow_some : (t : TypeTree) (s : List TypeTree) (r : TypeTree) → t ≡ arrow s r → IsSomeType t → IsSomeSet s × IsSomeType r
arrow_some t s r is h =
    let parts = subst (λ z. IsType h.states z) is h.is in
    (record { states = h.states; ascends = subst (λ xs. IsSet xs) (children-forest s) parts.1; types = all_types h.states s parts.2 }, record { states = h.states; is = parts.0 })

pub member_some : (s : List TypeTree) (a : TypeTree) → Contains s a → IsSomeSet s → IsSomeType a
member_some s a there h = record { states = h.states; is = h.types a there }

pub set_some : (E : Env) (k : ℕ) (s : List TypeTree) → k < length E → s ≡ get_or E k s → IsSomeEnv E → IsSomeSet s
set_some E k s lt is h =
    let read = set_read E k s lt is in
    record { states = h.states; ascends = subst (λ xs. IsSet xs) read (h.sets k); types = λ a c. h.types k a (subst (λ xs. Contains xs a) (sym read) c) }

pub env_some : (e : EntryData) → IsSomeEntry e → IsSomeEnv e.env
env_some e h = record { states = h.problem.sorted.automaton.states; sets = h.shape.env.sets; types = h.shape.types }

pub type_some : (e : EntryData) → IsSomeEntry e → IsSomeType e.ty
type_some e h = record { states = h.problem.sorted.automaton.states; is = h.shape.ty }

-- one more number is known for the next item
module _ {X : Type 0} (xs ys : List X) (d : X) (ids new : List ℕ) (items : List X) (k own : ℕ) (x : X) (g : Begins xs ys) (range : All (λ i. i < length xs) ids) (same : items_at xs d ids ≡ take k items)
    (at : slice_get ys own ≡ Some x) (lt : k < length items) (is : x ≡ get_or items k x) (e : new ≡ ids ++ own ∷ []) where
  pub range_more : All (λ i. i < length ys) new
  range_more =
      let old = All-weaker (λ i. i < length xs) (λ i. i < length ys) (λ i h. within_begun xs ys d i g h) ids range in
      subst (λ (zs : List ℕ). All (λ i. i < length ys) zs) (sym e) (All-push (λ i. i < length ys) ids own old (slice_get_within ys own x at))

  pub same_more : items_at ys d new ≡ take (k + 1) items
  same_more =
      ap (λ (zs : List ℕ). items_at ys d zs) e ∙ map_push (λ i. get_or ys i d) ids own
      ∙ (λ q. (items_at-begun xs ys d ids g range ∙ same) q ++ get_or_from_slice_get ys own x d at q ∷ [])
      ∙ sym (taken_next items k x lt is)

-- the number of a set that is in order
pub set_numbered : (I J : InternerData) (ids : List ℕ) (s : List TypeTree) (id : ℕ) → IsSomeSet s → map (type_of_id I) ids ≡ s → (id < length J.sets) × IsSetOf (map (type_of_id I) ids) (set_of_id J id) → slice_get J.sets id ≡ Some s
set_numbered I J ids s id some are h =
    let is : set_of_id J id ≡ s = sets_same (set_of_id J id) s h.1.ascends some.ascends (subst (λ (z : List TypeTree). (a : TypeTree) → (Contains (set_of_id J id) a → Contains z a) × (Contains z a → Contains (set_of_id J id) a)) are h.1.exact) in
    slice_get-get_or J.sets id [] h.0 ∙ ap (λ (z : List TypeTree). Some z) is

-- a row of an environment and a type that were found one after the other
module _ (J K : InternerData) (g : Grows J K) (env ty : ℕ) where
  pub entry_row : (E : Env) → slice_get J.envs env ≡ Some E → (t : TypeTree) → slice_get K.types ty ≡ Some t → (env < length K.envs) × (ty < length K.types)
  entry_row E env_at t ty_at = (env_within J K g env (slice_get_within J.envs env E env_at), slice_get_within K.types ty t ty_at)

  pub row_entry : (e : EntryData) → slice_get J.envs env ≡ Some e.env → slice_get K.types ty ≡ Some e.ty → (point : ℕ) → point ≡ e.point → entry_of K (record { point = point; env = env; ty = ty }) ≡ e
  row_entry e env_at ty_at point at =
      let is_env = env_stays J K g env (slice_get_within J.envs env e.env env_at) ∙ get_or_from_slice_get J.envs env e.env [] env_at in
      let is_type = get_or_from_slice_get K.types ty e.ty (state 0) ty_at in
      λ i. record { point = at i; env = is_env i; ty = is_type i }
