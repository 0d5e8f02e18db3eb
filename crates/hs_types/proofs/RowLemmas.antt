-- Rows while the interner grows.
use Rattle.std.proofs.Common.{◌≡◌, refl, sym, ◌∙◌, ap, subst, ℕ, ◌+◌, ◌<◌, List, [], ◌∷◌, ◌++◌, length, map, get_or, take, All, slice_get, Some}
use Rattle.std.proofs.lemmas.List.{map_more, map_push}
use Rattle.std.proofs.lemmas.Option.{slice_get_within, get_or_from_slice_get}
use Rattle.std.proofs.lemmas.List.Elements.{All-head, All-tail, All-push, All-weaker}
use Rattle.hs_table.specs.Types.{TypeTree, state, arrow}
use Rattle.hs_types.specs.Interned.{InternerData, type_of_id, set_of_id, env_of_id, RowData, IsRow, entry_of, Grows}
use Rattle.hs_types.proofs.Numbers.{env_within, env_stays, set_stays, row_within, row_stays}

module _ (J K : InternerData) (g : Grows J K) where
  -- what rows stand for stays
  pub rows_stay : (rows : List RowData) → All (IsRow J) rows → map (entry_of K) rows ≡ map (entry_of J) rows
  rows_stay [] h = refl
  rows_stay (r ∷ rows) h =
      let is = row_stays J K g r (All-head (IsRow J) r rows h) in
      let rest = rows_stay rows (All-tail (IsRow J) r rows h) in
      λ i. is i ∷ rest i

  module _ (rows new : List RowData) (own : RowData) (known : All (IsRow J) rows) where
    pub rows_known : IsRow K own → new ≡ rows ++ own ∷ [] → All (IsRow K) new
    rows_known is e =
        subst (λ (rs : List RowData). All (IsRow K) rs) (sym e) (All-push (IsRow K) rows own (All-weaker (IsRow J) (IsRow K) (λ r h. row_within J K g r h) rows known) is)

-- one more row stands for the other's next one
pub rows_same : (J K from : InternerData) → Grows J K → (rows new others : List RowData) (own other : RowData) (k : ℕ) → All (IsRow J) rows → map (entry_of J) rows ≡ map (entry_of from) (take k others)
    → entry_of K own ≡ entry_of from other → k < length others → other ≡ get_or others k other → new ≡ rows ++ own ∷ [] → map (entry_of K) new ≡ map (entry_of from) (take (k + 1) others)
rows_same J K from g rows new others own other k known same entry lt is e =
    ap (λ (rs : List RowData). map (entry_of K) rs) e ∙ map_push (entry_of K) rows own
    ∙ (λ i. (rows_stay J K g rows known ∙ same) i ++ (entry ∙ ap (entry_of from) is) i ∷ [])
    ∙ sym (map_more (entry_of from) others k other lt)

-- a row of an environment and a type that were found one after the other
module _ (J K from : InternerData) (g : Grows J K) (row : RowData) (env ty : ℕ) (env_at : slice_get J.envs env ≡ Some (env_of_id from row.env)) (ty_at : slice_get K.types ty ≡ Some (type_of_id from row.ty)) where
  env_in : env < length J.envs
  env_in = slice_get_within J.envs env (env_of_id from row.env) env_at

  pub found_row : IsRow K (record { point = row.point; env = env; ty = ty })
  found_row = (env_within J K g env env_in, slice_get_within K.types ty (type_of_id from row.ty) ty_at)

  pub found_entry : entry_of K (record { point = row.point; env = env; ty = ty }) ≡ entry_of from row
  found_entry =
      let e = env_stays J K g env env_in ∙ get_or_from_slice_get J.envs env (env_of_id from row.env) [] env_at in
      let t = get_or_from_slice_get K.types ty (type_of_id from row.ty) (state 0) ty_at in
      λ i. record { point = row.point; env = e i; ty = t i }

-- an arrow of a set and a type that were found one after the other
pub found_arrow : (J K : InternerData) (s r : ℕ) (S : List TypeTree) (R t : TypeTree) → Grows J K → slice_get J.sets s ≡ Some S → slice_get K.types r ≡ Some R → t ≡ arrow S R → arrow (set_of_id K s) (type_of_id K r) ≡ t
found_arrow J K s r S R t g s_at r_at is =
    let e = set_stays J K g s (slice_get_within J.sets s S s_at) ∙ get_or_from_slice_get J.sets s S [] s_at in
    let f = get_or_from_slice_get K.types r R (state 0) r_at in
    (λ i. arrow (e i) (f i)) ∙ sym is
