-- Rows that are filed by their points and two states.
use Rattle.std.proofs.Common.{◌≡◌, ◌≢◌, refl, sym, ◌∙◌, ap, subst, ℕ, zero, suc, ◌+◌, ◌<◌, ◌≤◌, Bool, true, false, true≢false, ◌&&◌, cond, nat_eq, List, [], ◌∷◌, ◌++◌, Option, length, map, take, get_or, set, ltb, All, Contains, ◌⊎◌, inl, inr}
use Rattle.std.proofs.lemmas.Bool.{eqb-true, eq-eqb, and_parts}
use Rattle.std.proofs.lemmas.Grind.{get_or-set_at}
use Rattle.std.proofs.lemmas.List.{take_all, get_or-set_other}
use Rattle.std.proofs.lemmas.Option.{unwrap_or-slice_get}
use Rattle.std.proofs.lemmas.List.Elements.{Contains-append_left, Contains-append_right}
use Rattle.hs_scheme.specs.Key.{key_eq}
use Rattle.std.specs.Prelude.{unwrap_or}
use Rattle.hs_scheme.proofs.Lists.{none_in, here, later, slice_get-read, got_some, got_none}
use Rattle.hs_table.specs.Types.{TypeTree}
use Rattle.hs_table.specs.Entries.{Env, Has, set_at}
use Rattle.hs_table_laws.proofs.Members.{taken_next, pushed_cases}
use Rattle.hs_weak.specs.Reads.{last_state}
use Rattle.hs_weak.specs.Strength.{AsStrongAs, AsksAtLeast}
use Rattle.hs_types.specs.Interned.{InternerData, RowData, IsRow, set_of_id, env_of_id}
use Rattle.hs_types.specs.contracts.ids.RowPartialEq.TheImpl.{eq-value}
use Rattle.hs_strength.proofs.LastStates.{strong_last}
use Rattle.hs_strength.proofs.Rows.{each_mapped}
use Rattle.hs_reads.specs.Lists.{list_of}
use Rattle.hs_choices.proofs.Growing.{all_members}
use Rattle.hs_minimal.specs.Ends.{EndData, rows_ending}
use Rattle.hs_minimal.specs.Strongest.{AsksToEnd, end_of_row, IsFilingState, IsFiled, IsFiledAmong, AreFiled, AreRowsIn, IsOtherCovering, IsCoveredByOther}
use Rattle.hs_minimal.proofs.EndLemmas.{same_key, gained, still, now_there}

-- whatever asks for a type of a set asks for one with the same state at its end
pub asks_end : (E B : Env) (j : ℕ) (a : TypeTree) (q : ℕ) → Has B j a → q ≡ last_state a → AsksAtLeast AsStrongAs E B → AsksToEnd E q
asks_end E B j a q there is asks = let b = asks j a there in (j, (b.0, (b.1.0, strong_last b.1.1 ∙ sym is)))

-- one list of lists is another
pub list_put : {T : Type 0} (xs : List (List T)) (u : ℕ) (v : List T) → u < length xs → (k : ℕ) → list_of (set xs u v) k ≡ cond (nat_eq k u) v (list_of xs k)
list_put {T = T} xs u v within k = by (nat_eq k u) refl
  where
    other : nat_eq k u ≡ false → k ≡ u → ⊥
    other e same = let yes = eq-eqb k u same in absurd (cc)

    by : (t : Bool) → nat_eq k u ≡ t → list_of (set xs u v) k ≡ cond t v (list_of xs k)
    by true e = unwrap_or-slice_get (set xs u v) k [] ∙ get_or-set_at xs u k v [] (eqb-true k u e) within
    by false e = unwrap_or-slice_get (set xs u v) k [] ∙ (get_or-set_other xs u k v [] (other e) ∙ sym (unwrap_or-slice_get xs k []))

-- rows that are equal, and such as aren't
pub rows_equal : (a b : RowData) → eq-value.it a b ≡ true → a ≡ b
rows_equal a b h =
    let e = and_parts (nat_eq a.point b.point) (nat_eq a.env b.env && nat_eq a.ty b.ty) h in
    let f = and_parts (nat_eq a.env b.env) (nat_eq a.ty b.ty) e.1 in
    λ i. record { point = eqb-true a.point b.point e.0 i; env = eqb-true a.env b.env f.0 i; ty = eqb-true a.ty b.ty f.1 i }

row_itself : (a : RowData) → eq-value.it a a ≡ true
row_itself a = rw (eq-eqb a.point a.point refl, eq-eqb a.env a.env refl, eq-eqb a.ty a.ty refl)

pub rows_differ : (a b : RowData) → eq-value.it a b ≡ false → a ≢ b
rows_differ a b h e = true≢false (sym (subst (λ (c : RowData). eq-value.it a c ≡ true) e (row_itself a)) ∙ h)

-- the rows by a row's two states have got the row
abbrev Pushes : InternerData → RowData → ℕ → EndData → EndData → Type 0
Pushes I row q was own = (u s : ℕ) → rows_ending own u s ≡ cond (key_eq (end_of_row I row, q) (u, s)) (rows_ending was u s ++ row ∷ []) (rows_ending was u s)

pub by_end : (I : InternerData) (row : RowData) (q : ℕ) (was own : EndData) (e : ℕ) → e ≡ end_of_row I row → ((u s : ℕ) → rows_ending own u s ≡ cond (key_eq (e, q) (u, s)) (rows_ending was u s ++ row ∷ []) (rows_ending was u s)) → Pushes I row q was own
by_end I row q was own e is pushes = subst (λ z. (u s : ℕ) → rows_ending own u s ≡ cond (key_eq (z, q) (u, s)) (rows_ending was u s ++ row ∷ []) (rows_ending was u s)) is pushes

-- a row is added at its point
module _ (I : InternerData) (row : RowData) (q : ℕ) (filing : IsFilingState I row q) (old : List EndData) (within : row.point < length old) (new : List EndData) (was_own own : EndData) (read : was_own ≡ get_or old row.point was_own) (put : new ≡ set old row.point own)
    (pushes : Pushes I row q was_own own) where
  was_is : was_own ≡ list_of old row.point
  was_is = sym (ap (λ (o : Option EndData). unwrap_or o []) (slice_get-read old row.point was_own within (sym read)))

  pushed : (u s : ℕ) → rows_ending own u s ≡ cond (key_eq (end_of_row I row, q) (u, s)) (rows_ending (list_of old row.point) u s ++ row ∷ []) (rows_ending (list_of old row.point) u s)
  pushed u s = pushes u s ∙ ap (λ (z : EndData). cond (key_eq (end_of_row I row, q) (u, s)) (rows_ending z u s ++ row ∷ []) (rows_ending z u s)) was_is

  at : (k : ℕ) → list_of new k ≡ cond (nat_eq k row.point) own (list_of old k)
  at k = ap (λ (z : List EndData). list_of z k) put ∙ list_put old row.point own within k

  own_at : list_of new row.point ≡ own
  own_at = at row.point ∙ ap (λ (b : Bool). cond b own (list_of old row.point)) (eq-eqb row.point row.point refl)

  pub row_filed : IsFiled I new row
  row_filed = (
    q,
    (
      filing,
      now_there (key_eq (end_of_row I row, q) (end_of_row I row, q)) (rows_ending (list_of old row.point) (end_of_row I row) q) (rows_ending (list_of new row.point) (end_of_row I row) q) row
          (ap (λ (z : EndData). rows_ending z (end_of_row I row) q) own_at ∙ pushed (end_of_row I row) q) (same_key (end_of_row I row) q (end_of_row I row) q refl refl),
    ),
  )

  more_at : (u e s : ℕ) (r : RowData) → Contains (rows_ending (list_of old u) e s) r → Contains (rows_ending (list_of new u) e s) r
  more_at u e s r m = by (nat_eq u row.point) refl
    where
      by : (b : Bool) → nat_eq u row.point ≡ b → Contains (rows_ending (list_of new u) e s) r
      by true is =
          let same = eqb-true u row.point is in
          let was : Contains (rows_ending (list_of old row.point) e s) r = subst (λ k. Contains (rows_ending (list_of old k) e s) r) same m in
          let now : Contains (rows_ending own e s) r = still (key_eq (end_of_row I row, q) (e, s)) (rows_ending (list_of old row.point) e s) (rows_ending own e s) row r (pushed e s) was in
          subst (λ (z : EndData). Contains (rows_ending z e s) r) (sym (at u ∙ ap (λ (b : Bool). cond b own (list_of old u)) is)) now
      by false is = subst (λ (z : EndData). Contains (rows_ending z e s) r) (sym (at u ∙ ap (λ (b : Bool). cond b own (list_of old u)) is)) m

  pub still_filed : (r : RowData) → IsFiled I old r → IsFiled I new r
  still_filed r f = (f.0, (f.1.0, more_at r.point (end_of_row I r) f.0 r f.1.1))

  pub only_filed : (r : RowData) → IsFiledAmong new r → IsFiledAmong old r ⊎ (r ≡ row)
  only_filed r (u, (e, (s, m))) = by (nat_eq u row.point) refl
    where
      by : (b : Bool) → nat_eq u row.point ≡ b → IsFiledAmong old r ⊎ (r ≡ row)
      by true is =
          let now : Contains (rows_ending own e s) r = subst (λ (z : EndData). Contains (rows_ending z e s) r) (at u ∙ ap (λ (b : Bool). cond b own (list_of old u)) is) m in
          elim (gained (key_eq (end_of_row I row, q) (e, s)) (rows_ending (list_of old row.point) e s) (rows_ending own e s) row r (pushed e s) now) [
            | inl was ↦ inl (row.point, (e, (s, was)))
            | inr it ↦ inr it.1
          ]
      by false is = inl (u, (e, (s, subst (λ (z : EndData). Contains (rows_ending z e s) r) (at u ∙ ap (λ (b : Bool). cond b own (list_of old u)) is) m)))

-- a list that is read, and one that isn't there
pub got_list : {T : Type 0} (xs : List (List T)) (k : ℕ) (x : List T) → true ≡ ltb k (length xs) → x ≡ get_or xs k x → list_of xs k ≡ x
got_list {T = T} xs k x within is = ap (λ (o : Option (List T)). unwrap_or o []) (got_some xs k x within is)

pub got_no_list : {T : Type 0} (xs : List (List T)) (k : ℕ) → false ≡ ltb k (length xs) → list_of xs k ≡ []
got_no_list {T = T} xs k past = ap (λ (o : Option (List T)). unwrap_or o []) (got_none xs k past)

-- no rows are filed
pub none_filed : (filed : List EndData) → ((k : ℕ) → list_of filed k ≡ []) → (r : RowData) → IsFiledAmong filed r → ⊥
none_filed filed none r (u, (e, (s, m))) = none_in r (subst (λ (z : EndData). Contains (rows_ending z e s) r) (none u) m)

pub empty_pushed : {T : Type 0} (xs ys : List (List T)) (x : List T) → x ≡ [] → ys ≡ xs ++ x ∷ [] → ((k : ℕ) → list_of xs k ≡ []) → (k : ℕ) → list_of ys k ≡ []
empty_pushed {T = T} xs ys x empty is none k = ap (λ (z : List (List T)). list_of z k) is ∙ at xs none k
  where
    at : (xs : List (List T)) → ((k : ℕ) → list_of xs k ≡ []) → (k : ℕ) → list_of (xs ++ x ∷ []) k ≡ []
    at [] none zero = empty
    at [] none (suc k) = refl
    at (y ∷ xs) none zero = none 0
    at (y ∷ xs) none (suc k) = at xs (λ j. none (suc j)) k

-- which rows are filed, of those so far
module _ (I : InternerData) (rows : List RowData) where
  pub filed_none : (filed : List EndData) → ((r : RowData) → IsFiledAmong filed r → ⊥) → AreFiled I (take 0 rows) filed
  filed_none filed none = record { each = λ r m. absurd (none_in r m); only = λ r m. absurd (none r m) }

  pub filed_next : (k : ℕ) (row : RowData) → k < length rows → row ≡ get_or rows k row → (old : List EndData) → AreFiled I (take k rows) old → (new : List EndData) → IsFiled I new row → ((r : RowData) → IsFiled I old r → IsFiled I new r)
      → ((r : RowData) → IsFiledAmong new r → IsFiledAmong old r ⊎ (r ≡ row)) → AreFiled I (take (k + 1) rows) new
  filed_next k row lt is old h new own keeps only = record {
    each = λ r m. elim (pushed_cases (take k rows) row r (subst (λ (z : List RowData). Contains z r) next m)) [
      | inl before ↦ keeps r (h.each r before)
      | inr same ↦ subst (λ (z : RowData). IsFiled I new z) (sym same) own
    ];
    only = λ r m. elim (only r m) [
      | inl before ↦ subst (λ (z : List RowData). Contains z r) (sym next) (Contains-append_left (take k rows) (row ∷ []) r (h.only r before))
      | inr same ↦ subst (λ (z : List RowData). Contains z r) (sym next) (Contains-append_right (take k rows) (row ∷ []) r (subst (λ (z : RowData). Contains (row ∷ []) z) (sym same) (here row [])))
    ];
  }
    where
      next : take (k + 1) rows ≡ take k rows ++ row ∷ []
      next = taken_next rows k row lt is

  pub filed_all : (k : ℕ) → length rows ≤ k → (filed : List EndData) → AreFiled I (take k rows) filed → AreFiled I rows filed
  filed_all k past filed h = subst (λ (z : List RowData). AreFiled I z filed) (take_all k rows past) h

-- what holds of each type of each set holds of each type that is asked for
pub each_asked : (I : InternerData) (ids : List ℕ) (env : Env) → map (set_of_id I) ids ≡ env → (P : TypeTree → Type 0) → ((s : ℕ) → Contains ids s → (a : TypeTree) → Contains (set_of_id I s) a → P a) → (j : ℕ) (a : TypeTree) → Has env j a → P a
each_asked I ids env is P h j a m = each_mapped (set_of_id I) (λ (s : List TypeTree). (a : TypeTree) → Contains s a → P a) ids env is h (set_at env j) (set_there env j a m) a m
  where
    set_there : (E : Env) (j : ℕ) (a : TypeTree) → Has E j a → Contains E (set_at E j)
    set_there [] j a m = absurd (none_in a m)
    set_there (s ∷ E) zero a m = here s E
    set_there (s ∷ E) (suc j) a m = later s (set_at E j) E (set_there E j a m)

-- rows that are filed are in use
pub rows_in_use : (I : InternerData) (filed : List EndData) → AreRowsIn I filed → (u e q : ℕ) (rows : List RowData) → rows ≡ rows_ending (list_of filed u) e q → All (IsRow I) rows
rows_in_use I filed h u e q rows is = all_members (IsRow I) rows (λ r m. h r (u, (e, (q, subst (λ (z : List RowData). Contains z r) is m))))

-- what a search by the two states finds
module _ (I : InternerData) (filed : List EndData) (row : RowData) where
  pub among : (e q : ℕ) (rows : List RowData) → rows ≡ rows_ending (list_of filed row.point) e q → IsCoveredByOther I rows row → (o : RowData) × (IsFiledAmong filed o × IsOtherCovering I row o)
  among e q rows is (o, (m, h)) = (o, ((row.point, (e, (q, subst (λ (z : List RowData). Contains z o) is m))), h))

  -- one that covers it stands at its point by its last state, and either by that once more or by one that it asks for
  pub found_by : (none_free : IsCoveredByOther I (rows_ending (list_of filed row.point) (end_of_row I row) (end_of_row I row)) row → ⊥)
      → ((j : ℕ) (a : TypeTree) → Has (env_of_id I row.env) j a → IsCoveredByOther I (rows_ending (list_of filed row.point) (end_of_row I row) (last_state a)) row → ⊥)
      → (o : RowData) → IsFiled I filed o → IsOtherCovering I row o → ⊥
  found_by none_free none_asked o (q, (filing, m)) h = elim filing [
    | inl own ↦ none_free (o, (subst (λ s. Contains (rows_ending (list_of filed row.point) (end_of_row I row) s) o) (own ∙ ends) there, h))
    | inr first ↦
        let a = first (env_of_id I row.env) h.1.env in
        none_asked a.0 a.1.0 a.1.1.0 (o, (subst (λ s. Contains (rows_ending (list_of filed row.point) (end_of_row I row) s) o) (sym a.1.1.1) there, h))
  ]
    where
      ends : end_of_row I o ≡ end_of_row I row
      ends = strong_last h.1.ty

      there : Contains (rows_ending (list_of filed row.point) (end_of_row I row) q) o
      there = subst (λ e. Contains (rows_ending (list_of filed row.point) e q) o) ends (subst (λ u. Contains (rows_ending (list_of filed u) (end_of_row I o) q) o) h.1.point m)
