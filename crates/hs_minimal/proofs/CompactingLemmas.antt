-- The lists that the search answers.
use Rattle.std.proofs.Common.{◌≡◌, ◌≢◌, refl, sym, ◌∙◌, ap, subst, ℕ, ◌+◌, ◌<◌, ◌≤◌, List, [], ◌∷◌, ◌++◌, length, take, get_or, slice_get, Some, arith, Contains, ◌⊎◌, inl, inr}
use Rattle.std.specs.Prelude.{AllPairs}
use Rattle.std.specs.Option.{option_map}
use Rattle.std.specs.Ordering.{ordering_reverse}
use Rattle.std.specs.declared.cmp.Ordering.{Ordering}
use Rattle.std.specs.declared.cmp.Ordering.TheVariants.{Less, Equal, Greater}
use Rattle.std.specs.List.Sorted.{IsPermutation, IsSorted}
use Rattle.std.proofs.lemmas.List.{take_all, length-map}
use Rattle.std.proofs.lemmas.List.Elements.{Contains-append_left, Contains-append_right, Contains-get_or}
use Rattle.std.proofs.lemmas.List.Quantifiers.{all_pairs_push}
use Rattle.std.proofs.lemmas.List.Sorted.{IsPermutation-sym, Contains-permutation}
use Rattle.std.proofs.lemmas.Bool.{cases_lt}
use Rattle.std.proofs.lemmas.Option.{slice_get_read, slice_get-map}
use Rattle.hs_scheme.specs.flow.Flow.{IsAscending}
use Rattle.hs_scheme.proofs.Lists.{none_in, here, Contains-at, read-slice_get}
use Rattle.hs_scheme.proofs.Orderings.{ascends}
use Rattle.hs_table.specs.Entries.{EntryData, InShape, entry_cmp}
use Rattle.hs_table_laws.proofs.Members.{from_map, into_map, taken_next, pushed_cases}
use Rattle.hs_table_laws.proofs.Orders.{entry_cmp_total, entry_same}
use Rattle.hs_table_laws.proofs.Places.{place_of, at_take, fewer}
use Rattle.hs_verdict.specs.Premises.{IsSortedProblem}
use Rattle.hs_weak.specs.Strength.{AsStrongAs, Covers}
use Rattle.hs_weak.specs.Weak.{WeaklyFollows, IsCoveredIn}
use Rattle.hs_weak.proofs.Strength.{covers_refl}
use Rattle.hs_types.specs.Interned.{InternerData, RowData, entry_of}
use Rattle.hs_choices.proofs.Growing.{all_members}
use Rattle.hs_reads.specs.Lists.{list_of}
use Rattle.hs_minimal.specs.Compact.{IsTable, IsOneTooMany}
use Rattle.hs_minimal.specs.Growing.{GrowingData, entries, IsGrowing, CoversAll, AreKept}
use Rattle.hs_minimal.proofs.GrowingLemmas.{added_shape}

not_less : (o : Ordering) → o ≡ Less → o ≡ ordering_reverse o → ⊥
not_less Less e h = cc
not_less Equal e h = cc
not_less Greater e h = cc

-- an ascending list has no entry twice
pub ascending_distinct : (C : List EntryData) → IsAscending entry_cmp C → AllPairs (λ a b. a ≢ b) C
ascending_distinct C ascending i j d lt within same =
    let a = get_or C i d in
    let less : entry_cmp a a ≡ Less = subst (λ (e : EntryData). entry_cmp a e ≡ Less) (sym same) (ascending i j d lt within) in
    not_less (entry_cmp a a) less (entry_cmp_total.antisymm a a)

module _ (I : InternerData) (g : GrowingData) (given : IsSortedProblem g.problem) (h : IsGrowing I g) where
  -- no two entries that were added are equal
  differ : (i j : ℕ) (a b : EntryData) → i < j → slice_get (entries I g.history) i ≡ Some a → slice_get (entries I g.history) j ≡ Some b → a ≡ b → ⊥
  differ i j a b lt at_i at_j same =
      let r = from_map (entry_of I) g.history a (Contains-at (entries I g.history) i a at_i) in
      let shape : InShape g.problem a = subst (λ (e : EntryData). InShape g.problem e) (sym r.is) (added_shape I g h given.automaton.to r.item r.there) in
      h.uncovered i j a b lt at_i at_j (subst (λ (e : EntryData). Covers AsStrongAs a e) same (covers_refl g.problem a shape))

  -- the rows that are kept, of those so far
  pub none_kept : (kept : List EntryData) → kept ≡ [] → AreKept I g (take 0 g.history) kept
  none_kept kept is = subst (λ (z : List EntryData). AreKept I g (take 0 g.history) z) (sym is) (record {
    exact = λ e. (λ m. absurd (none_in e m), λ k. absurd (none_in k.0 k.1.0));
    distinct = λ i j d lt within. absurd (omega (arith, within));
  })

  pub all_kept : (k : ℕ) → length g.history ≤ k → (kept : List EntryData) → AreKept I g (take k g.history) kept → AreKept I g g.history kept
  all_kept k past kept are = subst (λ (z : List RowData). AreKept I g z kept) (take_all k g.history past) are

  module _ (k : ℕ) (row : RowData) (lt : k < length g.history) (is : row ≡ get_or g.history k row) (kept : List EntryData) (are : AreKept I g (take k g.history) kept) where
    next : take (k + 1) g.history ≡ take k g.history ++ row ∷ []
    next = taken_next g.history k row lt is

    split : (r : RowData) → Contains (take (k + 1) g.history) r → Contains (take k g.history) r ⊎ (r ≡ row)
    split r m = pushed_cases (take k g.history) row r (subst (λ (z : List RowData). Contains z r) next m)

    was : (r : RowData) → Contains (take k g.history) r → Contains (take (k + 1) g.history) r
    was r m = subst (λ (z : List RowData). Contains z r) (sym next) (Contains-append_left (take k g.history) (row ∷ []) r m)

    own_there : Contains (take (k + 1) g.history) row
    own_there = subst (λ (z : List RowData). Contains z row) (sym next) (Contains-append_right (take k g.history) (row ∷ []) row (here row []))

    pub not_kept : (Contains (list_of g.rows row.point) row → ⊥) → AreKept I g (take (k + 1) g.history) kept
    not_kept not = record {
      exact = λ e. (
        λ m. let r = (are.exact e).0 m in (r.0, (was r.0 r.1.0, r.1.1, r.1.2)),
        λ r. elim (split r.0 r.1.0) [
          | inl before ↦ (are.exact e).1 (r.0, (before, r.1.1, r.1.2))
          | inr same ↦ absurd (not (subst (λ (z : RowData). Contains (list_of g.rows z.point) z) same r.1.1))
        ],
      );
      distinct = are.distinct;
    }

    earlier : (e : EntryData) → Contains kept e → e ≡ entry_of I row → ⊥
    earlier e m same =
        let r = (are.exact e).0 m in
        let at = place_of (take k g.history) r.0 r.1.0 in
        let low = at_take k g.history at.0 r.0 at.1 in
        differ at.0 k (entry_of I r.0) (entry_of I row) low.0 (mapped at.0 r.0 low.1) (mapped k row (slice_get_read g.history (length g.history) k row refl lt is)) (r.1.2 ∙ same)
      where
        mapped : (i : ℕ) (r : RowData) → slice_get g.history i ≡ Some r → slice_get (entries I g.history) i ≡ Some (entry_of I r)
        mapped i r at = slice_get-map (entry_of I) g.history i ∙ ap (option_map (entry_of I)) at

    pub one_kept : Contains (list_of g.rows row.point) row → (new : List EntryData) (own : EntryData) → own ≡ entry_of I row → new ≡ kept ++ own ∷ [] → AreKept I g (take (k + 1) g.history) new
    one_kept there new own own_is new_is = subst (λ (z : List EntryData). AreKept I g (take (k + 1) g.history) z) (sym new_is) (record {
      exact = λ e. (
        λ m. elim (pushed_cases kept own e m) [
          | inl before ↦ let r = (are.exact e).0 before in (r.0, (was r.0 r.1.0, r.1.1, r.1.2))
          | inr same ↦ (row, (own_there, there, sym (same ∙ own_is)))
        ],
        λ r. elim (split r.0 r.1.0) [
          | inl before ↦ Contains-append_left kept (own ∷ []) e ((are.exact e).1 (r.0, (before, r.1.1, r.1.2)))
          | inr same ↦ Contains-append_right kept (own ∷ []) e (subst (λ (x : EntryData). Contains (own ∷ []) x) (own_is ∙ (sym (ap (entry_of I) same) ∙ r.1.2)) (here own []))
        ],
      );
      distinct = all_pairs_push (λ a b. a ≢ b) kept own are.distinct (λ i d below same. earlier (get_or kept i d) (Contains-get_or kept i d below) (same ∙ own_is));
    })

  -- in ascending order
  module _ (settled : CoversAll I g) (room : length g.history ≤ g.budget) (kept table : List EntryData) (are : AreKept I g g.history kept) (moved : IsPermutation kept table) (sorted : IsSorted entry_cmp table) where
    into_table : (e : EntryData) → Contains kept e → Contains table e
    into_table e m = Contains-permutation kept table e moved m

    row_of : (e : EntryData) → Contains table e → (row : RowData) × (Contains g.history row × Contains (list_of g.rows row.point) row × (entry_of I row ≡ e))
    row_of e m = (are.exact e).0 (Contains-permutation table kept e (IsPermutation-sym kept table moved) m)

    ascending : IsAscending entry_cmp table
    ascending = ascends entry_cmp entry_cmp_total entry_same kept table are.distinct moved sorted

    distinct : AllPairs (λ a b. a ≢ b) table
    distinct = ascending_distinct table ascending

    few : length table ≤ g.budget
    few =
        let most = fewer table (entries I g.history) distinct (λ e m. let r = row_of e m in subst (λ (x : EntryData). Contains (entries I g.history) x) r.1.2 (into_map (entry_of I) g.history r.0 r.1.0)) in
        let long = length-map g.history (entry_of I) in
        omega (arith, most, long, room)

    never : (i j : ℕ) (a : EntryData) → i < j → slice_get table i ≡ Some a → slice_get table j ≡ Some a → ⊥
    never i j a lt at_i at_j =
        let r = read-slice_get table i a at_i in
        let q = read-slice_get table j a at_j in
        distinct i j a lt q.0 (r.1 ∙ sym q.1)

    one_place : (i j : ℕ) (a : EntryData) → slice_get table i ≡ Some a → slice_get table j ≡ Some a → i ≡ j
    one_place i j a at_i at_j = elim (cases_lt i j) [
      | inl lt ↦ absurd (never i j a lt at_i at_j)
      | inr ge ↦ elim (cases_lt j i) [
        | inl gt ↦ absurd (never j i a gt at_j at_i)
        | inr le ↦ omega (arith, ge, le)
      ]
    ]

    shape : (e : EntryData) → Contains table e → InShape g.problem e
    shape e m = let r = row_of e m in subst (λ (x : EntryData). InShape g.problem x) r.1.2 (added_shape I g h given.automaton.to r.0 r.1.0)

    of_rows : (e : EntryData) → Contains table e → (row : RowData) × (Contains (list_of g.rows row.point) row × (entry_of I row ≡ e))
    of_rows e m = let r = row_of e m in (r.0, (r.1.1, r.1.2))

    -- entries that cover one another are one
    one_entry : (a b : EntryData) → Contains table a → Contains table b → Covers AsStrongAs a b → a ≡ b
    one_entry a b in_a in_b covers =
        let r = of_rows a in_a in
        let q = of_rows b in_b in
        let same : q.0.point ≡ r.0.point = ap (λ (e : EntryData). e.point) q.1.1 ∙ (sym covers.point ∙ sym (ap (λ (e : EntryData). e.point) r.1.1)) in
        let own = subst (λ (e : EntryData). Covers AsStrongAs (entry_of I r.0) e) (sym q.1.1) (subst (λ (e : EntryData). Covers AsStrongAs e b) (sym r.1.1) covers) in
        sym r.1.1 ∙ (ap (entry_of I) (h.apart r.0.point r.0 q.0 r.1.0 (subst (λ u. Contains (list_of g.rows u) q.0) same q.1.0) own) ∙ q.1.1)

    closed : (e : EntryData) → WeaklyFollows AsStrongAs g.problem table e → IsCoveredIn AsStrongAs g.problem table e
    closed e follows =
        let c = settled table of_rows e follows in
        let t = h.taken e.point c.0 c.1.0 in
        let there : Contains table (entry_of I c.0) = into_table (entry_of I c.0) ((are.exact (entry_of I c.0)).1 (c.0, (t.1, subst (λ u. Contains (list_of g.rows u) c.0) (sym t.0) c.1.0, refl))) in
        let at = place_of table (entry_of I c.0) there in
        (at.0, entry_of I c.0, (record { at = at.1; shape = shape (entry_of I c.0) there }, c.1.1))

    pub is_table : IsTable g.problem g.budget table
    is_table = record {
      compact = record {
        apart = λ i j a b at_i at_j not covers. not (one_place i j a at_i (subst (λ (e : EntryData). slice_get table j ≡ Some e) (sym (one_entry a b (Contains-at table i a at_i) (Contains-at table j b at_j) covers)) at_j));
        from = entries I g.history;
        derived = h.derived;
        within = λ e m. let r = row_of e m in subst (λ (x : EntryData). Contains (entries I g.history) x) r.1.2 (into_map (entry_of I) g.history r.0 r.1.0);
        closed = closed;
      };
      ascending = ascending;
      shape = all_members (InShape g.problem) table shape;
      few = few;
    }

pub is_over : (I : InternerData) (g : GrowingData) → IsGrowing I g → g.budget < length g.history → (all : List EntryData) → all ≡ entries I g.history → IsOneTooMany g.problem g.budget all
is_over I g h full all is = subst (λ (T : List EntryData). IsOneTooMany g.problem g.budget T) (sym is) (record {
  long = let long = length-map g.history (entry_of I) in omega (arith, long, full, h.few);
  derived = h.derived;
  uncovered = h.uncovered;
})
