-- A table that grows: while there come more numbers, and by one entry.
use Rattle.std.proofs.Common.{◌≡◌, refl, sym, ◌∙◌, ap, subst, ℕ, ◌+◌, ◌≤◌, Bool, true, false, nat_eq, cond, List, [], ◌∷◌, ◌++◌, length, map, take, slice_get, Some, All, arith, Contains, ◌⊎◌, ◌↔◌, inl, inr}
use Rattle.std.proofs.lemmas.Bool.{eqb-true, eq-eqb}
use Rattle.std.proofs.lemmas.List.{map_push, take-append-le}
use Rattle.std.proofs.lemmas.List.Elements.{All-weaker, All-contains, All-push, Contains-append_left, Contains-append_right}
use Rattle.hs_scheme.specs.Problem.{ProblemData}
use Rattle.hs_scheme.proofs.Lists.{none_in, here, later, push_cases, Contains-at}
use Rattle.hs_table.specs.Entries.{EntryData, InShape}
use Rattle.hs_table_laws.proofs.Members.{from_map, into_map, pushed_cases}
use Rattle.hs_table_laws.proofs.Places.{within_from, place_of}
use Rattle.hs_table_laws.proofs.Shapes.{LeadsWithin}
use Rattle.hs_weak.specs.Strength.{AsStrongAs, Covers}
use Rattle.hs_weak.specs.Weak.{WeaklyFollows, EachWeaklyFollows}
use Rattle.hs_weak.proofs.Strength.{covers_refl, covers_trans}
use Rattle.hs_types.specs.Interned.{InternerData, RowData, IsRow, type_of_id, entry_of, Grows}
use Rattle.hs_types.proofs.Numbers.{type_stays, row_within, row_stays}
use Rattle.hs_weak.specs.Reads.{last_state}
use Rattle.hs_scheme.specs.Key.{key_eq}
use Rattle.hs_strength.specs.Remembered.{IsCovered}
use Rattle.hs_choices.proofs.Growing.{all_members}
use Rattle.hs_reads.specs.Lists.{list_of, IsPushed}
use Rattle.hs_minimal.specs.Compact.{NoneIsCovered}
use Rattle.hs_minimal.specs.Ends.{EndData, rows_ending}
use Rattle.hs_minimal.specs.Growing.{GrowingData, entries, IsCoveredAt, AreEnding, IsGrowing, AreLeft, IsLeftBy}
use Rattle.hs_strength.proofs.LastStates.{strong_last}
use Rattle.hs_minimal.proofs.EndLemmas.{key_parts, same_key, gained, still, now_there}
use Rattle.hs_minimal.proofs.Elsewhere.{weakly_more}
use Rattle.hs_minimal.proofs.Shapes.{weakly_shape}

map_same : {X Y : Type 0} (f g : X → Y) (xs : List X) → ((x : X) → Contains xs x → f x ≡ g x) → map f xs ≡ map g xs
map_same f g [] h = refl
map_same f g (x ∷ xs) h = λ i. h x (here x xs) i ∷ map_same f g xs (λ y m. h y (later x y xs m)) i

-- the entries of rows stay the same
module _ (I J : InternerData) (grows : Grows I J) where
  pub entries_stay : (rows : List RowData) → ((r : RowData) → Contains rows r → IsRow I r) → entries J rows ≡ entries I rows
  entries_stay rows in_use = map_same (entry_of J) (entry_of I) rows (λ r m. row_stays I J grows r (in_use r m))

module _ (I : InternerData) (g : GrowingData) (h : IsGrowing I g) where
  pub added_in_use : (r : RowData) → Contains g.history r → IsRow I r
  added_in_use r m = All-contains (IsRow I) g.history r h.in_use m

  pub kept_in_use : (u : ℕ) (r : RowData) → Contains (list_of g.rows u) r → IsRow I r
  kept_in_use u r m = added_in_use r (h.taken u r m).1

  -- those that are kept at a point
  pub kept_rows : (u : ℕ) (rows : List RowData) → rows ≡ list_of g.rows u → All (IsRow I) rows
  kept_rows u rows is = all_members (IsRow I) rows (λ r m. kept_in_use u r (subst (λ (z : List RowData). Contains z r) is m))

  -- and those of them with a state at the end of their type
  pub ending_rows : (u q : ℕ) (rows : List RowData) → rows ≡ rows_ending g.ends u q → All (IsRow I) rows
  ending_rows u q rows is = all_members (IsRow I) rows (λ r m. kept_in_use u r ((h.ended u q r).0 (subst (λ (z : List RowData). Contains z r) is m)).0)

  -- those like a row are enough to see whether it is kept, and whether one covers it
  pub alike_kept : (row : RowData) (rows : List RowData) → rows ≡ rows_ending g.ends row.point (last_state (type_of_id I row.ty)) → Contains rows row ↔ Contains (list_of g.rows row.point) row
  alike_kept row rows is = (
    λ m. ((h.ended row.point (last_state (type_of_id I row.ty)) row).0 (subst (λ (z : List RowData). Contains z row) is m)).0,
    λ m. subst (λ (z : List RowData). Contains z row) (sym is) ((h.ended row.point (last_state (type_of_id I row.ty)) row).1 (m, refl)),
  )

  pub alike_known : (row : RowData) → Contains (list_of g.rows row.point) row → IsCoveredAt I g (entry_of I row)
  alike_known row m = h.covering row (h.taken row.point row m).1

  pub alike_covered : (row : RowData) (rows : List RowData) → rows ≡ rows_ending g.ends row.point (last_state (type_of_id I row.ty)) → IsCovered I row rows ↔ IsCoveredAt I g (entry_of I row)
  alike_covered row rows is = (
    λ c. (c.0, (((h.ended row.point (last_state (type_of_id I row.ty)) c.0).0 (subst (λ (z : List RowData). Contains z c.0) is c.1.0)).0, c.1.1)),
    λ c. (c.0, (subst (λ (z : List RowData). Contains z c.0) (sym is) ((h.ended row.point (last_state (type_of_id I row.ty)) c.0).1 (c.1.0, strong_last c.1.1.ty)), c.1.1)),
  )

  pub added_shape : LeadsWithin g.problem.sorted.automaton → (r : RowData) → Contains g.history r → InShape g.problem (entry_of I r)
  added_shape leads r m =
      let at = place_of (entries I g.history) (entry_of I r) (into_map (entry_of I) g.history r m) in
      weakly_shape g.problem (take at.0 (entries I g.history)) leads (entry_of I r) (h.derived at.0 (entry_of I r) at.1)

  module _ (J : InternerData) (grows : Grows I J) where
    same_entry : (r : RowData) → Contains g.history r → entry_of J r ≡ entry_of I r
    same_entry r m = row_stays I J grows r (added_in_use r m)

    same_entries : entries J g.history ≡ entries I g.history
    same_entries = entries_stay I J grows g.history added_in_use

    same_last : (u : ℕ) (r : RowData) → Contains (list_of g.rows u) r → last_state (type_of_id J r.ty) ≡ last_state (type_of_id I r.ty)
    same_last u r m = ap last_state (type_stays I J grows r.ty (kept_in_use u r m).1)

    pub growing_stays : IsGrowing J g
    growing_stays = record {
      in_use = All-weaker (IsRow I) (IsRow J) (row_within I J grows) g.history h.in_use;
      few = h.few;
      derived = subst (λ (T : List EntryData). EachWeaklyFollows AsStrongAs g.problem T) (sym same_entries) h.derived;
      uncovered = subst NoneIsCovered (sym same_entries) h.uncovered;
      long = h.long;
      ended = λ u q r. (
        λ m. let a = (h.ended u q r).0 m in (a.0, same_last u r a.0 ∙ a.1),
        λ a. (h.ended u q r).1 (a.0, sym (same_last u r a.0) ∙ a.1),
      );
      taken = h.taken;
      covering = λ r m.
          let c = h.covering r m in
          let by_is = same_entry c.0 (h.taken r.point c.0 c.1.0).1 in
          (c.0, (c.1.0, subst (λ (e : EntryData). Covers AsStrongAs e (entry_of J r)) (sym by_is) (subst (λ (e : EntryData). Covers AsStrongAs (entry_of I c.0) e) (sym (same_entry r m)) c.1.1)));
      apart = λ u a b in_a in_b covers. h.apart u a b in_a in_b
          (subst (λ (e : EntryData). Covers AsStrongAs e (entry_of I b)) (same_entry a (h.taken u a in_a).1) (subst (λ (e : EntryData). Covers AsStrongAs (entry_of J a) e) (same_entry b (h.taken u b in_b).1) covers));
    }

same_or_not : (u v : ℕ) → (u ≡ v) ⊎ (nat_eq u v ≡ false)
same_or_not u v = by (nat_eq u v) refl
  where
    by : (t : Bool) → nat_eq u v ≡ t → (u ≡ v) ⊎ (nat_eq u v ≡ false)
    by true e = inl (eqb-true u v e)
    by false e = inr e

-- one entry more
module _ (I : InternerData) (g : GrowingData) (h : IsGrowing I g) (leads : LeadsWithin g.problem.sorted.automaton) (row : RowData) (in_use : IsRow I row) (room : length g.history ≤ g.budget)
    (follows : WeaklyFollows AsStrongAs g.problem (entries I g.history) (entry_of I row)) (uncovered : IsCoveredAt I g (entry_of I row) → ⊥) where
  abbrev x : EntryData
  x = entry_of I row

  abbrev T : List EntryData
  T = entries I g.history

  entries_more : entries I (g.history ++ row ∷ []) ≡ T ++ x ∷ []
  entries_more = map_push (entry_of I) g.history row

  derived_more : EachWeaklyFollows AsStrongAs g.problem (T ++ x ∷ [])
  derived_more i d at = elim (push_cases T x d i at) [
    | inl was ↦
        let lt = within_from T i d was in
        subst (λ (E : List EntryData). WeaklyFollows AsStrongAs g.problem E d) (sym (take-append-le i T (x ∷ []) (omega (arith, lt)))) (h.derived i d was)
    | inr last ↦
        subst (λ (e : EntryData). WeaklyFollows AsStrongAs g.problem (take i (T ++ x ∷ [])) e) last.1
        (weakly_more g.problem T (take i (T ++ x ∷ [])) (λ e m. subst (λ k. Contains (take k (T ++ x ∷ [])) e) (sym last.0) (in_whole e m)) x follows)
  ]
    where
      in_whole : (e : EntryData) → Contains T e → Contains (take (length T) (T ++ x ∷ [])) e
      in_whole e m = subst (λ (E : List EntryData). Contains E e) (sym (take-append-le (length T) T (x ∷ []) (omega arith) ∙ whole T)) m
        where
          whole : (xs : List EntryData) → take (length xs) xs ≡ xs
          whole [] = refl
          whole (y ∷ ys) = ap (λ (zs : List EntryData). y ∷ zs) (whole ys)

  -- none that was added covers it
  not_by_added : (a : EntryData) → Contains T a → Covers AsStrongAs a x → ⊥
  not_by_added a m covers =
      let r = from_map (entry_of I) g.history a m in
      let c = h.covering r.item r.there in
      let point : r.item.point ≡ row.point = ap (λ (e : EntryData). e.point) (sym r.is) ∙ covers.point in
      uncovered (
        c.0,
        (
          subst (λ u. Contains (list_of g.rows u) c.0) point c.1.0,
          covers_trans (entry_of I c.0) (entry_of I r.item) x c.1.1 (subst (λ (e : EntryData). Covers AsStrongAs e x) r.is covers),
        ),
      )

  uncovered_more : NoneIsCovered (T ++ x ∷ [])
  uncovered_more i j a b lt at_i at_j covers = elim (push_cases T x b j at_j) [
    | inl was ↦
        let within = within_from T j b was in
        elim (push_cases T x a i at_i) [
          | inl before ↦ h.uncovered i j a b lt before was covers
          | inr last ↦ absurd (omega (arith, lt, within, last.0))
        ]
    | inr last ↦ elim (push_cases T x a i at_i) [
      | inl before ↦ not_by_added a (Contains-at T i a before) (subst (λ (e : EntryData). Covers AsStrongAs a e) (sym last.1) covers)
      | inr also ↦ absurd (omega (arith, lt, last.0, also.0))
    ]
  ]

  module _ (left : List RowData) (are : AreLeft I row (list_of g.rows row.point) left) (rows : List (List RowData)) (long : length rows ≡ length g.rows)
      (each : (u : ℕ) → list_of rows u ≡ cond (nat_eq u row.point) (left ++ row ∷ []) (list_of g.rows u)) (ends : EndData) (ended : AreEnding I rows ends) where
    abbrev new : GrowingData
    new = record { problem = g.problem; budget = g.budget; history = g.history ++ row ∷ []; rows = rows; ends = ends }

    itself : nat_eq row.point row.point ≡ true
    itself = eq-eqb row.point row.point refl

    at_point : list_of rows row.point ≡ left ++ row ∷ []
    at_point = each row.point ∙ ap (λ (t : Bool). cond t (left ++ row ∷ []) (list_of g.rows row.point)) itself

    elsewhere : (u : ℕ) → nat_eq u row.point ≡ false → list_of rows u ≡ list_of g.rows u
    elsewhere u e = each u ∙ ap (λ (t : Bool). cond t (left ++ row ∷ []) (list_of g.rows u)) e

    split : (r : RowData) → Contains (list_of rows row.point) r → Contains left r ⊎ (r ≡ row)
    split r m = pushed_cases left row r (subst (λ (z : List RowData). Contains z r) at_point m)

    from_left : (r : RowData) → Contains left r → Contains (list_of rows row.point) r
    from_left r m = subst (λ (z : List RowData). Contains z r) (sym at_point) (Contains-append_left left (row ∷ []) r m)

    own_there : Contains (list_of rows row.point) row
    own_there = subst (λ (z : List RowData). Contains z row) (sym at_point) (Contains-append_right left (row ∷ []) row (here row []))

    was_added : (r : RowData) → Contains g.history r → Contains (g.history ++ row ∷ []) r
    was_added r m = Contains-append_left g.history (row ∷ []) r m

    taken_more : (u : ℕ) (r : RowData) → Contains (list_of rows u) r → (r.point ≡ u) × Contains (g.history ++ row ∷ []) r
    taken_more u r m = elim (same_or_not u row.point) [
      | inl same ↦ elim (split r (subst (λ k. Contains (list_of rows k) r) same m)) [
        | inl was ↦ let t = h.taken row.point r (are.come r was).0 in (t.0 ∙ sym same, was_added r t.1)
        | inr own ↦ (ap (λ (k : RowData). k.point) own ∙ sym same, subst (λ (k : RowData). Contains (g.history ++ row ∷ []) k) (sym own) (Contains-append_right g.history (row ∷ []) row (here row [])))
      ]
      | inr other ↦ let t = h.taken u r (subst (λ (z : List RowData). Contains z r) (elsewhere u other) m) in (t.0, was_added r t.1)
    ]

    covers_itself : Covers AsStrongAs x x
    covers_itself = covers_refl g.problem x (weakly_shape g.problem T leads x follows)

    covering_at : (r : RowData) → Contains g.history r → r.point ≡ row.point → IsCoveredAt I new (entry_of I r)
    covering_at r m point =
        let c = h.covering r m in
        let there = subst (λ k. Contains (list_of g.rows k) c.0) point c.1.0 in
        elim (are.gone c.0 there) [
          | inl left_it ↦ (c.0, (subst (λ k. Contains (list_of rows k) c.0) (sym point) (from_left c.0 left_it), c.1.1))
          | inr covers ↦ (row, (subst (λ k. Contains (list_of rows k) row) (sym point) own_there, covers_trans x (entry_of I c.0) (entry_of I r) covers c.1.1))
        ]

    covering_more : (r : RowData) → Contains (g.history ++ row ∷ []) r → IsCoveredAt I new (entry_of I r)
    covering_more r m = elim (pushed_cases g.history row r m) [
      | inl was ↦ elim (same_or_not r.point row.point) [
        | inl same ↦ covering_at r was same
        | inr other ↦ let c = h.covering r was in (c.0, (subst (λ (z : List RowData). Contains z c.0) (sym (elsewhere r.point other)) c.1.0, c.1.1))
      ]
      | inr own ↦ subst (λ (k : RowData). IsCoveredAt I new (entry_of I k)) (sym own) (row, (own_there, covers_itself))
    ]

    not_left : (a : RowData) → Contains left a → Covers AsStrongAs (entry_of I a) x → ⊥
    not_left a m covers = uncovered (a, ((are.come a m).0, covers))

    apart_at : (a b : RowData) → Contains (list_of rows row.point) a → Contains (list_of rows row.point) b → Covers AsStrongAs (entry_of I a) (entry_of I b) → a ≡ b
    apart_at a b in_a in_b covers = elim (split a in_a) [
      | inl a_left ↦ elim (split b in_b) [
        | inl b_left ↦ h.apart row.point a b (are.come a a_left).0 (are.come b b_left).0 covers
        | inr b_own ↦ absurd (not_left a a_left (subst (λ (k : RowData). Covers AsStrongAs (entry_of I a) (entry_of I k)) b_own covers))
      ]
      | inr a_own ↦ elim (split b in_b) [
        | inl b_left ↦ absurd ((are.come b b_left).1 (subst (λ (k : RowData). Covers AsStrongAs (entry_of I k) (entry_of I b)) a_own covers))
        | inr b_own ↦ a_own ∙ sym b_own
      ]
    ]

    apart_more : (u : ℕ) (a b : RowData) → Contains (list_of rows u) a → Contains (list_of rows u) b → Covers AsStrongAs (entry_of I a) (entry_of I b) → a ≡ b
    apart_more u a b in_a in_b covers = elim (same_or_not u row.point) [
      | inl same ↦ apart_at a b (subst (λ k. Contains (list_of rows k) a) same in_a) (subst (λ k. Contains (list_of rows k) b) same in_b) covers
      | inr other ↦ h.apart u a b (subst (λ (z : List RowData). Contains z a) (elsewhere u other) in_a) (subst (λ (z : List RowData). Contains z b) (elsewhere u other) in_b) covers
    ]

    pub growing_more : IsGrowing I new
    growing_more = record {
      in_use = All-push (IsRow I) g.history row h.in_use in_use;
      few = few_more;
      derived = subst (λ (E : List EntryData). EachWeaklyFollows AsStrongAs g.problem E) (sym entries_more) derived_more;
      uncovered = subst NoneIsCovered (sym entries_more) uncovered_more;
      long = long ∙ h.long;
      ended = ended;
      taken = taken_more;
      covering = covering_more;
      apart = apart_more;
    }
      where
        few_more : length (g.history ++ row ∷ []) ≤ g.budget + 1
        few_more = let more = length_more g.history in omega (arith, more, room)
          where
            length_more : (xs : List RowData) → length (xs ++ row ∷ []) ≡ length xs + 1
            length_more [] = refl
            length_more (y ∷ ys) = let r = length_more ys in omega (arith, r)

  -- where those that it covers have gone, and it has come to the others
  module _ (mid : GrowingData) (left : IsLeftBy I row g mid) (rows : List (List RowData)) (pushed : IsPushed row.point row mid.rows rows) (end : ℕ) (end_is : end ≡ last_state (type_of_id I row.ty)) (ends : EndData)
      (each : (u q : ℕ) → rows_ending ends u q ≡ cond (key_eq (row.point, end) (u, q)) (rows_ending mid.ends u q ++ row ∷ []) (rows_ending mid.ends u q)) where
    each_point : (u : ℕ) → list_of rows u ≡ cond (nat_eq u row.point) (list_of mid.rows row.point ++ row ∷ []) (list_of g.rows u)
    each_point u = pushed.each u ∙ by (nat_eq u row.point) refl
      where
        by : (t : Bool) → nat_eq u row.point ≡ t → cond t (list_of mid.rows u ++ row ∷ []) (list_of mid.rows u) ≡ cond t (list_of mid.rows row.point ++ row ∷ []) (list_of g.rows u)
        by true e = ap (λ k. list_of mid.rows k ++ row ∷ []) (eqb-true u row.point e)
        by false e = left.elsewhere u e

    abbrev last_of : RowData → ℕ
    last_of r = last_state (type_of_id I r.ty)

    ended_added : AreEnding I rows ends
    ended_added u q r = (
      λ m. elim (gained (key_eq (row.point, end) (u, q)) (rows_ending mid.ends u q) (rows_ending ends u q) row r (each u q) m) [
        | inl was ↦ let a = (left.ended u q r).0 was in (still (nat_eq u row.point) (list_of mid.rows u) (list_of rows u) row r (pushed.each u) a.0, a.1)
        | inr own ↦
            let k = key_parts row.point end u q own.0 in (
              subst (λ (z : RowData). Contains (list_of rows u) z) (sym own.1) (now_there (nat_eq u row.point) (list_of mid.rows u) (list_of rows u) row (pushed.each u) (eq-eqb u row.point (sym k.0))),
              ap last_of own.1 ∙ (sym end_is ∙ k.1),
            )
      ],
      λ b. elim (gained (nat_eq u row.point) (list_of mid.rows u) (list_of rows u) row r (pushed.each u) b.0) [
        | inl was ↦ still (key_eq (row.point, end) (u, q)) (rows_ending mid.ends u q) (rows_ending ends u q) row r (each u q) ((left.ended u q r).1 (was, b.1))
        | inr own ↦ subst (λ (z : RowData). Contains (rows_ending ends u q) z) (sym own.1)
            (now_there (key_eq (row.point, end) (u, q)) (rows_ending mid.ends u q) (rows_ending ends u q) row (each u q) (same_key row.point end u q (sym (eqb-true u row.point own.0)) (end_is ∙ (sym (ap last_of own.1) ∙ b.1))))
      ],
    )

    pub growing_added : IsGrowing I (record { problem = g.problem; budget = g.budget; history = g.history ++ row ∷ []; rows = rows; ends = ends })
    growing_added = growing_more (list_of mid.rows row.point) left.left rows (pushed.len ∙ left.long) each_point ends ended_added

-- those that a row covers go
module _ (I : InternerData) (g : GrowingData) (h : IsGrowing I g) (row : RowData) (end : ℕ) (end_is : end ≡ last_state (type_of_id I row.ty)) where
  abbrev CoveredHere : RowData → Type 0
  CoveredHere r = Covers AsStrongAs (entry_of I row) (entry_of I r)

  last_here : (r : RowData) → CoveredHere r → last_state (type_of_id I r.ty) ≡ end
  last_here r covers = sym (strong_last covers.ty) ∙ sym end_is

  pub left_all : ((r : RowData) → Contains (rows_ending g.ends row.point end) r → CoveredHere r → ⊥) → IsLeftBy I row g g
  left_all none = record {
    problem = refl;
    budget = refl;
    history = refl;
    long = refl;
    left = record { come = λ r m. (m, λ covers. none r ((h.ended row.point end r).1 (m, last_here r covers)) covers); gone = λ r m. inl m };
    elsewhere = λ u e. refl;
    ended = h.ended;
  }

  module _ (left_rows left_ends : List RowData) (of_rows : AreLeft I row (list_of g.rows row.point) left_rows) (of_ends : AreLeft I row (rows_ending g.ends row.point end) left_ends) (rows : List (List RowData)) (long : length rows ≡ length g.rows)
      (each : (u : ℕ) → list_of rows u ≡ cond (nat_eq u row.point) left_rows (list_of g.rows u)) (ends : EndData)
      (each_end : (u q : ℕ) → rows_ending ends u q ≡ cond (key_eq (row.point, end) (u, q)) left_ends (rows_ending g.ends u q)) where
    abbrev Stays : ℕ → RowData → Type 0
    Stays u r = u ≡ row.point → CoveredHere r → ⊥

    here_left : list_of rows row.point ≡ left_rows
    here_left = each row.point ∙ ap (λ (t : Bool). cond t left_rows (list_of g.rows row.point)) (eq-eqb row.point row.point refl)

    other_left : (u : ℕ) → nat_eq u row.point ≡ false → list_of rows u ≡ list_of g.rows u
    other_left u e = each u ∙ ap (λ (t : Bool). cond t left_rows (list_of g.rows u)) e

    points_stay : (u : ℕ) (r : RowData) → Contains (list_of rows u) r ↔ (Contains (list_of g.rows u) r × Stays u r)
    points_stay u r = elim (same_or_not u row.point) [
      | inl same ↦ subst (λ k. Contains (list_of rows k) r ↔ (Contains (list_of g.rows k) r × Stays k r)) (sym same) (
        λ m. let c = of_rows.come r (subst (λ (z : List RowData). Contains z r) here_left m) in (c.0, λ _ covers. c.1 covers),
        λ k. elim (of_rows.gone r k.0) [
          | inl stays ↦ subst (λ (z : List RowData). Contains z r) (sym here_left) stays
          | inr covers ↦ absurd (k.1 refl covers)
        ],
      )
      | inr other ↦ (
        λ m. (subst (λ (z : List RowData). Contains z r) (other_left u other) m, λ same covers. let yes = eq-eqb u row.point same in absurd (cc)),
        λ k. subst (λ (z : List RowData). Contains z r) (sym (other_left u other)) k.0,
      )
    ]

    ends_stay : (u q : ℕ) (r : RowData) → Contains (rows_ending ends u q) r ↔ (Contains (rows_ending g.ends u q) r × Stays u r)
    ends_stay u q r = by (key_eq (row.point, end) (u, q)) refl
      where
        by : (t : Bool) → key_eq (row.point, end) (u, q) ≡ t → Contains (rows_ending ends u q) r ↔ (Contains (rows_ending g.ends u q) r × Stays u r)
        by true e =
            let k = key_parts row.point end u q e in
            let here : rows_ending ends u q ≡ left_ends = each_end u q ∙ ap (λ (t : Bool). cond t left_ends (rows_ending g.ends u q)) e in
            let was : rows_ending g.ends row.point end ≡ rows_ending g.ends u q = λ i. rows_ending g.ends (k.0 i) (k.1 i) in (
              λ m. let c = of_ends.come r (subst (λ (z : List RowData). Contains z r) here m) in (subst (λ (z : List RowData). Contains z r) was c.0, λ _ covers. c.1 covers),
              λ a. elim (of_ends.gone r (subst (λ (z : List RowData). Contains z r) (sym was) a.0)) [
                | inl stays ↦ subst (λ (z : List RowData). Contains z r) (sym here) stays
                | inr covers ↦ absurd (a.1 (sym k.0) covers)
              ],
            )
        by false e =
            let here : rows_ending ends u q ≡ rows_ending g.ends u q = each_end u q ∙ ap (λ (t : Bool). cond t left_ends (rows_ending g.ends u q)) e in (
              λ m. let a = subst (λ (z : List RowData). Contains z r) here m in (a, λ same covers. let yes = same_key row.point end u q (sym same) (sym (last_here r covers) ∙ ((h.ended u q r).0 a).1) in absurd (cc)),
              λ a. subst (λ (z : List RowData). Contains z r) (sym here) a.0,
            )

    pub left_some : (mid : GrowingData) → mid.problem ≡ g.problem → mid.budget ≡ g.budget → mid.history ≡ g.history → mid.rows ≡ rows → mid.ends ≡ ends → IsLeftBy I row g mid
    left_some mid problem budget history rows_are ends_are = record {
      problem = problem;
      budget = budget;
      history = history;
      long = ap (λ (z : List (List RowData)). length z) rows_are ∙ long;
      left = subst (λ (z : List (List RowData)). AreLeft I row (list_of g.rows row.point) (list_of z row.point)) (sym rows_are) (subst (λ (z : List RowData). AreLeft I row (list_of g.rows row.point) z) (sym here_left) of_rows);
      elsewhere = λ u e. ap (λ (z : List (List RowData)). list_of z u) rows_are ∙ other_left u e;
      ended = subst (λ (z : List (List RowData)). AreEnding I z mid.ends) (sym rows_are) (subst (λ (z : EndData). AreEnding I rows z) (sym ends_are) (λ u q r. (
        λ m. let a = (ends_stay u q r).0 m in let b = (h.ended u q r).0 a.0 in ((points_stay u r).1 (b.0, a.1), b.1),
        λ b. let a = (points_stay u r).0 b.0 in (ends_stay u q r).1 ((h.ended u q r).1 (a.0, b.1), a.1),
      )));
    }

-- no entries
pub growing_none : (I : InternerData) (p : ProblemData) (budget : ℕ) (history : List RowData) (rows : List (List RowData)) (ends : EndData) → history ≡ [] → length rows ≡ length p.points.points → ((u : ℕ) → list_of rows u ≡ []) → ends ≡ []
    → IsGrowing I (record { problem = p; budget = budget; history = history; rows = rows; ends = ends })
growing_none I p budget history rows ends none long empty no_ends = subst (λ (xs : List RowData). IsGrowing I (record { problem = p; budget = budget; history = xs; rows = rows; ends = ends })) (sym none) (record {
  in_use = λ i d lt. absurd (omega (arith, lt));
  few = omega arith;
  derived = λ i e at. absurd (no_place i e at);
  uncovered = λ i j a b lt at_i at_j. absurd (no_place i a at_i);
  long = long;
  ended = λ u q r. (
    λ m. absurd (none_in r (subst (λ (z : EndData). Contains (rows_ending z u q) r) no_ends m)),
    λ b. absurd (none_in r (subst (λ (z : List RowData). Contains z r) (empty u) b.0)),
  );
  taken = λ u r m. absurd (none_in r (subst (λ (z : List RowData). Contains z r) (empty u) m));
  covering = λ r m. absurd (none_in r m);
  apart = λ u a b in_a in_b covers. absurd (none_in a (subst (λ (z : List RowData). Contains z a) (empty u) in_a));
})
  where
    no_place : (i : ℕ) (e : EntryData) → slice_get [] i ≡ Some e → ⊥
    no_place i e at = let lt = within_from [] i e at in omega (arith, lt)
