-- Of some rows those that no other covers.
use Rattle.std.proofs.Common.{◌≡◌, ◌≢◌, refl, sym, ◌∙◌, ap, subst, ℕ, ◌+◌, ◌<◌, ◌≤◌, Bool, true, false, nat_eq, List, [], ◌∷◌, ◌++◌, length, take, get_or, All, Contains, arith, ◌⊎◌, inl, inr}
use Rattle.std.specs.Prelude.{AllPairs}
use Rattle.std.proofs.lemmas.Bool.{eqb-true, eq-eqb}
use Rattle.std.proofs.lemmas.List.{take_all}
use Rattle.std.proofs.lemmas.List.Elements.{All-contains, Contains-append_left, Contains-append_right, Contains-get_or}
use Rattle.std.proofs.lemmas.List.Quantifiers.{all_pairs_push}
use Rattle.hs_scheme.specs.Problem.{ProblemData}
use Rattle.hs_scheme.proofs.Lists.{none_in, here, read-slice_get}
use Rattle.hs_table.specs.Entries.{InShape}
use Rattle.hs_table_laws.proofs.Members.{taken_next, pushed_cases}
use Rattle.hs_table_laws.proofs.Places.{place_of, at_take}
use Rattle.hs_weak.proofs.Strength.{covers_refl}
use Rattle.hs_types.specs.Interned.{InternerData, RowData, IsRow, entry_of}
use Rattle.hs_choices.proofs.Growing.{all_members}
use Rattle.hs_minimal.specs.Ends.{EndData}
use Rattle.hs_minimal.specs.Strongest.{IsFiled, IsFiledAmong, AreFiled, AreRowsIn, IsOtherCovering, AreParted, AreStrongest}

-- an item isn't among those before it where no two are equal
not_before : {X : Type 0} (xs : List X) (k : ℕ) (x : X) → AllPairs (λ a b. a ≢ b) xs → k < length xs → x ≡ get_or xs k x → Contains (take k xs) x → ⊥
not_before xs k x distinct within is m =
    let at = place_of (take k xs) x m in
    let low = at_take k xs at.0 x at.1 in
    let read = read-slice_get xs at.0 x low.1 in
    distinct at.0 k x low.0 within (read.1 ∙ is)

same_number : (x y : ℕ) → ((x ≡ y → ⊥) → ⊥) → x ≡ y
same_number x y h = by (nat_eq x y) refl
  where
    by : (b : Bool) → nat_eq x y ≡ b → x ≡ y
    by true is = eqb-true x y is
    by false is = absurd (h (λ e. let t : true ≡ false = sym (eq-eqb x y e) ∙ is in cc))

not_other : (a b : RowData) → (a ≢ b → ⊥) → a ≡ b
not_other a b h =
    let point = same_number a.point b.point (λ not. h (λ e. not (ap (λ (r : RowData). r.point) e))) in
    let env = same_number a.env b.env (λ not. h (λ e. not (ap (λ (r : RowData). r.env) e))) in
    let ty = same_number a.ty b.ty (λ not. h (λ e. not (ap (λ (r : RowData). r.ty) e))) in
    λ i. record { point = point i; env = env i; ty = ty i }

-- those that are covered by others of which just these are filed
pub covered_by_filed : (I : InternerData) (filed : List EndData) (kept covered own own' : List RowData) → AreFiled I own filed → own ≡ kept → own' ≡ covered → ((r : RowData) → Contains own' r → (o : RowData) × (IsFiledAmong filed o × IsOtherCovering I r o))
    → (r : RowData) → Contains covered r → (o : RowData) × (Contains kept o × IsOtherCovering I r o)
covered_by_filed I filed kept covered own own' are is is' h r m =
    let x = h r (subst (λ (z : List RowData). Contains z r) (sym is') m) in
    (x.0, (subst (λ (z : List RowData). Contains z x.0) is (are.only x.0 x.1.0), x.1.1))

pub filed_in_use : (I : InternerData) (rows : List RowData) (filed : List EndData) → AreFiled I rows filed → All (IsRow I) rows → AreRowsIn I filed
filed_in_use I rows filed are all r m = All-contains (IsRow I) rows r all (are.only r m)

-- rows among those that are in use are so, and at points within
pub some_in_use : (P : RowData → Type 0) (rows some : List RowData) → All P rows → ((r : RowData) → Contains some r → Contains rows r) → All P some
some_in_use P rows some all within = all_members P some (λ r m. All-contains P rows r all (within r m))

module _ (I : InternerData) (filed : List EndData) (rows : List RowData) where
  pub parted_none : (kept covered : List RowData) → kept ≡ [] → covered ≡ [] → AreParted I filed (take 0 rows) kept covered
  parted_none kept covered none none' = record {
    distinct = subst (λ (z : List RowData). AllPairs (λ a b. a ≢ b) z) (sym none) (λ i j d lt within. absurd (omega (arith, within)));
    left = λ r m. absurd (none_in r (subst (λ (z : List RowData). Contains z r) none m));
    taken = λ r m. absurd (none_in r (subst (λ (z : List RowData). Contains z r) none' m));
    each = λ r m. absurd (none_in r m);
  }

  pub parted_all : (k : ℕ) → length rows ≤ k → (kept covered : List RowData) → AreParted I filed (take k rows) kept covered → AreParted I filed rows kept covered
  parted_all k past kept covered h = subst (λ (z : List RowData). AreParted I filed z kept covered) (take_all k rows past) h

  module _ (distinct : AllPairs (λ a b. a ≢ b) rows) (k : ℕ) (row : RowData) (lt : k < length rows) (is : row ≡ get_or rows k row) (kept covered : List RowData) (h : AreParted I filed (take k rows) kept covered) where
    next : take (k + 1) rows ≡ take k rows ++ row ∷ []
    next = taken_next rows k row lt is

    split : (r : RowData) → Contains (take (k + 1) rows) r → Contains (take k rows) r ⊎ (r ≡ row)
    split r m = pushed_cases (take k rows) row r (subst (λ (z : List RowData). Contains z r) next m)

    was : (r : RowData) → Contains (take k rows) r → Contains (take (k + 1) rows) r
    was r m = subst (λ (z : List RowData). Contains z r) (sym next) (Contains-append_left (take k rows) (row ∷ []) r m)

    own_there : Contains (take (k + 1) rows) row
    own_there = subst (λ (z : List RowData). Contains z row) (sym next) (Contains-append_right (take k rows) (row ∷ []) row (here row []))

    more : (xs new : List RowData) → new ≡ xs ++ row ∷ [] → (r : RowData) → Contains xs r → Contains new r
    more xs new new_is r m = subst (λ (z : List RowData). Contains z r) (sym new_is) (Contains-append_left xs (row ∷ []) r m)

    own : (xs new : List RowData) → new ≡ xs ++ row ∷ [] → (r : RowData) → r ≡ row → Contains new r
    own xs new new_is r same = subst (λ (z : List RowData). Contains z r) (sym new_is) (Contains-append_right xs (row ∷ []) r (subst (λ (z : RowData). Contains (row ∷ []) z) (sym same) (here row [])))

    one_kept : ((o : RowData) → IsFiled I filed o → IsOtherCovering I row o → ⊥) → (new : List RowData) → new ≡ kept ++ row ∷ [] → AreParted I filed (take (k + 1) rows) new covered
    one_kept none new new_is = record {
      distinct = subst (λ (z : List RowData). AllPairs (λ a b. a ≢ b) z) (sym new_is)
          (all_pairs_push (λ a b. a ≢ b) kept row h.distinct (λ i d below same. not_before rows k row distinct lt is (h.left row (subst (λ (z : RowData). Contains kept z) same (Contains-get_or kept i d below))).0));
      left = λ r m. elim (pushed_cases kept row r (subst (λ (z : List RowData). Contains z r) new_is m)) [
        | inl before ↦ let x = h.left r before in (was r x.0, x.1)
        | inr same ↦ (subst (λ (z : RowData). Contains (take (k + 1) rows) z) (sym same) own_there, λ o f covers. none o f (subst (λ (z : RowData). IsOtherCovering I z o) same covers))
      ];
      taken = λ r m. was r (h.taken r m);
      each = λ r m. elim (split r m) [
        | inl before ↦ elim (h.each r before) [
          | inl there ↦ inl (more kept new new_is r there)
          | inr there ↦ inr there
        ]
        | inr same ↦ inl (own kept new new_is r same)
      ];
    }

    one_covered : (new : List RowData) → new ≡ covered ++ row ∷ [] → AreParted I filed (take (k + 1) rows) kept new
    one_covered new new_is = record {
      distinct = h.distinct;
      left = λ r m. let x = h.left r m in (was r x.0, x.1);
      taken = λ r m. elim (pushed_cases covered row r (subst (λ (z : List RowData). Contains z r) new_is m)) [
        | inl before ↦ was r (h.taken r before)
        | inr same ↦ subst (λ (z : RowData). Contains (take (k + 1) rows) z) (sym same) own_there
      ];
      each = λ r m. elim (split r m) [
        | inl before ↦ elim (h.each r before) [
          | inl there ↦ inl there
          | inr there ↦ inr (more covered new new_is r there)
        ]
        | inr same ↦ inr (own covered new new_is r same)
      ];
    }

    -- so with what the loop holds
    pub one_kept_by : (new rest : List RowData) → new ≡ kept ++ row ∷ [] → rest ≡ covered → ((o : RowData) → IsFiled I filed o → IsOtherCovering I row o → ⊥) → AreParted I filed (take (k + 1) rows) new rest
    one_kept_by new rest new_is rest_is none = subst (λ (z : List RowData). AreParted I filed (take (k + 1) rows) new z) (sym rest_is) (one_kept none new new_is)

    pub one_covered_by : (same new : List RowData) → same ≡ kept → new ≡ covered ++ row ∷ [] → AreParted I filed (take (k + 1) rows) same new
    one_covered_by same new same_is new_is = subst (λ (z : List RowData). AreParted I filed (take (k + 1) rows) z new) (sym same_is) (one_covered new new_is)

  -- where each that is covered is so by one that is kept, these are the strongest
  pub strongest_kept : AreFiled I rows filed → (kept covered : List RowData) → AreParted I filed rows kept covered → ((r : RowData) → Contains covered r → (o : RowData) × (Contains kept o × IsOtherCovering I r o))
      → (p : ProblemData) → ((r : RowData) → Contains rows r → InShape p (entry_of I r)) → AreStrongest I rows kept
  strongest_kept filing kept covered parted by_kept p shape = record {
    distinct = parted.distinct;
    within = λ r m. (parted.left r m).0;
    apart = λ a b in_a in_b covers. not_other a b (λ differ. (parted.left b in_b).1 a (filing.each a (parted.left a in_a).0) (differ, covers));
    covering = λ r m. elim (parted.each r m) [
      | inl there ↦ (r, (there, covers_refl p (entry_of I r) (shape r m)))
      | inr there ↦ let o = by_kept r there in (o.0, (o.1.0, o.1.1.1))
    ];
  }
