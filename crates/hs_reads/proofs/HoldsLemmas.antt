-- Whether a pair is held, and the states of a point.
use Rattle.std.proofs.Common.{◌≡◌, sym, ◌∙◌, ap, subst, ℕ, ◌<◌, ◌≤◌, Bool, nat_lt, List, [], Option, Some, None, Contains, IsTrue, ◌↔◌, arith}
use Rattle.std.proofs.lemmas.Bool.Decides.{nat_tests}
use Rattle.std.specs.Option.{option_map}
use Rattle.hs_scheme.proofs.Lists.{none_in}
use Rattle.hs_reads.specs.Lists.{list_of}
use Rattle.hs_reads.specs.Pairs.{all_pairs}
use Rattle.hs_reads.specs.ByPoint.{pairs_by_point, pairs_in, HasEvery}
use Rattle.hs_reads.proofs.PairLemmas.{in_all, all_in}
use Rattle.hs_reads.proofs.RowLemmas.{by_point}

-- where pairs are listed
module _ {S : Type 0} (items : S → List (List ℕ)) (o : Option S) (s : S) (points states : ℕ) (now : List (ℕ × ℕ)) (is : o ≡ Some s) (view : pairs_in (option_map items o) points states ≡ now) where
  pub rows_now : pairs_by_point (items s) ≡ now
  rows_now = sym (ap (λ (q : Option S). pairs_in (option_map items q) points states) is) ∙ view

  pub listed_states : (point q : ℕ) → Contains (list_of (items s) point) q ↔ Contains now (point, q)
  listed_states point q = subst (λ (xs : List (ℕ × ℕ)). Contains (list_of (items s) point) q ↔ Contains xs (point, q)) rows_now (by_point (items s) point q)

  pub listed_holds : (point q : ℕ) (r : Bool) → IsTrue r ↔ Contains (list_of (items s) point) q → IsTrue r ↔ Contains now (point, q)
  listed_holds point q r own = let h = listed_states point q in (λ t. h.0 (own.0 t), λ m. own.1 (h.1 m))

less : (x n : ℕ) → IsTrue (nat_lt x n) → x < n
less x n h = grind (arith, nat_tests)

is_less : (x n : ℕ) → x < n → IsTrue (nat_lt x n)
is_less x n h = grind (arith, nat_tests)

-- and where none are
module _ {S : Type 0} (items : S → List (List ℕ)) (o : Option S) (points states point : ℕ) (now : List (ℕ × ℕ)) (is : o ≡ None) (view : pairs_in (option_map items o) points states ≡ now) where
  all_now : all_pairs points states ≡ now
  all_now = sym (ap (λ (q : Option S). pairs_in (option_map items q) points states) is) ∙ view

  -- where the point is in range the state decides
  pub point_holds : (q : ℕ) → point < points → IsTrue (nat_lt q states) ↔ Contains now (point, q)
  point_holds q lt = subst (λ (xs : List (ℕ × ℕ)). IsTrue (nat_lt q states) ↔ Contains xs (point, q)) all_now
      (λ h. in_all points states point q lt (less q states h), λ m. is_less q states (all_in points states point q m).1)

  -- and else there is none
  pub past_holds : (q : ℕ) → points ≤ point → IsTrue (nat_lt point points) ↔ Contains now (point, q)
  past_holds q le = subst (λ (xs : List (ℕ × ℕ)). IsTrue (nat_lt point points) ↔ Contains xs (point, q)) all_now
      (λ h. let lt = less point points h in absurd (omega (arith, le, lt)), λ m. is_less point points (all_in points states point q m).0)

  pub every_state : (every : List ℕ) → HasEvery (option_map items o) states every → point < points → (q : ℕ) → Contains every q ↔ Contains now (point, q)
  every_state every has lt q =
      let below = subst (λ (x : Option S). HasEvery (option_map items x) states every) is has q in
      subst (λ (zs : List (ℕ × ℕ)). Contains every q ↔ Contains zs (point, q)) all_now (λ m. in_all points states point q lt (below.0 m), λ m. below.1 (all_in points states point q m).1)

  pub no_state : points ≤ point → (q : ℕ) → Contains [] q ↔ Contains now (point, q)
  no_state le q =
      subst (λ (zs : List (ℕ × ℕ)). Contains [] q ↔ Contains zs (point, q)) all_now
      (λ m. absurd (none_in q m), λ m. let lt = (all_in points states point q m).0 in absurd (omega (arith, lt, le)))
