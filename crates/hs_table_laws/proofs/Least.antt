-- Supported, closed and least tables.
use Rattle.std.proofs.Common.{◌≡◌, refl, sym, ◌∙◌, ℕ, zero, suc, ◌<◌, ◌≤◌, List, [], ◌∷◌, length, take, slice_get, Some, arith, Contains, ◌↔◌}
use Rattle.std.proofs.lemmas.Option.{same_Some}
use Rattle.hs_scheme.specs.Problem.{ProblemData}
use Rattle.hs_table.specs.Entries.{EntryData}
use Rattle.hs_table.specs.Follows.{Support}
use Rattle.hs_table.specs.Tables.{IsSupportedTable, IsClosedTable, IsLeastTable, Exceeds, HasSupports, IsStart}
use Rattle.hs_table_laws.proofs.Places.{within_from, place_of, at_take, fewer}
use Rattle.hs_table_laws.proofs.Growing.{follows_found}

module _ (p : ProblemData) (T C : List EntryData) (s : IsSupportedTable p T) (closed : IsClosedTable p C) where
  earlier : (n i : ℕ) → i < suc n → ((k : ℕ) (x : EntryData) → k < n → slice_get T k ≡ Some x → Contains C x) → (x : EntryData) → Contains (take i T) x → Contains C x
  earlier n i h go x c = let here = place_of (take i T) x c in let r = at_take i T here.0 x here.1 in go here.0 x (omega (arith, r.0)) r.1

  below : (n i : ℕ) (e : EntryData) → i < n → slice_get T i ≡ Some e → Contains C e
  below zero i e h at = absurd (omega arith)
  below (suc n) i e h at = closed e (follows_found p (take i T) C (earlier n i h (below n)) e (s.follows i e at))

  pub supported_within : (e : EntryData) → Contains T e → Contains C e
  supported_within e c = let r = place_of T e c in below (suc r.0) r.0 e (omega arith) r.1

  pub supported_fewer : length T ≤ length C
  supported_fewer = fewer T C s.distinct supported_within

pub least_same : (p : ProblemData) (T U : List EntryData) → IsLeastTable p T → IsLeastTable p U → (e : EntryData) → Contains T e ↔ Contains U e
least_same p T U t u e = (supported_within p T U t.supported u.closed e, supported_within p U T u.supported t.closed e)

pub least_decides : (p : ProblemData) (T : List EntryData) (budget : ℕ) → IsLeastTable p T → Exceeds p budget ↔ (budget < length T)
least_decides p T budget t = (λ (U, held). omega (arith, held.1, supported_fewer p U T held.0 t.closed), λ more_than. (T, (t.supported, more_than)))

pub supports_support : (p : ProblemData) (T : List EntryData) (supports : List Support) → HasSupports p T supports → IsSupportedTable p T
supports_support p T supports h = record {
  distinct = h.distinct;
  follows = λ i e at.
      let r = some_at supports i (omega (arith, h.each, within_from T i e at)) in
      (r.0, h.follows i r.0 e r.1 at);
}
  where
    some_at : (xs : List Support) (i : ℕ) → i < length xs → (x : Support) × (slice_get xs i ≡ Some x)
    some_at [] i lt = absurd (omega arith)
    some_at (x ∷ xs) zero lt = (x, refl)
    some_at (x ∷ xs) (suc i) lt = some_at xs i (omega arith)

-- two start entries are the same
pub starts_same : (p : ProblemData) (d e : EntryData) → IsStart p d → IsStart p e → d ≡ e
starts_same p d e a b =
    let point : d.point ≡ e.point = same_Some d.point e.point (sym a.body ∙ b.body) in
    λ i. record { point = point i; env = (a.env ∙ sym b.env) i; ty = (a.initial ∙ sym b.initial) i }
