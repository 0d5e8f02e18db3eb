-- The canonical log: the entries of the least table by the round in which they first follow, and then ascending, each with the least support
-- by entries of earlier rounds.
--     IsRound p n E           E has just the entries of round n: none in round 0; in the next round those, and each entry that follows from them
--     HasRank p n e           round n is the first one that has the entry
--     IsBefore p d e          d is of lower rank than e, or of the same rank and less
--     IsByRank p T            each entry comes before those behind it
--     IsOfLowerRank p T s e   the entry follows by this support, whose premises have lower rank
--     IsCanonicalSupport      such a support, and none has a lesser list of places
--     IsCanonicalLog          a log with its supports is the canonical one
use Rattle.std.specs.Prelude.{◌≡◌, ℕ, zero, suc, ◌<◌, List, length, slice_get, Some, Contains, AllPairs, ◌⊎◌, ◌↔◌}
use Rattle.std.specs.declared.cmp.Ordering.TheVariants.{Less}
use Rattle.hs_scheme.specs.Problem.{ProblemData}
use Rattle.hs_table.specs.Entries.{EntryData, entry_cmp}
use Rattle.hs_table.specs.Follows.{Support, FollowsBy, Follows, premises}
use Rattle.hs_table.specs.Tables.{IsLeastTable}
use Rattle.hs_rules.specs.Order.{IsNoGreater}

abbrev pub IsRound : ProblemData → ℕ → List EntryData → Type 0
IsRound p zero E = (e : EntryData) → Contains E e → ⊥
IsRound p (suc n) E = (D : List EntryData) × (IsRound p n D × ((e : EntryData) → Contains E e ↔ (Contains D e ⊎ Follows p D e)))

pub record HasRank (p : ProblemData) (n : ℕ) (e : EntryData) : Type 0 where
  pub round : List EntryData
  pub is : IsRound p n round
  pub has : Contains round e
  pub first : (m : ℕ) (E : List EntryData) → m < n → IsRound p m E → Contains E e → ⊥

pub record IsBefore (p : ProblemData) (d e : EntryData) : Type 0 where
  pub m : ℕ
  pub n : ℕ
  pub one : HasRank p m d
  pub other : HasRank p n e
  pub order : (m < n) ⊎ ((m ≡ n) × (entry_cmp d e ≡ Less))

abbrev pub IsByRank : ProblemData → List EntryData → Type 0
IsByRank p T = AllPairs (IsBefore p) T

pub record IsOfLowerRank (p : ProblemData) (T : List EntryData) (s : Support) (e : EntryData) : Type 0 where
  pub follows : FollowsBy p T s e
  pub lower : (place m n : ℕ) (d : EntryData) → Contains (premises s) place → slice_get T place ≡ Some d → HasRank p m d → HasRank p n e → m < n

pub record IsCanonicalSupport (p : ProblemData) (T : List EntryData) (s : Support) (e : EntryData) : Type 0 where
  pub lower : IsOfLowerRank p T s e
  pub least : (r : Support) → IsOfLowerRank p T r e → IsNoGreater (premises s) (premises r)

pub record IsCanonicalLog (p : ProblemData) (T : List EntryData) (supports : List Support) : Type 0 where
  pub least : IsLeastTable p T
  pub order : IsByRank p T
  pub each : length supports ≡ length T
  pub support : (place : ℕ) (s : Support) (e : EntryData) → slice_get supports place ≡ Some s → slice_get T place ≡ Some e → IsCanonicalSupport p T s e
