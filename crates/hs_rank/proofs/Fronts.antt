-- Supports by entries of lower rank are those by the front of the log that has these.
use Rattle.std.proofs.Common.{subst, ℕ, List, take, drop, arith, inl, inr}
use Rattle.std.proofs.lemmas.Bool.{cases_lt}
use Rattle.std.proofs.lemmas.List.{take-append-drop}
use Rattle.hs_scheme.specs.Problem.{ProblemData}
use Rattle.hs_table.specs.Entries.{EntryData}
use Rattle.hs_table.specs.Follows.{Support, FollowsBy}
use Rattle.hs_table_laws.proofs.Places.{at_take, to_take}
use Rattle.hs_table_laws.proofs.Growing.{by_append}
use Rattle.hs_history.proofs.Premises.{by_used, premise_below}
use Rattle.hs_rank.specs.Canonical.{HasRank, IsOfLowerRank, IsCanonicalSupport}
use Rattle.hs_rank.specs.Fronts.{IsFront, IsLeastSupport}
use Rattle.hs_rank.proofs.Rounds.{rank_same}

module _ (p : ProblemData) (T : List EntryData) (n front : ℕ) (e : EntryData) (is : IsFront p T n front) (rank : HasRank p n e) where
  lower_of : (s : Support) → FollowsBy p (take front T) s e → IsOfLowerRank p T s e
  lower_of s by = record {
    follows = subst (λ (E : List EntryData). FollowsBy p E s e) (take-append-drop front T) (by_append p (take front T) (drop front T) s e by);
    lower = λ place m q d among at one other.
        let below = premise_below p (take front T) s e place by among in
        let r = is.lower place d (at_take front T place below.entry below.at).0 at in
        omega (arith, rank_same p m r.0 d one r.1.0, rank_same p q n e other rank, r.1.1);
  }

  pub front_of : (s : Support) → IsOfLowerRank p T s e → FollowsBy p (take front T) s e
  front_of s low = by_used p T (take front T) s e (λ k x among at. elim (cases_lt k front) [
    | inl lt ↦ to_take front T k x lt at
    | inr ge ↦ let r = is.rest k x ge at in absurd (omega (arith, low.lower k r.0 n x among at r.1.0 rank, r.1.1))
  ]) low.follows

  pub canonical_of : (s : Support) → IsLeastSupport p (take front T) s e → IsCanonicalSupport p T s e
  canonical_of s least = record {
    lower = lower_of s least.follows;
    least = λ r low. least.least r (front_of r low);
  }
