-- The places of what was found, in buckets by their points.
--     bucket_of s point          the number of the point's bucket
--     chain before n last        the places below n that lead to this last one, counted from 1, each from the one that was added before it
--     lists_in before lasts      the places in each bucket
--     IsLinked before lasts      each place leads to an earlier one or to none, and the last ones are there
--     AreApart found buckets     the points at places in one bucket are less than those in a later one
use Rattle.std.specs.Prelude.{◌≡◌, ℕ, zero, suc, ◌-◌, ◌/◌, ◌<◌, ◌≤◌, List, [], ◌∷◌, ◌++◌, length, map, min, cond, nat_eq, get_or, slice_get, Some, Contains}
use Rattle.hs_flow.specs.Lists.{list_of}
use Rattle.hs_rules.specs.Conclusions.{DeducedData}
use Rattle.hs_rank.specs.declared.buckets.Spread.{Spread}

abbrev pub bucket_of : Spread → ℕ → ℕ
bucket_of s point = min ((point - s.least) / s.width) (s.count - 1)

abbrev pub chain : List ℕ → ℕ → ℕ → List ℕ
chain before zero last = []
chain before (suc n) last = cond (nat_eq last (suc n)) (chain before n (get_or before n 0) ++ n ∷ []) (chain before n last)

abbrev pub lists_in : List ℕ → List ℕ → List (List ℕ)
lists_in before lasts = map (chain before (length before)) lasts

pub record IsLinked (before lasts : List ℕ) : Type 0 where
  pub earlier : (k : ℕ) → k < length before → get_or before k 0 ≤ k
  pub within : (k : ℕ) → get_or lasts k 0 ≤ length before

pub record AreApart (found : List DeducedData) (buckets : List (List ℕ)) : Type 0 where
  pub within : (k i : ℕ) → Contains (list_of buckets k) i → i < length found
  pub less : (k l i j : ℕ) (d e : DeducedData) → k < l → Contains (list_of buckets k) i → Contains (list_of buckets l) j → slice_get found i ≡ Some d → slice_get found j ≡ Some e
      → d.row.point < e.row.point
