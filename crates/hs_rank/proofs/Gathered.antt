-- What is gathered of a round, step by step.
use Rattle.std.proofs.Common.{◌≡◌, refl, sym, ◌∙◌, ap, subst, ℕ, List, [], take, drop, arith, All, Contains, inl, inr}
use Rattle.std.proofs.lemmas.List.{take-append-drop}
use Rattle.hs_scheme.specs.Problem.{ProblemData}
use Rattle.hs_table.specs.Entries.{EntryData}
use Rattle.hs_table.specs.Follows.{Support, FollowsBy, premises}
use Rattle.hs_table_laws.proofs.Growing.{by_append}
use Rattle.hs_table_laws.proofs.Members.{from_map}
use Rattle.hs_types.specs.Interned.{InternerData, IsRow, entry_of, Grows}
use Rattle.hs_types.proofs.Numbers.{Grows-refl, Grows-trans, row_stays}
use Rattle.hs_rules.specs.Conclusions.{DeducedData, IsDeduced, IsLeastOf, AreConclusions}
use Rattle.hs_rules.proofs.Lists.{all_from}
use Rattle.hs_rules.proofs.OrderLemmas.{no_greater_then}
use Rattle.hs_rules.proofs.ConcludeLemmas.{deduced_later}
use Rattle.hs_rank.specs.Gathering.{IsNewDeduced, AreNewDeduced, IsKnown, AddsNew, Gathered}
use Rattle.hs_rank.proofs.Sorted.{all_of}

new_grows : (p : ProblemData) (I J : InternerData) → Grows I J → (log : List EntryData) (d : DeducedData) → IsNewDeduced p I log d → IsNewDeduced p J log d
new_grows p I J g log d f = record { deduced = deduced_later p log I J d g f.deduced; new = λ c. f.new (subst (λ e. Contains log e) (row_stays I J g d.row f.deduced.row) c) }

-- the rows of what was gathered keep their meaning
pub rows_after : (p : ProblemData) (I J : InternerData) → Grows I J → (log : List EntryData) (found : List DeducedData) → AreNewDeduced p I log found → All (λ d. IsRow J d.row) found
rows_after p I J g log found fresh = all_from (λ (d : DeducedData). IsRow J d.row) found (λ d there. (deduced_later p log I J d g (fresh d there).deduced).row)

-- what follows from the beginning of a log follows from the log
pub by_front : (p : ProblemData) (n : ℕ) (log : List EntryData) (s : Support) (e : EntryData) → FollowsBy p (take n log) s e → FollowsBy p log s e
by_front p n log s e by = subst (λ (E : List EntryData). FollowsBy p E s e) (take-append-drop n log) (by_append p (take n log) (drop n log) s e by)

pub deduced_of : (p : ProblemData) (ids : InternerData) (front log : List EntryData) (found : List DeducedData) → All (IsDeduced p ids front) found → ((s : Support) (e : EntryData) → FollowsBy p front s e → FollowsBy p log s e)
    → (d : DeducedData) → Contains found d → IsDeduced p ids log d
deduced_of p ids front log found deduced follow d c = let is = all_of (IsDeduced p ids front) found d deduced c in record { row = is.row; follows = follow d.support (entry_of ids d.row) is.follows }

pub gathered_by : (p : ProblemData) (log : List EntryData) (old new : InternerData) (xs ys : List DeducedData) (Among : DeducedData → Type 0) → Grows old new
    → ((d : DeducedData) → Among d → IsDeduced p new log d) → AreNewDeduced p old log xs → AddsNew new log Among xs ys → Gathered p log old xs new ys
gathered_by p log old new xs ys Among g among fresh adds = record {
  grows = g;
  fresh = λ d there. elim (adds.only d there) [
    | inl was ↦ new_grows p old new g log d (fresh d was)
    | inr (is, absent) ↦ record { deduced = among d is; new = absent }
  ];
  more = λ s e known. elim known [
    | inl was ↦ inl was
    | inr h ↦
        let low = adds.lowers h.item h.there in
        inr (record {
          item = low.item;
          there = low.there;
          is = ap (entry_of new) low.is ∙ (row_stays old new g h.item.row (fresh h.item h.there).deduced.row ∙ h.is);
          least = no_greater_then (premises low.item.support) (premises h.item.support) (premises s) low.least h.least;
        })
  ];
}

pub gathered_same : (p : ProblemData) (log : List EntryData) (ids : InternerData) (xs : List DeducedData) → AreNewDeduced p ids log xs → Gathered p log ids xs ids xs
gathered_same p log ids xs fresh = record { grows = Grows-refl ids; fresh = fresh; more = λ s e known. known }

pub gathered_then : (p : ProblemData) (log : List EntryData) (a b c : InternerData) (xs ys zs : List DeducedData) → Gathered p log a xs b ys → Gathered p log b ys c zs → Gathered p log a xs c zs
gathered_then p log a b c xs ys zs g h = record { grows = Grows-trans a b c g.grows h.grows; fresh = h.fresh; more = λ s e known. h.more s e (g.more s e known) }

-- what was found is known, by no greater supports
pub found_known : (p : ProblemData) (ids : InternerData) (front log : List EntryData) (point : ℕ) (Counts : Support → Type 0) (found xs ys : List DeducedData) → AreConclusions p ids front point Counts found → AddsNew ids log (Contains found) xs ys
    → (s : Support) (e : EntryData) → e.point ≡ point → FollowsBy p front s e → Counts s → IsKnown ids log ys s e
found_known p ids front log point Counts found xs ys are adds s e at by counts =
    let d = from_map (λ (x : DeducedData). entry_of ids x.row) found e (are.each s e at by counts) in
    let least = all_of (λ (x : DeducedData). IsLeastOf p front Counts x.support (entry_of ids x.row)) found d.item are.least d.there s (subst (λ (x : EntryData). FollowsBy p front s x) d.is by) counts in
    elim (adds.there d.item d.there) [
      | inl was ↦ inl (subst (λ x. Contains log x) (sym d.is) was)
      | inr h ↦ inr (record {
        item = h.item;
        there = h.there;
        is = ap (entry_of ids) h.is ∙ sym d.is;
        least = no_greater_then (premises h.item.support) (premises d.item.support) (premises s) h.least least;
      })
    ]
