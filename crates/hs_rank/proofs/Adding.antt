-- A round that was gathered is added to the log.
use Rattle.std.proofs.Common.{sym, ◌∙◌, ap, subst, ℕ, ◌≤◌, List, ◌++◌, length, ◌+◌, arith, Contains, inl, inr}
use Rattle.std.proofs.lemmas.Bool.{cases_lt}
use Rattle.std.proofs.lemmas.List.{length-append, length-map, get_or-map}
use Rattle.std.proofs.lemmas.List.Elements.{Contains-append_left, Contains-append_right}
use Rattle.hs_scheme.specs.Problem.{ProblemData}
use Rattle.hs_table.specs.Entries.{EntryData}
use Rattle.hs_table.specs.Follows.{Support, FollowsBy, Follows}
use Rattle.hs_table.specs.Tables.{IsSupportedTable, Exceeds}
use Rattle.hs_table_laws.proofs.Members.{from_map, into_map}
use Rattle.hs_types.specs.Interned.{InternerData, RowData, IsRow, entry_of, IsInterner}
use Rattle.hs_types.proofs.Numbers.{same_row}
use Rattle.hs_rules.specs.Conclusions.{DeducedData}
use Rattle.hs_rules.proofs.Lists.{all_from}
use Rattle.hs_rank.specs.Gathering.{AreNewDeduced, IsKnown}
use Rattle.hs_rank.specs.Ordering.{entries_of, picked, AreInOrder}
use Rattle.hs_rank.specs.Ranked.{HoldsRound, IsNextRound}
use Rattle.hs_rank.proofs.Filling.{next_ranked}
use Rattle.hs_rank.proofs.Sorted.{all_of, images_twice}

-- the next round, in order
pub sorted_round : (p : ProblemData) (ids : InternerData) (log : List EntryData) (found : List DeducedData) (places : List ℕ) → AreNewDeduced p ids log found → ((s : Support) (e : EntryData) → FollowsBy p log s e → IsKnown ids log found s e)
    → AreInOrder ids found places → IsNextRound p log (entries_of ids (picked found places))
sorted_round p ids log found places new all order =
    let entry : DeducedData → EntryData = λ d. entry_of ids d.row in
    let round = picked found places in
    record {
      ascending = order.ascending;
      follow = λ e c. let d = from_map entry round e c in subst (λ x. Follows p log x) (sym d.is) (d.item.support, (new d.item (order.only d.item d.there)).deduced.follows);
      new = λ e c was. let d = from_map entry round e c in (new d.item (order.only d.item d.there)).new (subst (λ x. Contains log x) d.is was);
      all = λ e follows. elim (all follows.0 e follows.1) [
        | inl was ↦ Contains-append_left log (entries_of ids round) e was
        | inr h ↦
            let low = order.lowers h.item h.there in
            Contains-append_right log (entries_of ids round) e (subst (λ x. Contains (entries_of ids round) x) (ap (entry_of ids) low.is ∙ h.is) (into_map entry round low.item low.there))
      ];
    }

pub few_entries : (p : ProblemData) (budget : ℕ) (T : List EntryData) → (Exceeds p budget → ⊥) → IsSupportedTable p T → length T ≤ budget
few_entries p budget T few supported = elim (cases_lt budget (length T)) [
  | inl more ↦ absurd (few (T, (supported, more)))
  | inr within ↦ within
]

-- there is room for the round
pub few_new : (p : ProblemData) (budget n : ℕ) (log fresh : List EntryData) → (Exceeds p budget → ⊥) → HoldsRound p n log → IsNextRound p log fresh → length log + length fresh ≤ budget
few_new p budget n log fresh few ranked next =
    let long = few_entries p budget (log ++ fresh) few (next_ranked p n log fresh ranked next).supported in
    omega (arith, long, length-append log fresh)
