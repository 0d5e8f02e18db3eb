-- Conclusions that are more than the budget has room for.
use Rattle.std.proofs.Common.{◌≡◌, ◌≢◌, sym, ◌∙◌, ap, subst, ℕ, ◌<◌, ◌≤◌, Bool, true, false, List, [], length, map, get_or, All, AllPairs, IsSome, MatchBool, Contains, arith}
use Rattle.std.proofs.lemmas.List.{length-map, get_or-map}
use Rattle.std.proofs.lemmas.List.Elements.{All-contains}
use Rattle.hs_table.specs.declared.support.HeadBy.TheVariants.{Rule}
use Rattle.hs_table.specs.Entries.{EntryData}
use Rattle.hs_table_laws.proofs.Members.{from_map}
use Rattle.hs_table_laws.proofs.Places.{fewer}
use Rattle.hs_types.specs.Interned.{entry_of}
use Rattle.hs_types.proofs.Numbers.{same_row}
use Rattle.hs_rules.specs.Conclusions.{DeducedData}
use Rattle.hs_history.specs.Story.{Base}
use Rattle.hs_core.specs.Core.{CoreData, state_of, log_of, IsCore}
use Rattle.hs_core.specs.Draining.{GoesAlone, IsReady, IsThere}
use Rattle.hs_core.specs.Selecting.{IsSurplus}
use Rattle.hs_core.proofs.Moving.{ready_still}
use Rattle.hs_core.proofs.Tables.{core_within}

module _ (c : CoreData) (is : IsCore c) (found : List DeducedData) (ready : All (IsReady c) found) (once : AllPairs (λ a b. a.row ≢ b.row) found) where
  abbrev entry : DeducedData → EntryData
  entry d = entry_of c.ids d.row

  entries_once : AllPairs (λ a b. a ≢ b) (map entry found)
  entries_once i j e lt below same =
      let many = length-map found entry in
      let j_in : j < length found = omega (arith, many, below) in
      let i_in : i < length found = omega (arith, lt, j_in) in
      let d : DeducedData = record { row = record { point = 0; env = 0; ty = 0 }; support = record { head = Rule 0; args = [] } } in
      let x = get_or found i d in
      let y = get_or found j d in
      let is_one : entry x ≡ entry y = sym (get_or-map entry found i d e i_in) ∙ (same ∙ get_or-map entry found j d e j_in) in
      once i j d lt j_in (same_row c.ids is.ids x.row y.row (ready i d i_in).row (ready j d j_in).row is_one)

  -- what is in the log is no more than the budget
  pub few_there : All (IsThere c) found → length found ≤ c.base.budget
  few_there there =
      let fewer_of : length (map entry found) ≤ length (log_of c) = fewer (map entry found) (log_of c) entries_once
      (λ e m. let i = from_map entry found e m in subst (λ (x : EntryData). Contains (log_of c) x) (sym i.is) (All-contains (IsThere c) found i.item there i.there)) in
      omega (arith, fewer_of, length-map found entry, core_within c is)

-- so one of more than that is kept past it
pub surplus_kept : {me : ℕ} (a c : CoreData) (is : IsCore c) (found : List DeducedData) (all : Bool) → GoesAlone me a c → c.ids ≡ a.ids → IsSurplus a found → MatchBool all (All (IsThere c) found) (IsSome (state_of c).kept) → IsSome (state_of c).kept
surplus_kept a c is found true goes ids surplus there =
    let few = few_there c is found (λ k d lt. ready_still a c (get_or found k d) goes ids (surplus.ready k d lt)) surplus.once there in
    absurd (omega (arith, few, surplus.many, ap (λ (b : Base). b.budget) goes.base))
surplus_kept a c is found false goes ids surplus some = some
