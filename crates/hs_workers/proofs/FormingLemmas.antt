-- What is formed point by point.
use Rattle.std.proofs.Common.{◌≡◌, refl, sym, ◌∙◌, ap, subst, ℕ, ◌+◌, ◌<◌, ◌≤◌, List, [], ◌∷◌, ◌++◌, length, take, slice_get, get_or, unwrap_or, Some, None, Option, All, Result, Ok, Err, arith, Contains, inl, inr, append_assoc}
use Rattle.std.specs.Result.{IfOk}
use Rattle.std.specs.Option.{IfSome}
use Rattle.std.proofs.lemmas.Bool.{cases_lt}
use Rattle.std.proofs.lemmas.List.{take_all}
use Rattle.std.proofs.lemmas.List.Elements.{All-nil, All-head, All-tail, All-append, All-push, All-map, All-contains, All-weaker, Contains-get_or, Contains-append_left, Contains-append_right, Contains-push}
use Rattle.hs_scheme.specs.declared.flow.FlowPair.{FlowPair}
use Rattle.hs_scheme.specs.flow.Points.{PointsData}
use Rattle.hs_scheme.specs.Problem.{ProblemData}
use Rattle.hs_scheme.proofs.Lists.{here}
use Rattle.hs_flow.specs.Dependents.{HasDependents, list_of}
use Rattle.hs_table.specs.Entries.{EntryData}
use Rattle.hs_table.specs.Follows.{FollowsBy}
use Rattle.hs_table_laws.proofs.Places.{within_from}
use Rattle.hs_table_laws.proofs.Growing.{by_append, by_take}
use Rattle.hs_types.specs.Interned.{InternerData, IsRow, entry_of, Grows}
use Rattle.hs_types.proofs.Numbers.{row_within, row_stays}
use Rattle.hs_rules.specs.Conclusions.{DeducedData, IsDeduced, AnySupport, Uses, AreConclusions}
use Rattle.hs_history.specs.declared.step.Work.TheVariants.{Seed, Place}
use Rattle.hs_core.proofs.Moving.{place_closed}
use Rattle.hs_history.specs.declared.step.Work.{Work}
use Rattle.hs_workers.specs.declared.job.Job.{Job}
use Rattle.hs_workers.specs.Jobs.{IsFormed}
use Rattle.hs_workers.specs.Forming.{entries_of, IsLoggedOrFound, KeepsNew, FollowsThere, AreAllAt, HasFound, AreFormed}

abbrev RowsOf : InternerData → List DeducedData → Type 0
RowsOf ids found = All (λ (d : DeducedData). IsRow ids d.row) found

rows_of : (p : ProblemData) (ids : InternerData) (log : List EntryData) (found : List DeducedData) → All (IsDeduced p ids log) found → RowsOf ids found
rows_of p ids log found h = All-weaker (IsDeduced p ids log) (λ (d : DeducedData). IsRow ids d.row) (λ d is. is.row) found h

entries_append : (ids : InternerData) (xs ys : List DeducedData) → entries_of ids (xs ++ ys) ≡ entries_of ids xs ++ entries_of ids ys
entries_append ids [] ys = refl
entries_append ids (x ∷ xs) ys = ap (λ es. entry_of ids x.row ∷ es) (entries_append ids xs ys)

-- what an interner that grows reads
module _ (I J : InternerData) (g : Grows I J) where
  deduced_grown : (p : ProblemData) (log : List EntryData) (found : List DeducedData) → All (IsDeduced p I log) found → All (IsDeduced p J log) found
  deduced_grown p log found h = All-weaker (IsDeduced p I log) (IsDeduced p J log) (λ d is. record {
    row = row_within I J g d.row is.row;
    follows = subst (λ e. FollowsBy p log d.support e) (sym (row_stays I J g d.row is.row)) is.follows;
  }) found h

  entries_grown : (found : List DeducedData) → RowsOf I found → entries_of J found ≡ entries_of I found
  entries_grown [] h = refl
  entries_grown (d ∷ ds) h = λ i.
      row_stays I J g d.row (All-head (λ (x : DeducedData). IsRow I x.row) d ds h) i ∷ entries_grown ds (All-tail (λ (x : DeducedData). IsRow I x.row) d ds h) i

  known_grown : (log : List EntryData) (found : List DeducedData) (e : EntryData) → RowsOf I found → IsLoggedOrFound I log found e → IsLoggedOrFound J log found e
  known_grown log found e rows (inl c) = inl c
  known_grown log found e rows (inr c) = inr (subst (λ es. Contains es e) (sym (entries_grown found rows)) c)

-- what is found grows
module _ (ids : InternerData) (log : List EntryData) where
  known_more : (found more : List DeducedData) (e : EntryData) → IsLoggedOrFound ids log found e → IsLoggedOrFound ids log (found ++ more) e
  known_more found more e (inl c) = inl c
  known_more found more e (inr c) = inr (subst (λ es. Contains es e) (sym (entries_append ids found more)) (Contains-append_left (entries_of ids found) (entries_of ids more) e c))

  known_new : (found : List DeducedData) (d : DeducedData) → IsLoggedOrFound ids log (found ++ d ∷ []) (entry_of ids d.row)
  known_new found d = inr (subst (λ es. Contains es (entry_of ids d.row)) (sym (entries_append ids found (d ∷ []))) (Contains-append_right (entries_of ids found) (entry_of ids d.row ∷ []) (entry_of ids d.row) (here (entry_of ids d.row) [])))

  module _ (ys old new : List DeducedData) (k : KeepsNew ids log ys old new) (d : DeducedData) where
    still_among : All (λ (x : DeducedData). Contains (ys ++ d ∷ []) x) k.more
    still_among = All-weaker (λ (x : DeducedData). Contains ys x) (λ (x : DeducedData). Contains (ys ++ d ∷ []) x) (λ x c. Contains-append_left ys (d ∷ []) x c) k.more k.among

    pub keeps_new : KeepsNew ids log (ys ++ d ∷ []) old (new ++ d ∷ [])
    keeps_new = record {
      more = k.more ++ d ∷ [];
      is = ap (λ xs. xs ++ d ∷ []) k.is ∙ append_assoc old k.more (d ∷ []);
      among = All-push (λ (x : DeducedData). Contains (ys ++ d ∷ []) x) k.more d still_among (Contains-push ys d);
      each = All-push (λ (x : DeducedData). IsLoggedOrFound ids log (new ++ d ∷ []) (entry_of ids x.row)) ys d
          (All-weaker (λ (x : DeducedData). IsLoggedOrFound ids log new (entry_of ids x.row)) (λ (x : DeducedData). IsLoggedOrFound ids log (new ++ d ∷ []) (entry_of ids x.row)) (λ x h. known_more new (d ∷ []) (entry_of ids x.row) h) ys k.each)
          (known_new new d);
    }

    pub keeps_known : Contains log (entry_of ids d.row) → KeepsNew ids log (ys ++ d ∷ []) old new
    keeps_known there = record {
      more = k.more;
      is = k.is;
      among = still_among;
      each = All-push (λ (x : DeducedData). IsLoggedOrFound ids log new (entry_of ids x.row)) ys d k.each (inl there);
    }

-- what was formed is found or in the log
among_known : (ids : InternerData) (log : List EntryData) (formed old new : List DeducedData) → KeepsNew ids log formed old new → (e : EntryData) → Contains (entries_of ids formed) e → IsLoggedOrFound ids log new e
among_known ids log formed old new k e c =
    All-contains (λ x. IsLoggedOrFound ids log new x) (entries_of ids formed) e (All-map (λ x. IsLoggedOrFound ids log new x) (λ (d : DeducedData). entry_of ids d.row) formed k.each) c

kept_deduced : (p : ProblemData) (ids : InternerData) (log : List EntryData) (formed old new : List DeducedData) → KeepsNew ids log formed old new
    → All (IsDeduced p ids log) formed → All (IsDeduced p ids log) old → All (IsDeduced p ids log) new
kept_deduced p ids log formed old new k formed_deduced old_deduced =
    subst (λ xs. All (IsDeduced p ids log) xs) (sym k.is) (All-append (IsDeduced p ids log) old k.more old_deduced
    (All-weaker (λ (d : DeducedData). Contains formed d) (IsDeduced p ids log) (λ d c. All-contains (IsDeduced p ids log) formed d formed_deduced c) k.more k.among))

deduced_within : (p : ProblemData) (ids : InternerData) (log : List EntryData) (n : ℕ) (found : List DeducedData) → n ≤ length log → All (IsDeduced p ids (take n log)) found → All (IsDeduced p ids log) found
deduced_within p ids log n found le h = All-weaker (IsDeduced p ids (take n log)) (IsDeduced p ids log) (λ d is. record {
  row = is.row;
  follows = subst (λ xs. FollowsBy p xs d.support (entry_of ids d.row)) (take_all (length log) log (omega arith)) (by_take p log n (length log) d.support (entry_of ids d.row) le is.follows);
}) found h

-- one point more
pub record AreAllBefore (p : ProblemData) (ids : InternerData) (log : List EntryData) (points : List ℕ) (n place : ℕ) (found : List DeducedData) : Type 0 where
  pub deduced : All (IsDeduced p ids log) found
  pub all : (k : ℕ) → k < n → (e : EntryData) → FollowsThere p log place (get_or points k 0) e → IsLoggedOrFound ids log found e

pub point_more : (p : ProblemData) (I J : InternerData) (log : List EntryData) (points : List ℕ) (n place : ℕ) (formed old new : List DeducedData) → Grows I J → place < length log
    → AreConclusions p J (take (place + 1) log) (get_or points n 0) (Uses place) formed → KeepsNew J log formed old new → AreAllBefore p I log points n place old → AreAllBefore p J log points (n + 1) place new
point_more p I J log points n place formed old new g within are k so_far =
    let rows = rows_of p I log old so_far.deduced in
    record {
      deduced = kept_deduced p J log formed old new k (deduced_within p J log (place + 1) formed (omega (arith, within)) are.deduced) (deduced_grown I J g p log old so_far.deduced);
      all = λ j lt e demands. elim (cases_lt j n) [
        | inl below ↦ subst (λ xs. IsLoggedOrFound J log xs e) (sym k.is) (known_more J log old k.more e (known_grown I J g log old e rows (so_far.all j below e demands)))
        | inr above ↦
            let same : j ≡ n = omega arith in
            let at : e.point ≡ get_or points n 0 = demands.at ∙ ap (λ i. get_or points i 0) same in
            among_known J log formed old new k e (are.each demands.support e at demands.follows demands.uses)
      ];
    }

pub whole_so_far : (p : ProblemData) (ids : InternerData) (log : List EntryData) (points : List ℕ) (n place : ℕ) (found : List DeducedData) → length points ≤ n → AreAllBefore p ids log points n place found → AreAllAt p ids log points place found
whole_so_far p ids log points n place found le so_far = record { deduced = so_far.deduced; all = λ k lt. so_far.all k (omega (arith, le, lt)) }

-- what is found closes the work
has_known : (ids : InternerData) (log more : List EntryData) (found : List DeducedData) → HasFound ids found (log ++ more) → (e : EntryData) → IsLoggedOrFound ids log found e → Contains (log ++ more) e
has_known ids log more found has e (inl c) = Contains-append_left log more e c
has_known ids log more found has e (inr c) = All-contains (λ x. Contains (log ++ more) x) (entries_of ids found) e (All-map (λ x. Contains (log ++ more) x) (λ (d : DeducedData). entry_of ids d.row) found has) c

pub seed_formed : (p : ProblemData) (ids : InternerData) (log : List EntryData) (point : ℕ) (formed found : List DeducedData) → AreConclusions p ids [] point AnySupport formed → KeepsNew ids log formed [] found → AreFormed p ids log (Seed point) found
seed_formed p ids log point formed found are k = record {
  deduced = kept_deduced p ids log formed [] found k
      (All-weaker (IsDeduced p ids []) (IsDeduced p ids log) (λ d is. record { row = is.row; follows = by_append p [] log d.support (entry_of ids d.row) is.follows }) formed are.deduced)
      (All-nil (IsDeduced p ids log));
  closes = λ more has e at (s, follows). has_known ids log more found has e (among_known ids log formed [] found k e (are.each s e at follows tt));
}

pub place_formed : (p : ProblemData) (ids : InternerData) (log : List EntryData) (place : ℕ) (at : EntryData) (lists : List (List ℕ)) (points : List ℕ) (found : List DeducedData) → place < length log → slice_get log place ≡ Some at
    → HasDependents p.points p.flow.pairs lists → points ≡ list_of lists at.point → AreAllAt p ids log points place found → AreFormed p ids log (Place place) found
place_formed p ids log place at lists points found within here' dependents is are = record {
  deduced = are.deduced;
  closes = λ more has.
      place_closed p log more (log ++ more) place within refl at lists points here' dependents is
      (λ k lt s e point follows uses. has_known ids log more found has e (are.all k lt e (record { at = point; support = s; follows = follows; uses = uses })));
}

-- dependents are points
pub dependents_within : (points : PointsData) (flows : List FlowPair) (lists : List (List ℕ)) (p : ℕ) (items : List ℕ) → HasDependents points flows lists → slice_get lists p ≡ Some items → All (λ d. d < length points.points) items
dependents_within points flows lists p items has listed = λ k d lt.
    let among = subst (λ xs. Contains xs (get_or items k d)) (sym (ap (λ o. unwrap_or o []) listed)) (Contains-get_or items k d lt) in
    let depends = (has.exact p (get_or items k d)).0 among in
    within_from points.points (get_or items k d) depends.of depends.at

-- an answer that says more
pub ok_more : {X E : Type 0} (P Q : X → Type 0) (r : Result X E) → ((x : X) → P x → Q x) → IfOk r P → IfOk r Q
ok_more P Q (Ok x) f h = f x h
ok_more P Q (Err e) f h = h

-- what was formed is so in an interner that has grown
pub formed_grown : (p : ProblemData) (I J : InternerData) (log : List EntryData) (work : Work) (found : List DeducedData) → Grows I J → AreFormed p I log work found → AreFormed p J log work found
formed_grown p I J log work found g are = record {
  deduced = deduced_grown I J g p log found are.deduced;
  closes = λ more has. are.closes more (λ k d lt. subst (λ e. Contains (log ++ more) e) (row_stays I J g (get_or found k d).row (are.deduced k d lt).row) (has k d lt));
}

pub some_more : {X : Type 0} {P Q : X → Type 0} (o : Option X) → ((x : X) → P x → Q x) → IfSome o P → IfSome o Q
some_more None f h = tt
some_more (Some x) f h = f x h

pub job_grown : (p : ProblemData) (I J : InternerData) (log : List EntryData) (j : Job) → Grows I J → IsFormed p I log j → IsFormed p J log j
job_grown p I J log j g h = some_more j.found (λ v are. formed_grown p I J log j.work v.items g are) h
