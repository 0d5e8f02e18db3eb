-- What follows at a point, and what it means that nothing was added.
use Rattle.std.proofs.Common.{◌≡◌, refl, sym, ◌∙◌, ap, subst, ℕ, ◌+◌, ◌<◌, ◌≤◌, List, [], ◌∷◌, ◌++◌, length, take, get_or, slice_get, Option, Some, All, arith, Contains, ◌⊎◌, inl, inr, ◌↔◌}
use Rattle.std.proofs.lemmas.List.{take_all, length-map}
use Rattle.std.specs.List.Sorted.{IsPermutation}
use Rattle.std.proofs.lemmas.List.Sorted.{IsPermutation-sym, Contains-permutation}
use Rattle.std.proofs.lemmas.List.Elements.{Contains-append_left, Contains-append_cases}
use Rattle.std.proofs.lemmas.Bool.{cases_lt}
use Rattle.std.proofs.lemmas.Option.{same_Some, slice_get-get_or, slice_get-map}
use Rattle.std.specs.Prelude.{unwrap_or}
use Rattle.std.specs.Option.{option_map}
use Rattle.hs_flow.specs.Dependents.{HasDependents, list_of as dependents_of}
use Rattle.hs_scheme.specs.declared.term.Head.TheVariants.{Tm}
use Rattle.hs_scheme.specs.flow.Points.{PointData, point_at}
use Rattle.hs_scheme.specs.Problem.{ProblemData}
use Rattle.hs_scheme.proofs.Lists.{none_in}
use Rattle.hs_table.specs.Types.{TypeTree, arrows}
use Rattle.hs_table.specs.Entries.{Env, EntryData, Has, IsEnv, InShape, params_of}
use Rattle.hs_table.specs.Follows.{IsHeadType, HeadHas, AnyHas}
use Rattle.hs_table_laws.proofs.Members.{from_map, into_map, taken_next, pushed_cases}
use Rattle.hs_table_laws.proofs.Places.{within_from, place_of}
use Rattle.hs_verdict.specs.Premises.{IsSortedProblem}
use Rattle.hs_weak.specs.Strength.{AsStrongAs, Covers}
use Rattle.hs_weak.specs.Weak.{WeaklyChosen, WeaklyFollows}
use Rattle.hs_weak.specs.WeakExamples.{chosen_long}
use Rattle.hs_weak.specs.Reads.{last_state}
use Rattle.hs_weak.proofs.Strength.{covers_trans}
use Rattle.hs_types.specs.Interned.{InternerData, type_of_id, set_of_id, RowData, IsRow, entry_of, Grows}
use Rattle.hs_types.proofs.Numbers.{row_stays, Grows-refl, Grows-trans}
use Rattle.hs_choices.specs.Numbered.{AreTableRows}
use Rattle.hs_choices.proofs.Growing.{all_members}
use Rattle.hs_heads.specs.HeadTypes.{HeadTypeData, IsHeadTypeAt, AreHeadTypes}
use Rattle.hs_reads.specs.Lists.{list_of}
use Rattle.hs_reads.specs.Own.{AreAllPairs}
use Rattle.hs_minimal.specs.Growing.{GrowingData, entries, IsCoveredAt, IsGrowing, AreOfRows, CoversAllAt, CoversAll, AreAdded, IsGrownFrom, WhereNoneAdded}
use Rattle.hs_minimal.specs.Following.{IsSource, AddsRowsOf, IsGathered, IsSplitAtArgs, IsCoveredAmong, AreCoveredByType, IsFollowing, AddsFollowingAll, AreFollowingFrom, AreLeastFollowing}
use Rattle.hs_minimal.proofs.Elsewhere.{weakly_more, weakly_elsewhere}
use Rattle.hs_minimal.proofs.Shapes.{weakly_shape, last_within}
use Rattle.hs_minimal.proofs.GrowingLemmas.{added_in_use, added_shape, kept_in_use}
use Rattle.hs_minimal.proofs.FollowingLemmas.{own_rows}

pub own_point : (p : ProblemData) (point : ℕ) → point < length p.points.points → slice_get p.points.points point ≡ Some (point_at p.points point)
own_point p point within = slice_get-get_or p.points.points point (record { rule = 0; head = Tm 0; args = [] }) within

-- types of a head, split at the arguments of its point
pub split_heads : (p : ProblemData) (C : List EntryData) (R : List (ℕ × ℕ)) (point : ℕ) (J : InternerData) (heads : List HeadTypeData) → AreHeadTypes p C R point (point_at p.points point) J heads → (h : HeadTypeData) → Contains heads h → IsSplitAtArgs p point J h
split_heads p C R point J heads are h m = record { row = are.rows h m; long = sym (length-map h.sets (set_of_id J)) ∙ (are.taken h m).long }

-- the rows that are gathered for a point
pub gathered_added : (g : GrowingData) (I : InternerData) → IsGrowing I g → (point : ℕ) (T : List RowData) → IsGathered g point T → AreAdded g T
gathered_added g I h point T is r m = let k = (is r).0 m in (h.taken k.0 r k.1.1).1

pub added_more : (g : GrowingData) (I : InternerData) → IsGrowing I g → (Of : ℕ → Type 0) (old new : List RowData) → AddsRowsOf g Of old new → AreAdded g old → AreAdded g new
added_more g I h Of old new adds are r m = elim ((adds r).0 m) [
  | inl was ↦ are r was
  | inr k ↦ (h.taken k.0 r k.1.1).1
]

pub added_none : (g : GrowingData) (rows : List RowData) → rows ≡ [] → AreAdded g rows
added_none g rows is r m = absurd (none_in r (subst (λ (z : List RowData). Contains z r) is m))

pub added_push : (g : GrowingData) (old new : List RowData) (row : RowData) → new ≡ old ++ row ∷ [] → AreAdded g old → Contains g.history row → AreAdded g new
added_push g old new row is are there r m = elim (pushed_cases old row r (subst (λ (z : List RowData). Contains z r) is m)) [
  | inl was ↦ are r was
  | inr own ↦ subst (λ (z : RowData). Contains g.history z) (sym own) there
]

pub added_both : (g : GrowingData) (old more new : List RowData) → new ≡ old ++ more → AreAdded g old → AreAdded g more → AreAdded g new
added_both g old more new is are also r m = elim (Contains-append_cases old more r (subst (λ (z : List RowData). Contains z r) is m)) [
  | inl was ↦ are r was
  | inr own ↦ also r own
]

pub added_moved : (g : GrowingData) (rows new : List RowData) → IsPermutation rows new → AreAdded g rows → AreAdded g new
added_moved g rows new moved are r m = are r (Contains-permutation new rows r (IsPermutation-sym rows new moved) m)

-- rows that were added
module _ (g : GrowingData) (given : IsSortedProblem g.problem) (I : InternerData) (h : IsGrowing I g) (T : List RowData) (in_history : AreAdded g T) where
  pub rows_in_use : All (IsRow I) T
  rows_in_use = all_members (IsRow I) T (λ r m. added_in_use I g h r (in_history r m))

  pub rows_shape : (r : RowData) → Contains T r → InShape g.problem (entry_of I r)
  rows_shape r m = added_shape I g h given.automaton.to r (in_history r m)

  pub rows_stand : AreTableRows g.problem (entries I T) I T
  rows_stand = own_rows g.problem I T rows_shape

  module _ (point : ℕ) (J K : InternerData) (before : Grows I J) (then : Grows J K) (lt : point < length g.problem.points.points) (R : List (ℕ × ℕ)) (reads : AreAllPairs g.problem R) (heads : List HeadTypeData) (found : List RowData)
      (heads_are : AreHeadTypes g.problem (entries I T) R point (point_at g.problem.points point) J heads)
      (found_are : AddsFollowingAll g.problem (entries I T) point (point_at g.problem.points point) J K heads found) where
    abbrev p : ProblemData
    p = g.problem

    abbrev of : PointData
    of = point_at p.points point

    abbrev C : List EntryData
    C = entries I T

    at : slice_get p.points.points point ≡ Some of
    at = own_point p point lt

    same_entry : (r : RowData) → Contains g.history r → entry_of K r ≡ entry_of I r
    same_entry r m = row_stays I K (Grows-trans I J K before then) r (added_in_use I g h r m)

    in_added : (d : EntryData) → Contains C d → Contains (entries K g.history) d
    in_added d m =
        let r = from_map (entry_of I) T d m in
        let there = in_history r.item r.there in
        subst (λ (e : EntryData). Contains (entries K g.history) e) (same_entry r.item there ∙ sym r.is) (into_map (entry_of K) g.history r.item there)

    all : (r : RowData) → Contains found r → IsFollowing p (entries K g.history) point K r
    all r m = let f = found_are.all r m in record { in_use = f.in_use; at = f.at; follows = weakly_more p C (entries K g.history) in_added (entry_of K r) f.follows }

    own_of : (e : EntryData) → e.point ≡ point → (d : PointData) → slice_get p.points.points e.point ≡ Some d → d ≡ of
    own_of e is_at d d_at = same_Some d of (sym d_at ∙ (ap (λ k. slice_get p.points.points k) is_at ∙ at))

    by_rows : (e : EntryData) → e.point ≡ point → WeaklyFollows AsStrongAs p C e → IsCoveredAmong K found e
    by_rows e is_at (s, f) =
        let of_is : f.of ≡ of = own_of e is_at f.of f.at in
        let shape : InShape p e = weakly_shape p C given.automaton.to e (s, f) in
        let own : IsHeadTypeAt p C R point of f.sets e.ty = record {
          by = s.head;
          head = subst (λ (d : PointData). IsHeadType p C d.rule d.head s.head (arrows f.sets e.ty)) of_is f.head;
          long = chosen_long AsStrongAs p C f.are ∙ ap (λ (d : PointData). length d.args) of_is;
          read = (reads point (last_state e.ty)).1 (lt, last_within p.sorted.automaton.states e.ty shape.ty);
        } in
        let x = heads_are.each f.sets e.ty own in
        let by_sets = subst (λ (ss : Env). AreCoveredByType p C point of K ss (type_of_id J x.0.ty) found) x.1.1.0 (found_are.covered x.0 x.1.0) in
        let by_type = subst (λ (t : TypeTree). AreCoveredByType p C point of K f.sets t found) x.1.1.1 by_sets in
        let covered = by_type s.args f.chosen (subst (λ (d : PointData). WeaklyChosen AsStrongAs p C 0 d.args f.sets s.args f.chosen) of_is f.are) e.env (subst (λ (d : PointData). IsEnv (params_of p d.rule) e.env) of_is f.env)
        (subst (λ (d : PointData). (j : ℕ) (a : TypeTree) → j < length e.env → Has e.env j a ↔ (HeadHas d.head (arrows f.sets e.ty) j a ⊎ AnyHas f.chosen j a)) of_is f.union) in
        subst (λ k. IsCoveredAmong K found (record { point = k; env = e.env; ty = e.ty })) (sym is_at) covered

    pub are_from : AreFollowingFrom I K g point T found
    are_from = record { all = all; covered = by_rows }

-- where they are all that is kept at the sources of a point
module _ (g : GrowingData) (I : InternerData) (h : IsGrowing I g) (T : List RowData) (in_history : AreAdded g T) (point : ℕ) (is : IsGathered g point T) (K : InternerData) (grows : Grows I K) (lt : point < length g.problem.points.points) (found : List RowData) (from : AreFollowingFrom I K g point T found) where
  abbrev q : ProblemData
  q = g.problem

  kept_entry : (r : RowData) → Contains g.history r → entry_of K r ≡ entry_of I r
  kept_entry r m = row_stays I K grows r (added_in_use I g h r m)

  covered : (D : List EntryData) → AreOfRows K g D → (e : EntryData) → e.point ≡ point → WeaklyFollows AsStrongAs q D e → IsCoveredAmong K found e
  covered D of_rows e is_at (s, f) =
      let own = own_point q point lt in
      let of_is : f.of ≡ point_at q.points point = same_Some f.of (point_at q.points point) (sym f.at ∙ (ap (λ k. slice_get q.points.points k) is_at ∙ own)) in
      from.covered e is_at (weakly_elsewhere q D (entries I T) s e f (λ d source m.
      let r = of_rows d m in
      let row_at : r.0.point ≡ d.point = ap (λ (x : EntryData). x.point) r.1.1 in
      let own_source = subst (λ u. IsSource q (point_at q.points point) u) (sym row_at) (subst (λ (o : PointData). IsSource q o d.point) of_is source) in
      let there = (is r.0).1 (r.0.point, (own_source, r.1.0)) in
      subst (λ (x : EntryData). Contains (entries I T) x) (sym (kept_entry r.0 (in_history r.0 there)) ∙ r.1.1) (into_map (entry_of I) T r.0 there)))

  pub are_following : AreLeastFollowing K g point found
  are_following = record { all = from.all; covered = covered }

-- where all that follows at a point is covered
module _ (I : InternerData) (g : GrowingData) where
  pub settled_here : (point : ℕ) (found : List RowData) → AreLeastFollowing I g point found → ((r : RowData) → Contains found r → IsCoveredAt I g (entry_of I r)) → CoversAllAt I g point
  settled_here point found are all C of_rows e is_at follows =
      let by = are.covered C of_rows e is_at follows in
      let over = all by.0 by.1.0 in
      let same : by.0.point ≡ e.point = by.1.1.point in
      (over.0, (subst (λ u. Contains (list_of g.rows u) over.0) same over.1.0, covers_trans (entry_of I over.0) (entry_of I by.0) e over.1.1 by.1.1))

  pub settled_points : ((u : ℕ) → u < length g.problem.points.points → CoversAllAt I g u) → CoversAll I g
  settled_points each C of_rows e (s, f) = each e.point (within_from g.problem.points.points e.point f.of f.at) C of_rows e refl (s, f)

  pub none_settled : (u : ℕ) → u < 0 → CoversAllAt I g u
  none_settled u lt = absurd (omega (arith, lt))

  pub one_settled : (n : ℕ) → ((u : ℕ) → u < n → CoversAllAt I g u) → CoversAllAt I g n → (u : ℕ) → u < n + 1 → CoversAllAt I g u
  one_settled n before here u lt = elim (cases_lt u n) [
    | inl less ↦ before u less
    | inr last ↦ let e : n ≡ u = omega (arith, lt, last) in subst (λ k. CoversAllAt I g k) e here
  ]

  module _ (h : IsGrowing I g) (J : InternerData) (grows : Grows I J) where
    same_kept : (u : ℕ) (r : RowData) → Contains (list_of g.rows u) r → entry_of J r ≡ entry_of I r
    same_kept u r m = row_stays I J grows r (kept_in_use I g h u r m)

    pub covered_stays : (e : EntryData) → IsCoveredAt I g e → IsCoveredAt J g e
    covered_stays e c = (c.0, (c.1.0, subst (λ (x : EntryData). Covers AsStrongAs x e) (sym (same_kept e.point c.0 c.1.0)) c.1.1))

    pub settled_stays : (u : ℕ) → CoversAllAt I g u → CoversAllAt J g u
    settled_stays u settled C of_rows e is_at follows =
        covered_stays e (settled C (λ d m. let r = of_rows d m in (r.0, (r.1.0, sym (same_kept r.0.point r.0 r.1.0) ∙ r.1.1))) e is_at follows)

length_push : (xs : List RowData) (x : RowData) → length (xs ++ x ∷ []) ≡ length xs + 1
length_push [] x = refl
length_push (y ∷ ys) x = let r = length_push ys x in omega (arith, r)

longer_by_one : (I : InternerData) (g h : GrowingData) (row : RowData) → h.history ≡ g.history ++ row ∷ [] → length h.history ≡ length g.history + 1
longer_by_one I g h row is = ap (λ (z : List RowData). length z) is ∙ length_push g.history row

-- how the table grows
pub grown_same : (I J : InternerData) (g : GrowingData) → Grows I J → IsGrownFrom I J g g
grown_same I J g grows = record { numbers = grows; problem = refl; budget = refl; longer = omega arith; keeps = λ r m. m }

pub grown_then : (I J K : InternerData) (f g h : GrowingData) → IsGrownFrom I J f g → IsGrownFrom J K g h → IsGrownFrom I K f h
grown_then I J K f g h a b = record {
  numbers = Grows-trans I J K a.numbers b.numbers;
  problem = b.problem ∙ a.problem;
  budget = b.budget ∙ a.budget;
  longer = omega (arith, a.longer, b.longer);
  keeps = λ r m. b.keeps r (a.keeps r m);
}

pub grown_add : (I : InternerData) (g h : GrowingData) (row : RowData) → h.problem ≡ g.problem → h.budget ≡ g.budget → h.history ≡ g.history ++ row ∷ [] → IsGrownFrom I I g h
grown_add I g h row problem budget is = record {
  numbers = Grows-refl I;
  problem = problem;
  budget = budget;
  longer = let long = longer_by_one I g h row is in omega (arith, long);
  keeps = λ r m. subst (λ (z : List RowData). Contains z r) (sym is) (Contains-append_left g.history (row ∷ []) r m);
}

-- so far all of some rows are covered, unless something was added
abbrev pub NoneSoFar : InternerData → GrowingData → GrowingData → List RowData → Type 0
NoneSoFar I f g rows = WhereNoneAdded f g ((r : RowData) → Contains rows r → IsCoveredAt I f (entry_of I r))

module _ (I : InternerData) (f g : GrowingData) (rows : List RowData) where
  pub none_before : NoneSoFar I f f (take 0 rows)
  none_before same room = (refl, λ r m. absurd (none_in r m))

  pub none_full : f.budget ≡ g.budget → g.budget < length g.history → (P : Type 0) → WhereNoneAdded f g P
  none_full budget full P same room = absurd (omega (arith, same, room, budget, full))

  pub none_all : (k : ℕ) → length rows ≤ k → NoneSoFar I f g (take k rows) → NoneSoFar I f g rows
  none_all k past none = subst (λ (z : List RowData). NoneSoFar I f g z) (take_all k rows past) none

  module _ (k : ℕ) (row : RowData) (lt : k < length rows) (is : row ≡ get_or rows k row) (longer : length f.history ≤ length g.history) (none : NoneSoFar I f g (take k rows)) where
    pub none_next : IsCoveredAt I g (entry_of I row) → NoneSoFar I f g (take (k + 1) rows)
    none_next covered same room =
        let before = none same room in (
          before.0,
          λ r m. elim (pushed_cases (take k rows) row r (subst (λ (z : List RowData). Contains z r) (taken_next rows k row lt is) m)) [
            | inl was ↦ before.1 r was
            | inr e ↦ subst (λ (x : RowData). IsCoveredAt I f (entry_of I x)) (sym e) (subst (λ (x : GrowingData). IsCoveredAt I x (entry_of I row)) before.0 covered)
          ],
        )

    pub none_added : (h : GrowingData) → h.history ≡ g.history ++ row ∷ [] → NoneSoFar I f h (take (k + 1) rows)
    none_added h h_is same room = let long = longer_by_one I g h row h_is in absurd (omega (arith, same, longer, long))

-- a row that follows from what was added before follows from what is added now
pub follows_now : (I : InternerData) (f g : GrowingData) → IsGrownFrom I I f g → (r : RowData) → IsFollowing f.problem (entries I f.history) r.point I r → WeaklyFollows AsStrongAs g.problem (entries I g.history) (entry_of I r)
follows_now I f g grown r h =
    subst (λ (q : ProblemData). WeaklyFollows AsStrongAs q (entries I g.history) (entry_of I r)) (sym grown.problem) (weakly_more f.problem (entries I f.history) (entries I g.history) (λ d m.
    let k = from_map (entry_of I) f.history d m in
    subst (λ (e : EntryData). Contains (entries I g.history) e) (sym k.is) (into_map (entry_of I) g.history k.item (grown.keeps k.item k.there))) (entry_of I r) h.follows)

-- at the points so far
abbrev pub SettledBelow : InternerData → GrowingData → GrowingData → ℕ → Type 0
SettledBelow I f g n = WhereNoneAdded f g ((u : ℕ) → u < n → CoversAllAt I g u)

pub below_none : (I : InternerData) (f : GrowingData) → SettledBelow I f f 0
below_none I f same room = (refl, none_settled I f)

pub below_next : (J K : InternerData) (f g h : GrowingData) (n : ℕ) → IsGrowing J g → Grows J K → length f.history ≤ length g.history → length g.history ≤ length h.history → g.budget ≡ f.budget
    → SettledBelow J f g n → WhereNoneAdded g h (CoversAllAt K h n) → SettledBelow K f h (n + 1)
below_next J K f g h n is grows first then budget before here same room =
    let mid : length g.history ≡ length f.history = omega (arith, same, first, then) in
    let was = before mid room in
    let now = here (same ∙ sym mid) (omega (arith, mid, room, budget)) in (
      now.0 ∙ was.0,
      one_settled K h n (λ u lt. subst (λ (x : GrowingData). CoversAllAt K x u) (sym now.0) (settled_stays J g is K grows u (was.1 u lt))) now.1,
    )

pub below_all : (I : InternerData) (f g : GrowingData) (n : ℕ) → length g.problem.points.points ≤ n → SettledBelow I f g n → WhereNoneAdded f g (CoversAll I g)
below_all I f g n past below same room = let b = below same room in (b.0, settled_points I g (λ u lt. b.1 u (omega (arith, lt, past))))

-- each row as one that follows at its own point
pub at_own_point : (p : ProblemData) (C : List EntryData) (point : ℕ) (I : InternerData) (r : RowData) → IsFollowing p C point I r → IsFollowing p C r.point I r
at_own_point p C point I r h = record { in_use = h.in_use; at = refl; follows = h.follows }

-- entries are at points of the problem
pub added_within : (I : InternerData) (g : GrowingData) → IsGrowing I g → (k : ℕ) (r : RowData) → slice_get g.history k ≡ Some r → r.point < length g.problem.points.points
added_within I g h k r at =
    let there = slice_get-map (entry_of I) g.history k ∙ ap (option_map (entry_of I)) at in
    let f = (h.derived k (entry_of I r) there).1 in
    within_from g.problem.points.points r.point f.of f.at

-- dependents are points of the problem
pub dependent_within : (p : ProblemData) (lists : List (List ℕ)) → HasDependents p.points p.flow.pairs lists → (u : ℕ) (ds : List ℕ) → slice_get lists u ≡ Some ds → (d : ℕ) → Contains ds d → d < length p.points.points
dependent_within p lists has u ds at d m =
    let own : Contains (dependents_of lists u) d = subst (λ (xs : List ℕ). Contains xs d) (sym (ap (λ (o : Option (List ℕ)). unwrap_or o []) at)) m in
    let is = (has.exact u d).0 own in
    within_from p.points.points d is.of is.at

-- the points of rows that were added are the problem's
pub points_within : (I : InternerData) (g : GrowingData) → IsGrowing I g → (rows : List RowData) → AreAdded g rows → (own : List RowData) → own ≡ rows → (points : List ℕ) → ((u : ℕ) → Contains points u → (r : RowData) × (Contains own r × (r.point ≡ u)))
    → (us : List ℕ) → us ≡ points → (u : ℕ) → Contains us u → u < length g.problem.points.points
points_within I g h rows added own own_is points of us us_is u m =
    let r = of u (subst (λ (z : List ℕ). Contains z u) us_is m) in
    let at = place_of g.history r.0 (added r.0 (subst (λ (z : List RowData). Contains z r.0) own_is r.1.0)) in
    subst (λ k. k < length g.problem.points.points) r.1.1 (added_within I g h at.0 r.0 at.1)
