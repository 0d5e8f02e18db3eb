use Rattle.std.proofs.Common.{◌≡◌, sym, subst, ℕ, ◌<◌, List, length, Contains, slice_get, Some, Result, Ok, Err, OnOk, IfOk}
use Rattle.std.proofs.lemmas.List.Elements.{All-weaker}
use Rattle.hs_scheme.specs.flow.Points.{PointData, point_at}
use Rattle.hs_scheme.specs.Problem.{ProblemData}
use Rattle.hs_table.specs.Entries.{EntryData, InShape}
use Rattle.hs_verdict.specs.Premises.{IsSortedProblem}
use Rattle.hs_types.specs.Interned.{InternerData, RowData, IsRow, entry_of, Grows}
use Rattle.hs_types.proofs.Numbers.{row_within}
use Rattle.hs_choices.specs.Numbered.{AreTableRows}
use Rattle.hs_choices.proofs.Staying.{rows_stay}
use Rattle.hs_heads.specs.HeadTypes.{HeadTypeData, AreHeadTypes}
use Rattle.hs_minimal.specs.Growing.{GrowingData, entries, IsGrowing, AreAdded}
use Rattle.hs_minimal.specs.Following.{IsSplitAtArgs, AddsFollowingAll, AreFollowingFrom}
use Rattle.hs_minimal.proofs.FollowingLemmas.{shapes_stay}
use Rattle.hs_minimal.proofs.SettlingLemmas.{own_point, rows_in_use, rows_shape, rows_stand, split_heads, are_from}
use Rattle.hs_minimal.proofs.following.following_from.Goals as goal

both_ok : {X Y : Type 0} (r : Result X Y) (G : Type 0) (P Q : X → Type 0) → ((x : X) → G → P x → Q x) → OnOk r G → IfOk r P → IfOk r Q
both_ok (Ok x) G P Q f g p = f x g p
both_ok (Err e) G P Q f g p = tt

-- what is told of the types of the head, and of what follows by them
abbrev ToldHeads : ProblemData → InternerData → InternerData → List RowData → List (ℕ × ℕ) → ℕ → List HeadTypeData → Type 0
ToldHeads q I J rows R point heads =
    (C : List EntryData) → AreTableRows q C I rows → (of : PointData) → slice_get q.points.points point ≡ Some of → AreHeadTypes q C R point of J heads

abbrev ToldRows : ProblemData → InternerData → InternerData → List RowData → ℕ → List HeadTypeData → List RowData → Type 0
ToldRows q J K rows point heads found =
    (C : List EntryData) (R : List (ℕ × ℕ)) (of : PointData) → AreTableRows q C J rows → slice_get q.points.points point ≡ Some of → AreHeadTypes q C R point of J heads → AddsFollowingAll q C point of J K heads found

module _ (g : GrowingData) (given : IsSortedProblem g.problem) (I J : InternerData) (grows : Grows I J) (h : IsGrowing I g) (point : ℕ) (lt : point < length g.problem.points.points) (T : List RowData) (added : AreAdded g T) (R : List (ℕ × ℕ)) (heads : List HeadTypeData) where
  own_heads : (q : ProblemData) → q ≡ g.problem → ToldHeads q I J T R point heads → AreHeadTypes g.problem (entries I T) R point (point_at g.problem.points point) J heads
  own_heads q same told = (subst (λ (p : ProblemData). ToldHeads p I J T R point heads) same told) (entries I T) (rows_stand g given I h T added) (point_at g.problem.points point) (own_point g.problem point lt)

  own_found : (K : InternerData) (q : ProblemData) → q ≡ g.problem → (hs : List HeadTypeData) → hs ≡ heads → (found : List RowData) → ToldRows q J K T point hs found
      → AreHeadTypes g.problem (entries I T) R point (point_at g.problem.points point) J heads → AddsFollowingAll g.problem (entries I T) point (point_at g.problem.points point) J K heads found
  own_found K q same hs hs_are found told are =
      (subst (λ (z : List HeadTypeData). ToldRows g.problem J K T point z found) hs_are (subst (λ (p : ProblemData). ToldRows p J K T point hs found) same told))
      (entries I T) R (point_at g.problem.points point) (rows_stay I J grows g.problem (entries I T) T (rows_in_use g given I h T added) (rows_stand g given I h T added)) (own_point g.problem point lt) are

pub head_types-requires-clause-table : goal.head_types-requires-clause-table
head_types-requires-clause-table c =
    let g = c.args.growing.now in
    let given : IsSortedProblem g.problem = subst (λ (p : ProblemData). IsSortedProblem p) c.problem-problem.ensures c.know_sorted_problem.ensures in
    rows_in_use g given c.args.types.now c.requires.growing c.args.rows.now c.requires.rows

pub following_by-requires-clause-rows : goal.following_by-requires-clause-rows
following_by-requires-clause-rows c =
    let g = c.args.growing.now in
    let I = c.args.types.now in
    let J = c.head_types.new.types in
    let given : IsSortedProblem g.problem = subst (λ (p : ProblemData). IsSortedProblem p) c.problem-problem.ensures c.know_sorted_problem.ensures in
    All-weaker (IsRow I) (IsRow J) (row_within I J c.in_ok-heads.ensures.grows) c.args.rows.now (rows_in_use g given I c.requires.growing c.args.rows.now c.requires.rows)

pub following_by-requires-clause-shape : goal.following_by-requires-clause-shape
following_by-requires-clause-shape c =
    let g = c.args.growing.now in
    let I = c.args.types.now in
    let J = c.head_types.new.types in
    let given : IsSortedProblem g.problem = subst (λ (p : ProblemData). IsSortedProblem p) c.problem-problem.ensures c.know_sorted_problem.ensures in
    let T = c.args.rows.now in
    subst (λ (p : ProblemData). (r : RowData) → Contains T r → InShape p (entry_of J r)) (sym c.problem-problem.ensures)
    (shapes_stay g.problem I J c.in_ok-heads.ensures.grows T (rows_in_use g given I c.requires.growing T c.requires.rows) (rows_shape g given I c.requires.growing T c.requires.rows))

pub following_by-requires-clause-heads : goal.following_by-requires-clause-heads
following_by-requires-clause-heads c =
    let g = c.args.growing.now in
    let I = c.args.types.now in
    let J = c.head_types.new.types in
    let R = c.args.reads.now in
    let given : IsSortedProblem g.problem = subst (λ (p : ProblemData). IsSortedProblem p) c.problem-problem.ensures c.know_sorted_problem.ensures in
    let T = c.args.rows.now in
    let heads = c.in_ok-heads.heads.items in
    let are = own_heads g given I J c.in_ok-heads.ensures.grows c.requires.growing c.args.point c.requires.point T c.requires.rows R heads c.problem-problem.result.now c.problem-problem.ensures c.in_ok-heads.ensures.found in
    subst (λ (p : ProblemData). (x : HeadTypeData) → Contains c.as_slice.result.now x → IsSplitAtArgs p c.args.point J x) (sym c.problem-problem.ensures)
    (subst (λ (z : List HeadTypeData). (x : HeadTypeData) → Contains z x → IsSplitAtArgs g.problem c.args.point J x) (sym c.as_slice.ensures.value) (split_heads g.problem (entries I T) R c.args.point J heads are))

pub returns-clause-found : goal.returns-clause-found
returns-clause-found c =
    let g = c.args.growing.now in
    let I = c.args.types.now in
    let J = c.head_types.new.types in
    let K = c.following_by.new.types in
    let R = c.args.reads.now in
    let grows = c.in_ok-heads.ensures.grows in
    let given : IsSortedProblem g.problem = subst (λ (p : ProblemData). IsSortedProblem p) c.problem-problem.ensures c.know_sorted_problem.ensures in
    let T = c.args.rows.now in
    let heads = c.in_ok-heads.heads.items in
    let q = c.problem-problem.result.now in
    let are = own_heads g given I J grows c.requires.growing c.args.point c.requires.point T c.requires.rows R heads q c.problem-problem.ensures c.in_ok-heads.ensures.found in
    both_ok c.following_by.result (Grows J K) (λ found. ToldRows q J K T c.args.point c.as_slice.result.now found.items) (λ found. AreFollowingFrom I K g c.args.point T found.items)
    (λ found then told. are_from g given I c.requires.growing T c.requires.rows c.args.point J K grows then c.requires.point R c.requires.reads heads found.items are
    (own_found g given I J grows c.requires.growing c.args.point c.requires.point T c.requires.rows R heads K q c.problem-problem.ensures c.as_slice.result.now c.as_slice.ensures.value found.items told are))
    c.following_by.ensures.grows c.following_by.ensures.found
