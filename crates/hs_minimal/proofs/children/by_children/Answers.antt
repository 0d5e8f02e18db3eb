use Rattle.std.proofs.Common.{◌≡◌, sym, ◌∙◌, ap, subst, ℕ, List, length, get_or, slice_get, Some, Contains, arith}
use Rattle.std.proofs.lemmas.Option.{slice_get-get_or}
use Rattle.hs_scheme.specs.flow.Points.{point_at}
use Rattle.hs_scheme.specs.Problem.{ProblemData}
use Rattle.hs_verdict.specs.Premises.{IsSortedProblem}
use Rattle.hs_weak.proofs.ComparingLemmas.{one_more}
use Rattle.hs_types.specs.Interned.{RowData}
use Rattle.hs_types.proofs.Numbers.{Grows-trans}
use Rattle.hs_reads.specs.Lists.{list_of}
use Rattle.hs_minimal.specs.Following.{HasByRow}
use Rattle.hs_minimal.proofs.GrowingLemmas.{growing_stays}
use Rattle.hs_minimal.proofs.SettlingLemmas.{own_point}
use Rattle.hs_minimal.proofs.CompleteLemmas.{by_row_stays, by_row_later, by_row_now, lacking_stays, covered_at_terminal}
use Rattle.hs_minimal.proofs.children.by_children.Goals as goal

pub loop-place-init : goal.loop-place-init
loop-place-init c = record {
  grows = c.in_ok-found.ensures.grows;
  found = c.in_ok-found.ensures.found;
  lacking = c.in_ok-found.ensures.told;
  told = λ k lt. absurd (omega (arith, lt));
}

pub add_by_children-requires-clause-growing : goal.add_by_children-requires-clause-growing
add_by_children-requires-clause-growing c = growing_stays c.args.types.now c.args.growing.now c.requires.growing c.loop-place.types c.loop-place.invariant.grows

pub add_by_children-requires-clause-rows : goal.add_by_children-requires-clause-rows
add_by_children-requires-clause-rows c = λ r m.
    let g = c.args.growing.now in
    let us = c.args_at-args.result.now in
    let k = c.loop-place.place in
    let args_are = c.args_at-args.ensures ∙ ap (λ (p : ProblemData). (point_at p.points c.args.point).args) c.problem-2.ensures in
    let there : Contains (list_of g.rows (get_or us k 0)) r = subst (λ (z : List RowData). Contains z r) c.rows_at-rows.ensures m in
    let taken = c.requires.growing.taken (get_or us k 0) r there in (
      taken.1,
      subst (λ (xs : List ℕ). slice_get xs k ≡ Some r.point) args_are (slice_get-get_or us k 0 c.loop-place-test.true ∙ ap (λ z. Some z) (sym taken.0)),
    )

pub loop-place-preserved : goal.loop-place-preserved
loop-place-preserved c =
    let g = c.args.growing.now in
    let p = g.problem in
    let I = c.args.types.now in
    let L = c.loop-place.types in
    let J = c.add_by_children.new.types in
    let point = c.args.point in
    let a = c.args.terminal in
    let h = c.loop-place.invariant in
    let old = c.loop-place.found.items in
    let new = c.add_by_children.new.found.items in
    let more = c.in_ok-add_by_children.ensures.keeps in
    let us = c.args_at-args.result.now in
    let k = c.loop-place.place in
    let args_are = c.args_at-args.ensures ∙ ap (λ (q : ProblemData). (point_at q.points point).args) c.problem-2.ensures in
    record {
      grows = Grows-trans I L J h.grows c.in_ok-add_by_children.ensures.grows;
      found = c.in_ok-add_by_children.ensures.found;
      lacking = λ q lt. lacking_stays p point a L J old new more q (h.lacking q lt);
      told = one_more (λ i. (row : RowData) → Contains (list_of g.rows (get_or (point_at p.points point).args i 0)) row → HasByRow p I J new point a i row) k
          (λ i lt row m. by_row_stays p point a I L J old new more i row (h.told i lt row m))
          (λ row m. by_row_later g I L h.grows c.requires.growing point a new k (get_or (point_at p.points point).args k 0) row m J
          (c.in_ok-add_by_children.ensures.told row (subst (λ (z : List RowData). Contains z row) (sym c.rows_at-rows.ensures) (subst (λ (xs : List ℕ). Contains (list_of g.rows (get_or xs k 0)) row) (sym args_are) m))));
    }

pub returns-clause-found : goal.returns-clause-found
returns-clause-found c =
    let g = c.args.growing.now in
    let p = g.problem in
    let I = c.args.types.now in
    let K = c.loop-place.types in
    let point = c.args.point in
    let a = c.args.terminal in
    let h = c.loop-place.invariant in
    let found = c.loop-place.found.items in
    let given : IsSortedProblem p = subst (λ (q : ProblemData). IsSortedProblem q) c.problem.ensures c.know_sorted_problem.ensures in
    let args_are = c.args_at-args.ensures ∙ ap (λ (q : ProblemData). (point_at q.points point).args) c.problem-2.ensures in
    let past = c.loop-place-test.false in
    let long = ap (λ (xs : List ℕ). length xs) args_are in
    record {
      all = h.found;
      covered = λ C of_rows. covered_at_terminal p given K g found point a c.requires.head c.requires.full (own_point p point c.requires.point) h.lacking
          (λ k lt row m. by_row_now g I K h.grows c.requires.growing point a found k (get_or (point_at p.points point).args k 0) row m (h.told k (omega (arith, lt, past, long)) row m)) C of_rows;
    }
