use Rattle.std.proofs.Common.{sym, ◌∙◌, ap, subst, ℕ, ◌<◌, length, Contains}
use Rattle.std.proofs.lemmas.Result.{IfOk-weaker, IfErr-weaker, on_ok_weaker}
use Rattle.std.proofs.lemmas.List.Elements.{All-contains, All-contains_itself, All-weaker}
use Rattle.hs_scheme.specs.Problem.{ProblemData}
use Rattle.hs_table.specs.Entries.{InShape}
use Rattle.hs_table_laws.proofs.Members.{into_map}
use Rattle.hs_table_laws.proofs.Places.{within_from}
use Rattle.hs_types.specs.Interned.{IsRow, entry_of}
use Rattle.hs_checker.specs.Numbers.{entries_of}
use Rattle.hs_checker.specs.Checked.{IsCount, IsFlaw}
use Rattle.hs_checker.proofs.EnvLemmas.{map_same}
use Rattle.hs_checker.proofs.CountLemmas.{closed_whole, count_whole}
use Rattle.hs_checker.proofs.FlawLemmas.{flaw_whole, same_shaped}
use Rattle.hs_checker.proofs.checking.check_closed.Goals as goal

pub of-requires : goal.of-requires
of-requires c = λ r k.
    let shape : InShape c.args.problem.now (entry_of c.args.types.now r) = c.requires.shape (entry_of c.args.types.now r) (into_map (entry_of c.args.types.now) c.args.rows.now r k) in
    let count = c.count.ensures.points ∙ ap (λ (q : ProblemData). length q.points.points) c.problem.view_is in
    subst (λ (n : ℕ). r.point < n) (sym count) (within_from c.args.problem.now.points.points r.point shape.of shape.at)

pub check_index-checked-requires-clause-rows : goal.check_index-checked-requires-clause-rows
check_index-checked-requires-clause-rows c =
    let I = c.args.types.now in
    All-weaker (Contains c.in_ok-index.index) (IsRow I) (λ r k. All-contains (IsRow I) c.args.rows.now r c.requires.rows ((c.in_ok-index.ensures r).0 k)) c.in_ok-index.index (All-contains_itself c.in_ok-index.index)

pub check_index-checked-requires-clause-shape : goal.check_index-checked-requires-clause-shape
check_index-checked-requires-clause-shape c = λ e k. c.requires.shape e ((map_same (entry_of c.args.types.now) c.in_ok-index.index c.args.rows.now c.in_ok-index.ensures e).0 k)

pub returns-clause-closed : goal.returns-clause-closed
returns-clause-closed c =
    let I = c.args.types.now in
    let p = c.args.problem.now in
    let idx = c.in_ok-index.index in
    let T = entries_of I c.args.rows.now in
    let exact = same_shaped p (entries_of I idx) T (map_same (entry_of I) idx c.args.rows.now c.in_ok-index.ensures) c.requires.shape in
    on_ok_weaker c.check_index-checked.result (λ closed. closed_whole p (entries_of I idx) T exact closed) c.check_index-checked.ensures.closed

pub returns-clause-count : goal.returns-clause-count
returns-clause-count c =
    let I = c.args.types.now in
    let p = c.args.problem.now in
    let idx = c.in_ok-index.index in
    let T = entries_of I c.args.rows.now in
    let exact = same_shaped p (entries_of I idx) T (map_same (entry_of I) idx c.args.rows.now c.in_ok-index.ensures) c.requires.shape in
    IfOk-weaker c.check_index-checked.result (IsCount p (entries_of I idx)) (IsCount p T) (λ n h. count_whole p (entries_of I idx) T exact n h) c.check_index-checked.ensures.count

pub returns-clause-flaw : goal.returns-clause-flaw
returns-clause-flaw c =
    let I = c.args.types.now in
    let p = c.args.problem.now in
    let idx = c.in_ok-index.index in
    let T = entries_of I c.args.rows.now in
    let exact = same_shaped p (entries_of I idx) T (map_same (entry_of I) idx c.args.rows.now c.in_ok-index.ensures) c.requires.shape in
    IfErr-weaker c.check_index-checked.result (IsFlaw p (entries_of I idx)) (IsFlaw p T) (λ fault h. flaw_whole p (entries_of I idx) T fault exact c.know_sorted_problem.ensures.automaton h) c.check_index-checked.ensures.flaw
