use Rattle.std.proofs.Common.{◌≡◌, sym, ◌∙◌, ap, subst, ℕ, List, length}
use Rattle.hs_scheme.specs.flow.Points.{point_at}
use Rattle.hs_scheme.specs.Problem.{ProblemData}
use Rattle.hs_table.specs.Follows.{HasMove}
use Rattle.hs_certificate_checker.specs.Idle.{HaveNoRows}
use Rattle.hs_certificate_checker.proofs.idle.is_idle.Goals as goal

pub returns-then-have_no_rows : goal.returns-then-have_no_rows
returns-then-have_no_rows c = λ h.
    let p = c.args.problem.now in
    let w = c.args.point in
    let args : c.args_of-args.result.now ≡ (point_at p.points w).args = c.args_of-args.ensures.args ∙ ap (λ (z : ProblemData). (point_at z.points w).args) c.problem.view_is in
    record {
      terminal = c.in-Tm.terminal;
      head = sym (c.head_of.ensures.head ∙ ap (λ (z : ProblemData). (point_at z.points w).head) c.problem.view_is) ∙ c.in-Tm.is;
      bare = subst (λ (us : List ℕ). HaveNoRows c.args.table.now us) args (c.have_no_rows.ensures c.if-have_no_rows.true);
      moves = λ q m. subst (λ (us : List ℕ). HasMove p.sorted.automaton.transitions c.in-Tm.terminal (length us) q) args (c.moves_in_each.ensures h q ((c.states_at.ensures q).1 m));
    }
