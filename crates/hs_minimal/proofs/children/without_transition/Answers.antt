use Rattle.std.proofs.Common.{◌≡◌, sym, ◌∙◌, ap, subst, ◌<◌, [], length, replicate, None, arith}
use Rattle.std.proofs.lemmas.Option.{slice_get_within, get_or_from_slice_get}
use Rattle.hs_scheme.specs.acceptance.Automaton.{next}
use Rattle.hs_scheme.specs.flow.Points.{point_at}
use Rattle.hs_scheme.specs.Problem.{ProblemData}
use Rattle.hs_table.specs.Types.{state}
use Rattle.hs_table.specs.Entries.{Env, params_of}
use Rattle.hs_verdict.specs.Premises.{IsSortedProblem}
use Rattle.hs_weak.proofs.ComparingLemmas.{one_more}
use Rattle.hs_types.specs.Interned.{RowData, env_of_id}
use Rattle.hs_types.proofs.Numbers.{Grows-trans, env_stays, env_within}
use Rattle.hs_minimal.specs.Following.{HasLacking, KeepsEntries}
use Rattle.hs_minimal.proofs.GrowingLemmas.{growing_stays}
use Rattle.hs_minimal.proofs.ChildLemmas.{none_at, one_at, lacking_row, lacking_entry}
use Rattle.hs_minimal.proofs.CompleteLemmas.{entry_stays, entry_there, entry_pushed, lacking_stays}
use Rattle.hs_minimal.proofs.children.without_transition.Goals as goal

pub loop-state-init : goal.loop-state-init
loop-state-init c =
    let g = c.args.growing.now in
    let I = c.args.types.now in
    let M = c.empty_env.new.self in
    let n = c.parameters.result in
    let none : Env = replicate n [] in
    let same = c.problem-problem.ensures in
    let given : IsSortedProblem g.problem = subst (λ (p : ProblemData). IsSortedProblem p) same c.know_sorted_problem.ensures in
    let n_is : n ≡ params_of g.problem (point_at g.problem.points c.args.point).rule =
    subst (λ (p : ProblemData). n ≡ params_of p (point_at p.points c.args.point).rule) same (c.parameters.ensures ∙ ap (λ r. params_of c.problem-problem.result.now r) c.rule_at.ensures) in
    record {
      grows = c.empty_env.ensures.grows;
      env_in = slice_get_within M.envs c.in_ok-env.env none c.in_ok-env.ensures.ok;
      env = get_or_from_slice_get M.envs c.in_ok-env.env none [] c.in_ok-env.ensures.ok ∙ ap (λ k. replicate k []) n_is;
      found = none_at g given M (growing_stays I g c.requires.growing M c.empty_env.ensures.grows) c.args.point c.new-found.result.items c.new-found.ensures.items;
      told = λ q lt. absurd (omega (arith, lt));
    }

pub loop-state-preserved-then-has_transition : goal.loop-state-preserved-then-has_transition
loop-state-preserved-then-has_transition c =
    let g = c.args.growing.now in
    let h = c.loop-state.invariant in
    let ts = g.problem.sorted.automaton.transitions in
    record {
      grows = h.grows;
      env_in = h.env_in;
      env = h.env;
      found = h.found;
      told = one_more (λ q. HasLacking g.problem c.loop-state.types c.loop-state.found.items c.args.point c.args.terminal q) c.loop-state.state h.told
          (λ none. absurd (c.has_transition.ensures.some c.if-has_transition.true (subst (λ (p : ProblemData). next p.sorted.automaton.transitions c.loop-state.state c.args.terminal ≡ None) (sym c.problem-problem.ensures) none)));
    }

pub loop-state-preserved : goal.loop-state-preserved
loop-state-preserved c =
    let g = c.args.growing.now in
    let I = c.args.types.now in
    let L = c.loop-state.types in
    let J = c.base.new.self in
    let h = c.loop-state.invariant in
    let point = c.args.point in
    let a = c.args.terminal in
    let q = c.loop-state.state in
    let env = c.in_ok-env.env in
    let ty = c.in_ok-ty.ty in
    let grows = c.in_ok-ty.ensures.grows in
    let same = c.problem-problem.ensures in
    let given : IsSortedProblem g.problem = subst (λ (p : ProblemData). IsSortedProblem p) same c.know_sorted_problem.ensures in
    let own : RowData = record { point = point; env = env; ty = ty } in
    let old = c.loop-state.found.items in
    let new = c.push.new.self.items in
    let pushed = c.in_ok-push.ensures.items in
    let n = params_of g.problem (point_at g.problem.points point).rule in
    let env_in : env < length J.envs = env_within L J grows env h.env_in in
    let env_is : env_of_id J env ≡ replicate n [] = env_stays L J grows env h.env_in ∙ h.env in
    let within : q < g.problem.sorted.automaton.states = subst (λ (p : ProblemData). q < p.sorted.automaton.states) same (subst (λ k. q < k) c.states-state-end.ensures c.loop-state-test.true) in
    let none : next g.problem.sorted.automaton.transitions q a ≡ None = subst (λ (p : ProblemData). next p.sorted.automaton.transitions q a ≡ None) same (c.has_transition.ensures.none c.if-has_transition.false) in
    let row = lacking_row g J point c.requires.point a q c.requires.head c.requires.full within none env ty env_in env_is c.in_ok-ty.ensures.ok in
    let more : KeepsEntries L J old new = λ e m. entry_there J old new own pushed e (entry_stays L J grows old e m) in
    record {
      grows = Grows-trans I L J h.grows grows;
      env_in = env_in;
      env = env_is;
      found = one_at g given L (growing_stays I g c.requires.growing L h.grows) point J grows own row old new pushed h.found;
      told = one_more (λ k. HasLacking g.problem J new point a k) q (λ k lt. lacking_stays g.problem point a L J old new more k (h.told k lt))
          (λ _. entry_pushed J old new own pushed row.in_use (record { point = point; env = replicate n []; ty = state q }) (lacking_entry J point q env ty (replicate n []) env_is c.in_ok-ty.ensures.ok));
    }

pub returns-clause-told : goal.returns-clause-told
returns-clause-told c = λ q lt.
    let g = c.args.growing.now in
    let past = c.loop-state-test.false in
    let states_is : c.states-state-end.result ≡ g.problem.sorted.automaton.states = c.states-state-end.ensures ∙ ap (λ (p : ProblemData). p.sorted.automaton.states) c.problem-problem.ensures in
    c.loop-state.invariant.told q (omega (arith, lt, past, states_is))
