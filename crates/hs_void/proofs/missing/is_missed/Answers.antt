use Rattle.std.proofs.Common.{◌≡◌, sym, subst, length, false, true, IsTrue, ◌≤◌, ◌↔◌, arith}
use Rattle.std.proofs.lemmas.Result.{IfOk-weaker}
use Rattle.hs_scheme.specs.Problem.{ProblemData}
use Rattle.hs_types.specs.Interned.{env_of_id}
use Rattle.hs_sites.specs.Listed.{AreSitesOf}
use Rattle.hs_sites.specs.Walks.{EachChainHas, IsMarked}
use Rattle.hs_void.specs.Rows.{MissesByRows}
use Rattle.hs_void.proofs.Marked.{no_rule, chains_by}
use Rattle.hs_void.proofs.missing.is_missed.Goals as goal

pub returns-in-None-clause-ok : goal.returns-in-None-clause-ok
returns-in-None-clause-ok c =
    let I = c.args.types.now in
    let b = c.args.basis.now in
    let past : length b.problem.sorted.scheme.rules ≤ c.args.rule = omega (arith, c.in-None.ensures, c.requires.sites.rules) in (
      λ no. let f : false ≡ true = no in cc,
      λ each. absurd (no_rule b.problem c.args.rule past (MissesByRows b.problem I b.table (env_of_id I c.args.env)) each),
    )

pub marks_for-requires-clause-of : goal.marks_for-requires-clause-of
marks_for-requires-clause-of c = c.requires.sites.each c.args.rule c.in-Some.sites.now c.in-Some.ensures

pub each_chain_has_marked-requires : goal.each_chain_has_marked-requires
each_chain_has_marked-requires c =
    subst (λ (p : ProblemData). AreSitesOf p c.args.rule c.in-Some.sites.now) (sym c.problem.ensures) (c.requires.sites.each c.args.rule c.in-Some.sites.now c.in-Some.ensures)

pub returns-in_ok-marks-in-Some-clause-ok : goal.returns-in_ok-marks-in-Some-clause-ok
returns-in_ok-marks-in-Some-clause-ok c =
    let I = c.args.types.now in
    let b = c.args.basis.now in
    let sites = c.in-Some.sites.now in
    let P = MissesByRows b.problem I b.table (env_of_id I c.args.env) in
    IfOk-weaker c.each_chain_has_marked.result (λ all. IsTrue all ↔ EachChainHas c.problem.result.now c.args.rule (IsMarked c.args.rule sites c.as_slice.result.now)) _
    (λ all tells. chains_by b.problem c.problem.result.now c.problem.ensures c.args.rule sites (c.requires.sites.each c.args.rule sites c.in-Some.ensures) P c.in_ok-marks-in-Some.marks.items c.as_slice.result.now c.in_ok-marks-in-Some.ensures.marks c.as_slice.ensures.value all tells)
    c.each_chain_has_marked.ensures
