use Rattle.std.proofs.Common.{sym, subst}
use Rattle.hs_scheme.specs.Problem.{ProblemData}
use Rattle.hs_void.specs.Voids.{AreSitesBy}
use Rattle.hs_void.proofs.Remembering.{fits_at_first, basis_of}
use Rattle.hs_void.proofs.voids.Voids.new.Goals as goal

pub returns-clause-fits : goal.returns-clause-fits
returns-clause-fits c = λ C V I are.
    let b = c.in_ok-basis.basis in
    let e = c.in_ok-basis.ensures in
    fits_at_first b c.new-2.result c.new-3.result c.new-2.ensures c.new-3.ensures (subst (λ (p : ProblemData). AreSitesBy p b.sites) (sym e.problem) e.sites) C V I
    (basis_of b c.args.problem.now c.args.table.now c.args.void.now e.problem e.table e.void C V I are)
