use Rattle.std.proofs.Common.{sym, refl}
use Rattle.hs_certificate_checker.proofs.FlawLemmas.{stand_so}
use Rattle.hs_certificate_checker.proofs.rows.check_rows.Goals as goal

pub check_voids-requires-clause-fits : goal.check_voids-requires-clause-fits
check_voids-requires-clause-fits c = c.in_ok-voids.ensures.fits c.requires.entries c.requires.pairs c.args.types.now c.requires.are

pub check_voids-requires-clause-problem : goal.check_voids-requires-clause-problem
check_voids-requires-clause-problem c = sym c.in_ok-voids.ensures.problem

pub check_voids-requires-clause-table : goal.check_voids-requires-clause-table
check_voids-requires-clause-table c = sym c.in_ok-voids.ensures.table

pub returns-clause-whole : goal.returns-clause-whole
returns-clause-whole c = λ C V are. c.check_voids.ensures.whole C V
    (stand_so c.args.problem.now _ c.args.types.now c.args.types.now c.args.table.now _ c.args.void.now _ c.in_ok-voids.ensures.problem refl c.in_ok-voids.ensures.table c.in_ok-voids.ensures.void C V are)

pub returns-clause-flaw : goal.returns-clause-flaw
returns-clause-flaw c = λ C V are. c.check_voids.ensures.flaw C V
    (stand_so c.args.problem.now _ c.args.types.now c.args.types.now c.args.table.now _ c.args.void.now _ c.in_ok-voids.ensures.problem refl c.in_ok-voids.ensures.table c.in_ok-voids.ensures.void C V are)
