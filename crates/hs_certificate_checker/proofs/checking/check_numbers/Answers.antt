use Rattle.std.proofs.Common.{sym, subst}
use Rattle.hs_types.specs.Interned.{InternerData}
use Rattle.hs_choices.specs.Numbered.{AreNumbered}
use Rattle.hs_certificate_checker.specs.Settled.{IsNumbered}
use Rattle.hs_certificate_checker.proofs.checking.check_numbers.Goals as goal

pub check_rows-checked-requires : goal.check_rows-checked-requires
check_rows-checked-requires c = subst (λ (I : InternerData). IsNumbered c.args.problem.now I c.args.table.now c.args.void.now) (sym c.new-types.ensures) c.requires

pub returns-clause-whole : goal.returns-clause-whole
returns-clause-whole c = λ C V are shapes.
    c.check_rows-checked.ensures.whole C V (subst (λ (I : InternerData). AreNumbered c.args.problem.now C V I c.args.table.now c.args.void.now) (sym c.new-types.ensures) are) shapes

pub returns-clause-flaw : goal.returns-clause-flaw
returns-clause-flaw c = λ C V are shapes.
    c.check_rows-checked.ensures.flaw C V (subst (λ (I : InternerData). AreNumbered c.args.problem.now C V I c.args.table.now c.args.void.now) (sym c.new-types.ensures) are) shapes
