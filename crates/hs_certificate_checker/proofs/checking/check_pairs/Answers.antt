use Rattle.std.proofs.Common.{subst, sym, List}
use Rattle.hs_types.specs.Interned.{RowData}
use Rattle.hs_numbered.specs.Certificates.{VoidRowData}
use Rattle.hs_choices.specs.Numbered.{AreNumbered}
use Rattle.hs_certificate_checker.proofs.checking.check_pairs.Goals as goal

pub check_numbers-requires : goal.check_numbers-requires
check_numbers-requires c =
    let p = c.args.problem.now in
    let I = c.numbered.new.interner in
    let C = c.args.table.now in
    let V = c.args.void.now in
    record {
      entries = C;
      pairs = V;
      are = subst (λ (z : List RowData). AreNumbered p C V I z c.as_slice-pairs.result.now) (sym c.as_slice-rows.ensures.value)
          (subst (λ (z : List VoidRowData). AreNumbered p C V I c.in-Ok.numbers.table.items z) (sym c.as_slice-pairs.ensures.value) c.in-Ok.ensures);
    }

pub returns-in-Ok-clause-whole : goal.returns-in-Ok-clause-whole
returns-in-Ok-clause-whole c =
    let p = c.args.problem.now in
    let I = c.numbered.new.interner in
    let C = c.args.table.now in
    let V = c.args.void.now in
    let are = subst (λ (z : List RowData). AreNumbered p C V I z c.as_slice-pairs.result.now) (sym c.as_slice-rows.ensures.value)
    (subst (λ (z : List VoidRowData). AreNumbered p C V I c.in-Ok.numbers.table.items z) (sym c.as_slice-pairs.ensures.value) c.in-Ok.ensures) in
    c.check_numbers.ensures.whole C V are c.requires

pub returns-in-Ok-clause-flaw : goal.returns-in-Ok-clause-flaw
returns-in-Ok-clause-flaw c =
    let p = c.args.problem.now in
    let I = c.numbered.new.interner in
    let C = c.args.table.now in
    let V = c.args.void.now in
    let are = subst (λ (z : List RowData). AreNumbered p C V I z c.as_slice-pairs.result.now) (sym c.as_slice-rows.ensures.value)
    (subst (λ (z : List VoidRowData). AreNumbered p C V I c.in-Ok.numbers.table.items z) (sym c.as_slice-pairs.ensures.value) c.in-Ok.ensures) in
    c.check_numbers.ensures.flaw C V are c.requires
