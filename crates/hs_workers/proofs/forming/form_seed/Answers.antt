use Rattle.std.proofs.Common.{subst}
use Rattle.hs_workers.specs.Forming.{KeepsNew}
use Rattle.hs_workers.proofs.FormingLemmas.{seed_formed}
use Rattle.hs_workers.proofs.forming.form_seed.Goals as goal

pub returns-clause-found : goal.returns-clause-found
returns-clause-found c =
    let ids = c.seed_conclusions.new.replica.ids in
    let log = c.seed_conclusions.new.replica.log in
    seed_formed c.args.problem.now ids log c.args.point c.in_ok-formed.formed.items c.keep_new.new.found.items c.in_ok-formed.ensures.found
    (subst (λ xs. KeepsNew ids log c.in_ok-formed.formed.items xs c.keep_new.new.found.items) c.new-found.ensures.items c.in_ok-keep_new.ensures)
