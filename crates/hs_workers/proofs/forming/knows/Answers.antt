use Rattle.std.proofs.lemmas.Bool.{false≢true}
use Rattle.hs_scheme.proofs.Lists.{Contains-at}
use Rattle.hs_types.specs.Interned.{entry_of}
use Rattle.hs_workers.proofs.forming.knows.Goals as goal

pub find-requires : goal.find-requires
find-requires c = c.requires

pub returns-in-Some : goal.returns-in-Some
returns-in-Some c = λ yes. Contains-at c.args.replica.now.log c.in-Some._place (entry_of c.args.replica.now.ids c.args.row) c.in-Some.ensures.found

pub returns-in-None : goal.returns-in-None
returns-in-None c = λ yes. absurd (false≢true yes)
