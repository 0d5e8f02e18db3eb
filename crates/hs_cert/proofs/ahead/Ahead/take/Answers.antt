use Rattle.std.proofs.Common.{Some, None}
use Rattle.std.proofs.lemmas.Bool.Decides.{Decides-eqb}
use Rattle.std.proofs.lemmas.Slice.Eq.{strip_prefix_is}
use Rattle.hs_cert.proofs.ahead.Ahead.take.Goals as goal

pub returns-in-Some-clause-taken : goal.returns-in-Some-clause-taken
returns-in-Some-clause-taken c = λ yes. strip_prefix_is Decides-eqb c.args.self.now.bytes.now c.args.text.now (Some c.in-Some.rest) c.in-Some.ensures.cases

pub returns-in-None-clause-differs : goal.returns-in-None-clause-differs
returns-in-None-clause-differs c = λ no. strip_prefix_is Decides-eqb c.args.self.now.bytes.now c.args.text.now None c.in-None.ensures.cases
