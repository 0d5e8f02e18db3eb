use Rattle.std.proofs.Common.{sym, subst, ◌≤◌, List, length, arith}
use Rattle.hs_reads.specs.Becomings.{AnyBecoming}
use Rattle.hs_reads.proofs.BecomingLemmas.{first_known, none_short}
use Rattle.hs_reads.proofs.becoming.find.Goals as goal

pub returns-in_err-add_terminals-clause-known : goal.returns-in_err-add_terminals-clause-known
returns-in_err-add_terminals-clause-known c = first_known c.args.problem.now c.args.found.now.keys c.add_terminals.new.found.keys c.requires c.add_terminals.ensures.only

pub returns-in_err-lists-clause-known : goal.returns-in_err-lists-clause-known
returns-in_err-lists-clause-known c = first_known c.args.problem.now c.args.found.now.keys c.add_terminals.new.found.keys c.requires c.add_terminals.ensures.only

pub spread-requires-clause-few : goal.spread-requires-clause-few
spread-requires-clause-few c = c.in_ok-add_terminals.ensures.grows.few (subst (λ (bs : List AnyBecoming). length bs ≤ 4000000) (sym c.requires) (omega arith))

pub spread-requires-clause-known : goal.spread-requires-clause-known
spread-requires-clause-known c = first_known c.args.problem.now c.args.found.now.keys c.add_terminals.new.found.keys c.requires c.add_terminals.ensures.only

pub spread-requires-clause-short : goal.spread-requires-clause-short
spread-requires-clause-short c = c.add_terminals.ensures.short (none_short c.args.found.now.keys c.requires)
