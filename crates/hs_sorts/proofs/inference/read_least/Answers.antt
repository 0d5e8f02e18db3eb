use Rattle.hs_sorts.proofs.Inferring.{higher_found, large_found, long_found, counted_small, measures_many, is_least}
use Rattle.hs_sorts.proofs.inference.read_least.Goals as goal

pub returns-in-Some-clause-fault : goal.returns-in-Some-clause-fault
returns-in-Some-clause-fault c =
    higher_found c.args.rules.now c.args.ranks.now c.requires.rules c.args.found.now c.requires.found c.in-Some.terminal
    c.in-Some.ensures

pub returns-in-Some-first_large-clause-fault : goal.returns-in-Some-first_large-clause-fault
returns-in-Some-first_large-clause-fault c =
    large_found c.args.rules.now c.args.ranks.now c.requires.rules c.args.found.now c.requires.found c.in-Some-first_large.rule
    c.in_default.ensures
    c.in-Some-first_large.ensures

pub first_too_long-requires-clause-many : goal.first_too_long-requires-clause-many
first_too_long-requires-clause-many c =
    measures_many c.args.rules.now c.args.ranks.now c.requires.rules c.args.found.now c.requires.found

pub returns-in-Some-first_too_long-clause-fault : goal.returns-in-Some-first_too_long-clause-fault
returns-in-Some-first_too_long-clause-fault c =
    long_found c.args.rules.now c.args.ranks.now c.requires.rules c.args.found.now c.requires.found
    c.in_default.ensures
    c.in_default-first_large.ensures
    c.in-Some-first_too_long.rule
    c.in-Some-first_too_long.ensures

pub read_sorts-requires-clause-small : goal.read_sorts-requires-clause-small
read_sorts-requires-clause-small c =
    counted_small c.args.rules.now c.args.ranks.now c.requires.rules c.args.found.now c.requires.found
    c.in_default.ensures
    c.in_default-first_large.ensures

pub returns-clause-ok : goal.returns-clause-ok
returns-clause-ok c =
    is_least c.args.rules.now c.args.ranks.now c.requires.rules c.args.found.now c.requires.found
    c.in_default.ensures
    c.in_default-first_large.ensures
    c.in_default-first_too_long.ensures
    c.in_ok-sorts.sorts.items c.in_ok-ranks.ranks.items
    c.in_ok-sorts.ensures
    c.in_ok-ranks.ensures
