use Rattle.hs_rules.proofs.JoinLemmas.{among_first, seen_there}
use Rattle.hs_rules.proofs.joining.has.Goals as goal

pub returns-then-is_among : goal.returns-then-is_among
returns-then-is_among c = among_first 8 c.as_slice-list.result.now c.args.out.now.list.items c.args.env c.is_among-2.result c.as_slice-list.ensures c.is_among-2.ensures

pub returns-else-is_among : goal.returns-else-is_among
returns-else-is_among c = seen_there c.args.out.now.seen.keys c.args.out.now.list.items c.args.env c.contains.result c.requires c.contains.ensures
