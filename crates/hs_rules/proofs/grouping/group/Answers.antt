use Rattle.std.proofs.lemmas.List.Sorted.{IsPermutation-refl}
use Rattle.hs_rules.proofs.grouping.group.Goals as goal

pub returns-then-few : goal.returns-then-few
returns-then-few c = IsPermutation-refl c.args.heads.now

pub returns : goal.returns
returns c = c.sort_unstable_by.ensures.permutation
