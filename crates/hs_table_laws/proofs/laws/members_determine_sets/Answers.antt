use Rattle.hs_table.specs.Entries.{entry_cmp}
use Rattle.hs_table_laws.proofs.Orders.{entry_cmp_total, entry_same}
use Rattle.hs_table_laws.proofs.Sets.{sets_same, envs_same, ascending_same, set_of, set_of-IsSet, set_of-Contains}
use Rattle.hs_table_laws.proofs.laws.members_determine_sets.Goals as goal

pub returns : goal.returns
returns c = record {
  sets = sets_same;
  envs = envs_same;
  entries = ascending_same entry_cmp entry_cmp_total entry_same;
  each_has_one = λ xs. (set_of xs, (set_of-IsSet xs, set_of-Contains xs));
}
