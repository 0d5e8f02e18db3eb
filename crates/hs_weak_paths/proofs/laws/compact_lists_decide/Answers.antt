use Rattle.hs_weak_paths.proofs.Deciding.{compact_decides, compact_has_start}
use Rattle.hs_weak_paths.proofs.laws.compact_lists_decide.Goals as goal

pub returns : goal.returns
returns c = record {
  accepts = λ p C known closed compact. compact_decides p known closed C compact;
  has_start = λ p C known closed compact. compact_has_start p known closed C compact;
}
