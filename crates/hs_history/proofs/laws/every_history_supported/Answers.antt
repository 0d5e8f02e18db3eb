use Rattle.hs_history.proofs.Sound.{least_at_rest}
use Rattle.hs_history.proofs.Histories.{holds_after}
use Rattle.hs_history.specs.History.{state_after}
use Rattle.hs_history.proofs.laws.every_history_supported.Goals as goal

pub returns : goal.returns
returns c = record {
  supported = λ base story legal. (holds_after base story legal).sound.supports;
  within = λ base story legal. (holds_after base story legal).sound.within;
  works = λ base story legal work. ((holds_after base story legal).sound.real work, (holds_after base story legal).sound.there work);
  just_once = λ base story legal. (holds_after base story legal).once;
  closed = λ base story legal. (holds_after base story legal).sound.closed;
  least = λ base story legal rest. least_at_rest base (state_after base story) (holds_after base story legal).sound rest;
  kept = λ base story legal. (holds_after base story legal).sound.kept;
}
