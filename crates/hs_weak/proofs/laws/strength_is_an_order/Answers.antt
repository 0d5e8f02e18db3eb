use Rattle.hs_weak.proofs.Strength.{strong_refl, strong_trans, env_refl, env_trans, covers_refl, covers_trans}
use Rattle.hs_weak.proofs.laws.strength_is_an_order.Goals as goal

pub returns : goal.returns
returns c = record { type_itself = strong_refl; types = strong_trans; env_itself = env_refl; envs = env_trans; entry_itself = covers_refl; entries = covers_trans }
