use Rattle.std.proofs.Common.{take}
use Rattle.hs_table_laws.proofs.Places.{place_of}
use Rattle.hs_table_laws.proofs.Shapes.{follows_shape}
use Rattle.hs_table_laws.proofs.laws.what_follows_is_in_shape.Goals as goal

pub returns : goal.returns
returns c = record {
  shape = λ p E h e f. follows_shape p E h.to e f;
  table = λ p T h s e there. let at = place_of T e there in follows_shape p (take at.0 T) h.to e (s.follows at.0 e at.1);
}
