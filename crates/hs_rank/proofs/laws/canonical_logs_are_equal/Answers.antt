use Rattle.hs_rank.proofs.Rounds.{rank_same}
use Rattle.hs_rank.proofs.Places.{canonical_same, places_of_both, supports_same}
use Rattle.hs_rank.proofs.laws.canonical_logs_are_equal.Goals as goal

pub returns : goal.returns
returns c = record { rank = rank_same; log = canonical_same; places = places_of_both; supports = λ p T U ss rs points a b. supports_same p T U ss rs a b points }
