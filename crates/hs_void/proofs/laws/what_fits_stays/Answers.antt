use Rattle.hs_void.specs.Dropped.{fits_stays}
use Rattle.hs_void.proofs.laws.what_fits_stays.Goals as goal

pub returns : goal.returns
returns c = λ I J v. fits_stays v I J
