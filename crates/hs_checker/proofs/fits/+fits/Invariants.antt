use Rattle.std.proofs.Common.{length}
use Rattle.hs_checker.proofs.fits.+fits.Given as goal

abbrev pub decreases-fits : goal.decreases-fits
decreases-fits l = length l.args.now
