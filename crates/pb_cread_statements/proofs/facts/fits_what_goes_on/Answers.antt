use Rattle.pb_cread_statements.proofs.Fitted as Fitted
use Rattle.pb_cread_statements.proofs.facts.fits_what_goes_on.Goals as goal

pub returns : goal.returns
returns c = Fitted.fits
