use Rattle.amounts.proofs.Listing.{listing_grows}
use Rattle.amounts.proofs.Visits.{met_from_two}
use Rattle.amounts.proofs.lines_listed.Goals as goal

pub returns : goal.returns
returns c = record { listed = listing_grows; met = met_from_two }
