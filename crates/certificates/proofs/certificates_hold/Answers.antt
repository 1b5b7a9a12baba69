use Rattle.certificates.proofs.Certified.{equivalent}
use Rattle.certificates.proofs.Earliest.{earliest}
use Rattle.certificates.proofs.certificates_hold.Goals as goal

pub returns : goal.returns
returns c = record { equivalent = equivalent; earliest = earliest }
