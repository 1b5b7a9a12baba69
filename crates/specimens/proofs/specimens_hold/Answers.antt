use Rattle.specimens.proofs.Cases.{all_hold_lem, specimens}
use Rattle.specimens.proofs.specimens_hold.Goals as goal

pub returns : goal.returns
returns c = record { computed = all_hold_lem; stated = specimens }
