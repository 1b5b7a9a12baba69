use Rattle.std.proofs.Common.{refl, arith}
use Rattle.join_ways.proofs.Splices.{splice_one}
use Rattle.join_ways.proofs.slice_vec.SliceVec.push.Goals as goal

pub returns-clause-wrote : goal.returns-clause-wrote
returns-clause-wrote g c = (refl, omega arith, splice_one _ _ _ (omega arith))
