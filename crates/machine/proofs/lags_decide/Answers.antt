-- Equal lags, equal endings; and the other way round.
use Rattle.machine.proofs.Lags.{lag_same, lag_only, lag_more}
use Rattle.machine.proofs.lags_decide.Goals as goal

pub returns : goal.returns
returns c = record { same = lag_same; only = lag_only; more = lag_more }
