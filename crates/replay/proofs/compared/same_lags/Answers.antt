use Rattle.std.proofs.Common.{sym, ◌∙◌}
use Rattle.replay.specs.Replays.{lag_by}
use Rattle.replay.proofs.Fronts.{lag_same}
use Rattle.replay.proofs.compared.same_lags.Goals as goal

pub returns : goal.returns
unfolding lag_by
returns g c =
    let d = c.same_lag.ensures in
    let first = lag_same _ _ _ _ c.output-i.ensures.output c.output-j.ensures.output in
    let second = lag_same _ _ _ _ c.output-k.ensures.output c.output-l.ensures.output in
    (λ t. sym first ∙ d.0 t ∙ second, λ e. d.1 (first ∙ e ∙ sym second))
