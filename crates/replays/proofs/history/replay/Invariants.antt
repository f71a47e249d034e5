use Rattle.std.proofs.Common.{◌≡◌, map, length, take}
use Rattle.replays.proofs.Pasts.{Led}
use Rattle.replays.proofs.history.replay.Given as goal
use Rattle.stages.specs.Stages.{order_of}

abbrev pub invariant-loop-step : goal.invariant-loop-step
invariant-loop-step g l =
    let measure = g.V.Measure in
    let kind = g.K.ProductKind in
    Led measure.semiring measure.meaning kind.cut kind.meaning (length l.initial.work) l.initial.stage (take l.step-index l.steps) l.stage
    × (map order_of l.steps ≡ map order_of l.initial.steps)
