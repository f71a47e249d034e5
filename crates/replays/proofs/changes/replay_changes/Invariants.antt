use Rattle.std.proofs.Common.{◌≡◌, map, length, take}
use Rattle.replays.proofs.Changing.{Changed}
use Rattle.replays.proofs.changes.replay_changes.Given as goal
use Rattle.replays.specs.Changes.{order_of}

abbrev pub invariant-loop-step : goal.invariant-loop-step
invariant-loop-step g l =
    let kind = g.K.ProductKind in
    Changed kind.cut kind.meaning (length l.initial.work) l.initial.stage (take l.step-index l.steps) l.stage
    × (map order_of l.steps ≡ map order_of l.initial.steps)
