use Rattle.std.proofs.Common.{◌≤◌, length, vec_items, vec_capacity}
use Rattle.std.specs.Fn.{CalledAt}
use Rattle.clients.specs.Asked.{Asking}
use Rattle.clients.proofs.history.replay.Given as goal
use Rattle.replays.proofs.Pasts.{Led}

abbrev pub invariant-loop : goal.invariant-loop
invariant-loop g l =
    let measure = g.V.Measure in
    let kind = g.K.ProductKind in
    goal.C-IsAlwaysCallable g l.client
    × Led measure.semiring measure.meaning kind.cut kind.meaning (length l.initial.work) l.initial.stage (vec_items l.steps) l.stage
    × Asking (CalledAt g.C.FnMut) l.initial.client (vec_items l.steps) l.client
    × (vec_capacity l.initial.steps ≤ vec_capacity l.steps)
    × (l.counter ≤ length (vec_items l.steps))
