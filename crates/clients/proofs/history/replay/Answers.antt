use Rattle.std.proofs.Common.{◌≡◌, ℕ, [], ◌∷◌, ◌++◌, length, vec_items, sym, ap, ◌∙◌, subst, arith, length-append, of_calls}
use Rattle.std.specs.Fn.{CalledAt}
use Rattle.clients.specs.Asked.{Asking, nothing, one_more}
use Rattle.clients.proofs.history.replay.Goals as goal
use Rattle.replays.proofs.Pasts.{led_nowhere, led_on, led_replayed}
use Rattle.stages.specs.Asks.{next, telling}
use Rattle.stages.specs.Stages.{ask_of, book_of}
use Rattle.stages.specs.declared.stage.HistoryStep.{HistoryStep}

pub loop-init : goal.loop-init
loop-init g c =
    let client = c.args.client.now in (
      c.requires,
      led_nowhere c.clear.ensures.items,
      subst (λ xs. Asking (CalledAt g.C.FnMut) client xs client) (sym c.clear.ensures.items) nothing,
      omega arith,
      omega arith,
    )

pub loop-preserved : goal.loop-preserved
loop-preserved g c =
    let measure = g.V.Measure in
    let kind = g.K.ProductKind in
    let l = c.loop in
    let order = c.in-Some.order in
    let taken = c.step-taken in
    let step : HistoryStep g.row.V.Denot = record { order = order; report = taken.result.report } in
    let before = book_of kind.meaning l.stage in
    let items = vec_items l.steps in
    let more : vec_items c.record.new.steps ≡ items ++ (step ∷ []) = c.record.ensures.items ∙ ap (λ xs. xs ++ (step ∷ [])) c.reserve.ensures.items in
    let asked : CalledAt g.C.FnMut l.client items c.client.result c.client.new.self = record {
      shown = c.as_slice.result;
      shows = c.as_slice.ensures.value ∙ c.reserve.ensures.items;
      called = c.client.ensures;
    } in (
      search of_calls,
      led_on step l.invariant.1 more
          (taken.ensures.next ∙ ap (λ (n : ℕ). next kind.cut before (ask_of n order)) l.auto.work)
          (taken.ensures.report ∙ ap (λ (n : ℕ). telling measure.semiring measure.meaning kind.cut before (ask_of n order)) l.auto.work)
          taken.ensures.spared taken.ensures.through,
      subst (λ xs. Asking (CalledAt g.C.FnMut) c.args.client.now xs c.client.new.self) (sym more)
          (one_more step l.invariant.2 (subst (λ r. CalledAt g.C.FnMut l.client items r c.client.new.self) c.in-Some.is asked)),
      omega (arith, c.record.ensures.capacity, c.reserve.ensures.capacity, l.invariant.3),
      omega (arith, ap length more ∙ length-append items (step ∷ []), l.invariant.4),
    )

pub returns-in_default-clause-replayed : goal.returns-in_default-clause-replayed
returns-in_default-clause-replayed g c =
    led_replayed g.met.K.ProductKind.lawful g.met.V.Measure.lawful c.args.parts.limit c.new.ensures.made c.new.ensures.space c.reserve.ensures.items c.loop.invariant.1

pub returns-in_default-client-clause-replayed : goal.returns-in_default-client-clause-replayed
returns-in_default-client-clause-replayed g c =
    led_replayed g.met.K.ProductKind.lawful g.met.V.Measure.lawful c.args.parts.limit c.new.ensures.made c.new.ensures.space c.reserve.ensures.items c.loop.invariant.1
