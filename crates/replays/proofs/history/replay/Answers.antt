use Rattle.std.proofs.Common.{ℕ, ◌<◌, map, length, get_or, set, sym, ap, ◌∙◌, arith}
use Rattle.std.proofs.lemmas.List.{get_or-map, set-get_or, map-set, take_more_set, take_all}
use Rattle.replays.proofs.Calls.{calls_agree}
use Rattle.replays.proofs.Pasts.{led_on, led_replayed}
use Rattle.replays.proofs.history.replay.Goals as goal
use Rattle.stages.specs.Asks.{next, telling}
use Rattle.stages.specs.Stages.{ask_of, book_of, order_of}
use Rattle.stages.specs.declared.stage.HistoryStep.{HistoryStep}

pub loop-step-preserved : goal.loop-step-preserved
loop-step-preserved g c =
    let measure = g.V.Measure in
    let kind = g.K.ProductKind in
    let l = c.loop-step in
    let i = l.step-index in
    let taken = c.step-taken in
    let item = get_or l.steps i c.step-item.result in
    let made : HistoryStep g.row.V.Denot = record { order = item.order; report = taken.result.report } in
    let here : i < length l.steps = omega (arith, l.auto.steps, c.loop-step-test.true) in
    let before = book_of kind.meaning l.stage in (
      led_on made l.invariant.0 (take_more_set l.steps i made here)
          (taken.ensures.next ∙ ap (λ (n : ℕ). next kind.cut before (ask_of n item.order)) l.auto.work)
          (taken.ensures.report ∙ ap (λ (n : ℕ). telling measure.semiring measure.meaning kind.cut before (ask_of n item.order)) l.auto.work)
          taken.ensures.spared taken.ensures.through,
      map-set order_of l.steps i made ∙ ap (set (map order_of l.steps) i) (sym (get_or-map order_of l.steps i c.step-item.result item.order here))
          ∙ set-get_or (map order_of l.steps) i item.order ∙ l.invariant.1,
    )

pub returns : goal.returns
returns g c =
    let l = c.loop-step in
    let new = c.new.ensures in
    let all = take_all l.step-index l.steps (omega (arith, l.auto.steps, c.loop-step-test.false)) in
    record {
      replayed = led_replayed g.met.K.ProductKind.lawful g.met.V.Measure.lawful c.args.parts.limit new.made new.space (sym all) l.invariant.0;
      orders = l.invariant.1;
      calls = calls_agree g.V.Measure.semiring g.V.Measure.meaning g.K.ProductKind.cut;
      through = l.invariant.0.through ∙ new.through;
    }
