use Rattle.std.proofs.Common.{◌≡◌, ℕ, ◌<◌, map, length, get_or, take, set, sym, ap, ◌∙◌, subst, ap₂, arith}
use Rattle.std.proofs.lemmas.List.{get_or-map, set-get_or, map-set, take_more_set, take_all}
use Rattle.books.specs.Held.{SparedSpace}
use Rattle.histories.specs.Runs.{making}
use Rattle.replays.proofs.Changing.{changed_on, sound_along}
use Rattle.replays.proofs.changes.replay_changes.Goals as goal
use Rattle.replays.specs.Calls.{asked}
use Rattle.replays.specs.Changes.{call_of, calls_of, order_of, answer_of, after, outcomes}
use Rattle.replays.specs.declared.changes.HistoryStep.{HistoryStep}
use Rattle.stages.specs.Stages.{space_of}

pub loop-step-preserved : goal.loop-step-preserved
loop-step-preserved g c =
    let l = c.loop-step in
    let i = l.step-index in
    let taken = c.step-taken in
    let item = get_or l.steps i c.step-item.result in
    let made : HistoryStep = record { order = item.order; outcome = c.of-step.result } in
    let here : i < length l.steps = omega (arith, l.auto.steps, c.loop-step-test.true) in (
      changed_on _ _ taken.result.report made l.invariant.0 (take_more_set l.steps i made here)
          (c.asked-order.ensures ∙ ap (λ (n : ℕ). asked (call_of n item.order)) l.auto.work)
          taken.ensures.next taken.ensures.report c.of-step.ensures taken.ensures.spared taken.ensures.through,
      map-set order_of l.steps i made ∙ ap (set (map order_of l.steps) i) (sym (get_or-map order_of l.steps i c.step-item.result item.order here))
          ∙ set-get_or (map order_of l.steps) i item.order ∙ l.invariant.1,
    )

pub returns : goal.returns
returns g c =
    let kind = g.K.ProductKind in
    let l = c.loop-step in
    let n = c.args.parts in
    let new = c.new.ensures in
    let places = length c.args.work.now in
    let start = making n.count (length c.args.slots.now) in
    let all = take_all l.step-index l.steps (omega (arith, l.auto.steps, c.loop-step-test.false)) in
    let calls : calls_of places (take l.step-index l.steps) ≡ calls_of places c.args.steps.now = ap (calls_of places) all ∙ ap (map (call_of places)) l.invariant.1 in
    record {
      book = l.invariant.0.book ∙ ap₂ (after kind.cut) new.made calls;
      answers = ap (map answer_of) (sym all) ∙ l.invariant.0.answers ∙ ap₂ (outcomes kind.cut) new.made calls;
      orders = l.invariant.1;
      law = sound_along g.met.K.ProductKind.lawful n.count (length c.args.slots.now) n.limit (calls_of places c.args.steps.now);
      spared = subst (λ a. SparedSpace a (space_of c.loop-step.stage)) new.space l.invariant.0.spared;
      through = l.invariant.0.through ∙ new.through;
    }
