-- What a book comes to by changes alone: call by call, as what the calls ask leads.
use Rattle.std.proofs.Common.{◌≡◌, ℕ, ◌≤◌, Bool, true, false, cond, List, [], ◌∷◌, ◌++◌, map, take, Ok, Err, Result, sym, refl, ap, ◌∙◌, subst, ap₂}
use Rattle.books.proofs.Spaces.{spared_same, spared_on}
use Rattle.books.specs.Held.{SparedSpace}
use Rattle.histories.proofs.Keeping.{all_histories_hold}
use Rattle.histories.specs.Entry.{Book, Answer, answer}
use Rattle.histories.specs.Runs.{Call, enter, seal, reopen, making, made}
use Rattle.histories.specs.Sound.{Sound}
use Rattle.measures.specs.Semiring.{Semiring}
use Rattle.products.specs.Cutting.{Cut}
use Rattle.products.specs.Law.{KindLaws}
use Rattle.products.specs.Product.{Meaning}
use Rattle.products.specs.declared.kind.ProductKind.{Ghosts}
use Rattle.replays.proofs.Pasts.{after_past}
use Rattle.replays.specs.Along as along
use Rattle.replays.specs.Calls.{asked}
use Rattle.replays.specs.Changes.{call_of, calls_of, order_of, answer_of, next, outcome_of, answered, after, outcomes, SoundAlong, outcome_told}
use Rattle.replays.specs.declared.changes.HistoryStep.{HistoryStep}
use Rattle.replays.specs.declared.changes.Outcome.{Outcome}
use Rattle.replays.specs.declared.changes.Outcome.TheVariants.{Taken, Refused, NotAllowed}
use Rattle.stages.specs.Asks as asks
use Rattle.stages.specs.Asks.{Ask, Told, taken, gives, refused, not_allowed, answer_told, telling}
use Rattle.stages.specs.Stages.{told_of, telling_of, book_of, space_of, through_of}
use Rattle.stages.specs.declared.answer.Answer as given
use Rattle.stages.specs.declared.answer.NotTaken as untaken
use Rattle.stages.specs.declared.answer.NotTaken.TheVariants as reasons
use Rattle.stages.specs.declared.answer.Report.{Report}
use Rattle.stages.specs.declared.stage.Stage.{Stage}
use Rattle.std.proofs.lemmas.List.{map_push}
use Rattle.std.proofs.lemmas.List.Sums.{fold-append}

-- ---- what a call asks leads where the call leads

next_asked : (V : Type 0) (cut : Cut) (b : Book) (call : Call) → asks.next cut b (asked {V = V} call) ≡ next cut b call
next_asked V cut b (enter places path) = refl
next_asked V cut b seal = refl
next_asked V cut b reopen = refl

after_asked : (V : Type 0) (cut : Cut) (b : Book) (calls : List Call) → along.after cut b (map (asked {V = V}) calls) ≡ after cut b calls
after_asked V cut b [] = refl
after_asked V cut b (call ∷ calls) =
    ap (λ x. along.after cut x (map (asked {V = V}) calls)) (next_asked V cut b call) ∙ after_asked V cut (next cut b call) calls

-- the laws of histories hold along the calls
pub sound_along : {fits : Meaning → Type 0} {cut : Cut} → KindLaws fits cut → (n slots : ℕ) → (1 ≤ n) × (n ≤ 24) → (calls : List Call) → SoundAlong cut (making n slots) calls
sound_along {cut = cut} laws n slots limit calls k =
    let first = take k calls in
    subst (Sound cut) (after_asked ℕ cut (making n slots) first)
    (all_histories_hold laws _ (after_past (making n slots) (map (asked {V = ℕ}) first) (made n slots limit.0 limit.1)))

-- ---- what is told of a call is its answer

-- what is told, without what a reading gives
abbrev answer_in : {M : Type 0} → Told M → Outcome
answer_in taken = Taken
answer_in (gives _) = Taken
answer_in (refused refusal) = Refused refusal
answer_in not_allowed = NotAllowed

told_in : {V M : Type 0} (mean : V → M) (told : Result (given.Answer V) untaken.NotTaken) → outcome_told told ≡ answer_in (told_of mean told)
told_in mean (Ok given.TheVariants.Taken) = refl
told_in mean (Ok (given.TheVariants.Worth _)) = refl
told_in mean (Ok (given.TheVariants.Number _)) = refl
told_in mean (Ok (given.TheVariants.Parts _)) = refl
told_in mean (Err (reasons.Refused _)) = refl
told_in mean (Err reasons.NotAllowed) = refl

in_cond : (M : Type 0) (t : Bool) (x y : Told M) → answer_in (cond t x y) ≡ cond t (answer_in x) (answer_in y)
in_cond M true x y = refl
in_cond M false x y = refl

in_answer : (M : Type 0) (a : Answer) → answer_in {M = M} (answer_told a) ≡ outcome_of a
in_answer M (Ok _) = refl
in_answer M (Err _) = refl

answered_asked : (R : Semiring) {V : Type 0} (mean : V → R.Of) (cut : Cut) (b : Book) (call : Call) → answer_in (asks.answered R mean cut b (asked call)) ≡ answered cut b call
answered_asked R mean cut b (enter places path) =
    in_cond R.Of b.is_sealed not_allowed (answer_told (answer cut b places path)) ∙ ap (λ x. cond b.is_sealed NotAllowed x) (in_answer R.Of (answer cut b places path))
answered_asked R mean cut b seal = in_cond R.Of b.is_sealed not_allowed taken
answered_asked R mean cut b reopen = in_cond R.Of b.is_sealed taken not_allowed

-- ---- from one book to another by changes

outcomes_push : (cut : Cut) (b : Book) (calls : List Call) (call : Call) → outcomes cut b (calls ++ (call ∷ [])) ≡ outcomes cut b calls ++ (answered cut (after cut b calls) call ∷ [])
outcomes_push cut b [] call = refl
outcomes_push cut b (c ∷ calls) call = ap (λ xs. answered cut b c ∷ xs) (outcomes_push cut (next cut b c) calls call)

-- the steps lead from the first book to the second
pub record Changed {K : Type 0} {kind : Ghosts K} (cut : Cut) (meaning : K → Meaning) (places : ℕ) (first : Stage K kind) (steps : List HistoryStep) (stage : Stage K kind) : Type 0 where
  pub book : book_of meaning stage ≡ after cut (book_of meaning first) (calls_of places steps)
  pub answers : map answer_of steps ≡ outcomes cut (book_of meaning first) (calls_of places steps)
  pub spared : SparedSpace (space_of first) (space_of stage)
  pub through : through_of stage ≡ through_of first

module _ {K : Type 0} {kind : Ghosts K} {cut : Cut} {meaning : K → Meaning} {places : ℕ} where
  pub changed_nowhere : {first : Stage K kind} {steps : List HistoryStep} → steps ≡ [] → Changed cut meaning places first steps first
  changed_nowhere {first} e =
      subst (λ xs. Changed cut meaning places first xs first) (sym e) record { book = refl; answers = refl; spared = spared_same (space_of first); through = refl }

  -- one step more, by what the book and the report of a step of a stage are
  pub changed_on : (R : Semiring) {V : Type 0} (mean : V → R.Of) {ask : Ask V} (report : Report V) {first before stage : Stage K kind} {steps more : List HistoryStep} (step : HistoryStep)
      → Changed cut meaning places first steps before → more ≡ steps ++ (step ∷ [])
      → ask ≡ asked (call_of places step.order)
      → book_of meaning stage ≡ asks.next cut (book_of meaning before) ask
      → telling_of mean report ≡ telling R mean cut (book_of meaning before) ask
      → step.outcome ≡ outcome_told report.outcome
      → SparedSpace (space_of before) (space_of stage) → through_of stage ≡ through_of before → Changed cut meaning places first more stage
  changed_on R {V} mean {ask} report {first} {before} {stage} {steps} {more} step led e same book told outcome spared through =
      let call = call_of places step.order in
      let was = book_of meaning before in
      let start = book_of meaning first in
      let calls : calls_of places more ≡ calls_of places steps ++ (call ∷ []) =
      ap (calls_of places) e ∙ ap (map (call_of places)) (map_push order_of steps step) ∙ map_push (call_of places) (map order_of steps) step.order in
      let answer : step.outcome ≡ answered cut was call =
      outcome ∙ told_in mean report.outcome ∙ ap (λ t. answer_in t.told) (told ∙ ap (telling R mean cut was) same) ∙ answered_asked R mean cut was call in
      record {
        book = book ∙ ap (asks.next cut was) same ∙ next_asked V cut was call ∙ ap (λ b. next cut b call) led.book
            ∙ sym (fold-append (next cut) start (calls_of places steps) (call ∷ [])) ∙ ap (after cut start) (sym calls);
        answers = ap (map answer_of) e ∙ map_push answer_of steps step ∙ ap₂ (λ xs x. xs ++ (x ∷ [])) led.answers (answer ∙ ap (λ b. answered cut b call) led.book)
            ∙ sym (outcomes_push cut start (calls_of places steps) call) ∙ ap (outcomes cut start) (sym calls);
        spared = spared_on (space_of first) (space_of before) (space_of stage) led.spared spared;
        through = through ∙ led.through;
      }
