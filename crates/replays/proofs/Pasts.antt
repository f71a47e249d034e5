-- What a book comes to step by step, it comes to by a history; so it is sound, and its worths add up.
use Rattle.std.proofs.Common.{◌≡◌, ℕ, ◌≤◌, Bool, true, false, cond, List, [], ◌∷◌, ◌++◌, map, length, take, Ok, sym, refl, ap, ◌∙◌, subst, ap₂}
use Rattle.books.proofs.Spaces.{spared_same, spared_on}
use Rattle.books.specs.Held.{lent, SparedSpace}
use Rattle.histories.proofs.Keeping.{history_kept, all_histories_hold}
use Rattle.histories.specs.Entry.{Book, answer, covered}
use Rattle.histories.specs.Runs as runs
use Rattle.histories.specs.Runs.{History, making, after_entry, marked}
use Rattle.measures.specs.Semiring.{Semiring, Laws}
use Rattle.products.specs.Cutting.{Cut}
use Rattle.products.specs.Law.{KindLaws}
use Rattle.products.specs.Product.{Meaning}
use Rattle.products.specs.declared.kind.ProductKind.{Ghosts}
use Rattle.std.proofs.lemmas.List.{map_push}
use Rattle.std.proofs.lemmas.List.Sums.{fold-append}
use Rattle.worths.proofs.Sums.{adds}
use Rattle.replays.specs.Along.{after, tellings}
use Rattle.stages.specs.Asks.{Ask, enter, counts, seal, reopen, read, next, telling}
use Rattle.replays.specs.Replayed.{Replayed}
use Rattle.stages.specs.Stages.{ask_of, asks_of, order_of, telling_of, book_of, space_of, through_of}
use Rattle.stages.specs.declared.stage.HistoryStep.{HistoryStep}
use Rattle.stages.specs.declared.stage.Stage.{Stage}

one_way : {cut : Cut} (b c d : Book) (t : Bool) → b.is_sealed ≡ t → (t ≡ true → History cut c) → (t ≡ false → History cut d) → History cut (cond b.is_sealed c d)
one_way {cut} b c d true e h k = subst (λ x. History cut (cond x c d)) (sym e) (h refl)
one_way {cut} b c d false e h k = subst (λ x. History cut (cond x c d)) (sym e) (k refl)

next_past : {V : Type 0} {cut : Cut} (b : Book) (ask : Ask V) → History cut b → History cut (next cut b ask)
next_past {cut = cut} b (enter w path) past =
    one_way b b (after_entry cut b path (answer cut b w path)) b.is_sealed refl (λ _. past)
    (λ shut. runs.then b (after_entry cut b path (answer cut b w path)) (runs.enter w path) (answer cut b w path) past (shut, refl, refl))
next_past b counts past = past
next_past b seal past =
    one_way b b (marked true b) b.is_sealed refl (λ _. past) (λ shut. runs.then b (marked true b) runs.seal (Ok tt) past (shut, refl, refl))
next_past b reopen past =
    one_way b (marked false b) b b.is_sealed refl (λ shut. runs.then b (marked false b) runs.reopen (Ok tt) past (shut, refl, refl)) (λ _. past)
next_past b (read r) past = past

pub after_past : {V : Type 0} {cut : Cut} (b : Book) (asks : List (Ask V)) → History cut b → History cut (after cut b asks)
after_past b [] past = past
after_past {cut = cut} b (ask ∷ asks) past = after_past (next cut b ask) asks (next_past b ask past)

-- ---- one step more

tellings_push : (R : Semiring) {V : Type 0} (mean : V → R.Of) (cut : Cut) (b : Book) (asks : List (Ask V)) (ask : Ask V)
    → tellings R mean cut b (asks ++ (ask ∷ [])) ≡ tellings R mean cut b asks ++ (telling R mean cut (after cut b asks) ask ∷ [])
tellings_push R mean cut b [] ask = refl
tellings_push R mean cut b (a ∷ asks) ask = ap (λ xs. telling R mean cut b a ∷ xs) (tellings_push R mean cut (next cut b a) asks ask)

-- ---- from one book to another by steps

-- the steps lead from the first book to the second
pub record Led {K V : Type 0} {kind : Ghosts K} (R : Semiring) (mean : V → R.Of) (cut : Cut) (meaning : K → Meaning) (most : ℕ) (first : Stage K kind) (steps : List (HistoryStep V)) (stage : Stage K kind) : Type 0 where
  pub book : book_of meaning stage ≡ after cut (book_of meaning first) (asks_of most steps)
  pub told : map (λ s. telling_of mean s.report) steps ≡ tellings R mean cut (book_of meaning first) (asks_of most steps)
  pub spared : SparedSpace (space_of first) (space_of stage)
  pub through : through_of stage ≡ through_of first

module _ {K V : Type 0} {kind : Ghosts K} {R : Semiring} {mean : V → R.Of} {cut : Cut} {meaning : K → Meaning} {most : ℕ} where
  pub led_nowhere : {first : Stage K kind} {steps : List (HistoryStep V)} → steps ≡ [] → Led R mean cut meaning most first steps first
  led_nowhere {first} e =
      subst (λ xs. Led R mean cut meaning most first xs first) (sym e) record { book = refl; told = refl; spared = spared_same (space_of first); through = refl }

  pub led_on : {first before stage : Stage K kind} {steps more : List (HistoryStep V)} (step : HistoryStep V) → Led R mean cut meaning most first steps before → more ≡ steps ++ (step ∷ [])
      → book_of meaning stage ≡ next cut (book_of meaning before) (ask_of most step.order)
      → telling_of mean step.report ≡ telling R mean cut (book_of meaning before) (ask_of most step.order)
      → SparedSpace (space_of before) (space_of stage) → through_of stage ≡ through_of before → Led R mean cut meaning most first more stage
  led_on {first} {before} {stage} {steps} {more} step led e book told spared through =
      let ask = ask_of most step.order in
      let asks : asks_of most more ≡ asks_of most steps ++ (ask ∷ []) =
      ap (asks_of most) e ∙ ap (map (ask_of most)) (map_push order_of steps step) ∙ map_push (ask_of most) (map order_of steps) step.order in
      record {
        book = book ∙ ap (λ b. next cut b ask) led.book ∙ sym (fold-append (next cut) (book_of meaning first) (asks_of most steps) (ask ∷ [])) ∙ ap (after cut (book_of meaning first)) (sym asks);
        told = ap (map (λ s. telling_of mean s.report)) e ∙ map_push (λ s. telling_of mean s.report) steps step
            ∙ ap₂ (λ xs x. xs ++ (x ∷ [])) led.told (told ∙ ap (λ b. telling R mean cut b ask) led.book)
            ∙ sym (tellings_push R mean cut (book_of meaning first) (asks_of most steps) ask) ∙ ap (tellings R mean cut (book_of meaning first)) (sym asks);
        spared = spared_on (space_of first) (space_of before) (space_of stage) led.spared spared;
        through = through ∙ led.through;
      }

  -- from a book as it is made on, that is a whole history
  pub led_replayed : {fits : Meaning → Type 0} → KindLaws fits cut → Laws R → {n : ℕ} {slots : List K} {first stage : Stage K kind} {steps more : List (HistoryStep V)}
      → (1 ≤ n) × (n ≤ 24) → book_of meaning first ≡ making n (length slots) → space_of first ≡ lent slots → more ≡ steps → Led R mean cut meaning most first steps stage
      → Replayed R mean cut meaning n slots most more stage
  led_replayed laws lawful {n} {slots} {first} {stage} {steps} limit new space same led = subst (λ xs. Replayed R mean cut meaning n slots most xs stage) (sym same) record {
    book = led.book ∙ ap (λ b. after cut b (asks_of most steps)) new;
    told = led.told ∙ ap (λ b. tellings R mean cut b (asks_of most steps)) new;
    sound = λ k. all_histories_hold laws (at k) (gone k);
    adding = λ k W F. adds R lawful (at k).parts W F (at k).products (covered (at k).paths) (history_kept laws (at k) (gone k)).exact;
    spared = subst (λ a. SparedSpace a (space_of stage)) space led.spared;
  }
    where
      at : ℕ → Book
      at k = after cut (making n (length slots)) (take k (asks_of most steps))

      gone : (k : ℕ) → History cut (at k)
      gone k = after_past (making n (length slots)) (take k (asks_of most steps)) (runs.made n (length slots) limit.0 limit.1)
