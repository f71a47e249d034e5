-- What is asked by a call leads where the call leads in a history.
use Rattle.std.proofs.Common.{◌≡◌, Bool, true, false, cond, Ok, sym, refl, ap, ◌∙◌}
use Rattle.histories.specs.Entry.{Book, answer}
use Rattle.histories.specs.Runs as runs
use Rattle.histories.specs.Runs.{Call, after_entry, marked}
use Rattle.measures.specs.Semiring.{Semiring}
use Rattle.products.specs.Cutting.{Cut}
use Rattle.replays.specs.Calls.{Agree, CallsAgree}
use Rattle.stages.specs.Asks.{taken, not_allowed, answer_told}

-- a choice by whether the book is sealed
chosen : {X : Type 0} (t shut : Bool) (x y : X) → t ≡ shut → cond t x y ≡ cond shut x y
chosen t shut x y e = ap (λ b. cond b x y) e

unless_clear : {P : Type 0} (t : Bool) → (t ≡ false → ⊥) → (t ≡ true → P) → P
unless_clear true _ at = at refl
unless_clear false never _ = absurd (never refl)

unless_shut : {P : Type 0} (t : Bool) → (t ≡ true → ⊥) → (t ≡ false → P) → P
unless_shut false _ at = at refl
unless_shut true never _ = absurd (never refl)

module _ (R : Semiring) {V : Type 0} (mean : V → R.Of) (cut : Cut) where
  agree : (b : Book) (call : Call) → Agree R mean cut b call
  agree b (runs.enter places path) = record {
    allowed = λ a after st. (
      chosen b.is_sealed false b (after_entry cut b path (answer cut b places path)) st.0 ∙ ap (after_entry cut b path) (sym st.1) ∙ sym st.2,
      chosen b.is_sealed false not_allowed (answer_told (answer cut b places path)) st.0 ∙ ap answer_told (sym st.1),
    );
    passed = λ none. unless_clear b.is_sealed (λ clear. none (answer cut b places path) (after_entry cut b path (answer cut b places path)) (clear, refl, refl))
        (λ shut. (chosen b.is_sealed true b _ shut, chosen b.is_sealed true not_allowed _ shut));
  }
  agree b runs.seal = record {
    allowed = λ a after st. (
      chosen b.is_sealed false b (marked true b) st.0 ∙ sym st.2,
      chosen b.is_sealed false not_allowed taken st.0 ∙ ap answer_told (sym st.1),
    );
    passed = λ none. unless_clear b.is_sealed (λ clear. none (Ok tt) (marked true b) (clear, refl, refl))
        (λ shut. (chosen b.is_sealed true b _ shut, chosen b.is_sealed true not_allowed _ shut));
  }
  agree b runs.reopen = record {
    allowed = λ a after st. (
      chosen b.is_sealed true (marked false b) b st.0 ∙ sym st.2,
      chosen b.is_sealed true taken not_allowed st.0 ∙ ap answer_told (sym st.1),
    );
    passed = λ none. unless_shut b.is_sealed (λ shut. none (Ok tt) (marked false b) (shut, refl, refl))
        (λ clear. (chosen b.is_sealed false _ b clear, chosen b.is_sealed false _ not_allowed clear));
  }

  pub calls_agree : CallsAgree R mean cut
  calls_agree b call = agree b call
