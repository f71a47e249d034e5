-- What a trial does to a card, what its end does, and what is read in between.
use Rattle.std.specs.Prelude.{◌≡◌, ℕ, ◌^◌, ◌<◌, length, Ok, Err, Result}
use Rattle.refusals.specs.declared.refusal.Refusal.{Refusal}
use Rattle.refusals.specs.declared.refusal.Refusal.TheVariants.{PulledPartOutsideMachine}
use Rattle.parts.specs.Sets.{parts}
use Rattle.parts.specs.With.{set_with}
use Rattle.parts.specs.declared.parts.PartNumber.{PartNumber}
use Rattle.parts.specs.declared.parts.PartSet.{PartSet}
use Rattle.cards.specs.declared.card.Card.{Card}

-- the card with these parts pulled; the rest of it stays
abbrev pub with_pulled : Card → PartSet → Card
with_pulled k pulled = record { pulled = pulled }

-- the card with one part more pulled
abbrev pub pulling : Card → PartNumber → Card
pulling k part = with_pulled k (set_with k.pulled part)

-- how many parts a card has pulled, refused where a machine of n parts does not have one of them
abbrev pub CountedWithin : ℕ → Card → Result ℕ Refusal → Type 0
CountedWithin n k (Ok r) = (k.pulled.bits < 2 ^ n) × (r ≡ length (parts k.pulled.bits))
CountedWithin n k (Err e) = (e ≡ PulledPartOutsideMachine) × (k.pulled.bits < 2 ^ n → ⊥)
