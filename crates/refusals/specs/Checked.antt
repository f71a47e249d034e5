-- What a call promises that makes a value from a plain one and refuses what is outside a limit.
use Rattle.std.specs.Prelude.{◌≡◌, Ok, Err, Result}
use Rattle.refusals.specs.declared.refusal.Refusal.{Refusal}

-- made, it is within the limit and stands for what was given; refused, what was given is not within the limit
abbrev pub Checked : {N T : Type 0} → (N → Type 0) → Refusal → (T → N) → N → Result T Refusal → Type 0
Checked limit refusal value n (Ok x) = (value x ≡ n) × limit n
Checked limit refusal value n (Err e) = (e ≡ refusal) × (limit n → ⊥)
