-- The limits of a part count, a part number and a set of parts.
use Rattle.std.specs.Prelude.{ℕ, ◌^◌, ◌<◌, ◌≤◌}

abbrev pub PartCountLimit : ℕ → Type 0
PartCountLimit n = (1 ≤ n) × (n ≤ 24)

abbrev pub PartNumberLimit : ℕ → Type 0
PartNumberLimit n = n < 24

abbrev pub PartSetLimit : ℕ → Type 0
PartSetLimit n = n < 2 ^ 24
