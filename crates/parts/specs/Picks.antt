-- The lowest part of a set.
use Rattle.std.specs.Prelude.{◌≡◌, ℕ, ◌^◌, ◌<◌, Some, None, Option, slice_index}
use Rattle.parts.specs.Sets.{parts}
use Rattle.parts.specs.declared.parts.PartNumber.{PartNumber}

-- the first of the parts in rising number; only the empty set has none
abbrev pub Lowest : ℕ → Option PartNumber → Type 0
Lowest n None = n ≡ 0
Lowest n (Some part) = (0 < n) × (2 ^ part.index ≡ slice_index (parts n) 0)
