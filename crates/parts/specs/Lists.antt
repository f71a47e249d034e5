-- The sets of a list in fixed memory.
use Rattle.std.specs.Prelude.{ℕ, List, take}
use Rattle.parts.specs.declared.parts.PartSet.{PartSet}
use Rattle.parts.specs.declared.parts.list.PartSets.{PartSets}

abbrev pub sets_in : {n : ℕ} → PartSets n → List PartSet
sets_in l = take l.count l.sets
