use Rattle.std.proofs.Common.{◌≡◌, drop}
use Rattle.parts.specs.Sets.{parts}
use Rattle.parts.proofs.parts.PartSet.past.Given as goal

abbrev pub invariant-loop : goal.invariant-loop
invariant-loop l = parts l.rest.bits ≡ drop l.counter (parts l.initial.rest.bits)
