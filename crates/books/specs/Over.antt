-- A book over the values that the code keeps. It is open; what seals it is its type.
use Rattle.std.specs.Prelude.{ℕ, min, false, List, map}
use Rattle.histories.specs.Entry.{Book}
use Rattle.parts.specs.Bits.{bits_of}
use Rattle.parts.specs.declared.parts.PartSet.{PartSet}
use Rattle.products.specs.Product.{Meaning}

abbrev pub book_over : {K : Type 0} → (K → Meaning) → ℕ → ℕ → List PartSet → List K → Book
book_over meaning parts slots paths products = record {
  parts = parts;
  used = min 4096 slots;
  is_sealed = false;
  paths = map bits_of paths;
  products = map meaning products;
}
