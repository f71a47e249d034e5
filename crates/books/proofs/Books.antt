-- Some history leads to each book of the code, open or sealed.
use Rattle.std.proofs.Common.{Ok, refl}
use Rattle.books.specs.Held.{open_book, sealed_book}
use Rattle.books.specs.declared.book.OpenBook.{OpenBook}
use Rattle.books.specs.declared.book.SealedBook.{SealedBook}
use Rattle.histories.proofs.Reaching.{reached_then}
use Rattle.histories.specs.Runs.{Reached, seal}
use Rattle.products.specs.declared.kind.ProductKind.{Ghosts}

module _ {K : Type 0} {kind : Ghosts K} where
  pub open_reached : (b : OpenBook K kind) → Reached kind.cut (open_book kind.meaning b)
  open_reached b = b.contents.reached

  pub sealed_reached : (b : SealedBook K kind) → Reached kind.cut (sealed_book kind.meaning b)
  sealed_reached b =
      reached_then (open_book kind.meaning record { contents = b.contents }) (sealed_book kind.meaning b) seal (Ok tt) b.contents.reached (refl, refl, refl)
