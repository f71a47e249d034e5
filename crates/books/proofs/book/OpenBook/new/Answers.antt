use Rattle.books.proofs.Books.{open_reached}
use Rattle.histories.proofs.Reaching.{reached_sound}
use Rattle.books.proofs.book.OpenBook.new.Goals as goal

pub returns-clause-sound : goal.returns-clause-sound
returns-clause-sound g c = reached_sound g.met.K.ProductKind.lawful _ (open_reached record { contents = c.new.result })
