use Rattle.std.proofs.Common.{◌≡◌, length, take}
use Rattle.gradebook.specs.Book.{Holds}
use Rattle.lti_operator.proofs.books.book_of.Given as goal

-- the book holds the entries so far
abbrev pub invariant-loop-place : goal.invariant-loop-place
invariant-loop-place l = record {
  holds : Holds l.book (take l.place l.solo);
  all : l.place-end ≡ length l.solo;
}
