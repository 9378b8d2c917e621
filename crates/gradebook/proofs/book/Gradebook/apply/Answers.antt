use Rattle.std.proofs.Common.{rules}
use Rattle.gradebook.proofs.BookLemmas.{adds_entry}
use Rattle.gradebook.proofs.book.Gradebook.apply.Goals as goal

pub returns-in-Issued : goal.returns-in-Issued
returns-in-Issued c = adds_entry c.args.self.now c.issue.new.self c.args.entry (rw c.in-Issued.is (search rules)) (rw c.in-Issued.is (search rules))

pub returns-in-Grade : goal.returns-in-Grade
returns-in-Grade c = adds_entry c.args.self.now c.set.new.self c.args.entry (rw c.in-Grade.is (search rules)) (rw c.in-Grade.is (search rules))

pub returns-in-Cleared : goal.returns-in-Cleared
returns-in-Cleared c = adds_entry c.args.self.now c.set-in-Cleared.new.self c.args.entry (rw c.in-Cleared.is (search rules)) (rw c.in-Cleared.is (search rules))

pub returns : goal.returns
returns c = adds_entry c.args.self.now c.place.new.self c.args.entry (rw c.in-Launch.is (search rules)) (rw c.in-Launch.is (search rules))
