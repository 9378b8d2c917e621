-- What one more entry changes in what a book tells.
use Rattle.std.proofs.Common.{◌≡◌, List, ◌++◌, ◌∷◌, [], sym, ap, ◌∙◌}
use Rattle.std.proofs.lemmas.List.Sums.{fold_push}
use Rattle.lti_machine.specs.declared.entry.Entry.{Entry}
use Rattle.lti_machine.specs.Rows.{rows_of, rows_after, standing_in}
use Rattle.lti_machine.specs.Placements.{placed_of, put_some, same_place, launch_of, placement_in}
use Rattle.lti_machine.proofs.RowsAfter.{rows_of-push, standing_in-rows_of}
use Rattle.lti_machine.proofs.PlacedLemmas.{placement_in-placed_of}
use Rattle.lti_machine.proofs.SummaryLemmas.{alike}
use Rattle.gradebook.specs.Book.{BookValue, Holds, Adds, SameContents}
use Rattle.gradebook.specs.Laws.{HoldsAlike}

-- a book tells a list whose rows and placements are its own
pub holds_list : (book : BookValue) (entries : List Entry) → book.rows ≡ rows_of entries → book.placed ≡ placed_of entries → Holds book entries
holds_list book entries rows placed = record {
  rows = rows;
  standing = λ key id. ap (λ all. standing_in all key id) rows ∙ standing_in-rows_of entries key id;
  placed = placed;
  placement = λ key link user. ap (λ all. placement_in all key link user) placed ∙ placement_in-placed_of entries key link user;
}

-- a book whose rows and placements are those after the entry's effect
pub adds_entry : (before after : BookValue) (e : Entry) → after.rows ≡ rows_after before.rows e.key e.effect → after.placed ≡ put_some same_place before.placed (launch_of e) → Adds before after e
adds_entry before after e rows placed = λ entries holds.
    holds_list after (entries ++ e ∷ []) (rows ∙ ap (λ old. rows_after old e.key e.effect) holds.rows ∙ sym (rows_of-push entries e))
    (placed ∙ ap (λ old. put_some same_place old (launch_of e)) holds.placed ∙ sym (fold_push (λ placed x. put_some same_place placed (launch_of x)) [] entries e))

-- a book with the same rows and the same placements
pub same_contents : (before after : BookValue) → after.rows ≡ before.rows → after.placed ≡ before.placed → SameContents before after
same_contents before after rows placed = record {
  rows = rows;
  standing = λ key id. ap (λ all. standing_in all key id) rows;
  placed = placed;
  placement = λ key link user. ap (λ all. placement_in all key link user) placed;
}

pub holds_alike : HoldsAlike
holds_alike book a b same holds =
    let are = alike a b same in
    holds_list book b (holds.rows ∙ are.rows) (holds.placed ∙ are.placed)
