use Rattle.std.proofs.Common.{ap, ◌∙◌, map}
use Rattle.std.proofs.lemmas.List.Filters.{dedup_is}
use Rattle.nonce_window.specs.Triples.{used_of_triple}
use Rattle.nonce_window.proofs.TripleLemmas.{same_triple, put_in_order}
use Rattle.nonce_window.proofs.triple.in_order.Goals as goal

pub returns : goal.returns
returns c =
    ap (map used_of_triple) (dedup_is same_triple c.sort.new.self.items c.dedup.new.self.items c.dedup.ensures.filtered)
    ∙ put_in_order c.args.triples.items c.sort.new.self.items c.in_ok-sort.ensures.permutation c.in_ok-sort.ensures.sorted
