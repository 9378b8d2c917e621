use Rattle.std.proofs.Common.{map, ap, ◌∙◌}
use Rattle.oauth_text.specs.Normal.{escaped_pair}
use Rattle.oauth_text.specs.Order.{escaped_parameter}
use Rattle.oauth_text.proofs.NormalLemmas.{order_from_sort}
use Rattle.oauth_text.proofs.order.ordered.Goals as goal

pub returns : goal.returns
returns c = order_from_sort escaped_parameter _ _ _ (c.in_ok-order.ensures ∙ ap (map escaped_pair) c.as_slice.ensures) c.sort_unstable.ensures.permutation c.sort_unstable.ensures.sorted
