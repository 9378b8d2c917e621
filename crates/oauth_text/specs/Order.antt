-- Parameters in the order of their escaped texts, with none escaped (RFC 5849, section 3.4.1.3.2).
use Rattle.std.specs.Cmp.{IsTotalOrder, then_total, on_total}
use Rattle.std.specs.Cmp.Lexicographic.{nat_list_cmp_total}
use Rattle.std.specs.declared.cmp.Ordering.{Ordering}
use Rattle.lti_outside.specs.declared.pairs.Pair.{Pair}
use Rattle.oauth_text.specs.declared.order.Parameter.{Parameter}
use Rattle.oauth_text.specs.Escape.{escape}
use Rattle.oauth_text.specs.Normal.{pair_cmp}

-- a parameter as a pair, with its name and its value escaped
abbrev pub escaped_parameter : Parameter → Pair
escaped_parameter p = record { name = escape p.name.now; value = escape p.value.now }

-- by escaped name and then by escaped value, in byte order
abbrev pub parameter_cmp : Parameter → Parameter → Ordering
parameter_cmp p q = pair_cmp (escaped_parameter p) (escaped_parameter q)

pub parameter_total : IsTotalOrder parameter_cmp
parameter_total =
    on_total escaped_parameter (then_total (on_total (λ p. p.name) nat_list_cmp_total) (on_total (λ p. p.value) nat_list_cmp_total))
