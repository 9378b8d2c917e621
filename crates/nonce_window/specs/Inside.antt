-- What a window keeps, and what is true of it.
use Rattle.std.specs.Prelude.{◌≡◌, ℕ, List, Option, None, IfSome, IsSome}
use Rattle.std.specs.Option.{option_map}
use Rattle.lti_machine.specs.declared.entry.Entry.{Entry}
use Rattle.lti_machine.specs.Nonces.{Stamp, stamp_of}
use Rattle.nonce_window.specs.Window.{WindowValue}
use Rattle.nonce_window.specs.Fresh.{IsKnown, IsNext}
use Rattle.nonce_window.specs.Last.{with_last}
use Rattle.nonce_window.specs.declared.window.NonceWindow.TheInside.{Inside}

-- the key and the stamp of the entry that was made ready
abbrev pub ready_of : Option Entry → Option (List ℕ × Stamp)
ready_of ready = option_map (λ entry. (entry.key, stamp_of entry)) ready

-- the tables, and the last nonce, are what the window knows
abbrev pub value_of : Inside → WindowValue
value_of inside = record {
  high = inside.highest;
  limit = inside.limit;
  known = with_last inside.nonces inside.last;
  ready = ready_of inside.ready;
}

pub record IsSound (inside : Inside) : Type 0 where
  pub known : IsKnown inside.nonces inside.highest
  pub next : IfSome inside.last (IsNext inside.nonces inside.highest)
  -- while a nonce is ready, the last one lies in the tables
  pub idle : IsSome inside.ready → inside.last ≡ None
