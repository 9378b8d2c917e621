-- What is true of the tables of the nonces.
use Rattle.std.specs.Prelude.{◌≡◌, length}
use Rattle.nonce_window.specs.Nonces.{AreCounted, IsTable}
use Rattle.nonce_window.specs.declared.nonces.Nonces.TheInside.{Inside}

pub record IsSound (inside : Inside) : Type 0 where
  pub table : IsTable inside.table.entries
  pub counted : AreCounted inside.counts.items inside.table.entries
  pub long : length inside.counts.items ≡ length inside.keys
