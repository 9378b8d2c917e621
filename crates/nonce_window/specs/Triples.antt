-- What triples of key, timestamp and nonce stand for.
use Rattle.lti_machine.specs.declared.entry.Entry.{Entry}
use Rattle.lti_machine.specs.Used.{Used}
use Rattle.nonce_window.specs.Nonces.{plain}
use Rattle.nonce_window.specs.declared.triple.Triple.{Triple}

-- the stamp under its key
abbrev pub used_of_triple : Triple → Used
used_of_triple triple = record { key = triple.key; stamp = record { timestamp = triple.timestamp; nonce = triple.nonce } }

-- the entry that uses it up and changes nothing
abbrev pub plain_of : Triple → Entry
plain_of triple = plain triple.key (record { timestamp = triple.timestamp; nonce = triple.nonce })
