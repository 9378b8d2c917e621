-- HMAC-SHA1 (RFC 2104, section 2, over the SHA-1 of FIPS 180-4) on whole lists of bytes.
use Rattle.std.specs.Prelude.{ℕ, ◌-◌, List, ◌++◌, map, length, replicate, nat_lt, bit_xor, if◌then◌else◌}
use Rattle.sha1.specs.Sha1 as digest
use Rattle.oauth_sign.specs.declared.mac.Mac.{Mac}

-- a key of more than 64 bytes is replaced by its digest
abbrev pub short_key : List ℕ → List ℕ
short_key key = if nat_lt 64 (length key) then digest.sha1 key else key

-- the key, filled up with zeros to a block of 64 bytes
abbrev pub key_block : List ℕ → List ℕ
key_block key = short_key key ++ replicate (64 - length (short_key key)) 0

-- the exclusive or of each byte of the key's block with these bits
abbrev pub padded_key : ℕ → List ℕ → List ℕ
padded_key bits key = map (bit_xor bits) (key_block key)

-- the code of a message under a key
unfoldable pub hmac : List ℕ → List ℕ → List ℕ
hmac key message = digest.sha1 (padded_key 0x5C key ++ digest.sha1 (padded_key 0x36 key ++ message))

-- the mac was started with this key, and was fed this message
unfoldable pub Holds : Mac → List ℕ → List ℕ → Type 0
Holds mac key message =
    digest.Holds mac.inner (padded_key 0x36 key ++ message) × digest.Holds mac.outer (padded_key 0x5C key)

-- whatever the first mac was fed, the second was fed that and then the piece
abbrev pub Feeds : Mac → Mac → List ℕ → Type 0
Feeds old new piece = (key message : List ℕ) → Holds old key message → Holds new key (message ++ piece)
