-- The Authorization header of pairs (RFC 5849, section 3.5.1).
use Rattle.std.specs.Prelude.{ℕ, Bool, not, ◌&&◌, ◌==◌, List, [], ◌∷◌, ◌++◌, length, codes}
use Rattle.std.specs.List.{join_by, list_all}
use Rattle.lti_outside.specs.declared.pairs.Pair.{Pair}
use Rattle.oauth_text.specs.Escape.{escape}
use Rattle.oauth_header.specs.Item.{is_realm}

-- the escaped name, `=`, and the escaped value between quotation marks
abbrev pub item_text : Pair → List ℕ
item_text pair = escape pair.name ++ codes "=\"" ++ escape pair.value ++ codes "\""

-- `OAuth` and a space before the items, with a comma and a space between each two; `OAuth` alone for no pairs
abbrev pub header_text : List Pair → List ℕ
header_text [] = codes "OAuth"
header_text (pair ∷ pairs) = codes "OAuth " ++ join_by item_text (codes ", ") (pair ∷ pairs)

-- the name isn't empty and isn't `realm`
abbrev pub can_stand : Pair → Bool
can_stand pair = not (length pair.name == 0) && not (is_realm pair)

abbrev pub can_be_written : List Pair → Bool
can_be_written pairs = list_all can_stand pairs
