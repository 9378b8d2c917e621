-- What the crate `percent_encoding` writes with this crate's set is the escaped text, and escapes go byte by byte.
use Rattle.std.proofs.Common.{◌++◌, flat_map, get_or, nat_eq, ◌≡◌, ℕ, ◌/◌, ◌%◌, ◌<◌, Bool, true, false, cond, not, List, [], ◌∷◌, refl, sym, ap, ◌∙◌, append_assoc, append-nil, arith}
use Rattle.std.specs.List.{AllByRecursion}
use Rattle.std.specs.Cmp.Lexicographic.{pointwise, bytes_decides}
use Rattle.std.proofs.lemmas.Bool.{agree_below, agree_below_at}
use Rattle.percent_encoding.specs.AsciiSet.{should_percent_encode}
use Rattle.percent_encoding.specs.Percent.{percent_encode, percent_encode_byte, encode_byte}
use Rattle.oauth_text.specs.declared.escapes.TheConstants.{RESERVED, UNRESERVED}
use Rattle.oauth_text.specs.Escape.{is_unreserved, escape_byte, escape, twice_escaped_byte}

tests_agree : agree_below (should_percent_encode RESERVED) (λ b. not (is_unreserved b)) 256 ≡ true
unfolding should_percent_encode
tests_agree = refl

-- a byte is escaped exactly where it is not unreserved
test_of : (b : ℕ) → b < 256 → should_percent_encode RESERVED b ≡ not (is_unreserved b)
test_of b small = agree_below_at (should_percent_encode RESERVED) (λ b. not (is_unreserved b)) 256 b tests_agree small

turned : (t : Bool) (xs ys : List ℕ) → cond (not t) xs ys ≡ cond t ys xs
turned true xs ys = refl
turned false xs ys = refl

encode_byte-escape_byte : (b : ℕ) → b < 256 → encode_byte RESERVED b ≡ escape_byte b
unfolding percent_encode_byte
encode_byte-escape_byte b small =
    let high : b / 16 % 16 ≡ b / 16 = omega arith in
    rw (test_of b small, high) (turned (is_unreserved b) _ _)

pub percent_encode-escape : (bs : List ℕ) → AllByRecursion (λ b. b < 256) bs → percent_encode RESERVED bs ≡ escape bs
unfolding percent_encode escape
percent_encode-escape [] small = refl
percent_encode-escape (b ∷ bs) small =
    rw (encode_byte-escape_byte b small.0, percent_encode-escape bs small.1) refl

table_agrees : agree_below (λ b. get_or UNRESERVED b false) is_unreserved 256 ≡ true
table_agrees = refl

-- the table says which bytes are unreserved
pub unreserved_at : (b : ℕ) → b < 256 → get_or UNRESERVED b false ≡ is_unreserved b
unreserved_at b small = agree_below_at (λ b. get_or UNRESERVED b false) is_unreserved 256 b table_agrees small

pub escape-append : (xs ys : List ℕ) → escape (xs ++ ys) ≡ escape xs ++ escape ys
unfolding escape
escape-append [] ys = refl
escape-append (x ∷ xs) ys = ap (λ zs. escape_byte x ++ zs) (escape-append xs ys) ∙ sym (append_assoc (escape_byte x) (escape xs) (escape ys))

-- a text is escaped byte by byte, once and twice
pub escape_bytes : (bs : List ℕ) → flat_map escape_byte bs ≡ escape bs
unfolding escape
escape_bytes [] = refl
escape_bytes (b ∷ bs) = ap (λ zs. escape_byte b ++ zs) (escape_bytes bs)

pub escape_one : (b : ℕ) → escape (b ∷ []) ≡ escape_byte b
unfolding escape
escape_one b = append-nil (escape_byte b)

twice_agrees : agree_below (λ b. pointwise nat_eq (escape (escape_byte b)) (twice_escaped_byte b)) (λ _. true) 256 ≡ true
unfolding escape
twice_agrees = refl

twice_at : (b : ℕ) → b < 256 → escape (escape_byte b) ≡ twice_escaped_byte b
twice_at b small =
    (bytes_decides (escape (escape_byte b)) (twice_escaped_byte b)).0
    (agree_below_at (λ b. pointwise nat_eq (escape (escape_byte b)) (twice_escaped_byte b)) (λ _. true) 256 b twice_agrees small)

pub twice_escaped_bytes : (bs : List ℕ) → AllByRecursion (λ b. b < 256) bs → flat_map twice_escaped_byte bs ≡ escape (escape bs)
unfolding escape
twice_escaped_bytes [] small = refl
twice_escaped_bytes (b ∷ bs) small =
    (λ i. sym (twice_at b small.0) i ++ twice_escaped_bytes bs small.1 i) ∙ sym (escape-append (escape_byte b) (escape bs))
