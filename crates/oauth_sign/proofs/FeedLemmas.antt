-- What a message in pieces stands for.
use Rattle.std.proofs.Common.{◌≡◌, ◌<◌, ◌≤◌, ℕ, ◌+◌, List, [], ◌∷◌, ◌++◌, length, take, get_or, map, flat_map, subst, sym, ap, ◌∙◌, append_assoc, append-nil}
use Rattle.std.specs.List.{AllByRecursion}
use Rattle.std.specs.Str.{str_to_ascii_uppercase}
use Rattle.std.proofs.lemmas.List.{take_more, take_all, map-append}
use Rattle.std.proofs.lemmas.Grind.{flat_map-append}
use Rattle.lti_outside.specs.declared.pairs.Pair.{Pair}
use Rattle.oauth_text.specs.Escape.{escape_byte, escape, twice_escaped_byte}
use Rattle.oauth_text.specs.Normal.{pair_text, joined}
use Rattle.oauth_text.proofs.EscapeLemmas.{escape-append, escape_bytes, escape_one, twice_escaped_bytes}
use Rattle.oauth_sign.specs.declared.feed.Feed.{Feed}
use Rattle.oauth_sign.specs.Feed.{StandsFor, Takes}
use Rattle.oauth_sign.specs.Signature.{base_text}

-- pieces one after another
pub takes_then : (a b c : Feed) (p q : List ℕ) → Takes a b p → Takes b c q → Takes a c (p ++ q)
takes_then a b c p q first then = λ key message stands.
    rw append_assoc at (then key (message ++ p) (first key message stands))

pub takes_nothing : (a : Feed) → Takes a a []
takes_nothing a = λ key message stands. rw append-nil stands

-- once nothing is held, the code was fed the whole message
pub emptied : (f : Feed) (key message : List ℕ) (stands : StandsFor f key (message ++ [])) → f.len ≡ 0 → stands.fed ≡ message
emptied f key message stands none =
    sym (append-nil stands.fed) ∙ sym (ap (λ n. stands.fed ++ take n f.held) none) ∙ sym stands.is ∙ append-nil message

-- all bytes of a text
pub all_escaped : (a b : Feed) (text bytes : List ℕ) (i : ℕ) → bytes ≡ text → length bytes ≤ i → Takes a b (flat_map escape_byte (take i bytes)) → Takes a b (escape text)
all_escaped a b text bytes i same far taken =
    subst (λ p. Takes a b p) (ap (flat_map escape_byte) (take_all i bytes far ∙ same) ∙ escape_bytes text) taken

pub text_twice_escaped : (a b : Feed) (text bytes : List ℕ) → AllByRecursion (λ x. x < 256) text → bytes ≡ text → Takes a b (flat_map twice_escaped_byte bytes) → Takes a b (escape (escape text))
text_twice_escaped a b text bytes small same taken =
    subst (λ p. Takes a b p) (ap (flat_map twice_escaped_byte) same ∙ twice_escaped_bytes text small) taken

-- an escaped text, an escaped byte and another escaped text
pub separated : (s : ℕ) (a b c d : Feed) (xs ys : List ℕ) → Takes a b (escape xs) → Takes b c (escape_byte s) → Takes c d (escape ys) → Takes a d (escape (xs ++ s ∷ ys))
separated s a b c d xs ys first mid last =
    let parts : escape xs ++ (escape_byte s ++ escape ys) ≡ escape (xs ++ s ∷ ys) =
    ap (λ zs. escape xs ++ (zs ++ escape ys)) (sym (escape_one s))
    ∙ ap (λ zs. escape xs ++ zs) (sym (escape-append (s ∷ []) ys))
    ∙ sym (escape-append xs (s ∷ ys)) in
    subst (λ p. Takes a d p) parts
    (takes_then a b d (escape xs) (escape_byte s ++ escape ys) first (takes_then b c d (escape_byte s) (escape ys) mid last))

pub takes_empty : (a : Feed) → Takes a a (escape [])
unfolding escape
takes_empty a = takes_nothing a

-- one more parameter behind `&`
pub next_joined : {X : Type 0} (g : X → Pair) (a b c d : Feed) (xs : List X) (i : ℕ) (z : X) → i < length xs → Takes a b (escape (flat_map (λ q. (38 ∷ []) ++ pair_text q) (map g (take i xs)))) → Takes b c (escape_byte 38) → Takes c d (escape (pair_text (g (get_or xs i z)))) → Takes a d (escape (flat_map (λ q. (38 ∷ []) ++ pair_text q) (map g (take (i + 1) xs))))
next_joined g a b c d xs i z within before mark next =
    rw (take_more xs i z within, map-append, flat_map-append, append-nil) (separated 38 a b c d _ _ before mark next)

-- the first and all the others
pub all_joined : {X : Type 0} (g : X → Pair) (a b c : Feed) (xs others : List X) (x : X) (i : ℕ) → xs ≡ x ∷ others → length others ≤ i → Takes a b (escape (pair_text (g x))) → Takes b c (escape (flat_map (λ q. (38 ∷ []) ++ pair_text q) (map g (take i others)))) → Takes a c (escape (joined (map g xs)))
all_joined g a b c xs others x i front far first rest =
    let all = ap (λ ys. flat_map (λ q. (38 ∷ []) ++ pair_text q) (map g ys)) (take_all i others far) in
    let whole : escape (pair_text (g x)) ++ escape (flat_map (λ q. (38 ∷ []) ++ pair_text q) (map g (take i others))) ≡ escape (joined (map g xs)) =
    sym (escape-append (pair_text (g x)) _) ∙ ap (λ t. escape (pair_text (g x) ++ t)) all ∙ ap (λ ys. escape (joined (map g ys))) (sym front) in
    subst (λ p. Takes a c p) whole (takes_then a b c _ _ first rest)

-- a base string in its parts
pub base_taken : (a b c d e f : Feed) (method uri normal : List ℕ) → Takes a b (str_to_ascii_uppercase method) → Takes b c (38 ∷ []) → Takes c d (escape uri) → Takes d e (38 ∷ []) → Takes e f (escape normal) → Takes a f (base_text method uri normal)
base_taken a b c d e f method uri normal first mark second mark' third =
    let front = takes_then a b d (str_to_ascii_uppercase method) (38 ∷ escape uri) first (takes_then b c d (38 ∷ []) (escape uri) mark second) in
    takes_then a d f (str_to_ascii_uppercase method ++ 38 ∷ escape uri) (38 ∷ escape normal) front (takes_then d e f (38 ∷ []) (escape normal) mark' third)
