-- Texts are compared byte by byte.
use Rattle.std.proofs.Common.{◌≡◌, ℕ, true, List, bytes_eq}
use Rattle.std.specs.Cmp.Lexicographic.{bytes_decides}

pub same_bytes : (a b : List ℕ) → bytes_eq a b ≡ true → a ≡ b
same_bytes a b = (bytes_decides a b).0

pub bytes_same : (a b : List ℕ) → a ≡ b → bytes_eq a b ≡ true
bytes_same a b = (bytes_decides a b).1
