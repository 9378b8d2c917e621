-- Paths and queries are ASCII.
use Rattle.std.proofs.Common.{◌≡◌, ℕ, ◌+◌, ◌<◌, true, List, All, IsAscii, arith}
use Rattle.std.specs.List.{list_all}
use Rattle.std.proofs.lemmas.Bool.Decides.{nat_tests}
use Rattle.std.proofs.lemmas.List.Elements.{All-drop, All-weaker}
use Rattle.std.proofs.lemmas.List.Sums.{AllPass-from_list_all}
use Rattle.std.proofs.lemmas.Str.Ascii.{IsAscii-from_all}
use Rattle.oauth_text.specs.Url.{is_target_byte, path_len, query_of}

small_target_byte : (b : ℕ) → is_target_byte b ≡ true → b < 128
small_target_byte b test = grind (arith, nat_tests)

small_target : (target : List ℕ) → list_all is_target_byte target ≡ true → All (λ b. b < 128) target
small_target target test =
    All-weaker (λ b. is_target_byte b ≡ true) (λ b. b < 128) small_target_byte target (AllPass-from_list_all is_target_byte target test)

pub IsAscii-query : (target : List ℕ) → list_all is_target_byte target ≡ true → IsAscii (query_of target)
IsAscii-query target test = IsAscii-from_all (query_of target) (All-drop (λ (b : ℕ). b < 128) (path_len target + 1) target (small_target target test))
