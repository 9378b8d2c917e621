use Rattle.std.proofs.Common.{◌≡◌, ◌↔◌, ◌∙◌, ℕ, List, String, Global, refl, sym, subst, take}
use Rattle.std.specs.Str.{IsAscii}
use Rattle.std.specs.String.{string_bytes}
use Rattle.std.proofs.lemmas.Result.{IfOk-weaker}
use Rattle.score_decimal.specs.Written.{IsWritten}
use Rattle.score_decimal.proofs.WritingLemmas.{text_ascii, text_writes}
use Rattle.score_decimal.proofs.score.Score.print.Goals as goal

pub ascii_text-requires : goal.ascii_text-requires
ascii_text-requires c =
    subst (λ (t : List ℕ). IsAscii t) (sym c.print_into-len.ensures.text) (text_ascii c.args.self.now ((c.print_into-len.ensures.writes c.args.self.now).1 refl).range)

pub returns-clause-writes : goal.returns-clause-writes
returns-clause-writes c =
    IfOk-weaker c.ascii_text.result (λ (text : String Global). string_bytes text ≡ take c.print_into-len.result c.print_into-len.new.room)
    (λ (text : String Global). (n : ℕ) → IsWritten (string_bytes text) n ↔ n ≡ c.args.self.now)
    (λ text is. text_writes (string_bytes text) c.args.self.now (is ∙ c.print_into-len.ensures.text) ((c.print_into-len.ensures.writes c.args.self.now).1 refl).range)
    c.ascii_text.ensures
