use Rattle.std.proofs.Common.{length, refl, sym, arith}
use Rattle.std.proofs.lemmas.List.{take_all}
use Rattle.oauth_text.proofs.blanks.trim_end.Goals as goal

pub loop-rest-init : goal.loop-rest-init
loop-rest-init c = record { same = refl; front = (length c.args.text.now, sym (take_all (length c.args.text.now) c.args.text.now (omega arith))) }
