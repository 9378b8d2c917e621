use Rattle.std.proofs.Common.{sym, subst}
use Rattle.std.specs.Str.{IsUtf8}
use Rattle.pox_outcomes.proofs.Utf8Lemmas.{utf8_character, front_taken}
use Rattle.pox_outcomes.proofs.texts.push_literal.Goals as goal

pub push_bytes-requires : goal.push_bytes-requires
push_bytes-requires c =
    let reads = c.in_ok-rest.ensures.reads in
    subst IsUtf8 (sym (front_taken c.args.bytes.now reads.front c.in_ok-rest.rest.now reads.are)) (utf8_character reads.front reads.is.character)
