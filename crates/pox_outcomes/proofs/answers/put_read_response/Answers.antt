use Rattle.std.proofs.Common.{◌++◌, codes}
use Rattle.pox_outcomes.proofs.WritingLemmas.{append_step}
use Rattle.pox_outcomes.proofs.answers.put_read_response.Goals as goal

pub returns-clause-list : goal.returns-clause-list
returns-clause-list c =
    let out = c.args.out.now.list in
    let opened = codes "<readResultResponse><result><resultScore><language>en</language><textString>" in
    append_step out (opened ++ c.args.score.now) (codes "</textString></resultScore></result></readResultResponse>") c.put-2.new.out.list c.put-3.new.out.list
    (append_step out opened c.args.score.now c.put.new.out.list c.put-2.new.out.list c.put.ensures.list c.put-2.ensures.list) c.put-3.ensures.list
