use Rattle.turn_lock.proofs.Turning.{answers_here, Told, tells}
use Rattle.turn_lock.proofs.turns.take_turn.Goals as goal

pub end-requires-clause-value : goal.end-requires-clause-value
end-requires-clause-value g c =
    let s = c.requires.seat in
    let d = c.draw-ticket.ensures.drawn in
    answers_here _ _ d.0 c.args.seat.now.me.0 _ _ _ _ _ d.2 c.await_turn.ensures.comes c.answer-answer.ensures.answer c.answer-answer.ensures.seat.2 s.3 s.4

module _ (g : _) (c : goal.After-end g) where
  told : Told g.K.Kept c.args.words.now.key.kept.value c.args.job c.answer-answer.result c.args.seat.now.me.0 c.end.new.seat.me.0
  told =
      let s = c.requires.seat in
      let d = c.draw-ticket.ensures.drawn in
      tells g.K.Kept _ d.0 _ _ _ _ _ _ _ d.2 c.await_turn.ensures.comes c.answer-answer.ensures.answer c.answer-answer.ensures.seat.2 s.4 c.end.ensures.ends

pub returns-clause-answer : goal.returns-clause-answer
returns-clause-answer g c = (told g c).answers_are

pub returns-clause-law : goal.returns-clause-law
returns-clause-law g c = (told g c).law_is
