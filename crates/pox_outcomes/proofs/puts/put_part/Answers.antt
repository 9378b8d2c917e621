use Rattle.std.proofs.Common.{get_or, refl, arith}
use Rattle.pox_outcomes.proofs.WritingLemmas.{writing_start, writing_more, writing_end}
use Rattle.pox_outcomes.proofs.puts.put_part.Goals as goal

pub loop-place-init : goal.loop-place-init
loop-place-init c = record { list = writing_start c.args.first c.args.last c.args.text.now c.args.out.now.list; room = omega arith }

pub put_byte-requires : goal.put_byte-requires
put_byte-requires c =
    let so_far = c.loop-place.invariant.room in
    let enough = c.requires in
    omega arith

pub loop-place-preserved : goal.loop-place-preserved
loop-place-preserved c =
    let text = c.args.text.now in
    let at = c.loop-place.place in
    let so_far = c.loop-place.invariant in
    let spent = so_far.room in
    let left = c.put_byte.ensures.room in
    record {
      list = writing_more c.args.first c.args.last text c.args.out.now.list c.loop-place.out.list c.put_byte.new.out.list at (get_or text at 0) c.is_edge.result c.loop-place-test.true refl c.is_edge.ensures c.put_byte.ensures.list so_far.list;
      room = omega arith;
    }

pub returns : goal.returns
returns c =
    let so_far = c.loop-place.invariant in
    let spent = so_far.room in
    let past = c.loop-place.auto.place-end in
    record {
      list = writing_end c.args.first c.args.last c.args.text.now c.args.out.now.list c.loop-place.out.list c.loop-place.place c.loop-place-test.false so_far.list;
      room = omega arith;
    }
