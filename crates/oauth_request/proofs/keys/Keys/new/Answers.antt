use Rattle.std.proofs.Common.{◌≡◌, List, take, refl, ◌∙◌, subst, None}
use Rattle.lti_outside.specs.declared.pairs.Pair.{Pair}
use Rattle.oauth_request.specs.Secret.{key_fault}
use Rattle.oauth_request.proofs.KeyLemmas.{one_more, short_more, AreShort-none}
use Rattle.oauth_request.proofs.keys.Keys.new.Goals as goal

pub loop-place-init : goal.loop-place-init
loop-place-init c = record { fine = refl; short = AreShort-none }

pub loop-place-preserved : goal.loop-place-preserved
loop-place-preserved c =
    let list = c.as_slice-pairs.ensures in
    record {
      fine = c.loop-place.invariant.fine ∙ one_more c.args.list c.loop-place.place c.index-pairs-place.result (rw (← list) c.loop-place-test.true) (rw (← list) c.index-pairs-place.is)
          (subst (λ (pairs : List Pair). key_fault (take c.loop-place.place pairs) c.index-pairs-place.result ≡ None) list c.in_ok-judge.ensures.fine);
      short = short_more c.args.list c.loop-place.place c.index-pairs-place.result (rw (← list) c.loop-place-test.true) (rw (← list) c.index-pairs-place.is) c.loop-place.invariant.short c.in_ok-judge.ensures.short;
    }
