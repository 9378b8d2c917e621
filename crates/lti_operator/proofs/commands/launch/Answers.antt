use Rattle.std.proofs.Common.{◌≡◌, Some, None, refl, rules}
use Rattle.oauth_request.specs.Secret.{secret_in}
use Rattle.lti_operator.specs.Ladder.Ladder.{no_key, own}
use Rattle.lti_operator.proofs.LadderLemmas.{unopened, over_what_was_read}
use Rattle.lti_operator.proofs.commands.launch.Goals as goal

pub returns-in-Err : goal.returns-in-Err
returns-in-Err g c = unopened _ _ _ _ _ _ refl refl c.in-Err.ensures.unopened

pub returns-in_default : goal.returns-in_default
returns-in_default g c =
    let unknown : secret_in c.in-Ok.opened.0.keys c.args.asked.now.key.now ≡ None = search rules in
    no_key (Some c.in-Ok.opened.0) c.in-Ok.ensures.settings c.in-Ok.opened.1 c.in-Ok.ensures.mounted unknown refl c.close.ensures refl

pub returns : goal.returns
returns g c =
    let knows : secret_in c.in-Ok.opened.0.keys c.args.asked.now.key.now ≡ Some c.in-Some.secret.now = search rules in
    own (Some c.in-Ok.opened.0) c.in-Ok.ensures.settings c.in-Ok.opened.1 c.in-Ok.ensures.mounted c.in-Some.secret.now knows
    (c.close-2.ensures, over_what_was_read _ _ _ _ c.in-Ok.ensures.mounted c.book.result.now _ c.book.ensures.book c.write_launch-status.ensures)
