use Rattle.std.proofs.Common.{◌≡◌, false, subst, sym, ◌∙◌}
use Rattle.sha1.specs.Sha1.{sha1}
use Rattle.oauth_request.specs.Found.{AreFoundIn}
use Rattle.oauth_header.proofs.ResultLemmas.{IfErr_carried}
use Rattle.oauth_request.proofs.ConditionLemmas.{told, is_duplicated, lacks, is_refused, is_left, is_unknown, is_other, is_fine}
use Rattle.oauth_request.proofs.credentials.read_credentials.Goals as goal

pub returns-in_err-check_single-clause-fault : goal.returns-in_err-check_single-clause-fault
returns-in_err-check_single-clause-fault c =
    let found = subst (AreFoundIn c.found_in-found.result) c.as_slice.ensures c.found_in-found.ensures in
    let first = is_duplicated c.args.keys.now c.args.field_limit c.is_form-form.result c.args.request.now.body.list c.args.all.now c.in_err-check_single.field-0.0 (c.in_err-check_single.ensures _ found) in
    rw (← c.is_form-form.ensures) (IfErr_carried _ _ _ c.from_residual.ensures.1 (told c.args.keys.now c.args.field_limit c.is_form-form.result c.args.request.now.body.list c.args.all.now c.in_err-check_single.field-0.0 first))

pub returns-in_err-stated-clause-fault : goal.returns-in_err-stated-clause-fault
returns-in_err-stated-clause-fault c =
    let found = subst (AreFoundIn c.found_in-found.result) c.as_slice.ensures c.found_in-found.ensures in
    let single = c.in_ok-check_single.ensures _ found in
    let first = lacks c.args.keys.now c.args.field_limit c.is_form-form.result c.args.request.now.body.list c.args.all.now c.in_err-stated.field-0.0 single.once (c.in_err-stated.ensures _ single) in
    rw (← c.is_form-form.ensures) (IfErr_carried _ _ _ c.from_residual-in_err-stated.ensures.1 (told c.args.keys.now c.args.field_limit c.is_form-form.result c.args.request.now.body.list c.args.all.now c.in_err-stated.field-0.0 first))

pub returns-in_err-timestamp-clause-fault : goal.returns-in_err-timestamp-clause-fault
returns-in_err-timestamp-clause-fault c =
    let found = subst (AreFoundIn c.found_in-found.result) c.as_slice.ensures c.found_in-found.ensures in
    let single = c.in_ok-check_single.ensures _ found in
    let stated = c.in_ok-stated.ensures _ single in
    let first = is_refused c.args.keys.now c.args.field_limit c.is_form-form.result c.args.request.now.body.list c.args.all.now c.in_err-timestamp.field-0.0 single.once stated.0 (c.in_err-timestamp.ensures _ stated.1) in
    rw (← c.is_form-form.ensures) (IfErr_carried _ _ _ c.from_residual-in_err-timestamp.ensures.1 (told c.args.keys.now c.args.field_limit c.is_form-form.result c.args.request.now.body.list c.args.all.now c.in_err-timestamp.field-0.0 first))

pub returns-in_default-clause-fault : goal.returns-in_default-clause-fault
returns-in_default-clause-fault c =
    let found = subst (AreFoundIn c.found_in-found.result) c.as_slice.ensures c.found_in-found.ensures in
    let single = c.in_ok-check_single.ensures _ found in
    let stated = c.in_ok-stated.ensures _ single in
    let number = c.in_ok-timestamp.ensures _ stated.1 in
    let left = is_left c.args.keys.now c.args.field_limit c.is_form-form.result c.args.request.now.body.list c.args.all.now single.once stated.0 number.0 in
    rw (← c.is_form-form.ensures) (left ∙ is_unknown c.args.keys.now c.is_form-form.result c.args.request.now.body.list c.args.all.now c.in_ok-stated.stated.key.now stated.1.key (sym c.in_default.ensures.secret))

pub returns-then-branch-clause-fault : goal.returns-then-branch-clause-fault
returns-then-branch-clause-fault c =
    let found = subst (AreFoundIn c.found_in-found.result) c.as_slice.ensures c.found_in-found.ensures in
    let single = c.in_ok-check_single.ensures _ found in
    let stated = c.in_ok-stated.ensures _ single in
    let number = c.in_ok-timestamp.ensures _ stated.1 in
    let left = is_left c.args.keys.now c.args.field_limit c.is_form-form.result c.args.request.now.body.list c.args.all.now single.once stated.0 number.0 in
    let sum : c.is_form-form.result ≡ false → c.args.body_sum.now ≡ sha1 c.args.request.now.body.list = λ none. c.requires (sym c.is_form-form.ensures ∙ none) in
    let other = sym (c.in_ok-has_other_hash.ensures _ stated.1.body_hash) ∙ c.if-branch.true in
    rw (← c.is_form-form.ensures) (left ∙ is_other c.args.keys.now c.is_form-form.result c.args.request.now.body.list c.args.body_sum.now c.args.all.now c.in_ok-stated.stated.key.now c.in-Some.secret.now stated.1.key (sym c.in-Some.ensures.secret) sum other)

pub returns-clause-fine : goal.returns-clause-fine
returns-clause-fine c =
    let found = subst (AreFoundIn c.found_in-found.result) c.as_slice.ensures c.found_in-found.ensures in
    let single = c.in_ok-check_single.ensures _ found in
    let stated = c.in_ok-stated.ensures _ single in
    let number = c.in_ok-timestamp.ensures _ stated.1 in
    let left = is_left c.args.keys.now c.args.field_limit c.is_form-form.result c.args.request.now.body.list c.args.all.now single.once stated.0 number.0 in
    let sum : c.is_form-form.result ≡ false → c.args.body_sum.now ≡ sha1 c.args.request.now.body.list = λ none. c.requires (sym c.is_form-form.ensures ∙ none) in
    let same = sym (c.in_ok-has_other_hash.ensures _ stated.1.body_hash) ∙ c.if-branch.false in
    rw (← c.is_form-form.ensures) (left ∙ is_fine c.args.keys.now c.is_form-form.result c.args.request.now.body.list c.args.body_sum.now c.args.all.now c.in_ok-stated.stated.key.now c.in-Some.secret.now stated.1.key (sym c.in-Some.ensures.secret) sum same)

pub returns-clause-given : goal.returns-clause-given
returns-clause-given c =
    let found = subst (AreFoundIn c.found_in-found.result) c.as_slice.ensures c.found_in-found.ensures in
    let single = c.in_ok-check_single.ensures _ found in
    let stated = c.in_ok-stated.ensures _ single in
    let number = c.in_ok-timestamp.ensures _ stated.1 in
    rw (c.in_ok-new.ensures, c.in_ok-new-2.ensures, c.in_ok-new-3.ensures) record {
      key = stated.1.key;
      timestamp_text = c.in_ok-stated.stated.timestamp.now;
      timestamp = stated.1.timestamp;
      number = number.1;
      nonce = stated.1.nonce;
      signature = stated.1.signature;
      secret = sym c.in-Some.ensures.secret;
      key_short = (c.in-Some.ensures.short.0, number.2);
      nonce_short = (number.3, number.4);
    }
