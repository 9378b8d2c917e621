use Rattle.std.proofs.Common.{List, subst, refl}
use Rattle.lti_outside.specs.declared.pairs.Pair.{Pair}
use Rattle.http_wire.specs.Message.{parts_of, RequestParts}
use Rattle.oauth_request.specs.Checked.{Terms}
use Rattle.oauth_request.specs.Given.{AreCredentials}
use Rattle.oauth_header.proofs.ResultLemmas.{IfErr_carried}
use Rattle.oauth_request.proofs.CheckedLemmas.{reading_failed, parameters_failed, not_signed, timestamp_range}
use Rattle.oauth_request.proofs.checking.check.Goals as goal

pub returns-in_err-all-clause-fault : goal.returns-in_err-all-clause-fault
returns-in_err-all-clause-fault c =
    let terms : Terms = record { keys = c.args.keys.now; scheme = c.args.scheme; field = c.args.limits.now.field } in
    IfErr_carried _ _ _ c.from_residual.ensures.1 (reading_failed terms (parts_of c.args.request.now) c.in_err-all.field-0.0 c.in_err-all.ensures.fault)

pub returns-in_err-given-clause-fault : goal.returns-in_err-given-clause-fault
returns-in_err-given-clause-fault c =
    let terms : Terms = record { keys = c.args.keys.now; scheme = c.args.scheme; field = c.args.limits.now.field } in
    let q : RequestParts = parts_of c.args.request.now in
    let first = rw c.in_ok-all.ensures.pairs at c.in_err-given.ensures.fault in
    IfErr_carried _ _ _ c.from_residual-in_err-given.ensures.1 (parameters_failed terms q c.in_ok-all.ensures.readable c.in_err-given.field-0.0 first)

pub returns-then-not-branch-clause-fault : goal.returns-then-not-branch-clause-fault
returns-then-not-branch-clause-fault c =
    let terms : Terms = record { keys = c.args.keys.now; scheme = c.args.scheme; field = c.args.limits.now.field } in
    let q : RequestParts = parts_of c.args.request.now in
    let given = subst (λ (ps : List Pair). AreCredentials terms.keys terms.field ps c.in_ok-given.given) c.in_ok-all.ensures.pairs c.in_ok-given.ensures.given in
    let none = rw c.in_ok-all.ensures.pairs at c.in_ok-given.ensures.fine in
    let tested = rw (c.get.ensures, c.without-pairs.ensures, c.name.ensures, c.in_ok-all.ensures.pairs) at c.in_ok-is_signature.ensures in
    (c.in_ok-all.ensures.readable, none, not_signed terms q terms.field c.in_ok-given.given given (λ signed. let holds = tested.1 signed in absurd (cc)))

pub returns-clause-well_signed : goal.returns-clause-well_signed
returns-clause-well_signed c =
    let terms : Terms = record { keys = c.args.keys.now; scheme = c.args.scheme; field = c.args.limits.now.field } in
    let q : RequestParts = parts_of c.args.request.now in
    let given = subst (λ (ps : List Pair). AreCredentials terms.keys terms.field ps c.in_ok-given.given) c.in_ok-all.ensures.pairs c.in_ok-given.ensures.given in
    let none = rw c.in_ok-all.ensures.pairs at c.in_ok-given.ensures.fine in
    let tested = rw (c.get.ensures, c.without-pairs.ensures, c.name.ensures, c.in_ok-all.ensures.pairs) at c.in_ok-is_signature.ensures in
    record {
      readable = c.in_ok-all.ensures.readable;
      faultless = none;
      signed = record {
        key = c.in_ok-given.given.key;
        key_is = given.key;
        secret = c.in_ok-given.given.secret.now;
        secret_is = given.secret;
        text = c.in_ok-given.given.signature;
        text_is = given.signature;
        signature = tested.0 c.if-not-branch.false;
      };
    }

pub returns-clause-says : goal.returns-clause-says
returns-clause-says c =
    let given = subst (λ (ps : List Pair). AreCredentials c.args.keys.now c.args.limits.now.field ps c.in_ok-given.given) c.in_ok-all.ensures.pairs c.in_ok-given.ensures.given in
    record {
      key = given.key;
      timestamp_text = given.timestamp_text;
      timestamp = given.timestamp;
      number = given.number;
      nonce = given.nonce;
      pairs = rw (c.without-pairs.ensures, c.name.ensures, c.in_ok-all.ensures.pairs) refl;
    }

pub returns-clause-timestamp : goal.returns-clause-timestamp
returns-clause-timestamp c = timestamp_range _ _ c.in_ok-given.ensures.given.number
