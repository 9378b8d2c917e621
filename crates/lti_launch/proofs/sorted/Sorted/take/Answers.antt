use Rattle.std.proofs.Common.{◌≡◌, true, false, refl, sym, ◌∙◌}
use Rattle.lti_launch.specs.Parameters.{is_field, is_custom, is_ext, is_oauth, is_rest}
use Rattle.lti_launch.proofs.KindLemmas.{custom_no_ext, custom_no_field, ext_no_field, field_no_rest, custom_no_rest, ext_no_rest, oauth_no_rest, other_rest}
use Rattle.lti_launch.proofs.SortedLemmas.{filter_kept, filter_pushed, found_kept, found_pushed}
use Rattle.lti_launch.proofs.sorted.Sorted.take.Goals as goal

pub returns-in_ok-push : goal.returns-in_ok-push
returns-in_ok-push c = λ pairs sorted.
    let pair = c.args.pair.now in
    let custom : is_custom pair ≡ true = sym c.is_custom.ensures ∙ c.if-is_custom.true in
    record {
      found = sorted.found ∙ sym (found_kept pairs pair (custom_no_field pair custom));
      custom = filter_pushed pairs pair is_custom c.args.self.now.custom c.push.new.self c.in_ok-copy.field-0 custom c.in_ok-copy.ensures sorted.custom c.in_ok-push.ensures.ok;
      ext = sorted.ext ∙ sym (filter_kept is_ext pairs pair (custom_no_ext pair custom));
      rest = sorted.rest ∙ sym (filter_kept is_rest pairs pair (custom_no_rest pair custom));
    }

pub returns-in_ok-push-2 : goal.returns-in_ok-push-2
returns-in_ok-push-2 c = λ pairs sorted.
    let pair = c.args.pair.now in
    let custom : is_custom pair ≡ false = sym c.is_custom.ensures ∙ c.if-is_custom.false in
    let ext : is_ext pair ≡ true = sym c.is_ext.ensures ∙ c.if-is_ext.true in
    record {
      found = sorted.found ∙ sym (found_kept pairs pair (ext_no_field pair ext));
      custom = sorted.custom ∙ sym (filter_kept is_custom pairs pair custom);
      ext = filter_pushed pairs pair is_ext c.args.self.now.ext c.push-then-is_ext.new.self c.in_ok-copy-2.field-0 ext c.in_ok-copy-2.ensures sorted.ext c.in_ok-push-2.ensures.ok;
      rest = sorted.rest ∙ sym (filter_kept is_rest pairs pair (ext_no_rest pair ext));
    }

pub returns-in_ok-add : goal.returns-in_ok-add
returns-in_ok-add c = λ pairs sorted.
    let pair = c.args.pair.now in
    let field = c.in-Some.field in
    let custom : is_custom pair ≡ false = sym c.is_custom.ensures ∙ c.if-is_custom.false in
    let ext : is_ext pair ≡ false = sym c.is_ext.ensures ∙ c.if-is_ext.false in
    record {
      found = found_pushed pairs pair field c.place.result c.get.result.now c.args.self.now.found.items _ c.index_mut.result.now c.add.new.self c.in-Some.ensures.1 c.place.ensures.place c.get.ensures sorted.found c.index_mut.ensures.value refl c.in_ok-add.ensures;
      custom = sorted.custom ∙ sym (filter_kept is_custom pairs pair custom);
      ext = sorted.ext ∙ sym (filter_kept is_ext pairs pair ext);
      rest = sorted.rest ∙ sym (filter_kept is_rest pairs pair (field_no_rest pair c.in-Some.ensures.0));
    }

pub returns-in_ok-push-3 : goal.returns-in_ok-push-3
returns-in_ok-push-3 c = λ pairs sorted.
    let pair = c.args.pair.now in
    let custom : is_custom pair ≡ false = sym c.is_custom.ensures ∙ c.if-is_custom.false in
    let ext : is_ext pair ≡ false = sym c.is_ext.ensures ∙ c.if-is_ext.false in
    let oauth : is_oauth pair ≡ false = sym c.is_oauth.ensures ∙ c.if-not-is_oauth.true in
    let field : is_field pair ≡ false = c.in_default.ensures in
    record {
      found = sorted.found ∙ sym (found_kept pairs pair field);
      custom = sorted.custom ∙ sym (filter_kept is_custom pairs pair custom);
      ext = sorted.ext ∙ sym (filter_kept is_ext pairs pair ext);
      rest = filter_pushed pairs pair is_rest c.args.self.now.rest c.push-then-not-is_oauth.new.self c.in_ok-copy-3.field-0 (other_rest pair field custom ext oauth) c.in_ok-copy-3.ensures sorted.rest c.in_ok-push-3.ensures.ok;
    }

pub returns-else-not-is_oauth : goal.returns-else-not-is_oauth
returns-else-not-is_oauth c = λ pairs sorted.
    let pair = c.args.pair.now in
    let custom : is_custom pair ≡ false = sym c.is_custom.ensures ∙ c.if-is_custom.false in
    let ext : is_ext pair ≡ false = sym c.is_ext.ensures ∙ c.if-is_ext.false in
    let oauth : is_oauth pair ≡ true = sym c.is_oauth.ensures ∙ c.if-not-is_oauth.false in
    let field : is_field pair ≡ false = c.in_default.ensures in
    record {
      found = sorted.found ∙ sym (found_kept pairs pair field);
      custom = sorted.custom ∙ sym (filter_kept is_custom pairs pair custom);
      ext = sorted.ext ∙ sym (filter_kept is_ext pairs pair ext);
      rest = sorted.rest ∙ sym (filter_kept is_rest pairs pair (oauth_no_rest pair oauth));
    }
