-- A head has a line feed for each of its fields and two more.
use Rattle.std.proofs.Common.{◌≡◌, ◌≤◌, ◌+◌, ◌==◌, ℕ, List, [], ◌∷◌, ◌++◌, length, arith, ap, ◌∙◌, refl, append-nil}
use Rattle.std.specs.List.{flat_map}
use Rattle.std.specs.Prelude.{filter}
use Rattle.std.proofs.lemmas.List.{length-append}
use Rattle.std.proofs.lemmas.List.Elements.{filter-append}
use Rattle.httparse.specs.Grammar.{LineEnd, crlf, lf, print_end, Field, print_field, print_section, RequestHead, print_request, ReadsRequest, ResponseHead, print_response, ReadsResponse}
use Rattle.std.proofs.Common.{true, false, Bool, cond}
use Rattle.std.specs.Prelude.{◌&&◌, ◌||◌, not, if◌then◌else◌}
use Rattle.http_wire.specs.Lines.{line_feeds, line_ends, has_bare_line_feed}

line_feeds-append : (xs ys : List ℕ) → line_feeds (xs ++ ys) ≡ line_feeds xs + line_feeds ys
unfolding line_feeds
line_feeds-append xs ys = ap length (filter-append (λ b. b == 10) xs ys) ∙ length-append (filter (λ b. b == 10) xs) (filter (λ b. b == 10) ys)

line_feeds-end : (e : LineEnd) → line_feeds (print_end e) ≡ 1
unfolding line_feeds
line_feeds-end crlf = refl
line_feeds-end lf = refl

further : (n : ℕ) (xs ys : List ℕ) → n ≤ line_feeds ys → n ≤ line_feeds (xs ++ ys)
further n xs ys enough = let e = line_feeds-append xs ys in omega (arith, e, enough)

end_feed : (e : LineEnd) → 1 ≤ line_feeds (print_end e)
end_feed e = let one = line_feeds-end e in omega (arith, one)

field_feed : (f : Field) → 1 ≤ line_feeds (print_field f)
field_feed f = further 1 _ (print_end f.end) (end_feed f.end)

end_before : (n : ℕ) (xs : List ℕ) (e : LineEnd) (ys : List ℕ) → n + 1 ≤ line_feeds ys → n + 2 ≤ line_feeds (xs ++ print_end e ++ ys)
end_before n xs e ys enough =
    let a = line_feeds-append (xs ++ print_end e) ys in
    let b = further 1 xs (print_end e) (end_feed e) in
    omega (arith, a, b, enough)

fields_feeds : (fs : List Field) (last : LineEnd) → length fs + 1 ≤ line_feeds (print_section fs last)
fields_feeds [] last = let e = line_feeds-end last in omega (arith, e)
fields_feeds (f ∷ fs) last =
    let a = line_feeds-append (print_field f) (flat_map print_field fs) in
    let b = line_feeds-append (print_field f ++ flat_map print_field fs) (print_end last) in
    let d = line_feeds-append (flat_map print_field fs) (print_end last) in
    let e = field_feed f in
    let rest = fields_feeds fs last in
    omega (arith, a, b, d, e, rest)

pub head_feeds : (h : RequestHead) → length h.fields + 2 ≤ line_feeds (print_request h)
unfolding print_request
head_feeds h = end_before (length h.fields) _ h.line_end (print_section h.fields h.last) (fields_feeds h.fields h.last)

pub room : (buf : List ℕ) (h : RequestHead) → ReadsRequest buf h [] → line_feeds buf ≤ 66 → length h.fields ≤ 64
room buf h reads few =
    let same = ap line_feeds (reads.1 ∙ append-nil (print_request h)) in
    let feeds = head_feeds h in
    omega (arith, same, feeds, few)

feed_step : (x y r : Bool) (b m : ℕ) (fs : List ℕ) → ((x && not y) || r) ≡ false → (r ≡ false → length fs ≤ m)
    → length (cond x (b ∷ fs) fs) ≤ (if y && x then 1 else 0) + m
feed_step true true r b m fs none rest = let few = rest none in omega (arith, few)
feed_step true false r b m fs none rest = absurd (cc)
feed_step false true r b m fs none rest = let few = rest none in omega (arith, few)
feed_step false false r b m fs none rest = let few = rest none in omega (arith, few)

-- without a bare line feed, each line feed ends a pair
pub feeds_are_pairs : (bytes : List ℕ) (before : ℕ) → has_bare_line_feed before bytes ≡ false → line_feeds bytes ≤ line_ends before bytes
unfolding line_feeds
feeds_are_pairs [] before none = omega arith
feeds_are_pairs (b ∷ bytes) before none =
    feed_step (b == 10) (before == 13) (has_bare_line_feed b bytes) b (line_ends b bytes) (filter (λ c. c == 10) bytes) none (feeds_are_pairs bytes b)

answer_feeds : (h : ResponseHead) → length h.fields + 2 ≤ line_feeds (print_response h)
unfolding print_response
answer_feeds h = end_before (length h.fields) _ h.line_end (print_section h.fields h.last) (fields_feeds h.fields h.last)

pub answer_room : (buf : List ℕ) (h : ResponseHead) → ReadsResponse buf h [] → line_feeds buf ≤ 66 → length h.fields ≤ 64
answer_room buf h reads few =
    let same = ap line_feeds (reads.1 ∙ append-nil (print_response h)) in
    let feeds = answer_feeds h in
    omega (arith, same, feeds, few)
