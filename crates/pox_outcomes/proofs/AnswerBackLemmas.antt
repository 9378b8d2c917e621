-- Written answers are read back.
use Rattle.std.proofs.Common.{◌≡◌, ◌≢◌, ℕ, ◌^◌, ◌≤◌, inl, inr, Bool, true, false, ◌&&◌, ◌||◌, ◌==◌, List, [], ◌∷◌, ◌++◌, length, append_assoc, append-nil, refl, sym, ap, ◌∙◌, subst, arith, length-append, codes}
use Rattle.std.specs.List.{list_all}
use Rattle.std.specs.Char.{is_ascii_digit}
use Rattle.std.proofs.lemmas.Bool.{cases_lt}
use Rattle.std.proofs.lemmas.Bool.Decides.{nat_tests}
use Rattle.lti_outside.proofs.BoolLemmas.{and_split}
use Rattle.score_decimal.specs.Printed.{digits_in, score_text}
use Rattle.score_decimal.proofs.PrintedLemmas.{text_zero, text_one, text_between}
use Rattle.score_decimal.proofs.WritingLemmas.{digits_are}
use Rattle.pox_outcomes.specs.Markup.{word_at}
use Rattle.pox_outcomes.specs.Characters.{is_within}
use Rattle.pox_outcomes.specs.Document.{message_end}
use Rattle.pox_outcomes.specs.Elements.{IsElementName, IsTag}
use Rattle.pox_outcomes.specs.Optional.{IsOptional}
use Rattle.pox_outcomes.specs.Body.{results, result_end, IsInside, IsBody}
use Rattle.pox_outcomes.specs.Written.{IsXmlText, none, one, escape_byte, escape_part, escape_text}
use Rattle.pox_outcomes.specs.Answer.{answer_root, answer_header, majors, major_place, severity_word, description_word, message_ref_word, operation_ref_word, status_end, response_end, IsDetails, details_of, IsAnswer}
use Rattle.pox_outcomes.specs.Answered.{answer_start, status, description, operation_name, empty_response, read_response, response, referring, operating, answering, answer_end, answer_text}
use Rattle.pox_outcomes.specs.Laws.{major_told, severity_told, description_told, score_told, answer_told, IsInRange, WrittenAnswerIsRead}
use Rattle.pox_outcomes.specs.declared.outcome.Operation.{Operation}
use Rattle.pox_outcomes.specs.declared.outcome.Operation.TheVariants.{ReplaceResult, ReadResult, DeleteResult}
use Rattle.pox_outcomes.specs.declared.outcome.Outcome.{Outcome}
use Rattle.pox_outcomes.specs.declared.told.Told.{Told}
use Rattle.pox_outcomes.specs.declared.told.Told.TheVariants.{Replaced, ReadScore, ReadNothing, Deleted, UnknownId, BadScore}
use Rattle.pox_outcomes.proofs.WritingLemmas.{escape_part-nil, escape_part-cons}
use Rattle.pox_outcomes.proofs.SequenceLemmas.{joined}
use Rattle.pox_outcomes.proofs.DetailsLemmas.{severity_closing, description_closing, message_closing, operation_closing}
use Rattle.pox_outcomes.proofs.SpellingLemmas.{bare, bare_markup, itself, leaf_written}
use Rattle.pox_outcomes.proofs.BackLemmas.{opening, attributes, leaf, head_text, head_written, xml_ascii, scored_text, score_written, score_is}

-- ---- texts in parts

pub xml_append : (a b : List ℕ) → IsXmlText a → IsXmlText b → IsXmlText (a ++ b)
xml_append a b (none e) is = subst (λ t. IsXmlText (t ++ b)) (sym e) is
xml_append a b (one character rest c behind are) is = one character (rest ++ b) c (xml_append rest b behind is) (ap (λ t. t ++ b) are ∙ append_assoc character rest b)

some_length : (a b : List ℕ) → (length b == 0) ≡ false → (length (a ++ b) == 0) ≡ false
some_length a b long =
    let most = length-append a b in
    grind (arith, nat_tests)

-- a text in two parts, the second of which ends it
escape_split : (first : Bool) (a b : List ℕ) → (length b == 0) ≡ false → escape_part first true (a ++ b) ≡ escape_part first false a ++ escape_part (first && length a == 0) true b
escape_split true [] b long = ap (λ t. t ++ escape_part true true b) (sym (escape_part-nil true false))
escape_split false [] b long = ap (λ t. t ++ escape_part false true b) (sym (escape_part-nil false false))
escape_split first (d ∷ a) b long =
    let last : (length (a ++ b) == 0) ≡ false = some_length a b long in
    let here : escape_part first true (d ∷ (a ++ b)) ≡ escape_byte (first || false) d ++ escape_part false true (a ++ b) =
    escape_part-cons first true d (a ++ b) ∙ ap (λ t. escape_byte (first || (true && t)) d ++ escape_part false true (a ++ b)) last in
    let begun : (first && length (d ∷ a) == 0) ≡ false = not_first first a d in
    here ∙ ap (λ t. escape_byte (first || false) d ++ t) (escape_split false a b long)
    ∙ sym (append_assoc (escape_byte (first || false) d) (escape_part false false a) (escape_part false true b))
    ∙ ap (λ t. t ++ escape_part false true b) (sym (escape_part-cons first false d a))
    ∙ ap (λ t. escape_part first false (d ∷ a) ++ escape_part t true b) (sym begun)
  where
    not_first : (first : Bool) (a : List ℕ) (d : ℕ) → (first && length (d ∷ a) == 0) ≡ false
    not_first true a d = grind (arith, nat_tests)
    not_first false a d = refl

-- ---- a score's text

abbrev is_score_byte : ℕ → Bool
is_score_byte b = is_ascii_digit b || b == 46

score_byte : (b : ℕ) → is_ascii_digit b ≡ true → is_score_byte b ≡ true
score_byte b is = rw is refl

digits_score : (ds : List ℕ) → list_all is_ascii_digit ds ≡ true → list_all is_score_byte ds ≡ true
digits_score [] all = refl
digits_score (b ∷ ds) all =
    let both = and_split (is_ascii_digit b) (list_all is_ascii_digit ds) all in
    let here = score_byte b both.0 in
    rw (here, digits_score ds both.1) refl

record Score (n : ℕ) : Type 0 where
  first : ℕ
  rest : List ℕ
  are : score_text n ≡ first ∷ rest
  bytes : list_all is_score_byte (first ∷ rest) ≡ true

score_of : (n : ℕ) → n ≤ 10 ^ 30 → Score n
score_of n range =
    elim (cases_lt 0 n) [
      | inr least ↦ (let zero_is : n ≡ 0 = omega arith in record { first = 48; rest = []; are = text_zero n zero_is; bytes = refl })
      | inl some_units ↦ elim (cases_lt n (10 ^ 30)) [
        | inr most ↦ (let one_is : n ≡ 10 ^ 30 = omega arith in record { first = 49; rest = []; are = text_one n one_is; bytes = refl })
        | inl less ↦
            (let not_zero : n ≢ 0 = λ z. omega arith in
            let not_one : n ≢ 10 ^ 30 = λ z. omega arith in
            record { first = 48; rest = 46 ∷ digits_in 30 n; are = text_between n not_zero not_one; bytes = digits_score (digits_in 30 n) (digits_are 30 n less).digits })
      ]
    ]

plain_score : (edge : Bool) (b : ℕ) → is_score_byte b ≡ true → escape_byte edge b ≡ b ∷ []
plain_score edge b is =
    itself edge b (grind (arith, nat_tests)) (grind (arith, nat_tests)) (grind (arith, nat_tests)) (grind (arith, nat_tests)) (grind (arith, nat_tests)) (grind (arith, nat_tests)) (grind (arith, nat_tests))

escape_score_bytes : (first last : Bool) (t : List ℕ) → list_all is_score_byte t ≡ true → escape_part first last t ≡ t
escape_score_bytes first last [] all = escape_part-nil first last
escape_score_bytes first last (b ∷ t) all =
    let both = and_split (is_score_byte b) (list_all is_score_byte t) all in
    escape_part-cons first last b t ∙ ap (λ u. u ++ escape_part false last t) (plain_score (first || (last && length t == 0)) b both.0) ∙ ap (λ u. b ∷ u) (escape_score_bytes false last t both.1)

escape_score : (first : Bool) (n : ℕ) → n ≤ 10 ^ 30 → escape_part first true (score_text n) ≡ score_text n
escape_score first n range =
    let s = score_of n range in
    ap (escape_part first true) s.are ∙ escape_score_bytes first true (s.first ∷ s.rest) s.bytes ∙ sym s.are

some_score : (n : ℕ) → n ≤ 10 ^ 30 → (length (score_text n) == 0) ≡ false
some_score n range =
    let s = score_of n range in
    let long = ap length s.are in
    grind (arith, nat_tests)

within_score : (b : ℕ) → is_score_byte b ≡ true → is_within (0x20, 0x7F) b ≡ true
within_score b is = grind (arith, nat_tests)

all_within : (t : List ℕ) → list_all is_score_byte t ≡ true → list_all (is_within (0x20, 0x7F)) t ≡ true
all_within [] all = refl
all_within (b ∷ t) all =
    let both = and_split (is_score_byte b) (list_all is_score_byte t) all in
    let here = within_score b both.0 in
    rw (here, all_within t both.1) refl

xml_score : (n : ℕ) → n ≤ 10 ^ 30 → IsXmlText (score_text n)
xml_score n range =
    let s = score_of n range in
    subst IsXmlText (sym s.are) (xml_ascii (s.first ∷ s.rest) (all_within (s.first ∷ s.rest) s.bytes))

-- ---- the description

score_for : escape_part true false (codes "Score for ") ≡ codes "Score for "
unfolding escape_part
score_for = refl

no_score : escape_part true false (codes "No score for") ≡ codes "No score for"
unfolding escape_part
no_score = refl

unknown : escape_part true false (codes "Unknown sourcedId") ≡ codes "Unknown sourcedId"
unfolding escape_part
unknown = refl

is_now : escape_part false false (codes " is now ") ≡ codes " is now "
unfolding escape_part
is_now = refl

is_at : escape_part false false (codes " is ") ≡ codes " is "
unfolding escape_part
is_at = refl

is_deleted : escape_part false true (codes " is deleted") ≡ codes " is deleted"
unfolding escape_part
is_deleted = refl

is_no_number : escape_part false true (codes " is no number from 0 to 1") ≡ codes " is no number from 0 to 1"
unfolding escape_part
is_no_number = refl

-- an id between words
scored_description : (id words : List ℕ) → (length words == 0) ≡ false → escape_part false true words ≡ words → escape_text (codes "Score for " ++ (id ++ words)) ≡ codes "Score for " ++ (escape_part false false id ++ words)
scored_description id words long same =
    escape_split true (codes "Score for ") (id ++ words) (some_length id words long)
    ∙ ap (λ t. t ++ escape_part false true (id ++ words)) score_for
    ∙ ap (λ t. codes "Score for " ++ t) (escape_split false id words long ∙ ap (λ t. escape_part false false id ++ t) same)

score_words : (words : List ℕ) (n : ℕ) → n ≤ 10 ^ 30 → escape_part false false words ≡ words → escape_part false true (words ++ score_text n) ≡ words ++ score_text n
score_words words n range same =
    escape_split false words (score_text n) (some_score n range) ∙ ap (λ t. t ++ escape_part false true (score_text n)) same ∙ ap (λ t. words ++ t) (escape_score false n range)

three : (a b c d : List ℕ) → a ++ (b ++ (c ++ d)) ≡ ((a ++ b) ++ c) ++ d
three a b c d = simp append_assoc

description_is : (told : Told) (id : List ℕ) → IsInRange told → escape_text (description_told told id) ≡ description told id
description_is (Replaced score) id range =
    scored_description id (codes " is now " ++ score_text score) (some_length (codes " is now ") (score_text score) (some_score score range)) (score_words (codes " is now ") score range is_now)
    ∙ three (codes "Score for ") (escape_part false false id) (codes " is now ") (score_text score)
description_is (ReadScore score) id range =
    scored_description id (codes " is " ++ score_text score) (some_length (codes " is ") (score_text score) (some_score score range)) (score_words (codes " is ") score range is_at)
    ∙ three (codes "Score for ") (escape_part false false id) (codes " is ") (score_text score)
description_is ReadNothing id range = escape_split true (codes "No score for") (32 ∷ id) (grind (arith, nat_tests)) ∙ ap (λ t. t ++ escape_part false true (32 ∷ id)) no_score
description_is Deleted id range = scored_description id (codes " is deleted") refl is_deleted ∙ sym (append_assoc (codes "Score for ") (escape_part false false id) (codes " is deleted"))
description_is UnknownId id range = escape_split true (codes "Unknown sourcedId") (32 ∷ id) (grind (arith, nat_tests)) ∙ ap (λ t. t ++ escape_part false true (32 ∷ id)) unknown
description_is BadScore id range =
    scored_description id (codes " is no number from 0 to 1") refl is_no_number ∙ sym (append_assoc (codes "Score for ") (escape_part false false id) (codes " is no number from 0 to 1"))

around : (a id b : List ℕ) → IsXmlText a → IsXmlText id → IsXmlText b → IsXmlText (a ++ (id ++ b))
around a id b x y z = xml_append a (id ++ b) x (xml_append id b y z)

xml_description : (told : Told) (id : List ℕ) → IsXmlText id → IsInRange told → IsXmlText (description_told told id)
xml_description (Replaced score) id is range =
    around (codes "Score for ") id (codes " is now " ++ score_text score) (xml_ascii (codes "Score for ") refl) is (xml_append (codes " is now ") (score_text score) (xml_ascii (codes " is now ") refl) (xml_score score range))
xml_description (ReadScore score) id is range =
    around (codes "Score for ") id (codes " is " ++ score_text score) (xml_ascii (codes "Score for ") refl) is (xml_append (codes " is ") (score_text score) (xml_ascii (codes " is ") refl) (xml_score score range))
xml_description ReadNothing id is range = xml_append (codes "No score for ") id (xml_ascii (codes "No score for ") refl) is
xml_description Deleted id is range = around (codes "Score for ") id (codes " is deleted") (xml_ascii (codes "Score for ") refl) is (xml_ascii (codes " is deleted") refl)
xml_description UnknownId id is range = xml_append (codes "Unknown sourcedId ") id (xml_ascii (codes "Unknown sourcedId ") refl) is
xml_description BadScore id is range = around (codes "Score for ") id (codes " is no number from 0 to 1") (xml_ascii (codes "Score for ") refl) is (xml_ascii (codes " is no number from 0 to 1") refl)

-- ---- the body

abbrev end_of_body : List ℕ
end_of_body = codes "</imsx_POXBody>"

abbrev body_text : Operation → Told → List ℕ
body_text operation told = codes ">" ++ (response operation told ++ end_of_body)

-- a body that holds an element of the name
with_element : (name rest score : List ℕ) → IsElementName name → IsTag (codes " > <") (IsInside name) score rest → IsBody score (codes "><" ++ ((name ++ rest) ++ end_of_body))
with_element name rest score name_is behind =
    inr (joined _ _ (bare_markup (codes " > <")) (inr (joined _ _ (record { name = name; rest = rest; are = refl; name_is = name_is; behind = behind }) (bare_markup (codes " </imsx_POXBody >")))))

empty_body : (operation : Operation) → IsBody [] (codes ">" ++ (empty_response operation ++ end_of_body))
empty_body ReplaceResult = with_element (codes "replaceResultResponse") (codes "/>") [] (record { start = refl; bytes = refl }) (inl (refl, bare_markup (codes " />")))
empty_body ReadResult = with_element (codes "readResultResponse") (codes "/>") [] (record { start = refl; bytes = refl }) (inl (refl, bare_markup (codes " />")))
empty_body DeleteResult = with_element (codes "deleteResultResponse") (codes "/>") [] (record { start = refl; bytes = refl }) (inl (refl, bare_markup (codes " />")))

-- a readResultResponse with a score, from its name on
abbrev read_element : List ℕ → List ℕ
read_element score = codes "readResultResponse" ++ (codes "><" ++ scored_text results result_end score)

read_response_is : (score : List ℕ) → escape_text score ≡ score → read_response score ≡ codes "<" ++ read_element score
read_response_is score same =
    ap (λ t. (codes "<readResultResponse><result><resultScore><language>en</language><textString>" ++ t) ++ codes "</textString></resultScore></result></readResultResponse>") (sym same)
    ∙ score_is (codes "<readResultResponse><result><resultScore><language") result_end score

read_written : (score : List ℕ) → IsXmlText score → escape_text score ≡ score → IsBody score (codes ">" ++ (read_response score ++ end_of_body))
read_written score is same =
    subst (λ t. IsBody score (codes ">" ++ (t ++ end_of_body))) (sym (read_response_is score same))
    (with_element (codes "readResultResponse") (codes "><" ++ scored_text results result_end score) score (record { start = refl; bytes = refl })
    (inr (joined _ _ (bare_markup (codes " > <")) (inr (refl, score_written results result_end score is)))))

body_written : (operation : Operation) (told : Told) → IsInRange told → IsBody (score_told told) (body_text operation told)
body_written operation (Replaced score) range = empty_body operation
body_written operation (ReadScore score) range = read_written (score_text score) (xml_score score range) (escape_score true score range)
body_written operation ReadNothing range = read_written [] (none refl) (escape_part-nil true true)
body_written operation Deleted range = empty_body operation
body_written operation UnknownId range = empty_body operation
body_written operation BadScore range = empty_body operation

-- ---- the leaves

-- text that is written as it is
record IsPlain (text : List ℕ) : Type 0 where
  xml : IsXmlText text
  same : escape_text text ≡ text

plain_severity : (told : Told) → IsPlain (severity_told told)
unfolding escape_part
plain_severity (Replaced score) = record { xml = xml_ascii (codes "status") refl; same = refl }
plain_severity (ReadScore score) = record { xml = xml_ascii (codes "status") refl; same = refl }
plain_severity ReadNothing = record { xml = xml_ascii (codes "status") refl; same = refl }
plain_severity Deleted = record { xml = xml_ascii (codes "status") refl; same = refl }
plain_severity UnknownId = record { xml = xml_ascii (codes "error") refl; same = refl }
plain_severity BadScore = record { xml = xml_ascii (codes "error") refl; same = refl }

plain_operation : (operation : Operation) → IsPlain (operation_name operation)
unfolding escape_part
plain_operation ReplaceResult = record { xml = xml_ascii (codes "replaceResult") refl; same = refl }
plain_operation ReadResult = record { xml = xml_ascii (codes "readResult") refl; same = refl }
plain_operation DeleteResult = record { xml = xml_ascii (codes "deleteResult") refl; same = refl }

abbrev major_word : Told → List ℕ
major_word told = word_at majors (major_place (major_told told))

-- the status up to the description, around its severity
abbrev state : Told → List ℕ → List ℕ
state told severity =
    codes "<" ++ (bare message_end ++ (bare (major_word told) ++ (bare severity_word ++ (codes ">" ++ (severity ++ (codes "<" ++ (bare severity_closing ++ (bare description_word ++ codes ">"))))))))

status_is : (told : Told) → status told ≡ state told (escape_text (severity_told told))
status_is told = plain_status told ∙ ap (state told) (sym (plain_severity told).same) where
  plain_status : (told : Told) → status told ≡ state told (severity_told told)
  plain_status (Replaced score) = refl
  plain_status (ReadScore score) = refl
  plain_status ReadNothing = refl
  plain_status Deleted = refl
  plain_status UnknownId = refl
  plain_status BadScore = refl

abbrev optional_text : List ℕ → List ℕ → List ℕ → List ℕ → List ℕ
optional_text word closing text behind = bare word ++ (leaf closing text ++ behind)

optional_written : (word closing text behind : List ℕ) (next : List ℕ → Type 0) → IsXmlText text → next behind → IsOptional word closing text next (optional_text word closing text behind)
optional_written word closing text behind next is n = inl (joined _ _ (bare_markup word) (joined _ _ (leaf_written closing text is) n))

abbrev details_text : Outcome → Told → List ℕ
details_text o told =
    optional_text severity_word severity_closing (severity_told told)
    (optional_text description_word description_closing (description_told told o.sourced_id)
    (optional_text message_ref_word message_closing o.message
    (optional_text operation_ref_word operation_closing (operation_name o.operation) (bare status_end ++ (body_text o.operation told ++ bare response_end)))))

details_written : (o : Outcome) (told : Told) → IsXmlText o.message → IsXmlText o.sourced_id → IsInRange told → IsDetails (details_of (answer_told o told)) (details_text o told)
details_written o told message id range =
    optional_written severity_word severity_closing (severity_told told) _ _ (plain_severity told).xml
    (optional_written description_word description_closing (description_told told o.sourced_id) _ _ (xml_description told o.sourced_id id range)
    (optional_written message_ref_word message_closing o.message _ _ message
    (optional_written operation_ref_word operation_closing (operation_name o.operation) _ _ (plain_operation o.operation).xml
    (joined _ _ (bare_markup status_end) (joined _ _ (body_written o.operation told range) (bare_markup response_end))))))

-- ---- the whole

abbrev whole : Outcome → Told → List ℕ
whole o told = head_text answer_root answer_header o.message ++ (bare (major_word told) ++ details_text o told)

whole_written : (o : Outcome) (told : Told) → IsXmlText o.message → IsXmlText o.sourced_id → IsInRange told → IsAnswer (answer_told o told) (whole o told)
whole_written o told message id range = joined _ _ (head_written answer_root answer_header o.message message) (joined _ _ (bare_markup (major_word told)) (details_written o told message id range))

weave : (a b h g m l x1 j s v xs d e xd r xm o n xo z y w t : List ℕ)
    → ((((((((((a ++ (b ++ (h ++ g))) ++ m) ++ (l ++ (x1 ++ (j ++ (s ++ (g ++ (v ++ (l ++ (xs ++ (d ++ g)))))))))) ++ e) ++ (l ++ (xd ++ (r ++ g)))) ++ m) ++ (l ++ (xm ++ (o ++ g)))) ++ n) ++ (l ++ (xo ++ (z ++ g)))) ++ y) ++ (w ++ t)
    ≡ (a ++ (b ++ (h ++ (g ++ ((m ++ l) ++ x1))))) ++ (j ++ (s ++ ((g ++ ((v ++ l) ++ xs)) ++ (d ++ ((g ++ ((e ++ l) ++ xd)) ++ (r ++ ((g ++ ((m ++ l) ++ xm)) ++ (o ++ ((g ++ ((n ++ l) ++ xo)) ++ (z ++ ((g ++ (y ++ w)) ++ t)))))))))))
weave a b h g m l x1 j s v xs d e xd r xm o n xo z y w t = simp append_assoc

abbrev answer_parts : Outcome → Told → List ℕ → List ℕ → List ℕ → List ℕ
answer_parts o told state said operation =
    answer_start ++ escape_text o.message ++ state ++ said ++ referring ++ escape_text o.message ++ operating ++ operation ++ answering ++ response o.operation told ++ answer_end

text_is : (o : Outcome) (told : Told) → IsInRange told → answer_text o told ≡ whole o told
text_is o told range =
    let said = escape_text (description_told told o.sourced_id) in
    let state = state told (escape_text (severity_told told)) in
    ap (λ k. answer_parts o told k (description told o.sourced_id) (operation_name o.operation)) (status_is told)
    ∙ ap (λ k. answer_parts o told state k (operation_name o.operation)) (sym (description_is told o.sourced_id range))
    ∙ ap (λ k. answer_parts o told state said k) (sym (plain_operation o.operation).same)
    ∙ weave (opening answer_root) attributes (bare answer_header) (codes ">") (escape_text o.message) (codes "<") (bare message_end) (bare (major_word told)) (bare severity_word) (escape_text (severity_told told)) (bare severity_closing)
    (bare description_word) said (bare description_closing) (bare message_ref_word) (bare message_closing) (bare operation_ref_word) (escape_text (operation_name o.operation)) (bare operation_closing) (bare status_end)
    (response o.operation told) end_of_body (bare response_end)

pub written_answer_is_read : WrittenAnswerIsRead
written_answer_is_read = λ o told message id range. record {
  front = answer_text o told;
  back = [];
  are = sym (append-nil (answer_text o told));
  first = subst (IsAnswer (answer_told o told)) (sym (text_is o told range)) (whole_written o told message id range);
  second = refl;
}
