-- Written requests are read back.
use Rattle.std.proofs.Common.{◌≡◌, ℕ, inl, inr, Bool, true, false, ◌&&◌, List, [], ◌∷◌, ◌++◌, append_assoc, append-nil, refl, sym, ap, ◌∙◌, subst, arith, codes}
use Rattle.std.specs.List.{list_all}
use Rattle.lti_outside.proofs.BoolLemmas.{and_split}
use Rattle.pox_outcomes.specs.Markup.{word_at}
use Rattle.pox_outcomes.specs.Characters.{is_within, IsCharacter}
use Rattle.pox_outcomes.specs.Attributes.{is_value_byte, IsValue, closes, holds, IsAttribute, IsAttributes, ends, goes}
use Rattle.pox_outcomes.specs.Declaration.{encodings, parts, IsEncoding, IsAfterVersion, versions, IsDeclaration, IsOpening}
use Rattle.pox_outcomes.specs.Document.{message_end, IsHead}
use Rattle.pox_outcomes.specs.Scores.{IsScored}
use Rattle.pox_outcomes.specs.Request.{root, header, operations, place_of, scores, replace_end, read_end, delete_end, IsTail, IsEnvelope}
use Rattle.pox_outcomes.specs.Written.{IsXmlText, none, one, escape_part, escape_text, request_start, asked, request_end, request_text, IsXml}
use Rattle.pox_outcomes.specs.Laws.{IsFitting, WrittenIsRead}
use Rattle.pox_outcomes.specs.declared.outcome.Operation.{Operation}
use Rattle.pox_outcomes.specs.declared.outcome.Operation.TheVariants.{ReplaceResult, ReadResult, DeleteResult}
use Rattle.pox_outcomes.specs.declared.outcome.Outcome.{Outcome}
use Rattle.pox_outcomes.proofs.SequenceLemmas.{joined}
use Rattle.pox_outcomes.proofs.SpellingLemmas.{bare, bare_markup, leaf_written}

-- ---- the head

encoding_written : IsEncoding (codes "\"") (codes "UTF-8\"?>")
encoding_written = joined _ _ (0, omega arith, bare_markup (word_at encodings 0)) (joined _ _ (bare_markup (codes "\"")) (inl (bare_markup (codes "?>"))))

version_written : IsAfterVersion (codes " encoding=\"UTF-8\"?>")
version_written = inr (joined _ _ (32, refl, refl) (0, omega arith, joined _ _ (bare_markup (word_at parts 0)) encoding_written))

declaration_written : IsDeclaration (codes " version=\"1.0\" encoding=\"UTF-8\"?>")
declaration_written = joined _ _ (32, refl, refl) (joined _ _ (0, omega arith, bare_markup (word_at versions 0)) version_written)

abbrev pub opening : List ℕ → List ℕ
opening root = codes "<?xml version=\"1.0\" encoding=\"UTF-8\"?>" ++ bare root

opening_written : (root : List ℕ) → IsOpening root (opening root)
opening_written root = inl (joined _ _ (bare_markup (codes "<?xml")) (joined _ _ declaration_written (bare_markup root)))

-- ---- the attribute

abbrev is_ascii_value : ℕ → Bool
is_ascii_value b = is_within (0x20, 0x7F) b && is_value_byte 34 b

value_written : (value : List ℕ) → list_all is_ascii_value value ≡ true → IsValue 34 (value ++ 34 ∷ [])
value_written [] all = closes refl
value_written (b ∷ value) all =
    let both = and_split (is_ascii_value b) (list_all is_ascii_value value) all in
    let here = and_split (is_within (0x20, 0x7F) b) (is_value_byte 34 b) both.0 in
    let character : IsCharacter (b ∷ []) = (0, omega arith, joined (b ∷ []) [] (b, refl, here.0) refl) in
    holds (b ∷ []) (value ++ 34 ∷ []) (record { character = character; first = here.1 }) (value_written value both.1) refl

abbrev namespace : List ℕ
namespace = codes "http://www.imsglobal.org/services/ltiv1p1/xsd/imsoms_v1p0"

abbrev pub attributes : List ℕ
attributes = codes " xmlns=\"http://www.imsglobal.org/services/ltiv1p1/xsd/imsoms_v1p0\">"

attribute_written : IsAttribute (codes "xmlns") (codes "xmlns=\"http://www.imsglobal.org/services/ltiv1p1/xsd/imsoms_v1p0\"")
attribute_written = record {
  rest = codes "=\"http://www.imsglobal.org/services/ltiv1p1/xsd/imsoms_v1p0\"";
  are = refl;
  name_is = record { start = refl; bytes = refl };
  value = joined _ _ (bare_markup (codes " =")) (0, omega arith, joined _ _ (bare_markup (codes " \"")) (value_written namespace refl));
}

attributes_written : IsAttributes false attributes
attributes_written =
    goes (codes " ") (codes "xmlns") (codes "xmlns=\"http://www.imsglobal.org/services/ltiv1p1/xsd/imsoms_v1p0\"") (codes ">") refl refl attribute_written (ends refl (bare_markup (codes " >"))) refl

-- a leaf of the text
abbrev pub leaf : List ℕ → List ℕ → List ℕ
leaf closing text = codes ">" ++ ((escape_text text ++ codes "<") ++ bare closing)

-- up to the header, and up to the end of the message identifier
abbrev pub begun : List ℕ → List ℕ → List ℕ
begun root header = opening root ++ (attributes ++ bare header)

abbrev pub head_text : List ℕ → List ℕ → List ℕ → List ℕ
head_text root header message = opening root ++ (attributes ++ (bare header ++ leaf message_end message))

pub head_written : (root header message : List ℕ) → IsXmlText message → IsHead root header message (head_text root header message)
head_written root header message is = joined _ _ (opening_written root) (joined _ _ attributes_written (joined _ _ (bare_markup header) (leaf_written message_end message is)))

-- ---- a score

pub xml_ascii : (text : List ℕ) → list_all (is_within (0x20, 0x7F)) text ≡ true → IsXmlText text
xml_ascii [] all = none refl
xml_ascii (b ∷ text) all =
    let both = and_split (is_within (0x20, 0x7F) b) (list_all (is_within (0x20, 0x7F)) text) all in
    one (b ∷ []) text (0, omega arith, joined (b ∷ []) [] (b, refl, both.0) refl) (xml_ascii text both.1) refl

en_written : escape_text (codes "en") ≡ codes "en"
unfolding escape_part
en_written = refl

abbrev language : List ℕ
language = leaf (codes "/language >") (codes "en")

-- behind the word in front of the language
abbrev scored : List ℕ → List ℕ → List ℕ
scored closing score = language ++ (codes "<textString" ++ (leaf (codes "/textString >") score ++ bare closing))

abbrev pub scored_text : List (List ℕ) → List ℕ → List ℕ → List ℕ
scored_text words closing score = bare (word_at words 0) ++ scored closing score

pub score_written : (words : List (List ℕ)) (closing score : List ℕ) → IsXmlText score → IsScored words closing score (scored_text words closing score)
score_written words closing score is =
    inl (joined _ _ (bare_markup (word_at words 0)) (joined _ _ (codes "en", leaf_written (codes "/language >") (codes "en") (xml_ascii (codes "en") refl))
    (joined _ _ (bare_markup (codes " <textString")) (joined _ _ (leaf_written (codes "/textString >") score is) (bare_markup closing)))))

-- a text inside of words and a closing
joins : (start text last closing end : List ℕ) → (start ++ text) ++ (last ++ (closing ++ end)) ≡ start ++ (((text ++ last) ++ closing) ++ end)
joins start text last closing end = simp append_assoc

-- the score's text as it is written behind some bytes
pub score_is : (start closing score : List ℕ)
    → ((start ++ codes ">en</language><textString>") ++ escape_text score) ++ (codes "</textString>" ++ bare closing) ≡ start ++ scored closing score
score_is start closing score =
    joins (start ++ codes ">en</language><textString>") (escape_text score) (codes "<") (codes "/textString>") (bare closing)
    ∙ append_assoc start (codes ">en</language><textString>") (((escape_text score ++ codes "<") ++ codes "/textString>") ++ bare closing)
    ∙ ap (λ t. start ++ ((codes ">" ++ ((t ++ codes "<") ++ codes "/language>")) ++ (codes "<textString" ++ (leaf (codes "/textString >") score ++ bare closing)))) (sym en_written)

-- ---- what stands behind the id

abbrev tail_text : Operation → List ℕ → List ℕ
tail_text ReplaceResult score = scored_text scores replace_end score
tail_text ReadResult score = bare read_end
tail_text DeleteResult score = bare delete_end

no_replace : ReadResult ≡ ReplaceResult → ⊥
no_replace e = absurd (cc)

no_replace_too : DeleteResult ≡ ReplaceResult → ⊥
no_replace_too e = absurd (cc)

tail_written : (operation : Operation) (score : List ℕ) → IsXmlText score → ((operation ≡ ReplaceResult → ⊥) → score ≡ []) → IsTail operation score (tail_text operation score)
tail_written ReplaceResult score is fits = score_written scores replace_end score is
tail_written ReadResult score is fits = (fits no_replace, bare_markup read_end)
tail_written DeleteResult score is fits = (fits no_replace_too, bare_markup delete_end)

end_is : (operation : Operation) (score : List ℕ) → request_end operation score ≡ codes "<" ++ (bare (codes "/sourcedId >") ++ tail_text operation score)
end_is ReplaceResult score = score_is (codes "</sourcedId></sourcedGUID><result><resultScore><language") replace_end score
end_is ReadResult score = refl
end_is DeleteResult score = refl

asked_is : (operation : Operation) → asked operation ≡ codes "<" ++ (bare message_end ++ (bare (word_at operations (place_of operation)) ++ codes ">"))
asked_is ReplaceResult = refl
asked_is ReadResult = refl
asked_is DeleteResult = refl

start_is : request_start ≡ begun root header ++ codes ">"
start_is = refl

-- ---- the whole

abbrev whole : Outcome → List ℕ
whole o = head_text root header o.message ++ (bare (word_at operations (place_of o.operation)) ++ (leaf (codes "/sourcedId >") o.sourced_id ++ tail_text o.operation o.score_text))

whole_written : (o : Outcome) → IsXml o → IsFitting o → IsEnvelope o (whole o)
whole_written o is fits =
    joined _ _ (head_written root header o.message is.message)
    (joined _ _ (bare_markup (word_at operations (place_of o.operation))) (joined _ _ (leaf_written (codes "/sourcedId >") o.sourced_id is.sourced_id) (tail_written o.operation o.score_text is.score_text fits)))

weave : (a b c g m l x w s y t : List ℕ) → (((((a ++ (b ++ c)) ++ g) ++ m) ++ (l ++ (x ++ (w ++ g)))) ++ s) ++ (l ++ (y ++ t)) ≡ (a ++ (b ++ (c ++ (g ++ ((m ++ l) ++ x))))) ++ (w ++ ((g ++ ((s ++ l) ++ y)) ++ t))
weave a b c g m l x w s y t = simp append_assoc

text_is : (o : Outcome) → request_text o ≡ whole o
text_is o =
    let m = escape_text o.message in
    let s = escape_text o.sourced_id in
    let word = bare (word_at operations (place_of o.operation)) in
    ap (λ k. ((request_start ++ m ++ k) ++ s) ++ request_end o.operation o.score_text) (asked_is o.operation)
    ∙ ap (λ k. ((request_start ++ m ++ (codes "<" ++ (bare message_end ++ (word ++ codes ">")))) ++ s) ++ k) (end_is o.operation o.score_text)
    ∙ weave (opening root) attributes (bare header) (codes ">") m (codes "<") (bare message_end) word s (bare (codes "/sourcedId >")) (tail_text o.operation o.score_text)

pub written_is_read : WrittenIsRead
written_is_read = λ o is fits. record { front = request_text o; back = []; are = sym (append-nil (request_text o)); first = subst (IsEnvelope o) (sym (text_is o)) (whole_written o is fits); second = refl }
