-- Markup, piece by piece.
use Rattle.std.proofs.Common.{◌≡◌, ◌≢◌, ℕ, ◌+◌, ◌<◌, ◌≤◌, ⊎_elim, Bool, true, false, cond, not, ◌==◌, List, [], ◌∷◌, ◌++◌, length, drop, get_or, MatchBool, append-nil, refl, sym, ap, ◌∙◌, subst, arith, drop-cons, add-one}
use Rattle.std.proofs.lemmas.Bool.{false≢true, cases_Bool}
use Rattle.std.proofs.lemmas.List.{drop_all, append_cancel_left}
use Rattle.lti_outside.proofs.BoolLemmas.{and_split}
use Rattle.pox_outcomes.specs.Language.{Then, StopsAt, Reads}
use Rattle.pox_outcomes.specs.Markup.{is_white, IsWhite, IsMarkup, begins_dark, is_plain, after_white, BeginsOtherwise}
use Rattle.pox_outcomes.proofs.LanguageLemmas.{IsPrefixFree, Leads, leads_first, leads_then}
use Rattle.pox_outcomes.proofs.RunLemmas.{BeginsOutside, Front, front_of, leads_run, free_run}

pub not_true : (t : Bool) → not t ≡ true → t ≡ false
not_true true e = absurd (false≢true e)
not_true false e = refl

-- ---- white bytes in front

pub white_of : (bytes : List ℕ) → Front is_white bytes (after_white bytes)
white_of bytes = front_of is_white after_white refl (λ b t. refl) bytes

pub white_at : {bytes dark : List ℕ} → dark ≡ after_white bytes → Front is_white bytes dark
white_at {bytes = bytes} e = subst (Front is_white bytes) (sym e) (white_of bytes)

-- ---- one piece

-- one byte
abbrev pub IsByte : ℕ → List ℕ → Type 0
IsByte b x = x ≡ b ∷ []

byte_free : (b : ℕ) → IsPrefixFree (IsByte b)
byte_free b x y r s a c e = a ∙ sym c

abbrev pub at_test : Bool → ℕ → List ℕ → Type 0
at_test t b x = MatchBool t (IsWhite x) (x ≡ b ∷ [])

pub outside_markup : (m x : List ℕ) → begins_dark m ≡ true → IsMarkup m x → BeginsOutside is_white x
outside_markup [] x dark is = absurd (false≢true dark)
outside_markup (b ∷ m) x dark is =
    let fails : is_white b ≡ false = not_true (is_white b) dark in
    let other : (b == 32) ≡ false = ⊎_elim (λ h. absurd (false≢true (sym fails ∙ rw h refl))) (λ h. h) (cases_Bool (b == 32)) in
    let front : is.front ≡ b ∷ [] = subst (λ t. at_test t b is.front) other is.first in
    (b, is.back, is.are ∙ ap (λ t. t ++ is.back) front, fails)

plain_first : (t : Bool) (b : ℕ) (m : List ℕ) → (b == 32) ≡ t → is_plain (b ∷ m) ≡ true → cond t (begins_dark m) (not (is_white b)) ≡ true
plain_first t b m e plain = subst (λ (t : Bool). cond t (begins_dark m) (not (is_white b)) ≡ true) e (and_split (cond (b == 32) (begins_dark m) (not (is_white b))) (is_plain m) plain).0

-- markup that goes on behind a space begins dark
pub plain_space : (b : ℕ) (m : List ℕ) → (b == 32) ≡ true → is_plain (b ∷ m) ≡ true → begins_dark m ≡ true
plain_space b m space plain = plain_first true b m space plain

-- any other byte isn't white
pub plain_byte : (b : ℕ) (m : List ℕ) → (b == 32) ≡ false → is_plain (b ∷ m) ≡ true → is_white b ≡ false
plain_byte b m other plain = not_true (is_white b) (plain_first false b m other plain)

pub plain_rest : (b : ℕ) (m : List ℕ) → is_plain (b ∷ m) ≡ true → is_plain m ≡ true
plain_rest b m plain = (and_split (cond (b == 32) (begins_dark m) (not (is_white b))) (is_plain m) plain).1

-- a space of the markup
pub leads_space : (b : ℕ) (m bytes : List ℕ) → (b == 32) ≡ true → is_plain (b ∷ m) ≡ true → Leads (IsMarkup (b ∷ m)) bytes (IsMarkup m) (after_white bytes)
leads_space b m bytes space plain =
    let w = white_of bytes in
    let dark = plain_space b m space plain in
    subst (λ (t : Bool). Leads (Then (at_test t b) (IsMarkup m)) bytes (IsMarkup m) (after_white bytes)) (sym space)
    (leads_run is_white bytes w.run (after_white bytes) w.are w.is w.outside (λ x is. outside_markup m x dark is))

-- any other byte of the markup
pub leads_byte : (b : ℕ) (m rest : List ℕ) → (b == 32) ≡ false → Leads (IsMarkup (b ∷ m)) (b ∷ rest) (IsMarkup m) rest
leads_byte b m rest other =
    subst (λ (t : Bool). Leads (Then (at_test t b) (IsMarkup m)) (b ∷ rest) (IsMarkup m) rest) (sym other)
    (leads_first (b ∷ rest) rest (byte_free b) (record { front = b ∷ []; are = refl; is = refl }))

-- ---- what the markup stands for

-- some string
pub markup_one : (m : List ℕ) → (x : List ℕ) × IsMarkup m x
markup_one [] = ([], refl)
markup_one (b ∷ m) =
    let rest = markup_one m in
    ⊎_elim
    (λ h. (rest.0, record { front = []; back = rest.0; are = refl; first = subst (λ t. at_test t b []) (sym h) refl; second = rest.1 }))
    (λ h. (b ∷ rest.0, record { front = b ∷ []; back = rest.0; are = refl; first = subst (λ t. at_test t b (b ∷ [])) (sym h) refl; second = rest.1 }))
    (cases_Bool (b == 32))

free_at : (t : Bool) (b : ℕ) (m : List ℕ) → ((t ≡ true) → begins_dark m ≡ true) → IsPrefixFree (IsMarkup m) → IsPrefixFree (Then (at_test t b) (IsMarkup m))
free_at true b m dark free = free_run is_white free (λ x is. outside_markup m x (dark refl) is)
free_at false b m dark free = λ x y r s a c e.
    let ea : x ++ r ≡ b ∷ (a.back ++ r) = ap (λ t. t ++ r) (a.are ∙ ap (λ t. t ++ a.back) a.first) in
    let ec : y ++ s ≡ b ∷ (c.back ++ s) = ap (λ t. t ++ s) (c.are ∙ ap (λ t. t ++ c.back) c.first) in
    let tails : a.back ++ r ≡ c.back ++ s = append_cancel_left (b ∷ []) (a.back ++ r) (c.back ++ s) (sym ea ∙ e ∙ ec) in
    a.are ∙ ap (λ t. t ++ a.back) (a.first ∙ sym c.first) ∙ ap (λ t. c.front ++ t) (free a.back c.back r s a.second c.second tails) ∙ sym c.are

-- no string of plain markup begins another
pub free_markup : (m : List ℕ) → is_plain m ≡ true → IsPrefixFree (IsMarkup m)
free_markup [] plain = λ x y r s a c e. a ∙ sym c
free_markup (b ∷ m) plain =
    free_at (b == 32) b m (λ space. plain_space b m space plain) (free_markup m (plain_rest b m plain))

-- ---- the loop

-- what is left of the markup is to be read from the rest
pub record Going (markup bytes : List ℕ) (at : ℕ) (rest : List ℕ) : Type 0 where
  pub leads : Leads (IsMarkup markup) bytes (IsMarkup (drop at markup)) rest
  pub plain : is_plain (drop at markup) ≡ true

at_step : (markup : List ℕ) (at : ℕ) → at < length markup → drop at markup ≡ get_or markup at 0 ∷ drop (at + 1) markup
at_step markup at within = drop-cons markup at 0 within ∙ ap (λ n. get_or markup at 0 ∷ drop n markup) (sym (add-one at))

pub going_space : (markup bytes rest : List ℕ) (at : ℕ) → at < length markup → (get_or markup at 0 == 32) ≡ true → Going markup bytes at rest → Going markup bytes (at + 1) (after_white rest)
going_space markup bytes rest at within space going =
    let b = get_or markup at 0 in
    let m = drop (at + 1) markup in
    let step = at_step markup at within in
    let plain : is_plain (b ∷ m) ≡ true = subst (λ t. is_plain t ≡ true) step going.plain in
    let leads : Leads (IsMarkup markup) bytes (IsMarkup (b ∷ m)) rest = subst (λ t. Leads (IsMarkup markup) bytes (IsMarkup t) rest) step going.leads in
    record { leads = leads_then bytes rest (after_white rest) leads (leads_space b m rest space plain); plain = plain_rest b m plain }

pub going_byte : (markup bytes rest : List ℕ) (at : ℕ) → at < length markup → (get_or markup at 0 == 32) ≡ false → Going markup bytes at (get_or markup at 0 ∷ rest) → Going markup bytes (at + 1) rest
going_byte markup bytes rest at within other going =
    let b = get_or markup at 0 in
    let m = drop (at + 1) markup in
    let step = at_step markup at within in
    let plain : is_plain (b ∷ m) ≡ true = subst (λ t. is_plain t ≡ true) step going.plain in
    let leads : Leads (IsMarkup markup) bytes (IsMarkup (b ∷ m)) (b ∷ rest) = subst (λ t. Leads (IsMarkup markup) bytes (IsMarkup t) (b ∷ rest)) step going.leads in
    record { leads = leads_then bytes (b ∷ rest) rest leads (leads_byte b m rest other); plain = plain_rest b m plain }

-- at the end of the markup
pub going_end : (markup bytes rest : List ℕ) (at : ℕ) → length markup ≤ at → Going markup bytes at rest → Reads (IsMarkup markup) bytes rest
going_end markup bytes rest at past going =
    let done : drop at markup ≡ [] = drop_all at markup past in
    let leads : Leads (IsMarkup markup) bytes (IsMarkup []) rest = subst (λ t. Leads (IsMarkup markup) bytes (IsMarkup t) rest) done going.leads in
    record { front = leads.front; are = leads.are; is = subst (IsMarkup markup) (append-nil leads.front) (leads.into [] refl) }

otherwise : (b : ℕ) (m rest p q r : List ℕ) → BeginsOtherwise b rest → p ++ q ≡ b ∷ m → rest ≡ p ++ r → (length rest ≤ length r) × (q ≢ [])
otherwise b m rest [] q r fails e is = (omega (arith, ap length is), no_nil q b m e) where
  no_nil : (q : List ℕ) (b : ℕ) (m : List ℕ) → q ≡ b ∷ m → q ≢ []
  no_nil q b m e z = cc
otherwise b m [] (c ∷ p) q r fails e is = absurd (cc)
otherwise b m (d ∷ rest) (c ∷ p) q r fails e is = absurd (fails cc)

stops_byte : (b : ℕ) (m rest : List ℕ) → (b == 32) ≡ false → BeginsOtherwise b rest → StopsAt (IsMarkup (b ∷ m)) rest (length rest)
stops_byte b m rest other fails =
    let one = markup_one (b ∷ m) in
    record {
      front = [];
      rest = rest;
      are = refl;
      left_is = refl;
      begins = one;
      apart = λ p q r d e.
          let first : d.front ≡ b ∷ [] = subst (λ t. at_test t b d.front) other d.first in
          otherwise b d.back rest p q r fails (d.are ∙ ap (λ t. t ++ d.back) first) e;
    }

pub going_stops : (markup bytes rest : List ℕ) (at : ℕ) → at < length markup → (get_or markup at 0 == 32) ≡ false → BeginsOtherwise (get_or markup at 0) rest → Going markup bytes at rest
    → StopsAt (IsMarkup markup) bytes (length rest)
going_stops markup bytes rest at within other fails going =
    let b = get_or markup at 0 in
    let m = drop (at + 1) markup in
    let step = at_step markup at within in
    going.leads.stops (length rest) (subst (λ t. StopsAt (IsMarkup t) rest (length rest)) (sym step) (stops_byte b m rest other fails))
