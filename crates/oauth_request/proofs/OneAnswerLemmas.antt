-- A request has one answer.
use Rattle.std.proofs.Common.{◌≡◌, ◌⊎◌, inl, inr, ℕ, true, List, [], ◌∷◌, ◌++◌, refl, sym, ap, ◌∙◌, subst, Some, None}
use Rattle.std.specs.Str.Parse.{digits_value}
use Rattle.oauth_text.specs.Form.{IsForm}
use Rattle.oauth_header.specs.Item.{IsItem}
use Rattle.oauth_header.specs.Items.{Placed}
use Rattle.oauth_header.specs.Header.{IsHeader, AreItems, IsFirstBad, items_of}
use Rattle.http_wire.specs.Message.{RequestParts}
use Rattle.http_wire.specs.Conditions.{first_fault}
use Rattle.oauth_request.specs.Checked.{Terms, IsReadable, IsSigned, IsWellSigned, IsAuthFault, Says, conditions, is_form}
use Rattle.oauth_request.specs.Laws.{OneAnswer}
use Rattle.oauth_request.specs.declared.checking.Signed.{Signed}
use Rattle.oauth_request.specs.declared.faults.AuthFault.{AuthFault}
use Rattle.oauth_request.specs.declared.faults.AuthFault.TheVariants.{BadAuthorization, BadForm, SignatureMismatch, NoMemory}

abbrev first_of : List Placed → Placed → Placed
first_of [] other = other
first_of (x ∷ xs) other = x

abbrev rest_of : List Placed → List Placed
rest_of [] = []
rest_of (x ∷ xs) = xs

-- items that all have readings have no bad one
none_bad : (before after : List Placed) (item : Placed) → AreItems (before ++ item ∷ after) → (¬ IsItem item.bytes) → ⊥
none_bad [] after item all bad = bad all.0
none_bad (x ∷ before) after item all bad = none_bad before after item all.1 bad

header_good : (items : List Placed) (at : ℕ) → AreItems items → IsFirstBad items at → ⊥
header_good items at all first = none_bad first.before first.after first.item (subst AreItems first.are all) first.bad

-- two ways to cut items at the first bad one are one
one_cut : (b d a e : List Placed) (i j : Placed) → b ++ i ∷ a ≡ d ++ j ∷ e → AreItems b → AreItems d → (¬ IsItem i.bytes) → (¬ IsItem j.bytes) → i ≡ j
one_cut [] [] a e i j same good fine bad wrong = ap (λ xs. first_of xs i) same
one_cut [] (y ∷ d) a e i j same good fine bad wrong = absurd (bad (subst (λ (p : Placed). IsItem p.bytes) (sym (ap (λ xs. first_of xs i) same)) fine.0))
one_cut (x ∷ b) [] a e i j same good fine bad wrong = absurd (wrong (subst (λ (p : Placed). IsItem p.bytes) (ap (λ xs. first_of xs x) same) good.0))
one_cut (x ∷ b) (y ∷ d) a e i j same good fine bad wrong = one_cut b d a e i j (ap rest_of same) good.1 fine.1 bad wrong

one_place : (items : List Placed) (at other : ℕ) → IsFirstBad items at → IsFirstBad items other → at ≡ other
one_place items at other one two =
    let same = one_cut one.before two.before one.after two.after one.item two.item (sym one.are ∙ two.are) one.good two.good one.bad two.bad in
    one.place ∙ ap (λ (p : Placed). p.at) same ∙ sym two.place

-- what a form's fault says
abbrev HasBadForm : RequestParts → Type 0
HasBadForm q = IsHeader q.authorization × ((¬ IsForm q.query) ⊎ ((is_form q ≡ true) × (¬ IsForm q.body)))

form_good : (q : RequestParts) → IsReadable q → HasBadForm q → ⊥
form_good q reads bad = elim bad.1 [ inl query ↦ query reads.query | inr body ↦ body.1 (reads.body body.0) ]

module _ (terms : Terms) (q : RequestParts) where
  -- a fault of the parameters or of the signature
  abbrev Outcome : AuthFault → Type 0
  Outcome fault =
      ((fault ≡ SignatureMismatch) × (first_fault (conditions terms q) ≡ None) × (¬ IsSigned terms q)) ⊎ (first_fault (conditions terms q) ≡ Some fault)

  abbrev Sorted : AuthFault → Type 0
  Sorted fault =
      ((at : ℕ) × (fault ≡ BadAuthorization at) × IsFirstBad (items_of q.authorization) at)
      ⊎ (((fault ≡ BadForm) × HasBadForm q) ⊎ ((fault ≡ NoMemory) ⊎ (IsReadable q × Outcome fault)))

  sorted : (fault : AuthFault) → IsAuthFault terms q fault → Sorted fault
  sorted (BadAuthorization at) is = inl (at, refl, is)
  sorted BadForm is = inr (inl (refl, is))
  sorted NoMemory is = inr (inr (inl refl))
  sorted SignatureMismatch is = inr (inr (inr (is.0, inl (refl, is.1, is.2))))
  sorted fault is = inr (inr (inr (is.0, inr is.1)))

  same_outcome : (fault other : AuthFault) → Outcome fault → Outcome other → fault ≡ other
  same_outcome fault other one two =
      elim one [
        | inl f ↦ elim two [ inl g ↦ f.0 ∙ sym g.0 | inr g ↦ absurd (let e = sym f.1 ∙ g in cc) ]
        | inr f ↦ elim two [ inl g ↦ absurd (let e = sym g.1 ∙ f in cc) | inr g ↦ (let e : Some fault ≡ Some other = sym f ∙ g in cc) ]
      ]

  one_fault : (fault other : AuthFault) → Sorted fault → Sorted other → (fault ≡ NoMemory → ⊥) → (other ≡ NoMemory → ⊥) → fault ≡ other
  one_fault fault other one two some more =
      elim one [
        | inl f ↦ elim two [
          | inl g ↦ f.1 ∙ ap BadAuthorization (one_place (items_of q.authorization) f.0 g.0 f.2 g.2) ∙ sym g.1
          | inr r ↦ elim r [
            | inl g ↦ absurd (header_good (items_of q.authorization) f.0 g.1.0 f.2)
            | inr s ↦ elim s [ inl m ↦ absurd (more m) | inr g ↦ absurd (header_good (items_of q.authorization) f.0 g.0.header f.2) ]
          ]
        ]
        | inr t ↦ elim t [
          | inl f ↦ elim two [
            | inl g ↦ absurd (header_good (items_of q.authorization) g.0 f.1.0 g.2)
            | inr r ↦ elim r [ inl g ↦ f.0 ∙ sym g.0 | inr s ↦ elim s [ inl m ↦ absurd (more m) | inr g ↦ absurd (form_good q g.0 f.1) ] ]
          ]
          | inr u ↦ elim u [
            | inl m ↦ absurd (some m)
            | inr f ↦ elim two [
              | inl g ↦ absurd (header_good (items_of q.authorization) g.0 f.0.header g.2)
              | inr r ↦ elim r [
                | inl g ↦ absurd (form_good q f.0 g.1)
                | inr s ↦ elim s [ inl m ↦ absurd (more m) | inr g ↦ same_outcome fault other f.1 g.1 ]
              ]
            ]
          ]
        ]
      ]

  no_fault : (fault : AuthFault) → IsWellSigned terms q → Sorted fault → fault ≡ NoMemory
  no_fault fault well is =
      elim is [
        | inl f ↦ absurd (header_good (items_of q.authorization) f.0 well.readable.header f.2)
        | inr r ↦ elim r [
          | inl g ↦ absurd (form_good q well.readable g.1)
          | inr s ↦ elim s [
            | inl m ↦ m
            | inr o ↦ elim o.1 [ inl g ↦ absurd (g.2 well.signed) | inr g ↦ absurd (let e = sym well.faultless ∙ g in cc) ]
          ]
        ]
      ]

one_text : (x y : List ℕ) → x ∷ [] ≡ y ∷ [] → x ≡ y
one_text x y is = cc

said_once : (q : RequestParts) (signed other : Signed) → Says q signed → Says q other → signed ≡ other
said_once q signed other one two =
    let text = one_text one.timestamp_text two.timestamp_text (sym one.timestamp ∙ two.timestamp) in
    let number = one.number.number ∙ ap (λ t. digits_value 10 t) text ∙ sym two.number.number in
    λ i. record {
      key = one_text signed.key other.key (sym one.key ∙ two.key) i;
      timestamp = number i;
      nonce = one_text signed.nonce other.nonce (sym one.nonce ∙ two.nonce) i;
      pairs = (one.pairs ∙ sym two.pairs) i;
    }

pub one_answer : (terms : Terms) (q : RequestParts) → OneAnswer terms q
one_answer terms q = record {
  none = λ fault well is. no_fault terms q fault well (sorted terms q fault is);
  one = λ fault other is so some more. one_fault terms q fault other (sorted terms q fault is) (sorted terms q other so) some more;
  said = λ signed other one two. said_once q signed other one two;
}
