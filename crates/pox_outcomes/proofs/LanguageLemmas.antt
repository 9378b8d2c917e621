-- Sets of byte strings: what stands behind a string, and where reading stops.
use Rattle.std.proofs.Common.{◌≡◌, ◌≢◌, ℕ, ◌<◌, ◌≤◌, ◌⊎◌, inl, inr, ⊎_elim, Bool, true, List, [], ◌∷◌, ◌++◌, length, min, append_assoc, append-nil, refl, sym, ap, ◌∙◌, subst, arith, length-append}
use Rattle.std.proofs.lemmas.List.{append_cancel_left}
use Rattle.std.proofs.lemmas.Bool.{false≢true, cases_lt}
use Rattle.pox_outcomes.specs.Language.{Then, StopsAt, Reads}
use Rattle.pox_outcomes.specs.Markup.{BeginsOtherwise}
use Rattle.pox_outcomes.specs.Characters.{begins}

-- no string of the set begins another
abbrev pub IsPrefixFree : (List ℕ → Type 0) → Type 0
IsPrefixFree A = (x y r s : List ℕ) → A x → A y → x ++ r ≡ y ++ s → x ≡ y

-- M is what follows x in the strings of L
pub record After (L : List ℕ → Type 0) (x : List ℕ) (M : List ℕ → Type 0) : Type 0 where
  pub into : (y : List ℕ) → M y → L (x ++ y)
  pub out : (d r s : List ℕ) → L d → d ++ r ≡ x ++ s → (y : List ℕ) × (d ≡ x ++ y) × M y

-- To read a string of L from the bytes is to read one of M from the rest.
pub record Leads (L : List ℕ → Type 0) (bytes : List ℕ) (M : List ℕ → Type 0) (rest : List ℕ) : Type 0 where
  pub front : List ℕ
  pub are : bytes ≡ front ++ rest
  pub into : (y : List ℕ) → M y → L (front ++ y)
  pub stops : (n : ℕ) → StopsAt M rest n → StopsAt L bytes n

-- of two fronts of the same bytes one begins the other
abbrev pub IsLonger : List ℕ → List ℕ → List ℕ → List ℕ → Type 0
IsLonger p q x y = (m : List ℕ) × (p ≡ x ++ m) × (y ≡ m ++ q)

abbrev pub IsShorter : List ℕ → List ℕ → List ℕ → List ℕ → Type 0
IsShorter p q x y = (c : ℕ) × (m : List ℕ) × (x ≡ p ++ c ∷ m) × (q ≡ c ∷ (m ++ y))

longer-cons : (b c : ℕ) (p q x y : List ℕ) → b ≡ c → IsLonger p q x y → IsLonger (b ∷ p) q (c ∷ x) y
longer-cons b c p q x y e h = (h.0, cc, h.2)

shorter-cons : (b c : ℕ) (p q x y : List ℕ) → b ≡ c → IsShorter p q x y → IsShorter (b ∷ p) q (c ∷ x) y
shorter-cons b c p q x y e h = (h.0, h.1, cc, h.3)

pub compare : (p x q y : List ℕ) → p ++ q ≡ x ++ y → IsLonger p q x y ⊎ IsShorter p q x y
compare p [] q y e = inl (p, refl, sym e)
compare [] (c ∷ x) q y e = inr (c, x, refl, e)
compare (b ∷ p) (c ∷ x) q y e =
    let head : b ≡ c = cc in
    let tail : p ++ q ≡ x ++ y = cc in
    ⊎_elim (λ h. inl (longer-cons b c p q x y head h)) (λ h. inr (shorter-cons b c p q x y head h)) (compare p x q y tail)

pub no_cons : (q : List ℕ) (c : ℕ) (m : List ℕ) → q ≡ c ∷ m → q ≢ []
no_cons q c m e z = cc

pub after_then : {A B : List ℕ → Type 0} (x : List ℕ) → IsPrefixFree A → A x → After (Then A B) x B
after_then {A = A} {B = B} x free a = record {
  into = λ y b. record { front = x; back = y; are = refl; first = a; second = b };
  out = λ d r s l e.
      let e' : l.front ++ (l.back ++ r) ≡ x ++ s = sym (append_assoc l.front l.back r) ∙ ap (λ t. t ++ r) (sym l.are) ∙ e in
      let same : l.front ≡ x = free l.front x (l.back ++ r) s l.first a e' in
      (l.back, l.are ∙ ap (λ t. t ++ l.back) same, l.second);
}

-- each string of L begins with one of A, and each one of A begins one of L
pub stops_prefix : {A L : List ℕ → Type 0} (bytes : List ℕ) (n : ℕ) → ((x : List ℕ) → L x → (f g : List ℕ) × (x ≡ f ++ g) × A f) → ((x : List ℕ) → A x → (y : List ℕ) × L (x ++ y)) → StopsAt A bytes n → StopsAt L bytes n
stops_prefix {A = A} {L = L} bytes n split more s =
    let on = more (s.front ++ s.begins.0) s.begins.1 in
    record {
      front = s.front;
      rest = s.rest;
      are = s.are;
      left_is = s.left_is;
      begins = (s.begins.0 ++ on.0, subst L (append_assoc s.front s.begins.0 on.0) on.1);
      apart = λ p q r d e.
          let c = split (p ++ q) d in
          ⊎_elim
          (λ h.
          let none : A (c.0 ++ []) = subst A (sym (append-nil c.0)) c.3 in
          let there : bytes ≡ c.0 ++ (h.0 ++ r) = e ∙ ap (λ t. t ++ r) h.1 ∙ append_assoc c.0 h.0 r in
          absurd ((s.apart c.0 [] (h.0 ++ r) none there).1 refl))
          (λ h.
          let found = s.apart p (h.0 ∷ h.1) r (subst A h.2 c.3) e in
          (found.0, no_cons q h.0 (h.1 ++ c.1) h.3))
          (compare p c.0 q c.1 c.2);
    }

-- a stop in the first part
pub stops_here : {A B : List ℕ → Type 0} (bytes : List ℕ) (n : ℕ) (y : List ℕ) → B y → StopsAt A bytes n → StopsAt (Then A B) bytes n
stops_here bytes n y b s = stops_prefix bytes n (λ x h. (h.front, h.back, h.are, h.first)) (λ x a. (y, record { front = x; back = y; are = refl; first = a; second = b })) s

within : (n : ℕ) (front rest back : List ℕ) (bytes : List ℕ) → n ≡ length back → rest ≡ front ++ back → (c : ℕ) (m r : List ℕ) → r ≡ c ∷ (m ++ rest) → n ≤ length r
within n front rest back bytes is are c m r e =
    let long = ap length are ∙ length-append front back in
    let more = ap length e in
    let most = length-append m rest in
    omega (arith, long, more, most, is)

pub left-le : {L : List ℕ → Type 0} (bytes : List ℕ) (n : ℕ) → StopsAt L bytes n → n ≤ length bytes
left-le bytes n s =
    let long = ap length s.are ∙ length-append s.front s.rest in
    let is = s.left_is in
    omega (arith, long, is)

too_long : (p q x y : List ℕ) (c : ℕ) (m : List ℕ) → p ++ q ≡ x ++ y → x ≡ p ++ c ∷ m → q ≡ [] → ⊥
too_long p q x y c m e is none =
    let a = ap length e in
    let b = length-append p q in
    let d = length-append x y in
    let f = ap length is ∙ length-append p (c ∷ m) in
    let g = ap length none in
    omega (arith, a, b, d, f, g)

pub after_leads : {L M : List ℕ → Type 0} (bytes x rest : List ℕ) → bytes ≡ x ++ rest → After L x M → Leads L bytes M rest
after_leads {L = L} {M = M} bytes x rest are after = record {
  front = x;
  are = are;
  into = after.into;
  stops = λ n s. record {
    front = x ++ s.front;
    rest = s.rest;
    are = are ∙ ap (λ t. x ++ t) s.are ∙ sym (append_assoc x s.front s.rest);
    left_is = s.left_is;
    begins = (s.begins.0, subst L (sym (append_assoc x s.front s.begins.0)) (after.into (s.front ++ s.begins.0) s.begins.1));
    apart = λ p q r d e.
        ⊎_elim
        (λ h.
        let all : (p ++ q) ++ [] ≡ x ++ (h.0 ++ q) = append-nil (p ++ q) ∙ ap (λ t. t ++ q) h.1 ∙ append_assoc x h.0 q in
        let o = after.out (p ++ q) [] (h.0 ++ q) d all in
        let y_is : o.0 ≡ h.0 ++ q = append_cancel_left x o.0 (h.0 ++ q) (sym o.1 ∙ ap (λ t. t ++ q) h.1 ∙ append_assoc x h.0 q) in
        s.apart h.0 q r (subst M y_is o.2) h.2)
        (λ h. (
          within n s.front rest s.rest bytes s.left_is s.are h.0 h.1 r h.3,
          λ none.
              let all : (p ++ q) ++ h.0 ∷ h.1 ≡ x ++ [] = ap (λ t. (p ++ t) ++ h.0 ∷ h.1) none ∙ ap (λ t. t ++ h.0 ∷ h.1) (append-nil p) ∙ sym h.2 ∙ sym (append-nil x) in
              let o = after.out (p ++ q) (h.0 ∷ h.1) [] d all in
              too_long p q x o.0 h.0 h.1 o.1 h.2 none,
        ))
        (compare p x r rest (sym e ∙ are));
  };
}

pub leads_same : {L : List ℕ → Type 0} (bytes : List ℕ) → Leads L bytes L bytes
leads_same bytes = record { front = []; are = refl; into = λ y m. m; stops = λ n s. s }

pub leads_then : {L M N : List ℕ → Type 0} (a b c : List ℕ) → Leads L a M b → Leads M b N c → Leads L a N c
leads_then {L = L} a b c f g = record {
  front = f.front ++ g.front;
  are = f.are ∙ ap (λ t. f.front ++ t) g.are ∙ sym (append_assoc f.front g.front c);
  into = λ y n. subst L (sym (append_assoc f.front g.front y)) (f.into (g.front ++ y) (g.into y n));
  stops = λ n s. f.stops n (g.stops n s);
}

-- the two sets have the same strings
pub stops_same : {L M : List ℕ → Type 0} (bytes : List ℕ) (n : ℕ) → ((x : List ℕ) → L x → M x) → ((x : List ℕ) → M x → L x) → StopsAt L bytes n → StopsAt M bytes n
stops_same bytes n to from s = record {
  front = s.front;
  rest = s.rest;
  are = s.are;
  left_is = s.left_is;
  begins = (s.begins.0, to (s.front ++ s.begins.0) s.begins.1);
  apart = λ p q r d e. s.apart p q r (from (p ++ q) d) e;
}

-- the first part read
pub leads_first : {A B : List ℕ → Type 0} (bytes rest : List ℕ) → IsPrefixFree A → Reads A bytes rest → Leads (Then A B) bytes B rest
leads_first bytes rest free reads = after_leads bytes reads.front rest reads.are (after_then reads.front free reads.is)

pub reads_then : {A B : List ℕ → Type 0} {bytes rest last : List ℕ} → Reads A bytes rest → Reads B rest last → Reads (Then A B) bytes last
reads_then {last = last} a b = record {
  front = a.front ++ b.front;
  are = a.are ∙ ap (λ t. a.front ++ t) b.are ∙ sym (append_assoc a.front b.front last);
  is = record { front = a.front; back = b.front; are = refl; first = a.is; second = b.is };
}

-- a string of one set is one of the other
pub reads_as : {A B : List ℕ → Type 0} {bytes rest : List ℕ} → ((x : List ℕ) → A x → B x) → Reads A bytes rest → Reads B bytes rest
reads_as to r = record { front = r.front; are = r.are; is = to r.front r.is }

stops_first : {A B : List ℕ → Type 0} (bytes : List ℕ) (n m : ℕ) → n ≤ m → StopsAt A bytes n → StopsAt B bytes m → StopsAt (λ x. A x ⊎ B x) bytes n
stops_first {A = A} {B = B} bytes n m least a b = record {
  front = a.front;
  rest = a.rest;
  are = a.are;
  left_is = a.left_is;
  begins = (a.begins.0, inl a.begins.1);
  apart = λ p q r d e.
      ⊎_elim (λ d. a.apart p q r d e) (λ d. let far = b.apart p q r d e in (omega (arith, far.0), far.1)) d;
}

pub flipped : {A B : Type 0} → A ⊎ B → B ⊎ A
flipped (inl a) = inr a
flipped (inr b) = inl b

-- one of two sets
pub stops_either : {A B : List ℕ → Type 0} (bytes : List ℕ) (n m : ℕ) → StopsAt A bytes n → StopsAt B bytes m → StopsAt (λ x. A x ⊎ B x) bytes (min n m)
stops_either {A = A} {B = B} bytes n m a b =
    ⊎_elim
    (λ (h : n < m). let is : n ≡ min n m = omega arith in subst (λ (k : ℕ). StopsAt (λ x. A x ⊎ B x) bytes k) is (stops_first bytes n m (omega arith) a b))
    (λ (h : m ≤ n). let is : m ≡ min n m = omega arith in subst (λ (k : ℕ). StopsAt (λ x. A x ⊎ B x) bytes k) is (stops_same bytes m (λ x. flipped) (λ x. flipped) (stops_first bytes m n h b a)))
    (cases_lt n m)

-- no string of the set begins as the bytes do
abbrev pub IsElsewhere : (List ℕ → Type 0) → List ℕ → Type 0
IsElsewhere B bytes = (p q r : List ℕ) → B (p ++ q) → bytes ≡ p ++ r → (p ≡ []) × (q ≢ [])

-- beside a set whose strings begin otherwise
pub stops_beside : {A B : List ℕ → Type 0} (bytes : List ℕ) (n : ℕ) → IsElsewhere B bytes → StopsAt A bytes n → StopsAt (λ x. A x ⊎ B x) bytes n
stops_beside {A = A} {B = B} bytes n beside a = record {
  front = a.front;
  rest = a.rest;
  are = a.are;
  left_is = a.left_is;
  begins = (a.begins.0, inl a.begins.1);
  apart = λ p q r d e.
      ⊎_elim (λ d. a.apart p q r d e)
      (λ d.
      let far = beside p q r d e in
      let same : length bytes ≡ length r = ap length (e ∙ ap (λ t. t ++ r) far.0) in
      let most = left-le bytes n a in
      (omega (arith, most, same), far.1))
      d;
}

-- ---- the first byte

pub first_byte : (P : ℕ → Bool) (x : List ℕ) → begins P x ≡ true → (b : ℕ) × (t : List ℕ) × (x ≡ b ∷ t) × (P b ≡ true)
first_byte P [] e = absurd (false≢true e)
first_byte P (b ∷ t) e = (b, t, refl, e)

pub elsewhere_byte : (b : ℕ) (bytes p q r t : List ℕ) → BeginsOtherwise b bytes → p ++ q ≡ b ∷ t → bytes ≡ p ++ r → (p ≡ []) × (q ≢ [])
elsewhere_byte b bytes [] q r t other e is = (refl, no_cons q b t e)
elsewhere_byte b [] (c ∷ p) q r t other e is = absurd (cc)
elsewhere_byte b (d ∷ bytes) (c ∷ p) q r t other e is = absurd (other cc)
