-- Runs of bytes that pass a test.
use Rattle.std.proofs.Common.{◌≡◌, ◌≢◌, ℕ, ◌≤◌, ⊎_elim, Bool, true, false, cond, List, [], ◌∷◌, ◌++◌, length, append_assoc, append-nil, refl, sym, ap, ◌∙◌, subst, arith, length-append}
use Rattle.std.specs.List.{list_all}
use Rattle.std.proofs.lemmas.Bool.{false≢true}
use Rattle.lti_outside.proofs.BoolLemmas.{and_split}
use Rattle.pox_outcomes.specs.Language.{Then, StopsAt}
use Rattle.pox_outcomes.proofs.LanguageLemmas.{Leads, compare, left-le, stops_same}
use Rattle.pox_outcomes.proofs.SequenceLemmas.{parts_even, backs_even, parts_same}

-- a run of bytes that pass
abbrev pub IsRun : (ℕ → Bool) → List ℕ → Type 0
IsRun P x = list_all P x ≡ true

-- the text begins with a byte that doesn't pass
abbrev pub BeginsOutside : (ℕ → Bool) → List ℕ → Type 0
BeginsOutside P x = (b : ℕ) × (t : List ℕ) × (x ≡ b ∷ t) × (P b ≡ false)

-- the text doesn't begin with a byte that passes
abbrev pub IsOutside : (ℕ → Bool) → List ℕ → Type 0
IsOutside P [] = Unit {0}
IsOutside P (b ∷ t) = P b ≡ false

-- no byte of a run fails
pub run_no : (P : ℕ → Bool) (a : List ℕ) (b : ℕ) (t : List ℕ) → IsRun P (a ++ b ∷ t) → P b ≡ false → ⊥
run_no P [] b t run fails = false≢true (sym fails ∙ (and_split (P b) (list_all P t) run).0)
run_no P (c ∷ a) b t run fails = run_no P a b t (and_split (P c) (list_all P (a ++ b ∷ t)) run).1 fails

-- a run ends at the first byte that fails
pub run_once : (P : ℕ → Bool) (a c : List ℕ) (b d : ℕ) (s t : List ℕ) → IsRun P a → IsRun P c → P b ≡ false → P d ≡ false → a ++ b ∷ s ≡ c ++ d ∷ t → (a ≡ c) × (b ∷ s ≡ d ∷ t)
run_once P [] [] b d s t ra rc nb nd e = (refl, e)
run_once P [] (y ∷ c) b d s t ra rc nb nd e =
    let head : b ≡ y = cc in
    absurd (false≢true (sym nb ∙ ap P head ∙ (and_split (P y) (list_all P c) rc).0))
run_once P (x ∷ a) [] b d s t ra rc nb nd e =
    let head : x ≡ d = cc in
    absurd (false≢true (sym nd ∙ ap P (sym head) ∙ (and_split (P x) (list_all P a) ra).0))
run_once P (x ∷ a) (y ∷ c) b d s t ra rc nb nd e =
    let head : x ≡ y = cc in
    let tail : a ++ b ∷ s ≡ c ++ d ∷ t = cc in
    let rest = run_once P a c b d s t (and_split (P x) (list_all P a) ra).1 (and_split (P y) (list_all P c) rc).1 nb nd tail in
    (let same = rest.0 in cc, rest.1)

pub run_front : (P : ℕ → Bool) (p : List ℕ) (c : ℕ) (m run : List ℕ) → run ≡ p ++ c ∷ m → IsRun P run → IsRun P p
run_front P [] c m run e r = refl
run_front P (b ∷ p) c m [] e r = absurd (cc)
run_front P (b ∷ p) c m (a ∷ run) e r =
    let tail : run ≡ p ++ c ∷ m = cc in
    let head : a ≡ b = cc in
    let both = and_split (P a) (list_all P run) r in
    let here : P b ≡ true = ap P (sym head) ∙ both.0 in
    let rest = run_front P p c m run tail both.1 in
    rw (here, rest) refl

pub run_ends : (P : ℕ → Bool) (run front back q : List ℕ) → IsRun P run → run ++ q ≡ front ++ back → BeginsOutside P back → q ≢ []
run_ends P run front back q r e out none =
    let whole : run ≡ front ++ out.0 ∷ out.1 = sym (append-nil run) ∙ ap (λ t. run ++ t) (sym none) ∙ e ∙ ap (λ t. front ++ t) out.2 in
    run_no P front out.0 out.1 (subst (IsRun P) whole r) out.3

-- ---- a run, and what stands behind it

-- a run, and behind it what is said of this run
pub record RunOf (P : ℕ → Bool) (B : List ℕ → List ℕ → Type 0) (bytes : List ℕ) : Type 0 where
  pub front : List ℕ
  pub back : List ℕ
  pub are : bytes ≡ front ++ back
  pub run : IsRun P front
  pub is : B front back

apart_of : (B : List ℕ → List ℕ → Type 0) (P : ℕ → Bool) (run front back m q rest r : List ℕ) (n : ℕ) → IsRun P run → IsRun P front → BeginsOutside P back → IsOutside P rest
    → rest ≡ m ++ r → run ++ (m ++ q) ≡ front ++ back → B front back → StopsAt (B run) rest n → (n ≤ length r) × (q ≢ [])
apart_of B P run front back [] q rest r n ra rb out fails is e b s =
    let long = ap length is in
    (omega (arith, left-le rest n s, long), run_ends P run front back q ra e out)
apart_of B P run front back (c ∷ m) q rest r n ra rb out fails is e b s =
    let first : IsOutside P (c ∷ (m ++ r)) = subst (IsOutside P) is fails in
    let once = run_once P run front c out.0 (m ++ q) out.1 ra rb first out.3 (e ∙ ap (λ t. front ++ t) out.2) in
    let here : B front (c ∷ (m ++ q)) = subst (B front) (out.2 ∙ sym once.1) b in
    s.apart (c ∷ m) q r (subst (λ f. B f (c ∷ (m ++ q))) (sym once.0) here) is

pub leads_run_of : {B : List ℕ → List ℕ → Type 0} (P : ℕ → Bool) (bytes run rest : List ℕ) → bytes ≡ run ++ rest → IsRun P run → IsOutside P rest → ((f x : List ℕ) → B f x → BeginsOutside P x)
    → Leads (RunOf P B) bytes (B run) rest
leads_run_of {B = B} P bytes run rest are is fails outside = record {
  front = run;
  are = are;
  into = λ y b. record { front = run; back = y; are = refl; run = is; is = b };
  stops = λ n s. record {
    front = run ++ s.front;
    rest = s.rest;
    are = are ∙ ap (λ t. run ++ t) s.are ∙ sym (append_assoc run s.front s.rest);
    left_is = s.left_is;
    begins = (s.begins.0, record { front = run; back = s.front ++ s.begins.0; are = append_assoc run s.front s.begins.0; run = is; is = s.begins.1 });
    apart = λ p q r d e.
        ⊎_elim
        (λ h. apart_of B P run d.front d.back h.0 q rest r n is d.run (outside d.front d.back d.is) fails h.2
        (sym (append_assoc run h.0 q) ∙ ap (λ t. t ++ q) (sym h.1) ∙ d.are) d.is s)
        (λ h.
        let front_run : IsRun P p = run_front P p h.0 h.1 run h.2 is in
        let long = ap length h.3 in
        let more = length-append h.1 rest in
        (omega (arith, left-le rest n s, long, more), run_ends P p d.front d.back q front_run d.are (outside d.front d.back d.is)))
        (compare p run r rest (sym e ∙ are));
  };
}

-- a run in front, and the rest from the first byte behind it
pub leads_run : {B : List ℕ → Type 0} (P : ℕ → Bool) (bytes run rest : List ℕ) → bytes ≡ run ++ rest → IsRun P run → IsOutside P rest → ((x : List ℕ) → B x → BeginsOutside P x)
    → Leads (Then (IsRun P) B) bytes B rest
leads_run {B = B} P bytes run rest are is fails outside =
    let leads : Leads (RunOf P (λ f. B)) bytes B rest = leads_run_of {B = λ f. B} P bytes run rest are is fails (λ f. outside) in
    record {
      front = run;
      are = are;
      into = λ y b. record { front = run; back = y; are = refl; first = is; second = b };
      stops = λ n s. stops_same bytes n (λ x h. record { front = h.front; back = h.back; are = h.are; first = h.run; second = h.is }) (λ x h. record { front = h.front; back = h.back; are = h.are; run = h.first; is = h.second }) (leads.stops n s);
    }

-- two runs in front of the same bytes
pub run_parts : {B C : List ℕ → Type 0} (P : ℕ → Bool) {x y : List ℕ} (r s : List ℕ) (a : Then (IsRun P) B x) (b : Then (IsRun P) C y) → BeginsOutside P a.back → BeginsOutside P b.back → x ++ r ≡ y ++ s
    → (a.front ≡ b.front) × (a.back ++ r ≡ b.back ++ s)
run_parts P r s a b oa ob e =
    let fx : a.front ++ (a.back ++ r) ≡ a.front ++ oa.0 ∷ (oa.1 ++ r) = ap (λ t. a.front ++ (t ++ r)) oa.2 in
    let fy : b.front ++ (b.back ++ s) ≡ b.front ++ ob.0 ∷ (ob.1 ++ s) = ap (λ t. b.front ++ (t ++ s)) ob.2 in
    let once = run_once P a.front b.front oa.0 ob.0 (oa.1 ++ r) (ob.1 ++ s) a.first b.first oa.3 ob.3 (sym fx ∙ parts_even r s a b e ∙ fy) in
    (once.0, backs_even r s a b once.0 e)

-- no string of a run and what stands behind it begins another
pub free_run : {B : List ℕ → Type 0} (P : ℕ → Bool) → ((x y r s : List ℕ) → B x → B y → x ++ r ≡ y ++ s → x ≡ y) → ((x : List ℕ) → B x → BeginsOutside P x)
    → (x y r s : List ℕ) → Then (IsRun P) B x → Then (IsRun P) B y → x ++ r ≡ y ++ s → x ≡ y
free_run P free outside x y r s a b e =
    let same = run_parts P r s a b (outside a.back a.second) (outside b.back b.second) e in
    parts_same a b same.0 (free a.back b.back r s a.second b.second same.1)

-- ---- the run in front of some bytes

pub record Front (P : ℕ → Bool) (bytes rest : List ℕ) : Type 0 where
  pub run : List ℕ
  pub are : bytes ≡ run ++ rest
  pub is : IsRun P run
  pub outside : IsOutside P rest

front_cons : (P : ℕ → Bool) (t : Bool) (b : ℕ) (bytes rest : List ℕ) → P b ≡ t → Front P bytes rest → Front P (b ∷ bytes) (cond t rest (b ∷ bytes))
front_cons P true b bytes rest e w = record { run = b ∷ w.run; are = ap (λ t. b ∷ t) w.are; is = rw (e, w.is) refl; outside = w.outside }
front_cons P false b bytes rest e w = record { run = []; are = refl; is = refl; outside = e }

-- what the function leaves stands behind the run
pub front_of : (P : ℕ → Bool) (after : List ℕ → List ℕ) → after [] ≡ [] → ((b : ℕ) (bytes : List ℕ) → after (b ∷ bytes) ≡ cond (P b) (after bytes) (b ∷ bytes)) → (bytes : List ℕ) → Front P bytes (after bytes)
front_of P after none more [] = subst (Front P []) (sym none) (record { run = []; are = refl; is = refl; outside = tt })
front_of P after none more (b ∷ bytes) = subst (Front P (b ∷ bytes)) (sym (more b bytes)) (front_cons P (P b) b bytes (after bytes) refl (front_of P after none more bytes))
