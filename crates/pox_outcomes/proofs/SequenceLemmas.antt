-- Strings one after another, and the values that they say.
use Rattle.std.proofs.Common.{◌≡◌, ℕ, List, ◌++◌, append_assoc, refl, sym, ap, ◌∙◌, subst}
use Rattle.std.proofs.lemmas.List.{append_cancel_left}
use Rattle.pox_outcomes.specs.Language.{Then, ◌▸◌, StopsAt, Reads, Any, IsOnce}
use Rattle.pox_outcomes.proofs.LanguageLemmas.{IsPrefixFree, after_leads, leads_first, reads_as, stops_here, stops_prefix, stops_same}

-- ---- strings in two parts

-- some string of the set
abbrev pub Some : (List ℕ → Type 0) → Type 0
Some A = (y : List ℕ) × A y

pub some_then : {A B : List ℕ → Type 0} → Some A → Some B → Some (A ▸ B)
some_then a b = (a.0 ++ b.0, record { front = a.0; back = b.0; are = refl; first = a.1; second = b.1 })

abbrev pub joined : {A B : List ℕ → Type 0} (x y : List ℕ) → A x → B y → Then A B (x ++ y)
joined x y a b = record { front = x; back = y; are = refl; first = a; second = b }

pub then_second : {A B D : List ℕ → Type 0} {x : List ℕ} (h : Then A B x) → D h.back → Then A D x
then_second h d = record { front = h.front; back = h.back; are = h.are; first = h.first; second = d }

pub then_first : {A B C : List ℕ → Type 0} {x : List ℕ} (h : Then A B x) → C h.front → Then C B x
then_first h c = record { front = h.front; back = h.back; are = h.are; first = c; second = h.second }

-- the first parts are the same, and so is what stands behind
pub behind_same : (a b x y : List ℕ) → a ≡ b → a ++ x ≡ b ++ y → x ≡ y
behind_same a b x y same e = append_cancel_left b x y (ap (λ t. t ++ x) (sym same) ∙ e)

-- two strings in front of the same bytes, part by part
pub parts_even : {A B C D : List ℕ → Type 0} {x y : List ℕ} (r s : List ℕ) (a : Then A B x) (b : Then C D y) → x ++ r ≡ y ++ s → a.front ++ (a.back ++ r) ≡ b.front ++ (b.back ++ s)
parts_even r s a b e = sym (append_assoc a.front a.back r) ∙ ap (λ t. t ++ r) (sym a.are) ∙ e ∙ ap (λ t. t ++ s) b.are ∙ append_assoc b.front b.back s

pub backs_even : {A B C D : List ℕ → Type 0} {x y : List ℕ} (r s : List ℕ) (a : Then A B x) (b : Then C D y) → a.front ≡ b.front → x ++ r ≡ y ++ s → a.back ++ r ≡ b.back ++ s
backs_even r s a b same e = behind_same a.front b.front (a.back ++ r) (b.back ++ s) same (parts_even r s a b e)

pub parts_same : {A B C D : List ℕ → Type 0} {x y : List ℕ} (a : Then A B x) (b : Then C D y) → a.front ≡ b.front → a.back ≡ b.back → x ≡ y
parts_same a b front back = a.are ∙ ap (λ f. f ++ a.back) front ∙ ap (λ k. b.front ++ k) back ∙ sym b.are

-- one after another, what is the same in each part is the same
pub then_once : {A B C D : List ℕ → Type 0} {P Q : Type 0} (x y r s : List ℕ) → ((x y r s : List ℕ) → A x → C y → x ++ r ≡ y ++ s → P × (x ≡ y)) → ((x y r s : List ℕ) → B x → D y → x ++ r ≡ y ++ s → Q × (x ≡ y))
    → Then A B x → Then C D y → x ++ r ≡ y ++ s → P × Q × (x ≡ y)
then_once x y r s first second a b e =
    let same = first a.front b.front (a.back ++ r) (b.back ++ s) a.first b.first (parts_even r s a b e) in
    let next = second a.back b.back r s a.second b.second (backs_even r s a b same.1 e) in
    (same.0, next.0, parts_same a b same.1 next.1)

pub then_free : {A B : List ℕ → Type 0} → IsPrefixFree A → IsPrefixFree B → IsPrefixFree (Then A B)
then_free fa fb x y r s a b e =
    (then_once {P = Unit {0}} {Q = Unit {0}} x y r s (λ x y r s a b e. (tt, fa x y r s a b e)) (λ x y r s a b e. (tt, fb x y r s a b e)) a b e).2

-- a stop in the first part, and one behind it
pub stops_first_part : {A B : List ℕ → Type 0} {bytes : List ℕ} {n : ℕ} → Some B → StopsAt A bytes n → StopsAt (A ▸ B) bytes n
stops_first_part {bytes = bytes} {n = n} b s = stops_here bytes n b.0 b.1 s

pub stops_second_part : {A B : List ℕ → Type 0} {bytes rest : List ℕ} {n : ℕ} → IsPrefixFree A → Reads A bytes rest → StopsAt B rest n → StopsAt (A ▸ B) bytes n
stops_second_part {bytes = bytes} {rest = rest} {n = n} free r s = (leads_first bytes rest free r).stops n s

-- ---- families of strings, one set for each value

pub free_once : {V : Type 0} {L : V → List ℕ → Type 0} → IsOnce L → IsPrefixFree (Any L)
free_once once x y r s a b e = (once a.0 b.0 x y r s a.1 b.1 e).1

pub any_reads : {V : Type 0} (L : V → List ℕ → Type 0) (v : V) {bytes rest : List ℕ} → Reads (L v) bytes rest → Reads (Any L) bytes rest
any_reads L v r = reads_as (λ x l. (v, l)) r

-- the same strings under other values
pub stops_named : {V W : Type 0} (L : V → List ℕ → Type 0) (K : W → List ℕ → Type 0) (to : V → W) (from : W → V) → ((v : V) (x : List ℕ) → L v x → K (to v) x) → ((w : W) (x : List ℕ) → K w x → L (from w) x)
    → {bytes : List ℕ} {n : ℕ} → StopsAt (Any L) bytes n → StopsAt (Any K) bytes n
stops_named L K to from there back {bytes = bytes} {n = n} s = stops_same bytes n (λ x h. (to h.0, there h.0 x h.1)) (λ x h. (from h.0, back h.0 x h.1)) s

-- a string without a value, and one of the family
module _ {V : Type 0} (A : List ℕ → Type 0) (L : V → List ℕ → Type 0) where
  abbrev pub Behind : V → List ℕ → Type 0
  Behind v = A ▸ L v

  to_behind : (x : List ℕ) → (A ▸ Any L) x → Any Behind x
  to_behind x h = (h.second.0, then_second h h.second.1)

  same_behind : {bytes : List ℕ} {n : ℕ} → StopsAt (A ▸ Any L) bytes n → StopsAt (Any Behind) bytes n
  same_behind {bytes = bytes} {n = n} s = stops_same bytes n to_behind (λ x h. then_second h.1 (h.0, h.1.second)) s

  pub behind_some : Some A → Some (Any L) → Some (Any Behind)
  behind_some a l = let t = some_then a l in (t.0, to_behind t.0 t.1)

  pub behind_here : Some (Any L) → {bytes : List ℕ} {n : ℕ} → StopsAt A bytes n → StopsAt (Any Behind) bytes n
  behind_here l {bytes = bytes} {n = n} s = same_behind (stops_here bytes n l.0 l.1 s)

  pub behind_on : IsPrefixFree A → {bytes rest : List ℕ} {n : ℕ} → Reads A bytes rest → StopsAt (Any L) rest n → StopsAt (Any Behind) bytes n
  behind_on free {bytes = bytes} {rest = rest} {n = n} r s = same_behind ((leads_first bytes rest free r).stops n s)

  pub behind_once : IsPrefixFree A → IsOnce L → IsOnce Behind
  behind_once free once v w x y r s a b e = let t = then_once {P = Unit {0}} x y r s (λ x y r s a b e. (tt, free x y r s a b e)) (once v w) a b e in (t.1, t.2)

-- a string of the family, and one without a value
module _ {V : Type 0} (L : V → List ℕ → Type 0) (A : List ℕ → Type 0) where
  abbrev pub Before : V → List ℕ → Type 0
  Before v = L v ▸ A

  to_before : (x : List ℕ) → (Any L ▸ A) x → Any Before x
  to_before x h = (h.first.0, then_first h h.first.1)

  same_before : {bytes : List ℕ} {n : ℕ} → StopsAt (Any L ▸ A) bytes n → StopsAt (Any Before) bytes n
  same_before {bytes = bytes} {n = n} s = stops_same bytes n to_before (λ x h. then_first h.1 (h.0, h.1.first)) s

  pub before_some : Some (Any L) → Some A → Some (Any Before)
  before_some l a = let t = some_then l a in (t.0, to_before t.0 t.1)

  pub before_here : Some A → {bytes : List ℕ} {n : ℕ} → StopsAt (Any L) bytes n → StopsAt (Any Before) bytes n
  before_here a {bytes = bytes} {n = n} s = same_before (stops_here bytes n a.0 a.1 s)

  pub before_on : IsOnce L → (v : V) {bytes rest : List ℕ} {n : ℕ} → Reads (L v) bytes rest → StopsAt A rest n → StopsAt (Any Before) bytes n
  before_on once v {bytes = bytes} {rest = rest} {n = n} r s = same_before ((leads_first bytes rest (free_once once) (any_reads L v r)).stops n s)

  pub before_once : IsOnce L → IsPrefixFree A → IsOnce Before
  before_once once free v w x y r s a b e = let t = then_once {Q = Unit {0}} x y r s (once v w) (λ x y r s a b e. (tt, free x y r s a b e)) a b e in (t.0, t.2)

pub once_named : {V W : Type 0} (L : V → List ℕ → Type 0) (K : W → List ℕ → Type 0) (to : V → W) (from : W → V) → ((w : W) → to (from w) ≡ w) → ((w : W) (x : List ℕ) → K w x → L (from w) x) → IsOnce L → IsOnce K
once_named L K to from same back once v w x y r s a b e = let o = once (from v) (from w) x y r s (back v x a) (back w y b) e in (sym (same v) ∙ ap to o.0 ∙ same w, o.1)

-- two values
pub record Both (V W : Type 0) : Type 0 where
  pub one : V
  pub other : W

pub both_same : {V W : Type 0} (p q : Both V W) → p.one ≡ q.one → p.other ≡ q.other → p ≡ q
both_same {V = V} {W = W} p q one other =
    let first : p ≡ record { one = q.one; other = p.other } = ap (λ v. record { one = v; other = p.other }) one in
    let second : ◌≡◌ {A = Both V W} (record { one = q.one; other = p.other }) q = ap (λ w. record { one = q.one; other = w }) other in
    first ∙ second

-- a string of the first family, and behind it one of the family of its value
module _ {V W : Type 0} (L : V → List ℕ → Type 0) (M : V → W → List ℕ → Type 0) where
  abbrev pub Pair : Both V W → List ℕ → Type 0
  Pair p = L p.one ▸ M p.one p.other

  pub pair_some : Some (Any L) → ((v : V) → Some (Any (M v))) → Some (Any Pair)
  pair_some l more = let m = more l.1.0 in (l.0 ++ m.0, (record { one = l.1.0; other = m.1.0 }, record { front = l.0; back = m.0; are = refl; first = l.1.1; second = m.1.1 }))

  pub pair_here : ((v : V) → Some (Any (M v))) → {bytes : List ℕ} {n : ℕ} → StopsAt (Any L) bytes n → StopsAt (Any Pair) bytes n
  pair_here more {bytes = bytes} {n = n} s =
      stops_prefix bytes n (λ x h. (h.1.front, h.1.back, h.1.are, (h.0.one, h.1.first)))
      (λ x l. let m = more l.0 in (m.0, (record { one = l.0; other = m.1.0 }, record { front = x; back = m.0; are = refl; first = l.1; second = m.1.1 }))) s

  pub pair_on : IsOnce L → (v : V) {bytes rest : List ℕ} {n : ℕ} → Reads (L v) bytes rest → StopsAt (Any (M v)) rest n → StopsAt (Any Pair) bytes n
  pair_on once v {bytes = bytes} {rest = rest} {n = n} reads s = (after_leads {L = Any Pair} {M = Any (M v)} bytes reads.front rest reads.are (record { into = pair_into; out = pair_out })).stops n s where
    pair_into : (y : List ℕ) → Any (M v) y → Any Pair (reads.front ++ y)
    pair_into y m = (record { one = v; other = m.0 }, record { front = reads.front; back = y; are = refl; first = reads.is; second = m.1 })

    pair_out : (d r s : List ℕ) → Any Pair d → d ++ r ≡ reads.front ++ s → (y : List ℕ) × (d ≡ reads.front ++ y) × Any (M v) y
    pair_out d r s h e =
        let t = h.1 in
        let same = once h.0.one v t.front reads.front (t.back ++ r) s t.first reads.is (sym (append_assoc t.front t.back r) ∙ ap (λ k. k ++ r) (sym t.are) ∙ e) in
        (t.back, t.are ∙ ap (λ f. f ++ t.back) same.1, subst (λ k. Any (M k) t.back) same.0 (h.0.other, t.second))

  pub pair_once : IsOnce L → ((v : V) → IsOnce (M v)) → IsOnce Pair
  pair_once first next p q x y r s a b e =
      let same = first p.one q.one a.front b.front (a.back ++ r) (b.back ++ s) a.first b.first (parts_even r s a b e) in
      let there : M q.one p.other a.back = subst (λ v. M v p.other a.back) same.0 a.second in
      let rest = next q.one p.other q.other a.back b.back r s there b.second (backs_even r s a b same.1 e) in
      (both_same p q same.0 rest.0, parts_same a b same.1 rest.1)
