-- Leaves that may be left out.
use Rattle.std.proofs.Common.{◌≡◌, ◌≢◌, ℕ, zero, suc, ◌<◌, ◌≤◌, ◌⊎◌, inl, inr, ⊎_elim, Bool, true, false, ◌==◌, List, [], ◌∷◌, ◌++◌, length, append_assoc, append-nil, refl, sym, ap, ◌∙◌, subst, arith, length-append}
use Rattle.std.proofs.lemmas.Bool.Decides.{nat_tests}
use Rattle.pox_outcomes.specs.Language.{◌▸◌, StopsAt, Reads, Any, IsOnce}
use Rattle.pox_outcomes.specs.Markup.{IsMarkup, word_at, is_plain, are_words}
use Rattle.pox_outcomes.specs.Leaves.{IsLeaf}
use Rattle.pox_outcomes.specs.Optional.{IsOptional, IsBehindWord, IsOptionalFront, ReadsOptional}
use Rattle.pox_outcomes.proofs.LanguageLemmas.{Leads, after_leads, stops_prefix, stops_same, compare}
use Rattle.pox_outcomes.proofs.MarkupLemmas.{markup_one}
use Rattle.pox_outcomes.proofs.ChoiceLemmas.{code_words}
use Rattle.pox_outcomes.proofs.SequenceLemmas.{then_second, behind_same, free_once, Behind, behind_once, Both, both_same, Pair, pair_once}
use Rattle.pox_outcomes.proofs.LeafLemmas.{leaf_some, leaf_once}
use Rattle.pox_outcomes.proofs.OptionalFrontLemmas.{behind_word}

-- Strings that begin with one of the words, whichever it is.
pub record IsStage (words : List (List ℕ)) (Next : List ℕ → Type 0) : Type 0 where
  pub begins : (x : List ℕ) → Next x → (place : ℕ) × (place < length words) × (front back : List ℕ) × (x ≡ front ++ back) × IsMarkup (word_at words place) front
  pub goes_on : (place : ℕ) → place < length words → (x : List ℕ) → IsMarkup (word_at words place) x → (y : List ℕ) × Next (x ++ y)
  pub some_word : 0 < length words

-- a word and a leaf of any text or neither, and what stands behind them
abbrev pub Optional : List ℕ → List ℕ → (List ℕ → Type 0) → List ℕ → Type 0
Optional word closing Next bytes = (IsMarkup word ▸ Any (IsLeaf closing) ▸ Next) bytes ⊎ Next bytes

later : (place : ℕ) → (suc place == 0) ≡ false
later place = grind (arith, nat_tests)

stage_some : (words : List (List ℕ)) (Next : List ℕ → Type 0) → IsStage words Next → (y : List ℕ) × Next y
stage_some words Next stage = let m = markup_one (word_at words 0) in let n = stage.goes_on 0 stage.some_word m.0 m.1 in (m.0 ++ n.0, n.1)

module _ (word : List ℕ) (words : List (List ℕ)) (closing : List ℕ) (Next : List ℕ → Type 0) (stage : IsStage words Next) where
  stage_begins : (x : List ℕ) → Optional word closing Next x → (place : ℕ) × (place < length (word ∷ words)) × (front back : List ℕ) × (x ≡ front ++ back) × IsMarkup (word_at (word ∷ words) place) front
  stage_begins x (inl h) = (0, omega arith, h.front, h.back, h.are, h.first)
  stage_begins x (inr n) = let b = stage.begins x n in (suc b.0, omega (arith, b.1), b.2, b.3, b.4, b.5)

  stage_goes_on : (place : ℕ) → place < length (word ∷ words) → (x : List ℕ) → IsMarkup (word_at (word ∷ words) place) x → (y : List ℕ) × Optional word closing Next (x ++ y)
  stage_goes_on zero within x is =
      let l = leaf_some closing in
      let n = stage_some words Next stage in
      (l.0 ++ n.0, inl (record { front = x; back = l.0 ++ n.0; are = refl; first = is; second = record { front = l.0; back = n.0; are = refl; first = l.1; second = n.1 } }))
  stage_goes_on (suc place) within x is = let n = stage.goes_on place (omega (arith, within)) x is in (n.0, inr n.1)

  pub stage_more : IsStage (word ∷ words) (Optional word closing Next)
  stage_more = record { begins = stage_begins; goes_on = stage_goes_on; some_word = omega arith }

  -- ---- a stop at the words or in the leaf

  front_of : (x : List ℕ) → Optional word closing Next x → (f g : List ℕ) × (x ≡ f ++ g) × IsOptionalFront (word ∷ words) closing f
  front_of x (inl h) = (
    h.front ++ h.second.front,
    h.second.back,
    h.are ∙ ap (λ t. h.front ++ t) h.second.are ∙ sym (append_assoc h.front h.second.front h.second.back),
    (0, omega arith, record { front = h.front; back = h.second.front; are = refl; first = h.first; second = h.second.first }),
  )
  front_of x (inr n) =
      let b = stage.begins x n in
      (b.2, b.3, b.4, (suc b.0, omega (arith, b.1), record { front = b.2; back = []; are = sym (append-nil b.2); first = b.5; second = subst (λ (t : Bool). behind_word t closing []) (sym (later b.0)) refl }))

  front_on : (place : ℕ) (x : List ℕ) → place < length (word ∷ words) → (IsMarkup (word_at (word ∷ words) place) ▸ IsBehindWord closing place) x → (y : List ℕ) × Optional word closing Next (x ++ y)
  front_on zero x within h =
      let n = stage_some words Next stage in
      let whole : x ++ n.0 ≡ h.front ++ (h.back ++ n.0) = ap (λ t. t ++ n.0) h.are ∙ append_assoc h.front h.back n.0 in
      (n.0, inl (record { front = h.front; back = h.back ++ n.0; are = whole; first = h.first; second = record { front = h.back; back = n.0; are = refl; first = h.second; second = n.1 } }))
  front_on (suc place) x within h =
      let none : h.back ≡ [] = subst (λ (t : Bool). behind_word t closing h.back) (later place) h.second in
      let same : h.front ≡ x = sym (h.are ∙ ap (λ t. h.front ++ t) none ∙ append-nil h.front) in
      let n = stage.goes_on place (omega (arith, within)) x (subst (IsMarkup (word_at words place)) same h.first) in
      (n.0, inr n.1)

  pub optional_stops : (bytes : List ℕ) (n : ℕ) → StopsAt (IsOptionalFront (word ∷ words) closing) bytes n → StopsAt (Optional word closing Next) bytes n
  optional_stops bytes n s = stops_prefix bytes n front_of (λ x f. front_on f.0 x f.1 f.2) s

  -- ---- behind the leaf

  module _ (all : are_words (word ∷ words) ≡ true) (plain : is_plain closing ≡ true) where
    leaf_out : (front back d r s : List ℕ) → IsMarkup word front → Any (IsLeaf closing) back → Optional word closing Next d → d ++ r ≡ (front ++ back) ++ s → (y : List ℕ) × (d ≡ (front ++ back) ++ y) × Next y
    leaf_out front back d r s w l (inl h) e =
        let t = h.second in
        let whole : h.front ++ (t.front ++ (t.back ++ r)) ≡ front ++ (back ++ s) =
        sym (ap (λ k. k ++ r) (h.are ∙ ap (λ k. h.front ++ k) t.are) ∙ append_assoc h.front (t.front ++ t.back) r ∙ ap (λ k. h.front ++ k) (append_assoc t.front t.back r)) ∙ e ∙ append_assoc front back s in
        let same = (code_words (word ∷ words) all 0 0 (omega arith) (omega arith) h.front front (t.front ++ (t.back ++ r)) (back ++ s) h.first w whole).1 in
        let next = free_once (leaf_once closing plain) t.front back (t.back ++ r) s t.first l (behind_same h.front front (t.front ++ (t.back ++ r)) (back ++ s) same whole) in
        (t.back, h.are ∙ ap (λ k. k ++ h.back) same ∙ ap (λ k. front ++ k) (t.are ∙ ap (λ k. k ++ t.back) next) ∙ sym (append_assoc front back t.back), t.second)
    leaf_out front back d r s w l (inr n) e =
        let b = stage.begins d n in
        let whole : b.2 ++ (b.3 ++ r) ≡ front ++ (back ++ s) = sym (ap (λ k. k ++ r) b.4 ∙ append_assoc b.2 b.3 r) ∙ e ∙ append_assoc front back s in
        let far = code_words (word ∷ words) all (suc b.0) 0 (omega (arith, b.1)) (omega arith) b.2 front (b.3 ++ r) (back ++ s) b.5 w whole in
        absurd (omega (arith, far.0))

    leads_leaf : (bytes rest : List ℕ) → Reads (IsMarkup word ▸ Any (IsLeaf closing)) bytes rest → Leads (Optional word closing Next) bytes Next rest
    leads_leaf bytes rest reads =
        let h = reads.is in
        let are : bytes ≡ (h.front ++ h.back) ++ rest = reads.are ∙ ap (λ t. t ++ rest) h.are in
        after_leads bytes (h.front ++ h.back) rest are (record {
          into = λ y n. inl (record { front = h.front; back = h.back ++ y; are = append_assoc h.front h.back y; first = h.first; second = record { front = h.back; back = y; are = refl; first = h.second; second = n } });
          out = λ d r s o e. leaf_out h.front h.back d r s h.first h.second o e;
        })

    -- ---- where another word stands

    other_apart : (place : ℕ) (front last bytes p q r : List ℕ) (n : ℕ) → place < length words → IsMarkup (word_at words place) front → bytes ≡ front ++ last → StopsAt Next bytes n
        → (IsMarkup word ▸ Any (IsLeaf closing) ▸ Next) (p ++ q) → bytes ≡ p ++ r → (n ≤ length r) × (q ≢ [])
    other_apart place front last bytes p q r n within is are s h e =
        let more = stage.goes_on place within front is in
        let far = (s.apart front more.0 last more.1 are).0 in
        ⊎_elim
        (λ g.
        let whole : h.front ++ h.back ≡ front ++ (g.0 ++ q) = sym h.are ∙ ap (λ t. t ++ q) g.1 ∙ append_assoc front g.0 q in
        let apart = code_words (word ∷ words) all 0 (suc place) (omega arith) (omega (arith, within)) h.front front h.back (g.0 ++ q) h.first is whole in
        absurd (omega (arith, apart.0)))
        (λ g.
        let long = ap length g.3 in
        let most = length-append g.1 last in (
          omega (arith, far, long, most),
          λ none.
              let whole : h.front ++ (h.back ++ g.0 ∷ g.1) ≡ front ++ [] =
              sym (append_assoc h.front h.back (g.0 ∷ g.1)) ∙ ap (λ t. t ++ g.0 ∷ g.1) (sym h.are ∙ ap (λ t. p ++ t) none ∙ append-nil p) ∙ sym g.2 ∙ sym (append-nil front) in
              let apart = code_words (word ∷ words) all 0 (suc place) (omega arith) (omega (arith, within)) h.front front (h.back ++ g.0 ∷ g.1) [] h.first is whole in
              absurd (omega (arith, apart.0)),
        ))
        (compare p front r last (sym e ∙ are))

    other_stops : (place : ℕ) (bytes last : List ℕ) (n : ℕ) → place < length words → Reads (IsMarkup (word_at words place)) bytes last → StopsAt Next bytes n → StopsAt (Optional word closing Next) bytes n
    other_stops place bytes last n within reads s = record {
      front = s.front;
      rest = s.rest;
      are = s.are;
      left_is = s.left_is;
      begins = (s.begins.0, inr s.begins.1);
      apart = λ p q r d e. ⊎_elim (λ h. other_apart place reads.front last bytes p q r n within reads.is reads.are s h e) (λ d. s.apart p q r d e) d;
    }

    leads_other : (place : ℕ) (bytes last : List ℕ) → 0 < place → place < length (word ∷ words) → Reads (IsMarkup (word_at (word ∷ words) place)) bytes last → Leads (Optional word closing Next) bytes Next bytes
    leads_other zero bytes last some_place within reads = absurd (omega (arith, some_place))
    leads_other (suc place) bytes last some_place within reads = record {
      front = [];
      are = refl;
      into = λ y n. inr n;
      stops = λ n s. other_stops place bytes last n (omega (arith, within)) reads s;
    }

    pub optional_leads : (text bytes rest : List ℕ) → ReadsOptional (word ∷ words) closing text bytes rest → Leads (Optional word closing Next) bytes Next rest
    optional_leads text bytes rest (inl reads) =
        let h = reads.is in
        leads_leaf bytes rest (record { front = reads.front; are = reads.are; is = record { front = h.front; back = h.back; are = h.are; first = h.first; second = (text, h.second) } })
    optional_leads text bytes rest (inr other) =
        let b = other.2 in
        subst (Leads (Optional word closing Next) bytes Next) (sym other.1) (leads_other b.0 bytes b.3 b.1 b.2 b.4)

-- ---- what was read

pub optional_reads : (word : List ℕ) (words : List (List ℕ)) (closing text : List ℕ) {bytes rest behind : List ℕ} {next : List ℕ → Type 0} → ReadsOptional (word ∷ words) closing text bytes rest → Reads next rest behind
    → Reads (IsOptional word closing text next) bytes behind
optional_reads word words closing text {behind = behind} (inl reads) n =
    let h = reads.is in
    record {
      front = reads.front ++ n.front;
      are = reads.are ∙ ap (λ t. reads.front ++ t) n.are ∙ sym (append_assoc reads.front n.front behind);
      is = inl (record { front = h.front; back = h.back ++ n.front; are = ap (λ t. t ++ n.front) h.are ∙ append_assoc h.front h.back n.front; first = h.first; second = record { front = h.back; back = n.front; are = refl; first = h.second; second = n.is } });
    }
optional_reads word words closing text (inr other) n = record { front = n.front; are = sym other.1 ∙ n.are; is = inr (other.0, n.is) }

-- ---- its texts

-- The leaf's text, and the value of what stands behind it.
module _ {V : Type 0} (word : List ℕ) (words : List (List ℕ)) (closing : List ℕ) (N : V → List ℕ → Type 0) where
  abbrev pub Opt : Both (List ℕ) V → List ℕ → Type 0
  Opt p = IsOptional word closing p.one (N p.other)

  to_opt : (x : List ℕ) → Optional word closing (Any N) x → Any Opt x
  to_opt x (inl h) = let t = h.second in (record { one = t.first.0; other = t.second.0 }, inl (then_second h (record { front = t.front; back = t.back; are = t.are; first = t.first.1; second = t.second.1 })))
  to_opt x (inr n) = (record { one = []; other = n.0 }, inr (refl, n.1))

  from_opt : (p : Both (List ℕ) V) (x : List ℕ) → Opt p x → Optional word closing (Any N) x
  from_opt p x (inl h) = let t = h.second in inl (then_second h (record { front = t.front; back = t.back; are = t.are; first = (p.one, t.first); second = (p.other, t.second) }))
  from_opt p x (inr n) = inr (p.other, n.1)

  same_opt : {bytes : List ℕ} {n : ℕ} → StopsAt (Optional word closing (Any N)) bytes n → StopsAt (Any Opt) bytes n
  same_opt {bytes = bytes} {n = n} s = stops_same bytes n to_opt (λ x h. from_opt h.0 x h.1) s

  module _ (stage : IsStage words (Any N)) where
    pub opt_stage : IsStage (word ∷ words) (Any Opt)
    opt_stage =
        let more = stage_more word words closing (Any N) stage in
        record {
          begins = λ x h. more.begins x (from_opt h.0 x h.1);
          goes_on = λ place within x is. let y = more.goes_on place within x is in (y.0, to_opt (x ++ y.0) y.1);
          some_word = more.some_word;
        }

    pub opt_here : {bytes : List ℕ} {n : ℕ} → StopsAt (IsOptionalFront (word ∷ words) closing) bytes n → StopsAt (Any Opt) bytes n
    opt_here {bytes = bytes} {n = n} s = same_opt (optional_stops word words closing (Any N) stage bytes n s)

    module _ (all : are_words (word ∷ words) ≡ true) (plain : is_plain closing ≡ true) where
      pub opt_on : {bytes rest : List ℕ} {n : ℕ} (text : List ℕ) → ReadsOptional (word ∷ words) closing text bytes rest → StopsAt (Any N) rest n → StopsAt (Any Opt) bytes n
      opt_on {bytes = bytes} {rest = rest} {n = n} text reads s = same_opt ((optional_leads word words closing (Any N) stage all plain text bytes rest reads).stops n s)

      word_apart : (v : V) (front back y r s : List ℕ) → IsMarkup word front → N v y → (front ++ back) ++ r ≡ y ++ s → ⊥
      word_apart v front back y r s w n e =
          let b = stage.begins y (v, n) in
          let far = code_words (word ∷ words) all 0 (suc b.0) (omega arith) (omega (arith, b.1)) front b.2 (back ++ r) (b.3 ++ s) w b.5 (sym (append_assoc front back r) ∙ e ∙ ap (λ k. k ++ s) b.4 ∙ append_assoc b.2 b.3 s) in
          omega (arith, far.0)

      -- the word, a leaf and what stands behind it
      abbrev Found : Both (List ℕ) V → List ℕ → Type 0
      Found = Behind (IsMarkup word) (Pair (IsLeaf closing) (λ text. N))

      found_once : IsOnce N → IsOnce Found
      found_once once =
          behind_once (IsMarkup word) (Pair (IsLeaf closing) (λ text. N)) (λ x y r s a b e. (code_words (word ∷ words) all 0 0 (omega arith) (omega arith) x y r s a b e).1)
          (pair_once (IsLeaf closing) (λ text. N) (leaf_once closing plain) (λ text. once))

      pub opt_once : IsOnce N → IsOnce Opt
      opt_once once p q x y r s (inl a) (inl b) e = found_once once p q x y r s a b e
      opt_once once p q x y r s (inl a) (inr b) e = absurd (word_apart q.other a.front a.back y r s a.first b.1 (sym (ap (λ k. k ++ r) a.are) ∙ e))
      opt_once once p q x y r s (inr a) (inl b) e = absurd (word_apart p.other b.front b.back x s r b.first a.1 (sym (ap (λ k. k ++ s) b.are) ∙ sym e))
      opt_once once p q x y r s (inr a) (inr b) e = let o = once p.other q.other x y r s a.1 b.1 e in (both_same p q (a.0 ∙ sym b.0) o.0, o.1)
