-- Errors that are handed on.
use Rattle.std.proofs.Common.{◌≡◌, ℕ, ◌<◌, List, Bor, Result, Ok, Err, IfOk, IfErr, IsErrAnd, sym, subst, arith}
use Rattle.pox_outcomes.specs.Language.{StopsAt, Reads}
use Rattle.pox_outcomes.specs.Markup.{IsMarkup, word_at}
use Rattle.pox_outcomes.specs.Stops.{IsStop, IsHalt}
use Rattle.pox_outcomes.specs.declared.stops.Left.{Left}
use Rattle.pox_outcomes.specs.declared.stops.Halt.{Halt}
use Rattle.pox_outcomes.specs.declared.stops.Halt.TheVariants.{Stopped, NoMemory}

-- what holds of an error holds where `?` hands it on
pub carried : {T E : Type 0} (P : E → Type 0) (r : Result T E) (e : E) → IsErrAnd r (λ x. x ≡ e) → P e → IfErr r P
carried P (Ok t) e is holds = tt
carried P (Err x) e is holds = subst P (sym is) holds

-- what a halt says of one set, it says of another whose strings stop where those of the first do
pub halts : {L M : List ℕ → Type 0} {bytes rest : List ℕ} (halt : Halt) → IsHalt M rest halt → ((n : ℕ) → StopsAt M rest n → StopsAt L bytes n) → IsHalt L bytes halt
halts (Stopped stop) s to = to stop.left s
halts NoMemory s to = tt

-- what a reader says whose result is handed on
pub halts_on : {T : Type 0} {L M : List ℕ → Type 0} {bytes rest : List ℕ} (r : Result T Halt) → IfErr r (IsHalt M rest) → ((n : ℕ) → StopsAt M rest n → StopsAt L bytes n) → IfErr r (IsHalt L bytes)
halts_on (Ok found) s to = tt
halts_on (Err halt) s to = halts halt s to

pub stops_on : {T : Type 0} {L M : List ℕ → Type 0} {bytes rest : List ℕ} (r : Result T Left) → IfErr r (IsStop M rest) → ((n : ℕ) → StopsAt M rest n → StopsAt L bytes n) → IfErr r (IsStop L bytes)
stops_on (Ok found) s to = tt
stops_on (Err stop) s to = to stop.left s

pub reads_on : {T E : Type 0} {L M : T → List ℕ → Type 0} {bytes rest : List ℕ} (r : Result (T × Bor (List ℕ)) E) → IfOk r (λ found. Reads (M found.0) rest found.1.now) → ((v : T) (last : List ℕ) → Reads (M v) rest last → Reads (L v) bytes last)
    → IfOk r (λ found. Reads (L found.0) bytes found.1.now)
reads_on (Ok found) reads to = to found.0 found.1.now reads
reads_on (Err e) reads to = tt

pub rests_on : {E : Type 0} {L M : List ℕ → Type 0} {bytes rest : List ℕ} (r : Result (Bor (List ℕ)) E) → IfOk r (λ found. Reads M rest found.now) → ((last : List ℕ) → Reads M rest last → Reads L bytes last) → IfOk r (λ found. Reads L bytes found.now)
rests_on (Ok found) reads to = to found.now reads
rests_on (Err e) reads to = tt

-- the word that was found
pub found_at : (words : List (List ℕ)) (place k : ℕ) {bytes rest : List ℕ} → place ≡ k → Reads (IsMarkup (word_at words place)) bytes rest → Reads (IsMarkup (word_at words k)) bytes rest
found_at words place k {bytes = bytes} {rest = rest} e r = subst (λ (k : ℕ). Reads (IsMarkup (word_at words k)) bytes rest) e r

pub second_found : (words : List (List ℕ)) (place : ℕ) {bytes rest : List ℕ} → place < 2 → (place ≡ 0 → ⊥) → Reads (IsMarkup (word_at words place)) bytes rest → Reads (IsMarkup (word_at words 1)) bytes rest
second_found words place within other r = found_at words place 1 (omega arith) r

pub first_other : (words : List (List ℕ)) (place : ℕ) {bytes rest : List ℕ} → place < 2 → (place ≡ 1 → ⊥) → Reads (IsMarkup (word_at words place)) bytes rest → Reads (IsMarkup (word_at words 0)) bytes rest
first_other words place within other r = found_at words place 0 (omega arith) r
