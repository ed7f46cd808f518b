-- The words of a room that a bound goes by: the sources ahead, those held, and those due a start.
use Prim.Native.Nat.{ℕ, ◌+◌, ◌%◌, ◌<◌}
use mathlib.Core.Path.{◌≡◌, refl, sym, ap, ap₂, ◌∙◌}
use mathlib.Core.Bool.{Bool, true, false, not, ◌&&◌, ◌||◌, and-false}
use mathlib.Core.List.{List}
use native.Mathlib.Omega.{arith}
use native.Mathlib.Decide.{ℕ_discrete, dec_lt}
use lib.Dec.{eqb, ltb, leb}
use lib.ListN.{get_or}
use borrow.Author.Tests.{eq-eqb, ne_eqb, lt-ltb, le-ltb}
use Rattle.words.specs.Counting.{count_below}
use Rattle.words.specs.Word.{bit, word_of, either, both, without, kept}
use Rattle.words.proofs.CountingLaws.{count_le}
use Rattle.words.proofs.WordLaws.{bit-some, bit-word_of, word_of-same, word_of_lt, word-is, without_lt, bit-either, bit-without, bit_kept, bit_alone}
use Rattle.rooms.proofs.PartLaws.{made_get}
use Rattle.aic_record.specs.declared.Aic.{Aic}
use Rattle.aic_record.specs.Mode.{priority, priority_of}
use Rattle.aic_record.specs.Sound.{source_at, level_at, sound}
use Rattle.aic_record.proofs.SoundLaws.{sound-is}
use Rattle.aic_sources.specs.Fast.{fast}
use Rattle.aic_sources.specs.Normal.{ahead}
use Rattle.aic_sources.proofs.HandlerLaws.{priority_small}
use Rattle.aic_room.specs.Room.{class_word, Laid}
use Rattle.aic_room.proofs.CellLaws.{part-is, source_is, level-is, priority-is, seen_what-is, seen_source-is}
use Rattle.aic_runs.specs.Counted.{carries}
use Rattle.aic_runs.specs.Promises.{rival_of}
use Rattle.aic_waits.proofs.FigureLaws.{capped_is}
use Rattle.aic_bounds.specs.Following.{plus}

pub carried_in : {t : Aic} {room : List ℕ} → Laid t room → (k : ℕ) → (eqb (get_or room 8 0) 1 && not (eqb k (get_or room 9 0))) ≡ carries k t
unfolding carries
carried_in h k = ap₂ (λ (x y : ℕ). eqb x 1 && not (eqb k y)) (seen_what-is h) (seen_source-is h)

-- ---- the sources above a priority

pub class-is : {t : Aic} {room : List ℕ} → Laid t room → (q : ℕ) → q < 8 → get_or room (32 + q) 0 ≡ class_word t.mode q
class-is {t} h q l = part-is h 2 q l ∙ made_get 8 (class_word t.mode) q l

class-bit : (t : Aic) (q i : ℕ) → i < 32 → bit (class_word t.mode q) i ≡ eqb (priority t i) q
unfolding class_word priority
class-bit t q i l = bit-word_of 32 (λ k. eqb (priority_of (get_or t.mode k 0)) q) i l

-- above p and below q
abbrev pub between : Aic → ℕ → ℕ → ℕ → Bool
between t p q i = ltb p (priority t i) && ltb (priority t i) q

pub above-none : (t : Aic) (p : ℕ) → 0 ≡ word_of 32 (between t p (p + 1))
above-none t p = sym (bit-some 32 (word_of 32 (between t p (p + 1))) (word_of_lt 32 (between t p (p + 1))) (λ i l. bit-word_of 32 (between t p (p + 1)) i l ∙ none (priority t i) (dec_lt p (priority t i))))
  where
    none : (x : ℕ) → Dec (p < x) → (ltb p x && ltb x (p + 1)) ≡ false
    none x (yes l) = rw (le-ltb x (p + 1) (omega (arith, l)), and-false (ltb p x))
    none x (no n) = rw (le-ltb p x (omega (arith, n)))

pub above_more : (t : Aic) (p q : ℕ) {w c r : ℕ} → p < q → w ≡ word_of 32 (between t p q) → c ≡ class_word t.mode q → r ≡ either w c → r ≡ word_of 32 (between t p (q + 1))
unfolding either
above_more t p q {w} {c} {r} lt ew ec er =
    er ∙ word_of-same 32 (λ i. bit w i || bit c i) (between t p (q + 1))
    (λ i l. ap₂ (λ (x y : Bool). x || y) (ap (λ (v : ℕ). bit v i) ew ∙ bit-word_of 32 (between t p q) i l) (ap (λ (v : ℕ). bit v i) ec ∙ class-bit t q i l)
    ∙ go (priority t i) (ℕ_discrete (priority t i) q) (dec_lt (priority t i) q))
  where
    right : (a : Bool) → ((a && true) || false) ≡ (a && true)
    right true = refl
    right false = refl

    go : (x : ℕ) → Dec (x ≡ q) → Dec (x < q) → ((ltb p x && ltb x q) || eqb x q) ≡ (ltb p x && ltb x (q + 1))
    go x (yes e) d = rw (eq-eqb x q e, lt-ltb p x (omega (arith, e, lt)), le-ltb x q (omega (arith, e)), lt-ltb x (q + 1) (omega (arith, e)))
    go x (no n) (yes l) = rw (ne_eqb x q n, lt-ltb x q l, lt-ltb x (q + 1) (omega (arith, l))) (right (ltb p x))
    go x (no n) (no o) = rw (ne_eqb x q n, le-ltb x q (omega (arith, o)), le-ltb x (q + 1) (omega (arith, n, o)), and-false (ltb p x))

pub above-all : (t : Aic) (p : ℕ) {w : ℕ} → w ≡ word_of 32 (between t p 8) → w ≡ word_of 32 (λ i. ltb p (priority t i))
above-all t p e = e ∙ word_of-same 32 (between t p 8) (λ i. ltb p (priority t i)) (λ i l. rw (lt-ltb (priority t i) 8 (omega (arith, priority_small t i))) (all (ltb p (priority t i))))
  where
    all : (a : Bool) → (a && true) ≡ a
    all true = refl
    all false = refl

-- ---- the sources ahead that are not fast

pub rivals-from : (t : Aic) (k : ℕ) {p a c b u g r : ℕ} → p ≡ priority t k → a ≡ word_of 32 (λ i. ltb p (priority t i)) → c ≡ class_word t.mode p → b ≡ kept k c → u ≡ either a b
    → g ≡ either 1 t.forced → r ≡ without u g → r ≡ word_of 32 (rival_of t k)
unfolding ahead fast
rivals-from t k {p} {a} {c} {b} {u} {g} {r} ep ea ec eb eu eg er =
    er ∙ word-is 32 (without u g) (rival_of t k) (without_lt u g)
    (λ i l. bit-without u g i l
    ∙ ap₂ (λ (x y : Bool). x && not y)
    (ap (λ (v : ℕ). bit v i) eu ∙ bit-either a b i l
    ∙ ap₂ (λ (x y : Bool). x || y) (ap (λ (v : ℕ). bit v i) ea ∙ bit-word_of 32 (λ j. ltb p (priority t j)) i l)
    (ap (λ (v : ℕ). bit v i) eb ∙ bit_kept k c i ∙ ap (λ (x : Bool). x && ltb i k) (ap (λ (v : ℕ). bit v i) ec ∙ class-bit t p i l)))
    (ap (λ (v : ℕ). bit v i) eg ∙ bit-either 1 t.forced i l ∙ ap (λ (x : Bool). x || bit t.forced i) (bit_alone 0 i))
    ∙ ap (λ (q : ℕ). (ltb q (priority t i) || (eqb (priority t i) q && ltb i k)) && not (eqb i 0 || bit t.forced i)) ep)

-- ---- the entries

module _ {t : Aic} {room : List ℕ} (ok : sound t ≡ true) (h : Laid t room) (d : ℕ) (l : d < t.depth) where
  pub source_at_lem : get_or room (40 + d) 0 % 32 ≡ source_at t d
  source_at_lem =
      let r = sound-is t ok in
      let p = source_is h d (omega (arith, l, r.entries)) in
      omega (arith, p, r.sources d l)

  pub over_at : {j : ℕ} → j < 32 → leb (get_or room (64 + j) 0 % 8) (get_or room (48 + d) 0) ≡ leb (priority t j) (level_at t d)
  over_at {j} m = ap₂ leb (priority-is h j m) (level-is h d (omega (arith, l, (sound-is t ok).entries)))

-- ---- the first number

pub plus-first : (a b : ℕ) {p : ℕ} → p ≡ plus 0 a b → p ≡ count_below 32 (bit (both a b))
plus-first a b e = e ∙ sym (capped_is (0 + count_below 32 (bit (both a b))) (omega (arith, count_le 32 (bit (both a b))))) ∙ omega arith
