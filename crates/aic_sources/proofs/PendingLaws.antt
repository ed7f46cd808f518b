-- The words that the code makes of the sources are the words of the definitions.
use mathlib.Core.Path.{◌≡◌, refl, sym, ap, ap₂, ◌∙◌}
use mathlib.Core.Bool.{Bool, true, false, not, ◌&&◌, ◌||◌}
use mathlib.Core.List.{List}
use Prim.Native.Nat.{ℕ, ◌/◌, ◌%◌, ◌<◌}
use native.Mathlib.Omega.{arith}
use native.Mathlib.Decide.{dec_lt}
use borrow.Author.Tests.{eq-eqb, ne_eqb, lt-ltb, le-ltb}
use lib.Dec.{eqb, ltb}
use lib.ListN.{get_or}
use Rattle.words.specs.Choice.{pick}
use Rattle.words.specs.Word.{bit, word_of, either, both, without}
use Rattle.words.proofs.CountingLaws.{any_same}
use Rattle.words.proofs.WordLaws.{bit-word_of, word_of-same, word-is, bit-either, bit-both, bit-without, either_lt, both_lt, bit_alone, nonzero_any}
use Rattle.aic_record.specs.declared.Aic.{Aic}
use Rattle.aic_record.specs.Mode.{type_of, edge_of, mode_at, kind, edge}
use Rattle.aic_sources.specs.Pending.{active_low, active_at, active, pending, asking, pending_word, edge_word}
use Rattle.aic_sources.specs.Fast.{fast, fast_asks}
use Rattle.aic_sources.specs.Normal.{waiting}
use Rattle.aic_sources.specs.Search.{mode_word}

-- ---- a choice of bits

pick_or : (m a b : Bool) → ((m && a) || (b && not m)) ≡ pick m a b
unfolding pick
pick_or true true b = refl
pick_or true false true = refl
pick_or true false false = refl
pick_or false a true = refl
pick_or false a false = refl

pick-not : (m b : Bool) → ((m && not b) || (b && not m)) ≡ pick m (not b) b
unfolding pick
pick-not true true = refl
pick-not true false = refl
pick-not false true = refl
pick-not false false = refl

pub blended : (m a b : ℕ) → either (both m a) (without b m) ≡ word_of 32 (λ k. pick (bit m k) (bit a k) (bit b k))
blended m a b =
    word-is 32 (either (both m a) (without b m)) (λ k. pick (bit m k) (bit a k) (bit b k)) (either_lt (both m a) (without b m))
    (λ k l. bit-either (both m a) (without b m) k l ∙ ap₂ ◌||◌ (bit-both m a k l) (bit-without b m k l) ∙ pick_or (bit m k) (bit a k) (bit b k))

pub flipped : (m b : ℕ) → either (without m b) (without b m) ≡ word_of 32 (λ k. pick (bit m k) (not (bit b k)) (bit b k))
flipped m b =
    word-is 32 (either (without m b) (without b m)) (λ k. pick (bit m k) (not (bit b k)) (bit b k)) (either_lt (without m b) (without b m))
    (λ k l. bit-either (without m b) (without b m) k l ∙ ap₂ ◌||◌ (bit-without m b k l) (bit-without b m k l) ∙ pick-not (bit m k) (bit b k))

-- ---- what bits 5 and 6 of a mode tell

pub edge-bit : (m : ℕ) → bit m 5 ≡ edge_of m
unfolding bit
edge-bit m = ap (λ (n : ℕ). eqb n 1) {x = m / 32 % 2} {y = m / 32 % 4 % 2} (omega arith)

pub low_bit : (m : ℕ) → not (bit m 6) ≡ ltb (type_of m) 2
unfolding bit
low_bit m = go (dec_lt (m / 32 % 4) 2)
  where
    go : Dec (m / 32 % 4 < 2) → not (eqb (m / 64 % 2) 1) ≡ ltb (m / 32 % 4) 2
    go (yes l) = ap not (ne_eqb (m / 64 % 2) 1 (omega arith)) ∙ sym (lt-ltb (m / 32 % 4) 2 l)
    go (no g) = ap not (eq-eqb (m / 64 % 2) 1 (omega arith)) ∙ sym (le-ltb (m / 32 % 4) 2 (omega arith))

bit-mode_word : (mode : List ℕ) (j k : ℕ) → k < 32 → bit (mode_word mode j) k ≡ bit (get_or mode k 0) j
unfolding mode_word
bit-mode_word mode j k l = bit-word_of 32 (λ i. bit (get_or mode i 0) j) k l

pub edges_are : (s : Aic) → mode_word s.mode 5 ≡ edge_word s
unfolding mode_word edge_word edge
edges_are s = word_of-same 32 (λ k. bit (mode_at s k) 5) (edge s) (λ k l. edge-bit (mode_at s k))

-- ---- the pending sources

pub bit-edges : (s : Aic) (k : ℕ) → k < 32 → bit (edge_word s) k ≡ edge s k
unfolding edge_word
bit-edges s k l = bit-word_of 32 (edge s) k l

pub low-is : (s : Aic) (k : ℕ) → k < 32 → bit (without s.external (mode_word s.mode 6)) k ≡ active_low s k
unfolding active_low kind
low-is s k l =
    bit-without s.external (mode_word s.mode 6) k l
    ∙ ap (λ (b : Bool). bit s.external k && b) (ap not (bit-mode_word s.mode 6 k l) ∙ low_bit (mode_at s k))

-- the same of one source, from its mode and its type
pub low-from : (s : Aic) (k m t : ℕ) (h : Bool) → m ≡ mode_at s k → t ≡ type_of m → h ≡ bit s.external k → (h && ltb t 2) ≡ active_low s k
unfolding active_low kind
low-from s k m t h e f g = ap₂ (λ (x : Bool) (y : ℕ). x && ltb y 2) g (f ∙ ap type_of e)

active-is : (s : Aic) (low k : ℕ) → low ≡ without s.external (mode_word s.mode 6) → k < 32
    → bit (word_of 32 (λ j. pick (bit low j) (not (bit s.lines j)) (bit s.lines j))) k ≡ active s k
unfolding active active_at
active-is s low k e l =
    bit-word_of 32 (λ j. pick (bit low j) (not (bit s.lines j)) (bit s.lines j)) k l
    ∙ ap (λ (b : Bool). pick b (not (bit s.lines k)) (bit s.lines k)) (ap (λ (w : ℕ). bit w k) e ∙ low-is s k l)

pub pending-by : (s : Aic) (low edges act : ℕ) → low ≡ without s.external (mode_word s.mode 6) → edges ≡ edge_word s
    → act ≡ word_of 32 (λ k. pick (bit low k) (not (bit s.lines k)) (bit s.lines k))
    → word_of 32 (λ k. pick (bit edges k) (bit s.memory k) (bit act k)) ≡ pending_word s
unfolding pending_word pending
pending-by s low edges act e f g =
    word_of-same 32 (λ k. pick (bit edges k) (bit s.memory k) (bit act k)) (pending s)
    (λ k l.
    ap₂ (λ (t b : Bool). pick t (bit s.memory k) b) (ap (λ (w : ℕ). bit w k) f ∙ bit-edges s k l)
    (ap (λ (w : ℕ). bit w k) g ∙ active-is s low k e l))

-- ---- those that ask, the fast ones, those that wait

pub asking-by : (s : Aic) → both (pending_word s) s.enabled ≡ word_of 32 (asking s)
unfolding pending_word asking both
asking-by s = word_of-same 32 _ (asking s) (λ k l. ap (λ (b : Bool). b && bit s.enabled k) (bit-word_of 32 (pending s) k l))

pub fast-by : (s : Aic) → either 1 s.forced ≡ word_of 32 (fast s)
unfolding either fast
fast-by s = word_of-same 32 _ (fast s) (λ k l. ap (λ (b : Bool). b || bit s.forced k) (bit_alone 0 k))

pub bit-waits : (s : Aic) (k : ℕ) → k < 32 → bit (without (word_of 32 (asking s)) (word_of 32 (fast s))) k ≡ waiting s k
unfolding waiting
bit-waits s k l =
    bit-without (word_of 32 (asking s)) (word_of 32 (fast s)) k l
    ∙ ap₂ (λ (a b : Bool). a && not b) (bit-word_of 32 (asking s) k l) (bit-word_of 32 (fast s) k l)

pub waits_are : (s : Aic) (w k : ℕ) → w ≡ without (word_of 32 (asking s)) (word_of 32 (fast s)) → k < 32 → bit w k ≡ waiting s k
waits_are s w k e l = ap (λ (x : ℕ). bit x k) e ∙ bit-waits s k l

pub fast_asks-by : (s : Aic) → not (eqb (both (word_of 32 (fast s)) (word_of 32 (asking s))) 0) ≡ fast_asks s
unfolding fast_asks
fast_asks-by s =
    nonzero_any 32 (both (word_of 32 (fast s)) (word_of 32 (asking s))) (both_lt (word_of 32 (fast s)) (word_of 32 (asking s)))
    ∙ any_same 32 _ _ (λ k l. bit-both (word_of 32 (fast s)) (word_of 32 (asking s)) k l ∙ ap₂ ◌&&◌ (bit-word_of 32 (fast s) k l) (bit-word_of 32 (asking s) k l))
