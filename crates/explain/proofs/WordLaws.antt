-- Words with a space before each but the first are found where they stand.
use Prim.Native.Nat.{ℕ, zero, suc, ◌+◌, ◌-◌, ◌<◌}
use mathlib.Core.Path.{◌≡◌, refl, sym, ap, ◌∙◌, subst}
use mathlib.Core.Bool.{true, not}
use mathlib.Core.List.{List, [], ◌∷◌, ◌++◌, append_assoc}
use mathlib.Core.Logic.{◌≢◌}
use native.Mathlib.Nat.{add-zero}
use native.Mathlib.Decide.{dec_lt}
use native.Mathlib.Omega.{arith}
use lib.ListN.{length, get_or, take, drop, replicate, length-append, get_or-append}
use lib.Seq.{get_or-append-add, take-append_seam, drop-append_seam}
use Rattle.tables.specs.Typed.{white, start_from, end_from, past_nth, nth_start, nth_typed}
use Rattle.tables.specs.Layout.{Without}
use Rattle.tables.proofs.SeekLaws.{start_is, end_is}
use Rattle.tables.proofs.LayoutLaws.{high-dark}
use Rattle.explain.proofs.DigitLaws.{High}

-- ---- white space, and what stops a word

abbrev Blank : List ℕ → Type 0
Blank h = (k : ℕ) → k < length h → white (get_or h k 0) ≡ true

abbrev Stops : List ℕ → Type 0
Stops s = 0 < length s → white (get_or s 0 0) ≡ true

a-space : white 32 ≡ true
unfolding white
a-space = refl

blank_spaces : (n : ℕ) → Blank (replicate n 32)
blank_spaces zero k l = absurd (omega arith)
blank_spaces (suc n) zero l = a-space
blank_spaces (suc n) (suc k) l = blank_spaces n k (omega arith)

-- words with white space alone between them
pub data Spaced : List (List ℕ) → List ℕ → Type 0 where
  end : (h : List ℕ) → Blank h → Spaced [] h
  next : (h w : List ℕ) (ws : List (List ℕ)) (s : List ℕ) → Blank h → High w → 0 < length w → Stops s → Spaced ws s → Spaced (w ∷ ws) (h ++ (w ++ s))

-- ---- where they are found

second : (s p q : List ℕ) (j k : ℕ) → s ≡ p ++ q → j ≡ length p + k → get_or s j 0 ≡ get_or q k 0
second s p q j k e f = rw (e, f) (get_or-append-add p q k 0)

long : (s p q : List ℕ) → s ≡ p ++ q → length s ≡ length p + length q
long s p q e = ap length e ∙ length-append p q

-- the words of s from the nth on are ws, and behind them it ends
pub record Found (s : List ℕ) (n : ℕ) (ws : List (List ℕ)) : Type 0 where
  pub each : (k : ℕ) → k < length ws → nth_typed s (n + k) ≡ get_or ws k []
  pub last : nth_start s (n + length ws) ≡ length s

none_left : (s p h : List ℕ) (n : ℕ) → s ≡ p ++ h → past_nth s n ≡ length p → Blank h → nth_start s n ≡ length s
unfolding nth_start
none_left s p h n e past b =
    ap (start_from s) past
    ∙ sym (start_is s (length p) (length s) (record {
      from = omega (arith, long s p h e);
      within = omega arith;
      before = λ j l m. ap not (ap white (second s p h j (j - length p) e (omega arith)) ∙ b (j - length p) (omega (arith, long s p h e)));
      found = λ l. absurd (omega arith);
    }))

-- behind p and white space stands the word w, and then more white space or nothing
module _ (s p h w r : List ℕ) (n : ℕ) (e : s ≡ p ++ (h ++ (w ++ r))) (past : past_nth s n ≡ length p) (b : Blank h) (high : High w) (some : 0 < length w) (q : Stops r) where
  abbrev Front : List ℕ
  Front = p ++ h

  abbrev Whole : List ℕ
  Whole = (p ++ h) ++ w

  at_word : s ≡ Front ++ (w ++ r)
  at_word = e ∙ sym (append_assoc p h (w ++ r))

  at_rest : s ≡ Whole ++ r
  at_rest = at_word ∙ sym (append_assoc Front w r)

  pub begins : nth_start s n ≡ length Front
  unfolding nth_start
  begins =
      ap (start_from s) past
      ∙ sym (start_is s (length p) (length Front) (record {
        from = omega (arith, length-append p h);
        within = omega (arith, long s Front (w ++ r) at_word);
        before = λ j l m.
            let i : j - length p < length h = omega (arith, length-append p h) in
            ap not (ap white (second s p (h ++ (w ++ r)) j (j - length p) e (omega arith) ∙ get_or-append h (w ++ r) 0 (j - length p) i) ∙ b (j - length p) i);
        found = λ l. ap not (high-dark (get_or s (length Front) 0) (omega (arith, first, high 0 some)));
      }))
    where
      first : get_or s (length Front) 0 ≡ get_or w 0 0
      first = second s Front (w ++ r) (length Front) 0 at_word (omega arith) ∙ get_or-append w r 0 0 some

  stops_at : end_from s (length Front) ≡ length Whole
  stops_at =
      sym (end_is s (length Front) (length Whole) (record {
        from = omega (arith, length-append Front w);
        within = omega (arith, long s Whole r at_rest);
        before = λ j l m.
            let i : j - length Front < length w = omega (arith, length-append Front w) in
            high-dark (get_or s j 0) (omega (arith, second s Front (w ++ r) j (j - length Front) at_word (omega arith), get_or-append w r 0 (j - length Front) i, high (j - length Front) i));
        found = λ l. ap white (second s Whole r (length Whole) 0 at_rest (omega arith)) ∙ q (omega (arith, long s Whole r at_rest));
      }))

  behind : past_nth s (suc n) ≡ length Whole
  behind = more-past ∙ ap (end_from s) begins ∙ stops_at
    where
      more-past : past_nth s (suc n) ≡ end_from s (nth_start s n)
      more-past = unfold past_nth nth_start in refl

  is_word : nth_typed s n ≡ w
  is_word = cut ∙ rw (behind, begins, size) (ap (λ (x : List ℕ). take (length w) (drop (length Front) x)) at_word ∙ ap (take (length w)) (drop-append_seam Front (w ++ r)) ∙ take-append_seam w r)
    where
      cut : nth_typed s n ≡ take (past_nth s (suc n) - nth_start s n) (drop (nth_start s n) s)
      cut = unfold nth_typed in refl

      size : length Whole - length Front ≡ length w
      size = omega (arith, length-append Front w)

walk : (ws : List (List ℕ)) (r : List ℕ) → Spaced ws r → (s p : List ℕ) (n : ℕ) → s ≡ p ++ r → past_nth s n ≡ length p → Found s n ws
walk ws r (end h b) s p n e past = record { each = λ k l. absurd (omega arith); last = ap (nth_start s) (add-zero n) ∙ none_left s p h n e past b }
walk ws r (next h w vs t b high some q x) s p n e past =
    let f = walk vs t x s (Whole s p h w t n e past b high some q) (suc n) (at_rest s p h w t n e past b high some q) (behind s p h w t n e past b high some q) in
    record {
      each = λ k l. go k l f;
      last = let z : n + suc (length vs) ≡ suc n + length vs = omega arith in ap (nth_start s) z ∙ f.last;
    }
  where
    go : (k : ℕ) → k < suc (length vs) → Found s (suc n) vs → nth_typed s (n + k) ≡ get_or (w ∷ vs) k []
    go zero l f = ap (nth_typed s) (add-zero n) ∙ is_word s p h w t n e past b high some q
    go (suc k) l f = let z : n + suc k ≡ suc n + k = omega arith in ap (nth_typed s) z ∙ f.each k (omega arith)

-- ---- a line of words

-- a space before each
unfoldable pub spelt : List (List ℕ) → List ℕ
spelt [] = []
spelt (w ∷ ws) = (32 ∷ w) ++ spelt ws

-- each is some letters and digits
abbrev pub AllHigh : List (List ℕ) → Type 0
AllHigh [] = Unit
AllHigh (w ∷ ws) = High w × (0 < length w) × AllHigh ws

stops-rest : (ws : List (List ℕ)) (g : ℕ) → Stops (spelt ws ++ replicate g 32)
unfolding spelt
stops-rest [] zero l = absurd (omega arith)
stops-rest [] (suc g) l = a-space
stops-rest (w ∷ ws) g l = a-space

spaced-rest : (ws : List (List ℕ)) (g : ℕ) → AllHigh ws → Spaced ws (spelt ws ++ replicate g 32)
unfolding spelt
spaced-rest [] g h = end (replicate g 32) (blank_spaces g)
spaced-rest (w ∷ ws) g h =
    subst (Spaced (w ∷ ws)) (ap (λ (x : List ℕ). 32 ∷ x) (sym (append_assoc w (spelt ws) (replicate g 32))))
    (next (32 ∷ []) w ws (spelt ws ++ replicate g 32) one h.0 h.1 (stops-rest ws g) (spaced-rest ws g h.2))
  where
    one : Blank (32 ∷ [])
    one = blank_spaces 1

abbrev pub line_of : List ℕ → List (List ℕ) → ℕ → List ℕ
line_of w ws g = w ++ (spelt ws ++ replicate g 32)

module _ (w : List ℕ) (ws : List (List ℕ)) (g : ℕ) (high : High w) (some : 0 < length w) (all : AllHigh ws) where
  no-past : past_nth (line_of w ws g) 0 ≡ 0
  unfolding past_nth
  no-past = refl

  pub words_found : Found (line_of w ws g) 0 (w ∷ ws)
  words_found =
      walk (w ∷ ws) (line_of w ws g) (next [] w ws (spelt ws ++ replicate g 32) (λ k l. absurd (omega arith)) high some (stops-rest ws g) (spaced-rest ws g all))
      (line_of w ws g) [] 0 refl no-past

  pub first-stands : nth_start (line_of w ws g) 0 < length (line_of w ws g)
  first-stands =
      omega (arith, begins (line_of w ws g) [] [] w (spelt ws ++ replicate g 32) 0 refl no-past (λ k l. absurd (omega arith)) high some (stops-rest ws g), length-append w (spelt ws ++ replicate g 32))

-- ---- bytes that are not in it

pub without_append : (b : ℕ) (a c : List ℕ) → Without b a → Without b c → Without b (a ++ c)
without_append b a c f h k l = go (dec_lt k (length a))
  where
    go : Dec (k < length a) → get_or (a ++ c) k 0 ≢ b
    go (yes m) e = f k m (sym (get_or-append a c 0 k m) ∙ e)
    go (no m) e =
        let z : k ≡ length a + (k - length a) = omega arith in
        h (k - length a) (omega (arith, length-append a c)) (sym (second (a ++ c) a c k (k - length a) refl z) ∙ e)

without_spaces : (b n : ℕ) → b ≢ 32 → Without b (replicate n 32)
without_spaces b zero h k l = absurd (omega arith)
without_spaces b (suc n) h zero l = λ e. h (sym e)
without_spaces b (suc n) h (suc k) l = without_spaces b n h k (omega arith)

high-without : (b : ℕ) (w : List ℕ) → b < 48 → High w → Without b w
high-without b w l h k m e = omega (arith, h k m)

spelt-without : (b : ℕ) (ws : List (List ℕ)) → b < 48 → b ≢ 32 → AllHigh ws → Without b (spelt ws)
unfolding spelt
spelt-without b [] l n h = λ k m. absurd (omega arith)
spelt-without b (w ∷ ws) l n h = without_append b (32 ∷ w) (spelt ws) (without_append b (32 ∷ []) w (without_spaces b 1 n) (high-without b w l h.0)) (spelt-without b ws l n h.2)

pub line-without : (b : ℕ) (w : List ℕ) (ws : List (List ℕ)) (g : ℕ) → b < 48 → b ≢ 32 → High w → AllHigh ws → Without b (line_of w ws g)
line-without b w ws g l n h all = without_append b w (spelt ws ++ replicate g 32) (high-without b w l h) (without_append b (spelt ws) (replicate g 32) (spelt-without b ws l n all) (without_spaces b g n))
