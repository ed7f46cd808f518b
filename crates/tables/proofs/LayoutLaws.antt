-- Numbers with white space and comments between them are found where they stand, and read as they are.
use Prim.Native.Nat.{ℕ, zero, suc, ◌+◌, ◌-◌, ◌≤◌, ◌<◌}
use mathlib.Core.Path.{◌≡◌, refl, sym, ap, ◌∙◌, subst}
use mathlib.Core.Bool.{true, false, not, ◌||◌}
use mathlib.Core.List.{List, [], ◌∷◌, ◌++◌, append_assoc, append-nil}
use mathlib.Core.Logic.{◌≢◌, ◌⊎◌, inl, inr}
use native.Mathlib.Nat.{add-zero}
use native.Mathlib.Omega.{arith}
use lib.Dec.{eqb}
use lib.ListN.{length, get_or, take, drop, replicate, length-append, get_or-append}
use lib.Seq.{get_or-append-add, take-append_seam, drop-append_seam}
use borrow.Author.Tests.{eqb-true, ne_eqb}
use Rattle.words.specs.Choice.{pick}
use Rattle.words.proofs.TruthLaws.{or-either, clash}
use Rattle.tables.specs.Typed.{white, bare_from, bare, start_from, end_from, past_nth, nth_start, nth_typed}
use Rattle.tables.specs.Names.{cleared}
use Rattle.tables.specs.Number.{is_number}
use Rattle.tables.specs.Layout.{White, Without, Gap, nothing, space, comment, Parted, Spread, done, left_open, more}
use Rattle.tables.proofs.BareLaws.{length-bare, bare-plain, bare_comment, bare_open}
use Rattle.tables.proofs.QuoteLaws.{quoteless}
use Rattle.tables.proofs.SeekLaws.{start_is, end_is}
use Rattle.tables.proofs.NumberLaws.{number-high, number-some}

-- ---- bytes

pub white-is : (b : ℕ) → White b → white b ≡ true
unfolding white
white-is b (inl e) = rw e
white-is b (inr (inl e)) = rw e
white-is b (inr (inr (inl e))) = rw e
white-is b (inr (inr (inr e))) = rw e

pub is_white : (b : ℕ) → white b ≡ true → White b
unfolding white
is_white b h = go (or-either (eqb b 32 || eqb b 9 || eqb b 13) (eqb b 10) h)
  where
    two : (eqb b 32 ≡ true) ⊎ (eqb b 9 ≡ true) → White b
    two (inl e) = inl (eqb-true b 32 e)
    two (inr e) = inr (inl (eqb-true b 9 e))

    three : ((eqb b 32 || eqb b 9) ≡ true) ⊎ (eqb b 13 ≡ true) → White b
    three (inl e) = two (or-either (eqb b 32) (eqb b 9) e)
    three (inr e) = inr (inr (inl (eqb-true b 13 e)))

    go : ((eqb b 32 || eqb b 9 || eqb b 13) ≡ true) ⊎ (eqb b 10 ≡ true) → White b
    go (inl e) = three (or-either (eqb b 32 || eqb b 9) (eqb b 13) e)
    go (inr e) = inr (inr (inr (eqb-true b 10 e)))

pub high-dark : (b : ℕ) → 48 ≤ b → white b ≡ false
unfolding white
high-dark b l = rw (ne_eqb b 32 (λ e. omega arith), ne_eqb b 9 (λ e. omega arith), ne_eqb b 13 (λ e. omega arith), ne_eqb b 10 (λ e. omega arith))

white_low : (b : ℕ) → White b → b ≢ 35
white_low b (inl e) z = omega arith
white_low b (inr (inl e)) z = omega arith
white_low b (inr (inr (inl e))) z = omega arith
white_low b (inr (inr (inr e))) z = omega arith

-- ---- white space alone

abbrev pub Blank : List ℕ → Type 0
Blank h = (k : ℕ) → k < length h → white (get_or h k 0) ≡ true

blank-more : (b : ℕ) (h : List ℕ) → white b ≡ true → Blank h → Blank (b ∷ h)
blank-more b h e f zero l = e
blank-more b h e f (suc k) l = f k (omega arith)

a-space : white 32 ≡ true
unfolding white
a-space = refl

pub blank_spaces : (n : ℕ) (h : List ℕ) → Blank h → Blank (replicate n 32 ++ h)
blank_spaces zero h f = f
blank_spaces (suc n) h f = blank-more 32 (replicate n 32 ++ h) a-space (blank_spaces n h f)

blank-both : (g h : List ℕ) → Blank g → Blank h → Blank (g ++ h)
blank-both [] h e f = f
blank-both (b ∷ g) h e f = blank-more b (g ++ h) (e 0 (omega arith)) (blank-both g h (λ k l. e (suc k) (omega arith)) f)

-- a gap without its comments
record Bared (g s : List ℕ) : Type 0 where
  gap : List ℕ
  blank : Blank gap
  is : bare (g ++ s) ≡ gap ++ bare s

bared : (g s : List ℕ) → Gap g → Bared g s
bared g s nothing = record { gap = []; blank = λ k l. absurd (omega arith); is = refl }
bared g s (space b h e q) =
    let r = bared h s q in
    record {
      gap = b ∷ r.gap;
      blank = blank-more b r.gap (white-is b e) r.blank;
      is = bare-plain (b ∷ []) (h ++ s) (λ k l. one k l) ∙ ap (λ (x : List ℕ). b ∷ x) r.is;
    }
  where
    one : (k : ℕ) → k < 1 → get_or (b ∷ []) k 0 ≢ 35
    one zero l = white_low b e
    one (suc k) l = absurd (omega arith)
bared g s (comment c h e q) =
    let r = bared h s q in
    record {
      gap = 32 ∷ (replicate (length c) 32 ++ (32 ∷ r.gap));
      blank = blank-more 32 (replicate (length c) 32 ++ (32 ∷ r.gap)) a-space (blank_spaces (length c) (32 ∷ r.gap) (blank-more 32 r.gap a-space r.blank));
      is = ap (λ (x : List ℕ). bare (35 ∷ x)) (append_assoc c (10 ∷ h) s) ∙ bare_comment c (h ++ s) e
          ∙ ap (λ (x : List ℕ). 32 ∷ x) (ap (λ (x : List ℕ). replicate (length c) 32 ++ (32 ∷ x)) r.is ∙ sym (append_assoc (replicate (length c) 32) (32 ∷ r.gap) (bare s)));
    }

-- ---- numbers with white space alone between them

abbrev Stops : List ℕ → Type 0
Stops s = 0 < length s → white (get_or s 0 0) ≡ true

data Spaced : List (List ℕ) → List ℕ → Type 0 where
  end : (h : List ℕ) → Blank h → Spaced [] h
  next : (h w : List ℕ) (ws : List (List ℕ)) (s : List ℕ) → Blank h → is_number w ≡ true → Stops s → Spaced ws s → Spaced (w ∷ ws) (h ++ (w ++ s))

stops : (s : List ℕ) → Parted s → Stops (bare s)
stops [] p l = absurd (omega (arith, length-bare false []))
stops (b ∷ s) p l = go p
  where
    go : Parted (b ∷ s) → white (get_or (bare (b ∷ s)) 0 0) ≡ true
    go (inl e) = absurd (omega (arith, ap length e))
    go (inr (inl e)) = unfold bare_from pick in (rw (ne_eqb b 35 (white_low b e)) (white-is b e))
    go (inr (inr e)) = unfold bare_from pick white in (rw e)

pub number-plain : (w : List ℕ) → is_number w ≡ true → Without 35 w
number-plain w n k l e = omega (arith, number-high w n k l)

nothing-more : (h : List ℕ) → h ++ bare [] ≡ h
unfolding bare_from
nothing-more h = append-nil h

spaced : (ws : List (List ℕ)) (s : List ℕ) → Spread ws s → Spaced ws (bare s)
spaced ws s (done g q) = go (bared g [] q)
  where
    go : Bared g [] → Spaced [] (bare g)
    go r = subst (Spaced []) (sym (nothing-more r.gap) ∙ sym r.is ∙ ap bare (append-nil g)) (end r.gap r.blank)
spaced ws s (left_open g c q e) = go (bared g (35 ∷ c) q)
  where
    go : Bared g (35 ∷ c) → Spaced [] (bare (g ++ (35 ∷ c)))
    go r =
        subst (Spaced []) (ap (λ (x : List ℕ). r.gap ++ x) (ap (λ (x : List ℕ). 32 ∷ x) (append-nil (replicate (length c) 32)) ∙ sym (bare_open c e)) ∙ sym r.is)
        (end (r.gap ++ (32 ∷ (replicate (length c) 32 ++ []))) (blank-both r.gap (32 ∷ (replicate (length c) 32 ++ [])) r.blank (blank_spaces (suc (length c)) [] (λ k l. absurd (omega arith)))))
spaced ws s (more g w vs r q n p t) =
    let b = bared g (w ++ r) q in
    subst (Spaced (w ∷ vs)) (ap (λ (x : List ℕ). b.gap ++ x) (sym (bare-plain w r (number-plain w n))) ∙ sym b.is)
    (next b.gap w vs (bare r) b.blank n (stops r p) (spaced vs r t))

-- ---- none of their bytes is a quote

pub all_of : (P : ℕ → Type 0) (p q : List ℕ) → ((k : ℕ) → k < length p → P (get_or p k 0)) → ((k : ℕ) → k < length q → P (get_or q k 0))
    → (k : ℕ) → k < length (p ++ q) → P (get_or (p ++ q) k 0)
all_of P [] q f g k l = g k l
all_of P (b ∷ p) q f g zero l = f 0 (omega arith)
all_of P (b ∷ p) q f g (suc k) l = all_of P p q (λ j m. f (suc j) (omega arith)) g k (omega arith)

blank_quoteless : (h : List ℕ) → Blank h → Without 34 h
blank_quoteless h b k l e = clash (sym (ap white e) ∙ b k l) (unfold white in refl)

number_quoteless : (w : List ℕ) → is_number w ≡ true → Without 34 w
number_quoteless w n k l e = omega (arith, number-high w n k l)

spaced_quoteless : (ws : List (List ℕ)) (s : List ℕ) → Spaced ws s → Without 34 s
spaced_quoteless ws s (end h b) = blank_quoteless h b
spaced_quoteless ws s (next h w vs t b n q x) =
    all_of (λ b. b ≢ 34) h (w ++ t) (blank_quoteless h b) (all_of (λ b. b ≢ 34) w t (number_quoteless w n) (spaced_quoteless vs t x))

pub spread_quoteless : (ws : List (List ℕ)) (s : List ℕ) → Spread ws s → Without 34 (bare s)
spread_quoteless ws s d = spaced_quoteless ws (bare s) (spaced ws s d)

-- ---- where they are found

-- a byte of the second part, and of the first
second : (s p q : List ℕ) (j k : ℕ) → s ≡ p ++ q → j ≡ length p + k → get_or s j 0 ≡ get_or q k 0
second s p q j k e f = rw (e, f) (get_or-append-add p q k 0)

long : (s p q : List ℕ) → s ≡ p ++ q → length s ≡ length p + length q
long s p q e = ap length e ∙ length-append p q

-- the numbers of s from the nth on are ws, and behind them it ends
record Found (s : List ℕ) (n : ℕ) (ws : List (List ℕ)) : Type 0 where
  each : (k : ℕ) → k < length ws → nth_typed s (n + k) ≡ get_or ws k []
  last : nth_start s (n + length ws) ≡ length s

-- behind p, where the nth number is looked for, only white space is left
none_left : (s p h : List ℕ) (n : ℕ) → s ≡ p ++ h → past_nth s n ≡ length p → Blank h → nth_start s n ≡ length s
unfolding nth_start
none_left s p h n e past b =
    ap (start_from s) past
    ∙ sym (start_is s (length p) (length s) (record {
      from = omega (arith, long s p h e);
      within = omega arith;
      before = λ j l m. ap not (ap white (second s p h j (j - length p) e (omega arith)) ∙ b (j - length p) (omega (arith, long s p h e)));
      found = λ l. absurd (omega arith);
    }))

-- behind p and white space stands the word w, and then more white space or nothing
module _ (s p h w r : List ℕ) (n : ℕ) (e : s ≡ p ++ (h ++ (w ++ r))) (past : past_nth s n ≡ length p) (b : Blank h) (num : is_number w ≡ true) (q : Stops r) where
  abbrev Front : List ℕ
  Front = p ++ h

  abbrev Whole : List ℕ
  Whole = (p ++ h) ++ w

  at_word : s ≡ Front ++ (w ++ r)
  at_word = e ∙ sym (append_assoc p h (w ++ r))

  at_rest : s ≡ Whole ++ r
  at_rest = at_word ∙ sym (append_assoc Front w r)

  begins : nth_start s n ≡ length Front
  unfolding nth_start
  begins =
      ap (start_from s) past
      ∙ sym (start_is s (length p) (length Front) (record {
        from = omega (arith, length-append p h);
        within = omega (arith, long s Front (w ++ r) at_word);
        before = λ j l m.
            let i : j - length p < length h = omega (arith, length-append p h) in
            ap not (ap white (second s p (h ++ (w ++ r)) j (j - length p) e (omega arith) ∙ get_or-append h (w ++ r) 0 (j - length p) i) ∙ b (j - length p) i);
        found = λ l. ap not (high-dark (get_or s (length Front) 0) (omega (arith, first, number-high w num 0 (number-some w num))));
      }))
    where
      first : get_or s (length Front) 0 ≡ get_or w 0 0
      first = second s Front (w ++ r) (length Front) 0 at_word (omega arith) ∙ get_or-append w r 0 0 (number-some w num)

  stops_at : end_from s (length Front) ≡ length Whole
  stops_at =
      sym (end_is s (length Front) (length Whole) (record {
        from = omega (arith, length-append Front w);
        within = omega (arith, long s Whole r at_rest);
        before = λ j l m.
            let i : j - length Front < length w = omega (arith, length-append Front w) in
            high-dark (get_or s j 0) (omega (arith, second s Front (w ++ r) j (j - length Front) at_word (omega arith), get_or-append w r 0 (j - length Front) i, number-high w num (j - length Front) i));
        found = λ l. ap white (second s Whole r (length Whole) 0 at_rest (omega arith)) ∙ q (omega (arith, long s Whole r at_rest));
      }))

  behind : past_nth s (suc n) ≡ length Whole
  behind = more-past ∙ ap (end_from s) begins ∙ stops_at
    where
      more-past : past_nth s (suc n) ≡ end_from s (nth_start s n)
      more-past = unfold past_nth nth_start in refl

  is_word : nth_typed s n ≡ w
  is_word = cut ∙ rw (behind, begins, size) (ap (λ (x : List ℕ). take (length w) (drop (length Front) x)) at_word ∙ ap (take (length w)) (drop-append_seam Front (w ++ r)) ∙ take-append_seam w r)
    where
      cut : nth_typed s n ≡ take (past_nth s (suc n) - nth_start s n) (drop (nth_start s n) s)
      cut = unfold nth_typed in refl

      size : length Whole - length Front ≡ length w
      size = omega (arith, length-append Front w)

walk : (ws : List (List ℕ)) (r : List ℕ) → Spaced ws r → (s p : List ℕ) (n : ℕ) → s ≡ p ++ r → past_nth s n ≡ length p → Found s n ws
walk ws r (end h b) s p n e past = record { each = λ k l. absurd (omega arith); last = ap (nth_start s) (add-zero n) ∙ none_left s p h n e past b }
walk ws r (next h w vs t b num q x) s p n e past =
    let f = walk vs t x s (Whole s p h w t n e past b num q) (suc n) (at_rest s p h w t n e past b num q) (behind s p h w t n e past b num q) in
    record {
      each = λ k l. go k l f;
      last = let z : n + suc (length vs) ≡ suc n + length vs = omega arith in ap (nth_start s) z ∙ f.last;
    }
  where
    go : (k : ℕ) → k < suc (length vs) → Found s (suc n) vs → nth_typed s (n + k) ≡ get_or (w ∷ vs) k []
    go zero l f = ap (nth_typed s) (add-zero n) ∙ is_word s p h w t n e past b num q
    go (suc k) l f = let z : n + suc k ≡ suc n + k = omega arith in ap (nth_typed s) z ∙ f.each k (omega arith)

-- every word of such a text is a number
numbers : (ws : List (List ℕ)) (s : List ℕ) → Spread ws s → (k : ℕ) → k < length ws → is_number (get_or ws k []) ≡ true
numbers ws s (done g q) k l = absurd (omega arith)
numbers ws s (left_open g c q e) k l = absurd (omega arith)
numbers ws s (more g w vs r q n p t) zero l = n
numbers ws s (more g w vs r q n p t) (suc k) l = numbers vs r t k (omega arith)

found_words : (ws : List (List ℕ)) (s : List ℕ) → Spread ws s
    → ((k : ℕ) → k < length ws → (nth_typed (bare s) k ≡ get_or ws k []) × (is_number (nth_typed (bare s) k) ≡ true)) × (nth_start (bare s) (length ws) ≡ length (bare s))
found_words ws s d =
    let f = walk ws (bare s) (spaced ws s d) (bare s) [] 0 refl (unfold past_nth in refl) in
    let z : (k : ℕ) → 0 + k ≡ k = λ k. omega arith in (
      λ k l.
          let i : nth_typed (bare s) k ≡ get_or ws k [] = ap (nth_typed (bare s)) (sym (z k)) ∙ f.each k l in
          (i, ap is_number i ∙ numbers ws s d k l),
      ap (nth_start (bare s)) (sym (z (length ws))) ∙ f.last,
    )

pub found-cleared : (ws : List (List ℕ)) (s : List ℕ) → Spread ws s
    → ((k : ℕ) → k < length ws → (nth_typed (cleared s) k ≡ get_or ws k []) × (is_number (nth_typed (cleared s) k) ≡ true)) × (nth_start (cleared s) (length ws) ≡ length (cleared s))
found-cleared ws s d = rw (quoteless s (spread_quoteless ws s d)) (found_words ws s d)
