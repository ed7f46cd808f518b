-- What the parts of a step do to the book, together.
use Prim.Native.Nat.{ℕ, ◌+◌, ◌≤◌, ◌<◌, max}
use mathlib.Core.Path.{◌≡◌, sym, ap, ap₂, ◌∙◌}
use mathlib.Core.Bool.{Bool, not, ◌&&◌, ◌||◌}
use mathlib.Core.List.{List}
use mathlib.Core.Logic.{inl, inr}
use native.Mathlib.Omega.{arith}
use native.Mathlib.Decide.{ℕ_discrete, dec_lt}
use lib.Dec.{eqb, ltb}
use lib.ListN.{get_or, set, length, length-set}
use lib.Seq.{get_or-set_same}
use borrow.Author.Tests.{eq-eqb, ne_eqb, lt-ltb, le-ltb}
use Rattle.words.specs.Choice.{pick}
use Rattle.words.specs.Word.{bit, without}
use Rattle.words.proofs.WordLaws.{bit-without}
use Rattle.aic_record.specs.declared.Aic.{Aic}
use Rattle.aic_waits.specs.Figures.{entries_now}
use Rattle.aic_waits.specs.Following.{capped}
use Rattle.aic_figures.specs.Book.{Put, Moved, settled_at}
use Rattle.aic_figures.proofs.BookLaws.{there}

-- ---- a start counted

module _ (by : ℕ) (old new : List ℕ) (long : length old ≡ 160)
    (e : new ≡ pick (ltb by 32) (set (set old (32 + by) (capped (get_or old (32 + by) 0 + 1))) 2 (capped (get_or old 2 0 + 1))) old) where
  abbrev put : List ℕ
  put = set (set old (32 + by) (capped (get_or old (32 + by) 0 + 1))) 2 (capped (get_or old 2 0 + 1))

  some : by < 32 → new ≡ put
  unfolding pick
  some l = e ∙ rw (lt-ltb by 32 l)

  none : 32 ≤ by → new ≡ old
  unfolding pick
  none l = e ∙ rw (le-ltb by 32 l)

  pub count-size : length new ≡ length old
  count-size = go (dec_lt by 32)
    where
      go : Dec (by < 32) → length new ≡ length old
      go (yes l) =
          ap length (some l) ∙ length-set (set old (32 + by) (capped (get_or old (32 + by) 0 + 1))) 2 (capped (get_or old 2 0 + 1))
          ∙ length-set old (32 + by) (capped (get_or old (32 + by) 0 + 1))
      go (no n) = ap length (none (omega (arith, n)))

  pub count-all : get_or new 2 0 ≡ pick (ltb by 32) (capped (get_or old 2 0 + 1)) (get_or old 2 0)
  unfolding pick
  count-all = go (dec_lt by 32)
    where
      go : Dec (by < 32) → get_or new 2 0 ≡ pick (ltb by 32) (capped (get_or old 2 0 + 1)) (get_or old 2 0)
      go (yes l) =
          rw (lt-ltb by 32 l)
          (ap (λ (b : List ℕ). get_or b 2 0) (some l) ∙ get_or-set_same (set old (32 + by) (capped (get_or old (32 + by) 0 + 1))) 2 (capped (get_or old 2 0 + 1)) 0 (omega (arith, length-set old (32 + by) (capped (get_or old (32 + by) 0 + 1)), long)))
      go (no n) = rw (le-ltb by 32 (omega (arith, n))) (ap (λ (b : List ℕ). get_or b 2 0) (none (omega (arith, n))))

  pub count_own : (i : ℕ) → i < 32 → get_or new (32 + i) 0 ≡ pick (eqb i by) (capped (get_or old (32 + i) 0 + 1)) (get_or old (32 + i) 0)
  unfolding pick
  count_own i m = go (ℕ_discrete i by) (dec_lt by 32)
    where
      go : Dec (i ≡ by) → Dec (by < 32) → get_or new (32 + i) 0 ≡ pick (eqb i by) (capped (get_or old (32 + i) 0 + 1)) (get_or old (32 + i) 0)
      go (yes q) (yes l) =
          rw (eq-eqb i by q)
          (ap (λ (b : List ℕ). get_or b (32 + i) 0) (some l) ∙ there (set old (32 + by) (capped (get_or old (32 + by) 0 + 1))) 2 (32 + i) (capped (get_or old 2 0 + 1)) (λ r. absurd (omega (arith, r)))
          ∙ rw q (get_or-set_same old (32 + by) (capped (get_or old (32 + by) 0 + 1)) 0 (omega (arith, long, l))))
      go (yes q) (no n) = absurd (n (omega (arith, q, m)))
      go (no q) (yes l) =
          rw (ne_eqb i by q)
          (ap (λ (b : List ℕ). get_or b (32 + i) 0) (some l) ∙ there (set old (32 + by) (capped (get_or old (32 + by) 0 + 1))) 2 (32 + i) (capped (get_or old 2 0 + 1)) (λ r. absurd (omega (arith, r)))
          ∙ there old (32 + by) (32 + i) (capped (get_or old (32 + by) 0 + 1)) (λ r. q (omega (arith, r))))
      go (no q) (no n) = rw (ne_eqb i by q) (ap (λ (b : List ℕ). get_or b (32 + i) 0) (none (omega (arith, n))))

  pub count_else : (k : ℕ) → 64 ≤ k → get_or new k 0 ≡ get_or old k 0
  count_else k m = go (dec_lt by 32)
    where
      go : Dec (by < 32) → get_or new k 0 ≡ get_or old k 0
      go (yes l) =
          ap (λ (b : List ℕ). get_or b k 0) (some l) ∙ there (set old (32 + by) (capped (get_or old (32 + by) 0 + 1))) 2 k (capped (get_or old 2 0 + 1)) (λ r. absurd (omega (arith, r, m))) ∙ there old (32 + by) k (capped (get_or old (32 + by) 0 + 1)) (λ r. absurd (omega (arith, r, m, l)))
      go (no n) = ap (λ (b : List ℕ). get_or b k 0) (none (omega (arith, n)))

-- ---- all of it: entries seen, waits ended, a start counted, waits begun, and the two words

module _ (t : Aic) (by asks waits ended begun : ℕ) (b₀ b₁ b₂ b₃ b₄ : List ℕ) (long : length b₀ ≡ 160)
    (after : (i : ℕ) → i < 32 → bit waits i ≡ ((bit asks i && not (eqb i by)) && (bit (get_or b₀ 1 0) i || not (bit (get_or b₀ 0 0) i))))
    (p₁ : Put 128 (λ i. max (get_or b₀ (128 + i) 0) (entries_now t i)) b₀ b₁)
    (e : ended ≡ without (get_or b₀ 1 0) waits)
    (p₂ : Put 96 (λ i. pick (bit ended i) (settled_at b₁ i) (get_or b₁ (96 + i) 0)) b₁ b₂)
    (p₃ : b₃ ≡ pick (ltb by 32) (set (set b₂ (32 + by) (capped (get_or b₂ (32 + by) 0 + 1))) 2 (capped (get_or b₂ 2 0 + 1))) b₂)
    (g : begun ≡ without waits (get_or b₀ 1 0))
    (p₄ : Put 64 (λ i. pick (bit begun i) (get_or b₃ 2 0) (get_or b₃ (64 + i) 0)) b₃ b₄) where
  abbrev b₅ : List ℕ
  b₅ = set (set b₄ 0 asks) 1 waits

  long₂ : length b₂ ≡ 160
  long₂ = p₂.size ∙ p₁.size ∙ long

  long₄ : length b₄ ≡ 160
  long₄ = p₄.size ∙ count-size by b₂ b₃ long₂ p₃ ∙ long₂

  -- a word from 2 on
  last : (k : ℕ) → 2 ≤ k → get_or b₅ k 0 ≡ get_or b₄ k 0
  last k l = there (set b₄ 0 asks) 1 k waits (λ r. absurd (omega (arith, r, l))) ∙ there b₄ 0 k asks (λ r. absurd (omega (arith, r, l)))

  -- a word below 96 before anything is counted
  first : (k : ℕ) → k < 96 → get_or b₂ k 0 ≡ get_or b₀ k 0
  first k l = p₂.outside k (inl l) ∙ p₁.outside k (inl (omega (arith, l)))

  word-is : get_or b₅ 1 0 ≡ waits
  word-is = get_or-set_same (set b₄ 0 asks) 1 waits 0 (omega (arith, length-set b₄ 0 asks, long₄))

  asked_is : get_or b₅ 0 0 ≡ asks
  asked_is = there (set b₄ 0 asks) 1 0 waits (λ r. absurd (omega (arith, r))) ∙ get_or-set_same b₄ 0 asks 0 (omega (arith, long₄))

  starts_is : get_or b₅ 2 0 ≡ get_or b₃ 2 0
  starts_is = last 2 (omega arith) ∙ p₄.outside 2 (inl (omega arith))

  pub moved-from : Moved by asks t b₀ b₅
  moved-from =
      record {
        size = length-set (set b₄ 0 asks) 1 waits ∙ length-set b₄ 0 asks ∙ long₄ ∙ sym long;
        asked = asked_is;
        waits = λ i l. ap (λ (x : ℕ). bit x i) word-is ∙ after i l;
        starts = starts_is ∙ count-all by b₂ b₃ long₂ p₃ ∙ ap (λ (n : ℕ). pick (ltb by 32) (capped (n + 1)) n) (first 2 (omega arith));
        started = λ i l. last (32 + i) (omega arith) ∙ p₄.outside (32 + i) (inl (omega (arith, l))) ∙ count_own by b₂ b₃ long₂ p₃ i l
            ∙ ap (λ (n : ℕ). pick (eqb i by) (capped (n + 1)) n) (first (32 + i) (omega (arith, l)));
        began = λ i l. last (64 + i) (omega arith) ∙ p₄.inside i l
            ∙ ap₂ (λ (b : Bool) (n : ℕ). pick b n (get_or b₃ (64 + i) 0)) (ap (λ (x : ℕ). bit x i) g ∙ bit-without waits (get_or b₀ 1 0) i l ∙ ap (λ (x : ℕ). bit x i && not (bit (get_or b₀ 1 0) i)) (sym word-is)) (sym starts_is)
            ∙ ap (λ (n : ℕ). pick (bit (get_or b₅ 1 0) i && not (bit (get_or b₀ 1 0) i)) (get_or b₅ 2 0) n) (count_else by b₂ b₃ long₂ p₃ (64 + i) (omega arith) ∙ first (64 + i) (omega (arith, l)));
        waited = λ i l. last (96 + i) (omega arith) ∙ p₄.outside (96 + i) (inr (omega arith)) ∙ count_else by b₂ b₃ long₂ p₃ (96 + i) (omega arith) ∙ p₂.inside i l
            ∙ ap (λ (b : Bool). pick b (settled_at b₁ i) (get_or b₁ (96 + i) 0)) (ap (λ (x : ℕ). bit x i) e ∙ bit-without (get_or b₀ 1 0) waits i l ∙ ap (λ (x : ℕ). bit (get_or b₀ 1 0) i && not (bit x i)) (sym word-is))
            ∙ ap₂ (λ (m n : ℕ). pick (bit (get_or b₀ 1 0) i && not (bit (get_or b₅ 1 0) i)) m n)
            (rw (p₁.outside (96 + i) (inl (omega (arith, l))), p₁.outside 2 (inl (omega arith)), p₁.outside (64 + i) (inl (omega (arith, l))))) (p₁.outside (96 + i) (inl (omega (arith, l))));
        entries = λ i l. last (128 + i) (omega arith) ∙ p₄.outside (128 + i) (inr (omega arith)) ∙ count_else by b₂ b₃ long₂ p₃ (128 + i) (omega arith)
            ∙ p₂.outside (128 + i) (inr (omega arith)) ∙ p₁.inside i l;
      }
