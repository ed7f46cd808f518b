-- The words and numbers of a bound: what the functions make of a record, and of what a step brings.
use Prim.Native.Nat.{ℕ, zero, suc, ◌+◌, ◌≤◌, ◌<◌}
use mathlib.Core.Path.{◌≡◌, refl, sym, ap, ap₂, ◌∙◌}
use mathlib.Core.Bool.{Bool, true, false, not, ◌&&◌, ◌||◌, or-false}
use native.Mathlib.Omega.{arith}
use native.Mathlib.Numerals.{add-one}
use native.Mathlib.Decide.{ℕ_discrete}
use lib.Dec.{eqb, ltb, leb}
use borrow.Author.Tests.{eq-eqb, ne_eqb, lt-ltb, le-ltb}
use Rattle.words.specs.Choice.{pick}
use Rattle.words.specs.Counting.{one, any_below, count_below, sum_below}
use Rattle.words.specs.Word.{bit, word_of, either, both, without, with_bit}
use Rattle.words.proofs.WordLaws.{bit-word_of, word_of-same, bit_alone, bit-both}
use Rattle.aic_record.specs.declared.Aic.{Aic}
use Rattle.aic_record.specs.Mode.{priority, edge}
use Rattle.aic_record.specs.Sound.{source_at, level_at}
use Rattle.aic_sources.specs.Pending.{pending, pending_word, edge_word}
use Rattle.aic_sources.specs.Fast.{fast}
use Rattle.aic_sources.specs.Normal.{ahead}
use Rattle.aic_runs.specs.Counted.{carries}
use Rattle.aic_runs.specs.Runs.{sum_over}
use Rattle.aic_runs.specs.Promises.{rival_of}
use Rattle.aic_runs.specs.Turns.{held, due}
use Rattle.aic_bounds.specs.declared.Bound.{Bound}
use Rattle.aic_bounds.specs.declared.Marks.{Marks}
use Rattle.aic_bounds.specs.Bounds.{idle, fresh}
use Rattle.aic_bounds.specs.Following.{dues, plus, grown_by, bound_by}

-- ---- numbers

-- ---- rivals

pub rival-from : (s : Aic) (k i : ℕ) {p q : ℕ} {h : Bool} → p ≡ priority s k → q ≡ priority s i → h ≡ bit s.forced i
    → ((ltb p q || (eqb q p && ltb i k)) && not (eqb i 0 || h)) ≡ rival_of s k i
unfolding ahead fast
rival-from s k i ep eq eh = rw (eh, eq, ep)

-- ---- sources held

pub over-from : (s : Aic) (j d : ℕ) {p l : ℕ} → p ≡ priority s j → l ≡ level_at s d → leb p l ≡ leb (priority s j) (level_at s d)
over-from s j d ep el = rw (el, ep)

-- a handler of source i among the first d entries is at its priority or above
abbrev pub held_among : Aic → ℕ → ℕ → Bool
held_among s d i = any_below d (λ e. eqb (source_at s e) i && leb (priority s i) (level_at s e))

pub held_none : (s : Aic) → ◌≡◌ {A = ℕ} 0 (word_of 32 (held_among s 0))
unfolding any_below word_of
held_none s = refl

pub held_more : (s : Aic) (d w j r : ℕ) (h o : Bool) → w ≡ word_of 32 (held_among s d) → j ≡ source_at s d → h ≡ bit w j → o ≡ leb (priority s j) (level_at s d)
    → r ≡ with_bit w j (h || o) → r ≡ word_of 32 (held_among s (d + 1))
unfolding with_bit any_below pick
held_more s d w j r h o ew ej eh eo er =
    er ∙ rw (add-one d) (word_of-same 32 _ _ (λ i l. go i l (ℕ_discrete i j)))
  where
    go : (i : ℕ) → i < 32 → Dec (i ≡ j) → pick (eqb i j) (h || o) (bit w i) ≡ (held_among s d i || (eqb (source_at s d) i && leb (priority s i) (level_at s d)))
    go i l (yes e) = rw (eq-eqb i j e, eq-eqb (source_at s d) i (sym ej ∙ sym e), eh, eo, sym e, ew, bit-word_of 32 (held_among s d) i l)
    go i l (no n) = rw (ne_eqb i j n, ne_eqb (source_at s d) i (λ q. n (sym q ∙ sym ej)), ew, bit-word_of 32 (held_among s d) i l, or-false (held_among s d i))

pub held-from : (s : Aic) (w r : ℕ) → w ≡ word_of 32 (held_among s s.depth) → r ≡ without w 1 → r ≡ word_of 32 (held s)
unfolding without held
held-from s w r e f =
    f ∙ rw e (word_of-same 32 _ (held s)
    (λ i l. rw (bit-word_of 32 (held_among s s.depth) i l, bit_alone 0 i) (swap (held_among s s.depth i) (not (eqb i 0)))))
  where
    swap : (a b : Bool) → (a && b) ≡ (b && a)
    swap true true = refl
    swap true false = refl
    swap false true = refl
    swap false false = refl

-- ---- dues

pub dues-from : (s : Aic) {p q h f e a r : ℕ} → p ≡ pending_word s → h ≡ word_of 32 (held s) → f ≡ without p h → q ≡ pending_word s → e ≡ edge_word s
    → a ≡ both q e → r ≡ either a f
    → r ≡ word_of 32 (dues s)
unfolding pending_word edge_word either both without dues
dues-from s ep eh ef eq ee ea er = er ∙ rw (ef, ea, ep, eh, eq, ee) (word_of-same 32 _ (dues s) (λ i l. each i l))
  where
    spread : (p e h : Bool) → ((p && e) || (p && not h)) ≡ (p && (e || not h))
    spread true e h = refl
    spread false e h = refl

    each : (i : ℕ) → i < 32
        → (bit (word_of 32 (λ k. bit (word_of 32 (pending s)) k && bit (word_of 32 (edge s)) k)) i
        || bit (word_of 32 (λ k. bit (word_of 32 (pending s)) k && not (bit (word_of 32 (held s)) k))) i)
        ≡ (pending s i && (edge s i || not (held s i)))
    each i l =
        rw (
          bit-word_of 32 (λ k. bit (word_of 32 (pending s)) k && bit (word_of 32 (edge s)) k) i l,
          bit-word_of 32 (λ k. bit (word_of 32 (pending s)) k && not (bit (word_of 32 (held s)) k)) i l,
          bit-word_of 32 (pending s) i l,
          bit-word_of 32 (edge s) i l,
          bit-word_of 32 (held s) i l,
        ) (spread (pending s i) (edge s i) (held s i))

-- ---- how many sources two words share

shared_part : (x y : Bool) → one (x && y) ≡ pick x (one y) 0
unfolding pick
shared_part true y = refl
shared_part false y = refl

shared-below : (a : ℕ) (f : ℕ → Bool) (n : ℕ) → n ≤ 32 → count_below n (bit (both a (word_of 32 f))) ≡ sum_below n (λ i. pick (bit a i) (one (f i)) 0)
unfolding count_below sum_below
shared-below a f zero l = refl
shared-below a f (suc n) l =
    ap₂ (λ (x y : ℕ). x + y) (shared-below a f n (omega arith))
    (ap one (bit-both a (word_of 32 f) n (omega arith) ∙ ap (λ (y : Bool). bit a n && y) (bit-word_of 32 f n (omega arith))) ∙ shared_part (bit a n) (f n))

pub shared_sum : (a : ℕ) (f : ℕ → Bool) → count_below 32 (bit (both a (word_of 32 f))) ≡ sum_over (bit a) (λ i. one (f i))
unfolding sum_over
shared_sum a f = shared-below a f 32 (omega arith)

pub due_sum : (a : ℕ) (t : Aic) → count_below 32 (bit (both a (word_of 32 (dues t)))) ≡ sum_over (bit a) (due t)
unfolding due dues
due_sum a t = shared_sum a (dues t)

-- ---- a wait that begins

pub fresh-from : (k : ℕ) (t : Aic) {r e d m p o : ℕ} {c : Bool} → r ≡ word_of 32 (rival_of t k) → e ≡ both r t.enabled → d ≡ word_of 32 (dues t) → m ≡ both e d
    → p ≡ count_below 32 (bit m) → c ≡ carries k t → o ≡ one c
    → record { wait = 2; rivals = r; on = e; pending = p; edges = 0; commands = 0; turns = 0; closed = 0; remembered = o; broke = 0 } ≡ fresh k t
fresh-from k t {r} {e} {d} {m} {p} {o} er ee ed em ep ec eo =
    let f : e ≡ both (word_of 32 (rival_of t k)) t.enabled = ee ∙ ap (λ (w : ℕ). both w t.enabled) er in
    let q : p ≡ sum_over (bit (both (word_of 32 (rival_of t k)) t.enabled)) (due t) =
    ep ∙ rw (em, f, ed) (due_sum (both (word_of 32 (rival_of t k)) t.enabled) t) in
    rw (q, f, er, eo, ec)

-- ---- a wait that goes on

pub grown-from : (w : ℕ) (b : Bound) (n : ℕ) (m : Marks) (t : Aic) {e o f d p g c u h z : ℕ}
    → e ≡ both b.rivals t.enabled → o ≡ either b.on e → f ≡ without e b.on → d ≡ word_of 32 (dues t) → p ≡ plus b.pending f d
    → g ≡ plus b.edges b.on m.edges → c ≡ plus b.commands b.on m.commands → u ≡ plus b.turns b.on m.turns
    → h ≡ plus b.closed b.on m.closed → z ≡ pick (eqb b.broke 0 && m.rewrote) n b.broke
    → record { wait = w; rivals = b.rivals; on = o; pending = p; edges = g; commands = c; turns = u; closed = h; remembered = b.remembered; broke = z }
    ≡ grown_by w b n m t
grown-from w b n m t ee eo ef ed ep eg ec eu eh ez = rw (ez, eh, eu, ec, eg, ep, ed, ef, eo, ee)

-- ---- the three ways of a step

module _ (k w n : ℕ) (b : Bound) (m : Marks) (t : Aic) where
  pub by-idle : {r : Bound} → w < 2 → r ≡ idle w → r ≡ bound_by k w n b m t
  unfolding bound_by pick
  by-idle l e = rw (lt-ltb w 2 l) e

  pub by-fresh : {r : Bound} → 2 ≤ w → b.wait < 2 → r ≡ fresh k t → r ≡ bound_by k w n b m t
  unfolding bound_by pick
  by-fresh l o e = rw (le-ltb w 2 l, lt-ltb b.wait 2 o) e

  pub by-grown : {r : Bound} → 2 ≤ w → 2 ≤ b.wait → r ≡ grown_by w b n m t → r ≡ bound_by k w n b m t
  unfolding bound_by pick
  by-grown l o e = rw (le-ltb w 2 l, le-ltb b.wait 2 o) e
