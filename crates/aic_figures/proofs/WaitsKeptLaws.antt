-- What stands in the book after a step are the figures after it.
use Prim.Native.Nat.{ℕ, zero, suc, ◌+◌, ◌≤◌, ◌<◌, ◌^◌}
use mathlib.Core.Path.{◌≡◌, refl, sym, ap, ap₂, ◌∙◌, subst}
use mathlib.Core.Bool.{Bool, true, false, not, ◌&&◌, ◌||◌}
use mathlib.Core.List.{List, []}
use native.Mathlib.Omega.{arith}
use native.Mathlib.Decide.{ℕ_discrete}
use lib.Dec.{eqb, ltb}
use lib.ListN.{get_or, set, length, replicate, length-replicate}
use borrow.Author.Tests.{eq-eqb, ne_eqb, ltb-true, ltb-false}
use Rattle.words.specs.Choice.{pick}
use Rattle.words.specs.Counting.{one}
use Rattle.words.specs.Word.{bit, word_of, either, both, without, with_bit}
use Rattle.words.proofs.ChoiceLaws.{pick_true, pick-false, pick_cases}
use Rattle.words.proofs.TruthLaws.{or_neither, clash}
use Rattle.words.proofs.WordLaws.{bit-none, bit-word_of, bit-both, bit-without, bit-either, bit-cleared, bit_alone}
use Rattle.words.proofs.ArrayLaws.{zeros_get_d}
use Rattle.rooms.proofs.PartLaws.{made-same}
use Rattle.steps.specs.declared.Step.{Step}
use Rattle.aic_record.specs.declared.Aic.{Aic}
use Rattle.aic_sources.specs.Normal.{waiting}
use Rattle.aic.specs.Model.{step}
use Rattle.aic_runs.specs.Counted.{started_by, starts_of, starts_other}
use Rattle.aic_waits.specs.Figures.{wait_after}
use Rattle.aic_bounds.specs.declared.Bound.{Bound}
use Rattle.aic_bounds.specs.declared.Marks.{Marks}
use Rattle.aic_bounds.specs.Bounds.{idle}
use Rattle.aic_bounds.specs.Following.{plus, bound_by}
use Rattle.aic_bounds.proofs.WordLaws.{by-idle}
use Rattle.aic_bounds.specs.declared.figures.Figures.{Figures}
use Rattle.aic_bounds.specs.Figures.{no_figures, figures_with}
use Rattle.aic_figures.proofs.KeptLaws.{Way, way, asks_then, waits_then}
use Rattle.aic_figures.proofs.KeptLaws.Way.{ends, starts, begins, rests, goes}
use Rattle.aic_figures.specs.Waits.{followed}
use Rattle.aic_figures.specs.WaitsBook.{row_of, figures_in, row_after, cell_in, row_at, Columns, word_in, Small, Kept, is_quiet, gained, Stands, Rows, Worded, Moved}
use Rattle.aic_figures.proofs.ColumnLaws.{Grown, cell_row, row-grown, words_stay}
use Rattle.aic_figures.proofs.RowLaws.{row_then, row_rests, stands_asks, stands-waits, rests_then, seen_then, small_then, quiet-still, nothing_moves, row-gains, gains-none, small-gains, capped-most, none_left}

-- ---- rows put anew one after another, by the bits of a word

off : (b : Bool) → (b && not b) ≡ false
off true = refl
off false = refl

pub rows_none : (h : ℕ → List ℕ) (some : ℕ) (old : List (List ℕ)) → Columns old → Rows h (without some some) old old
rows_none h some old c =
    record { size = c; each = λ i l. pick-false (h i) (bit-without some some i l ∙ off (bit some i)); last = refl }

pub rows_all : (h : ℕ → List ℕ) (some left : ℕ) (old new : List (List ℕ)) → left ≡ 0 → Rows h (without some left) old new → Rows h some old new
rows_all h some left old new z d =
    record {
      size = d.size;
      each = λ i l. d.each i l
          ∙ ap (λ (b : Bool). pick b (h i) (row_at old i)) (bit-without some left i l ∙ all (bit some i) (bit left i) (ap (λ (w : ℕ). bit w i) z ∙ bit-none i));
      last = d.last;
    }
  where
    all : (b c : Bool) → c ≡ false → (b && not c) ≡ b
    all true c e = rw e
    all false c e = refl

module _ (h : ℕ → List ℕ) (some left : ℕ) (old new : List (List ℕ)) (i : ℕ) (l : i < 32) (b : bit left i ≡ true) (d : Rows h (without some left) old new) where
  -- a row that is still to be done is as it was
  pub still : row_at new i ≡ row_at old i
  still = d.each i l ∙ sym (pick-false (h i) (bit-without some left i l ∙ none (bit some i) (bit left i) b))
    where
      none : (x y : Bool) → y ≡ true → (x && not y) ≡ false
      none true y e = rw e
      none false y e = refl

  pub rows_more : (next : ℕ) (v : List ℕ) (last : List (List ℕ)) → bit some i ≡ true → next ≡ with_bit left i false → v ≡ h i → Rows (λ j. v) (2 ^ i) new last
      → Rows h (without some next) old last
  rows_more next v last s e f g =
      record { size = g.size; each = λ j n. g.each j n ∙ ap (λ (c : Bool). pick c v (row_at new j)) (bit_alone i j) ∙ go j n (ℕ_discrete j i); last = g.last ∙ d.last }
    where
      left_of : (j : ℕ) → j < 32 → bit (without some next) j ≡ (bit some j && not (bit left j && not (eqb j i)))
      left_of j n = bit-without some next j n ∙ ap (λ (c : Bool). bit some j && not c) (ap (λ (w : ℕ). bit w j) e ∙ bit-cleared left i j n)

      on : (x y : Bool) → x ≡ true → (x && not (y && not true)) ≡ true
      on true true p = refl
      on true false p = refl
      on false y p = p

      same : (x y : Bool) → (x && not y) ≡ (x && not (y && not false))
      same true true = refl
      same true false = refl
      same false y = refl

      go : (j : ℕ) → j < 32 → Dec (j ≡ i) → pick (eqb j i) v (row_at new j) ≡ pick (bit (without some next) j) (h j) (row_at old j)
      go j n (yes q) =
          rw q (sym (pick_true (row_at new i) (eq-eqb i i refl)) ∙ f
          ∙ pick_true (row_at old i) (left_of i l ∙ ap (λ (c : Bool). bit some i && not (bit left i && not c)) (eq-eqb i i refl) ∙ on (bit some i) (bit left i) s))
      go j n (no q) =
          sym (pick-false v (ne_eqb j i q)) ∙ d.each j n
          ∙ ap (λ (c : Bool). pick c (h j) (row_at old j))
          (bit-without some left j n ∙ same (bit some j) (bit left j) ∙ ap (λ (c : Bool). bit some j && not (bit left j && not c)) (sym (ne_eqb j i q)) ∙ sym (left_of j n))

pub row_same : (i n : ℕ) (m : Marks) (t : Aic) {x y p q : Bool} {r s : List ℕ} → x ≡ p → y ≡ q → r ≡ s → row_after i x y n m t r ≡ row_after i p q n m t s
row_same i n m t ex ey er = rw (ex, ey, er)

-- the row of one source
pub row_moved : (old new : List (List ℕ)) (k : ℕ) (was is : Bool) (n : ℕ) (m : Marks) (t : Aic) {row next : List ℕ} → row ≡ row_at old k → next ≡ row_after k was is n m t row
    → Rows (λ i. next) (2 ^ k) old new → Rows (λ i. row_after k was is n m t (row_at old k)) (2 ^ k) old new
row_moved old new k was is n m t e f d = subst (λ (r : List ℕ). Rows (λ i. r) (2 ^ k) old new) (f ∙ ap (row_after k was is n m t) e) d

-- ---- what is brought to those that wait on

pub stands-still : (f : ℕ → Figures) (m : Marks) (some : ℕ) (book : List (List ℕ)) → some ≡ 0 → Stands f book → ((i : ℕ) → i < 32 → bit some i ≡ false → (f i).bound.on ≡ 0)
    → Stands (λ i. gained (f i) m) book
stands-still f m some book z d n =
    record {
      size = d.size;
      rows = λ i l. d.rows i l ∙ ap row_of (sym (gains-none (f i) m (d.small i l) (n i l (ap (λ (w : ℕ). bit w i) z ∙ bit-none i))));
      small = λ i l. small-gains (f i) m (d.small i l);
    }

-- the columns that a step moves, one after another
module _ (f : ℕ → Figures) (m : Marks) (b₀ : List (List ℕ)) (d : Stands f b₀) where
  pub few-edges : (i : ℕ) → i < 32 → cell_in b₀ 3 i ≤ 4294967295
  few-edges i l = rw (cell_row b₀ i 3 (omega arith) (d.rows i l)) (d.small i l).2

  module _ (b₁ : List (List ℕ)) (g₁ : Grown 3 m.edges b₀ b₁) where
    row_1 : (i : ℕ) → i < 32 → row_at b₁ i ≡ set (row_of (f i)) 3 (plus (f i).bound.edges (f i).bound.on m.edges)
    row_1 i l = row-grown b₀ b₁ 3 m.edges (omega arith) g₁ i l (d.rows i l)

    pub few-commands : (i : ℕ) → i < 32 → cell_in b₁ 4 i ≤ 4294967295
    few-commands i l = rw (cell_row b₁ i 4 (omega arith) (row_1 i l)) (d.small i l).3

    module _ (b₂ : List (List ℕ)) (g₂ : Grown 4 m.commands b₁ b₂) where
      row_2 : (i : ℕ) → i < 32 → row_at b₂ i
          ≡ set (set (row_of (f i)) 3 (plus (f i).bound.edges (f i).bound.on m.edges)) 4 (plus (f i).bound.commands (f i).bound.on m.commands)
      row_2 i l = row-grown b₁ b₂ 4 m.commands (omega arith) g₂ i l (row_1 i l)

      pub few-turns : (i : ℕ) → i < 32 → cell_in b₂ 5 i ≤ 4294967295
      few-turns i l = rw (cell_row b₂ i 5 (omega arith) (row_2 i l)) (d.small i l).4

      module _ (b₃ : List (List ℕ)) (g₃ : Grown 5 m.turns b₂ b₃) where
        row_3 : (i : ℕ) → i < 32 → row_at b₃ i
            ≡ set (set (set (row_of (f i)) 3 (plus (f i).bound.edges (f i).bound.on m.edges)) 4 (plus (f i).bound.commands (f i).bound.on m.commands)) 5
            (plus (f i).bound.turns (f i).bound.on m.turns)
        row_3 i l = row-grown b₂ b₃ 5 m.turns (omega arith) g₃ i l (row_2 i l)

        pub few_closed : (i : ℕ) → i < 32 → cell_in b₃ 6 i ≤ 4294967295
        few_closed i l = rw (cell_row b₃ i 6 (omega arith) (row_3 i l)) (d.small i l).5

        pub stands-grown : (b₄ : List (List ℕ)) → Grown 6 m.closed b₃ b₄ → Stands (λ i. gained (f i) m) b₄ × (get_or b₄ 18 [] ≡ get_or b₀ 18 [])
        stands-grown b₄ g₄ = (
          record {
            size = g₄.size;
            rows = λ i l. row-grown b₃ b₄ 6 m.closed (omega arith) g₄ i l (row_3 i l);
            small = λ i l. small-gains (f i) m (d.small i l);
          },
          words_stay 6 m.closed b₃ b₄ (omega arith) g₃.size g₄ ∙ words_stay 5 m.turns b₂ b₃ (omega arith) g₂.size g₃
              ∙ words_stay 4 m.commands b₁ b₂ (omega arith) g₁.size g₂ ∙ words_stay 3 m.edges b₀ b₁ (omega arith) d.size g₁,
        )

-- ---- a step that enables no source and rewrites no mode: waits end, others are brought something, others begin

module _ (f : ℕ → Figures) (t : Aic) (n : ℕ) (m : Marks) (was is : ℕ) (old : List (List ℕ)) (k : Kept f old) (ew : was ≡ word_in old 1) where
  abbrev h : List (List ℕ) → ℕ → List ℕ
  h book i = row_after i (bit was i) (bit is i) n m t (row_at book i)

  -- the figures of a source once its wait has ended
  abbrev pub ended : ℕ → Figures
  ended i = figures_with n (figures_in true (row_of (f i))) (idle 0)

  ended-row : (i : ℕ) → row_after i true false n m t (row_of (f i)) ≡ row_of (ended i)
  unfolding row_after pick figures_with
  ended-row i = ap (λ (b : Bound). row_of (figures_with n (figures_in true (row_of (f i))) b)) (sym (by-idle i 0 n (figures_in true (row_of (f i))).bound m t (omega arith) refl))

  ended_small : (i : ℕ) → Small (ended i)
  unfolding figures_with
  ended_small i = (omega arith, omega arith, omega arith, omega arith, omega arith, omega arith, capped-most _, capped-most _)

  ended_on : (i : ℕ) → (ended i).bound.on ≡ 0
  unfolding figures_with
  ended_on i = refl

  -- those after the waits that end with the step have ended
  abbrev pub between : ℕ → Figures
  between i = pick (bit was i && not (bit is i)) (ended i) (f i)

  waited : (i : ℕ) → i < 32 → bit was i ≡ ltb 1 (f i).bound.wait
  waited i l = ap (λ (w : ℕ). bit w i) ew ∙ k.waits i l

  idle_on : (i : ℕ) → i < 32 → bit was i ≡ false → (f i).bound.on ≡ 0
  idle_on i l p = ap (λ (b : Bound). b.on) (k.rests i l (omega (arith, ltb-false 1 (f i).bound.wait (sym (waited i l) ∙ p))))

  module _ (b₁ : List (List ℕ)) (d₁ : Rows (h old) (without was is) old b₁) where
    pub stands-between : Stands between b₁
    unfolding pick
    stands-between =
        record {
          size = d₁.size;
          rows = λ i l. d₁.each i l ∙ ap (λ (c : Bool). pick c (h old i) (row_at old i)) (bit-without was is i l) ∙ go i l (bit was i) (bit is i) refl refl;
          small = λ i l. pick_cases Small (bit was i && not (bit is i)) (λ e. ended_small i) (λ e. k.small i l);
        }
      where
        go : (i : ℕ) → i < 32 → (x y : Bool) → bit was i ≡ x → bit is i ≡ y → pick (x && not y) (h old i) (row_at old i) ≡ row_of (pick (x && not y) (ended i) (f i))
        go i l true true p q = k.rows i l
        go i l true false p q = row_same i n m t p q (k.rows i l) ∙ ended-row i
        go i l false y p q = k.rows i l

    pub between_on : (i : ℕ) → i < 32 → bit (both was is) i ≡ false → (between i).bound.on ≡ 0
    unfolding pick
    between_on i l e = go (bit was i) (bit is i) refl refl (sym (bit-both was is i l) ∙ e)
      where
        go : (x y : Bool) → bit was i ≡ x → bit is i ≡ y → (bit was i && bit is i) ≡ false → (pick (bit was i && not (bit is i)) (ended i) (f i)).bound.on ≡ 0
        go true true p q z = clash (ap₂ (λ (a b : Bool). a && b) p q) z
        go true false p q z = rw (p, q) (ended_on i)
        go false y p q z = rw p (idle_on i l p)

    module _ (same : t.enabled ≡ word_in old 2) (steady : m.rewrote ≡ false) (b₂ : List (List ℕ)) (d₂ : Stands (λ i. gained (between i) m) b₂) (w₂ : get_or b₂ 18 [] ≡ get_or b₁ 18 [])
        (b₃ : List (List ℕ)) (d₃ : Rows (h b₂) (without is was) b₂ b₃) where
      pub rows-steady : Rows (h old) (either was is) old b₃
      unfolding pick
      rows-steady =
          record {
            size = d₃.size;
            each = λ i l. d₃.each i l ∙ ap (λ (c : Bool). pick c (h b₂ i) (row_at b₂ i)) (bit-without is was i l) ∙ go i l (bit was i) (bit is i) refl refl
                ∙ ap (λ (c : Bool). pick c (h old i) (row_at old i)) (sym (bit-either was is i l));
            last = d₃.last ∙ w₂ ∙ d₁.last;
          }
        where
          is-between : (i : ℕ) (x y : Bool) → bit was i ≡ x → bit is i ≡ y → between i ≡ pick (x && not y) (ended i) (f i)
          is-between i x y p q = ap₂ (λ (a b : Bool). pick (a && not b) (ended i) (f i)) p q

          stays : (i : ℕ) → i < 32 → (g : Figures) → between i ≡ g → g.bound.on ≡ 0 → row_at b₂ i ≡ row_of g
          stays i l g e z =
              d₂.rows i l ∙ ap (λ (x : Figures). row_of (gained x m)) e ∙ ap row_of (gains-none g m (subst Small e (stands-between.small i l)) z)

          go : (i : ℕ) → i < 32 → (x y : Bool) → bit was i ≡ x → bit is i ≡ y → pick (y && not x) (h b₂ i) (row_at b₂ i) ≡ pick (x || y) (h old i) (row_at old i)
          go i l true true p q =
              d₂.rows i l ∙ ap (λ (x : Figures). row_of (gained x m)) (is-between i true true p q)
              ∙ sym (row-gains i n m t (f i) (k.small i l) (ap (λ (w : ℕ). without (both (f i).bound.rivals w) (f i).bound.on) same ∙ k.seen i l) steady (sym p ∙ waited i l))
              ∙ row_same i n m t (sym p) (sym q) (sym (k.rows i l))
          go i l true false p q =
              stays i l (ended i) (is-between i true false p q) (ended_on i) ∙ sym (ended-row i) ∙ row_same i n m t (sym p) (sym q) (sym (k.rows i l))
          go i l false true p q =
              row_same i n m t refl refl (stays i l (f i) (is-between i false true p q) (idle_on i l p) ∙ sym (k.rows i l))
          go i l false false p q =
              stays i l (f i) (is-between i false false p q) (idle_on i l p) ∙ sym (k.rows i l)

-- ---- all of it: the rows, and the words

pub moved-from : (by asks n : ℕ) (m : Marks) (t : Aic) (was is enabled : ℕ) (old mid new : List (List ℕ)) → was ≡ word_in old 1
    → ((i : ℕ) → i < 32 → bit is i ≡ ((bit asks i && not (eqb i by)) && (bit was i || not (bit (word_in old 0) i)))) → enabled ≡ t.enabled
    → Rows (λ i. row_after i (bit was i) (bit is i) n m t (row_at old i)) (either was is) old mid → Worded asks is enabled mid new
    → Moved by asks n m t old new
moved-from by asks n m t was is enabled old mid new ew ei ee d e =
    record {
      size = e.size;
      asked = e.words.0;
      waits = λ i l. ap (λ (w : ℕ). bit w i) e.words.1 ∙ ei i l ∙ ap (λ (w : ℕ). (bit asks i && not (eqb i by)) && (bit w i || not (bit (word_in old 0) i))) ew;
      enabled = e.words.2 ∙ ee;
      rows = λ i l. e.rows i l ∙ d.each i l
          ∙ ap (λ (c : Bool). pick c (row_after i (bit was i) (bit is i) n m t (row_at old i)) (row_at old i)) (bit-either was is i l)
          ∙ ap₂ (λ (u v : ℕ). pick (bit u i || bit v i) (row_after i (bit u i) (bit v i) n m t (row_at old i)) (row_at old i)) ew (sym e.words.1);
    }

-- ---- the figures after a step

module _ (f : ℕ → Figures) (s : Aic) (x : Step) (n : ℕ) (m : Marks) (old : List (List ℕ)) (h : Kept f old) where
  abbrev t : Aic
  t = (step s x).aic

  abbrev by : ℕ
  by = started_by s x

  abbrev w : ℕ → ℕ
  w i = (f i).bound.wait

  abbrev v : ℕ → ℕ
  v i = wait_after i (w i) s x

  this : (i : ℕ) → Way (w i) (waiting t i) (starts_of i s x) (ltb by 32) (v i)
  unfolding starts_of starts_other
  this i = way (w i) (waiting t i) (eqb i by) (ltb by 32)

  bound-is : (i : ℕ) → (followed n m f s x i).bound ≡ bound_by i (v i) n (f i).bound m t
  unfolding followed figures_with
  bound-is i = refl

  module _ (new : List (List ℕ)) (g : Moved by (word_of 32 (waiting t)) n m t old new) where
    new-waits : (i : ℕ) → i < 32 → bit (word_in new 1) i ≡ ltb 1 (v i)
    unfolding starts_of
    new-waits i l =
        g.waits i l
        ∙ ap₂ (λ (a b : Bool). (a && not (eqb i by)) && b) (bit-word_of 32 (waiting t) i l) (ap₂ (λ (a b : Bool). a || not b) (h.waits i l) (h.asks i l))
        ∙ waits_then _ _ _ _ _ (this i)

    row_is : (i : ℕ) → i < 32 → row_at new i ≡ row_of (followed n m f s x i)
    unfolding followed
    row_is i l =
        g.rows i l
        ∙ ap₂ (λ (a b : Bool). pick (a || b) (row_after i a b n m t (row_at old i)) (row_at old i)) (h.waits i l) (new-waits i l)
        ∙ ap (λ (r : List ℕ). pick (ltb 1 (w i) || ltb 1 (v i)) (row_after i (ltb 1 (w i)) (ltb 1 (v i)) n m t r) r) (h.rows i l)
        ∙ pick_cases (λ r. r ≡ row_of (figures_with n (f i) (bound_by i (v i) n (f i).bound m t))) (ltb 1 (w i) || ltb 1 (v i))
        (λ e. sym (row_then i (v i) n m t (f i) (ltb 1 (w i)) (ltb 1 (v i)) refl refl))
        (λ e. let o = or_neither (ltb 1 (w i)) (ltb 1 (v i)) e in
        let p : w i < 2 = omega (arith, ltb-false 1 (w i) o.0) in
        sym (row_rests i (v i) n m t (f i) p (omega (arith, ltb-false 1 (v i) o.1)) (h.rests i l p) (h.small i l)))

    pub kept_on : Kept (followed n m f s x) new
    kept_on =
        record {
          size = g.size;
          rows = row_is;
          asks = λ i l. ap (λ (k : ℕ). bit k i) g.asked ∙ bit-word_of 32 (waiting t) i l ∙ asks_then _ _ _ _ _ (this i)
              ∙ sym (ap (λ (b : Bound). ltb 0 b.wait) (bound-is i) ∙ stands_asks i (v i) n m t (f i));
          waits = λ i l. new-waits i l ∙ sym (ap (λ (b : Bound). ltb 1 b.wait) (bound-is i) ∙ stands-waits i (v i) n m t (f i));
          rests = λ i l. rw (bound-is i) (rests_then i (v i) n m t (f i));
          seen = λ i l. rw (bound-is i, g.enabled) (seen_then i (v i) n m t (f i));
          small = λ i l. unfold followed in (small_then i (v i) n m t (f i) (h.small i l));
        }

  -- ---- a step that brings nothing, after which the same ask and are enabled, and no handler was started

  module _ (quiet : is_quiet m ≡ true) (asks : word_of 32 (waiting t) ≡ word_in old 0) (enabled : t.enabled ≡ word_in old 2) (none : by ≡ 32) where
    asks-same : (i : ℕ) → i < 32 → waiting t i ≡ ltb 0 (w i)
    asks-same i l = sym (bit-word_of 32 (waiting t) i l) ∙ ap (λ (k : ℕ). bit k i) asks ∙ h.asks i l

    wait-same : (i : ℕ) → i < 32 → v i ≡ w i
    wait-same i l = go (this i)
      where
        own : starts_of i s x ≡ false
        own = unfold starts_of in (ap (eqb i) none ∙ ne_eqb i 32 (λ q. absurd (omega (arith, q, l))))

        go : Way (w i) (waiting t i) (starts_of i s x) (ltb by 32) (v i) → v i ≡ w i
        go (ends a e) = e ∙ omega (arith, ltb-false 0 (w i) (sym (asks-same i l) ∙ a))
        go (starts a o e) = absurd (clash o own)
        go (begins a o z e) = absurd (omega (arith, ltb-true 0 (w i) (sym (asks-same i l) ∙ a), z))
        go (rests a o z e) = e ∙ sym z
        go (goes a o z e) = e ∙ ap (λ (c : Bool). w i + one c) (ap (λ (k : ℕ). ltb k 32) none) ∙ omega arith

    figures_stay : (i : ℕ) → i < 32 → followed n m f s x i ≡ f i
    unfolding followed
    figures_stay i l =
        ap (λ (k : ℕ). figures_with n (f i) (bound_by i k n (f i).bound m t)) (wait-same i l)
        ∙ nothing_moves i n m t (f i) (h.small i l)
        (quiet-still t.enabled (f i).bound.rivals (f i).bound.on (f i).bound.broke m quiet (ap (λ (k : ℕ). without (both (f i).bound.rivals k) (f i).bound.on) enabled ∙ h.seen i l))
        (h.rests i l)

    pub kept-still : Kept (followed n m f s x) old
    kept-still =
        record {
          size = h.size;
          rows = λ i l. h.rows i l ∙ ap row_of (sym (figures_stay i l));
          asks = λ i l. h.asks i l ∙ ap (λ (g : Figures). ltb 0 g.bound.wait) (sym (figures_stay i l));
          waits = λ i l. h.waits i l ∙ ap (λ (g : Figures). ltb 1 g.bound.wait) (sym (figures_stay i l));
          rests = λ i l. rw (figures_stay i l) (h.rests i l);
          seen = λ i l. ap (λ (g : Figures). without (both g.bound.rivals (word_in old 2)) g.bound.on) (figures_stay i l) ∙ h.seen i l;
          small = λ i l. rw (figures_stay i l) (h.small i l);
        }

-- ---- the book at the start

abbrev zeros : List ℕ
zeros = replicate 32 0

abbrev blank : List (List ℕ)
blank = replicate 19 zeros

pub kept-start : Kept (λ k. no_figures) (replicate 19 (replicate 32 0))
kept-start =
    record {
      size = (length-replicate {A = List ℕ} 19 zeros, λ j l. ap length (same 19 j l) ∙ length-replicate {A = ℕ} 32 0);
      rows = λ i p. unfold row_at in (made-same 18 (λ j. cell_in blank j i) (λ j. 0) (λ j l. cell j i (omega (arith, l))));
      asks = λ i p. ap (λ (w : ℕ). bit w i) (cell 18 0 (omega arith)) ∙ bit-none i;
      waits = λ i p. ap (λ (w : ℕ). bit w i) (cell 18 1 (omega arith)) ∙ bit-none i;
      rests = λ i p q. refl;
      seen = λ i p. none_left (both 0 (word_in blank 2)) 0 (λ k q. rw (both-none (word_in blank 2) k q));
      small = λ i p. (omega arith, omega arith, omega arith, omega arith, omega arith, omega arith, omega arith, omega arith);
    }
  where
    same : (n j : ℕ) → j < n → get_or (replicate n zeros) j [] ≡ zeros
    same zero j l = absurd (omega (arith, l))
    same (suc n) zero l = refl
    same (suc n) (suc j) l = same n j (omega (arith, l))

    cell : (j i : ℕ) → j < 19 → cell_in blank j i ≡ 0
    cell j i l = ap (λ (c : List ℕ). get_or c i 0) (same 19 j l) ∙ zeros_get_d 32 i

    both-none : (a k : ℕ) → k < 32 → bit (both 0 a) k ≡ false
    both-none a k q = bit-both 0 a k q ∙ ap (λ (b : Bool). b && bit a k) (bit-none k)
