-- What stands in the book after a step are the figures after it.
use Prim.Native.Nat.{ℕ, ◌+◌, ◌-◌, ◌≤◌, ◌<◌, max}
use mathlib.Core.Path.{◌≡◌, refl, sym, ap, ap₂, ◌∙◌, subst}
use mathlib.Core.Bool.{Bool, true, false, not, ◌&&◌, ◌||◌}
use mathlib.Core.List.{List}
use mathlib.Core.Logic.{◌⊎◌, inl, inr}
use native.Mathlib.Omega.{arith}
use native.Mathlib.Decide.{ℕ_discrete, dec_lt}
use lib.Dec.{eqb, ltb}
use lib.ListN.{get_or, length, replicate, length-replicate}
use lib.Seq.{ext_get_or}
use borrow.Author.Tests.{eq-eqb, ne_eqb, lt-ltb, le-ltb, ltb-true}
use Rattle.words.specs.Choice.{pick}
use Rattle.words.specs.Counting.{one}
use Rattle.words.specs.Word.{bit, word_of}
use Rattle.words.proofs.ArrayLaws.{zeros_get_d}
use Rattle.words.proofs.ChoiceLaws.{pick_true, pick-false}
use Rattle.words.proofs.CountingLaws.{one_le}
use Rattle.words.proofs.TruthLaws.{told}
use Rattle.words.proofs.WordLaws.{bit-word_of, bit-none}
use Rattle.steps.specs.declared.Step.{Step}
use Rattle.aic_record.specs.declared.Aic.{Aic}
use Rattle.aic_sources.specs.Normal.{waiting}
use Rattle.aic.specs.Model.{step}
use Rattle.aic_runs.specs.Counted.{started_by, starts_of, starts_other}
use Rattle.aic_waits.specs.Figures.{wait_next, wait_after, is_open, entries_now}
use Rattle.aic_waits.specs.Following.{Figures, capped, no_figures, followed}
use Rattle.aic_waits.proofs.FigureLaws.{capped_is}
use Rattle.aic_waits.proofs.RunLaws.{whole-followed, started-followed, wait-followed, waited-followed, entries-followed}
use Rattle.aic_figures.specs.Book.{Kept, Put, Moved, settled_at}

-- ---- how it stands with one source: the number w before, v after a step; what the book has of it, a wait's beginning b, the most m, and starts n, k

-- the four ways of a step: it does not ask then; it is started; its wait begins; it goes on as it was, with one more where another is started
pub data Way (w : ℕ) (asks own any : Bool) (v : ℕ) : Type 0 where
  ends : asks ≡ false → v ≡ 0 → Way w asks own any v
  starts : asks ≡ true → own ≡ true → v ≡ 1 → Way w asks own any v
  begins : asks ≡ true → own ≡ false → w ≡ 0 → v ≡ 2 → Way w asks own any v
  rests : asks ≡ true → own ≡ false → w ≡ 1 → v ≡ 1 → Way w asks own any v
  goes : asks ≡ true → own ≡ false → 1 < w → v ≡ w + one any → Way w asks own any v

pub way : (w : ℕ) (asks own any : Bool) → Way w asks own any (wait_next w asks own (any && not own))
unfolding wait_next pick
way w false own any = ends refl refl
way w true true any = starts refl refl refl
way w true false any = go (ℕ_discrete w 0) (ℕ_discrete w 1)
  where
    and_so : (b : Bool) → (b && not false) ≡ b
    and_so true = refl
    and_so false = refl

    go : Dec (w ≡ 0) → Dec (w ≡ 1) → Way w true false any (pick (eqb w 0) 2 (w + one (ltb 1 w && (any && not false))))
    go (yes z) d = rw (eq-eqb w 0 z) (begins refl refl z refl)
    go (no z) (yes o) = rw (ne_eqb w 0 z) (rests refl refl o (ap (λ (b : Bool). w + one (b && (any && not false))) (le-ltb 1 w (omega (arith, o))) ∙ omega (arith, o)))
    go (no z) (no o) =
        rw (ne_eqb w 0 z)
        (goes refl refl (omega (arith, z, o)) (ap (λ (b : Bool). w + one (b && (any && not false))) (lt-ltb 1 w (omega (arith, z, o))) ∙ ap (λ (b : Bool). w + one b) (and_so any)))

since_began : (w b n : ℕ) → b + w ≡ n + 2 → 1 < w → w - 2 ≡ n - b
since_began w b n e l = omega (arith, e, l)

max-more : (m a b : ℕ) → a ≤ b → max (max m a) b ≡ max m b
max-more m a b l = omega (arith, l)

module _ (w : ℕ) (asks own any : Bool) (v : ℕ) where
  -- it asks
  pub asks_then : Way w asks own any v → asks ≡ ltb 0 v
  asks_then (ends a e) = a ∙ sym (le-ltb 0 v (omega (arith, e)))
  asks_then (starts a o e) = a ∙ sym (lt-ltb 0 v (omega (arith, e)))
  asks_then (begins a o z e) = a ∙ sym (lt-ltb 0 v (omega (arith, e)))
  asks_then (rests a o z e) = a ∙ sym (lt-ltb 0 v (omega (arith, e)))
  asks_then (goes a o z e) = a ∙ sym (lt-ltb 0 v (omega (arith, z, e)))

  -- it waits
  pub waits_then : Way w asks own any v → ((asks && not own) && (ltb 1 w || not (ltb 0 w))) ≡ ltb 1 v
  waits_then (ends a e) = rw (a, le-ltb 1 v (omega (arith, e)))
  waits_then (starts a o e) = rw (a, o, le-ltb 1 v (omega (arith, e)))
  waits_then (begins a o z e) = rw (a, o, le-ltb 1 w (omega (arith, z)), le-ltb 0 w (omega (arith, z)), lt-ltb 1 v (omega (arith, e)))
  waits_then (rests a o z e) = rw (a, o, le-ltb 1 w (omega (arith, z)), lt-ltb 0 w (omega (arith, z)), le-ltb 1 v (omega (arith, e)))
  waits_then (goes a o z e) = rw (a, o, lt-ltb 1 w z, lt-ltb 1 v (omega (arith, z, e)))

  -- its wait began
  pub began_then : Way w asks own any v → (b n k : ℕ) → k ≡ n + one any → (1 < w → b + w ≡ n + 2) → 1 < v
      → pick (ltb 1 v && not (ltb 1 w)) k b + v ≡ k + 2
  unfolding pick
  began_then (ends a e) b n k f g l = absurd (omega (arith, e, l))
  began_then (starts a o e) b n k f g l = absurd (omega (arith, e, l))
  began_then (begins a o z e) b n k f g l = rw (lt-ltb 1 v l, le-ltb 1 w (omega (arith, z))) (omega (arith, e))
  began_then (rests a o z e) b n k f g l = absurd (omega (arith, e, l))
  began_then (goes a o z e) b n k f g l = rw (lt-ltb 1 v l, lt-ltb 1 w z) (omega (arith, e, f, g z))

  -- the most of its waits
  pub waited_then : Way w asks own any v → (m b n : ℕ) → (1 < w → b + w ≡ n + 2)
      → max (max m (w - 2)) (v - 2) ≡ max (pick (ltb 1 w && not (ltb 1 v)) (max m (n - b)) m) (v - 2)
  unfolding pick
  waited_then (ends a e) m b n g = ended (dec_lt 1 w)
    where
      ended : Dec (1 < w) → max (max m (w - 2)) (v - 2) ≡ max (pick (ltb 1 w && not (ltb 1 v)) (max m (n - b)) m) (v - 2)
      ended (yes l) = rw (lt-ltb 1 w l, le-ltb 1 v (omega (arith, e))) (ap (λ (k : ℕ). max (max m k) (v - 2)) (since_began w b n (g l) l))
      ended (no q) = rw (le-ltb 1 w (omega (arith, q))) (omega (arith, e, q))
  waited_then (starts a o e) m b n g = ended (dec_lt 1 w)
    where
      ended : Dec (1 < w) → max (max m (w - 2)) (v - 2) ≡ max (pick (ltb 1 w && not (ltb 1 v)) (max m (n - b)) m) (v - 2)
      ended (yes l) = rw (lt-ltb 1 w l, le-ltb 1 v (omega (arith, e))) (ap (λ (k : ℕ). max (max m k) (v - 2)) (since_began w b n (g l) l))
      ended (no q) = rw (le-ltb 1 w (omega (arith, q))) (omega (arith, e, q))
  waited_then (begins a o z e) m b n g = rw (le-ltb 1 w (omega (arith, z))) (omega (arith, z, e))
  waited_then (rests a o z e) m b n g = rw (le-ltb 1 w (omega (arith, z))) (omega (arith, z, e))
  waited_then (goes a o z e) m b n g = rw (lt-ltb 1 w z, lt-ltb 1 v (omega (arith, z, e))) (max-more m (w - 2) (v - 2) (omega (arith, e, one_le any)))

  pub way-most : Way w asks own any v → v ≤ w + 2
  way-most (ends a e) = omega (arith, e)
  way-most (starts a o e) = omega (arith, e)
  way-most (begins a o z e) = omega (arith, e)
  way-most (rests a o z e) = omega (arith, e)
  way-most (goes a o z e) = omega (arith, e, one_le any)

-- ---- all sources

module _ (f : Figures) (s : Aic) (n : ℕ) (x : Step) (old new : List ℕ) (small : n < 4294967290) (h : Kept f s n old)
    (m : Moved (started_by s x) (word_of 32 (waiting (step s x).aic)) (step s x).aic old new) where
  abbrev t : Aic
  t = (step s x).aic

  abbrev by : ℕ
  by = started_by s x

  abbrev w : ℕ → ℕ
  w i = get_or f.wait i 0

  -- how it stands with source i after the step
  module _ (i : ℕ) (l : i < 32) where
    w-most : w i ≤ n + 2
    w-most = go (dec_lt 1 (w i))
      where
        go : Dec (1 < w i) → w i ≤ n + 2
        go (yes q) = omega (arith, h.began i l q, h.few)
        go (no q) = omega (arith, q)

    this : Way (w i) (waiting t i) (starts_of i s x) (ltb by 32) (wait_after i (w i) s x)
    unfolding starts_of starts_other
    this = way (w i) (waiting t i) (eqb i by) (ltb by 32)

    pub after : get_or (followed f s x).wait i 0 ≡ wait_after i (w i) s x
    after = wait-followed f s x h.whole i l ∙ sym (capped_is _ (omega (arith, way-most _ _ _ _ _ this, w-most, small)))

    started_small : get_or f.started i 0 + one (starts_of i s x) ≤ n + 1
    started_small = omega (arith, h.fewer i l, one_le (starts_of i s x))

    pub started-after : get_or (followed f s x).started i 0 ≡ get_or f.started i 0 + one (starts_of i s x)
    started-after = started-followed f s x h.whole i l ∙ sym (capped_is _ (omega (arith, started_small, small)))

    own_put : get_or new (32 + i) 0 ≡ get_or f.started i 0 + one (starts_of i s x)
    unfolding starts_of pick
    own_put = m.started i l ∙ go (eqb i by)
      where
        go : (b : Bool) → pick b (capped (get_or old (32 + i) 0 + 1)) (get_or old (32 + i) 0) ≡ get_or f.started i 0 + one b
        go true = rw (h.started i l) (sym (capped_is _ (omega (arith, h.fewer i l, small))))
        go false = rw (h.started i l) (omega arith)

    pub waited-after : get_or (followed f s x).waited i 0 ≡ max (get_or f.waited i 0) (wait_after i (w i) s x - 2)
    waited-after =
        waited-followed f s x h.whole i l
        ∙ ap (λ (k : ℕ). max (get_or f.waited i 0) (k - 2)) (sym (capped_is _ (omega (arith, way-most _ _ _ _ _ this, w-most, small))))

    asks-is : bit (word_of 32 (waiting t)) i ≡ waiting t i
    asks-is = bit-word_of 32 (waiting t) i l

    new-waits : bit (get_or new 1 0) i ≡ ltb 1 (wait_after i (w i) s x)
    unfolding starts_of
    new-waits =
        m.waits i l
        ∙ ap₂ (λ (a b : Bool). (a && not (eqb i by)) && b) asks-is (ap₂ (λ (a b : Bool). a || not b) (h.waits i l) (h.asks i l))
        ∙ waits_then _ _ _ _ _ this

  new-starts : get_or new 2 0 ≡ get_or old 2 0 + one (ltb by 32)
  unfolding pick
  new-starts = m.starts ∙ go (ltb by 32)
    where
      go : (b : Bool) → pick b (capped (get_or old 2 0 + 1)) (get_or old 2 0) ≡ get_or old 2 0 + one b
      go true = sym (capped_is _ (omega (arith, h.few, small)))
      go false = omega arith

  pub kept_on : Kept (followed f s x) t (n + 1) new
  kept_on =
      record {
        size = m.size ∙ h.size;
        whole = whole-followed f s x h.whole;
        asks = λ i l. ap (λ (k : ℕ). bit k i) m.asked ∙ asks-is i l ∙ asks_then _ _ _ _ _ (this i l) ∙ ap (ltb 0) (sym (after i l));
        waits = λ i l. new-waits i l ∙ ap (ltb 1) (sym (after i l));
        few = omega (arith, new-starts, one_le (ltb by 32), h.few);
        started = λ i l. own_put i l ∙ sym (started-after i l);
        fewer = λ i l. omega (arith, started-after i l, started_small i l);
        began = λ i l q. began-is i l q;
        waited = λ i l. waited-is i l;
        entries = λ i l. m.entries i l ∙ ap (λ (k : ℕ). max k (entries_now t i)) (h.entries i l) ∙ sym (entries-followed f s x h.whole i l);
        deep = λ i l o. omega (arith, entries-followed f s x h.whole i l, open_now i o);
      }
    where
      open_now : (i : ℕ) → is_open t i ≡ true → entries_now t i ≡ t.depth
      open_now i o = sym (pick_true 0 o)

      began-is : (i : ℕ) → i < 32 → 1 < get_or (followed f s x).wait i 0 → get_or new (64 + i) 0 + get_or (followed f s x).wait i 0 ≡ get_or new 2 0 + 2
      began-is i l q =
          rw (after i l)
          (ap (λ (k : ℕ). k + wait_after i (w i) s x) (m.began i l ∙ ap₂ (λ (a b : Bool). pick (a && not b) (get_or new 2 0) (get_or old (64 + i) 0)) (new-waits i l) (h.waits i l))
          ∙ began_then _ _ _ _ _ (this i l) (get_or old (64 + i) 0) (get_or old 2 0) (get_or new 2 0) new-starts (h.began i l) (subst (λ (k : ℕ). 1 < k) (after i l) q))

      waited-is : (i : ℕ) → i < 32 → get_or (followed f s x).waited i 0 ≡ max (get_or new (96 + i) 0) (get_or (followed f s x).wait i 0 - 2)
      waited-is i l =
          waited-after i l ∙ ap (λ (k : ℕ). max k (wait_after i (w i) s x - 2)) (h.waited i l)
          ∙ waited_then _ _ _ _ _ (this i l) (get_or old (96 + i) 0) (get_or old (64 + i) 0) (get_or old 2 0) (h.began i l)
          ∙ ap₂ (λ (j k : ℕ). max j (k - 2))
          (sym (m.waited i l ∙ ap₂ (λ (a b : Bool). pick (a && not b) (settled_at old i) (get_or old (96 + i) 0)) (h.waits i l) (new-waits i l))) (sym (after i l))

-- ---- a step after which the same sources ask, and no entry has opened

module _ (f : Figures) (s : Aic) (n : ℕ) (x : Step) (book : List ℕ) (h : Kept f s n book) (asks : ℕ) (same : asks ≡ get_or book 0 0)
    (none : started_by s x ≡ 32) (shut : (step s x).aic.depth ≤ s.depth) (less : (i : ℕ) → is_open (step s x).aic i ≡ true → is_open s i ≡ true) where
  abbrev u : Aic
  u = (step s x).aic

  stays : (a b : Bool) → (b ≡ true → a ≡ true) → b ≡ ((a && not false) && (b || not a))
  stays true true q = refl
  stays true false q = refl
  stays false true q = sym (q refl)
  stays false false q = refl

  off : (b : Bool) → (b && not b) ≡ false
  off true = refl
  off false = refl

  pub moved_none : Moved (started_by s x) asks u book book
  unfolding pick
  moved_none =
      record {
        size = refl;
        asked = sym same;
        waits = λ i l. waits-same i l;
        starts = rw none;
        started = λ i l. rw (none, ne_eqb i 32 (λ q. absurd (omega (arith, q, l))));
        began = λ i l. pick-false (get_or book 2 0) (off (bit (get_or book 1 0) i));
        waited = λ i l. pick-false (settled_at book i) (off (bit (get_or book 1 0) i));
        entries = λ i l. entries-same i l (told (is_open u i));
      }
    where
      waits-same : (i : ℕ) → i < 32 → bit (get_or book 1 0) i ≡ ((bit asks i && not (eqb i (started_by s x))) && (bit (get_or book 1 0) i || not (bit (get_or book 0 0) i)))
      waits-same i l =
          rw (none, ne_eqb i 32 (λ q. absurd (omega (arith, q, l))), same)
          (stays (bit (get_or book 0 0) i) (bit (get_or book 1 0) i) (λ b. h.asks i l ∙ lt-ltb 0 (get_or f.wait i 0) (omega (arith, ltb-true 1 (get_or f.wait i 0) (sym (h.waits i l) ∙ b)))))

      entries-same : (i : ℕ) → i < 32 → (is_open u i ≡ true) ⊎ (is_open u i ≡ false) → get_or book (128 + i) 0 ≡ max (get_or book (128 + i) 0) (entries_now u i)
      entries-same i l (inl o) = rw o (omega (arith, h.entries i l, h.deep i l (less i o), shut))
      entries-same i l (inr o) = rw o (omega arith)

-- ---- the book at the start, and at the end

pub kept-first : (s : Aic) → s.depth ≡ 0 → Kept no_figures s 0 (replicate 160 0)
unfolding is_open
kept-first s z =
    record {
      size = length-replicate {A = ℕ} 160 0;
      whole = (length-replicate {A = ℕ} 32 0, length-replicate {A = ℕ} 32 0, length-replicate {A = ℕ} 32 0, length-replicate {A = ℕ} 32 0);
      asks = λ i l. ap (λ (w : ℕ). bit w i) (zeros_get_d 160 0) ∙ bit-none i ∙ ap (ltb 0) (sym (zeros_get_d 32 i));
      waits = λ i l. ap (λ (w : ℕ). bit w i) (zeros_get_d 160 1) ∙ bit-none i ∙ ap (ltb 1) (sym (zeros_get_d 32 i));
      few = omega (arith, zeros_get_d 160 2);
      started = λ i l. zeros_get_d 160 (32 + i) ∙ sym (zeros_get_d 32 i);
      fewer = λ i l. omega (arith, zeros_get_d 32 i);
      began = λ i l q. absurd (omega (arith, zeros_get_d 32 i, q));
      waited = λ i l. omega (arith, zeros_get_d 32 i, zeros_get_d 160 (96 + i));
      entries = λ i l. zeros_get_d 160 (128 + i) ∙ sym (zeros_get_d 32 i);
      deep = λ i l o. omega (arith, z);
    }

same_list : (a b : List ℕ) → length a ≡ 32 → length b ≡ 32 → ((i : ℕ) → i < 32 → get_or a i 0 ≡ get_or b i 0) → a ≡ b
same_list a b n m f = ext_get_or 0 a b (n ∙ sym m) (λ i l. f i (omega (arith, n, l)))

module _ (f : Figures) (s : Aic) (n : ℕ) (book last : List ℕ) (h : Kept f s n book)
    (p : Put 96 (λ i. pick (bit (get_or book 1 0) i) (settled_at book i) (get_or book (96 + i) 0)) book last) where
  -- the most of the waits, with those that stand
  settled : (i : ℕ) → i < 32 → get_or last (96 + i) 0 ≡ get_or f.waited i 0
  unfolding pick
  settled i l = p.inside i l ∙ go (dec_lt 1 (get_or f.wait i 0)) ∙ sym (h.waited i l)
    where
      go : Dec (1 < get_or f.wait i 0) → pick (bit (get_or book 1 0) i) (settled_at book i) (get_or book (96 + i) 0) ≡ max (get_or book (96 + i) 0) (get_or f.wait i 0 - 2)
      go (yes q) = rw (h.waits i l, lt-ltb 1 (get_or f.wait i 0) q) (ap (max (get_or book (96 + i) 0)) (sym (since_began (get_or f.wait i 0) (get_or book (64 + i) 0) (get_or book 2 0) (h.began i l q) q)))
      go (no q) = rw (h.waits i l, le-ltb 1 (get_or f.wait i 0) (omega (arith, q))) (omega (arith, q))

  pub figures-told : (a b c : List ℕ) → length a ≡ 32 → length b ≡ 32 → length c ≡ 32 → ((i : ℕ) → i < 32 → get_or a i 0 ≡ get_or last (32 + i) 0)
      → ((i : ℕ) → i < 32 → get_or b i 0 ≡ get_or last (96 + i) 0) → ((i : ℕ) → i < 32 → get_or c i 0 ≡ get_or last (128 + i) 0)
      → (a ≡ f.started) × (b ≡ f.waited) × (c ≡ f.entries)
  figures-told a b c la lb lc ea eb ec = (
    same_list a f.started la h.whole.0 (λ i l. ea i l ∙ p.outside (32 + i) (inl (omega (arith, l))) ∙ h.started i l),
    same_list b f.waited lb h.whole.2 (λ i l. eb i l ∙ settled i l),
    same_list c f.entries lc h.whole.3 (λ i l. ec i l ∙ p.outside (128 + i) (inr (omega arith)) ∙ h.entries i l),
  )
