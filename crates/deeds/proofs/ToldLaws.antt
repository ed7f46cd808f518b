-- What is said of the entries of an AIC, exactly: of each step from a sound record, whether it starts, closes or finds nothing open.
use Prim.Native.Nat.{ℕ, suc, ◌+◌, ◌-◌, ◌<◌, ◌≤◌}
use mathlib.Core.Path.{◌≡◌, refl, sym, ap, ap₂, ◌∙◌}
use mathlib.Core.Bool.{Bool, true, false, ◌&&◌}
use mathlib.Core.List.{List, [], ◌++◌}
use mathlib.Core.Logic.{◌↔◌, ◌≢◌, ◌⊎◌, inl, inr}
use native.Mathlib.Numerals.{add-one}
use native.Mathlib.Omega.{arith}
use native.Mathlib.Decide.{dec_lt, ℕ_discrete}
use lib.Dec.{eqb}
use lib.ListN.{length, get_or}
use lib.Seq.{get_or-set_same}
use borrow.Author.Tests.{eq-eqb, eqb-true, le-ltb}
use Rattle.words.specs.Choice.{pick}
use Rattle.words.specs.Counting.{all_below}
use Rattle.words.proofs.ChoiceLaws.{pick_true, pick-false}
use Rattle.words.proofs.TruthLaws.{and_left, and_right, and_both, not-holds, told, clash}
use Rattle.words.proofs.Promises.{kept as words}
use Rattle.text.specs.Text.{decimal_of}
use Rattle.text.specs.Phrases.{bytes, counted}
use Rattle.steps.specs.declared.Step.{Step}
use Rattle.steps.specs.declared.Step.TheVariants.{Read, Write, Line}
use Rattle.aic_record.specs.declared.Aic.{Aic}
use Rattle.aic_record.specs.Record.{with_seen}
use Rattle.aic_record.specs.Sound.{source_at, level_at, sound}
use Rattle.aic_record.specs.Promises.{Shaped}
use Rattle.aic_record.proofs.Promises.{kept as aic-record}
use Rattle.aic_record.specs.Last.{last_source, last_level}
use Rattle.aic_record.proofs.LastPromises.{kept as last_entry}
use Rattle.aic.specs.Model.{step}
use Rattle.aic.proofs.Promises.{kept as aic}
use Rattle.aic_runs.specs.Counted.{starts, started_by, level_of, starts_of, closes}
use Rattle.aic_runs.proofs.Promises.{kept as runs}
use Rattle.aic_waits.proofs.TellLaws.{started_real}
use Rattle.deeds.specs.Deeds.{ends, entry_words}
use Rattle.deeds.proofs.EntryLaws.{starts as starts-words, marks as marks-words, closes as closes-words, closes-mark as closes-mark-words}
use Rattle.deeds.proofs.SaidLaws.{number_at, tells_apart}

abbrev start_text : ℕ → ℕ → List ℕ
start_text i l = counted (bytes "; starts source ") i ++ counted (bytes " at level ") l

-- the text of a start tells source and level
start-read : all_below 32 (λ i. all_below 8 (λ l. eqb (number_at 3 0 16 (start_text i l)) i && eqb (get_or (start_text i l) (length (start_text i l) - 1) 0) (48 + l))) ≡ true
unfolding all_below number_at counted decimal_of bytes pick
start-read = refl

start_apart : (i j l m : ℕ) → i < 32 → j < 32 → l < 8 → m < 8 → start_text i l ≡ start_text j m → (i ≡ j) × (l ≡ m)
start_apart i j l m h k p q e =
    let a = read i l h p in
    let b = read j m k q in
    let x : 48 + l ≡ 48 + m = sym a.1 ∙ ap (λ (t : List ℕ). get_or t (length t - 1) 0) e ∙ b.1 in
    (sym a.0 ∙ ap (number_at 3 0 16) e ∙ b.0, omega (arith, x))
  where
    one : ℕ → ℕ → Bool
    one i l = eqb (number_at 3 0 16 (start_text i l)) i && eqb (get_or (start_text i l) (length (start_text i l) - 1) 0) (48 + l)

    read : (i l : ℕ) → i < 32 → l < 8 → (number_at 3 0 16 (start_text i l) ≡ i) × (get_or (start_text i l) (length (start_text i l) - 1) 0 ≡ 48 + l)
    read i l h p =
        let e = (words.all_exactly 8 (one i)).0 ((words.all_exactly 32 (λ i. all_below 8 (one i))).0 start-read i h) l p in
        (eqb-true _ _ (and_left (eqb (number_at 3 0 16 (start_text i l)) i) (eqb (get_or (start_text i l) (length (start_text i l) - 1) 0) (48 + l)) e), eqb-true _ _ (and_right (eqb (number_at 3 0 16 (start_text i l)) i) (eqb (get_or (start_text i l) (length (start_text i l) - 1) 0) (48 + l)) e))

close_apart : (i j : ℕ) → i < 32 → j < 32 → counted (bytes "; closes source ") i ≡ counted (bytes "; closes source ") j → i ≡ j
unfolding all_below number_at counted decimal_of bytes pick
close_apart = tells_apart 32 16 (counted (bytes "; closes source ")) refl

abbrev offset : Step → ℕ
offset (Read o) = o
offset (Write o v) = o
offset (Line k l) = 0

is_end : (x : Step) → ends x ≡ true → (v : ℕ) × (x ≡ Write 0x130 v)
unfolding ends
is_end (Read o) e = clash e refl
is_end (Write o v) e = (v, ap (λ (n : ℕ). Write n v) (eqb-true o 0x130 e))
is_end (Line k l) e = clash e refl

from : {A B C : Type 0} → A ⊎ B → (A → C) → (B → C) → C
from (inl a) f g = f a
from (inr b) f g = g b

-- ---- the four things that a step may be to the entries

module _ (s : Aic) (x : Step) (shaped : Shaped s) (ok : sound s ≡ true) where
  abbrev t : Aic
  t = (step s x).aic

  abbrev said : List ℕ
  said = entry_words s x t

  pub record Handler : Type 0 where
    pub start : starts s x ≡ true
    pub still : closes s x ≡ false
    pub real : started_by s x < 32
    pub low : level_of s x < 8
    pub words : said ≡ start_text (started_by s x) (level_of s x)

  pub record Mark : Type 0 where
    pub start : starts s x ≡ true
    pub still : closes s x ≡ false
    pub none : 32 ≤ started_by s x
    pub words : said ≡ bytes "; opens a mark"

  pub record Close : Type 0 where
    pub start : starts s x ≡ false
    pub close : closes s x ≡ true
    pub none : 32 ≤ started_by s x
    pub small : last_source s < 32
    pub handler : last_source s ≢ 0 → said ≡ counted (bytes "; closes source ") (last_source s)
    pub mark : last_source s ≡ 0 → said ≡ bytes "; closes a mark"

  pub record Other : Type 0 where
    pub start : starts s x ≡ false
    pub still : closes s x ≡ false
    pub none : 32 ≤ started_by s x
    pub words : said ≡ pick (ends x && eqb s.depth 0) (bytes "; nothing open") []

  start_at : starts s x ≡ true → offset x ≡ 0x100
  start_at a = from ((runs.counts s x).start.0 a).0 (λ p. ap offset p.0) (λ p. ap offset p.1)

  close_at : closes s x ≡ true → offset x ≡ 0x130
  close_at a = ap offset ((runs.counts s x).close.0 a).1

  -- so a start is no close: one is of IVR, the other of EOICR
  start_open : starts s x ≡ true → closes s x ≡ false
  start_open a = not-holds (closes s x) (λ b. omega (arith, start_at a, close_at b))

  room : starts s x ≡ true → s.depth < 8
  room a = ((runs.counts s x).start.0 a).2

  is-handler : (l : started_by s x < 32) → Handler
  is-handler l =
      let p = runs.start_is s x l in
      let d = p.1 ∙ ap (λ (a : Aic). with_seen a t.seen) (runs.started_is s (started_by s x) (level_of s x)) in
      let deep : t.depth ≡ suc s.depth = ap (λ (a : Aic). a.depth) d ∙ add-one s.depth in
      let more : s.depth < t.depth = omega (arith, deep) in
      let at : source_at t s.depth ≡ started_by s x = ap (λ (a : Aic). get_or a.source s.depth 0) d ∙ get_or-set_same s.source s.depth (started_by s x) 0 (omega (arith, shaped.2, room p.0)) in
      let level : level_at t s.depth ≡ level_of s x = ap (λ (a : Aic). get_or a.level s.depth 0) d ∙ get_or-set_same s.level s.depth (level_of s x) 0 (omega (arith, shaped.3, room p.0)) in
      let e : last_source t ≡ started_by s x = (last_entry.last t s.depth deep).0 ∙ at in
      let f : last_level t ≡ level_of s x = (last_entry.last t s.depth deep).1 ∙ level in
      let real : started_by s x ≢ 0 = started_real s x ok l in
      let seven : level_at t s.depth ≤ 7 = ((aic-record.sound_is t).0 (aic.step_sound s x shaped ok)).levels s.depth more (λ z. real (sym at ∙ z)) in
      record {
        start = p.0;
        still = start_open p.0;
        real = l;
        low = omega (arith, seven, level);
        words = starts-words s x t more (λ z. real (sym e ∙ z)) (omega (arith, e, l)) (omega (arith, f, seven, level)) ∙ ap₂ start_text e f;
      }

  is-mark : starts s x ≡ true → 32 ≤ started_by s x → Mark
  is-mark a h =
      let d = runs.mark_is s x a h in
      let deep : t.depth ≡ suc s.depth = ap (λ (a : Aic). a.depth) d ∙ add-one s.depth in
      let at : source_at t s.depth ≡ 0 = ap (λ (a : Aic). get_or a.source s.depth 0) d ∙ get_or-set_same s.source s.depth 0 0 (omega (arith, shaped.2, room a)) in
      record { start = a; still = start_open a; none = h; words = marks-words s x t (omega (arith, deep)) ((last_entry.last t s.depth deep).0 ∙ at) }

  is_close : starts s x ≡ false → closes s x ≡ true → Close
  is_close a b =
      let d = runs.close_is s x b ∙ runs.closed_is s in
      let some : s.depth ≢ 0 = ((runs.counts s x).close.0 b).3 in
      let deep : t.depth ≡ s.depth - 1 = ap (λ (a : Aic). a.depth) d in
      let less : t.depth < s.depth = omega (arith, deep, some) in
      let small : last_source s < 32 = omega (arith, (last_entry.small s ok).0) in
      record {
        start = a;
        close = b;
        none = omega (arith, (runs.counts s x).start_none a);
        small = small;
        handler = λ n. closes-words s x t less n small;
        mark = λ z. closes-mark-words s x t less z;
      }

  is-other : starts s x ≡ false → closes s x ≡ false → Other
  unfolding entry_words
  is-other a b = record { start = a; still = b; none = omega (arith, (runs.counts s x).start_none a); words = level (runs.other_is s x a b).2 }
    where
      level : t.depth ≡ s.depth → said ≡ pick (ends x && eqb s.depth 0) (bytes "; nothing open") []
      level e = sym (pick-false _ (le-ltb t.depth s.depth (omega (arith, e))) ∙ pick-false _ (le-ltb s.depth t.depth (omega (arith, e))))

  pub which : Handler ⊎ (Mark ⊎ (Close ⊎ Other))
  which = go (told (starts s x)) (dec_lt (started_by s x) 32) (told (closes s x))
    where
      go : (starts s x ≡ true) ⊎ (starts s x ≡ false) → Dec (started_by s x < 32) → (closes s x ≡ true) ⊎ (closes s x ≡ false) → Handler ⊎ (Mark ⊎ (Close ⊎ Other))
      go a (yes l) c = inl (is-handler l)
      go (inl a) (no l) c = inr (inl (is-mark a (omega (arith, l))))
      go (inr a) (no l) (inl c) = inr (inr (inl (is_close a c)))
      go (inr a) (no l) (inr c) = inr (inr (inr (is-other a c)))

-- ---- texts for different things are different

at-two : (u v : List ℕ) → u ≡ v → get_or u 2 0 ≡ get_or v 2 0
at-two u v e = ap (λ (l : List ℕ). get_or l 2 0) e

module _ (i l : ℕ) where
  not-mark : start_text i l ≢ bytes "; opens a mark"
  unfolding counted bytes
  not-mark e = let q : ◌≡◌ {A = ℕ} 115 111 = at-two _ _ e in absurd (omega (arith, q))

  not-nothing : start_text i l ≢ bytes "; nothing open"
  unfolding counted bytes
  not-nothing e = let q : ◌≡◌ {A = ℕ} 115 110 = at-two _ _ e in absurd (omega (arith, q))

  not-silent : start_text i l ≢ []
  unfolding counted bytes
  not-silent e = let q : ◌≡◌ {A = ℕ} 115 0 = at-two _ _ e in absurd (omega (arith, q))

  not_close : (j : ℕ) → start_text i l ≢ counted (bytes "; closes source ") j
  unfolding counted bytes
  not_close j e = let q : ◌≡◌ {A = ℕ} 115 99 = at-two _ _ e in absurd (omega (arith, q))

  not_close-mark : start_text i l ≢ bytes "; closes a mark"
  unfolding counted bytes
  not_close-mark e = let q : ◌≡◌ {A = ℕ} 115 99 = at-two _ _ e in absurd (omega (arith, q))

mark-nothing : bytes "; opens a mark" ≢ bytes "; nothing open"
unfolding bytes
mark-nothing e = let q : ◌≡◌ {A = ℕ} 111 110 = at-two _ _ e in absurd (omega (arith, q))

mark-silent : bytes "; opens a mark" ≢ []
unfolding bytes
mark-silent e = let q : ◌≡◌ {A = ℕ} 111 0 = at-two _ _ e in absurd (omega (arith, q))

mark_close : (j : ℕ) → bytes "; opens a mark" ≢ counted (bytes "; closes source ") j
unfolding counted bytes
mark_close j e = let q : ◌≡◌ {A = ℕ} 111 99 = at-two _ _ e in absurd (omega (arith, q))

mark_close-mark : bytes "; opens a mark" ≢ bytes "; closes a mark"
unfolding bytes
mark_close-mark e = let q : ◌≡◌ {A = ℕ} 111 99 = at-two _ _ e in absurd (omega (arith, q))

close-nothing : (j : ℕ) → counted (bytes "; closes source ") j ≢ bytes "; nothing open"
unfolding counted bytes
close-nothing j e = let q : ◌≡◌ {A = ℕ} 99 110 = at-two _ _ e in absurd (omega (arith, q))

close-silent : (j : ℕ) → counted (bytes "; closes source ") j ≢ []
unfolding counted bytes
close-silent j e = let q : ◌≡◌ {A = ℕ} 99 0 = at-two _ _ e in absurd (omega (arith, q))

close_close : (j : ℕ) → counted (bytes "; closes source ") j ≢ bytes "; closes a mark"
unfolding counted bytes
close_close j e = let q : ◌≡◌ {A = ℕ} 115 97 = ap (λ (l : List ℕ). get_or l 9 0) e in absurd (omega (arith, q))

end-nothing : bytes "; closes a mark" ≢ bytes "; nothing open"
unfolding bytes
end-nothing e = let q : ◌≡◌ {A = ℕ} 99 110 = at-two _ _ e in absurd (omega (arith, q))

end-silent : bytes "; closes a mark" ≢ []
unfolding bytes
end-silent e = let q : ◌≡◌ {A = ℕ} 99 0 = at-two _ _ e in absurd (omega (arith, q))

nothing-silent : bytes "; nothing open" ≢ []
unfolding bytes
nothing-silent e = let q : ◌≡◌ {A = ℕ} 110 0 = at-two _ _ e in absurd (omega (arith, q))

-- where a step does none of the three, a text other than these two is not said
other-not : (b : Bool) (u v : List ℕ) → u ≡ pick b (bytes "; nothing open") [] → u ≡ v → v ≢ bytes "; nothing open" → v ≢ [] → ⊥
unfolding pick
other-not true u v e f m n = m (sym f ∙ e)
other-not false u v e f m n = n (sym f ∙ e)

-- ---- exactly

module _ (s : Aic) (x : Step) where
  pub starts-told : (i l : ℕ) → Shaped s → sound s ≡ true → i < 32 → l < 8 → (entry_words s x (step s x).aic ≡ start_text i l) ↔ ((starts_of i s x ≡ true) × (level_of s x ≡ l))
  starts-told i l shaped ok h k = (there (which s x shaped ok), λ p. back p (which s x shaped ok))
    where
      there : Handler s x shaped ok ⊎ (Mark s x shaped ok ⊎ (Close s x shaped ok ⊎ Other s x shaped ok)) → entry_words s x (step s x).aic ≡ start_text i l → (starts_of i s x ≡ true) × (level_of s x ≡ l)
      there (inl d) e =
          let p = start_apart (started_by s x) i (level_of s x) l d.real h d.low k (sym d.words ∙ e) in
          (((runs.counts s x).start_of i).1 (sym p.0), p.1)
      there (inr (inl d)) e = absurd (not-mark i l (sym e ∙ d.words))
      there (inr (inr (inl d))) e = absurd (go (ℕ_discrete (last_source s) 0))
        where
          go : Dec (last_source s ≡ 0) → ⊥
          go (yes z) = not_close-mark i l (sym e ∙ d.mark z)
          go (no z) = not_close i l (last_source s) (sym e ∙ d.handler z)
      there (inr (inr (inr d))) e = absurd (other-not _ _ _ d.words e (not-nothing i l) (not-silent i l))

      none : (starts_of i s x ≡ true) → 32 ≤ started_by s x → ⊥
      none p n = omega (arith, ((runs.counts s x).start_of i).0 p, n, h)

      back : (starts_of i s x ≡ true) × (level_of s x ≡ l) → Handler s x shaped ok ⊎ (Mark s x shaped ok ⊎ (Close s x shaped ok ⊎ Other s x shaped ok)) → entry_words s x (step s x).aic ≡ start_text i l
      back p (inl d) = d.words ∙ ap₂ start_text (sym (((runs.counts s x).start_of i).0 p.0)) p.1
      back p (inr (inl d)) = absurd (none p.0 d.none)
      back p (inr (inr (inl d))) = absurd (none p.0 d.none)
      back p (inr (inr (inr d))) = absurd (none p.0 d.none)

  pub marks-told : Shaped s → sound s ≡ true → (entry_words s x (step s x).aic ≡ bytes "; opens a mark") ↔ ((starts s x ≡ true) × (32 ≤ started_by s x))
  marks-told shaped ok = (there (which s x shaped ok), λ p. (is-mark s x shaped ok p.0 p.1).words)
    where
      there : Handler s x shaped ok ⊎ (Mark s x shaped ok ⊎ (Close s x shaped ok ⊎ Other s x shaped ok)) → entry_words s x (step s x).aic ≡ bytes "; opens a mark" → (starts s x ≡ true) × (32 ≤ started_by s x)
      there (inl d) e = absurd (not-mark _ _ (sym d.words ∙ e))
      there (inr (inl d)) e = (d.start, d.none)
      there (inr (inr (inl d))) e = absurd (go (ℕ_discrete (last_source s) 0))
        where
          go : Dec (last_source s ≡ 0) → ⊥
          go (yes z) = mark_close-mark (sym e ∙ d.mark z)
          go (no z) = mark_close (last_source s) (sym e ∙ d.handler z)
      there (inr (inr (inr d))) e = absurd (other-not _ _ _ d.words e mark-nothing mark-silent)

  closed : (shaped : Shaped s) (ok : sound s ≡ true) → closes s x ≡ true → Close s x shaped ok
  closed shaped ok c = is_close s x shaped ok (not-holds (starts s x) (λ a. clash c (start_open s x shaped ok a))) c

  pub closes-told : (i : ℕ) → Shaped s → sound s ≡ true → 0 < i → i < 32
      → (entry_words s x (step s x).aic ≡ counted (bytes "; closes source ") i) ↔ ((closes s x ≡ true) × (last_source s ≡ i))
  closes-told i shaped ok p h = (there (which s x shaped ok), λ q. (closed shaped ok q.0).handler (λ z. omega (arith, z, q.1, p)) ∙ ap (counted (bytes "; closes source ")) q.1)
    where
      there : Handler s x shaped ok ⊎ (Mark s x shaped ok ⊎ (Close s x shaped ok ⊎ Other s x shaped ok)) → entry_words s x (step s x).aic ≡ counted (bytes "; closes source ") i → (closes s x ≡ true) × (last_source s ≡ i)
      there (inl d) e = absurd (not_close _ _ i (sym d.words ∙ e))
      there (inr (inl d)) e = absurd (mark_close i (sym d.words ∙ e))
      there (inr (inr (inl d))) e = (d.close, go (ℕ_discrete (last_source s) 0))
        where
          go : Dec (last_source s ≡ 0) → last_source s ≡ i
          go (yes z) = absurd (close_close i (sym e ∙ d.mark z))
          go (no z) = close_apart (last_source s) i d.small h (sym (d.handler z) ∙ e)
      there (inr (inr (inr d))) e = absurd (other-not _ _ _ d.words e (close-nothing i) (close-silent i))

  pub closes-mark-told : Shaped s → sound s ≡ true → (entry_words s x (step s x).aic ≡ bytes "; closes a mark") ↔ ((closes s x ≡ true) × (last_source s ≡ 0))
  closes-mark-told shaped ok = (there (which s x shaped ok), λ q. (closed shaped ok q.0).mark q.1)
    where
      there : Handler s x shaped ok ⊎ (Mark s x shaped ok ⊎ (Close s x shaped ok ⊎ Other s x shaped ok)) → entry_words s x (step s x).aic ≡ bytes "; closes a mark" → (closes s x ≡ true) × (last_source s ≡ 0)
      there (inl d) e = absurd (not_close-mark _ _ (sym d.words ∙ e))
      there (inr (inl d)) e = absurd (mark_close-mark (sym d.words ∙ e))
      there (inr (inr (inl d))) e = (d.close, go (ℕ_discrete (last_source s) 0))
        where
          go : Dec (last_source s ≡ 0) → last_source s ≡ 0
          go (yes z) = z
          go (no z) = absurd (close_close (last_source s) (sym (d.handler z) ∙ e))
      there (inr (inr (inr d))) e = absurd (other-not _ _ _ d.words e end-nothing end-silent)

  pub nothing-told : Shaped s → sound s ≡ true → (entry_words s x (step s x).aic ≡ bytes "; nothing open") ↔ ((v : ℕ) × (x ≡ Write 0x130 v) × (s.depth ≡ 0))
  unfolding pick ends
  nothing-told shaped ok = (there (which s x shaped ok), λ p. back p (which s x shaped ok))
    where
      found : (b : Bool) → b ≡ (ends x && eqb s.depth 0) → pick b (bytes "; nothing open") [] ≡ bytes "; nothing open" → (v : ℕ) × (x ≡ Write 0x130 v) × (s.depth ≡ 0)
      found true e f =
          let w = is_end x (and_left (ends x) (eqb s.depth 0) (sym e)) in
          (w.0, w.1, eqb-true _ _ (and_right (ends x) (eqb s.depth 0) (sym e)))
      found false e f = absurd (nothing-silent (sym f))

      there : Handler s x shaped ok ⊎ (Mark s x shaped ok ⊎ (Close s x shaped ok ⊎ Other s x shaped ok)) → entry_words s x (step s x).aic ≡ bytes "; nothing open"
          → (v : ℕ) × (x ≡ Write 0x130 v) × (s.depth ≡ 0)
      there (inl d) e = absurd (not-nothing _ _ (sym d.words ∙ e))
      there (inr (inl d)) e = absurd (mark-nothing (sym d.words ∙ e))
      there (inr (inr (inl d))) e = absurd (go (ℕ_discrete (last_source s) 0))
        where
          go : Dec (last_source s ≡ 0) → ⊥
          go (yes z) = end-nothing (sym (d.mark z) ∙ e)
          go (no z) = close-nothing (last_source s) (sym (d.handler z) ∙ e)
      there (inr (inr (inr d))) e = found _ refl (sym d.words ∙ e)

      back : ((v : ℕ) × (x ≡ Write 0x130 v) × (s.depth ≡ 0)) → Handler s x shaped ok ⊎ (Mark s x shaped ok ⊎ (Close s x shaped ok ⊎ Other s x shaped ok))
          → entry_words s x (step s x).aic ≡ bytes "; nothing open"
      back p (inl d) = let z : offset x ≡ 0x130 = ap offset p.1 in absurd (omega (arith, z, start_at s x shaped ok d.start))
      back p (inr (inl d)) = let z : offset x ≡ 0x130 = ap offset p.1 in absurd (omega (arith, z, start_at s x shaped ok d.start))
      back p (inr (inr (inl d))) = absurd (((runs.counts s x).close.0 d.close).3 p.2)
      back p (inr (inr (inr d))) = d.words ∙ sym (pick_true _ (and_both (ap ends p.1) (eq-eqb s.depth 0 p.2)))
