-- When a record keeps a table, field by field, and when a run does.
use Prim.Native.Nat.{ℕ, ◌<◌}
use mathlib.Core.Path.{◌≡◌, refl, sym, ap, ◌∙◌}
use mathlib.Core.Bool.{Bool, true, false, not, ◌&&◌, ◌||◌, true≢false, false≢true}
use mathlib.Core.List.{List, [], ◌∷◌, ◌++◌}
use mathlib.Core.Logic.{◌↔◌, ◌⊎◌, inl, inr, ⊎_elim}
use native.Mathlib.Omega.{arith}
use native.Mathlib.Decide.{ℕ_discrete}
use lib.Dec.{eqb}
use lib.ListN.{get_or}
use borrow.Author.Tests.{eqb-true, eq-eqb, ne_eqb, not-true}
use Rattle.words.specs.Counting.{one, all_below}
use Rattle.words.specs.Word.{bit}
use Rattle.words.proofs.TruthLaws.{and_left, and_right, and_both, or-either, or_left, or_right, clash, told, same_test}
use Rattle.words.proofs.CountingLaws.{Lowest, all_at, at_all, lowest_found}
use Rattle.words.proofs.WordLaws.{bit-none}
use Rattle.steps.specs.declared.Step.{Step}
use Rattle.aic_record.specs.declared.Aic.{Aic}
use Rattle.aic_record.specs.Mode.{priority, kind}
use Rattle.aic_record.specs.Record.{reset}
use Rattle.aic.specs.Model.{step}
use Rattle.aic_runs.specs.Counted.{steady}
use Rattle.aic_runs.specs.Runs.{run, always}
use Rattle.aic_runs.proofs.RunLaws.{not_rewritten}
use Rattle.aic_runs.proofs.StepLaws.{modes_law}
use Rattle.stack.specs.declared.Table.{Table}
use Rattle.stack.specs.Bytes.{Set}
use Rattle.stack.specs.Kept.{same_mode, same_forcing, source_keeps, keeps, unkept, keeps_along}
use Rattle.stack.specs.KeptPromises.{Matches}

-- ---- a record

same_bit : (a b : Bool) → eqb (one a) (one b) ≡ true → a ≡ b
same_bit true true e = refl
same_bit true false e = absurd (false≢true e)
same_bit false true e = absurd (false≢true e)
same_bit false false e = refl

holds : (b : Bool) → not b ≡ false → b ≡ true
holds true e = refl
holds false e = absurd (true≢false e)

module _ (t : Table) (s : Aic) where
  matches-is : (i : ℕ) → (same_mode t s i && same_forcing t s i) ≡ true → Matches t s i
  unfolding same_mode same_forcing priority kind
  matches-is i h =
      let m = and_left (same_mode t s i) (same_forcing t s i) h in
      record {
        level = eqb-true (priority s i) (get_or t.priority i 0) (and_left (eqb (priority s i) (get_or t.priority i 0)) _ m);
        type = eqb-true (kind s i) (get_or t.kind i 0) (and_right (eqb (priority s i) (get_or t.priority i 0)) _ m);
        forcing = λ z.
            ⊎_elim
            (λ (e : eqb i 0 ≡ true). clash e (ne_eqb i 0 z))
            (λ (e : eqb (one (bit s.forced i)) (one (bit t.forced i)) ≡ true). same_bit (bit s.forced i) (bit t.forced i) e)
            (or-either (eqb i 0) _ (and_right (same_mode t s i) (same_forcing t s i) h));
      }

  mode_matches : (i : ℕ) → Matches t s i → same_mode t s i ≡ true
  unfolding same_mode priority kind
  mode_matches i m = and_both (eq-eqb (priority s i) (get_or t.priority i 0) m.level) (eq-eqb (kind s i) (get_or t.kind i 0) m.type)

  forcing_matches : (i : ℕ) → Matches t s i → same_forcing t s i ≡ true
  unfolding same_forcing
  forcing_matches i m = go (ℕ_discrete i 0)
    where
      go : Dec (i ≡ 0) → (eqb i 0 || eqb (one (bit s.forced i)) (one (bit t.forced i))) ≡ true
      go (yes e) = or_left _ (eq-eqb i 0 e)
      go (no z) = or_right (eqb i 0) (eq-eqb (one (bit s.forced i)) (one (bit t.forced i)) (ap one (m.forcing z)))

  source_is : (i : ℕ) → source_keeps t s i ≡ true → bit s.enabled i ≡ true → Matches t s i
  unfolding source_keeps
  source_is i h e =
      ⊎_elim
      (λ (n : not (bit s.enabled i) ≡ true). clash e (not-true (bit s.enabled i) n))
      (λ (m : (same_mode t s i && same_forcing t s i) ≡ true). matches-is i m)
      (or-either (not (bit s.enabled i)) (same_mode t s i && same_forcing t s i) h)

  is_source : (i : ℕ) → (bit s.enabled i ≡ true → Matches t s i) → source_keeps t s i ≡ true
  unfolding source_keeps
  is_source i f =
      ⊎_elim
      (λ (e : bit s.enabled i ≡ true). or_right (not (bit s.enabled i)) (and_both (mode_matches i (f e)) (forcing_matches i (f e))))
      (λ (e : bit s.enabled i ≡ false). or_left (same_mode t s i && same_forcing t s i) (ap not e))
      (told (bit s.enabled i))

  pub keeps-is : (keeps t s ≡ true) ↔ ((i : ℕ) → i < 32 → bit s.enabled i ≡ true → Matches t s i)
  unfolding keeps
  keeps-is = (
    λ h i l e. source_is i (all_at 32 (source_keeps t s) h i l) e,
    λ f. at_all 32 (source_keeps t s) (λ i l. is_source i (f i l)),
  )

  -- what a search that found r, the first source that does not keep the table or 32, says of the record
  module _ (r : ℕ) (low : Lowest (λ i. not (source_keeps t s i)) 32 r) where
    earlier : (i : ℕ) → i < r → source_keeps t s i ≡ true
    earlier i l = holds (source_keeps t s i) (low.before i l)

    pub none_told : (keeps t s ≡ true) ↔ (r ≡ 32)
    unfolding keeps
    none_told = (λ h. go (ℕ_discrete r 32) h, λ e. at_all 32 (source_keeps t s) (λ i l. earlier i (omega (arith, e))))
      where
        go : Dec (r ≡ 32) → all_below 32 (source_keeps t s) ≡ true → r ≡ 32
        go (yes e) h = e
        go (no d) h =
            let l : r < 32 = omega (arith, low.within) in
            clash (all_at 32 (source_keeps t s) h r l) (not-true (source_keeps t s r) (low.found l))

    pub some-told : keeps t s ≡ false
        → (r < 32) × (bit s.enabled r ≡ true) × (Matches t s r → ⊥) × ((i : ℕ) → i < r → bit s.enabled i ≡ true → Matches t s i)
    some-told h =
        let l : r < 32 = go (ℕ_discrete r 32) in
        let n = not-true (source_keeps t s r) (low.found l) in (
          l,
          on (told (bit s.enabled r)) n,
          λ m. clash (is_source r (λ _. m)) n,
          λ i k e. source_is i (earlier i k) e,
        )
      where
        go : Dec (r ≡ 32) → r < 32
        go (yes e) = clash (none_told.1 e) h
        go (no d) = omega (arith, low.within)

        on : (bit s.enabled r ≡ true) ⊎ (bit s.enabled r ≡ false) → source_keeps t s r ≡ false → bit s.enabled r ≡ true
        on (inl e) n = e
        on (inr e) n = clash (is_source r (λ q. clash q e)) n

  pub unkept-is : keeps t s ≡ false
      → (unkept t s < 32) × (bit s.enabled (unkept t s) ≡ true) × (Matches t s (unkept t s) → ⊥)
      × ((i : ℕ) → i < unkept t s → bit s.enabled i ≡ true → Matches t s i)
  unfolding unkept
  unkept-is h = some-told (unkept t s) (lowest_found 32 (λ i. not (source_keeps t s i))) h

  pub unkept-none : (keeps t s ≡ true) ↔ (unkept t s ≡ 32)
  unfolding unkept
  unkept-none = none_told (unkept t s) (lowest_found 32 (λ i. not (source_keeps t s i)))

  pub keeps-told : eqb (unkept t s) 32 ≡ keeps t s
  keeps-told =
      same_test (eqb (unkept t s) 32) (keeps t s)
      (λ h. unkept-none.1 (eqb-true (unkept t s) 32 h))
      (λ h. eq-eqb (unkept t s) 32 (unkept-none.0 h))

-- no source is enabled after reset
pub reset-keeps : (t : Table) (external lines : ℕ) → keeps t (reset external lines) ≡ true
unfolding reset
reset-keeps t external lines = (keeps-is t (reset external lines)).1 (λ i l e. clash e (bit-none i))

-- ---- a run

pub first-keeps : (t : Table) (s : Aic) (xs : List Step) → keeps_along t s xs ≡ true → keeps t s ≡ true
unfolding keeps_along
first-keeps t s [] h = h
first-keeps t s (x ∷ xs) h = and_left (keeps t s) _ h

pub rest-keeps : (t : Table) (s : Aic) (x : Step) (xs : List Step) → keeps_along t s (x ∷ xs) ≡ true → keeps_along t (step s x).aic xs ≡ true
unfolding keeps_along
rest-keeps t s x xs h = and_right (keeps t s) _ h

pub part-keeps : (t : Table) (s : Aic) (ys zs : List Step) → keeps_along t s (ys ++ zs) ≡ true → keeps_along t s ys ≡ true
unfolding keeps_along
part-keeps t s [] zs h = first-keeps t s zs h
part-keeps t s (y ∷ ys) zs h = and_both (and_left (keeps t s) _ h) (part-keeps t (step s y).aic ys zs (and_right (keeps t s) _ h))

pub last-keeps : (t : Table) (s : Aic) (ys : List Step) → keeps_along t s ys ≡ true → keeps t (run s ys) ≡ true
unfolding keeps_along run
last-keeps t s [] h = h
last-keeps t s (y ∷ ys) h = last-keeps t (step s y).aic ys (and_right (keeps t s) _ h)

each_keeps : (t : Table) (s : Aic) (xs : List Step) → ((ys zs : List Step) → xs ≡ ys ++ zs → keeps t (run s ys) ≡ true) → keeps_along t s xs ≡ true
unfolding keeps_along run
each_keeps t s [] f = f [] [] refl
each_keeps t s (x ∷ xs) f =
    and_both (f [] (x ∷ xs) refl) (each_keeps t (step s x).aic xs (λ ys zs e. f (x ∷ ys) zs (ap (λ (l : List Step). x ∷ l) e)))

pub along-is : (t : Table) (s : Aic) (xs : List Step) → (keeps_along t s xs ≡ true) ↔ ((ys zs : List Step) → xs ≡ ys ++ zs → keeps t (run s ys) ≡ true)
along-is t s xs = (
  λ h ys zs e. last-keeps t s ys (part-keeps t s ys zs (ap (keeps_along t s) (sym e) ∙ h)),
  each_keeps t s xs,
)

-- ---- a record that is set to the table

pub matched : (t : Table) (s : Aic) → ((i : ℕ) → i < 32 → Matches t s i) → keeps t s ≡ true
matched t s f = (keeps-is t s).1 (λ i l e. f i l)

steady_matches : (t : Table) (s : Aic) (x : Step) → steady s x ≡ true → ((i : ℕ) → i < 32 → Matches t s i) → (i : ℕ) → i < 32 → Matches t (step s x).aic i
steady_matches t s x h f i l =
    let m = modes_law s x (not_rewritten s x h) in
    record { level = rw m.0 (f i l).level; type = rw m.0 (f i l).type; forcing = rw m.1 (f i l).forcing }

steady_keeps : (t : Table) (s : Aic) (xs : List Step) → ((i : ℕ) → i < 32 → Matches t s i) → always steady s xs ≡ true → keeps_along t s xs ≡ true
unfolding keeps_along always
steady_keeps t s [] f h = matched t s f
steady_keeps t s (x ∷ xs) f h =
    and_both (matched t s f) (steady_keeps t (step s x).aic xs (steady_matches t s x (and_left (steady s x) _ h) f) (and_right (steady s x) _ h))

pub set_keeps : (t : Table) (s : Aic) (xs : List Step) → Set t s → always steady s xs ≡ true → keeps_along t s xs ≡ true
unfolding priority kind
set_keeps t s xs b h =
    steady_keeps t s xs (λ i l. record { level = b.levels i l; type = b.types i l; forcing = λ z. b.forcings i (omega (arith, z)) l }) h
