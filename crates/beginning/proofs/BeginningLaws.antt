-- The ways that a beginning goes, and that it goes one of them: what is promised of it rests on these.
use Prim.Native.Nat.{ℕ, zero, suc, ◌+◌, ◌<◌, ◌≤◌}
use mathlib.Core.Path.{◌≡◌, refl, sym, ap, ◌∙◌}
use mathlib.Core.Bool.{true, false}
use mathlib.Core.List.{List, [], ◌∷◌}
use mathlib.Core.Logic.{⊎_elim}
use native.Mathlib.Nat.{add-zero, zero-add}
use native.Mathlib.Numerals.{sub-one}
use native.Mathlib.Omega.{arith}
use lib.ListN.{length}
use lib.Dec.{ltb}
use borrow.Author.Tests.{ltb-true, ltb-false}
use Rattle.words.specs.Choice.{pick}
use Rattle.words.proofs.ChoiceLaws.{pick_true, pick-false}
use Rattle.words.proofs.TruthLaws.{told as told-apart}
use Rattle.steps.specs.Refusals.{carried_out, damaged, unknown, misconfigured, too_long}
use Rattle.std.specs.declared.result.Result.{Result}
use Rattle.numbers.specs.declared.Fault.{Fault}
use Rattle.numbers.specs.Number.{Value, Refused, number_at}
use Rattle.numbers.specs.Promises.{told_at}
use Rattle.numbers.proofs.ReadLaws.{IsRead, number_is}
use Rattle.trace.specs.Promises.{Reads}
use Rattle.kinds.specs.declared.Configuration.{Configuration}
use Rattle.machine.specs.declared.record.Machine.{Machine}
use Rattle.kinds.specs.Kinds.{is_kind, wanted, within}
use Rattle.kinds.specs.Configuration.{no_numbers, with_number, filled}
use Rattle.kinds.specs.Promises.{Within}
use Rattle.machine.specs.RecordPromises.{Ready, start_with}
use Rattle.machine.proofs.MachineLaws.{start-ready}
use Rattle.beginning.specs.declared.Begun.{Begun}
use Rattle.beginning.specs.declared.Setup.{Setup}
use Rattle.beginning.specs.Begin.{longest, refused_setup, accepted_setup, setup_from, setup_of, not_begun, by_setup, by_controller, begin_of}
use Rattle.beginning.specs.Asked.{Wanting, Configures}
use Rattle.beginning.proofs.BeginLaws.{setup-done, setup-damaged, setup-beyond, setup-taken}

-- ---- the ways that the reading of a configuration goes: to its end, to a damaged number, to one beyond its limit

pub data Way (kind : ℕ) (s : List ℕ) (left k : ℕ) (c : Configuration) (at : ℕ) : Result Setup Fault → Type 0 where
  whole : (ns : List ℕ) (p : ℕ) → Reads s at ns p → Within kind k ns → length ns ≡ left → Way kind s left k c at (accepted_setup (filled c k ns) p)
  torn : (ns : List ℕ) (p : ℕ) → Reads s at ns p → Within kind k ns → length ns < left → (told_at s p).refusal ≡ damaged
      → Way kind s left k c at (refused_setup damaged p)
  astray : (ns : List ℕ) (p : ℕ) → Reads s at ns p → Within kind k ns → length ns < left → (told_at s p).refusal ≡ carried_out
      → within kind (k + length ns) (told_at s p).value ≡ false → Way kind s left k c at (refused_setup misconfigured p)

module _ (kind : ℕ) (s : List ℕ) where
  -- a way is one of whatever is equal to its setup
  over : {left k at : ℕ} {c : Configuration} {t u : Result Setup Fault} → u ≡ t → Way kind s left k c at u → Way kind s left k c at t
  over e w = rw (sym e) w

  -- a number before the rest
  further : (left k at v next : ℕ) (c : Configuration) (t : Result Setup Fault) → number_at s at ≡ Value v next → within kind k v ≡ true
      → Way kind s left (k + 1) (with_number c k v) next t → Way kind s (suc left) k c at t
  unfolding filled
  further left k at v next c t e h (whole ns p r w l) = whole (v ∷ ns) p (rw e (refl, (refl, r))) (h, w) (ap suc l)
  further left k at v next c t e h (torn ns p r w l d) = torn (v ∷ ns) p (rw e (refl, (refl, r))) (h, w) (omega arith) d
  further left k at v next c t e h (astray ns p r w l d b) =
      let z : k + 1 + length ns ≡ k + suc (length ns) = omega arith in
      astray (v ∷ ns) p (rw e (refl, (refl, r))) (h, w) (omega arith) d (sym (ap (λ (n : ℕ). within kind n (told_at s p).value) z) ∙ b)

  pub way : (left k : ℕ) (c : Configuration) (at : ℕ) → Way kind s left k c at (setup_from kind left k s c at)
  unfolding filled
  way zero k c at = over (setup-done kind 0 k s c at refl) (whole [] at refl tt refl)
  way (suc left) k c at = turn (λ v next. way left (k + 1) (with_number c k v) next)
    where
      W : Type 0
      W = Way kind s (suc left) k c at (setup_from kind (suc left) k s c at)

      bad : number_at s at ≡ Refused damaged at → W
      bad e = over (setup-damaged kind (suc left) k s c at damaged at (λ z. omega arith) e) (torn [] at refl tt (omega arith) (rw e refl))

      limits : (v next : ℕ) → number_at s at ≡ Value v next → within kind k v ≡ false → W
      limits v next e b =
          over (setup-beyond kind (suc left) k s c at v next (λ z. omega arith) e b)
          (astray [] at refl tt (omega arith) (rw e refl) (rw e (ap (λ (n : ℕ). within kind n v) (add-zero k) ∙ b)))

      turn : ((v next : ℕ) → Way kind s left (k + 1) (with_number c k v) next (setup_from kind left (k + 1) s (with_number c k v) next)) → W
      turn ih = ⊎_elim bad (λ (r : IsRead s at). ⊎_elim (rest r.value r.next r.is) (limits r.value r.next r.is) (told-apart (within kind k r.value))) (number_is s at)
        where
          rest : (v next : ℕ) → number_at s at ≡ Value v next → within kind k v ≡ true → W
          rest v next e h =
              over (ap (λ (n : ℕ). setup_from kind n (k + 1) s (with_number c k v) next) (sym (sub-one (suc left))) ∙ setup-taken kind (suc left) k s c at v next (λ z. omega arith) e h)
              (further left k at v next c _ e h (ih v next))

-- ---- the ways of a whole beginning

-- begun with a machine, at a place
abbrev pub begun : Machine → ℕ → Begun
begun m p = record { refusal = carried_out; place = p; machine = m }

pub data Beginning (s : List ℕ) : Begun → Type 0 where
  overlong : longest < length s → Beginning s (not_begun too_long longest)
  damaged_at : (ns : List ℕ) (p : ℕ) → length s ≤ longest → Reads s 0 ns p → Wanting ns → (told_at s p).refusal ≡ damaged → Beginning s (not_begun damaged p)
  no_kind : length s ≤ longest → (told_at s 0).refusal ≡ carried_out → is_kind (told_at s 0).value ≡ false → Beginning s (not_begun unknown 0)
  beyond_at : (kind : ℕ) (ns : List ℕ) (p : ℕ) → length s ≤ longest → Reads s 0 (kind ∷ ns) p → Wanting (kind ∷ ns) → (told_at s p).refusal ≡ carried_out
      → within kind (length ns) (told_at s p).value ≡ false → Beginning s (not_begun misconfigured p)
  configured : (kind : ℕ) (ns : List ℕ) (p : ℕ) → length s ≤ longest → Reads s 0 (kind ∷ ns) p → Configures kind ns
      → Beginning s (begun (start_with kind ns) p)

module _ (s : List ℕ) where
  also : (b d : Begun) → d ≡ b → Beginning s d → Beginning s b
  also b d e w = rw (sym e) w

  by-kind : (kind next : ℕ) (t : Result Setup Fault) → length s ≤ longest → number_at s 0 ≡ Value kind next → is_kind kind ≡ true
      → Way kind s (wanted kind) 0 no_numbers next t → Beginning s (by_setup kind t)
  unfolding by_setup pick
  by-kind kind next t l e k (whole ns p r w n) = configured kind ns p l (rw e (refl, (refl, r))) (k, (w, n))
  by-kind kind next t l e k (torn ns p r w n d) = damaged_at (kind ∷ ns) p l (rw e (refl, (refl, r))) (k, (w, n)) d
  by-kind kind next t l e k (astray ns p r w n d b) = beyond_at kind ns p l (rw e (refl, (refl, r))) (k, (w, n)) d (sym (ap (λ (j : ℕ). within kind j (told_at s p).value) (zero-add (length ns))) ∙ b)

  pub beginning : Beginning s (begin_of s)
  unfolding begin_of setup_of
  beginning =
      ⊎_elim
      (λ h. also _ _ (pick_true _ h) (overlong (ltb-true longest (length s) h)))
      (λ h. also _ _ (pick-false _ h) (⊎_elim (bad (ltb-false longest (length s) h)) (λ (r : IsRead s 0). good (ltb-false longest (length s) h) r.value r.next r.is) (number_is s 0)))
      (told-apart (ltb longest (length s)))
    where
      bad : length s ≤ longest → number_at s 0 ≡ Refused damaged 0 → Beginning s (by_controller s (number_at s 0))
      bad l e = also _ _ (ap (by_controller s) (sym e)) (damaged_at [] 0 l refl tt (rw e refl))

      good : length s ≤ longest → (kind next : ℕ) → number_at s 0 ≡ Value kind next → Beginning s (by_controller s (number_at s 0))
      good l kind next e =
          also _ _ (ap (by_controller s) (sym e))
          (⊎_elim
          (λ k. also _ _ (pick_true _ k) (by-kind kind next _ l e k (way kind s (wanted kind) 0 no_numbers next)))
          (λ k. also _ _ (pick-false _ k) (no_kind l (rw e refl) (rw e k)))
          (told-apart (is_kind kind)))

-- a machine that has begun is sound
pub begin-ready : (s : List ℕ) (b : Begun) → b ≡ begin_of s → b.refusal ≡ carried_out → Ready b.machine
begin-ready s b e r = go b (rw e (beginning s)) r
  where
    go : (d : Begun) → Beginning s d → d.refusal ≡ carried_out → Ready d.machine
    go d (overlong l) z = absurd (omega arith)
    go d (damaged_at ns p l h w t) z = absurd (omega arith)
    go d (no_kind l t k) z = absurd (omega arith)
    go d (beyond_at kind ns p l h w t b) z = absurd (omega arith)
    go d (configured kind ns p l h w) z = start-ready kind ns w.0 w.1.1 w.1.0
