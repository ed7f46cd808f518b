-- The promises of the record are kept.
use mathlib.Core.Path.{◌≡◌, refl, sym, ap, ◌∙◌}
use mathlib.Core.Bool.{Bool, true, false, ◌&&◌}
use mathlib.Core.Logic.{◌⊎◌, ◌↔◌, inl, inr, ⊎_elim}
use Prim.Native.Nat.{ℕ, ◌≤◌}
use native.Mathlib.Omega.{arith}
use borrow.Author.Tests.{eqb-true}
use lib.Dec.{eqb}
use Rattle.words.specs.Choice.{pick}
use Rattle.words.proofs.ChoiceLaws.{pick_true, pick-false, pick_cases}
use Rattle.words.proofs.TruthLaws.{and_left, and_right, and_both, told, not-holds}
use Rattle.steps.specs.Refusals.{carried_out, misconfigured}
use Rattle.cic_record.specs.declared.Begun.{Begun}
use Rattle.cic_record.specs.Promises.{Shaped, InRange, Promises}
use Rattle.cic_record.specs.Record.{begun}
use Rattle.cic_record.specs.Sound.{within, sound}
use Rattle.cic_record.specs.Start.{fresh, configured, start}
use Rattle.cic_record.proofs.PartsLaws.{fresh-sound}
use Rattle.cic_record.proofs.RuleLaws.{sound-is, is-sound}
use Rattle.cic_record.proofs.SoundLaws.{between-both, within_systems, within_channels, within_hosts, systems-within, channels-within, hosts-within}

-- ---- the configuration

module _ (nth value : ℕ) where
  abbrev Configures : Type 0
  Configures =
      ((nth ≡ 0) × ((1 ≤ value) × (value ≤ 1024))) ⊎ (((nth ≡ 1) × ((1 ≤ value) × (value ≤ 256))) ⊎ (((nth ≡ 2) × ((1 ≤ value) × (value ≤ 256))) ⊎ (nth ≡ 3)))

  within-is : within nth value ≡ true → Configures
  unfolding within
  within-is =
      pick_cases (λ (t : Bool). t ≡ true → Configures) (eqb nth 0) (λ q e. inl (eqb-true nth 0 q, between-both 1 1024 value e))
      (λ _. pick_cases (λ (t : Bool). t ≡ true → Configures) (eqb nth 1) (λ q e. inr (inl (eqb-true nth 1 q, between-both 1 256 value e)))
      (λ _. pick_cases (λ (t : Bool). t ≡ true → Configures) (eqb nth 2) (λ q e. inr (inr (inl (eqb-true nth 2 q, between-both 1 256 value e))))
      (λ _ e. inr (inr (inr (eqb-true nth 3 e))))))

  is_within : Configures → within nth value ≡ true
  is_within =
      ⊎_elim (λ p. rw p.0 (systems-within value p.1))
      (⊎_elim (λ p. rw p.0 (channels-within value p.1)) (⊎_elim (λ p. rw p.0 (hosts-within value p.1)) (λ p. rw p last)))
    where
      last : within 3 value ≡ true
      last = unfold within pick in refl

-- ---- the start

-- the test of the four numbers is that of the three counts
in_range : (s k h v : ℕ) → configured s k h v ≡ true → InRange s k h
unfolding configured
in_range s k h v e =
    let a = and_right (within 0 s) (within 1 k && (within 2 h && within 3 v)) e in
    let b = and_right (within 1 k) (within 2 h && within 3 v) a in (
      within_systems s (and_left (within 0 s) (within 1 k && (within 2 h && within 3 v)) e),
      (within_channels k (and_left (within 1 k) (within 2 h && within 3 v) a), within_hosts h (and_left (within 2 h) (within 3 v) b)),
    )

range_in : (s k h v : ℕ) → InRange s k h → configured s k h v ≡ true
unfolding configured
range_in s k h v r =
    and_both (systems-within s r.0) (and_both (channels-within k r.1.0) (and_both (hosts-within h r.1.1) (is_within 3 v (inr (inr (inr refl))))))

begins : (s k h v : ℕ) → configured s k h v ≡ true → start s k h v ≡ begun carried_out (fresh s k h v)
unfolding start
begins s k h v e = sym (pick_true (begun misconfigured (fresh 0 0 0 0)) e)

fails : (s k h v : ℕ) → configured s k h v ≡ false → start s k h v ≡ begun misconfigured (fresh 0 0 0 0)
unfolding start
fails s k h v e = sym (pick-false (begun carried_out (fresh s k h v)) e)

taken : (s k h v : ℕ) → ((start s k h v).refusal ≡ carried_out) ↔ InRange s k h
taken s k h v = (
  λ e. ⊎_elim (λ (t : configured s k h v ≡ true). in_range s k h v t) (λ (t : configured s k h v ≡ false). absurd (ten (sym (ap (λ (b : Begun). b.refusal) (fails s k h v t)) ∙ e))) (told (configured s k h v)),
  λ r. ap (λ (b : Begun). b.refusal) (begins s k h v (range_in s k h v r)),
)
  where
    ten : ◌≡◌ {A = ℕ} 10 0 → ⊥
    ten e = omega arith

fresh_shaped : (s k h v : ℕ) → Shaped (fresh s k h v)
unfolding fresh
fresh_shaped s k h v = (refl, refl, refl, refl, refl, refl)

start-sound : (s k h v : ℕ) → InRange s k h → (sound (start s k h v).cic ≡ true) × Shaped (start s k h v).cic
start-sound s k h v r = let e = range_in s k h v r in rw (begins s k h v e) (fresh-sound s k h v e, fresh_shaped s k h v)

pub kept : Promises
unfolding fresh
kept =
    record {
      configuration = λ nth value. (within-is nth value, is_within nth value);
      start_taken = taken;
      start_is = λ s k h v r. begins s k h v (range_in s k h v r);
      start_refused = λ s k h v n. fails s k h v (not-holds (configured s k h v) (λ e. n (in_range s k h v e)));
      fresh_is = λ s k h v. (refl, refl, refl, refl, refl, refl, refl, refl, refl, refl, refl);
      start_sound = start-sound;
      sound_is = λ c. (sound-is c, is-sound c);
      channel_is = λ c s. refl;
      host_is = λ c k. refl;
      numbered = λ n. (refl, refl, refl);
      global_put = λ c x. (refl, refl, refl, refl, refl, refl, refl, refl, refl, refl, refl);
      lines_put = λ c x. (refl, refl, refl, refl, refl, refl, refl, refl, refl, refl, refl);
      status_put = λ c x. (refl, refl, refl, refl, refl, refl, refl, refl, refl, refl, refl);
      enable_put = λ c x. (refl, refl, refl, refl, refl, refl, refl, refl, refl, refl, refl);
      channel_put = λ c x. (refl, refl, refl, refl, refl, refl, refl, refl, refl, refl, refl);
      host_put = λ c x. (refl, refl, refl, refl, refl, refl, refl, refl, refl, refl, refl);
      allow_put = λ c x. (refl, refl, refl, refl, refl, refl, refl, refl, refl, refl, refl);
      begun_is = λ n c. (refl, refl);
      answered_is = λ c v. (refl, refl, refl);
      refused_is = λ c n. (refl, refl, refl);
    }
