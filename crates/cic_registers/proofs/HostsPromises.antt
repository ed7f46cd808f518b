-- The promises of the asserted hosts are kept.
use mathlib.Core.Path.{◌≡◌, sym}
use mathlib.Core.Bool.{true, false, ◌&&◌}
use mathlib.Core.Logic.{◌↔◌}
use Prim.Native.Nat.{ℕ, ◌<◌}
use native.Mathlib.Decide.{dec_lt}
use native.Mathlib.Omega.{arith}
use borrow.Author.Tests.{eq-eqb, eqb-true}
use lib.Dec.{eqb}
use Rattle.words.specs.Array.{bit_at}
use Rattle.words.specs.Counting.{any_below}
use Rattle.words.proofs.ArrayLaws.{clean-bit}
use Rattle.words.proofs.ChoiceLaws.{pick_true, pick-false}
use Rattle.words.proofs.CountingLaws.{any_some, some_any, Lowest, lowest_found}
use Rattle.words.proofs.TruthLaws.{and_left, and_right, and_both, clash}
use Rattle.steps.specs.Refusals.{unsound}
use Rattle.cic_record.specs.declared.Cic.{Cic}
use Rattle.cic_record.specs.declared.Host.{Host}
use Rattle.cic_record.specs.declared.Signals.{Signals}
use Rattle.cic_record.specs.Kinds.{system, host_number, channel_of, host_of}
use Rattle.cic_record.specs.Sound.{sound}
use Rattle.cic_record.proofs.PartsLaws.{sound-parts}
use Rattle.cic_registers.specs.Hosts.{raises, asserted, shown, outputs}
use Rattle.cic_registers.specs.HostsPromises.{Raised, Promises}
use Rattle.cic_registers.proofs.ScanLaws.{not-allowed, no_host}

-- some system interrupt raises h exactly if there is one
raised : (c : Cic) (h : Host) → any_below c.systems (λ s. raises c h (system s)) ≡ true → Raised c h
unfolding raises
raised c h e =
    let r = any_some c.systems (λ s. raises c h (system s)) e in
    let s = r.0 in
    let rest = and_right (bit_at c.status s) (bit_at c.enable s && eqb (host_of c (channel_of c (system s))).0 h.0) r.2 in (
      s,
      r.1,
      and_left (bit_at c.status s) (bit_at c.enable s && eqb (host_of c (channel_of c (system s))).0 h.0) r.2,
      and_left (bit_at c.enable s) (eqb (host_of c (channel_of c (system s))).0 h.0) rest,
      eqb-true (host_of c (channel_of c (system s))).0 h.0 (and_right (bit_at c.enable s) (eqb (host_of c (channel_of c (system s))).0 h.0) rest),
    )

raises_it : (c : Cic) (h : Host) → Raised c h → any_below c.systems (λ s. raises c h (system s)) ≡ true
unfolding raises
raises_it c h r =
    some_any c.systems (λ s. raises c h (system s)) r.0 r.1 (and_both r.2 (and_both r.3 (eq-eqb (host_of c (channel_of c (system r.0))).0 h.0 r.4)))

asserted-is : (c : Cic) (h : Host) → (asserted c h ≡ true) ↔ ((c.global ≡ 1) × ((bit_at c.allow h.0 ≡ true) × Raised c h))
unfolding asserted
asserted-is c h = (there, λ r. and_both (eq-eqb c.global 1 r.0) (and_both r.1.0 (raises_it c h r.1.1)))
  where
    there : (eqb c.global 1 && (bit_at c.allow h.0 && any_below c.systems (λ s. raises c h (system s)))) ≡ true → (c.global ≡ 1) × ((bit_at c.allow h.0 ≡ true) × Raised c h)
    there e =
        let rest = and_right (eqb c.global 1) (bit_at c.allow h.0 && any_below c.systems (λ s. raises c h (system s))) e in (
          eqb-true c.global 1 (and_left (eqb c.global 1) (bit_at c.allow h.0 && any_below c.systems (λ s. raises c h (system s))) e),
          (
            and_left (bit_at c.allow h.0) (any_below c.systems (λ s. raises c h (system s))) rest,
            raised c h (and_right (bit_at c.allow h.0) (any_below c.systems (λ s. raises c h (system s))) rest),
          ),
        )

-- the outputs of a sound record, and of any other
shows : (c : Cic) → sound c ≡ true → outputs c ≡ shown c
unfolding outputs
shows c e = sym (pick_true (record { refusal = unsound; hosts = 0; lowest = 0 }) e)

refuses : (c : Cic) → sound c ≡ false → ◌≡◌ {A = Signals} (outputs c) (record { refusal = unsound; hosts = 0; lowest = 0 })
unfolding outputs
refuses c e = sym (pick-false (shown c) e)

low : (c : Cic) → sound c ≡ true → Lowest (λ h. asserted c (host_number h)) 256 (outputs c).lowest
unfolding shown
low c e = rw (shows c e) (lowest_found 256 (λ h. asserted c (host_number h)))

lowest-none : (c : Cic) → sound c ≡ true → ((outputs c).lowest ≡ 256) ↔ ((h : ℕ) → h < 256 → asserted c (host_number h) ≡ false)
lowest-none c e = (λ q h l. (low c e).before h (omega arith), λ n. go n (dec_lt (outputs c).lowest 256))
  where
    go : ((h : ℕ) → h < 256 → asserted c (host_number h) ≡ false) → Dec ((outputs c).lowest < 256) → (outputs c).lowest ≡ 256
    go n (yes l) = clash ((low c e).found l) (n (outputs c).lowest l)
    go n (no l) = let m = (low c e).within in omega arith

pub kept : Promises
unfolding shown
kept =
    record {
      asserted_is = asserted-is;
      none_beyond = λ c h e l b. not-allowed c h (clean-bit 8 c.hosts c.allow (sound-parts c e).allow h.0 l b);
      none_from_256 = no_host;
      outputs_sound = shows;
      outputs_unsound = refuses;
      lowest_most = λ c e. (low c e).within;
      lowest_asserted = λ c e. (low c e).found;
      none_before = λ c e. (low c e).before;
      lowest_none = lowest-none;
    }
