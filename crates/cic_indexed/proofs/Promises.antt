-- The promises of the CIC with prioritised indices are kept.
use mathlib.Core.Bool.{true, false}
use mathlib.Core.Logic.{◌↔◌, ◌⊎◌, inl, inr}
use mathlib.Core.Path.{◌≡◌, refl, sym, ap, subst, ◌∙◌}
use Prim.Native.Nat.{ℕ, ◌+◌, ◌*◌, ◌<◌}
use native.Mathlib.Omega.{arith}
use borrow.Author.Tests.{eq-eqb}
use lib.ListN.{get_or}
use Rattle.words.proofs.ChoiceLaws.{pick_true, pick-false}
use Rattle.words.proofs.TruthLaws.{told}
use Rattle.steps.specs.Refusals.{carried_out}
use Rattle.cic_record.specs.declared.Cic.{Cic}
use Rattle.cic_record.specs.declared.Host.{Host}
use Rattle.cic_record.specs.declared.Signals.{Signals}
use Rattle.cic_record.specs.Kinds.{host_number}
use Rattle.cic_record.specs.Sound as cic-sound
use Rattle.cic_registers.specs.Hosts as hosts
use Rattle.cic_held.specs.Order.{index_of}
use Rattle.cic_held.specs.IndicesPromises.{Meets, MeetsFor}
use Rattle.cic_held.proofs.IndicesPromises as of-indices
use Rattle.cic_held.specs.declared.Answer.{Answer}
use Rattle.cic_held.specs.declared.Prioritised.{Prioritised}
use Rattle.cic_held.specs.Held.{sound, start}
use Rattle.cic_held.proofs.Promises as of-held
use Rattle.cic_indexed.specs.Model.{read, outputs}
use Rattle.cic_indexed.proofs.SoundLaws.{sound-cic}
use Rattle.cic_indexed.specs.Promises.{Promises}
use Rattle.cic_indexed.specs.Tables.{Names}
use Rattle.cic_indexed.proofs.CicLaws.{lines, off, reads-elsewhere, writes-elsewhere}
use Rattle.cic_indexed.proofs.IndexLaws.{global-read, host-read, global-write, host-write, global-holds, host-holds, global-held, host-held, global-shows, host-shows, control-reads, control-off, control_on, control_again}
use Rattle.cic_indexed.proofs.KeptLaws.{step-sound}
use Rattle.cic_indexed.proofs.ModeLaws.{choice_stays, mode-turns}
use Rattle.cic_indexed.proofs.NumberLaws.{read_numbers, write_numbers, line_numbers, refused-same, write-value, line-value}
use Rattle.cic_indexed.proofs.PlaceLaws.{map-off, map_on}
use Rattle.cic_indexed.proofs.StayLaws.{host_stays, global_stays}
use Rattle.cic_indexed.proofs.WriteLaws.{writes_leave, host-ends, global-ends}

-- ---- indices that are not held

global_index : (c : Cic) (h : Host) → cic-sound.sound c ≡ true → Names c (Meets c) (index_of c true h)
global_index c h e =
    record {
      none = (of-indices.kept).global_none c h e;
      some = (of-indices.kept).global_some c h e;
      meets = (of-indices.kept).global_names c h e;
      first = (of-indices.kept).global_first c h e;
    }

host_index : (c : Cic) (h : Host) → cic-sound.sound c ≡ true → Names c (MeetsFor c h) (index_of c false h)
host_index c h e =
    record {
      none = (of-indices.kept).host_none c h e;
      some = (of-indices.kept).host_some c h e;
      meets = (of-indices.kept).host_names c h e;
      first = (of-indices.kept).host_first c h e;
    }

global_names : (p : Prioritised) → sound p ≡ true → p.held.choice ≡ 1 → p.held.global ≡ 0 → Names p.cic (Meets p.cic) (read p 0x080).value
global_names p e c z =
    subst (Names p.cic (Meets p.cic)) (pick_true _ (eq-eqb p.held.global 0 z) ∙ sym (ap (λ (a : Answer). a.value) (global-read p e c)))
    (global_index p.cic (host_number 0) (sound-cic p e))

host_names : (p : Prioritised) (h : ℕ) → sound p ≡ true → p.held.choice ≡ 1 → h < p.cic.hosts → get_or p.held.host h 0 ≡ 0
    → Names p.cic (MeetsFor p.cic (host_number h)) (read p (0x900 + 4 * h)).value
host_names p h e c l z =
    subst (Names p.cic (MeetsFor p.cic (host_number h)))
    (pick_true _ (eq-eqb (get_or p.held.host h 0) 0 z) ∙ sym (ap (λ (a : Answer). a.value) (host-read p e c h l)))
    (host_index p.cic (host_number h) (sound-cic p e))

-- ---- outputs

outputs-sound : (p : Prioritised) → sound p ≡ true → outputs p ≡ hosts.outputs p.cic
unfolding outputs hosts.outputs
outputs-sound p e = sym (pick_true _ e) ∙ pick_true _ (sound-cic p e)

outputs-unsound : (p : Prioritised) → sound p ≡ false → outputs p ≡ record { refusal = 12; hosts = 0; lowest = 0 }
unfolding outputs
outputs-unsound p e = sym (pick-false (hosts.shown p.cic) e)

-- those of a sound record are carried out
outputs-done : (p : Prioritised) → sound p ≡ true → (outputs p).refusal ≡ carried_out
unfolding outputs hosts.shown
outputs-done p e = ap (λ (s : Signals). s.refusal) (sym (pick_true _ e))

outputs_twelve : (p : Prioritised) → ((outputs p).refusal ≡ 12) ↔ (sound p ≡ false)
outputs_twelve p = (λ e. go e (told (sound p)), λ f. ap (λ (s : Signals). s.refusal) (outputs-unsound p f))
  where
    go : (outputs p).refusal ≡ 12 → (sound p ≡ true) ⊎ (sound p ≡ false) → sound p ≡ false
    go e (inl t) = absurd (omega (arith, e, outputs-done p t))
    go e (inr f) = f

start-sound : (systems channels hosts revision choice : ℕ) → (start systems channels hosts revision choice).refusal ≡ carried_out
    → sound (start systems channels hosts revision choice).prioritised ≡ true
start-sound s k h r c e = (of-held.kept).start_sound s k h r c (((of-held.kept).start_taken s k h r c).0 e)

pub kept : Promises
kept =
    record {
      step_is = λ p. (λ o. refl, λ o v. refl, λ s l. refl);
      off = off;
      map_off = map-off;
      lines = lines;
      reads_elsewhere = reads-elsewhere;
      writes_elsewhere = λ p o v e a b w. writes-elsewhere p o e a b w v;
      choice_stays = choice_stays;
      mode_turns = mode-turns;
      writes_leave = writes_leave;
      map = map_on;
      read_numbers = read_numbers;
      write_numbers = write_numbers;
      line_numbers = line_numbers;
      refused_same = refused-same;
      write_value = write-value;
      line_value = line-value;
      step_sound = step-sound;
      start_sound = start-sound;
      global_names = global_names;
      host_names = host_names;
      global_held = global-held;
      host_held = host-held;
      global_holds = global-holds;
      host_holds = host-holds;
      global_shows = global-shows;
      host_shows = host-shows;
      global_written = λ p v e c. global-write p e c v;
      host_written = λ p h v e c l. host-write p e c h l v;
      host_ends = host-ends;
      global_ends = global-ends;
      host_stays = host_stays;
      global_stays = global_stays;
      control_reads = control-reads;
      control_off = control-off;
      control_on = control_on;
      control_again = control_again;
      outputs_sound = outputs-sound;
      outputs_unsound = outputs-unsound;
      outputs_twelve = outputs_twelve;
      answered_is = λ p v. (refl, refl, refl);
      refused_is = λ p n. (refl, refl, refl);
      beside_is = λ h a. (refl, refl, refl, refl);
    }
