-- The promises of a machine before its steps, kept.
use mathlib.Core.Path.{refl, sym}
use mathlib.Core.Bool.{Bool, true, false, false≢true, true≢false}
use native.Mathlib.Omega.{arith}
use Rattle.words.specs.Choice.{pick}
use Rattle.words.specs.Counting.{one}
use Rattle.aic_record.specs.Record.{reset}
use Rattle.cic_record.specs.Start.{fresh}
use Rattle.aintc_record.specs.Record.{blank as aintc_blank}
use Rattle.kinds.specs.Kinds.{by_kind}
use Rattle.kinds.proofs.KindLaws.{at-unknown}
use Rattle.machine.specs.Machine.{start, sound}
use Rattle.machine.specs.RecordPromises.{Tells, Promises}
use Rattle.machine.proofs.MachineLaws.{sound_aic, sound_core, sound-cic, sound_aintc, sound-indexed, aic-starts, core-starts, cic-starts, aintc-starts, indexed-starts, start-ready}
use Rattle.machine.proofs.ShownLaws.{aic-shows, core-shows, cic-shows, aintc-shows, indexed-shows, indexed-seen, unsound-shown, small}

-- the number of an output tells whether it is active
tells : (t : Bool) → Tells (one t) t
tells true = ((λ z. refl, λ z. refl), (λ z. absurd (omega arith), λ z. absurd (true≢false z)))
tells false = ((λ z. absurd (omega arith), λ z. absurd (false≢true z)), (λ z. refl, λ z. refl))

pub kept : Promises
unfolding reset fresh aintc_blank start sound by_kind pick
kept =
    record {
      blank_kind = refl;
      blank_aic = refl;
      blank_fiq = refl;
      blank_irq = refl;
      blank_cic = refl;
      blank_aintc = refl;
      blank_held = refl;
      aic_starts = λ c. refl;
      core_starts = λ c. refl;
      cic_starts = λ c. refl;
      aintc_starts = λ c. refl;
      indexed_starts = λ c. refl;
      no_starts = λ kind c h. sym (at-unknown kind _ h);
      aic_from = aic-starts;
      core_from = core-starts;
      cic_from = cic-starts;
      aintc_from = aintc-starts;
      indexed_from = indexed-starts;
      start_ready = start-ready;
      aic_sound_is = λ m k. sym (sound_aic m k);
      core_sound_is = λ m k. sym (sound_core m k);
      cic_sound_is = λ m k. sym (sound-cic m k);
      aintc_sound_is = λ m k. sym (sound_aintc m k);
      indexed_sound_is = λ m k. sym (sound-indexed m k);
      none_sound = λ m h. sym (at-unknown m.kind _ h);
      aic_shows = λ m k. rw (aic-shows m k) (tells _, tells _, refl);
      core_shows = λ m k. rw (core-shows m k) (tells _, tells _, refl);
      cic_shows = λ m k. rw (cic-shows m k) (refl, refl, refl);
      aintc_shows = λ m k. rw (aintc-shows m k) (tells _, tells _, refl);
      indexed_shows = λ m k. rw (indexed-shows m k) (refl, refl, refl);
      indexed_shows_cic = λ m k s. rw (indexed-seen m k s) (refl, refl, refl);
      shown_unsound = λ m h. sym (unsound-shown m h);
      shown_small = small;
    }
