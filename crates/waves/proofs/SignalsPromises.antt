-- The promises of signals, kept.
use Prim.Native.Nat.{ℕ, ◌<◌, ◌≤◌}
use mathlib.Core.Path.{◌≡◌, refl, sym, ap, ◌∙◌}
use mathlib.Core.Bool.{true, false}
use native.Mathlib.Omega.{arith}
use mathlib.Core.List.{List, ◌++◌}
use mathlib.Core.Logic.{◌≢◌}
use lib.ListN.{length, length-map}
use Rattle.words.specs.Choice.{pick}
use Rattle.words.specs.Word.{bit}
use Rattle.words.proofs.Promises.{kept as words}
use Rattle.aic_record.specs.declared.Aic.{Aic}
use Rattle.aic_record.proofs.Promises.{kept as record-kept}
use Rattle.aic_record.proofs.LastPromises.{kept as last-kept}
use Rattle.aic_sources.specs.Pending.{pending, pending_word}
use Rattle.aic.specs.Model.{outputs as aic_outputs}
use Rattle.aic.proofs.Promises.{kept as aic}
use Rattle.coreinterrupt.specs.Model.{outputs as core_outputs}
use Rattle.coreinterrupt.proofs.Promises.{kept as core}
use Rattle.cic_registers.proofs.HostsPromises.{kept as hosts}
use Rattle.cic_indexed.specs.Model.{outputs as indexed_outputs}
use Rattle.aintc_registers.proofs.Promises.{kept as choice}
use Rattle.aintc_registers.specs.Model.{outputs as aintc_outputs}
use Rattle.aintc.proofs.Promises.{kept as aintc}
use Rattle.vcd.specs.Dump.{Signal}
use Rattle.kinds.specs.Kinds.{by_kind, is_kind}
use Rattle.kinds.proofs.KindLaws.{KindOf, is_aic, is_core, is_cic, is_aintc, is_indexed, is_none, kind_of, at-unknown}
use Rattle.machine.specs.Machine.{indexed, sound}
use Rattle.machine.specs.RecordPromises.{Small}
use Rattle.machine.specs.Shown.{cic_columns}
use Rattle.machine.proofs.MachineLaws.{sound_aic, sound_core, sound-cic, sound_aintc}
use Rattle.machine.proofs.ShownLaws.{aic-shows, core-shows, cic-shows, aintc-shows, indexed-shows, small}
use Rattle.waves.specs.Signals.{Moment, Row, of_every, own_rows, rows, signals, widths, values, declared_of}
use Rattle.waves.specs.SignalsPromises.{Shows, Fits, Promises}
use Rattle.waves.proofs.SignalLaws.{rows_aic, rows_core, rows-cic, rows_aintc, rows-indexed, rows_none}
use Rattle.waves.proofs.SignalsHeadingLaws.{quiet, declares-all, declares-nth, most}
use Rattle.waves.proofs.FitLaws.{one-fits, raw-fits, status-fits, hosts_small, number_small, priority_small}

every : (x : Moment) → Shows x 0 "refusal" 8 x.refusal × Shows x 1 "value" 32 x.value × Shows x 2 "step" 8 x.letter
unfolding signals widths values rows
every x = ((refl, refl, refl), (refl, refl, refl), (refl, refl, refl))

pending-bit : (s : Aic) (k : ℕ) → k < 32 → bit (pending_word s) k ≡ pending s k
unfolding pending_word
pending-bit s k h = words.gathered 32 (pending s) k h

many : (length (signals 0) ≡ 11) × (length (signals 1) ≡ 9) × (length (signals 2) ≡ 5) × (length (signals 3) ≡ 9) × (length (signals 4) ≡ 5)
unfolding signals rows own_rows by_kind pick
many = (refl, refl, refl, refl, refl)

many-none : (kind : ℕ) → is_kind kind ≡ false → length (signals kind) ≡ 3
unfolding signals rows own_rows
many-none kind h = ap (λ (l : List Row). length (declared_of (of_every ++ l))) (sym (at-unknown kind _ h))

none_few : (kind : ℕ) → kind ≢ 0 → kind ≢ 1 → kind ≢ 2 → kind ≢ 3 → kind ≢ 4 → length (signals kind) ≡ 3
unfolding signals
none_few kind a b c d e = ap (λ (l : List Row). length (declared_of l)) (sym (rows_none kind a b c d e))

few : (kind : ℕ) → length (signals kind) ≤ 11
few kind = go (kind_of kind)
  where
    go : KindOf kind → length (signals kind) ≤ 11
    go (is_aic k) = rw k (omega (arith, many.0))
    go (is_core k) = rw k (omega (arith, many.1))
    go (is_cic k) = rw k (omega (arith, many.2))
    go (is_aintc k) = rw k (omega (arith, many.3))
    go (is_indexed k) = rw k (omega (arith, many.4))
    go (is_none a b c d e) = omega (arith, none_few kind a b c d e)

-- ---- values that their bits hold

aic-fits : (x : Moment) → x.machine.kind ≡ 0 → sound x.machine ≡ true → Fits x 3 × Fits x 4 × Fits x 5 × Fits x 6 × Fits x 7 × Fits x 9
unfolding widths values pending_word
aic-fits x k e =
    let s = x.machine.aic in
    let q = sound_aic x.machine k ∙ e in
    let r = (record-kept.sound_is s).0 q in
    rw (sym (rows_aic x.machine.kind k)) (
      one-fits (aic_outputs s).irq,
      one-fits (aic_outputs s).fiq,
      rw (aic.outputs_sound s q) (omega (arith, r.entries)),
      omega (arith, (last-kept.small s q).0),
      omega (arith, (last-kept.small s q).1),
      words.gathered_below 32 (pending s),
    )

core-fits : (x : Moment) → x.machine.kind ≡ 1 → sound x.machine ≡ true → Fits x 3 × Fits x 4 × Fits x 5 × Fits x 6 × Fits x 7 × Fits x 8
unfolding widths values
core-fits x k e =
    let c = x.machine.core in
    let r = (core.sound_is c).0 (sound_core x.machine k ∙ e) in
    rw (sym (rows_core x.machine.kind k)) (
      one-fits (core_outputs c).irq,
      one-fits (core_outputs c).fiq,
      raw-fits 32 c.irq r.irq,
      status-fits 32 c.irq r.irq,
      raw-fits 8 c.fiq r.fiq,
      status-fits 8 c.fiq r.fiq,
    )

cic-fits : (x : Moment) → x.machine.kind ≡ 2 → sound x.machine ≡ true → Fits x 3 × Fits x 4
unfolding widths values
cic-fits x k e =
    let c = x.machine.cic in
    let q = sound-cic x.machine k ∙ e in
    rw (sym (rows-cic x.machine.kind k)) (omega (arith, hosts_small c q), omega (arith, hosts.lowest_most c q))

aintc-fits : (x : Moment) → x.machine.kind ≡ 3 → sound x.machine ≡ true → Fits x 3 × Fits x 4 × Fits x 5 × Fits x 6 × Fits x 7 × Fits x 8
unfolding widths values
aintc-fits x k e =
    let s = x.machine.aintc in
    let r = (choice.sound_is s).0 (sound_aintc x.machine k ∙ e) in
    rw (sym (rows_aintc x.machine.kind k)) (
      one-fits (aintc_outputs s).irq,
      one-fits (aintc_outputs s).fiq,
      omega (arith, number_small s.irq r.irq),
      omega (arith, priority_small s.irq r.irq),
      omega (arith, number_small s.fiq r.fiq),
      omega (arith, priority_small s.fiq r.fiq),
    )

-- those of a CIC with prioritised indices are what it shows, and no number that is shown is over 256
indexed-fits : (x : Moment) → x.machine.kind ≡ 4 → sound x.machine ≡ true → Fits x 3 × Fits x 4
unfolding widths values
indexed-fits x k e =
    let l : Small (cic_columns (indexed_outputs (indexed x.machine))) = rw (indexed-shows x.machine k) at (small x.machine e) in
    rw (sym (rows-indexed x.machine.kind k)) (omega (arith, l.0), omega (arith, l.1))

abbrev declared_as : Row → Signal
declared_as r = record { name = r.name; width = r.width }

pub kept : Promises
unfolding signals widths values
kept =
    record {
      every = every;
      aic = λ x k.
          rw (sym (rows_aic x.machine.kind k))
          ((refl, refl, refl), (refl, refl, refl), (refl, refl, refl), (refl, refl, refl), (refl, refl, refl), (refl, refl, refl), (refl, refl, refl), (refl, refl, refl));
      pending_bit = pending-bit;
      core = λ x k. rw (sym (rows_core x.machine.kind k)) ((refl, refl, refl), (refl, refl, refl), (refl, refl, refl), (refl, refl, refl), (refl, refl, refl), (refl, refl, refl));
      cic = λ x k. rw (sym (rows-cic x.machine.kind k)) ((refl, refl, refl), (refl, refl, refl));
      aintc = λ x k. rw (sym (rows_aintc x.machine.kind k)) ((refl, refl, refl), (refl, refl, refl), (refl, refl, refl), (refl, refl, refl), (refl, refl, refl), (refl, refl, refl));
      indexed = λ x k. rw (sym (rows-indexed x.machine.kind k)) ((refl, refl, refl), (refl, refl, refl));
      many = many;
      many_none = many-none;
      few = few;
      widths_many = λ kind. length-map (rows kind) (λ (r : Row). r.width) ∙ sym (length-map (rows kind) (λ (r : Row). declared_as r));
      values_many = λ x. length-map (rows x.machine.kind) (λ (r : Row). r.value x) ∙ sym (length-map (rows x.machine.kind) (λ (r : Row). declared_as r));
      quiet = quiet;
      declares = λ kind h. (declares-all kind h, λ k m. let l = few kind in declares-nth kind h k m ∙ omega arith);
      heading_most = most;
      aic_line = λ x k. rw (sym (rows_aic x.machine.kind k), aic-shows x.machine k) (refl, refl, refl);
      core_line = λ x k. rw (sym (rows_core x.machine.kind k), core-shows x.machine k) (refl, refl);
      cic_line = λ x k. rw (sym (rows-cic x.machine.kind k), cic-shows x.machine k) (refl, refl);
      aintc_line = λ x k e.
          rw (sym (rows_aintc x.machine.kind k), aintc-shows x.machine k, aintc.outputs_sound x.machine.aintc (sound_aintc x.machine k ∙ e)) (refl, refl, refl);
      indexed_line = λ x k. rw (sym (rows-indexed x.machine.kind k), indexed-shows x.machine k) (refl, refl);
      aic_fits = aic-fits;
      core_fits = core-fits;
      cic_fits = cic-fits;
      aintc_fits = aintc-fits;
      indexed_fits = indexed-fits;
    }
