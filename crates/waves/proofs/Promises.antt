-- The promises of waves, kept.
use Prim.Native.Nat.{ℕ}
use mathlib.Core.Path.{◌≡◌, refl, sym, ap, ◌∙◌}
use mathlib.Core.List.{List, []}
use lib.ListN.{get_or}
use Rattle.steps.specs.declared.Recorded.{Recorded}
use Rattle.text.proofs.Promises.{kept as text}
use Rattle.text.proofs.WriteLaws.{write-laid}
use Rattle.machine.specs.declared.record.Columns.{Columns}
use Rattle.machine.specs.Shown.{shown}
use Rattle.machine.proofs.RecordPromises.{kept as record-kept}
use Rattle.machine.specs.declared.Answer.{Answer}
use Rattle.lines.specs.Listing.{letter, shown_value, line_of, step_line}
use Rattle.waves.specs.SignalsPromises.{value_at}
use Rattle.waves.proofs.SignalsPromises.{kept as shows}
use Rattle.waves.specs.Moments.{after}
use Rattle.waves.specs.Waves.{waves_of}
use Rattle.waves.specs.Promises.{tick_line, Promises}
use Rattle.waves.proofs.Examples.{worked}
use Rattle.waves.proofs.NumberLaws.{refusal-fits}
use Rattle.waves.proofs.ReadLaws.{begun, not-begun, reads, ticks_many, tick_of-step, kind_stays, exact, letter-fits, bounded}

-- the three columns, one by one
columns : (c : Columns) (a b d : ℕ) → a ≡ c.first → b ≡ c.second → d ≡ c.third → c ≡ record { first = a; second = b; third = d }
columns c a b d e f g = rw (e, f, g)

-- the line of a step, by the values of its tick
line : (n : ℕ) (x : Recorded) (a : Answer) (third : ℕ) → value_at (after x a) 3 ≡ (shown a.machine).first → value_at (after x a) 4 ≡ (shown a.machine).second
    → third ≡ (shown a.machine).third → step_line n x.step a ≡ tick_line n (after x a) third
line n x a third e f g =
    let y = after x a in
    let every = shows.every y in
    rw (every.0.2, every.1.2, every.2.2)
    (ap (line_of n (letter x.step a.refusal) (shown_value a.refusal a.value)) (columns (shown a.machine) (value_at y 3) (value_at y 4) third e f g))

pub kept : Promises
kept =
    record {
      begun = begun;
      not_begun = not-begun;
      reads = reads;
      ticks_many = ticks_many;
      tick_of_start = λ s limit e. ap (λ (l : List (List ℕ)). get_or l 0 []) (reads s limit e);
      tick_of_step = tick_of-step;
      kind_stays = kind_stays;
      exact = exact;
      letter_fits = letter-fits;
      refusal_fits = refusal-fits;
      moment_of_start = λ m. refl;
      moment_of_step = λ x a. refl;
      aic_line = λ n x a k. let l = shows.aic_line (after x a) k in line n x a (value_at (after x a) 5) l.0 l.1 l.2;
      core_line = λ n x a k. let l = shows.core_line (after x a) k in line n x a 0 l.0 l.1 (sym (record-kept.core_shows a.machine k).2);
      cic_line = λ n x a k. let l = shows.cic_line (after x a) k in line n x a 0 l.0 l.1 (sym (record-kept.cic_shows a.machine k).2);
      aintc_line = λ n x a k e. let l = shows.aintc_line (after x a) k e in line n x a (value_at (after x a) 5) l.0 l.1 l.2;
      indexed_line = λ n x a k. let l = shows.indexed_line (after x a) k in line n x a 0 l.0 l.1 (sym (record-kept.indexed_shows a.machine k).2);
      bounded = bounded;
      fits = λ s l limit h. sym (write-laid l (waves_of s limit)) ∙ text.fits l (waves_of s limit) h;
      worked = worked;
    }
