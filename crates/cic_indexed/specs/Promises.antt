-- What is promised of the CIC with prioritised indices (02, 6/12). Sound records, the start and the words held are promised by crate cic_held.
use Rattle.std.specs.Prelude.{true, false, ◌↔◌, ◌≢◌, ◌⊎◌, ◌≡◌, ℕ, ◌+◌, ◌*◌, ◌^◌, ◌<◌, ◌≤◌, get_or, set}
use Rattle.words.specs.Word.{bit}
use Rattle.steps.specs.declared.Step.{Step}
use Rattle.steps.specs.declared.Step.TheVariants.{Read, Write, Line}
use Rattle.steps.specs.Refusals.{carried_out}
use Rattle.steps.specs.Tables.{ReadTable, WriteTable, LineTable}
use Rattle.cic_record.specs.declared.Answer.{Answer as CicAnswer}
use Rattle.cic_record.specs.Kinds.{host_number}
use Rattle.cic_registers.specs.Hosts as hosts
use Rattle.cic_registers.specs.Map.{access}
use Rattle.cic_registers.specs.Model as cic
use Rattle.cic_held.specs.IndicesPromises.{Meets, MeetsFor}
use Rattle.cic_held.specs.declared.Held.{Held}
use Rattle.cic_held.specs.declared.Prioritised.{Prioritised}
use Rattle.cic_held.specs.Held.{prioritised, nothing_held, with_global, with_hosts, held_as, word_held, sound, start}
use Rattle.cic_indexed.specs.Model.{refused, answered, beside, read, write, line, step, outputs}
use Rattle.cic_indexed.specs.Tables.{Names, Changes, EndsHost, EndsGlobal, Turns, access_at, MapTable}

pub record Promises : Type 0 where
  -- a step is a read, a write or a line step (01, House trace)
  pub step_is : (p : Prioritised) → ((o : ℕ) → step p (Read o) ≡ read p o) × ((o v : ℕ) → step p (Write o v) ≡ write p o v) × ((s l : ℕ) → step p (Line s l) ≡ line p s l)
  -- ---- the CIC (02, 6/12)
  -- with the choice off every step answers what the CIC answers, and the record after it is the CIC's
  pub off : (p : Prioritised) (x : Step) → sound p ≡ true → p.held.choice ≡ 0 → step p x ≡ beside p.held (cic.step p.cic x)
  pub map_off : (p : Prioritised) (o : ℕ) → p.held.choice ≡ 0 → access_at p o ≡ access p.cic o
  -- so does every step elsewhere, whatever is held: line steps and reads touch no hold, writes may end some
  pub lines : (p : Prioritised) (s l : ℕ) → sound p ≡ true → line p s l ≡ beside p.held (cic.line p.cic s l)
  pub reads_elsewhere : (p : Prioritised) (o : ℕ) → sound p ≡ true → o ≢ 0x004 → o ≢ 0x080 → (o < 0x900) ⊎ (0x900 + 4 * p.cic.hosts ≤ o)
      → read p o ≡ beside p.held (cic.read p.cic o)
  pub writes_elsewhere : (p : Prioritised) (o v : ℕ) → sound p ≡ true → o ≢ 0x004 → o ≢ 0x080 → (o < 0x900) ⊎ (0x900 + 4 * p.cic.hosts ≤ o)
      → write p o v ≡ beside (write p o v).prioritised.held (cic.write p.cic o v)
  -- ---- what stays
  -- no step changes the choice (02, 6/12)
  pub choice_stays : (p : Prioritised) (x : Step) → (step p x).prioritised.held.choice ≡ p.held.choice
  -- a step changes the hold mode exactly if it is a write of 0x004, carried out since the choice is on, whose bit 4 is not the mode (001, 2.2.2)
  pub mode_turns : (p : Prioritised) (x : Step) → sound p ≡ true → ((step p x).prioritised.held.hold ≢ p.held.hold) ↔ Turns p.held x
  -- a write elsewhere that sets or clears none of the hosts leaves the choice, the mode and every hold as they were (001, 1.3.5)
  pub writes_leave : (p : Prioritised) (o v : ℕ) → sound p ≡ true → v < 2 ^ 32 → o ≢ 0x004 → o ≢ 0x080 → (o < 0x900) ⊎ (0x900 + 4 * p.cic.hosts ≤ o)
      → ((h : ℕ) → h < p.cic.hosts → Changes h o v → ⊥) → write p o v ≡ beside p.held (cic.write p.cic o v)
  -- ---- refusals
  -- the registers that there are beside the CIC's (001, table 2-1)
  pub map : (p : Prioritised) → p.held.choice ≡ 1 → MapTable p
  -- each number is given exactly when the table says; the values refused are the CIC's (01, Numbers)
  pub read_numbers : (p : Prioritised) (o : ℕ) → ReadTable (sound p) o (access_at p o) (read p o).refusal
  pub write_numbers : (p : Prioritised) (o v : ℕ) → WriteTable (sound p) o (access_at p o) (cic.refusal_at p.cic o v) (write p o v).refusal
  pub line_numbers : (p : Prioritised) (s l : ℕ) → LineTable (sound p) p.cic.systems s l (line p s l).refusal
  -- a step that is refused answers its number, the value 0 and the same record (01, Numbers)
  pub refused_same : (p : Prioritised) (x : Step) → (step p x).refusal ≢ carried_out → step p x ≡ refused p (step p x).refusal
  -- writes and line steps answer the value 0 (01, Numbers)
  pub write_value : (p : Prioritised) (o v : ℕ) → (write p o v).value ≡ 0
  pub line_value : (p : Prioritised) (s l : ℕ) → (line p s l).value ≡ 0
  -- ---- every step keeps a sound record sound, and a start that is carried out hands one out (02, 6/12)
  pub step_sound : (p : Prioritised) (x : Step) → sound p ≡ true → sound (step p x).prioritised ≡ true
  pub start_sound : (systems channels hosts revision choice : ℕ) → (start systems channels hosts revision choice).refusal ≡ carried_out
      → sound (start systems channels hosts revision choice).prioritised ≡ true
  -- ---- indices
  -- one that is not held names none exactly if no system interrupt meets its conditions, else the first that does (02, 6/12; 001, 1.3.5)
  pub global_names : (p : Prioritised) → sound p ≡ true → p.held.choice ≡ 1 → p.held.global ≡ 0 → Names p.cic (Meets p.cic) (read p 0x080).value
  pub host_names : (p : Prioritised) (h : ℕ) → sound p ≡ true → p.held.choice ≡ 1 → h < p.cic.hosts → get_or p.held.host h 0 ≡ 0
      → Names p.cic (MeetsFor p.cic (host_number h)) (read p (0x900 + 4 * h)).value
  -- one that is held answers its word, and nothing changes (001, 1.3.5)
  pub global_held : (p : Prioritised) → sound p ≡ true → p.held.global ≢ 0 → read p 0x080 ≡ answered p (word_held p.held.global)
  pub host_held : (p : Prioritised) (h : ℕ) → sound p ≡ true → h < p.cic.hosts → get_or p.held.host h 0 ≢ 0
      → read p (0x900 + 4 * h) ≡ answered p (word_held (get_or p.held.host h 0))
  -- a read in the mode is carried out and holds exactly the word that it answers, that of none too, and no other hold begins or ends (001, 1.3.5 and 2.2.2)
  pub global_holds : (p : Prioritised) → sound p ≡ true → p.held.hold ≡ 1
      → read p 0x080 ≡ answered (prioritised p.cic (with_global p.held (held_as (read p 0x080).value))) (read p 0x080).value
  pub host_holds : (p : Prioritised) (h : ℕ) → sound p ≡ true → p.held.hold ≡ 1 → h < p.cic.hosts
      → read p (0x900 + 4 * h) ≡ answered (prioritised p.cic (with_hosts p.held (set p.held.host h (held_as (read p (0x900 + 4 * h)).value)))) (read p (0x900 + 4 * h)).value
  -- outside the mode it holds nothing (001, 2.2.2)
  pub global_shows : (p : Prioritised) → sound p ≡ true → p.held.choice ≡ 1 → p.held.hold ≡ 0 → read p 0x080 ≡ answered p (read p 0x080).value
  pub host_shows : (p : Prioritised) (h : ℕ) → sound p ≡ true → p.held.choice ≡ 1 → p.held.hold ≡ 0 → h < p.cic.hosts
      → read p (0x900 + 4 * h) ≡ answered p (read p (0x900 + 4 * h)).value
  -- a write of one takes every value, and ends its own hold alone (001, 1.3.5)
  pub global_written : (p : Prioritised) (v : ℕ) → sound p ≡ true → p.held.choice ≡ 1 → write p 0x080 v ≡ answered (prioritised p.cic (with_global p.held 0)) 0
  pub host_written : (p : Prioritised) (h v : ℕ) → sound p ≡ true → p.held.choice ≡ 1 → h < p.cic.hosts
      → write p (0x900 + 4 * h) v ≡ answered (prioritised p.cic (with_hosts p.held (set p.held.host h 0))) 0
  -- ---- what ends a hold: exactly the writes listed, where they are carried out (001, 1.3.5 and 2.2.2)
  pub host_ends : (p : Prioritised) (h o v : ℕ) → sound p ≡ true → h < p.cic.hosts → get_or p.held.host h 0 ≢ 0
      → (get_or (write p o v).prioritised.held.host h 0 ≡ 0) ↔ (((write p o v).refusal ≡ carried_out) × EndsHost h o v)
  pub global_ends : (p : Prioritised) (o v : ℕ) → sound p ≡ true → v < 2 ^ 32 → p.held.global ≢ 0
      → ((write p o v).prioritised.held.global ≡ 0) ↔ (((write p o v).refusal ≡ carried_out) × EndsGlobal p.cic.hosts o v)
  -- a write begins no hold, and changes none that it does not end (001, 1.3.5)
  pub host_stays : (p : Prioritised) (h o v : ℕ)
      → (get_or (write p o v).prioritised.held.host h 0 ≡ 0) ⊎ (get_or (write p o v).prioritised.held.host h 0 ≡ get_or p.held.host h 0)
  pub global_stays : (p : Prioritised) (o v : ℕ)
      → ((write p o v).prioritised.held.global ≡ 0) ⊎ ((write p o v).prioritised.held.global ≡ p.held.global)
  -- ---- control (001, 2.2.2)
  -- it reads 0x10 in the hold mode and 0 outside it
  pub control_reads : (p : Prioritised) → sound p ≡ true → p.held.choice ≡ 1
      → ((p.held.hold ≡ 1) × (read p 0x004 ≡ answered p 0x10)) ⊎ ((p.held.hold ≡ 0) × (read p 0x004 ≡ answered p 0))
  -- a write keeps bit 4 and no other: turned off, nothing is held; turned on, nothing is held yet; on again, nothing changes
  pub control_off : (p : Prioritised) (v : ℕ) → sound p ≡ true → p.held.choice ≡ 1 → bit v 4 ≡ false
      → write p 0x004 v ≡ answered (prioritised p.cic (nothing_held 1 0)) 0
  pub control_on : (p : Prioritised) (v : ℕ) → sound p ≡ true → p.held.choice ≡ 1 → p.held.hold ≡ 0 → bit v 4 ≡ true
      → write p 0x004 v ≡ answered (prioritised p.cic (nothing_held 1 1)) 0
  pub control_again : (p : Prioritised) (v : ℕ) → sound p ≡ true → p.held.hold ≡ 1 → bit v 4 ≡ true → write p 0x004 v ≡ answered p 0
  -- ---- outputs: those of the CIC, whatever is held; 12 and nothing else exactly if the record is not sound (02, 6/12; 01, Numbers)
  pub outputs_sound : (p : Prioritised) → sound p ≡ true → outputs p ≡ hosts.outputs p.cic
  pub outputs_unsound : (p : Prioritised) → sound p ≡ false → outputs p ≡ record { refusal = 12; hosts = 0; lowest = 0 }
  pub outputs_twelve : (p : Prioritised) → ((outputs p).refusal ≡ 12) ↔ (sound p ≡ false)
  -- ---- what a step answers that is carried out, one that is refused, and what the CIC answers with what is held beside it (01, Numbers)
  pub answered_is : (p : Prioritised) (v : ℕ) → ((answered p v).refusal ≡ 0) × ((answered p v).value ≡ v) × ((answered p v).prioritised ≡ p)
  pub refused_is : (p : Prioritised) (n : ℕ) → ((refused p n).refusal ≡ n) × ((refused p n).value ≡ 0) × ((refused p n).prioritised ≡ p)
  pub beside_is : (h : Held) (a : CicAnswer) → ((beside h a).refusal ≡ a.refusal) × ((beside h a).value ≡ a.value)
      × ((beside h a).prioritised.cic ≡ a.cic) × ((beside h a).prioritised.held ≡ h)
