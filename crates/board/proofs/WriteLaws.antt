-- A write to a controller of a board: CoreInterrupt's, with the wired values as its lines.
use Prim.Native.Nat.{ℕ, ◌<◌}
use mathlib.Core.Path.{◌≡◌, refl, sym, ap, ◌∙◌}
use mathlib.Core.Bool.{true}
use mathlib.Core.Logic.{◌≢◌}
use native.Mathlib.Decide.{ℕ_discrete}
use native.Mathlib.Omega.{arith}
use lib.ListN.{length-set}
use Rattle.steps.specs.declared.Step.TheVariants.{Write}
use Rattle.coreinterrupt.specs.declared.Answer as alone
use Rattle.coreinterrupt.specs.declared.Core.{Core}
use Rattle.coreinterrupt.specs.Model as CoreInterrupt
use Rattle.coreinterrupt.proofs.Promises.{kept as alone-kept}
use Rattle.board_wires.specs.declared.Board.{Board}
use Rattle.board_wires.specs.Wires.{core_at, wired_core}
use Rattle.board.specs.RecordPromises.{Shaped}
use Rattle.board.specs.Record.{with_core, answered}
use Rattle.board.specs.Sound.{sound}
use Rattle.board.proofs.RecordLaws.{core-put, core-other}
use Rattle.board.proofs.SoundLaws.{sound-parts, sound-rules, lines-low, core-sound}
use Rattle.board.specs.declared.record.Answer.{Answer}
use Rattle.board.specs.Model.{checked, is_there, write}
use Rattle.board.specs.Tables.{OwnTable}
use Rattle.board.proofs.AnswerLaws.{carried, stopped, either_way, is_there_lem, there-is, none-given, through}
use Rattle.board.proofs.LineLaws.{lined, write-lined, write-counts, write_lines}
use Rattle.board.proofs.NumberLaws.{write-table}
use Rattle.board.proofs.WiredLaws.{lines-low-all, wired-sound, wired-lined, irq-same_lines, fiq-same_lines, same-below}

module _ (b : Board) (c o v : ℕ) where
  -- what CoreInterrupt makes of the controller in the record
  abbrev W : alone.Answer
  W = CoreInterrupt.write (core_at b c) o v

  -- of the controller with its lines it makes the same, with those lines
  write-wired : sound b ≡ true → c < b.controllers
      → CoreInterrupt.write (wired_core b c) o v
      ≡ record { refusal = W.refusal; value = W.value; core = lined W.core (wired_core b c).fiq.inputs (wired_core b c).irq.inputs }
  write-wired e l =
      ap (λ (k : Core). CoreInterrupt.write k o v) (wired-lined b c)
      ∙ write-lined (core_at b c) (wired_core b c).fiq.inputs (wired_core b c).irq.inputs o v ((sound-rules b e).controllers c l)
      (sym (ap CoreInterrupt.sound (wired-lined b c)) ∙ wired-sound b c e l)

  pub same_refusal : sound b ≡ true → c < b.controllers → (CoreInterrupt.write (wired_core b c) o v).refusal ≡ W.refusal
  same_refusal e l = ap (λ (a : alone.Answer). a.refusal) (write-wired e l)

  pub write_own : OwnTable b c (CoreInterrupt.write (wired_core b c) o v).refusal (write b c o v).refusal
  write_own =
      let t = write-table b c o v in
      record { twelve = t.twelve; six = t.six; own = λ s l. t.own s l ∙ sym (same_refusal s l) }

  pub write-value : (write b c o v).value ≡ 0
  unfolding write
  write-value = either_way (λ (a : Answer). a.value ≡ 0) b (checked b (is_there b c) W.refusal) _ (λ _. alone-kept.write_value (core_at b c) o v) refl

  new-sound : sound b ≡ true → c < b.controllers → sound (with_core b c W.core) ≡ true
  new-sound e l =
      let k = (sound-rules b e).controllers c l in
      let w = write_lines (core_at b c) o v k in
      let z = lines-low-all b e c in
      core-sound b c W.core e l (alone-kept.step_sound (core_at b c) (Write o v) k) (lines-low W.core (w.0 ∙ z.0) (w.1 ∙ z.1))

  pub write-sound : sound b ≡ true → sound (write b c o v).board ≡ true
  unfolding write
  write-sound e =
      either_way (λ (a : Answer). sound a.board ≡ true) b (checked b (is_there b c) W.refusal) _
      (λ z. new-sound e (there-is b c (none-given b (is_there b c) W.refusal z).1.0)) e

  pub write_shaped : Shaped b → Shaped (write b c o v).board
  unfolding write with_core
  write_shaped s =
      either_way (λ (a : Answer). Shaped a.board) b (checked b (is_there b c) W.refusal) _ (λ _. (s.0, s.1, length-set b.core c W.core ∙ s.2)) s

  -- all else stays
  pub write_else : ((d : ℕ) → d ≢ c → core_at (write b c o v).board d ≡ core_at b d) × ((write b c o v).board.controllers ≡ b.controllers)
      × ((write b c o v).board.wire ≡ b.wire) × ((write b c o v).board.pin ≡ b.pin)
  unfolding write with_core
  write_else =
      either_way
      (λ (a : Answer). ((d : ℕ) → d ≢ c → core_at a.board d ≡ core_at b d) × (a.board.controllers ≡ b.controllers)
      × (a.board.wire ≡ b.wire) × (a.board.pin ≡ b.pin))
      b (checked b (is_there b c) W.refusal) _ (λ _. ((λ d n. core-other b c d W.core n), refl, refl, refl)) ((λ d n. refl), refl, refl, refl)

  -- the controller put back has the lines that it had
  new-wired : Shaped b → sound b ≡ true → c < b.controllers
      → wired_core (with_core b c W.core) c ≡ lined W.core (wired_core b c).fiq.inputs (wired_core b c).irq.inputs
  unfolding with_core
  new-wired s e l =
      wired-lined x c
      ∙ rw (
        here,
        fiq-same_lines x b refl refl (new-sound e l) e c low (ap (λ (k : Core). k.fiq.count) here ∙ (write-counts (core_at b c) o v).0),
        irq-same_lines x b refl refl (new-sound e l) e c low (ap (λ (k : Core). k.irq.count) here ∙ (write-counts (core_at b c) o v).1),
      )
    where
      x : Board
      x = with_core b c W.core

      here : core_at (with_core b c W.core) c ≡ W.core
      here = let m : c < 8 = omega (arith, l, (sound-parts b e).counted) in core-put b c W.core m (omega (arith, m, s.2))

      low : (d : ℕ) → d < c → wired_core (with_core b c W.core) d ≡ wired_core b d
      low = same-below x b refl refl (new-sound e l) e c (λ d m. core-other b c d W.core (omega arith))

  pub write_does : Shaped b → sound b ≡ true → c < b.controllers → wired_core (write b c o v).board c ≡ (CoreInterrupt.write (wired_core b c) o v).core
  unfolding write
  write_does s e l = go (ℕ_discrete W.refusal 0)
    where
      n : ℕ
      n = checked b (is_there b c) W.refusal

      same : checked b (is_there b c) W.refusal ≡ W.refusal
      same = through b (is_there b c) W.refusal e (is_there_lem b c l)

      go : Dec (W.refusal ≡ 0) → wired_core (write b c o v).board c ≡ (CoreInterrupt.write (wired_core b c) o v).core
      go (yes z) =
          ap (λ (a : Answer). wired_core a.board c) (sym (carried b n (same ∙ z)))
          ∙ new-wired s e l ∙ sym (ap (λ (a : alone.Answer). a.core) (write-wired e l))
      go (no z) =
          ap (λ (a : Answer). wired_core a.board c) (sym (stopped b n (answered (with_core b c W.core) W.value) (λ q. z (sym same ∙ q))))
          ∙ sym (ap (λ (a : alone.Answer). a.core) (alone-kept.refused_same (wired_core b c) (Write o v) (λ q. z (sym (same_refusal e l) ∙ q))))
