-- The promises of the words that a read would look at after a trace are kept.
use mathlib.Core.Logic.{◌≢◌}
use mathlib.Core.Path.{◌≡◌, sym}
use Prim.Native.Nat.{ℕ}
use borrow.Author.Tests.{eq-eqb, ne_eqb}
use Rattle.words.proofs.ChoiceLaws.{pick_true, pick-false}
use Rattle.cic_prioritised.specs.Looking.{look_at}
use Rattle.machine.specs.declared.record.Machine.{Machine}
use Rattle.machine.specs.Machine.{indexed}
use Rattle.beginning.specs.Play.{play_of}
use Rattle.player.specs.After.{words_of}
use Rattle.player.specs.LookedPromises.{Promises}

of-indexed : (m : Machine) (o : ℕ) → m.kind ≡ 4 → words_of m o ≡ (look_at (indexed m) o).words
unfolding words_of
of-indexed m o e = sym (pick_true 0 (eq-eqb m.kind 4 e))

of_others : (m : Machine) (o : ℕ) → m.kind ≢ 4 → words_of m o ≡ 0
unfolding words_of
of_others m o d = sym (pick-false (look_at (indexed m) o).words (ne_eqb m.kind 4 d))

pub kept : Promises
kept = record { of_indexed = λ s limit o. of-indexed (play_of s limit).machine o; of_others = λ s limit o. of_others (play_of s limit).machine o }
