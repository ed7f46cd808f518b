-- The promises of the record of a board are kept.
use mathlib.Core.Path.{refl}
use Rattle.board.specs.Record.{empty, with_controller, with_core, with_wire, with_pin}
use Rattle.board.specs.RecordPromises.{Promises}
use Rattle.board.proofs.SoundLaws.{sound-is, empty-sound}

pub kept : Promises
unfolding empty with_controller with_core with_wire with_pin
kept =
    record {
      sound_is = sound-is;
      empty_is = (refl, refl, refl, refl);
      empty_sound = empty-sound;
      empty_shaped = (refl, refl, refl);
      controller_put = λ b k. (refl, refl, refl, refl);
      core_put = λ b c k. (refl, refl, refl, refl);
      wire_put = λ b c i w. (refl, refl, refl, refl);
      pin_put = λ b p l. (refl, refl, refl, refl);
      answered_is = λ b v. refl;
      refused_is = λ b n. refl;
    }
