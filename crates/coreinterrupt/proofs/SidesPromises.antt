-- The promises of one side, kept.
use mathlib.Core.Path.{refl, sym}
use Rattle.words.proofs.WordLaws.{bit-either, bit-both, either_lt, both_lt}
use Rattle.coreinterrupt.specs.Side.{raw, status, side_access, side_read, side_write}
use Rattle.coreinterrupt.specs.SidesPromises.{Promises}
use Rattle.coreinterrupt.proofs.SideLaws.{sound-rules, rules-sound, idle-sound, write-sound, moved-sound, six_registers, clears-hidden, clears-shown, raw-read-only, zero_readable, zero-read, set-bit, clear-bit, soft_word, soft-only, enable_word, enable-only, line-bit, line_word, line-only, moved_spare, side-active, sound-active, status-active, level-held, level-left, level-active, level_small}
use Rattle.coreinterrupt.proofs.SidesTableLaws.{read_past, write-past}

pub kept : Promises
unfolding raw status side_access side_read side_write
kept =
    record {
      idle_is = λ n l. refl;
      inputs_put = λ s w. refl;
      soft_put = λ s w. refl;
      enable_put = λ s w. refl;
      sound_is = λ limit s. (sound-rules limit s, rules-sound limit s);
      idle_sound = idle-sound;
      write_sound = write-sound;
      line_sound = moved-sound;
      six_registers = six_registers;
      soft_read_write = λ s. (refl, refl);
      clears_hidden = clears-hidden;
      clears_shown = clears-shown;
      raw_read_only = raw-read-only;
      none_readable = zero_readable;
      none_zero = λ limit s e z i. zero-read limit s (sound-rules limit s e) z i;
      reads = λ s. (refl, refl, refl, refl, refl, refl);
      read_else = λ s i l. sym (read_past s i l);
      raw_bit = λ s k l. bit-either s.inputs s.soft k l;
      raw_word = λ s. either_lt s.inputs s.soft;
      status_bit = λ s k l. bit-both (raw s) s.enable k l;
      status_word = λ s. both_lt (raw s) s.enable;
      soft_set = λ s v k l. set-bit s.count s.soft v k l;
      soft_clear = λ s v k l. clear-bit s.count s.soft v k l;
      soft_word = soft_word;
      soft_only = soft-only;
      enable_set = λ s v k l. set-bit s.count s.enable v k l;
      enable_clear = λ s v k l. clear-bit s.count s.enable v k l;
      enable_word = enable_word;
      enable_only = enable-only;
      write_else = λ s i v l. sym (write-past s i v l);
      line_bit = line-bit;
      line_word = line_word;
      line_only = line-only;
      spare = moved_spare;
      output_active = side-active;
      source_active = sound-active;
      status_active = status-active;
      level_held = level-held;
      level_left = level-left;
      level_active = level-active;
      level_small = level_small;
    }
