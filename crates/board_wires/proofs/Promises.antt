-- The promises of the wires are kept.
use mathlib.Core.Path.{refl, sym, ap, ◌∙◌}
use mathlib.Core.Logic.{⊎_elim}
use native.Mathlib.Omega.{arith}
use lib.ListN.{get_or}
use Rattle.coreinterrupt.specs.declared.Core.{Core}
use Rattle.board_wires.specs.Promises.{Promises}
use Rattle.board_wires.proofs.InputLaws.{irq-only, fiq-only, irq-bit, fiq-bit, lines_word, wired-sound, irq-is, fiq-is, irq-raised, fiq-raised}
use Rattle.board_wires.proofs.NumberLaws.{of-nothing, of_pin, of-irq, of-fiq, of_else, number-nothing, number_pin, number-irq, number-fiq, no_pin, no_output, number_back, wire_there, no_wire, no-input, pin-high, core_there, core_else}
use Rattle.board_wires.proofs.UnusedLaws.{core_unused}
use Rattle.board_wires.proofs.WireLaws.{from_nothing, from_pin, irq-value, fiq-value}
use Rattle.board_wires.proofs.PairLaws.{irq-values, fiq-values, values_word}
use Rattle.board_wires.proofs.ChainLaws.{chain-none, chain-over, chain-met, chain-most}

pub kept : Promises
kept =
    record {
      number_nothing = (of-nothing, number-nothing);
      number_pin = λ p l. (of_pin p l, number_pin p l);
      number_irq = λ d l. (of-irq d l, number-irq d l);
      number_fiq = λ d l. (of-fiq d l, number-fiq d l);
      number_else = of_else;
      pin_else = no_pin;
      output_else = no_output;
      number_back = number_back;
      wire_is = λ b. wire_there b.wire;
      wire_else = λ b c i h. ⊎_elim (no_wire b.wire c i) (no-input b.wire c i) h;
      pin_is = λ b. pin-high b.pin;
      core_is = λ b c l. core_there b c l ∙ sym (ap (λ (z : Core). get_or b.core c z) (core_else b 8 (omega arith)));
      core_else = core_else;
      value_nothing = λ b c i e. sym (from_nothing b c i _ refl e);
      value_pin = λ b c i p e. sym (from_pin b c i _ refl p _ e refl);
      value_irq = irq-value;
      value_fiq = fiq-value;
      irq_lines = irq-only;
      irq_line = irq-bit;
      fiq_lines = fiq-only;
      fiq_line = fiq-bit;
      lines_word = lines_word;
      wired_sound = wired-sound;
      irq_is = irq-is;
      fiq_is = fiq-is;
      irq_active = irq-raised;
      fiq_active = fiq-raised;
      unused_same = core_unused;
      irq_values = irq-values;
      fiq_values = fiq-values;
      values_word = values_word;
      activities_are = λ b c. (refl, refl);
      chain_none = chain-none;
      chain_over = chain-over;
      chain_met = chain-met;
      chain_most = chain-most;
    }
