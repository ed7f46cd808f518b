-- The promises of a board are kept.
use mathlib.Core.Path.{refl, sym, ◌∙◌}
use Rattle.coreinterrupt.proofs.Promises.{kept as alone}
use Rattle.board_wires.specs.Wires.{wired_core}
use Rattle.board.specs.Model.{add, connect, put_pin, read, write, input, chain}
use Rattle.board.specs.Promises.{Promises}
use Rattle.board.proofs.AnswerLaws.{refused-is, reply-refused}
use Rattle.board.proofs.AskLaws.{read_is, outputs-is, outputs-refused, irq-active, fiq-active, chain-is, input-is, value-nothing, value_pin, value-irq, value-fiq, unused-same}
use Rattle.board.proofs.ChangeLaws.{add-sound, add_shaped, add_does, connect-sound, connect_shaped, connect_does, pin-put-sound, pin_shaped, pin_does}
use Rattle.board.proofs.NumberLaws.{add-table, connect-table, pin-table, read_table, outputs-table, chain-table, input-table}
use Rattle.board.proofs.WiredLaws.{wired-sound}
use Rattle.board.proofs.WriteLaws.{write_own, write-value, write-sound, write_shaped, write_else, write_does}

pub kept : Promises
unfolding add connect put_pin read write input chain
kept =
    record {
      add_numbers = λ b f i fl il. add-table f i fl il b;
      connect_numbers = connect-table;
      pin_numbers = pin-table;
      read_numbers = read_table;
      write_numbers = write_own;
      outputs_numbers = outputs-table;
      input_numbers = input-table;
      chain_numbers = chain-table;
      add_refused = λ b f i fl il. refused-is b _ _ refl;
      connect_refused = λ b c i w. refused-is b _ _ refl;
      pin_refused = λ b p l. refused-is b _ _ refl;
      read_refused = λ b c o. refused-is b _ _ refl;
      write_refused = λ b c o v. refused-is b _ _ refl;
      outputs_refused = outputs-refused;
      input_refused = λ b c i. reply-refused _ _;
      chain_refused = λ b c. reply-refused _ _;
      add_sound = λ b f i fl il. add-sound f i fl il b;
      connect_sound = connect-sound;
      pin_sound = pin-put-sound;
      write_sound = write-sound;
      add_shaped = λ b f i fl il. add_shaped f i fl il b;
      connect_shaped = connect_shaped;
      pin_shaped = pin_shaped;
      write_shaped = write_shaped;
      adds = λ b f i fl il. add_does f i fl il b;
      connects = connect_does;
      pins = pin_does;
      wired_sound = wired-sound;
      reads = read_is;
      writes = λ b c o v s e l. ((write_own b c o v).own e l, write-value b c o v ∙ sym (alone.write_value (wired_core b c) o v), write_does b c o v s e l);
      writes_else = write_else;
      outputs_is = outputs-is;
      irq_active = irq-active;
      fiq_active = fiq-active;
      input_is = λ b c i e l. input-is b c e l i;
      value_nothing = λ b c i e l. value-nothing b c e l i;
      value_pin = λ b c i p e l m. value_pin b c e l i m p;
      value_irq = λ b c i d e l m. value-irq b c e l i m d;
      value_fiq = λ b c i d e l m. value-fiq b c e l i m d;
      chain_is = chain-is;
      unused = unused-same;
    }
