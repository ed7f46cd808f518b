-- What a write of each register and a line step do, where nothing refuses them (000, 4.5). The outputs take nothing here: that is `settle`.
use Rattle.std.specs.Prelude.{ℕ, ◌%◌, Bool, eqb, ltb, get_or, set}
use Rattle.words.specs.Array.{with_bit_at}
use Rattle.words.specs.Choice.{pick}
use Rattle.words.specs.Word.{bit, either, without}
use Rattle.aintc_record.specs.declared.Aintc.{Aintc}
use Rattle.aintc_record.specs.declared.Chosen.{Chosen}
use Rattle.aintc_record.specs.Record.{with_lines, with_soft, with_masks, with_routes, with_threshold, with_revision, with_guarded, with_autoidle, with_idle, with_sides, nobody, reset}
use Rattle.aintc_record.specs.Route.{route_byte}
use Rattle.aintc_registers.specs.Map.{revision, sysconfig, control, protection, idle, threshold, itr, mir, mir_clear, mir_set, isr_set, isr_clear, ilr, row_of, bank_of, input_of}

-- an agreement bit written as 1 frees its output; written as 0 it does nothing (000, table 4-9)
unfoldable pub released : Bool → Chosen → Chosen
released t c = pick t nobody c

-- bit 0 agrees to IRQ, bit 1 to FIQ (000, figure 4-11)
unfoldable pub agreed : Aintc → ℕ → Aintc
agreed s v = with_sides s (released (bit v 0) s.irq) (released (bit v 1) s.fiq)

-- bit 1 is a soft reset, which leaves the lines where they are; without it bit 0 is kept (000, table 4-5)
unfoldable pub configured : Aintc → ℕ → Aintc
configured s v = pick (bit v 1) (reset s.lines) (with_autoidle s (bit v 0))

-- the registers that stand alone: reserved bits are dropped (000, figures 4-6 to 4-16)
unfoldable pub single_written : Aintc → ℕ → ℕ → Aintc
single_written s o v =
    pick (eqb o revision) (with_revision s (v % 256))
    (pick (eqb o sysconfig) (configured s v)
    (pick (eqb o control) (agreed s v)
    (pick (eqb o protection) (with_guarded s (bit v 0))
    (pick (eqb o idle) (with_idle s (bit v 1) (bit v 0))
    (pick (eqb o threshold) (with_threshold s (v % 256)) s)))))

-- the registers of bank n, by their row: MIR replaces the masks; each bit written as 1 clears or sets a mask, sets or clears a soft
-- interrupt (000, 4.4.1 and tables 4-16 to 4-20)
unfoldable pub bank_written : Aintc → ℕ → ℕ → ℕ → Aintc
bank_written s n r v =
    pick (eqb r mir) (with_masks s (set s.masks n v))
    (pick (eqb r mir_clear) (with_masks s (set s.masks n (without (get_or s.masks n 0) v)))
    (pick (eqb r mir_set) (with_masks s (set s.masks n (either (get_or s.masks n 0) v)))
    (pick (eqb r isr_set) (with_soft s (set s.soft n (either (get_or s.soft n 0) v)))
    (pick (eqb r isr_clear) (with_soft s (set s.soft n (without (get_or s.soft n 0) v))) s))))

-- the register at an offset; ILR keeps the priority and the output of its input (000, figure 4-25)
unfoldable pub written_at : Aintc → ℕ → ℕ → Aintc
written_at s o v =
    pick (ltb o itr) (single_written s o v)
    (pick (ltb o ilr) (bank_written s (bank_of o) (row_of o) v)
    (with_routes s (set s.routes (input_of o) (route_byte v))))

-- a line step moves its line (000, 4.3.1.1)
unfoldable pub moved : Aintc → ℕ → Bool → Aintc
moved s k high = with_lines s (with_bit_at s.lines k high)
