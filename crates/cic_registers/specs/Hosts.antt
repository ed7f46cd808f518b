-- Which host interrupts are asserted (01, CIC, outputs; 001, 1.3.1 to 1.3.4).
use Rattle.std.specs.Prelude.{Bool, ◌&&◌, eqb}
use Rattle.words.specs.Array.{bit_at}
use Rattle.words.specs.Choice.{pick}
use Rattle.words.specs.Counting.{any_below, count_below, lowest_below}
use Rattle.steps.specs.Refusals.{carried_out, unsound}
use Rattle.cic_record.specs.declared.Cic.{Cic}
use Rattle.cic_record.specs.declared.Host.{Host}
use Rattle.cic_record.specs.declared.System.{System}
use Rattle.cic_record.specs.Kinds.{system, host_number, channel_of, host_of}
use Rattle.cic_record.specs.Sound.{sound}
use Rattle.cic_record.specs.declared.Signals.{Signals}

-- system interrupt s is set and enabled, and its channel is mapped to host h (01, CIC, outputs)
unfoldable pub raises : Cic → Host → System → Bool
raises c h s = bit_at c.status s.0 && (bit_at c.enable s.0 && eqb (host_of c (channel_of c s)).0 h.0)

-- global enable and the host's own enable are set, and some configured system interrupt raises it (01, CIC, outputs)
unfoldable pub asserted : Cic → Host → Bool
asserted c h = eqb c.global 1 && (bit_at c.allow h.0 && any_below c.systems (λ s. raises c h (system s)))

-- how many hosts are asserted, and the lowest of them, 256 where none is (01, House trace)
unfoldable pub shown : Cic → Signals
shown c =
    record { refusal = carried_out; hosts = count_below 256 (λ h. asserted c (host_number h)); lowest = lowest_below 256 (λ h. asserted c (host_number h)) }

-- the same of a sound record; any other is refused by 12 (01, Numbers)
unfoldable pub outputs : Cic → Signals
outputs c = pick (sound c) (shown c) (record { refusal = unsound; hosts = 0; lowest = 0 })
