-- The registers of prioritisation, what a read of an index answers and holds, and what a write of the CIC's ends (001, 1.3.5, 2.2.2, 2.2.10 and 2.2.17).
use Rattle.std.specs.Prelude.{true, false, ℕ, ◌-◌, ◌/◌, eqb, ltb, get_or, set}
use Rattle.words.specs.Array.{rest_at}
use Rattle.words.specs.Choice.{pick}
use Rattle.words.specs.Word.{kept}
use Rattle.steps.specs.declared.Access.{Access}
use Rattle.steps.specs.declared.Access.TheVariants.{NoRegister, ReadWrite}
use Rattle.cic_record.specs.declared.Cic.{Cic}
use Rattle.cic_record.specs.Kinds.{host_number}
use Rattle.cic_registers.specs.Map.{access}
use Rattle.cic_held.specs.Order.{index_of}
use Rattle.cic_held.specs.declared.Held.{Held}
use Rattle.cic_held.specs.declared.Prioritised.{Prioritised}
use Rattle.cic_held.specs.Held.{with_global, with_hosts, held_as, word_held, freed_hosts}
use Rattle.cic_indexed.specs.declared.Own.{Own}
use Rattle.cic_indexed.specs.declared.Own.TheVariants.{Elsewhere, Control, GlobalIndex, HostIndex}

-- ---- the registers (001, table 2-1)

-- they are there where the choice is on: control, the global index, and an index for each host from 0x900 on (02, 6/12)
unfoldable pub own_at : Prioritised → ℕ → Own
own_at p offset =
    pick (eqb p.held.choice 1)
    (pick (eqb offset 0x004) Control
    (pick (eqb offset 0x080) GlobalIndex
    (pick (ltb offset 0x900) Elsewhere
    (pick (ltb offset 0xD00) (HostIndex (host_number ((offset - 0x900) / 4)))
    Elsewhere))))
    Elsewhere

-- the index of a host beyond the configured ones is no register (02, 6/12; 001, 2.2.17)
unfoldable pub host_access : Prioritised → ℕ → Access
host_access p h = pick (ltb h p.cic.hosts) ReadWrite NoRegister

unfoldable pub access_of : Prioritised → ℕ → Own → Access
access_of p offset Elsewhere = access p.cic offset
access_of p offset Control = ReadWrite
access_of p offset GlobalIndex = ReadWrite
access_of p offset (HostIndex h) = host_access p h.0

-- ---- reads

-- an index answers the word that is held, or where none is the one that it names now (001, 1.3.5)
abbrev pub index_read : ℕ → ℕ → ℕ
index_read x now = pick (eqb x 0) now (word_held x)

-- after a read the word that was answered is held, in the hold mode (001, 1.3.5 and 2.2.2)
abbrev pub hold_after : Prioritised → ℕ → ℕ
hold_after p word = pick (eqb p.held.hold 1) (held_as word) 0

abbrev pub global_word : Prioritised → ℕ
global_word p = index_read p.held.global (index_of p.cic true (host_number 0))

abbrev pub host_word : Prioritised → ℕ → ℕ
host_word p h = index_read (get_or p.held.host h 0) (index_of p.cic false (host_number h))

-- ---- what the CIC's own writes end

-- host h set or cleared by index: nothing is held for it, nor for the global index (001, 1.3.5 and 2.2.2)
abbrev pub after_host : Held → ℕ → Held
after_host x h = with_global (with_hosts x (set x.host h 0)) 0

-- a host enable register written: nothing is held for the configured hosts whose bit is 1, nor, if there is one, for the global index (001, 1.3.5 and 2.2.2)
unfoldable pub hosts_written : Cic → Held → ℕ → ℕ → Held
hosts_written c x k v =
    pick (eqb (kept (rest_at c.hosts k) v) 0) x (with_global (with_hosts x (freed_hosts k (kept (rest_at c.hosts k) v) x.host)) 0)

-- what is held after a write of the CIC's that is carried out: host index set, host index clear and the host enables end holds (001, 1.3.5)
unfoldable pub held_after : Cic → Held → ℕ → ℕ → Held
held_after c x offset v =
    pick (eqb offset 0x034) (after_host x v)
    (pick (eqb offset 0x038) (after_host x v)
    (pick (ltb offset 0x1500) x
    (pick (ltb offset 0x1520) (hosts_written c x ((offset - 0x1500) / 4) v)
    x)))
