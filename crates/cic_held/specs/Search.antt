-- How the search goes, on the parts of a record and word by word: no document says this; it is proved to be what Order.antt and Looked.antt say.
use Rattle.std.specs.Prelude.{Bool, ◌&&◌, Option, Some, None, List, ℕ, ◌+◌, ◌*◌, ◌/◌, min, eqb, ltb}
use Rattle.words.specs.Array.{bit_at}
use Rattle.words.specs.Choice.{pick}
use Rattle.words.specs.Counting.{any_below, lowest_below}
use Rattle.words.specs.Word.{bit}
use Rattle.cic_record.specs.declared.Channel.{Channel}
use Rattle.cic_record.specs.Kinds.{system, channel_in}
use Rattle.cic_held.specs.declared.indices.Found.{Found}

-- the number s, if it is below n
abbrev pub some_below : ℕ → ℕ → Option ℕ
some_below n s = pick (ltb s n) (Some s) None

-- bit i of w is set, and system interrupt base + i is of channel k
abbrev pub lit : List ℕ → ℕ → ℕ → Channel → ℕ → Bool
lit channel base w k i = bit w i && eqb (channel_in channel (system (base + i))).0 k.0

-- system interrupt s is set and enabled, and its channel is k
abbrev pub pending_of : List ℕ → List ℕ → List ℕ → Channel → ℕ → Bool
pending_of status enable channel k s = bit_at status s && (bit_at enable s && eqb (channel_in channel (system s)).0 k.0)

-- the lowest of channel k, the number of systems where it has none
unfoldable pub first_of : ℕ → List ℕ → List ℕ → List ℕ → Channel → ℕ
first_of systems status enable channel k = lowest_below systems (pending_of status enable channel k)

-- word j has a configured one of channel k
unfoldable pub has_of : ℕ → List ℕ → List ℕ → List ℕ → Channel → ℕ → Bool
has_of systems status enable channel k j = any_below 32 (λ i. ltb (32 * j + i) systems && pending_of status enable channel k (32 * j + i))

-- the words up to and including the first that has one, or all of them
unfoldable pub looked_of : ℕ → List ℕ → List ℕ → List ℕ → Channel → ℕ
looked_of systems status enable channel k =
    min (lowest_below ((systems + 31) / 32) (has_of systems status enable channel k) + 1) ((systems + 31) / 32)

-- the answer of a search for channel k
unfoldable pub found_of : ℕ → List ℕ → List ℕ → List ℕ → Channel → Found
found_of systems status enable channel k = record { index = first_of systems status enable channel k; words = looked_of systems status enable channel k }

-- one channel's turn: what its search finds where the index is over it, else nothing found and nothing looked at
unfoldable pub turn_of : Bool → ℕ → Found → Found
turn_of asked systems f = pick asked f (record { index = systems; words = 0 })
