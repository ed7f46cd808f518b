-- How many status words, of 32 system interrupts each, a search for one channel and the read of an index look at (02, 10/12).
use Rattle.std.specs.Prelude.{Bool, ◌&&◌, ℕ, ◌+◌, ◌*◌, ◌/◌, min, ltb}
use Rattle.words.specs.Choice.{pick}
use Rattle.words.specs.Counting.{any_below, lowest_below, sum_below}
use Rattle.cic_record.specs.declared.Channel.{Channel}
use Rattle.cic_record.specs.declared.Cic.{Cic}
use Rattle.cic_record.specs.Kinds.{system, channel_number}
use Rattle.cic_held.specs.declared.indices.Found.{Found}
use Rattle.cic_held.specs.Order.{pending_in, first_in, channel_first, index_over}

-- ---- one channel

-- the number of status words: the systems divided by 32, rounded up (02, 10/12)
abbrev pub words_of : Cic → ℕ
words_of c = (c.systems + 31) / 32

-- word j has a set and enabled system interrupt of channel k (02, 10/12)
unfoldable pub word_has : Cic → Channel → ℕ → Bool
word_has c k j = any_below 32 (λ i. ltb (32 * j + i) c.systems && pending_in c k (system (32 * j + i)))

-- the words in order, up to and including the first that has one of channel k, or all of them (02, 10/12)
unfoldable pub looked_in : Cic → Channel → ℕ
looked_in c k = min (lowest_below (words_of c) (word_has c k) + 1) (words_of c)

-- what a search for one channel answers: its lowest system interrupt, and the words looked at
unfoldable pub found_in : Cic → Channel → Found
found_in c k = record { index = first_in c k; words = looked_in c k }

-- ---- an index over the channels that pass a test

-- the channels that have their turn: in order, up to and including the first that passes and has one, or all of them (001, 1.3.5)
unfoldable pub searched : Cic → (Channel → Bool) → ℕ
searched c t = min (channel_first c t + 1) c.channels

-- the words that the searches look at together: only channels that pass are searched (02, 10/12)
unfoldable pub looked_over : Cic → (Channel → Bool) → ℕ
looked_over c t = sum_below (searched c t) (λ k. pick (t (channel_number k)) (looked_in c (channel_number k)) 0)

-- what a read of an index that is not held answers: its word, and the words looked at
unfoldable pub found_over : Cic → (Channel → Bool) → Found
found_over c t = record { index = index_over c t; words = looked_over c t }
