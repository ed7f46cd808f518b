-- A CIC with its choice off beside one without a choice, and a trace of one with it on (02, 6/12).
use Rattle.std.specs.Prelude.{ℕ, ◌≤◌, ◌≡◌, true, List, [], ◌∷◌, ◌++◌, length}
use Rattle.cic_record.specs.Promises.{InRange}
use Rattle.trace.specs.Promises.{Reads}
use Rattle.machine.specs.declared.record.Machine.{Machine}
use Rattle.machine.specs.Machine.{sound}
use Rattle.beginning.specs.Play.{play_of}
use Rattle.lines.specs.Listing.{end_of, listing_of}

-- one machine is a sound CIC of kind 4 with its choice off, and the other the same CIC of kind 2 (02, 6/12)
pub record Off (m c : Machine) : Type 0 where
  pub indexed : m.kind ≡ 4
  pub sound : sound m ≡ true
  pub choice : m.held.choice ≡ 0
  pub plain : c.kind ≡ 2
  pub cic : m.cic ≡ c.cic

-- two traces, a ++ r and b ++ r: the bytes a configure a CIC of kind 4 with its choice off, b one of kind 2 with the same numbers, in any form, and the same
-- bytes r follow (01, House trace; 02, 1/12 and 6/12)
pub record Alike (a b r : List ℕ) : Type 0 where
  pub systems : ℕ
  pub channels : ℕ
  pub hosts : ℕ
  pub revision : ℕ
  pub in_range : InRange systems channels hosts
  pub indexed : Reads (a ++ r) 0 (4 ∷ systems ∷ channels ∷ hosts ∷ revision ∷ 0 ∷ []) (length a)
  pub plain : Reads (b ++ r) 0 (2 ∷ systems ∷ channels ∷ hosts ∷ revision ∷ []) (length b)
  pub short : (length (a ++ r) ≤ 65536) × (length (b ++ r) ≤ 65536)

-- how the play of a trace ends, as a listing tells it: a last line E, or nothing (01, House trace)
abbrev pub last_line : List ℕ → ℕ → List ℕ
last_line s limit = end_of (play_of s limit).refusal (play_of s limit).offset

-- two listings are the same but for their last lines
abbrev pub SameBut : List ℕ → List ℕ → ℕ → Type 0
SameBut s t limit = (l : List ℕ) × (listing_of s limit ≡ l ++ last_line s limit) × (listing_of t limit ≡ l ++ last_line t limit)

-- a CIC with its choice on, 4 systems, two channels and one host: control is read, system 0 is put to channel 1, all are enabled, the host and then all hosts
-- too; systems 0 and 3 rise; the global index is read, system 3 cleared, the index read again, its hold ended, the index read once more; then the index of a
-- host that is not there (001, 1.3.5; 02, 6/12)
abbrev pub indexed_trace : List ℕ
indexed_trace =
    4 ∷ 4 ∷ 2 ∷ 1 ∷ 0 ∷ 1 ∷ 1 ∷ 4 ∷ 2 ∷ 128 ∷ 8 ∷ 1 ∷ 2 ∷ 128 ∷ 6 ∷ 15 ∷ 2 ∷ 128 ∷ 42 ∷ 1 ∷ 2 ∷ 16 ∷ 1 ∷ 3 ∷ 0 ∷ 1 ∷ 3 ∷ 3 ∷ 1 ∷ 1 ∷ 128 ∷ 1 ∷ 2 ∷ 36 ∷ 3 ∷ 1 ∷ 128 ∷ 1 ∷ 2 ∷ 128 ∷ 1 ∷ 0 ∷ 1 ∷ 128 ∷ 1 ∷ 1 ∷ 132 ∷ 18 ∷ []

-- CIC and thirteen lines of steps: 3 before 0, since its channel is lower; 3 as long as it is held; then 0
abbrev pub indexed_text : List ℕ
indexed_text =
    67 ∷ 73 ∷ 67 ∷ 10
    ∷ 49 ∷ 32 ∷ 82 ∷ 32 ∷ 48 ∷ 48 ∷ 48 ∷ 48 ∷ 48 ∷ 48 ∷ 49 ∷ 48 ∷ 32 ∷ 48 ∷ 32 ∷ 50 ∷ 53 ∷ 54 ∷ 32 ∷ 48 ∷ 10
    ∷ 50 ∷ 32 ∷ 87 ∷ 32 ∷ 48 ∷ 48 ∷ 48 ∷ 48 ∷ 48 ∷ 48 ∷ 48 ∷ 48 ∷ 32 ∷ 48 ∷ 32 ∷ 50 ∷ 53 ∷ 54 ∷ 32 ∷ 48 ∷ 10
    ∷ 51 ∷ 32 ∷ 87 ∷ 32 ∷ 48 ∷ 48 ∷ 48 ∷ 48 ∷ 48 ∷ 48 ∷ 48 ∷ 48 ∷ 32 ∷ 48 ∷ 32 ∷ 50 ∷ 53 ∷ 54 ∷ 32 ∷ 48 ∷ 10
    ∷ 52 ∷ 32 ∷ 87 ∷ 32 ∷ 48 ∷ 48 ∷ 48 ∷ 48 ∷ 48 ∷ 48 ∷ 48 ∷ 48 ∷ 32 ∷ 48 ∷ 32 ∷ 50 ∷ 53 ∷ 54 ∷ 32 ∷ 48 ∷ 10
    ∷ 53 ∷ 32 ∷ 87 ∷ 32 ∷ 48 ∷ 48 ∷ 48 ∷ 48 ∷ 48 ∷ 48 ∷ 48 ∷ 48 ∷ 32 ∷ 48 ∷ 32 ∷ 50 ∷ 53 ∷ 54 ∷ 32 ∷ 48 ∷ 10
    ∷ 54 ∷ 32 ∷ 76 ∷ 32 ∷ 48 ∷ 48 ∷ 48 ∷ 48 ∷ 48 ∷ 48 ∷ 48 ∷ 48 ∷ 32 ∷ 49 ∷ 32 ∷ 48 ∷ 32 ∷ 48 ∷ 10
    ∷ 55 ∷ 32 ∷ 76 ∷ 32 ∷ 48 ∷ 48 ∷ 48 ∷ 48 ∷ 48 ∷ 48 ∷ 48 ∷ 48 ∷ 32 ∷ 49 ∷ 32 ∷ 48 ∷ 32 ∷ 48 ∷ 10
    ∷ 56 ∷ 32 ∷ 82 ∷ 32 ∷ 48 ∷ 48 ∷ 48 ∷ 48 ∷ 48 ∷ 48 ∷ 48 ∷ 51 ∷ 32 ∷ 49 ∷ 32 ∷ 48 ∷ 32 ∷ 48 ∷ 10
    ∷ 57 ∷ 32 ∷ 87 ∷ 32 ∷ 48 ∷ 48 ∷ 48 ∷ 48 ∷ 48 ∷ 48 ∷ 48 ∷ 48 ∷ 32 ∷ 49 ∷ 32 ∷ 48 ∷ 32 ∷ 48 ∷ 10
    ∷ 49 ∷ 48 ∷ 32 ∷ 82 ∷ 32 ∷ 48 ∷ 48 ∷ 48 ∷ 48 ∷ 48 ∷ 48 ∷ 48 ∷ 51 ∷ 32 ∷ 49 ∷ 32 ∷ 48 ∷ 32 ∷ 48 ∷ 10
    ∷ 49 ∷ 49 ∷ 32 ∷ 87 ∷ 32 ∷ 48 ∷ 48 ∷ 48 ∷ 48 ∷ 48 ∷ 48 ∷ 48 ∷ 48 ∷ 32 ∷ 49 ∷ 32 ∷ 48 ∷ 32 ∷ 48 ∷ 10
    ∷ 49 ∷ 50 ∷ 32 ∷ 82 ∷ 32 ∷ 48 ∷ 48 ∷ 48 ∷ 48 ∷ 48 ∷ 48 ∷ 48 ∷ 48 ∷ 32 ∷ 49 ∷ 32 ∷ 48 ∷ 32 ∷ 48 ∷ 10
    ∷ 49 ∷ 51 ∷ 32 ∷ 88 ∷ 32 ∷ 48 ∷ 48 ∷ 48 ∷ 48 ∷ 48 ∷ 48 ∷ 48 ∷ 50 ∷ 32 ∷ 49 ∷ 32 ∷ 48 ∷ 32 ∷ 48 ∷ 10 ∷ []
