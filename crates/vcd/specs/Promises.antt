-- What is promised of a dump: read back it gives the values of every tick, its digits are those of the value, and it is at most so long.
use Rattle.std.specs.Prelude.{ℕ, suc, ◌+◌, ◌-◌, ◌*◌, ◌%◌, ◌^◌, ◌<◌, ◌≤◌, ◌≡◌, List, [], ◌∷◌, ◌++◌, map, ◌≢◌, length, get_or, set, drop, replicate}
use Rattle.text.specs.Text.{decimal, field}
use Rattle.text.specs.Phrases.{bytes}
use Rattle.vcd.specs.Dump.{Signal, declaration, declarations, heading, opening, declared, binary_of, change, values_from, changes_from, tick, first_tick, next_tick, ticks_from, ending, ticks}
use Rattle.vcd.specs.Replay.{lines_of, digits_after, line_read, tables_from, replay, behind_space, identifiers}

-- values as signals of these widths can hold them, the first of them the kth: so many of their last bits
unfoldable pub held_from : ℕ → List ℕ → List ℕ → List ℕ
held_from k [] now = []
held_from k (w ∷ ws) now = get_or now k 0 % 2 ^ w ∷ held_from (k + 1) ws now

abbrev pub held : List ℕ → List ℕ → List ℕ
held ws now = held_from 0 ws now

-- the most bytes that the values of signals of these widths take: of each its digits and four
unfoldable pub most_bytes : List ℕ → ℕ
most_bytes [] = 0
most_bytes (w ∷ ws) = w + 4 + most_bytes ws

-- a text that says nothing of values: the ticks are those of what follows
abbrev pub Quiet : List ℕ → Type 0
Quiet head = (t bs : List ℕ) → tables_from t (lines_of (head ++ bs)) ≡ tables_from t (lines_of bs)

-- a text without a line feed
abbrev pub OneLine : List ℕ → Type 0
OneLine l = (k : ℕ) → k < length l → get_or l k 0 ≢ 10

-- signals whose names are such texts
abbrev pub Named : List Signal → Type 0
Named [] = Unit
Named (d ∷ ds) = OneLine d.name × Named ds

pub record Promises : Type 0 where
  -- ---- read back

  -- nothing is lost by printing only what changed: behind any heading, each tick gives every value, as far as its signal's bits hold it
  pub reads : (head ws first : List ℕ) (rest : List (List ℕ)) (refusal offset : ℕ) → Quiet head → length ws ≤ 94
      → replay (length ws) (head ++ ticks ws first rest refusal offset) ≡ map (held ws) (first ∷ rest)
  -- a value that its bits can hold is given back as it is
  pub holds : (v w : ℕ) → v < 2 ^ w → v % 2 ^ w ≡ v
  pub held_none : (k : ℕ) (now : List ℕ) → held_from k [] now ≡ []
  pub held_more : (k w : ℕ) (ws now : List ℕ) → held_from k (w ∷ ws) now ≡ get_or now k 0 % 2 ^ w ∷ held_from (k + 1) ws now
  -- a heading is one that ticks may stand behind, and declares the identifiers by which the values go
  pub quiet : (name : List ℕ) (ds : List Signal) → OneLine name → Named ds → Quiet (heading (name ++ (10 ∷ [])) ds)
  pub declares_all : (name : List ℕ) (ds : List Signal) → OneLine name → Named ds → length (identifiers (lines_of (heading (name ++ (10 ∷ [])) ds))) ≡ length ds
  pub declares_nth : (name : List ℕ) (ds : List Signal) (k : ℕ) → OneLine name → Named ds → k < length ds
      → get_or (identifiers (lines_of (heading (name ++ (10 ∷ [])) ds))) k 0 ≡ 33 + k % 94
  -- ---- what reading is

  -- a line ends at its line feed, the last one also without
  pub lines_none : lines_of [] ≡ []
  pub lines_feed : (bs : List ℕ) → lines_of (10 ∷ bs) ≡ [] ∷ lines_of bs
  pub lines_last : (b : ℕ) → b ≢ 10 → lines_of (b ∷ []) ≡ (b ∷ []) ∷ []
  pub lines_more : (b : ℕ) (bs l : List ℕ) (ls : List (List ℕ)) → b ≢ 10 → lines_of bs ≡ l ∷ ls → lines_of (b ∷ bs) ≡ (b ∷ l) ∷ ls
  -- digits are worth twice those before the last and the last one; a space ends them, and the identifier follows
  pub digits_none : (v : ℕ) → digits_after v [] ≡ (v, 0)
  pub digits_end : (v : ℕ) (bs : List ℕ) → digits_after v (32 ∷ bs) ≡ (v, get_or bs 0 0)
  pub digits_more : (v b : ℕ) (bs : List ℕ) → b ≢ 32 → digits_after v (b ∷ bs) ≡ digits_after (2 * v + (b - 48)) bs
  -- a line that begins with b, 0 or 1 puts the value of the signal that its identifier names, and no other line one
  pub read_none : (t : List ℕ) → line_read t [] ≡ t
  pub read_digits : (t bs : List ℕ) → line_read t (98 ∷ bs) ≡ set t ((digits_after 0 bs).1 - 33) (digits_after 0 bs).0
  pub read_zero : (t bs : List ℕ) → line_read t (48 ∷ bs) ≡ set t (get_or bs 0 0 - 33) 0
  pub read_one : (t bs : List ℕ) → line_read t (49 ∷ bs) ≡ set t (get_or bs 0 0 - 33) 1
  pub read_other : (t : List ℕ) (b : ℕ) (bs : List ℕ) → b ≢ 98 → b ≢ 48 → b ≢ 49 → line_read t (b ∷ bs) ≡ t
  -- # ends a tick with the table as it is, the end of the text the last one; what stands before the first # is none
  pub tables_end : (t : List ℕ) → tables_from t [] ≡ t ∷ []
  pub tables_tick : (t l : List ℕ) (ls : List (List ℕ)) → tables_from t ((35 ∷ l) ∷ ls) ≡ t ∷ tables_from t ls
  pub tables_line : (t l : List ℕ) (ls : List (List ℕ)) → get_or l 0 0 ≢ 35 → tables_from t (l ∷ ls) ≡ tables_from (line_read t l) ls
  pub replays : (n : ℕ) (text : List ℕ) → replay n text ≡ drop 1 (tables_from (replicate n 0) (lines_of text))
  -- an identifier is declared behind the third space of a line whose second byte is v
  pub behind_none : (n : ℕ) → behind_space n [] ≡ 0
  pub behind_last : (bs : List ℕ) → behind_space 0 (32 ∷ bs) ≡ get_or bs 0 0
  pub behind_one : (n : ℕ) (bs : List ℕ) → behind_space (suc n) (32 ∷ bs) ≡ behind_space n bs
  pub behind_other : (n b : ℕ) (bs : List ℕ) → b ≢ 32 → behind_space n (b ∷ bs) ≡ behind_space n bs
  pub identifiers_none : identifiers [] ≡ []
  pub identifiers_var : (l : List ℕ) (ls : List (List ℕ)) → get_or l 1 0 ≡ 118 → identifiers (l ∷ ls) ≡ behind_space 2 l ∷ identifiers ls
  pub identifiers_other : (l : List ℕ) (ls : List (List ℕ)) → get_or l 1 0 ≢ 118 → identifiers (l ∷ ls) ≡ identifiers ls
  -- ---- what is written

  pub opens : opening ≡ bytes "$comment one tick is one step of the trace, refused steps counted; tick 0 is the start $end\n$timescale 1 ns $end\n"
  pub closes : declared ≡ bytes "$enddefinitions $end\n"
  pub heads : (name : List ℕ) (ds : List Signal)
      → heading name ds ≡ opening ++ bytes "$scope module " ++ name ++ bytes "$end\n" ++ declarations 0 ds ++ bytes "$upscope $end\n" ++ declared
  pub declares : (k : ℕ) (d : Signal) → declaration k d ≡ bytes "$var wire " ++ decimal d.width ++ (32 ∷ (33 + k % 94) ∷ 32 ∷ []) ++ d.name ++ bytes " $end\n"
  pub declares_none : (k : ℕ) → declarations k [] ≡ []
  pub declares_more : (k : ℕ) (d : Signal) (ds : List Signal) → declarations k (d ∷ ds) ≡ declaration k d ++ declarations (k + 1) ds
  -- one bit is its digit; more are b and digits, all of them 0 or 1 and at most as many as the signal has bits
  pub one_bit : (k v : ℕ) → change 1 k v ≡ (48 + v % 2) ∷ (33 + k % 94) ∷ 10 ∷ []
  pub more_bits : (w k v : ℕ) → w ≢ 1 → change w k v ≡ (98 ∷ []) ++ binary_of w v ++ (32 ∷ (33 + k % 94) ∷ 10 ∷ [])
  pub digits : (w v : ℕ) → 0 < w → (0 < length (binary_of w v)) × (length (binary_of w v) ≤ w)
  pub digit_bytes : (w v k : ℕ) → k < length (binary_of w v) → (48 ≤ get_or (binary_of w v) k 0) × (get_or (binary_of w v) k 0 ≤ 49)
  -- of several that hold the value the first is 1: no leading 0 is printed (18.2.2)
  pub shortest : (w v : ℕ) → v < 2 ^ w → 1 < length (binary_of w v) → get_or (binary_of w v) 0 0 ≡ 49
  -- a tick is # and its number, tick 0 has every value, the next ones what changed, and an ending refusal is a last comment
  pub ticking : (n : ℕ) → tick n ≡ (35 ∷ []) ++ decimal n ++ (10 ∷ [])
  pub starts : (ws now : List ℕ) → first_tick ws now ≡ bytes "#0\n$dumpvars\n" ++ values_from 0 ws now ++ bytes "$end\n"
  pub values_none : (k : ℕ) (now : List ℕ) → values_from k [] now ≡ []
  pub values_more : (k w : ℕ) (ws now : List ℕ) → values_from k (w ∷ ws) now ≡ change w k (get_or now k 0) ++ values_from (k + 1) ws now
  pub goes_on : (n : ℕ) (ws before now : List ℕ) → next_tick n ws before now ≡ tick n ++ changes_from 0 ws before now
  pub changes_none : (k : ℕ) (before now : List ℕ) → changes_from k [] before now ≡ []
  pub unchanged : (k w : ℕ) (ws before now : List ℕ) → get_or before k 0 ≡ get_or now k 0 → changes_from k (w ∷ ws) before now ≡ changes_from (k + 1) ws before now
  pub changed : (k w : ℕ) (ws before now : List ℕ) → get_or before k 0 ≢ get_or now k 0
      → changes_from k (w ∷ ws) before now ≡ change w k (get_or now k 0) ++ changes_from (k + 1) ws before now
  pub ticks_none : (n : ℕ) (ws before : List ℕ) → ticks_from n ws before [] ≡ []
  pub ticks_more : (n : ℕ) (ws before now : List ℕ) (rest : List (List ℕ))
      → ticks_from n ws before (now ∷ rest) ≡ next_tick (n + 1) ws before now ++ ticks_from (n + 1) ws now rest
  pub ended : (refusal offset : ℕ) → refusal ≢ 0 → ending refusal offset ≡ bytes "$comment E" ++ field refusal ++ field offset ++ bytes " $end\n"
  pub not_ended : (offset : ℕ) → ending 0 offset ≡ []
  pub whole : (ws first : List ℕ) (rest : List (List ℕ)) (refusal offset : ℕ)
      → ticks ws first rest refusal offset ≡ first_tick ws first ++ ticks_from 0 ws first rest ++ ending refusal offset
  -- ---- how long it is

  pub most_none : most_bytes [] ≡ 0
  pub most_more : (w : ℕ) (ws : List ℕ) → most_bytes (w ∷ ws) ≡ w + 4 + most_bytes ws
  pub tick_most : (n d : ℕ) (ws before now : List ℕ) → 0 < d → n < 10 ^ d → length (next_tick n ws before now) ≤ d + 2 + most_bytes ws
  pub first_most : (ws now : List ℕ) → length (first_tick ws now) ≤ 18 + most_bytes ws
  pub end_most : (refusal offset : ℕ) → length (ending refusal offset) ≤ 58
  -- ticks whose numbers have at most d digits
  pub most : (d : ℕ) (ws first : List ℕ) (rest : List (List ℕ)) (refusal offset : ℕ) → 0 < d → length rest < 10 ^ d
      → length (ticks ws first rest refusal offset) ≤ (d + 2 + most_bytes ws) * length rest + most_bytes ws + 76
  -- ---- worked out

  -- two signals, of one bit and of four, over three ticks: 0 and 5, 1 and 5, 1 and 10; the trace ends by 8 at byte 7
  pub worked : ticks (1 ∷ 4 ∷ []) (0 ∷ 5 ∷ []) ((1 ∷ 5 ∷ []) ∷ (1 ∷ 10 ∷ []) ∷ []) 8 7 ≡ bytes "#0\n$dumpvars\n0!\nb101 \"\n$end\n#1\n1!\n#2\nb1010 \"\n$comment E 8 7 $end\n"
  -- and that text read back
  pub worked_read : replay 2 (bytes "#0\n$dumpvars\n0!\nb101 \"\n$end\n#1\n1!\n#2\nb1010 \"\n$comment E 8 7 $end\n") ≡ (0 ∷ 5 ∷ []) ∷ (1 ∷ 5 ∷ []) ∷ (1 ∷ 10 ∷ []) ∷ []
  -- the declarations of two such signals
  pub worked_declarations : declarations 0 (record { name = bytes "IRQ"; width = 1 } ∷ record { name = bytes "open"; width = 4 } ∷ [])
      ≡ bytes "$var wire 1 ! IRQ $end\n$var wire 4 \" open $end\n"
