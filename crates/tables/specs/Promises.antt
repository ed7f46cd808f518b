-- What is promised of a typed table: where its numbers stand, what is one, what is refused where, that a table that was written out is read
-- back, and the line that answers it (docs/STACK.md; 02, 4/12). The byte at an offset k of a text s is `get_or s k 0`.
use Rattle.std.specs.Prelude.{ℕ, suc, ◌+◌, ◌-◌, ◌*◌, ◌^◌, ◌≤◌, ◌<◌, ◌≡◌, true, false, List, [], ◌∷◌, ◌++◌, map, ◌↔◌, ◌≢◌, ◌⊎◌, length, get_or, take, drop, replicate}
use Rattle.text.specs.Text.{decimal}
use Rattle.stack.specs.declared.Table.{Table}
use Rattle.stack.specs.Bytes.{stack_bytes, needed}
use Rattle.stack.specs.Printed.{text_of}
use Rattle.tables.specs.Typed.{bare, start_from, end_from, past_nth, nth_start, nth_typed}
use Rattle.tables.specs.Names.{named, behind, unnamed_to, cleared}
use Rattle.tables.specs.Named.{name_of, names_of}
use Rattle.tables.specs.Number.{digit, worth_from, is_number, worth}
use Rattle.tables.specs.Reading.{entered, table_of, read_table, answer_to}
use Rattle.tables.specs.Layout.{Without, NameAt, Name, Spread, lines_from, plain, in_quotes, plain_named}
use Rattle.tables.specs.Facts.{Starts, Ends, Digits, SlipAt, Whole, TooLarge, Words, Rows, Within, NamesOf}

pub record Promises : Type 0 where
  -- ---- comments

  -- a text without # is as it was; from # to its line feed, or to the end of the text, all bytes become spaces, and offsets stay as they are
  pub bare_none : (s : List ℕ) → Without 35 s → bare s ≡ s
  pub bare_ended : (before c after : List ℕ) → Without 35 before → Without 10 c
      → bare (before ++ (35 ∷ (c ++ (10 ∷ after)))) ≡ before ++ (replicate (length c + 2) 32 ++ bare after)
  pub bare_open : (before c : List ℕ) → Without 35 before → Without 10 c → bare (before ++ (35 ∷ c)) ≡ before ++ replicate (length c + 1) 32
  pub bare_length : (s : List ℕ) → length (bare s) ≡ length s
  -- ---- names

  -- at an offset a name of n bytes is taken exactly if one stands there as it must, and none exactly if none does
  pub named_is : (s : List ℕ) (at n : ℕ) → 1 ≤ n → (named s at ≡ n) ↔ NameAt s at n
  pub named_none : (s : List ℕ) (at : ℕ) → (named s at ≡ 0) ↔ ((n : ℕ) → NameAt s at n → ⊥)
  -- it is looked for at one place of each source alone: where the next word begins behind the three numbers of the source, in a text without
  -- comments and without the names of the sources before it
  pub behind_is : (s : List ℕ) (i : ℕ) → behind s i ≡ nth_start (bare s) (3 * i + 3)
  pub unnamed_none : (s : List ℕ) → unnamed_to s 0 ≡ s
  pub unnamed_more : (s : List ℕ) (i : ℕ) → named (unnamed_to s i) (behind (unnamed_to s i) i) ≡ 0 → unnamed_to s (suc i) ≡ unnamed_to s i
  pub unnamed_byte : (s : List ℕ) (i k : ℕ) → k < length s → Within (unnamed_to s i) i k → get_or (unnamed_to s (suc i)) k 0 ≡ 32
  pub unnamed_rest : (s : List ℕ) (i k : ℕ) → (Within (unnamed_to s i) i k → ⊥) → get_or (unnamed_to s (suc i)) k 0 ≡ get_or (unnamed_to s i) k 0
  pub cleared_is : (s : List ℕ) → cleared s ≡ bare (unnamed_to s 32)
  pub cleared_length : (s : List ℕ) → length (cleared s) ≡ length s
  -- a text without a quote outside its comments is read as if there were no names
  pub quoteless : (s : List ℕ) → Without 34 (bare s) → cleared s ≡ bare s
  -- and in a table that is read each quote belongs to a name or to a comment: any other is a slip
  pub quotes_gone : (s : List ℕ) → (read_table s).refusal ≡ 0 → Without 34 (cleared s)
  -- the name of source i is what stands between its quotes
  pub name_length : (s : List ℕ) (i : ℕ) → length (name_of s i) ≡ named (unnamed_to s i) (behind (unnamed_to s i) i)
  pub name_byte : (s : List ℕ) (i k : ℕ) → k < length (name_of s i) → get_or (name_of s i) k 0 ≡ get_or s (behind (unnamed_to s i) i + 1 + k) 0
  -- of a table that is read 24 bytes for each source are answered, zeros behind its name; of one that is refused zeros alone
  pub names_read : (s : List ℕ) → (read_table s).refusal ≡ 0 → NamesOf (name_of s) (names_of s)
  pub names_refused : (s : List ℕ) → (read_table s).refusal ≢ 0 → NamesOf (λ i. []) (names_of s)
  -- ---- where the numbers stand in a text without comments

  -- a number begins with the first byte that is not white, and ends with the first that is
  pub starts : (s : List ℕ) (at i : ℕ) → at ≤ length s → (start_from s at ≡ i) ↔ Starts s at i
  pub ends : (s : List ℕ) (at i : ℕ) → at ≤ length s → (end_from s at ≡ i) ↔ Ends s at i
  -- so the first number is found from the start of the text on, and each other one from the end of the one before it on
  pub past_none : (s : List ℕ) → past_nth s 0 ≡ 0
  pub past_more : (s : List ℕ) (n : ℕ) → past_nth s (suc n) ≡ end_from s (start_from s (past_nth s n))
  pub past_within : (s : List ℕ) (n : ℕ) → past_nth s n ≤ length s
  pub start_is : (s : List ℕ) (n : ℕ) → nth_start s n ≡ start_from s (past_nth s n)
  pub typed_is : (s : List ℕ) (n : ℕ) → nth_typed s n ≡ take (past_nth s (suc n) - nth_start s n) (drop (nth_start s n) s)
  -- a number that is missing has no character, begins at the end of the text, and is none
  pub missing : (s : List ℕ) (n : ℕ) → nth_start s n ≡ length s → (nth_typed s n ≡ []) × (is_number (nth_typed s n) ≡ false)
  -- ---- what a number is

  -- the digits 0 to 9, A to F and a to f; any other character is worth 16, which is no digit to any base here
  pub digit_plain : (b : ℕ) → 48 ≤ b → b ≤ 57 → digit b ≡ b - 48
  pub digit_upper : (b : ℕ) → 65 ≤ b → b ≤ 70 → digit b ≡ b - 55
  pub digit_lower : (b : ℕ) → 97 ≤ b → b ≤ 102 → digit b ≡ b - 87
  pub digit_none : (b : ℕ) → (b < 48) ⊎ (((57 < b) × (b < 65)) ⊎ (((70 < b) × (b < 97)) ⊎ (102 < b))) → digit b ≡ 16
  -- digits are worth the base times those before the last and the last one
  pub worth_none : (base v : ℕ) → worth_from base v [] ≡ v
  pub worth_more : (base v b : ℕ) (bs : List ℕ) → worth_from base v (b ∷ bs) ≡ worth_from base (base * v + digit b) bs
  -- after 0x hexadecimal digits, else decimal ones, are a number exactly if there is one and no other character, however many there are
  pub hexadecimal : (ds : List ℕ) → ((is_number (48 ∷ 120 ∷ ds) ≡ true) ↔ Digits 16 ds) × (worth (48 ∷ 120 ∷ ds) ≡ worth_from 16 0 ds)
  pub decimals : (w : List ℕ) → (get_or w 0 0 ≢ 48) ⊎ (get_or w 1 0 ≢ 120) → ((is_number w ≡ true) ↔ Digits 10 w) × (worth w ≡ worth_from 10 0 w)
  -- 0X is no prefix
  pub upper_x : (ds : List ℕ) → is_number (48 ∷ 88 ∷ ds) ≡ false
  -- ---- what is read, and what is refused where

  -- 11 exactly if a text has more than 65,536 bytes, and its offset is 65,536
  pub eleven : (s : List ℕ) → ((read_table s).refusal ≡ 11) ↔ (65536 < length s)
  pub eleven_at : (s : List ℕ) → (read_table s).refusal ≡ 11 → (read_table s).offset ≡ 65536
  -- 8 at an offset exactly if the first slip begins there: at its first character, or at the end of the text where the number is missing. A number
  -- that is too large is a slip as the word of forced sources alone
  pub eight : (s : List ℕ) (p : ℕ) → (((read_table s).refusal ≡ 8) × ((read_table s).offset ≡ p)) ↔ ((length s ≤ 65536) × SlipAt (cleared s) p)
  -- else the table is read, exactly if the 98 numbers are there and nothing follows them, and it is the table of their values
  pub read : (s : List ℕ) → ((read_table s).refusal ≡ 0) ↔ Whole s
  pub read_values : (s vs : List ℕ) → (read_table s).refusal ≡ 0 → ((k : ℕ) → k < 98 → get_or vs k 0 ≡ entered (worth (nth_typed (cleared s) k)))
      → read_table s ≡ record { refusal = 0; offset = 0; table = table_of vs }
  -- a number stands in the table as it is, or as the largest word where it is larger than that
  pub entered_as : (v : ℕ) → v < 2 ^ 32 → entered v ≡ v
  pub entered_most : (v : ℕ) → 2 ^ 32 ≤ v → entered v ≡ 0xFFFFFFFF
  pub rows : (vs : List ℕ) → Rows vs (table_of vs)
  -- no other number is given, and a refused text gives no table
  pub only : (s : List ℕ) → ((read_table s).refusal ≡ 0) ⊎ (((read_table s).refusal ≡ 8) ⊎ ((read_table s).refusal ≡ 11))
  pub refused_empty : (s : List ℕ) → (read_table s).refusal ≢ 0
      → (read_table s).table ≡ record { priority = replicate 32 0; kind = replicate 32 0; forced = 0; frame = replicate 32 0; mark = 0 }
  -- ---- what is written out is read back

  -- 98 numbers are read as they stand, whatever white space and comments stand between them: these do not count
  pub spread : (ws : List (List ℕ)) (s : List ℕ) → Spread ws s → length ws ≡ 98 → worth (get_or ws 96 []) < 2 ^ 32 → length s ≤ 65536
      → read_table s ≡ record { refusal = 0; offset = 0; table = table_of (map (λ w. entered (worth w)) ws) }
  -- a table that is written out in the plain way is read back as it is
  pub read_back : (t : Table) → Words t → read_table (plain t) ≡ record { refusal = 0; offset = 0; table = t }
  -- and with a name for each source that has one it is read back as it is, with those names
  pub named_back : (t : Table) (name : ℕ → List ℕ) → Words t → ((i : ℕ) → i < 32 → Name (name i))
      → (read_table (plain_named t name) ≡ record { refusal = 0; offset = 0; table = t }) × NamesOf name (names_of (plain_named t name))
  -- the plain way: for each source priority, type and frame in decimal with a space between, what stands behind them and a line feed, then the last two numbers
  pub plain_last : (t : Table) (behind : ℕ → List ℕ) (i : ℕ) → lines_from t behind 0 i ≡ decimal t.forced ++ (10 ∷ (decimal t.mark ++ (10 ∷ [])))
  pub plain_more : (t : Table) (behind : ℕ → List ℕ) (k i : ℕ) → lines_from t behind (suc k) i
      ≡ decimal (get_or t.priority i 0)
      ++ (32 ∷ (decimal (get_or t.kind i 0) ++ (32 ∷ (decimal (get_or t.frame i 0) ++ (behind i ++ (10 ∷ lines_from t behind k (i + 1)))))))
  -- a name behind a space and in quotes, and nothing where there is none
  pub quotes_none : in_quotes [] ≡ []
  pub quotes_some : (b : ℕ) (bs : List ℕ) → in_quotes (b ∷ bs) ≡ 32 ∷ 34 ∷ (b ∷ (bs ++ (34 ∷ [])))
  -- ---- the line

  -- of a table that is read, that of its stack size; else E, the refusal and its offset (02, 4/12)
  pub answer_read : (s : List ℕ) → (read_table s).refusal ≡ 0 → answer_to s ≡ text_of (needed (read_table s).table)
  pub answer_refused : (s : List ℕ) → (read_table s).refusal ≢ 0
      → answer_to s ≡ 69 ∷ 32 ∷ (decimal (read_table s).refusal ++ (32 ∷ (decimal (read_table s).offset ++ (10 ∷ []))))
  -- so `E 14` is the line exactly of the 98 numbers with one among them that is too large for a priority, a type or a frame, and the figure is
  -- that of the 98 numbers without one (02, 4/12, Refusals)
  pub fourteen : (s : List ℕ) → (answer_to s ≡ 69 ∷ 32 ∷ 49 ∷ 52 ∷ 10 ∷ []) ↔ (Whole s × TooLarge (cleared s))
  pub figure : (s : List ℕ) → Whole s → (TooLarge (cleared s) → ⊥)
      → answer_to s ≡ decimal (stack_bytes (read_table s).table) ++ (32 ∷ 98 ∷ 121 ∷ 116 ∷ 101 ∷ 115 ∷ 10 ∷ [])
  -- no line is longer than 13 bytes
  pub answer_most : (s : List ℕ) → length (answer_to s) ≤ 13
