-- The fields of a write in words: of each register those that its model keeps, shows or acts on, by the makers' names (docs/TEXT.md).
use Rattle.std.specs.Prelude.{ℕ, zero, suc, ◌+◌, ◌-◌, ◌*◌, ◌/◌, ◌%◌, Bool, ◌&&◌, List, [], ◌++◌, eqb, ltb}
use Rattle.words.specs.Array.{rest_at, byte_of}
use Rattle.words.specs.Choice.{pick}
use Rattle.words.specs.Counting.{count_below}
use Rattle.words.specs.Word.{bit, without, kept}
use Rattle.text.specs.Phrases.{bytes, counted}
use Rattle.aic_record.specs.Mode.{priority_of, type_of}

-- ---- bits of a word as numbers

-- bit n of a word is told where it is set and fewer than eight lower bits are: behind a space if none is, else behind a comma; numbers count from base on
unfoldable pub told_bit : ℕ → ℕ → ℕ → List ℕ
told_bit base w n =
    pick (bit w n && ltb (count_below n (bit w)) 8) (counted (pick (eqb (count_below n (bit w)) 0) (bytes " ") (bytes ", ")) (base + n)) []

unfoldable pub told_below : ℕ → ℕ → ℕ → List ℕ
told_below base w zero = []
told_below base w (suc n) = told_below base w n ++ told_bit base w n

-- of more than eight it is told how many more
unfoldable pub more_words : ℕ → List ℕ
more_words n = pick (ltb 8 n) (counted (bytes " and ") (n - 8) ++ bytes " more") []

unfoldable pub bit_words : List ℕ → ℕ → ℕ → List ℕ
bit_words noun base w = noun ++ pick (eqb w 0) (bytes " none") (told_below base w 32 ++ more_words (count_below 32 (bit w)))

-- word k of some things, less the bits that are for none of them
unfoldable pub share_words : List ℕ → ℕ → ℕ → ℕ → List ℕ
share_words noun count k v = bit_words noun (32 * k) (kept (rest_at count k) v)

-- ---- the bytes of a map

-- a byte for thing n, if there is one
unfoldable pub byte_words : ℕ → ℕ → ℕ → List ℕ
byte_words count n b = pick (ltb n count) (counted (bytes ", ") n ++ counted (bytes " to ") b) []

-- four bytes, for the things from the first on
unfoldable pub map_words : List ℕ → List ℕ → ℕ → ℕ → ℕ → List ℕ
map_words thing target count first v =
    counted thing first ++ counted target (byte_of v 0)
    ++ byte_words count (first + 1) (byte_of v 1) ++ byte_words count (first + 2) (byte_of v 2) ++ byte_words count (first + 3) (byte_of v 3)

-- ---- the AIC

-- types 0 and 1 follow the line, which is inverted for an external source; types 2 and 3 do not look at that (003, 27.8.3)
unfoldable pub type_words : Bool → ℕ → List ℕ
type_words external type =
    pick (eqb type 0) (pick external (bytes "; low level") (bytes "; high level"))
    (pick (eqb type 1) (pick external (bytes "; falling edge") (bytes "; rising edge"))
    (pick (eqb type 2) (bytes "; high level") (bytes "; rising edge")))

unfoldable pub mode_words : Bool → ℕ → List ℕ
mode_words external v = type_words external (type_of v) ++ counted (bytes ", priority ") (priority_of v)

-- modes, commands, debug control, fast forcing, of which source 0 has none; all else has no field (003, 27.8.3 to 27.8.19)
unfoldable pub aic_fields : ℕ → ℕ → ℕ → List ℕ
aic_fields external o v =
    pick (ltb o 0x080) (mode_words (bit external (o / 4)) v)
    (pick (ltb o 0x120) []
    (pick (ltb o 0x130) (bit_words (bytes "; sources") 0 v)
    (pick (eqb o 0x138) (counted (bytes "; PROT ") (v % 2) ++ counted (bytes ", GMSK ") (v / 2 % 2))
    (pick (ltb o 0x140) []
    (pick (ltb o 0x148) (bit_words (bytes "; sources") 0 (without v 1)) [])))))

-- ---- CoreInterrupt

-- of each side soft, soft clear, enable and enable clear, below its count (004, table 3)
unfoldable pub core_fields : ℕ → ℕ → ℕ → ℕ → List ℕ
core_fields fiqs irqs o v =
    pick (ltb o 0x010) (bit_words (bytes "; sources") 0 (kept fiqs v))
    (pick (ltb o 0x018) []
    (pick (ltb o 0x028) (bit_words (bytes "; sources") 0 (kept irqs v)) []))

-- ---- the CIC

-- global enable, and the indices of systems and of hosts (001, 2.2.3 to 2.2.9)
unfoldable pub cic_singles : ℕ → ℕ → List ℕ
cic_singles o v =
    pick (eqb o 0x010) (counted (bytes "; ENABLE ") (v % 2))
    (pick (ltb o 0x020) []
    (pick (ltb o 0x030) (counted (bytes "; system ") v)
    (pick (ltb o 0x034) []
    (pick (ltb o 0x03C) (counted (bytes "; host ") v) []))))

-- words of systems, the two maps, words of hosts (001, 2.2.11 to 2.2.18)
unfoldable pub cic_fields : ℕ → ℕ → ℕ → ℕ → ℕ → List ℕ
cic_fields systems channels hosts o v =
    pick (ltb o 0x200) (cic_singles o v)
    (pick (ltb o 0x400) (share_words (bytes "; systems") systems (o / 4 % 32) v)
    (pick (ltb o 0x800) (map_words (bytes "; system ") (bytes " to channel ") systems (o - 0x400) v)
    (pick (ltb o 0x900) (map_words (bytes "; channel ") (bytes " to host ") channels (o - 0x800) v)
    (pick (ltb o 0x1500) []
    (pick (ltb o 0x1520) (share_words (bytes "; hosts") hosts (o / 4 % 32) v) [])))))

-- with prioritised indices: bit 4 of control (001, 2.2.2)
unfoldable pub indexed_fields : ℕ → ℕ → ℕ → ℕ → ℕ → List ℕ
indexed_fields systems channels hosts o v =
    pick (eqb o 0x004) (counted (bytes "; PRIORITY_HOLD ") (v / 16 % 2)) (cic_fields systems channels hosts o v)

-- ---- the AINTC

-- bits 8:2 and 0 (000, figure 4-25)
unfoldable pub route_words : ℕ → List ℕ
route_words v = counted (pick (bit v 0) (bytes "; to FIQ, priority ") (bytes "; to IRQ, priority ")) (v / 4 % 128)

-- registers that stand alone (000, 4.5.2, 4.5.6 to 4.5.8 and 4.5.11)
unfoldable pub aintc_singles : ℕ → ℕ → List ℕ
aintc_singles o v =
    pick (eqb o 0x010) (counted (bytes "; SOFTRESET ") (v / 2 % 2) ++ counted (bytes ", AUTOIDLE ") (v % 2))
    (pick (eqb o 0x048) (counted (bytes "; NEWIRQAGR ") (v % 2) ++ counted (bytes ", NEWFIQAGR ") (v / 2 % 2))
    (pick (eqb o 0x04C) (counted (bytes "; PROTECTION ") (v % 2))
    (pick (eqb o 0x050) (counted (bytes "; TURBO ") (v / 2 % 2) ++ counted (bytes ", FUNCIDLE ") (v % 2))
    (pick (eqb o 0x068) (counted (bytes "; PRIORITYTHRESHOLD ") (v % 256)) []))))

-- the banks, and the routes (000, 4.5.12 to 4.5.20)
unfoldable pub aintc_fields : ℕ → ℕ → List ℕ
aintc_fields o v =
    pick (ltb o 0x080) (aintc_singles o v)
    (pick (ltb o 0x100) (bit_words (bytes "; inputs") (32 * ((o - 0x080) / 0x20)) v)
    (pick (ltb o 0x300) (route_words v) []))
