-- The words of the levels: the waiting sources of each class, and the levels that have any.
use mathlib.Core.Path.{◌≡◌, refl, sym, ap, ap₂, ◌∙◌}
use mathlib.Core.Bool.{Bool, true, false, not, ◌&&◌}
use mathlib.Core.List.{List}
use Prim.Native.Nat.{ℕ, ◌+◌}
use lib.Dec.{eqb}
use lib.ListN.{get_or, set}
use Rattle.words.specs.Choice.{pick}
use Rattle.words.specs.Counting.{upto}
use Rattle.words.specs.Word.{bit, word_of, both, without}
use Rattle.words.proofs.WordLaws.{bit-word_of, word_of-same, word-is, both_lt, bit-both, bit-without}
use Rattle.aic_record.specs.declared.Aic.{Aic}
use Rattle.aic_record.specs.Mode.{priority, priority_of}
use Rattle.aic_sources.specs.Pending.{pending_word}
use Rattle.aic_sources.specs.Normal.{waiting}
use Rattle.aic_sources.specs.Search.{mode_word}
use Rattle.aic_sources.proofs.PendingLaws.{edges_are, pending-by}
use Rattle.aic_levels.specs.Levels.{level_word, any_of}
use Rattle.aic_levels.proofs.LevelLaws.{waiting-by}
use Rattle.rooms.specs.Parts.{flat}
use Rattle.rooms.proofs.PartLaws.{made-same}
use Rattle.aic_room.specs.Room.{class_word, fast_word, parts, room_of, laid, Laid, Stale}

-- a room that is not stale
pub laid-stale : {a : Aic} {room : List ℕ} → Laid a room → Stale a room
unfolding laid
laid-stale {a} h = record { shaped = h.shaped; levels = level_word a; any = any_of a; words = h.words }

-- the pending sources from the words
pub pending_in : (a : Aic) (room : List ℕ) (act r : ℕ) → Stale a room → act ≡ word_of 32 (λ k. pick (bit (get_or room 16 0) k) (not (bit (get_or room 1 0) k)) (bit (get_or room 1 0) k))
    → r ≡ word_of 32 (λ k. pick (bit (get_or room 13 0) k) (bit (get_or room 3 0) k) (bit act k)) → r ≡ pending_word a
unfolding room_of
pending_in a room act r h f g =
    go (ap (λ (l : List ℕ). get_or l 1 0) h.words) (ap (λ (l : List ℕ). get_or l 3 0) h.words) (ap (λ (l : List ℕ). get_or l 13 0) h.words) (ap (λ (l : List ℕ). get_or l 16 0) h.words)
  where
    go : get_or room 1 0 ≡ a.lines → get_or room 3 0 ≡ a.memory → get_or room 13 0 ≡ mode_word a.mode 5 → get_or room 16 0 ≡ without a.external (mode_word a.mode 6) → r ≡ pending_word a
    go l m d i =
        g ∙ ap (λ (w : ℕ). word_of 32 (λ k. pick (bit (get_or room 13 0) k) (bit w k) (bit act k))) m
        ∙ pending-by a (get_or room 16 0) (get_or room 13 0) act i (d ∙ edges_are a)
        (f ∙ ap (λ (w : ℕ). word_of 32 (λ k. pick (bit (get_or room 16 0) k) (not (bit w k)) (bit w k))) l)

-- the word of a level: the waiting sources of its class
pub level_by : (a : Aic) (waits : ℕ) → waits ≡ word_of 32 (waiting a) → (p : ℕ) → both (class_word a.mode p) waits ≡ level_word a p
unfolding level_word class_word priority both
level_by a waits f p =
    word_of-same 32 _ _ (λ k l.
    ap₂ (λ (x y : Bool). x && y) (bit-word_of 32 (λ j. eqb (priority_of (get_or a.mode j 0)) p) k l) (ap (λ (x : ℕ). bit x k) f ∙ bit-word_of 32 (waiting a) k l)
    ∙ turned (eqb (priority_of (get_or a.mode k 0)) p) (waiting a k))
  where
    turned : (x y : Bool) → (x && y) ≡ (y && x)
    turned true true = refl
    turned true false = refl
    turned false true = refl
    turned false false = refl

-- all words renewed
abbrev pub put : ℕ → List ℕ → ℕ → List ℕ
put waits l p = set l (24 + p) (both (get_or l (32 + p) 0) waits)

all-put : (a : Aic) (f : ℕ → ℕ) (any waits : ℕ) → upto (put waits) (room_of a f any) 8 ≡ room_of a (λ p. both (class_word a.mode p) waits) any
unfolding upto room_of
all-put a f any waits = refl

same-room : (a : Aic) (f g : ℕ → ℕ) (any : ℕ) → ((p : ℕ) → f p ≡ g p) → room_of a f any ≡ room_of a g any
unfolding room_of
same-room a f g any e = ap (λ (l : List ℕ). flat (set (parts a f any) 1 l)) (made-same 8 f g (λ p l. e p))

-- the levels that have any
any_in : (a : Aic) (any : ℕ) → word_of 8 (λ p. not (eqb (get_or (room_of a (level_word a) any) (24 + p) 0) 0)) ≡ any_of a
unfolding word_of room_of any_of
any_in a any = refl

put_any : (a : Aic) (f : ℕ → ℕ) (any n : ℕ) → set (room_of a f any) 12 n ≡ room_of a f n
unfolding room_of
put_any a f any n = refl

-- the room after its levels are renewed
pub renewed : (a : Aic) (room next : List ℕ) (waits any : ℕ) → Stale a room → waits ≡ word_of 32 (waiting a) → next ≡ upto (put waits) room 8
    → any ≡ word_of 8 (λ p. not (eqb (get_or next (24 + p) 0) 0)) → Laid a (set next 12 any)
unfolding laid
renewed a room next waits any h w e f =
    let n : next ≡ room_of a (level_word a) h.any = e ∙ ap (λ (l : List ℕ). upto (put waits) l 8) h.words ∙ all-put a h.levels h.any waits
    ∙ same-room a (λ p. both (class_word a.mode p) waits) (level_word a) h.any (level_by a waits w) in
    record {
      shaped = h.shaped;
      words = ap₂ (λ (l : List ℕ) (x : ℕ). set l 12 x) n (f ∙ ap (λ (l : List ℕ). word_of 8 (λ p. not (eqb (get_or l (24 + p) 0) 0))) n ∙ any_in a h.any)
          ∙ put_any a (level_word a) h.any (any_of a);
    }

sides : (x y z : Bool) → (x && (y && z)) ≡ ((x && y) && z)
sides true y z = refl
sides false y z = refl

-- those of x in y and not in z
meets-left : (x y z : ℕ) → both x (without y z) ≡ without (both x y) z
unfolding without
meets-left x y z =
    word-is 32 (both x (without y z)) (λ k. bit (both x y) k && not (bit z k)) (both_lt x (without y z))
    (λ k l. bit-both x (without y z) k l ∙ ap (λ (t : Bool). bit x k && t) (bit-without y z k l) ∙ sides (bit x k) (bit y k) (not (bit z k)) ∙ ap (λ (t : Bool). t && not (bit z k)) (sym (bit-both x y k l)))

-- the waiting sources from the words
pub waiting_in : (a : Aic) (room : List ℕ) (pend r : ℕ) → Stale a room → pend ≡ pending_word a → r ≡ both pend (get_or room 17 0) → r ≡ word_of 32 (waiting a)
unfolding room_of
waiting_in a room pend r h e f =
    waiting-by a pend (both pend a.enabled) (fast_word a) r e refl refl (f ∙ ap (λ (l : List ℕ). both pend (get_or l 17 0)) h.words ∙ meets-left pend a.enabled (fast_word a))
