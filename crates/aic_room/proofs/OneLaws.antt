-- One level renewed, where a step changes one source alone.
use mathlib.Core.Path.{◌≡◌, refl, sym, ap, ap₂, ◌∙◌}
use mathlib.Core.Bool.{Bool, true, false, not, ◌&&◌, and-false}
use mathlib.Core.List.{List}
use Prim.Native.Nat.{ℕ, ◌+◌, ◌<◌}
use native.Mathlib.Decide.{ℕ_discrete}
use native.Mathlib.Omega.{arith}
use borrow.Author.Tests.{eq-eqb, ne_eqb}
use lib.Dec.{eqb}
use lib.ListN.{get_or, set}
use Rattle.words.specs.Choice.{pick}
use Rattle.words.specs.Word.{bit, word_of, both, with_bit}
use Rattle.words.proofs.WordLaws.{word_of-same, word-is, bit-with_bit, with_bit_narrow}
use Rattle.aic_record.specs.declared.Aic.{Aic}
use Rattle.aic_record.specs.Mode.{priority, kind, edge}
use Rattle.aic_record.specs.Record.{with_lines, with_memory}
use Rattle.aic_sources.specs.Pending.{active_low, active_at, active, pending, asking}
use Rattle.aic_sources.specs.Fast.{fast}
use Rattle.aic_sources.specs.Normal.{waiting}
use Rattle.aic_levels.specs.Levels.{level_word, any_of}
use Rattle.aic_levels.proofs.LevelLaws.{any-bit, any_lt}
use Rattle.rooms.specs.Parts.{flat, made}
use Rattle.rooms.proofs.PartLaws.{part_get, part-set, made_get, made-set}
use Rattle.aic_room.specs.Room.{class_word, parts, sizes, room_of, laid, Laid, Stale, StaleAt}
use Rattle.aic_room.proofs.LevelLaws.{level_by}
use Rattle.aic_room.proofs.CellLaws.{sized}

-- what is left to renew at one level
pub stale_at : {a b : Aic} {p : ℕ} {room : List ℕ} → StaleAt a b p room → Stale b room
stale_at {a} h = record { shaped = h.shaped; levels = level_word a; any = any_of a; words = h.words }

module _ (a b : Aic) (p : ℕ) (l : p < 8) (o : (q : ℕ) → (q ≡ p → ⊥) → level_word b q ≡ level_word a q) where
  -- the byte
  any-put : with_bit (any_of a) p (not (eqb (level_word b p) 0)) ≡ any_of b
  unfolding any_of pick
  any-put =
      word-is 8 (with_bit (any_of a) p (not (eqb (level_word b p) 0))) (λ q. not (eqb (level_word b q) 0)) (with_bit_narrow 8 (any_of a) p _ l (any_lt a))
      (λ q i. bit-with_bit (any_of a) p (not (eqb (level_word b p) 0)) q (omega arith) ∙ go q i (ℕ_discrete q p))
    where
      go : (q : ℕ) → q < 8 → Dec (q ≡ p) → pick (eqb q p) (not (eqb (level_word b p) 0)) (bit (any_of a) q) ≡ not (eqb (level_word b q) 0)
      go q i (yes e) = ap (λ (x : Bool). pick x (not (eqb (level_word b p) 0)) (bit (any_of a) q)) (eq-eqb q p e) ∙ ap (λ (x : ℕ). not (eqb (level_word b x) 0)) (sym e)
      go q i (no d) = ap (λ (x : Bool). pick x (not (eqb (level_word b p) 0)) (bit (any_of a) q)) (ne_eqb q p d) ∙ any-bit a q i ∙ ap (λ (x : ℕ). not (eqb x 0)) (sym (o q d))

-- the room after one level is renewed
pub renewed_at : (a b : Aic) (room : List ℕ) (p waits w n : ℕ) → p < 8 → StaleAt a b p room → waits ≡ word_of 32 (waiting b) → w ≡ both (get_or room (32 + p) 0) waits
    → n ≡ with_bit (get_or room 12 0) p (not (eqb w 0)) → Laid b (set (set room (24 + p) w) 12 n)
unfolding laid room_of
renewed_at a b room p waits w n l h e f g =
    let own = parts b (level_word a) (any_of a) in
    let s = sized b (level_word a) (any_of a) h.shaped in
    let v : w ≡ level_word b p = f ∙ ap (λ (x : ℕ). both x waits) (ap (λ (x : List ℕ). get_or x (32 + p) 0) h.words ∙ part_get own sizes s 2 p l ∙ made_get 8 (class_word b.mode) p l)
    ∙ level_by b waits e p in
    let m : n ≡ any_of b = g ∙ ap₂ (λ (x y : ℕ). with_bit x p (not (eqb y 0))) (ap (λ (x : List ℕ). get_or x 12 0) h.words) v ∙ any-put a b p l h.others in
    record {
      shaped = h.shaped;
      words = ap (λ (x : List ℕ). set (set x (24 + p) w) 12 n) h.words ∙ ap (λ (x : List ℕ). set x 12 n) (part-set own sizes s 1 p w l)
          ∙ ap₂ (λ (x : List ℕ) (y : ℕ). flat (set (parts b (level_word a) y) 1 x)) (ap (set (made 8 (level_word a)) p) v ∙ made-set 8 (level_word a) (level_word b) p l h.others) m;
    }

-- another memory and another line of source k alone: the words of all levels but that of its priority stay
levels_stay : (s : Aic) (m l k q : ℕ) → ((j : ℕ) → j < 32 → (j ≡ k → ⊥) → bit m j ≡ bit s.memory j) → ((j : ℕ) → j < 32 → (j ≡ k → ⊥) → bit l j ≡ bit s.lines j)
    → (q ≡ priority s k → ⊥) → level_word (with_lines (with_memory s m) l) q ≡ level_word s q
unfolding level_word waiting asking pending active active_at active_low kind edge fast priority
levels_stay s m l k q f g n = word_of-same 32 _ _ (λ j i. go j i (ℕ_discrete j k))
  where
    none : (j : ℕ) (b : Bool) → j ≡ k → (b && eqb (priority s j) q) ≡ (b && eqb (priority s k) q)
    none j b e = ap (λ (i : ℕ). b && eqb (priority s i) q) e

    out : (b : Bool) → (b && eqb (priority s k) q) ≡ false
    out b = ap (λ (x : Bool). b && x) (ne_eqb (priority s k) q (λ h. n (sym h))) ∙ and-false b

    go : (j : ℕ) → j < 32 → Dec (j ≡ k) → (waiting (with_lines (with_memory s m) l) j && eqb (priority s j) q) ≡ (waiting s j && eqb (priority s j) q)
    go j i (yes e) = none j (waiting (with_lines (with_memory s m) l) j) e ∙ out (waiting (with_lines (with_memory s m) l) j) ∙ sym (none j (waiting s j) e ∙ out (waiting s j))
    go j i (no e) =
        ap₂ (λ (x y : Bool). ((pick (edge s j) x (pick (active_low s j) (not y) y) && bit s.enabled j) && not (fast s j)) && eqb (priority s j) q) (f j i e) (g j i e)

-- a bit that is not put
other-bit : (w k : ℕ) (t u : Bool) (j : ℕ) → j < 32 → (j ≡ k → ⊥) → bit (pick u (with_bit w k t) w) j ≡ bit w j
unfolding pick
other-bit w k t true j l n = bit-with_bit w k t j l ∙ ap (λ (x : Bool). pick x t (bit w j)) (ne_eqb j k n)
other-bit w k t false j l n = refl

module _ {a : Aic} {room : List ℕ} (h : Laid a room) (k p : ℕ) (e : p ≡ priority a k) where
  -- the memory of source k put anew, or not, and its line
  pub put_source : (m l : ℕ) (t b high : Bool) → m ≡ pick t (with_bit a.memory k b) a.memory → l ≡ with_bit a.lines k high
      → StaleAt a (with_lines (with_memory a (pick t (with_bit a.memory k b) a.memory)) (with_bit a.lines k high)) p (set (set room 3 m) 1 l)
  unfolding laid room_of pick
  put_source m l t b high f g =
      record {
        shaped = h.shaped;
        others = λ q n. levels_stay a (pick t (with_bit a.memory k b) a.memory) (with_bit a.lines k high) k q (λ j i d. other-bit a.memory k b t j i d) (λ j i d. other-bit a.lines k high true j i d) (λ z. n (z ∙ sym e));
        words = ap (λ (x : List ℕ). set (set x 3 m) 1 l) h.words ∙ ap₂ (λ (x y : ℕ). room_of (with_lines (with_memory a x) y) (level_word a) (any_of a)) f g;
      }

  -- the memory of source k put anew
  pub put-spent : (m : ℕ) (b : Bool) → m ≡ with_bit a.memory k b → StaleAt a (with_memory a (with_bit a.memory k b)) p (set room 3 m)
  unfolding laid room_of pick
  put-spent m b f =
      record {
        shaped = h.shaped;
        others = λ q n. levels_stay a (with_bit a.memory k b) a.lines k q (λ j i d. other-bit a.memory k b true j i d) (λ j i d. refl) (λ z. n (z ∙ sym e));
        words = ap (λ (x : List ℕ). set x 3 m) h.words ∙ ap (λ (x : ℕ). room_of (with_memory a x) (level_word a) (any_of a)) f;
      }
