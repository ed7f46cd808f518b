-- What is held in a room, and what begins and ends a hold.
use mathlib.Core.Path.{◌≡◌, refl, sym, ap, ap₂, ◌∙◌, subst}
use mathlib.Core.Bool.{Bool, true, false}
use mathlib.Core.List.{List}
use mathlib.Core.Logic.{◌≢◌}
use Prim.Native.Nat.{ℕ, zero, suc, ◌+◌, ◌-◌, ◌*◌, ◌/◌, ◌≤◌, ◌<◌}
use native.Mathlib.Decide.{ℕ_discrete}
use native.Mathlib.Omega.{arith}
use borrow.Author.Tests.{eq-eqb, ne_eqb, lt-ltb, le-ltb}
use lib.ListN.{get_or, set, length, replicate, length-set, length-replicate}
use lib.Seq.{get_or-set_same, get_or-set_other, ext_get_or, set_out, paste, paste-zero, paste-suc}
use Rattle.words.specs.Array.{rest_at}
use Rattle.words.specs.Choice.{pick}
use Rattle.words.specs.Counting.{upto}
use Rattle.words.specs.Word.{bit, kept}
use Rattle.words.proofs.ArrayLaws.{zeros_get_d}
use Rattle.words.proofs.ChoiceLaws.{pick_true, pick-false}
use Rattle.words.proofs.CountingLaws.{upto-none, upto-more, upto_done}
use Rattle.cic_held.specs.declared.Held.{Held}
use Rattle.cic_held.specs.declared.Prioritised.{Prioritised}
use Rattle.cic_held.specs.Held.{prioritised, nothing_held, with_global, with_hosts, freed_hosts, controlled}
use Rattle.cic_indexed.specs.Registers.{after_host, hosts_written, held_after}
use Rattle.indexed_room.specs.Room.{Laid}
use Rattle.indexed_room.proofs.FrameLaws.{index_is, held-is, put_index, put-held}

-- another hold beside the same CIC
pub holds_as : (p : Prioritised) {a b : Held} {room : List ℕ} → a ≡ b → Laid (prioritised p.cic a) room → Laid (prioritised p.cic b) room
holds_as p {room = room} e h = subst (λ (t : Held). Laid (prioritised p.cic t) room) e h

module _ (p : Prioritised) {room : List ℕ} (h : Laid p room) where
  pub choice-is : get_or room 9 0 ≡ p.held.choice
  choice-is = index_is h 0 (omega arith)

  pub mode-is : get_or room 10 0 ≡ p.held.hold
  mode-is = index_is h 1 (omega arith)

  pub global-is : get_or room 11 0 ≡ p.held.global
  global-is = index_is h 2 (omega arith)

  pub host-held-is : (k : ℕ) → k < 256 → get_or room (1024 + k) 0 ≡ get_or p.held.host k 0
  host-held-is k l = held-is h k l

  pub put_mode : (x : ℕ) → Laid (prioritised p.cic (record { choice = p.held.choice; hold = x; global = p.held.global; host = p.held.host })) (set room 10 x)
  put_mode x = put_index h 1 x (omega arith)

  pub put_global : (x : ℕ) → Laid (prioritised p.cic (with_global p.held x)) (set room 11 x)
  put_global x = put_index h 2 x (omega arith)

  pub put_host : (k x : ℕ) → k < 256 → Laid (prioritised p.cic (with_hosts p.held (set p.held.host k x))) (set room (1024 + k) x)
  put_host k x l = put-held h k x l

-- ---- one after another

-- one bit's turn
abbrev pub free_turn : ℕ → ℕ → List ℕ → ℕ → List ℕ
free_turn k v xs j = pick (bit v j) (set xs (32 * k + j) 0) xs

pub free-none : (p : Prioritised) (k v : ℕ) {room : List ℕ} → Laid p room → Laid (prioritised p.cic (with_hosts p.held (upto (free_turn k v) p.held.host 0))) room
free-none p k v h = holds_as p (ap (with_hosts p.held) (upto-none (free_turn k v) p.held.host)) h

pub free_more : (p : Prioritised) (k v j : ℕ) {t : Bool} {n : ℕ} {room : List ℕ} → t ≡ bit v j → n ≡ 32 * k + j
    → Laid (prioritised p.cic (with_hosts p.held (pick t (set (upto (free_turn k v) p.held.host j) n 0) (upto (free_turn k v) p.held.host j)))) room
    → Laid (prioritised p.cic (with_hosts p.held (upto (free_turn k v) p.held.host (j + 1)))) room
free_more p k v j {t} {n} e d h =
    let xs = upto (free_turn k v) p.held.host j in
    holds_as p (ap (with_hosts p.held) (upto-more (free_turn k v) p.held.host j refl (ap₂ (λ (b : Bool) (i : ℕ). pick b (set xs i 0) xs) e d))) h

pub free-done : (p : Prioritised) (k v j : ℕ) {room : List ℕ} → j ≤ 32 → 32 ≤ j → Laid (prioritised p.cic (with_hosts p.held (upto (free_turn k v) p.held.host j))) room
    → Laid (prioritised p.cic (with_hosts p.held (freed_hosts k v p.held.host))) room
unfolding freed_hosts
free-done p k v j a b h = holds_as p (ap (with_hosts p.held) (upto_done (free_turn k v) p.held.host j 32 a b refl)) h

-- all holds end one by one
abbrev pub clear_turn : List ℕ → ℕ → List ℕ
clear_turn xs k = set xs k 0

clear-length : (xs : List ℕ) (n : ℕ) → length (upto clear_turn xs n) ≡ length xs
unfolding upto
clear-length xs zero = refl
clear-length xs (suc n) = length-set (upto clear_turn xs n) n 0 ∙ clear-length xs n

clear_get : (xs : List ℕ) (n k : ℕ) → n ≤ length xs → k < n → get_or (upto clear_turn xs n) k 0 ≡ 0
unfolding upto
clear_get xs zero k l m = absurd (omega (arith, m))
clear_get xs (suc n) k l m = go (λ z. clear_get xs n k (omega (arith, l)) (omega (arith, m, z))) (ℕ_discrete k n)
  where
    go : ((k ≡ n → ⊥) → get_or (upto clear_turn xs n) k 0 ≡ 0) → Dec (k ≡ n) → get_or (set (upto clear_turn xs n) n 0) k 0 ≡ 0
    go r (yes z) = rw z (get_or-set_same (upto clear_turn xs n) n 0 0 (omega (arith, l, clear-length xs n)))
    go r (no z) = get_or-set_other (upto clear_turn xs n) n k 0 0 z ∙ r z

clear-all : (xs : List ℕ) → length xs ≡ 256 → upto clear_turn xs 256 ≡ replicate 256 0
clear-all xs e =
    ext_get_or 0 (upto clear_turn xs 256) (replicate 256 0) (clear-length xs 256 ∙ e ∙ sym (length-replicate {A = ℕ} 256 0))
    (λ k l. clear_get xs 256 k (omega (arith, e)) (omega (arith, l, clear-length xs 256, e)) ∙ sym (zeros_get_d 256 k))

-- the holds of the first n hosts
abbrev pub cleared_to : Prioritised → ℕ → Prioritised
cleared_to p n = prioritised p.cic (with_hosts p.held (upto clear_turn p.held.host n))

pub clear_none : (p : Prioritised) {room : List ℕ} → Laid p room → Laid (cleared_to p 0) room
clear_none p h = holds_as p (ap (with_hosts p.held) (upto-none clear_turn p.held.host)) h

pub clear-more : (p : Prioritised) (n : ℕ) {room : List ℕ} → n < 256 → Laid (cleared_to p n) room → Laid (cleared_to p (n + 1)) (set room (1024 + n) 0)
clear-more p n l h = holds_as p (ap (with_hosts p.held) (upto-more clear_turn p.held.host n refl refl)) (put_host _ h n 0 l)

-- all of them at once
pub cleared_paste : (p : Prioritised) (n : ℕ) {room : List ℕ} → length room ≡ 2048 → n ≤ 256 → Laid p room → Laid (cleared_to p n) (paste room 1024 (replicate 256 0) n)
cleared_paste p zero {room} e l h = subst (Laid (cleared_to p 0)) (paste-zero room 1024 (replicate 256 0)) (clear_none p h)
cleared_paste p (suc n) {room} e l h =
    let s : n + 1 ≡ suc n = omega arith in
    let more = clear-more p n (omega arith) (cleared_paste p n e (omega arith) h) in
    subst (Laid (cleared_to p (suc n)))
    (ap (set (paste room 1024 (replicate 256 0) n) (1024 + n)) (sym (zeros_get_d 256 n))
    ∙ paste-suc room 1024 (replicate 256 0) n 0 (omega arith) (omega (arith, length-replicate {A = ℕ} 256 0)))
    (subst (λ (k : ℕ). Laid (cleared_to p k) (set (paste room 1024 (replicate 256 0) n) (1024 + n) 0)) s more)

-- and then the mode and the global one
pub clear-done : (p : Prioritised) (mode n : ℕ) {room : List ℕ} → length p.held.host ≡ 256 → n ≤ 256 → 256 ≤ n → Laid (cleared_to p n) room
    → Laid (prioritised p.cic (nothing_held p.held.choice mode)) (set (set room 10 mode) 11 0)
clear-done p mode n e a b h =
    let all = holds_as p (ap (with_hosts p.held) (upto_done clear_turn p.held.host n 256 a b refl ∙ clear-all p.held.host e)) h in
    put_global _ (put_mode _ all mode) 0

-- ---- writes of the CIC's

-- there is no such host
pub after_none : (p : Prioritised) (v : ℕ) {room : List ℕ} → length p.held.host ≡ 256 → 256 ≤ v → Laid (prioritised p.cic (with_global p.held 0)) room
    → Laid (prioritised p.cic (after_host p.held v)) room
after_none p v e l h = holds_as p (ap (λ (hs : List ℕ). with_global (with_hosts p.held hs) 0) (sym (set_out p.held.host v 0 (omega (arith, e, l))))) h

-- none of the hosts is written
pub hosts-none : (p : Prioritised) (k v w : ℕ) {room : List ℕ} → w ≡ kept (rest_at p.cic.hosts k) v → w ≡ 0 → Laid p room
    → Laid (prioritised p.cic (hosts_written p.cic p.held k v)) room
unfolding hosts_written
hosts-none p k v w e z h = holds_as p (pick_true _ (eq-eqb _ 0 (sym e ∙ z))) h

pub hosts-some : (p : Prioritised) (k v w : ℕ) {room : List ℕ} → w ≡ kept (rest_at p.cic.hosts k) v → w ≢ 0
    → Laid (prioritised p.cic (with_global (with_hosts p.held (freed_hosts k w p.held.host)) 0)) room
    → Laid (prioritised p.cic (hosts_written p.cic p.held k v)) room
unfolding hosts_written
hosts-some p k v w e z h =
    holds_as p (ap (λ (x : ℕ). with_global (with_hosts p.held (freed_hosts k x p.held.host)) 0) e ∙ pick-false p.held (ne_eqb _ 0 (λ d. z (e ∙ d)))) h

-- by the offset
module _ (p : Prioritised) (o v : ℕ) {room : List ℕ} where
  pub ends_set : o ≡ 0x034 → Laid (prioritised p.cic (after_host p.held v)) room → Laid (prioritised p.cic (held_after p.cic p.held o v)) room
  unfolding held_after
  ends_set e h = holds_as p (pick_true _ (eq-eqb o 0x034 e)) h

  pub ends-clear : o ≢ 0x034 → o ≡ 0x038 → Laid (prioritised p.cic (after_host p.held v)) room → Laid (prioritised p.cic (held_after p.cic p.held o v)) room
  unfolding held_after
  ends-clear d e h = holds_as p (pick_true _ (eq-eqb o 0x038 e) ∙ pick-false _ (ne_eqb o 0x034 d)) h

  pub ends-none : o ≢ 0x034 → o ≢ 0x038 → o < 0x1500 → Laid p room → Laid (prioritised p.cic (held_after p.cic p.held o v)) room
  unfolding held_after
  ends-none d e l h = holds_as p (pick_true _ (lt-ltb o 0x1500 l) ∙ pick-false _ (ne_eqb o 0x038 e) ∙ pick-false _ (ne_eqb o 0x034 d)) h

  pub ends_some : o ≢ 0x034 → o ≢ 0x038 → 0x1500 ≤ o → o < 0x1520 → Laid (prioritised p.cic (hosts_written p.cic p.held ((o - 0x1500) / 4) v)) room
      → Laid (prioritised p.cic (held_after p.cic p.held o v)) room
  unfolding held_after
  ends_some d e l m h =
      holds_as p (pick_true _ (lt-ltb o 0x1520 m) ∙ pick-false _ (le-ltb o 0x1500 l) ∙ pick-false _ (ne_eqb o 0x038 e) ∙ pick-false _ (ne_eqb o 0x034 d)) h

  pub ends-past : o ≢ 0x034 → o ≢ 0x038 → 0x1500 ≤ o → 0x1520 ≤ o → Laid p room → Laid (prioritised p.cic (held_after p.cic p.held o v)) room
  unfolding held_after
  ends-past d e l m h =
      holds_as p (pick-false _ (le-ltb o 0x1520 m) ∙ pick-false _ (le-ltb o 0x1500 l) ∙ pick-false _ (ne_eqb o 0x038 e) ∙ pick-false _ (ne_eqb o 0x034 d)) h

-- ---- control

module _ (p : Prioritised) (v : ℕ) {t : Bool} {room : List ℕ} (is : t ≡ bit v 4) where
  pub control_stays : (x : ℕ) → t ≡ true → x ≡ p.held.hold → x ≡ 1 → Laid p room → Laid (prioritised p.cic (controlled p.held v)) room
  unfolding controlled
  control_stays x e f g h = holds_as p (pick_true _ (eq-eqb p.held.hold 1 (sym f ∙ g)) ∙ pick_true _ (sym is ∙ e)) h

  pub control_on : (x : ℕ) → t ≡ true → x ≡ p.held.hold → x ≢ 1 → Laid (prioritised p.cic (nothing_held p.held.choice 1)) room
      → Laid (prioritised p.cic (controlled p.held v)) room
  unfolding controlled
  control_on x e f g h = holds_as p (pick-false p.held (ne_eqb p.held.hold 1 (λ z. g (f ∙ z))) ∙ pick_true _ (sym is ∙ e)) h

  pub control-off : t ≡ false → Laid (prioritised p.cic (nothing_held p.held.choice 0)) room → Laid (prioritised p.cic (controlled p.held v)) room
  unfolding controlled
  control-off e h = holds_as p (pick-false _ (sym is ∙ e)) h
