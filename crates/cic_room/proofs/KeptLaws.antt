-- What is kept, where anything is and where nothing is; and one number or one system interrupt of it put anew.
use mathlib.Core.Path.{◌≡◌, refl, sym, ap, subst, ◌∙◌}
use mathlib.Core.Bool.{Bool, true, false, not}
use mathlib.Core.List.{List}
use mathlib.Core.Logic.{◌⊎◌, inl, inr}
use Prim.Native.Nat.{ℕ, ◌+◌, ◌/◌, ◌%◌, ◌<◌}
use native.Mathlib.Omega.{arith}
use lib.Dec.{eqb}
use lib.ListN.{length, get_or, set}
use lib.Seq.{get_or-set_other}
use Rattle.words.specs.Array.{with_bit_at}
use Rattle.words.specs.Counting.{one}
use Rattle.words.specs.Word.{with_bit}
use Rattle.words.proofs.ChoiceLaws.{pick_true, pick-false}
use Rattle.words.proofs.TruthLaws.{told}
use Rattle.cic_record.specs.declared.Cic.{Cic}
use Rattle.cic_room.specs.Room.{Frame, permitted, some_word, shown_word}
use Rattle.cic_room.specs.Tables.{Held, Tables, Beside, channel_at, host_at, load_by, Counted, Dim}
use Rattle.cic_room.proofs.TableLaws.{held-raised, held-busy, held-active, held-of_channel, held-of_host, put-raised, put-busy, put-active, put-of_channel, put-of_host, put_same, put_other}
use Rattle.cic_room.proofs.ShownLaws.{tables_as, some-put, some-others}

-- ---- where anything is kept

module _ {f : Frame} {c : Cic} {ws room : List ℕ} where
  pub counted_on : f.kept ≡ true → Counted f c ws room → Beside (permitted c) (λ k. get_or ws k 0) (load_by (channel_at c) ws) (load_by (host_at c) ws) room
  counted_on e u =
      tables_as (λ k _. sym (pick_true 0 e)) (λ k _. sym (pick_true 0 e)) (λ k _. sym (pick_true 0 e)) (λ k _. sym (pick_true 0 e)) (λ k _. sym (pick_true 0 e)) (λ k _. sym (pick_true 0 e)) u.kept

  pub on-counted : f.kept ≡ true → Held f c room → length ws ≡ 32 → Beside (permitted c) (λ k. get_or ws k 0) (load_by (channel_at c) ws) (load_by (host_at c) ws) room → Counted f c ws room
  on-counted e h l t =
      record {
        held = h;
        long = l;
        kept =
            tables_as (λ k _. pick_true 0 e) (λ k _. pick_true 0 e) (λ k _. pick_true 0 e) (λ k _. pick_true 0 e) (λ k _. pick_true 0 e)
            (λ k _. pick_true 0 e) t;
      }

-- where nothing is kept, what is kept is that of every record and of all words: nothing
abbrev pub Bare : Frame → List ℕ → Type 0
Bare f room = (f.kept ≡ false) × Tables (λ _. 0) (λ _. 0) (λ _. 0) (λ _. 0) (λ _. 0) (λ _. 0) room

pub bare_of : {f : Frame} {c : Cic} {ws room : List ℕ} → f.kept ≡ false → Counted f c ws room → Bare f room
bare_of e u =
    (e, tables_as (λ k _. sym (pick-false _ e)) (λ k _. sym (pick-false _ e)) (λ k _. sym (pick-false _ e)) (λ k _. sym (pick-false _ e)) (λ k _. sym (pick-false _ e)) (λ k _. sym (pick-false _ e)) u.kept)

pub of_bare : {f : Frame} {c : Cic} {room : List ℕ} (ws : List ℕ) → Held f c room → length ws ≡ 32 → Bare f room → Counted f c ws room
of_bare ws h l b =
    let e = b.0 in
    record {
      held = h;
      long = l;
      kept =
          tables_as (λ k _. pick-false _ e) (λ k _. pick-false _ e) (λ k _. pick-false _ e) (λ k _. pick-false _ e) (λ k _. pick-false _ e)
          (λ k _. pick-false _ e) b.1;
    }

pub dim-bare : {f : Frame} {c : Cic} {ws room : List ℕ} → f.kept ≡ false → Dim f c ws room → Counted f c ws room
dim-bare e u =
    record {
      held = u.held;
      long = u.long;
      kept =
          tables_as (λ k _. sym (pick-false _ e) ∙ pick-false _ e) (λ k _. refl) (λ k _. refl) (λ k _. refl) (λ k _. refl) (λ k _. refl) u.kept;
    }

-- what is shown is still to be worked out anew
pub dim_on : {f : Frame} {c : Cic} {ws room : List ℕ} → f.kept ≡ true → (u : Dim f c ws room)
    → Tables u.numbers (some_word (load_by (host_at c) ws)) (some_word (load_by (channel_at c) ws)) (λ k. get_or ws k 0) (load_by (channel_at c) ws) (load_by (host_at c) ws) room
dim_on e u =
    tables_as (λ k _. sym (pick_true 0 e)) (λ k _. sym (pick_true 0 e)) (λ k _. sym (pick_true 0 e)) (λ k _. sym (pick_true 0 e)) (λ k _. sym (pick_true 0 e)) (λ k _. sym (pick_true 0 e)) u.kept

-- a word of the room says which
pub kept-told : {f : Frame} {c : Cic} {room : List ℕ} → Held f c room → (get_or room 6 0 ≡ 0 → ⊥) → f.kept ≡ true
kept-told {f} h n = go (told f.kept)
  where
    go : (f.kept ≡ true) ⊎ (f.kept ≡ false) → f.kept ≡ true
    go (inl e) = e
    go (inr e) = absurd (n (h.first.holds 6 (omega arith) ∙ ap one e))

pub bare-told : {f : Frame} {c : Cic} {room : List ℕ} → Held f c room → get_or room 6 0 ≡ 0 → f.kept ≡ false
bare-told {f} h n = go (told f.kept)
  where
    go : (f.kept ≡ true) ⊎ (f.kept ≡ false) → f.kept ≡ false
    go (inl e) = let x : ◌≡◌ {A = ℕ} 0 1 = sym n ∙ h.first.holds 6 (omega arith) ∙ ap one e in absurd (omega (arith, x))
    go (inr e) = e

-- ---- the number of a host and its bit

pub renumbered : (p : ℕ → Bool) {f : Frame} {c : Cic} {a u g : ℕ → ℕ} (y : ℕ → ℕ) (room room' : List ℕ) (h x : ℕ) (t : Bool) → h < 256 → x ≡ y h → ((j : ℕ) → (j ≡ h → ⊥) → g j ≡ y j)
    → t ≡ not (eqb x 0) → room' ≡ set (set room (768 + h) x) (24 + h / 32) (with_bit (get_or (set room (768 + h) x) (24 + h / 32) 0) (h % 32) t) → Held f c room → Beside p a u g room
    → Held f c room' × Tables (shown_word p g) (some_word y) (some_word u) a u y room'
renumbered p {f} {c} {a} {u} {g} y room room' h x t l e o d r k b =
    subst (λ (s : List ℕ). Held f c s × Tables (shown_word p g) (some_word y) (some_word u) a u y s) (sym r) (
      held-raised (h / 32) _ w (held-of_host h x l k),
      put-raised (h / 32) _ (some_word y) w
          (ap (λ (z : ℕ). with_bit z (h % 32) t) (get_or-set_other room (768 + h) (24 + h / 32) x 0 (λ q. absurd (omega (arith, q, l))) ∙ b.raised.holds (h / 32) w)
          ∙ some-put g y h t (d ∙ ap (λ (z : ℕ). not (eqb z 0)) e) o)
          (λ j _ n. some-others g y h o j n)
          (put-of_host h x y l e (λ j _ n. o j n) b),
    )
  where
    w : h / 32 < 8
    w = omega (arith, l)

-- ---- one system interrupt: the number of its channel, the bit of that, and its own

pub turned : (p : ℕ → Bool) {f : Frame} {c : Cic} {g : ℕ → ℕ} (ws : List ℕ) (u u' : ℕ → ℕ) (room r2 r3 : List ℕ) (s k x : ℕ) (t on : Bool) → s < 1024 → k < 256 → length ws ≡ 32 → x ≡ u' k
    → ((j : ℕ) → (j ≡ k → ⊥) → u j ≡ u' j) → t ≡ not (eqb x 0)
    → r2 ≡ set (set room (512 + k) x) (32 + k / 32) (with_bit (get_or (set room (512 + k) x) (32 + k / 32) 0) (k % 32) t)
    → r3 ≡ set r2 (160 + s / 32) (with_bit (get_or r2 (160 + s / 32) 0) (s % 32) on) → Held f c room → Beside p (λ i. get_or ws i 0) u g room
    → Held f c r3 × Beside p (λ i. get_or (with_bit_at ws s on) i 0) u' g r3
unfolding with_bit_at
turned p {f} {c} {g} ws u u' room r2 r3 s k x t on l m long e o d e2 e3 h b =
    subst (λ (r : List ℕ). Held f c r × Beside p (λ i. get_or (with_bit_at ws s on) i 0) u' g r) (sym e3) (
      held-active (s / 32) _ (omega (arith, l)) two.0,
      put-active (s / 32) _ _ (omega (arith, l))
          (ap (λ (w : ℕ). with_bit w (s % 32) on) (two.1.active.holds (s / 32) (omega (arith, l))) ∙ put_same ws (s / 32) _ 32 long (omega (arith, l)))
          (λ j _ n. put_other ws (s / 32) _ j n)
          two.1,
    )
  where
    q : k / 32 < 8
    q = omega (arith, m)

    two : Held f c r2 × Beside p (λ i. get_or ws i 0) u' g r2
    two =
        subst (λ (r : List ℕ). Held f c r × Beside p (λ i. get_or ws i 0) u' g r) (sym e2) (
          held-busy (k / 32) _ q (held-of_channel k x m h),
          put-busy (k / 32) _ (some_word u') q
              (ap (λ (z : ℕ). with_bit z (k % 32) t) (get_or-set_other room (512 + k) (32 + k / 32) x 0 (λ i. absurd (omega (arith, i, m))) ∙ b.busy.holds (k / 32) q)
              ∙ some-put u u' k t (d ∙ ap (λ (z : ℕ). not (eqb z 0)) e) o)
              (λ j _ n. some-others u u' k o j n)
              (put-of_channel k x u' m e (λ j _ n. o j n) b),
        )

-- a test that is turned round
pub not-true : (t : Bool) → not t ≡ true → t ≡ false
not-true true e = sym e
not-true false e = refl

pub not-false : (t : Bool) → not t ≡ false → t ≡ true
not-false true e = refl
not-false false e = sym e
