-- What a store to one table of the room leaves in all others, and what that table holds then.
use mathlib.Core.Path.{◌≡◌, refl, sym, ap, ◌∙◌}
use mathlib.Core.List.{List}
use Prim.Native.Nat.{ℕ, zero, suc, ◌+◌, ◌<◌, ◌≤◌}
use native.Mathlib.Decide.{ℕ_discrete}
use native.Mathlib.Omega.{arith}
use lib.ListN.{length, get_or, set, length-set}
use lib.Seq.{get_or-set_same, get_or-set_other}
use Rattle.cic_record.specs.declared.Cic.{Cic}
use Rattle.cic_record.specs.Record.{with_global, with_lines, with_status, with_enable, with_channel, with_host, with_allow}
use Rattle.cic_registers.specs.Maps.{map_read}
use Rattle.cic_room.specs.Room.{Frame, cells}
use Rattle.cic_room.specs.Tables.{Table, Held, Tables}

-- ---- one table

module _ {room : List ℕ} {at n : ℕ} {f : ℕ → ℕ} where
  -- a store before it
  pub before : (p v : ℕ) → p < at → Table room at n f → Table (set room p v) at n f
  before p v l h = record { holds = λ k m. get_or-set_other room p (at + k) v 0 (λ e. absurd (omega (arith, e, l))) ∙ h.holds k m }

  -- and after it
  pub after : (p v : ℕ) → at + n ≤ p → Table room at n f → Table (set room p v) at n f
  after p v l h = record { holds = λ k m. get_or-set_other room p (at + k) v 0 (λ e. absurd (omega (arith, e, l, m))) ∙ h.holds k m }

  -- a store to it
  pub here : (k v : ℕ) (g : ℕ → ℕ) → at + n ≤ length room → k < n → v ≡ g k → ((j : ℕ) → j < n → (j ≡ k → ⊥) → f j ≡ g j) → Table room at n f
      → Table (set room (at + k) v) at n g
  here k v g l m e o h = record { holds = λ j i. go j i (ℕ_discrete j k) }
    where
      go : (j : ℕ) → j < n → Dec (j ≡ k) → get_or (set room (at + k) v) (at + j) 0 ≡ g j
      go j i (yes p) = ap (λ (x : ℕ). get_or (set room (at + k) v) (at + x) 0) p ∙ get_or-set_same room (at + k) v 0 (omega (arith, l, m)) ∙ e ∙ ap g (sym p)
      go j i (no p) = get_or-set_other room (at + k) (at + j) v 0 (λ q. p (omega (arith, q))) ∙ h.holds j i ∙ o j i p

  -- the same words by another function
  pub table_as : {g : ℕ → ℕ} → ((k : ℕ) → k < n → f k ≡ g k) → Table room at n f → Table room at n g
  table_as e t = record { holds = λ k l. t.holds k l ∙ e k l }

-- a list with one number put anew
pub put_same : (ws : List ℕ) (k v n : ℕ) → length ws ≡ n → k < n → v ≡ get_or (set ws k v) k 0
put_same ws k v n e l = sym (get_or-set_same ws k v 0 (omega (arith, e, l)))

pub put_other : (ws : List ℕ) (k v j : ℕ) → (j ≡ k → ⊥) → get_or ws j 0 ≡ get_or (set ws k v) j 0
put_other ws k v j o = sym (get_or-set_other ws k j v 0 o)

-- ---- the record stays where what is kept changes

pub held-shown : {f : Frame} {c : Cic} {room : List ℕ} (k v : ℕ) → k < 2 → Held f c room → Held f c (set room (7 + k) v)
held-shown k v l h =
    record {
      framed = h.framed;
      shaped = h.shaped;
      bytes = h.bytes;
      long = simp length-set h.long;
      first = after (7 + k) v (omega (arith, l)) h.first;
      index = before (7 + k) v (omega (arith, l)) h.index;
      allow = before (7 + k) v (omega (arith, l)) h.allow;
      gap = before (7 + k) v (omega (arith, l)) h.gap;
      lines = before (7 + k) v (omega (arith, l)) h.lines;
      status = before (7 + k) v (omega (arith, l)) h.status;
      enable = before (7 + k) v (omega (arith, l)) h.enable;
      host = before (7 + k) v (omega (arith, l)) h.host;
      channel = before (7 + k) v (omega (arith, l)) h.channel;
      held = before (7 + k) v (omega (arith, l)) h.held;
      words = before (7 + k) v (omega (arith, l)) h.words;
    }

pub held-raised : {f : Frame} {c : Cic} {room : List ℕ} (k v : ℕ) → k < 8 → Held f c room → Held f c (set room (24 + k) v)
held-raised k v l h =
    record {
      framed = h.framed;
      shaped = h.shaped;
      bytes = h.bytes;
      long = simp length-set h.long;
      first = after (24 + k) v (omega (arith, l)) h.first;
      index = after (24 + k) v (omega (arith, l)) h.index;
      allow = after (24 + k) v (omega (arith, l)) h.allow;
      gap = before (24 + k) v (omega (arith, l)) h.gap;
      lines = before (24 + k) v (omega (arith, l)) h.lines;
      status = before (24 + k) v (omega (arith, l)) h.status;
      enable = before (24 + k) v (omega (arith, l)) h.enable;
      host = before (24 + k) v (omega (arith, l)) h.host;
      channel = before (24 + k) v (omega (arith, l)) h.channel;
      held = before (24 + k) v (omega (arith, l)) h.held;
      words = before (24 + k) v (omega (arith, l)) h.words;
    }

pub held-busy : {f : Frame} {c : Cic} {room : List ℕ} (k v : ℕ) → k < 8 → Held f c room → Held f c (set room (32 + k) v)
held-busy k v l h =
    record {
      framed = h.framed;
      shaped = h.shaped;
      bytes = h.bytes;
      long = simp length-set h.long;
      first = after (32 + k) v (omega (arith, l)) h.first;
      index = after (32 + k) v (omega (arith, l)) h.index;
      allow = after (32 + k) v (omega (arith, l)) h.allow;
      gap = before (32 + k) v (omega (arith, l)) h.gap;
      lines = before (32 + k) v (omega (arith, l)) h.lines;
      status = before (32 + k) v (omega (arith, l)) h.status;
      enable = before (32 + k) v (omega (arith, l)) h.enable;
      host = before (32 + k) v (omega (arith, l)) h.host;
      channel = before (32 + k) v (omega (arith, l)) h.channel;
      held = before (32 + k) v (omega (arith, l)) h.held;
      words = before (32 + k) v (omega (arith, l)) h.words;
    }

pub held-active : {f : Frame} {c : Cic} {room : List ℕ} (k v : ℕ) → k < 32 → Held f c room → Held f c (set room (160 + k) v)
held-active k v l h =
    record {
      framed = h.framed;
      shaped = h.shaped;
      bytes = h.bytes;
      long = simp length-set h.long;
      first = after (160 + k) v (omega (arith, l)) h.first;
      index = after (160 + k) v (omega (arith, l)) h.index;
      allow = after (160 + k) v (omega (arith, l)) h.allow;
      gap = after (160 + k) v (omega (arith, l)) h.gap;
      lines = after (160 + k) v (omega (arith, l)) h.lines;
      status = after (160 + k) v (omega (arith, l)) h.status;
      enable = after (160 + k) v (omega (arith, l)) h.enable;
      host = before (160 + k) v (omega (arith, l)) h.host;
      channel = before (160 + k) v (omega (arith, l)) h.channel;
      held = before (160 + k) v (omega (arith, l)) h.held;
      words = before (160 + k) v (omega (arith, l)) h.words;
    }

pub held-of_channel : {f : Frame} {c : Cic} {room : List ℕ} (k v : ℕ) → k < 256 → Held f c room → Held f c (set room (512 + k) v)
held-of_channel k v l h =
    record {
      framed = h.framed;
      shaped = h.shaped;
      bytes = h.bytes;
      long = simp length-set h.long;
      first = after (512 + k) v (omega (arith, l)) h.first;
      index = after (512 + k) v (omega (arith, l)) h.index;
      allow = after (512 + k) v (omega (arith, l)) h.allow;
      gap = after (512 + k) v (omega (arith, l)) h.gap;
      lines = after (512 + k) v (omega (arith, l)) h.lines;
      status = after (512 + k) v (omega (arith, l)) h.status;
      enable = after (512 + k) v (omega (arith, l)) h.enable;
      host = after (512 + k) v (omega (arith, l)) h.host;
      channel = after (512 + k) v (omega (arith, l)) h.channel;
      held = before (512 + k) v (omega (arith, l)) h.held;
      words = before (512 + k) v (omega (arith, l)) h.words;
    }

pub held-of_host : {f : Frame} {c : Cic} {room : List ℕ} (k v : ℕ) → k < 256 → Held f c room → Held f c (set room (768 + k) v)
held-of_host k v l h =
    record {
      framed = h.framed;
      shaped = h.shaped;
      bytes = h.bytes;
      long = simp length-set h.long;
      first = after (768 + k) v (omega (arith, l)) h.first;
      index = after (768 + k) v (omega (arith, l)) h.index;
      allow = after (768 + k) v (omega (arith, l)) h.allow;
      gap = after (768 + k) v (omega (arith, l)) h.gap;
      lines = after (768 + k) v (omega (arith, l)) h.lines;
      status = after (768 + k) v (omega (arith, l)) h.status;
      enable = after (768 + k) v (omega (arith, l)) h.enable;
      host = after (768 + k) v (omega (arith, l)) h.host;
      channel = after (768 + k) v (omega (arith, l)) h.channel;
      held = before (768 + k) v (omega (arith, l)) h.held;
      words = before (768 + k) v (omega (arith, l)) h.words;
    }

-- ---- and the other way round

pub kept_global : {n r b a u g : ℕ → ℕ} {room : List ℕ} (v : ℕ) → Tables n r b a u g room → Tables n r b a u g (set room 5 v)
kept_global v t =
    record {
      long = simp length-set t.long;
      shown = before 5 v (omega arith) t.shown;
      raised = before 5 v (omega arith) t.raised;
      busy = before 5 v (omega arith) t.busy;
      active = before 5 v (omega arith) t.active;
      of_channel = before 5 v (omega arith) t.of_channel;
      of_host = before 5 v (omega arith) t.of_host;
    }

pub kept_allow : {n r b a u g : ℕ → ℕ} {room : List ℕ} (k v : ℕ) → k < 8 → Tables n r b a u g room → Tables n r b a u g (set room (16 + k) v)
kept_allow k v l t =
    record {
      long = simp length-set t.long;
      shown = after (16 + k) v (omega (arith, l)) t.shown;
      raised = before (16 + k) v (omega (arith, l)) t.raised;
      busy = before (16 + k) v (omega (arith, l)) t.busy;
      active = before (16 + k) v (omega (arith, l)) t.active;
      of_channel = before (16 + k) v (omega (arith, l)) t.of_channel;
      of_host = before (16 + k) v (omega (arith, l)) t.of_host;
    }

pub kept_lines : {n r b a u g : ℕ → ℕ} {room : List ℕ} (k v : ℕ) → k < 32 → Tables n r b a u g room → Tables n r b a u g (set room (64 + k) v)
kept_lines k v l t =
    record {
      long = simp length-set t.long;
      shown = after (64 + k) v (omega (arith, l)) t.shown;
      raised = after (64 + k) v (omega (arith, l)) t.raised;
      busy = after (64 + k) v (omega (arith, l)) t.busy;
      active = before (64 + k) v (omega (arith, l)) t.active;
      of_channel = before (64 + k) v (omega (arith, l)) t.of_channel;
      of_host = before (64 + k) v (omega (arith, l)) t.of_host;
    }

pub kept-status : {n r b a u g : ℕ → ℕ} {room : List ℕ} (k v : ℕ) → k < 32 → Tables n r b a u g room → Tables n r b a u g (set room (96 + k) v)
kept-status k v l t =
    record {
      long = simp length-set t.long;
      shown = after (96 + k) v (omega (arith, l)) t.shown;
      raised = after (96 + k) v (omega (arith, l)) t.raised;
      busy = after (96 + k) v (omega (arith, l)) t.busy;
      active = before (96 + k) v (omega (arith, l)) t.active;
      of_channel = before (96 + k) v (omega (arith, l)) t.of_channel;
      of_host = before (96 + k) v (omega (arith, l)) t.of_host;
    }

pub kept_enable : {n r b a u g : ℕ → ℕ} {room : List ℕ} (k v : ℕ) → k < 32 → Tables n r b a u g room → Tables n r b a u g (set room (128 + k) v)
kept_enable k v l t =
    record {
      long = simp length-set t.long;
      shown = after (128 + k) v (omega (arith, l)) t.shown;
      raised = after (128 + k) v (omega (arith, l)) t.raised;
      busy = after (128 + k) v (omega (arith, l)) t.busy;
      active = before (128 + k) v (omega (arith, l)) t.active;
      of_channel = before (128 + k) v (omega (arith, l)) t.of_channel;
      of_host = before (128 + k) v (omega (arith, l)) t.of_host;
    }

pub kept_host : {n r b a u g : ℕ → ℕ} {room : List ℕ} (k v : ℕ) → k < 64 → Tables n r b a u g room → Tables n r b a u g (set room (192 + k) v)
kept_host k v l t =
    record {
      long = simp length-set t.long;
      shown = after (192 + k) v (omega (arith, l)) t.shown;
      raised = after (192 + k) v (omega (arith, l)) t.raised;
      busy = after (192 + k) v (omega (arith, l)) t.busy;
      active = after (192 + k) v (omega (arith, l)) t.active;
      of_channel = before (192 + k) v (omega (arith, l)) t.of_channel;
      of_host = before (192 + k) v (omega (arith, l)) t.of_host;
    }

pub kept_channel : {n r b a u g : ℕ → ℕ} {room : List ℕ} (k v : ℕ) → k < 256 → Tables n r b a u g room → Tables n r b a u g (set room (256 + k) v)
kept_channel k v l t =
    record {
      long = simp length-set t.long;
      shown = after (256 + k) v (omega (arith, l)) t.shown;
      raised = after (256 + k) v (omega (arith, l)) t.raised;
      busy = after (256 + k) v (omega (arith, l)) t.busy;
      active = after (256 + k) v (omega (arith, l)) t.active;
      of_channel = before (256 + k) v (omega (arith, l)) t.of_channel;
      of_host = before (256 + k) v (omega (arith, l)) t.of_host;
    }

-- ---- a store to what is kept

pub put-shown : {n r b a u g : ℕ → ℕ} {room : List ℕ} (k v : ℕ) (n' : ℕ → ℕ) → k < 2 → v ≡ n' k → ((j : ℕ) → j < 2 → (j ≡ k → ⊥) → n j ≡ n' j) → Tables n r b a u g room
    → Tables n' r b a u g (set room (7 + k) v)
put-shown k v _ l same others t =
    record {
      long = simp length-set t.long;
      shown = here k v _ (omega (arith, t.long)) l same others t.shown;
      raised = before (7 + k) v (omega (arith, l)) t.raised;
      busy = before (7 + k) v (omega (arith, l)) t.busy;
      active = before (7 + k) v (omega (arith, l)) t.active;
      of_channel = before (7 + k) v (omega (arith, l)) t.of_channel;
      of_host = before (7 + k) v (omega (arith, l)) t.of_host;
    }

pub put-raised : {n r b a u g : ℕ → ℕ} {room : List ℕ} (k v : ℕ) (r' : ℕ → ℕ) → k < 8 → v ≡ r' k → ((j : ℕ) → j < 8 → (j ≡ k → ⊥) → r j ≡ r' j) → Tables n r b a u g room
    → Tables n r' b a u g (set room (24 + k) v)
put-raised k v _ l same others t =
    record {
      long = simp length-set t.long;
      shown = after (24 + k) v (omega (arith, l)) t.shown;
      raised = here k v _ (omega (arith, t.long)) l same others t.raised;
      busy = before (24 + k) v (omega (arith, l)) t.busy;
      active = before (24 + k) v (omega (arith, l)) t.active;
      of_channel = before (24 + k) v (omega (arith, l)) t.of_channel;
      of_host = before (24 + k) v (omega (arith, l)) t.of_host;
    }

pub put-busy : {n r b a u g : ℕ → ℕ} {room : List ℕ} (k v : ℕ) (b' : ℕ → ℕ) → k < 8 → v ≡ b' k → ((j : ℕ) → j < 8 → (j ≡ k → ⊥) → b j ≡ b' j) → Tables n r b a u g room
    → Tables n r b' a u g (set room (32 + k) v)
put-busy k v _ l same others t =
    record {
      long = simp length-set t.long;
      shown = after (32 + k) v (omega (arith, l)) t.shown;
      raised = after (32 + k) v (omega (arith, l)) t.raised;
      busy = here k v _ (omega (arith, t.long)) l same others t.busy;
      active = before (32 + k) v (omega (arith, l)) t.active;
      of_channel = before (32 + k) v (omega (arith, l)) t.of_channel;
      of_host = before (32 + k) v (omega (arith, l)) t.of_host;
    }

pub put-active : {n r b a u g : ℕ → ℕ} {room : List ℕ} (k v : ℕ) (a' : ℕ → ℕ) → k < 32 → v ≡ a' k → ((j : ℕ) → j < 32 → (j ≡ k → ⊥) → a j ≡ a' j) → Tables n r b a u g room
    → Tables n r b a' u g (set room (160 + k) v)
put-active k v _ l same others t =
    record {
      long = simp length-set t.long;
      shown = after (160 + k) v (omega (arith, l)) t.shown;
      raised = after (160 + k) v (omega (arith, l)) t.raised;
      busy = after (160 + k) v (omega (arith, l)) t.busy;
      active = here k v _ (omega (arith, t.long)) l same others t.active;
      of_channel = before (160 + k) v (omega (arith, l)) t.of_channel;
      of_host = before (160 + k) v (omega (arith, l)) t.of_host;
    }

pub put-of_channel : {n r b a u g : ℕ → ℕ} {room : List ℕ} (k v : ℕ) (u' : ℕ → ℕ) → k < 256 → v ≡ u' k → ((j : ℕ) → j < 256 → (j ≡ k → ⊥) → u j ≡ u' j) → Tables n r b a u g room
    → Tables n r b a u' g (set room (512 + k) v)
put-of_channel k v _ l same others t =
    record {
      long = simp length-set t.long;
      shown = after (512 + k) v (omega (arith, l)) t.shown;
      raised = after (512 + k) v (omega (arith, l)) t.raised;
      busy = after (512 + k) v (omega (arith, l)) t.busy;
      active = after (512 + k) v (omega (arith, l)) t.active;
      of_channel = here k v _ (omega (arith, t.long)) l same others t.of_channel;
      of_host = before (512 + k) v (omega (arith, l)) t.of_host;
    }

pub put-of_host : {n r b a u g : ℕ → ℕ} {room : List ℕ} (k v : ℕ) (g' : ℕ → ℕ) → k < 256 → v ≡ g' k → ((j : ℕ) → j < 256 → (j ≡ k → ⊥) → g j ≡ g' j) → Tables n r b a u g room
    → Tables n r b a u g' (set room (768 + k) v)
put-of_host k v _ l same others t =
    record {
      long = simp length-set t.long;
      shown = after (768 + k) v (omega (arith, l)) t.shown;
      raised = after (768 + k) v (omega (arith, l)) t.raised;
      busy = after (768 + k) v (omega (arith, l)) t.busy;
      active = after (768 + k) v (omega (arith, l)) t.active;
      of_channel = after (768 + k) v (omega (arith, l)) t.of_channel;
      of_host = here k v _ (omega (arith, t.long)) l same others t.of_host;
    }

-- ---- a store to the record

cell_other : (f : Frame) (c : Cic) (v j : ℕ) → j < 7 → (j ≡ 5 → ⊥) → get_or (cells f c) j 0 ≡ get_or (cells f (with_global c v)) j 0
cell_other f c v zero l o = refl
cell_other f c v (suc zero) l o = refl
cell_other f c v (suc (suc zero)) l o = refl
cell_other f c v (suc (suc (suc zero))) l o = refl
cell_other f c v (suc (suc (suc (suc zero)))) l o = refl
cell_other f c v (suc (suc (suc (suc (suc zero))))) l o = absurd (o refl)
cell_other f c v (suc (suc (suc (suc (suc (suc zero)))))) l o = refl
cell_other f c v (suc (suc (suc (suc (suc (suc (suc j))))))) l o = absurd (omega arith)

pub put_global : {f : Frame} {c : Cic} {room : List ℕ} (v : ℕ) → Held f c room → Held f (with_global c v) (set room 5 v)
put_global {f} {c} v h =
    record {
      framed = h.framed;
      shaped = h.shaped;
      bytes = h.bytes;
      long = simp length-set h.long;
      first = here 5 v _ (omega (arith, h.long)) (omega arith) refl (λ j i o. cell_other f c v j i o) h.first;
      index = before 5 v (omega arith) h.index;
      allow = before 5 v (omega arith) h.allow;
      gap = before 5 v (omega arith) h.gap;
      lines = before 5 v (omega arith) h.lines;
      status = before 5 v (omega arith) h.status;
      enable = before 5 v (omega arith) h.enable;
      host = before 5 v (omega arith) h.host;
      channel = before 5 v (omega arith) h.channel;
      held = before 5 v (omega arith) h.held;
      words = before 5 v (omega arith) h.words;
    }

pub put_allow : {f : Frame} {c : Cic} {room : List ℕ} (k v : ℕ) → k < 8 → Held f c room → Held f (with_allow c (set c.allow k v)) (set room (16 + k) v)
put_allow {c = c} k v l h =
    record {
      framed = h.framed;
      shaped = (h.shaped.0, h.shaped.1, h.shaped.2, h.shaped.3, h.shaped.4, simp length-set h.shaped.5);
      bytes = h.bytes;
      long = simp length-set h.long;
      first = after (16 + k) v (omega (arith, l)) h.first;
      index = after (16 + k) v (omega (arith, l)) h.index;
      allow = here k v _ (omega (arith, h.long)) l (put_same c.allow k v 8 h.shaped.5 l) (λ j i o. put_other c.allow k v j o) h.allow;
      gap = before (16 + k) v (omega (arith, l)) h.gap;
      lines = before (16 + k) v (omega (arith, l)) h.lines;
      status = before (16 + k) v (omega (arith, l)) h.status;
      enable = before (16 + k) v (omega (arith, l)) h.enable;
      host = before (16 + k) v (omega (arith, l)) h.host;
      channel = before (16 + k) v (omega (arith, l)) h.channel;
      held = before (16 + k) v (omega (arith, l)) h.held;
      words = before (16 + k) v (omega (arith, l)) h.words;
    }

pub put_lines : {f : Frame} {c : Cic} {room : List ℕ} (k v : ℕ) → k < 32 → Held f c room → Held f (with_lines c (set c.lines k v)) (set room (64 + k) v)
put_lines {c = c} k v l h =
    record {
      framed = h.framed;
      shaped = (simp length-set h.shaped.0, h.shaped.1, h.shaped.2, h.shaped.3, h.shaped.4, h.shaped.5);
      bytes = h.bytes;
      long = simp length-set h.long;
      first = after (64 + k) v (omega (arith, l)) h.first;
      index = after (64 + k) v (omega (arith, l)) h.index;
      allow = after (64 + k) v (omega (arith, l)) h.allow;
      gap = after (64 + k) v (omega (arith, l)) h.gap;
      lines = here k v _ (omega (arith, h.long)) l (put_same c.lines k v 32 h.shaped.0 l) (λ j i o. put_other c.lines k v j o) h.lines;
      status = before (64 + k) v (omega (arith, l)) h.status;
      enable = before (64 + k) v (omega (arith, l)) h.enable;
      host = before (64 + k) v (omega (arith, l)) h.host;
      channel = before (64 + k) v (omega (arith, l)) h.channel;
      held = before (64 + k) v (omega (arith, l)) h.held;
      words = before (64 + k) v (omega (arith, l)) h.words;
    }

pub put-status : {f : Frame} {c : Cic} {room : List ℕ} (k v : ℕ) → k < 32 → Held f c room → Held f (with_status c (set c.status k v)) (set room (96 + k) v)
put-status {c = c} k v l h =
    record {
      framed = h.framed;
      shaped = (h.shaped.0, simp length-set h.shaped.1, h.shaped.2, h.shaped.3, h.shaped.4, h.shaped.5);
      bytes = h.bytes;
      long = simp length-set h.long;
      first = after (96 + k) v (omega (arith, l)) h.first;
      index = after (96 + k) v (omega (arith, l)) h.index;
      allow = after (96 + k) v (omega (arith, l)) h.allow;
      gap = after (96 + k) v (omega (arith, l)) h.gap;
      lines = after (96 + k) v (omega (arith, l)) h.lines;
      status = here k v _ (omega (arith, h.long)) l (put_same c.status k v 32 h.shaped.1 l) (λ j i o. put_other c.status k v j o) h.status;
      enable = before (96 + k) v (omega (arith, l)) h.enable;
      host = before (96 + k) v (omega (arith, l)) h.host;
      channel = before (96 + k) v (omega (arith, l)) h.channel;
      held = before (96 + k) v (omega (arith, l)) h.held;
      words = before (96 + k) v (omega (arith, l)) h.words;
    }

pub put_enable : {f : Frame} {c : Cic} {room : List ℕ} (k v : ℕ) → k < 32 → Held f c room → Held f (with_enable c (set c.enable k v)) (set room (128 + k) v)
put_enable {c = c} k v l h =
    record {
      framed = h.framed;
      shaped = (h.shaped.0, h.shaped.1, simp length-set h.shaped.2, h.shaped.3, h.shaped.4, h.shaped.5);
      bytes = h.bytes;
      long = simp length-set h.long;
      first = after (128 + k) v (omega (arith, l)) h.first;
      index = after (128 + k) v (omega (arith, l)) h.index;
      allow = after (128 + k) v (omega (arith, l)) h.allow;
      gap = after (128 + k) v (omega (arith, l)) h.gap;
      lines = after (128 + k) v (omega (arith, l)) h.lines;
      status = after (128 + k) v (omega (arith, l)) h.status;
      enable = here k v _ (omega (arith, h.long)) l (put_same c.enable k v 32 h.shaped.2 l) (λ j i o. put_other c.enable k v j o) h.enable;
      host = before (128 + k) v (omega (arith, l)) h.host;
      channel = before (128 + k) v (omega (arith, l)) h.channel;
      held = before (128 + k) v (omega (arith, l)) h.held;
      words = before (128 + k) v (omega (arith, l)) h.words;
    }

pub put_host : {f : Frame} {c : Cic} {room : List ℕ} (k v : ℕ) (m : List ℕ) → k < 64 → length m ≡ 256 → ((i : ℕ) → get_or m i 0 < 256) → v ≡ map_read 256 m k
    → ((j : ℕ) → j < 64 → (j ≡ k → ⊥) → map_read 256 c.host j ≡ map_read 256 m j) → Held f c room → Held f (with_host c m) (set room (192 + k) v)
put_host k v m l long bytes same others h =
    record {
      framed = h.framed;
      shaped = (h.shaped.0, h.shaped.1, h.shaped.2, h.shaped.3, long, h.shaped.5);
      bytes = (h.bytes.0, bytes);
      long = simp length-set h.long;
      first = after (192 + k) v (omega (arith, l)) h.first;
      index = after (192 + k) v (omega (arith, l)) h.index;
      allow = after (192 + k) v (omega (arith, l)) h.allow;
      gap = after (192 + k) v (omega (arith, l)) h.gap;
      lines = after (192 + k) v (omega (arith, l)) h.lines;
      status = after (192 + k) v (omega (arith, l)) h.status;
      enable = after (192 + k) v (omega (arith, l)) h.enable;
      host = here k v _ (omega (arith, h.long)) l same others h.host;
      channel = before (192 + k) v (omega (arith, l)) h.channel;
      held = before (192 + k) v (omega (arith, l)) h.held;
      words = before (192 + k) v (omega (arith, l)) h.words;
    }

pub put_channel : {f : Frame} {c : Cic} {room : List ℕ} (k v : ℕ) (m : List ℕ) → k < 256 → length m ≡ 1024 → ((i : ℕ) → get_or m i 0 < 256) → v ≡ map_read 1024 m k
    → ((j : ℕ) → j < 256 → (j ≡ k → ⊥) → map_read 1024 c.channel j ≡ map_read 1024 m j) → Held f c room → Held f (with_channel c m) (set room (256 + k) v)
put_channel k v m l long bytes same others h =
    record {
      framed = h.framed;
      shaped = (h.shaped.0, h.shaped.1, h.shaped.2, long, h.shaped.4, h.shaped.5);
      bytes = (bytes, h.bytes.1);
      long = simp length-set h.long;
      first = after (256 + k) v (omega (arith, l)) h.first;
      index = after (256 + k) v (omega (arith, l)) h.index;
      allow = after (256 + k) v (omega (arith, l)) h.allow;
      gap = after (256 + k) v (omega (arith, l)) h.gap;
      lines = after (256 + k) v (omega (arith, l)) h.lines;
      status = after (256 + k) v (omega (arith, l)) h.status;
      enable = after (256 + k) v (omega (arith, l)) h.enable;
      host = after (256 + k) v (omega (arith, l)) h.host;
      channel = here k v _ (omega (arith, h.long)) l same others h.channel;
      held = before (256 + k) v (omega (arith, l)) h.held;
      words = before (256 + k) v (omega (arith, l)) h.words;
    }
