-- A store to the words of the record, and of which record it is the room then.
use mathlib.Core.Path.{◌≡◌, ap, ◌∙◌}
use mathlib.Core.List.{List}
use Prim.Native.Nat.{ℕ, ◌+◌, ◌<◌}
use native.Mathlib.Omega.{arith}
use lib.ListN.{get_or, set}
use Rattle.words.specs.Word.{both}
use Rattle.cic_record.specs.declared.Cic.{Cic}
use Rattle.cic_record.specs.Record.{with_global, with_lines, with_status, with_enable, with_allow}
use Rattle.cic_room.specs.Room.{Frame, Laid, permitted, shown_word}
use Rattle.cic_room.specs.Tables.{host_at, load_by, Counted, Standing, Stale, Dim}
use Rattle.cic_room.proofs.TableLaws.{put_global, put_lines, put-status, put_enable, put_allow, kept_global, kept_lines, kept-status, kept_enable, kept_allow, put_other}
use Rattle.cic_room.proofs.RoomLaws.{standing, laid_of}

-- ---- what stands in single words and in words of tables

module _ {f : Frame} {c : Cic} {room : List ℕ} (h : Laid f c room) where
  abbrev pub s : Standing f c room
  s = standing h

  pub systems-is : get_or room 1 0 ≡ c.systems
  systems-is = s.counted.held.first.holds 1 (omega arith)

  pub channels-is : get_or room 2 0 ≡ c.channels
  channels-is = s.counted.held.first.holds 2 (omega arith)

  pub hosts-is : get_or room 3 0 ≡ c.hosts
  hosts-is = s.counted.held.first.holds 3 (omega arith)

  pub revision-is : get_or room 4 0 ≡ c.revision
  revision-is = s.counted.held.first.holds 4 (omega arith)

  pub global-is : get_or room 5 0 ≡ c.global
  global-is = s.counted.held.first.holds 5 (omega arith)

  pub lines-is : (k : ℕ) → k < 32 → get_or room (64 + k) 0 ≡ get_or c.lines k 0
  lines-is = s.counted.held.lines.holds

  pub status-is : (k : ℕ) → k < 32 → get_or room (96 + k) 0 ≡ get_or c.status k 0
  status-is = s.counted.held.status.holds

  pub enable-is : (k : ℕ) → k < 32 → get_or room (128 + k) 0 ≡ get_or c.enable k 0
  enable-is = s.counted.held.enable.holds

  pub allow-is : (k : ℕ) → k < 8 → get_or room (16 + k) 0 ≡ get_or c.allow k 0
  allow-is = s.counted.held.allow.holds

  -- ---- a store

  -- what is kept does not go by the lines
  pub laid_lines : (k w : ℕ) → k < 32 → Laid f (with_lines c (set c.lines k w)) (set room (64 + k) w)
  laid_lines k w l =
      let u = s.counted in
      laid_of (record { active = s.active; counted = record { held = put_lines k w l u.held; long = u.long; kept = kept_lines k w l u.kept }; words = s.words })

  -- what is shown goes by the enables of hosts
  pub dim_global : (w : ℕ) → Dim f (with_global c w) s.active (set room 5 w)
  dim_global w =
      let u = s.counted in
      record { held = put_global w u.held; long = u.long; numbers = shown_word (permitted c) (load_by (host_at c) s.active); kept = kept_global w u.kept }

  pub dim_allow : (k w : ℕ) → k < 8 → Dim f (with_allow c (set c.allow k w)) s.active (set room (16 + k) w)
  dim_allow k w l =
      let u = s.counted in
      record { held = put_allow k w l u.held; long = u.long; numbers = shown_word (permitted c) (load_by (host_at c) s.active); kept = kept_allow k w l u.kept }

  pub lit_global : (w : ℕ) (room' : List ℕ) → Counted f (with_global c w) s.active room' → Laid f (with_global c w) room'
  lit_global w room' u = laid_of (record { active = s.active; counted = u; words = s.words })

  pub lit_allow : (k w : ℕ) (room' : List ℕ) → Counted f (with_allow c (set c.allow k w)) s.active room' → Laid f (with_allow c (set c.allow k w)) room'
  lit_allow k w room' u = laid_of (record { active = s.active; counted = u; words = s.words })

  -- one word of what is kept is to be renewed
  pub stale-status : (k w : ℕ) → k < 32 → Stale f (with_status c (set c.status k w)) k (set room (96 + k) w)
  stale-status k w l =
      let u = s.counted in
      record {
        active = s.active;
        counted = record { held = put-status k w l u.held; long = u.long; kept = kept-status k w l u.kept };
        others = λ i m o. s.words i m ∙ ap (λ (x : ℕ). both x (get_or c.enable i 0)) (put_other c.status k w i o);
      }

  pub stale_enable : (k w : ℕ) → k < 32 → Stale f (with_enable c (set c.enable k w)) k (set room (128 + k) w)
  stale_enable k w l =
      let u = s.counted in
      record {
        active = s.active;
        counted = record { held = put_enable k w l u.held; long = u.long; kept = kept_enable k w l u.kept };
        others = λ i m o. s.words i m ∙ ap (both (get_or c.status i 0)) (put_other c.enable k w i o);
      }
