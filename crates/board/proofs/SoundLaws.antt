-- What a sound board keeps, and what keeps it sound.
use Prim.Native.Nat.{ℕ, ◌+◌, ◌*◌, ◌/◌, ◌%◌, ◌<◌, ◌≤◌}
use mathlib.Core.Path.{◌≡◌, refl, sym, ap, ap₂, ◌∙◌}
use mathlib.Core.Bool.{true, ◌&&◌}
use mathlib.Core.Logic.{◌↔◌}
use native.Mathlib.Decide.{dec_lt, ℕ_discrete}
use native.Mathlib.Omega.{arith}
use borrow.Author.Tests.{eq-eqb, eqb-true, lt-ltb, le-ltb, ltb-true, le-leb, leb-true}
use lib.Dec.{eqb, ltb, leb}
use lib.ListN.{get_or, length, get_or-replicate}
use Rattle.words.proofs.ArrayLaws.{zeros_get_d, all-put}
use Rattle.words.proofs.ChoiceLaws.{pick_true, pick-false}
use Rattle.words.proofs.CountingLaws.{all_at, at_all, all_same}
use Rattle.words.proofs.TruthLaws.{and_left, and_right, and_both}
use Rattle.coreinterrupt.specs.declared.sides.Side.{Side}
use Rattle.coreinterrupt.specs.Side.{idle}
use Rattle.coreinterrupt.specs.declared.Begun.{Begun}
use Rattle.coreinterrupt.specs.declared.Core.{Core}
use Rattle.coreinterrupt.specs.Model.{core_of, sound as sound_core}
use Rattle.coreinterrupt.proofs.Promises.{kept as alone}
use Rattle.board_wires.specs.declared.Board.{Board}
use Rattle.board_wires.specs.declared.Wire.{Wire}
use Rattle.board_wires.specs.declared.Wire.TheVariants.{Nothing, Pin, Irq, Fiq}
use Rattle.board_wires.specs.Wires.{wire_of, wire_number, wire_at, core_at}
use Rattle.board_wires.proofs.NumberLaws.{of-nothing, wire_there, core_there}
use Rattle.board.specs.Record.{empty, with_controller, with_core, with_wire, with_pin}
use Rattle.board.specs.Sound.{low, zero_side, zero_core, core_rule, lower, wire_rule, cores_sound, wires_sound, pins_sound, sound}
use Rattle.board.specs.RecordPromises.{Rules, zeros}
use Rattle.board.proofs.RecordLaws.{core-same, core-put, core-past, core-other, core-more}

-- ---- the parts of the check

pub record Parts (b : Board) : Type 0 where
  pub counted : b.controllers ≤ 8
  pub cores : cores_sound b ≡ true
  pub wires : wires_sound b ≡ true
  pub pins : pins_sound b ≡ true

pub sound-parts : (b : Board) → sound b ≡ true → Parts b
unfolding sound
sound-parts b e =
    record {
      counted = leb-true b.controllers 8 (search (and_left, and_right));
      cores = search (and_left, and_right);
      wires = search (and_left, and_right);
      pins = search (and_left, and_right);
    }

pub parts-sound : (b : Board) → Parts b → sound b ≡ true
unfolding sound
parts-sound b p = and_both (le-leb b.controllers 8 p.counted) (and_both p.cores (and_both p.wires p.pins))

-- ---- one controller

low_lines : (k : Core) → low k ≡ true → (k.fiq.inputs ≡ 0) × (k.irq.inputs ≡ 0)
unfolding low
low_lines k e = (
  eqb-true k.fiq.inputs 0 (and_left (eqb k.fiq.inputs 0) (eqb k.irq.inputs 0) e),
  eqb-true k.irq.inputs 0 (and_right (eqb k.fiq.inputs 0) (eqb k.irq.inputs 0) e),
)

pub lines-low : (k : Core) → k.fiq.inputs ≡ 0 → k.irq.inputs ≡ 0 → low k ≡ true
unfolding low
lines-low k p q = and_both (eq-eqb k.fiq.inputs 0 p) (eq-eqb k.irq.inputs 0 q)

same-side : (n l i s e : ℕ) → n ≡ 0 → l ≡ 0 → i ≡ 0 → s ≡ 0 → e ≡ 0
    → ◌≡◌ {A = Side} (record { count = n; level = l; inputs = i; soft = s; enable = e }) (idle 0 0)
same-side n l i s e p q r t u = rw (p, q, r, t, u)

zero-side : (s : Side) → zero_side s ≡ true → s ≡ idle 0 0
unfolding zero_side
zero-side s e =
    same-side s.count s.level s.inputs s.soft s.enable (eqb-true s.count 0 (search (and_left, and_right)))
    (eqb-true s.level 0 (search (and_left, and_right))) (eqb-true s.inputs 0 (search (and_left, and_right)))
    (eqb-true s.soft 0 (search (and_left, and_right))) (eqb-true s.enable 0 (search (and_left, and_right)))

core-zeros : (k : Core) → zero_core k ≡ true → k ≡ zeros
unfolding zero_core
core-zeros k e =
    ap₂ core_of (zero-side k.fiq (and_left (zero_side k.fiq) (zero_side k.irq) e))
    (zero-side k.irq (and_right (zero_side k.fiq) (zero_side k.irq) e))

zeros_core : zero_core zeros ≡ true
unfolding zero_core zero_side
zeros_core = refl

zeros-sound : sound_core zeros ≡ true
zeros-sound =
    sym (ap (λ (x : Begun). sound_core x.core) (alone.start_taken 0 0 0 0 (omega arith) (omega arith) (omega arith) (omega arith)))
    ∙ alone.start_sound 0 0 0 0

core_there_rule : (n c : ℕ) (k : Core) → c < n → core_rule n c k ≡ (sound_core k && low k)
unfolding core_rule
core_there_rule n c k l = sym (pick_true (zero_core k) (lt-ltb c n l))

core_spare_rule : (n c : ℕ) (k : Core) → n ≤ c → core_rule n c k ≡ zero_core k
unfolding core_rule
core_spare_rule n c k l = sym (pick-false (sound_core k && low k) (le-ltb c n l))

-- ---- one wire

lower-leads : (c : ℕ) (w : Wire) → lower c w ≡ true → (d : ℕ) → (w ≡ Irq d → d < c) × (w ≡ Fiq d → d < c)
unfolding lower
lower-leads c w h d = ((λ e. ltb-true d c (sym (ap (lower c) e) ∙ h)), (λ e. ltb-true d c (sym (ap (lower c) e) ∙ h)))

leads-lower : (c : ℕ) (w : Wire) → ((d : ℕ) → (w ≡ Irq d → d < c) × (w ≡ Fiq d → d < c)) → lower c w ≡ true
unfolding lower
leads-lower c Nothing h = refl
leads-lower c (Pin p) h = refl
leads-lower c (Irq d) h = lt-ltb d c ((h d).0 refl)
leads-lower c (Fiq d) h = lt-ltb d c ((h d).1 refl)

wire_there_rule : (n c w : ℕ) → c < n → wire_rule n c w ≡ (ltb w 337 && lower c (wire_of w))
unfolding wire_rule
wire_there_rule n c w l = sym (pick_true (eqb w 0) (lt-ltb c n l))

wire_spare_rule : (n c w : ℕ) → n ≤ c → wire_rule n c w ≡ eqb w 0
unfolding wire_rule
wire_spare_rule n c w l = sym (pick-false (ltb w 337 && lower c (wire_of w)) (le-ltb c n l))

-- a number that stands for a wire to a lower number keeps the rule
pub number_rule : (n c w : ℕ) → c < n → w < 337 → lower c (wire_of w) ≡ true → wire_rule n c w ≡ true
number_rule n c w l m h = wire_there_rule n c w l ∙ and_both (lt-ltb w 337 m) h

nothing-lower : (c : ℕ) → lower c (wire_of 0) ≡ true
unfolding lower
nothing-lower c = ap (lower c) of-nothing

-- ---- the rules

module _ (b : Board) (p : Parts b) where
  core-kept_at : (c : ℕ) → c < 8 → core_rule b.controllers c (core_at b c) ≡ true
  unfolding cores_sound
  core-kept_at c l = all_at 8 (λ d. core_rule b.controllers d (core_at b d)) p.cores c l

  wire-kept_at : (c i : ℕ) → c < 8 → i < 40 → wire_rule b.controllers c (get_or b.wire (40 * c + i) 0) ≡ true
  unfolding wires_sound
  wire-kept_at c i l m =
      let e : c ≡ (40 * c + i) / 40 = omega arith in
      ap (λ (d : ℕ). wire_rule b.controllers d (get_or b.wire (40 * c + i) 0)) e
      ∙ all_at 320 (λ k. wire_rule b.controllers (k / 40) (get_or b.wire k 0)) p.wires (40 * c + i) (omega arith)

  parts-rules : Rules b
  unfolding pins_sound
  parts-rules =
      record {
        counted = p.counted;
        controllers = λ c l. and_left (sound_core (core_at b c)) (low (core_at b c)) (own c l);
        lines = λ c l. low_lines (core_at b c) (and_right (sound_core (core_at b c)) (low (core_at b c)) (own c l));
        spare = λ c l m. core-zeros (core_at b c) (sym (core_spare_rule b.controllers c (core_at b c) l) ∙ core-kept_at c m);
        numbers = λ c i l m. ltb-true (get_or b.wire (40 * c + i) 0) 337 (and_left _ (lower c (wire_of (get_or b.wire (40 * c + i) 0))) (leads c i l m));
        lower = λ c i d l m.
            lower-leads c (wire_at b c i)
            (ap (lower c) (wire_there b.wire c i (omega (arith, p.counted)) m)
            ∙ and_right (ltb (get_or b.wire (40 * c + i) 0) 337) (lower c (wire_of (get_or b.wire (40 * c + i) 0))) (leads c i l m))
            d;
        unwired = λ c i l m h. eqb-true (get_or b.wire (40 * c + i) 0) 0 (sym (wire_spare_rule b.controllers c (get_or b.wire (40 * c + i) 0) l) ∙ wire-kept_at c i m h);
        pins = λ q l. leb-true (get_or b.pin q 0) 1 (all_at 320 (λ q. leb (get_or b.pin q 0) 1) p.pins q l);
      }
    where
      own : (c : ℕ) → c < b.controllers → (sound_core (core_at b c) && low (core_at b c)) ≡ true
      own c l = sym (core_there_rule b.controllers c (core_at b c) l) ∙ core-kept_at c (omega (arith, p.counted))

      leads : (c i : ℕ) → c < b.controllers → i < 40 → (ltb (get_or b.wire (40 * c + i) 0) 337 && lower c (wire_of (get_or b.wire (40 * c + i) 0))) ≡ true
      leads c i l m = sym (wire_there_rule b.controllers c (get_or b.wire (40 * c + i) 0) l) ∙ wire-kept_at c i (omega (arith, p.counted)) m

rules-parts : (b : Board) → Rules b → Parts b
unfolding cores_sound wires_sound pins_sound
rules-parts b r =
    record {
      counted = r.counted;
      cores = at_all 8 (λ c. core_rule b.controllers c (core_at b c)) (λ c l. core c l (dec_lt c b.controllers));
      wires = at_all 320 (λ k. wire_rule b.controllers (k / 40) (get_or b.wire k 0)) (λ k l. wire k l (dec_lt (k / 40) b.controllers));
      pins = at_all 320 (λ p. leb (get_or b.pin p 0) 1) (λ p l. le-leb (get_or b.pin p 0) 1 (r.pins p l));
    }
  where
    core : (c : ℕ) → c < 8 → Dec (c < b.controllers) → core_rule b.controllers c (core_at b c) ≡ true
    core c l (yes m) =
        core_there_rule b.controllers c (core_at b c) m
        ∙ and_both (r.controllers c m) (lines-low (core_at b c) (r.lines c m).0 (r.lines c m).1)
    core c l (no m) =
        core_spare_rule b.controllers c (core_at b c) (omega arith) ∙ ap zero_core (r.spare c (omega arith) l) ∙ zeros_core

    split : (k : ℕ) → k ≡ 40 * (k / 40) + k % 40
    split k = omega arith

    wire : (k : ℕ) → k < 320 → Dec (k / 40 < b.controllers) → wire_rule b.controllers (k / 40) (get_or b.wire k 0) ≡ true
    wire k l (yes m) =
        ap (λ (j : ℕ). wire_rule b.controllers (k / 40) (get_or b.wire j 0)) (split k)
        ∙ number_rule b.controllers (k / 40) (get_or b.wire (40 * (k / 40) + k % 40) 0) m (r.numbers (k / 40) (k % 40) m (omega arith))
        (ap (lower (k / 40)) (sym (wire_there b.wire (k / 40) (k % 40) (omega arith) (omega arith)))
        ∙ leads-lower (k / 40) (wire_at b (k / 40) (k % 40)) (λ d. r.lower (k / 40) (k % 40) d m (omega arith)))
    wire k l (no m) =
        ap (λ (j : ℕ). wire_rule b.controllers (k / 40) (get_or b.wire j 0)) (split k)
        ∙ wire_spare_rule b.controllers (k / 40) (get_or b.wire (40 * (k / 40) + k % 40) 0) (omega arith)
        ∙ eq-eqb (get_or b.wire (40 * (k / 40) + k % 40) 0) 0 (r.unwired (k / 40) (k % 40) (omega arith) (omega arith) (omega arith))

pub sound-rules : (b : Board) → sound b ≡ true → Rules b
sound-rules b e = parts-rules b (sound-parts b e)

pub sound-is : (b : Board) → (sound b ≡ true) ↔ Rules b
sound-is b = (sound-rules b, (λ r. parts-sound b (rules-parts b r)))

-- ---- what keeps a board sound

cores-same : (x y : Board) → x.controllers ≡ y.controllers → x.core ≡ y.core → cores_sound y ≡ true → cores_sound x ≡ true
unfolding cores_sound
cores-same x y n k e =
    all_same 8 (λ c. core_rule x.controllers c (core_at x c)) (λ c. core_rule y.controllers c (core_at y c))
    (λ c l. ap₂ (λ (m : ℕ) (z : Core). core_rule m c z) n (core-same x y c k))
    ∙ e

-- a pin at 0 or 1
pub pin-sound : (b : Board) (p l : ℕ) → sound b ≡ true → l ≤ 1 → sound (with_pin b p l) ≡ true
unfolding with_pin wires_sound pins_sound
pin-sound b p l e h =
    let q = sound-parts b e in
    parts-sound (with_pin b p l)
    (record {
      counted = q.counted;
      cores = cores-same (with_pin b p l) b refl refl q.cores;
      wires = q.wires;
      pins = all-put (λ _ x. leb x 1) 320 b.pin p l q.pins (λ _. le-leb l 1 h);
    })

-- a wire that keeps its rule
pub wire-sound : (b : Board) (c i : ℕ) (w : Wire) → sound b ≡ true → i < 40 → wire_rule b.controllers c (wire_number w) ≡ true
    → sound (with_wire b c i w) ≡ true
unfolding with_wire wires_sound pins_sound
wire-sound b c i w e m h =
    let q = sound-parts b e in
    let at : (40 * c + i) / 40 ≡ c = omega arith in
    parts-sound (with_wire b c i w)
    (record {
      counted = q.counted;
      cores = cores-same (with_wire b c i w) b refl refl q.cores;
      wires = all-put (λ k x. wire_rule b.controllers (k / 40) x) 320 b.wire (40 * c + i) (wire_number w) q.wires
          (λ _. ap (λ (d : ℕ). wire_rule b.controllers d (wire_number w)) at ∙ h);
      pins = q.pins;
    })

-- a controller put anew that is sound and has its lines low
pub core-sound : (b : Board) (c : ℕ) (k : Core) → sound b ≡ true → c < b.controllers → sound_core k ≡ true → low k ≡ true
    → sound (with_core b c k) ≡ true
unfolding with_core cores_sound wires_sound pins_sound
core-sound b c k e l s w =
    parts-sound (with_core b c k)
    (record {
      counted = q.counted;
      cores = at_all 8 (λ d. core_rule b.controllers d (core_at (with_core b c k) d)) (λ d m. go d m (ℕ_discrete d c) (dec_lt c (length b.core)));
      wires = q.wires;
      pins = q.pins;
    })
  where
    q : Parts b
    q = sound-parts b e

    go : (d : ℕ) → d < 8 → Dec (d ≡ c) → Dec (c < length b.core) → core_rule b.controllers d (core_at (with_core b c k) d) ≡ true
    go d m (no n) h = ap (core_rule b.controllers d) (core-other b c d k n) ∙ core-kept_at b q d m
    go d m (yes n) (yes h) =
        ap₂ (core_rule b.controllers) n (ap (core_at (with_core b c k)) n ∙ core-put b c k (omega (arith, q.counted)) h)
        ∙ core_there_rule b.controllers c k l ∙ and_both s w
    go d m (yes n) (no h) = ap (core_rule b.controllers d) (core-past b c k d (omega arith)) ∙ core-kept_at b q d m

-- one controller more, sound and with its lines low
wire-more : (n c w : ℕ) → wire_rule n c w ≡ true → wire_rule (n + 1) c w ≡ true
wire-more n c w e = go (dec_lt c n) (ℕ_discrete c n)
  where
    go : Dec (c < n) → Dec (c ≡ n) → wire_rule (n + 1) c w ≡ true
    go (yes l) d = wire_there_rule (n + 1) c w (omega arith) ∙ sym (wire_there_rule n c w l) ∙ e
    go (no l) (yes q) =
        let z = eqb-true w 0 (sym (wire_spare_rule n c w (omega arith)) ∙ e) in
        number_rule (n + 1) c w (omega arith) (omega (arith, z)) (ap (λ (v : ℕ). lower c (wire_of v)) z ∙ nothing-lower c)
    go (no l) (no q) = wire_spare_rule (n + 1) c w (omega arith) ∙ sym (wire_spare_rule n c w (omega arith)) ∙ e

pub controller-sound : (b : Board) (k : Core) → sound b ≡ true → b.controllers < 8 → sound_core k ≡ true → low k ≡ true
    → sound (with_controller b k) ≡ true
unfolding with_controller cores_sound wires_sound pins_sound
controller-sound b k e l s w =
    parts-sound (with_controller b k)
    (record {
      counted = omega arith;
      cores = at_all 8 (λ d. core_rule (n + 1) d (core_at (with_controller b k) d)) (λ d m. ap (core_rule (n + 1) d) (core-more b k d) ∙ go d m (dec_lt d n) (ℕ_discrete d n));
      wires = at_all 320 (λ j. wire_rule (n + 1) (j / 40) (get_or b.wire j 0))
          (λ j m. wire-more n (j / 40) (get_or b.wire j 0) (all_at 320 (λ i. wire_rule n (i / 40) (get_or b.wire i 0)) q.wires j m));
      pins = q.pins;
    })
  where
    n : ℕ
    n = b.controllers

    q : Parts b
    q = sound-parts b e

    zeros_rule : (x : Core) → zero_core x ≡ true → core_rule (n + 1) n x ≡ true
    zeros_rule x z = ap (core_rule (n + 1) n) (core-zeros x z) ∙ core_there_rule (n + 1) n zeros (omega arith) ∙ and_both zeros-sound (lines-low zeros refl refl)

    new : Dec (n < length b.core) → core_rule (n + 1) n (core_at (with_core b n k) n) ≡ true
    new (yes h) = ap (core_rule (n + 1) n) (core-put b n k l h) ∙ core_there_rule (n + 1) n k (omega arith) ∙ and_both s w
    new (no h) =
        ap (core_rule (n + 1) n) (core-past b n k n (omega arith))
        ∙ zeros_rule (core_at b n) (sym (core_spare_rule n n (core_at b n) (omega arith)) ∙ core-kept_at b q n l)

    go : (d : ℕ) → d < 8 → Dec (d < n) → Dec (d ≡ n) → core_rule (n + 1) d (core_at (with_core b n k) d) ≡ true
    go d m (yes h) i =
        ap (core_rule (n + 1) d) (core-other b n d k (omega arith)) ∙ core_there_rule (n + 1) d (core_at b d) (omega arith)
        ∙ sym (core_there_rule n d (core_at b d) h) ∙ core-kept_at b q d m
    go d m (no h) (yes i) = ap (λ (c : ℕ). core_rule (n + 1) c (core_at (with_core b n k) c)) i ∙ new (dec_lt n (length b.core))
    go d m (no h) (no i) =
        ap (core_rule (n + 1) d) (core-other b n d k i) ∙ core_spare_rule (n + 1) d (core_at b d) (omega arith)
        ∙ sym (core_spare_rule n d (core_at b d) (omega arith)) ∙ core-kept_at b q d m

-- ---- the empty board

empty_core : (c : ℕ) → c < 8 → core_at empty c ≡ zeros
unfolding empty
empty_core c l = core_there empty c l ∙ get_or-replicate 8 c zeros zeros l

pub empty-sound : sound empty ≡ true
unfolding empty
empty-sound =
    (sound-is empty).1
    (record {
      counted = omega arith;
      controllers = λ c l. absurd (omega arith);
      lines = λ c l. absurd (omega arith);
      spare = λ c l m. empty_core c m;
      numbers = λ c i l m. absurd (omega arith);
      lower = λ c i d l m. absurd (omega arith);
      unwired = λ c i l m h. zeros_get_d 320 (40 * c + i);
      pins = λ p l. omega (arith, zeros_get_d 320 p);
    })
