-- Each number is given exactly when the tables say.
use Prim.Native.Nat.{ℕ, ◌%◌, ◌<◌, ◌≤◌}
use mathlib.Core.Path.{◌≡◌, refl, sym, ap, ◌∙◌}
use mathlib.Core.Bool.{Bool, true, ◌&&◌}
use mathlib.Core.Logic.{◌↔◌, ◌≢◌, ◌⊎◌, inl, inr, ⊎_elim}
use native.Mathlib.Decide.{dec_lt, ℕ_discrete}
use native.Mathlib.Omega.{arith}
use borrow.Author.Tests.{eqb-true, lt-ltb, ltb-true, le-leb, leb-true}
use lib.Dec.{eqb, ltb, leb}
use Rattle.words.specs.Choice.{pick}
use Rattle.words.proofs.ChoiceLaws.{pick_cases}
use Rattle.words.proofs.TruthLaws.{and_left, and_right, and_both, clash}
use Rattle.steps.specs.declared.Access.{Access}
use Rattle.steps.specs.declared.Access.TheVariants.{NoRegister, ReadOnly, WriteOnly, ReadWrite}
use Rattle.steps.specs.Refusals.{carried_out, upward}
use Rattle.steps.specs.Tables.{ReadTable, WriteTable}
use Rattle.coreinterrupt.specs.declared.Begun.{Begun}
use Rattle.coreinterrupt.specs.declared.Signals.{Signals}
use Rattle.coreinterrupt.specs.Model as CoreInterrupt
use Rattle.coreinterrupt.proofs.Promises.{kept as alone}
use Rattle.board_wires.specs.declared.Board.{Board}
use Rattle.board_wires.specs.declared.Wire.{Wire}
use Rattle.board_wires.specs.declared.Wire.TheVariants.{Nothing, Pin, Irq, Fiq}
use Rattle.board_wires.specs.Wires.{core_at, wired_core}
use Rattle.board.specs.Sound.{lower}
use Rattle.board.proofs.SoundLaws.{sound-parts, sound-rules}
use Rattle.board.specs.Model.{checked, is_there, is_named, upward_refusal, add, connect, put_pin, read, write, outputs, input, chain}
use Rattle.board.specs.Tables.{Misconfigured, Missing, Upward, Absent, AddTable, WireTable, PinTable, OwnTable, InputTable}
use Rattle.board.proofs.AnswerLaws.{number_is, reply_number, Told, told-true, told-both, told_lt, told_le, told_there, is_there_lem, none-given, through, Later, checks_twelve, checks_six, checks_else, there-is}
use Rattle.board.proofs.WiredLaws.{wired-sound}

-- a sentence that says the same in the place of another
instead : {A S P Q R : Type 0} → A ↔ (S × (P × R)) → (P → Q) → (Q → P) → A ↔ (S × (Q × R))
instead i f g = ((λ a. let z = i.0 a in (z.0, (f z.1.0, z.1.1))), (λ z. i.1 (z.0, (g z.1.0, z.1.1))))

-- ---- a controller is added

module _ (f i fl il : ℕ) where
  start_number : ((CoreInterrupt.start f i fl il).refusal ≡ 0) ⊎ ((CoreInterrupt.start f i fl il).refusal ≡ 10)
  start_number = go (ℕ_discrete (CoreInterrupt.start f i fl il).refusal 0)
    where
      go : Dec ((CoreInterrupt.start f i fl il).refusal ≡ 0) → ((CoreInterrupt.start f i fl il).refusal ≡ 0) ⊎ ((CoreInterrupt.start f i fl il).refusal ≡ 10)
      go (yes e) = inl e
      go (no d) = inr (ap (λ (x : Begun). x.refusal) (alone.start_zeros f i fl il d))

  start-not : (m : ℕ) → m ≢ 0 → m ≢ 10 → (CoreInterrupt.start f i fl il).refusal ≢ m
  start-not m p q e = ⊎_elim (λ z. p (sym e ∙ z)) (λ z. q (sym e ∙ z)) start_number

  pub configured : ((CoreInterrupt.start f i fl il).refusal ≡ 0) ↔ (Misconfigured f i fl il → ⊥)
  configured = (
    (λ e m. absurd (omega (arith, e, (alone.start_refused f i fl il).1 m))),
    (λ n. ⊎_elim (λ e. e) (λ e. absurd (n ((alone.start_refused f i fl il).0 e))) start_number),
  )

  add_number : (b : Board) → (add b f i fl il).refusal ≡ checked b (ltb b.controllers 8) (CoreInterrupt.start f i fl il).refusal
  unfolding add
  add_number b = number_is b _ _ refl

  pub add-table : (b : Board) → AddTable b f i fl il (add b f i fl il).refusal
  add-table b =
      rw (add_number b)
      (record {
        twelve = checks_twelve b t n later;
        six =
            let six = checks_six b t n later (8 ≤ b.controllers) told in
            ((λ e. let z = six.0 e in (z.0, omega (arith, z.1, (sound-parts b z.0).counted))), (λ z. six.1 (z.0, omega (arith, z.1))));
        ten = instead (checks_else b t n 10 (8 ≤ b.controllers) (Misconfigured f i fl il) (omega arith) (omega arith) told (alone.start_refused f i fl il)) under over;
        none = instead (checks_else b t n 0 (8 ≤ b.controllers) (Misconfigured f i fl il → ⊥) (omega arith) (omega arith) told configured) under over;
      })
    where
      t : Bool
      t = ltb b.controllers 8

      n : ℕ
      n = (CoreInterrupt.start f i fl il).refusal

      told : Told (ltb b.controllers 8) (8 ≤ b.controllers)
      told = told_lt b.controllers 8

      later : Later b (ltb b.controllers 8) (CoreInterrupt.start f i fl il).refusal
      later _ _ = (start-not 12 (omega arith) (omega arith), start-not 6 (omega arith) (omega arith))

      under : (8 ≤ b.controllers → ⊥) → b.controllers < 8
      under h = go (dec_lt b.controllers 8)
        where
          go : Dec (b.controllers < 8) → b.controllers < 8
          go (yes l) = l
          go (no l) = absurd (h (omega arith))

      over : b.controllers < 8 → 8 ≤ b.controllers → ⊥
      over l m = omega arith

-- ---- an input is wired

named-told : (b : Board) (w : Wire) → Told (is_named b w) (Missing b w)
unfolding is_named
named-told b Nothing = inl (refl, (λ x. x))
named-told b (Pin p) = told_lt p 320
named-told b (Irq d) = told_there b d
named-told b (Fiq d) = told_there b d

lower-told : (c : ℕ) (w : Wire) → Told (lower c w) (Upward c w)
unfolding lower
lower-told c Nothing = inl (refl, (λ x. x))
lower-told c (Pin p) = inl (refl, (λ x. x))
lower-told c (Irq d) = told_lt d c
lower-told c (Fiq d) = told_lt d c

upward_number : (t : Bool) (P : Type 0) → Told t P → ((pick t carried_out upward ≡ 15) ↔ P) × ((pick t carried_out upward ≡ 0) ↔ (P → ⊥))
unfolding pick
upward_number t P (inl h) = rw h.0 (((λ e. absurd (omega arith)), (λ p. absurd (h.1 p))), ((λ _. h.1), (λ _. refl)))
upward_number t P (inr h) = rw h.0 (((λ _. h.1), (λ _. refl)), ((λ e. absurd (omega arith)), (λ n. absurd (n h.1))))

pub connect_number : (b : Board) (c i : ℕ) (w : Wire) → (connect b c i w).refusal ≡ checked b (is_there b c && ltb i 40 && is_named b w) (upward_refusal c w)
unfolding connect
connect_number b c i w = number_is b _ _ refl

absent-told : (b : Board) (c i : ℕ) → Told (is_there b c && ltb i 40) (Absent b c i)
absent-told b c i = told-both (is_there b c) (ltb i 40) (b.controllers ≤ c) (40 ≤ i) (told_there b c) (told_lt i 40)

pub connect-table : (b : Board) (c i : ℕ) (w : Wire) → WireTable b c i w (connect b c i w).refusal
unfolding upward_refusal
connect-table b c i w =
    rw (connect_number b c i w)
    (record {
      twelve = checks_twelve b t n later;
      six = checks_six b t n later (Absent b c i ⊎ Missing b w) told;
      fifteen = checks_else b t n 15 (Absent b c i ⊎ Missing b w) (Upward c w) (omega arith) (omega arith) told up.0;
      none = checks_else b t n 0 (Absent b c i ⊎ Missing b w) (Upward c w → ⊥) (omega arith) (omega arith) told up.1;
    })
  where
    t : Bool
    t = is_there b c && ltb i 40 && is_named b w

    n : ℕ
    n = upward_refusal c w

    told : Told (is_there b c && ltb i 40 && is_named b w) (Absent b c i ⊎ Missing b w)
    told = told-both (is_there b c && ltb i 40) (is_named b w) (Absent b c i) (Missing b w) (absent-told b c i) (named-told b w)

    up : ((pick (lower c w) carried_out upward ≡ 15) ↔ Upward c w) × ((pick (lower c w) carried_out upward ≡ 0) ↔ (Upward c w → ⊥))
    up = upward_number (lower c w) (Upward c w) (lower-told c w)

    later : Later b (is_there b c && ltb i 40 && is_named b w) (pick (lower c w) carried_out upward)
    later _ _ = pick_cases (λ (m : ℕ). (m ≢ 12) × (m ≢ 6)) (lower c w) (λ _. (omega arith, omega arith)) (λ _. (omega arith, omega arith))

-- ---- a pin is put

zero-later : (b : Board) (t : Bool) → Later b t 0
zero-later b t _ _ = (omega arith, omega arith)

pub pin_number : (b : Board) (p l : ℕ) → (put_pin b p l).refusal ≡ checked b (ltb p 320 && leb l 1) 0
unfolding put_pin
pin_number b p l = number_is b _ _ refl

pub pin-table : (b : Board) (p l : ℕ) → PinTable b p l (put_pin b p l).refusal
pin-table b p l =
    rw (pin_number b p l)
    (record {
      twelve = checks_twelve b t 0 (zero-later b t);
      six = checks_six b t 0 (zero-later b t) ((320 ≤ p) ⊎ (1 < l)) (told-both (ltb p 320) (leb l 1) (320 ≤ p) (1 < l) (told_lt p 320) (told_le l 1));
      none = (
        (λ e. let z = none-given b t 0 e in (z.0, within z.1.0)),
        (λ z. through b t 0 z.0 (and_both (lt-ltb p 320 z.1.0) (le-leb l 1 z.1.1))),
      );
    })
  where
    t : Bool
    t = ltb p 320 && leb l 1

    within : (ltb p 320 && leb l 1) ≡ true → (p < 320) × (l ≤ 1)
    within e = (ltb-true p 320 (and_left (ltb p 320) (leb l 1) e), leb-true l 1 (and_right (ltb p 320) (leb l 1) e))

-- ---- a controller answers

own-table : (b : Board) (c m n : ℕ) → Later b (is_there b c) m → n ≡ checked b (is_there b c) m → OwnTable b c m n
own-table b c m n later e =
    rw e
    (record {
      twelve = checks_twelve b (is_there b c) m later;
      six = checks_six b (is_there b c) m later (b.controllers ≤ c) (told_there b c);
      own = λ s l. through b (is_there b c) m s (is_there_lem b c l);
    })

-- the numbers of a read and of a write that CoreInterrupt gives
read_six : (s : Bool) (o : ℕ) (a : Access) (n : ℕ) → s ≡ true → ReadTable s o a n → (n ≢ 12) × (n ≢ 6)
read_six s o a n e t = ((λ z. clash e (t.twelve.0 z)), (λ z. go a t (ℕ_discrete (o % 4) 0) z))
  where
    go : (a : Access) → ReadTable s o a n → Dec (o % 4 ≡ 0) → n ≢ 6
    go a t (no d) z = omega (arith, z, t.one.1 (e, d))
    go NoRegister t (yes q) z = omega (arith, z, t.two.1 (e, (q, refl)))
    go ReadOnly t (yes q) z = omega (arith, z, t.none.1 (e, (q, inl refl)))
    go WriteOnly t (yes q) z = omega (arith, z, t.three.1 (e, (q, refl)))
    go ReadWrite t (yes q) z = omega (arith, z, t.none.1 (e, (q, inr refl)))

write_six : (s : Bool) (o : ℕ) (a : Access) (n : ℕ) → s ≡ true → WriteTable s o a 0 n → (n ≢ 12) × (n ≢ 6)
write_six s o a n e t = ((λ z. clash e (t.twelve.0 z)), (λ z. go a t (ℕ_discrete (o % 4) 0) z))
  where
    go : (a : Access) → WriteTable s o a 0 n → Dec (o % 4 ≡ 0) → n ≢ 6
    go a t (no d) z = omega (arith, z, t.one.1 (e, d))
    go NoRegister t (yes q) z = omega (arith, z, t.two.1 (e, (q, refl)))
    go ReadOnly t (yes q) z = omega (arith, z, t.four.1 (e, (q, refl)))
    go WriteOnly t (yes q) z = omega (arith, z, t.none.1 (e, (q, (inl refl, refl))))
    go ReadWrite t (yes q) z = omega (arith, z, t.none.1 (e, (q, (inr refl, refl))))

pub read_table : (b : Board) (c o : ℕ) → OwnTable b c (CoreInterrupt.read (wired_core b c) o).refusal (read b c o).refusal
unfolding read
read_table b c o =
    own-table b c (CoreInterrupt.read (wired_core b c) o).refusal (read b c o).refusal
    (λ s t. read_six (CoreInterrupt.sound (wired_core b c)) o (CoreInterrupt.access (wired_core b c) o) (CoreInterrupt.read (wired_core b c) o).refusal
    (wired-sound b c s (there-is b c t)) (alone.read_numbers (wired_core b c) o))
    (number_is b _ _ refl)

pub write-table : (b : Board) (c o v : ℕ) → OwnTable b c (CoreInterrupt.write (core_at b c) o v).refusal (write b c o v).refusal
unfolding write
write-table b c o v =
    own-table b c (CoreInterrupt.write (core_at b c) o v).refusal (write b c o v).refusal
    (λ s t. write_six (CoreInterrupt.sound (core_at b c)) o (CoreInterrupt.access (core_at b c) o) (CoreInterrupt.write (core_at b c) o v).refusal
    ((sound-rules b s).controllers c (there-is b c t)) (alone.write_numbers (core_at b c) o v))
    (number_is b _ _ refl)

-- ---- what is asked

pub outputs_number : (b : Board) (c : ℕ) → (outputs b c).refusal ≡ checked b (is_there b c) 0
unfolding outputs
outputs_number b c =
    pick_cases (λ (s : Signals). s.refusal ≡ checked b (is_there b c) 0) (eqb (checked b (is_there b c) 0) 0)
    (λ e. let z = eqb-true (checked b (is_there b c) 0) 0 e in
    let g = none-given b (is_there b c) 0 z in
    ap (λ (s : Signals). s.refusal) (alone.outputs_sound (wired_core b c) (wired-sound b c g.0 (there-is b c g.1.0))) ∙ sym z)
    (λ _. refl)

pub outputs-table : (b : Board) (c : ℕ) → OwnTable b c 0 (outputs b c).refusal
outputs-table b c = own-table b c 0 (outputs b c).refusal (zero-later b (is_there b c)) (outputs_number b c)

pub chain-table : (b : Board) (c : ℕ) → OwnTable b c 0 (chain b c).refusal
unfolding chain
chain-table b c = own-table b c 0 (chain b c).refusal (zero-later b (is_there b c)) (reply_number _ _)

pub input-table : (b : Board) (c i : ℕ) → InputTable b c i (input b c i).refusal
unfolding input
input-table b c i =
    rw (reply_number (checked b (is_there b c && ltb i 40) 0) _)
    (record {
      twelve = checks_twelve b t 0 (zero-later b t);
      six = checks_six b t 0 (zero-later b t) (Absent b c i) (absent-told b c i);
      none = (
        (λ e. let z = none-given b t 0 e in (z.0, (told-true t (Absent b c i) (absent-told b c i)).0 z.1.0)),
        (λ z. through b t 0 z.0 ((told-true t (Absent b c i) (absent-told b c i)).1 z.1)),
      );
    })
  where
    t : Bool
    t = is_there b c && ltb i 40
