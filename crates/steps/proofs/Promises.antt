-- The promises of the checks, kept: by cases on the record, the offset and the register.
use Prim.Native.Nat.{ℕ, ◌%◌, ◌<◌, ◌≤◌}
use mathlib.Core.Path.{◌≡◌, refl, sym, ap, ◌∙◌}
use mathlib.Core.Bool.{Bool, true, false, ◌&&◌, false≢true, true≢false}
use mathlib.Core.Logic.{◌↔◌, ◌≢◌, ◌⊎◌, inl, inr, ⊎_elim}
use native.Mathlib.Omega.{arith}
use native.Mathlib.Decide.{dec_lt, dec_le, ℕ_discrete}
use borrow.Author.Tests.{eq-eqb, ne_eqb, lt-ltb, le-ltb, le-leb, lt-leb}
use lib.Dec.{eqb, ltb, leb}
use Rattle.words.specs.Choice.{pick}
use Rattle.words.proofs.ChoiceLaws.{pick_cases}
use Rattle.steps.specs.declared.Access.{Access}
use Rattle.steps.specs.declared.Access.TheVariants.{NoRegister, ReadOnly, WriteOnly, ReadWrite}
use Rattle.steps.specs.Refusals.{read_refusal, write_refusal, line_refusal, read_access, write_access}
use Rattle.steps.specs.Tables.{ReadTable, WriteTable, LineTable, Readable, Writable}
use Rattle.steps.specs.Promises.{Promises, Numbers, ValueNumber}

-- what holds and what holds, what fails and what fails
ever : {P Q : Type 0} → P → Q → P ↔ Q
ever p q = ((λ _. q), (λ _. p))

never : {P Q : Type 0} → (P → ⊥) → (Q → ⊥) → P ↔ Q
never f g = ((λ p. absurd (f p)), (λ q. absurd (g q)))

-- ---- a check that lets x through or gives z

passed : (t : Bool) (x z m : ℕ) {P : Type 0} → m ≢ z → (x ≡ m) ↔ P → (pick t x z ≡ m) ↔ ((t ≡ true) × P)
unfolding pick
passed true x z m d i = ((λ e. (refl, i.0 e)), (λ p. i.1 p.1))
passed false x z m d i = never (λ e. d (sym e)) (λ p. false≢true p.0)

stopped : (t : Bool) (x z : ℕ) → x ≢ z → (pick t x z ≡ z) ↔ (t ≡ false)
unfolding pick
stopped true x z d = never d true≢false
stopped false x z d = ever refl refl

aligned : (o x m : ℕ) (P : Type 0) → m ≢ 1 → (x ≡ m) ↔ P → (pick (eqb (o % 4) 0) x 1 ≡ m) ↔ ((o % 4 ≡ 0) × P)
unfolding pick
aligned o x m P d i = go (ℕ_discrete (o % 4) 0)
  where
    go : Dec (o % 4 ≡ 0) → (pick (eqb (o % 4) 0) x 1 ≡ m) ↔ ((o % 4 ≡ 0) × P)
    go (yes e) = rw (eq-eqb (o % 4) 0 e) ((λ h. (e, i.0 h)), (λ p. i.1 p.1))
    go (no n) = rw (ne_eqb (o % 4) 0 n) (never (λ h. d (sym h)) (λ p. n p.0))

slanted : (o x : ℕ) → x ≢ 1 → (pick (eqb (o % 4) 0) x 1 ≡ 1) ↔ (o % 4 ≢ 0)
unfolding pick
slanted o x d = go (ℕ_discrete (o % 4) 0)
  where
    go : Dec (o % 4 ≡ 0) → (pick (eqb (o % 4) 0) x 1 ≡ 1) ↔ (o % 4 ≢ 0)
    go (yes e) = rw (eq-eqb (o % 4) 0 e) (never d (λ n. n e))
    go (no n) = rw (ne_eqb (o % 4) 0 n) (ever refl n)

-- ---- a register's use, told apart by a number

code : Access → ℕ
code NoRegister = 0
code ReadOnly = 1
code WriteOnly = 2
code ReadWrite = 3

apart : {a b : Access} → code a ≢ code b → a ≢ b
apart d e = d (ap code e)

-- what an aligned read answers
read-absent : (a : Access) → (read_access a ≡ 2) ↔ (a ≡ NoRegister)
unfolding code
read-absent NoRegister = ever refl refl
read-absent ReadOnly = never (omega arith) (apart (omega arith))
read-absent WriteOnly = never (omega arith) (apart (omega arith))
read-absent ReadWrite = never (omega arith) (apart (omega arith))

read-unreadable : (a : Access) → (read_access a ≡ 3) ↔ (a ≡ WriteOnly)
unfolding code
read-unreadable NoRegister = never (omega arith) (apart (omega arith))
read-unreadable ReadOnly = never (omega arith) (apart (omega arith))
read-unreadable WriteOnly = ever refl refl
read-unreadable ReadWrite = never (omega arith) (apart (omega arith))

neither : {a : Access} (b c : Access) → code a ≢ code b → code a ≢ code c → (a ≡ b) ⊎ (a ≡ c) → ⊥
neither b c p q = ⊎_elim (apart p) (apart q)

read-carried : (a : Access) → (read_access a ≡ 0) ↔ Readable a
unfolding code
read-carried NoRegister = never (omega arith) (neither ReadOnly ReadWrite (omega arith) (omega arith))
read-carried ReadOnly = ever refl (inl refl)
read-carried WriteOnly = never (omega arith) (neither ReadOnly ReadWrite (omega arith) (omega arith))
read-carried ReadWrite = ever refl (inr refl)

read_small : (a : Access) → (read_access a ≢ 1) × (read_access a ≢ 12)
read_small NoRegister = (omega arith, omega arith)
read_small ReadOnly = (omega arith, omega arith)
read_small WriteOnly = (omega arith, omega arith)
read_small ReadWrite = (omega arith, omega arith)

pub read_table : (sound : Bool) (offset : ℕ) (access : Access) → ReadTable sound offset access (read_refusal sound offset access)
unfolding read_refusal
read_table s o a =
    record {
      twelve = stopped s x 12 not_twelve;
      one = passed s x 12 1 (omega arith) (slanted o (read_access a) (read_small a).0);
      two = passed s x 12 2 (omega arith) (aligned o (read_access a) 2 (a ≡ NoRegister) (omega arith) (read-absent a));
      three = passed s x 12 3 (omega arith) (aligned o (read_access a) 3 (a ≡ WriteOnly) (omega arith) (read-unreadable a));
      none = passed s x 12 0 (omega arith) (aligned o (read_access a) 0 (Readable a) (omega arith) (read-carried a));
    }
  where
    x : ℕ
    x = pick (eqb (o % 4) 0) (read_access a) 1

    not_twelve : pick (eqb (o % 4) 0) (read_access a) 1 ≢ 12
    not_twelve = pick_cases (λ n. n ≢ 12) (eqb (o % 4) 0) (λ _. (read_small a).1) (λ _. omega arith)

-- what an aligned write answers, of a value that has one of the numbers 0, 5 and 6
small : (value m : ℕ) → ValueNumber value → m ≢ 0 → m ≢ 5 → m ≢ 6 → value ≢ m
small value m (inl e) p q r h = p (sym h ∙ e)
small value m (inr (inl e)) p q r h = q (sym h ∙ e)
small value m (inr (inr e)) p q r h = r (sym h ∙ e)

-- a number that no register gives by itself is given exactly if the register takes the value and the value has it
write-value : (a : Access) (value m : ℕ) → m ≢ 2 → m ≢ 4 → (write_access a value ≡ m) ↔ (Writable a × (value ≡ m))
unfolding code
write-value NoRegister value m p q = never (λ e. p (sym e)) (λ w. neither WriteOnly ReadWrite (omega arith) (omega arith) w.0)
write-value ReadOnly value m p q = never (λ e. q (sym e)) (λ w. neither WriteOnly ReadWrite (omega arith) (omega arith) w.0)
write-value WriteOnly value m p q = ((λ e. (inl refl, e)), (λ w. w.1))
write-value ReadWrite value m p q = ((λ e. (inr refl, e)), (λ w. w.1))

module _ (value : ℕ) (known : ValueNumber value) where
  write-absent : (a : Access) → (write_access a value ≡ 2) ↔ (a ≡ NoRegister)
  unfolding code
  write-absent NoRegister = ever refl refl
  write-absent ReadOnly = never (omega arith) (apart (omega arith))
  write-absent WriteOnly = never (small value 2 known (omega arith) (omega arith) (omega arith)) (apart (omega arith))
  write-absent ReadWrite = never (small value 2 known (omega arith) (omega arith) (omega arith)) (apart (omega arith))

  write-unwritable : (a : Access) → (write_access a value ≡ 4) ↔ (a ≡ ReadOnly)
  unfolding code
  write-unwritable NoRegister = never (omega arith) (apart (omega arith))
  write-unwritable ReadOnly = ever refl refl
  write-unwritable WriteOnly = never (small value 4 known (omega arith) (omega arith) (omega arith)) (apart (omega arith))
  write-unwritable ReadWrite = never (small value 4 known (omega arith) (omega arith) (omega arith)) (apart (omega arith))

  write_small : (a : Access) (m : ℕ) → m ≢ 0 → m ≢ 2 → m ≢ 4 → m ≢ 5 → m ≢ 6 → write_access a value ≢ m
  write_small NoRegister m p q r u v e = q (sym e)
  write_small ReadOnly m p q r u v e = r (sym e)
  write_small WriteOnly m p q r u v e = small value m known p u v e
  write_small ReadWrite m p q r u v e = small value m known p u v e

  pub write-table : (sound : Bool) (offset : ℕ) (access : Access) → WriteTable sound offset access value (write_refusal sound offset access value)
  unfolding write_refusal
  write-table s o a =
      record {
        twelve = stopped s x 12 not_twelve;
        one = passed s x 12 1 (omega arith) (slanted o y (write_small a 1 (omega arith) (omega arith) (omega arith) (omega arith) (omega arith)));
        two = passed s x 12 2 (omega arith) (aligned o y 2 (a ≡ NoRegister) (omega arith) (write-absent a));
        four = passed s x 12 4 (omega arith) (aligned o y 4 (a ≡ ReadOnly) (omega arith) (write-unwritable a));
        five = valued 5 (omega arith) (omega arith) (omega arith) (omega arith);
        six = valued 6 (omega arith) (omega arith) (omega arith) (omega arith);
        none = valued 0 (omega arith) (omega arith) (omega arith) (omega arith);
      }
    where
      y : ℕ
      y = write_access a value

      x : ℕ
      x = pick (eqb (o % 4) 0) (write_access a value) 1

      not_twelve : pick (eqb (o % 4) 0) (write_access a value) 1 ≢ 12
      not_twelve =
          pick_cases (λ n. n ≢ 12) (eqb (o % 4) 0) (λ _. write_small a 12 (omega arith) (omega arith) (omega arith) (omega arith) (omega arith))
          (λ _. omega arith)

      valued : (m : ℕ) → m ≢ 1 → m ≢ 2 → m ≢ 4 → m ≢ 12
          → (pick s (pick (eqb (o % 4) 0) (write_access a value) 1) 12 ≡ m) ↔ ((s ≡ true) × ((o % 4 ≡ 0) × (Writable a × (value ≡ m))))
      valued m p q r u = passed s x 12 m u (aligned o y m (Writable a × (value ≡ m)) p (write-value a value m q r))

-- ---- a line step

pub line-table : (sound : Bool) (inputs line level : ℕ) → LineTable sound inputs line level (line_refusal sound inputs line level)
unfolding line_refusal
line-table s n k l =
    record {
      twelve = stopped s x 12 (pick_cases (λ m. m ≢ 12) t (λ _. omega arith) (λ _. omega arith));
      six = passed s x 12 6 (omega arith) (go_six (dec_lt k n) (dec_le l 1));
      none = passed s x 12 0 (omega arith) (go-none (dec_lt k n) (dec_le l 1));
    }
  where
    t : Bool
    t = ltb k n && leb l 1

    x : ℕ
    x = pick (ltb k n && leb l 1) 0 6

    go_six : Dec (k < n) → Dec (l ≤ 1) → (◌≡◌ {A = ℕ} (pick (ltb k n && leb l 1) 0 6) 6) ↔ ((n ≤ k) ⊎ (1 < l))
    go_six (yes p) (yes q) = rw (lt-ltb k n p, le-leb l 1 q) (unfold pick in (never (omega arith) (⊎_elim (λ (h : n ≤ k). omega arith) (λ (h : 1 < l). omega arith))))
    go_six (yes p) (no q) = rw (lt-ltb k n p, lt-leb l 1 (omega arith)) (unfold pick in (ever refl (inr (omega arith))))
    go_six (no p) d = rw (le-ltb k n (omega arith)) (unfold pick in (ever refl (inl (omega arith))))

    go-none : Dec (k < n) → Dec (l ≤ 1) → (◌≡◌ {A = ℕ} (pick (ltb k n && leb l 1) 0 6) 0) ↔ ((k < n) × (l ≤ 1))
    go-none (yes p) (yes q) = rw (lt-ltb k n p, le-leb l 1 q) (unfold pick in (ever refl (p, q)))
    go-none (yes p) (no q) = rw (lt-ltb k n p, lt-leb l 1 (omega arith)) (unfold pick in (never (omega arith) (λ h. q h.1)))
    go-none (no p) d = rw (le-ltb k n (omega arith)) (unfold pick in (never (omega arith) (λ h. p h.0)))

the_numbers : Numbers
the_numbers =
    record {
      none = refl;
      twelve = refl;
      one = refl;
      two = refl;
      three = refl;
      four = refl;
      five = refl;
      six = refl;
      seven = refl;
      eight = refl;
      nine = refl;
      ten = refl;
      eleven = refl;
      thirteen = refl;
      fourteen = refl;
      fifteen = refl;
      sixteen = refl;
      seventeen = refl;
    }

pub kept : Promises
kept = record { numbers = the_numbers; plain = refl; reads = read_table; writes = λ s o a value known. write-table value known s o a; lines = line-table }
