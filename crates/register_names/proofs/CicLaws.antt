-- The registers of a CIC, and of one with prioritised indices: a name exactly where the model has one, whatever is configured.
use Prim.Native.Nat.{ℕ, ◌+◌, ◌-◌, ◌*◌, ◌/◌, ◌%◌, ◌<◌, ◌≤◌}
use mathlib.Core.Path.{◌≡◌, refl, sym, ap, ◌∙◌, subst}
use mathlib.Core.Bool.{Bool, true, false, ◌&&◌, ◌||◌}
use mathlib.Core.List.{List, [], ◌∷◌}
use mathlib.Core.Logic.{◌↔◌, ◌≢◌, ◌⊎◌, inl, inr}
use native.Mathlib.Omega.{arith}
use native.Mathlib.Decide.{dec_lt, ℕ_discrete}
use lib.Dec.{eqb, ltb, leb}
use borrow.Author.Tests.{eq-eqb, ne_eqb, lt-ltb, le-ltb, leb-false, leb-true, ltb-true}
use Rattle.words.specs.Choice.{pick}
use Rattle.words.specs.Counting.{all_below}
use Rattle.words.proofs.ChoiceLaws.{pick_cases}
use Rattle.words.proofs.TruthLaws.{and_left, and_right, and_parts, same_test}
use Rattle.words.proofs.Promises.{kept as words}
use Rattle.text.specs.Phrases.{bytes}
use Rattle.steps.specs.declared.Access.{Access}
use Rattle.steps.specs.declared.Access.TheVariants.{NoRegister, ReadWrite}
use Rattle.cic_record.specs.declared.Cic.{Cic}
use Rattle.cic_registers.specs.Map.{single_at, register_at, access_of, access}
use Rattle.cic.proofs.Promises.{kept as cic}
use Rattle.cic_held.specs.declared.Prioritised.{Prioritised}
use Rattle.cic_indexed.specs.Tables.{access_at}
use Rattle.cic_indexed.proofs.Promises.{kept as indexed}
use Rattle.register_names.specs.Rows.{Row, alone, group, in_group, in_row, several, by, there_of, at_most}
use Rattle.register_names.specs.Maps.{cic_rows, cic_groups, index_rows}
use Rattle.register_names.specs.Promises.{Exactly}
use Rattle.register_names.proofs.RowLaws.{below-group, from-group}
use Rattle.register_names.proofs.ExactLaws.{any_row, known, known-none, none-known, and-off, exact, same, same-is, or-none, no_row, not_alone, not_words, past}

-- ---- how many there are

ltb_iff : (a b c d : ℕ) → (a < b → c < d) → (c < d → a < b) → ltb a b ≡ ltb c d
ltb_iff a b c d f g = same_test (ltb a b) (ltb c d) (λ e. lt-ltb c d (f (ltb-true a b e))) (λ e. lt-ltb a b (g (ltb-true c d e)))

module _ (most n : ℕ) where
  most_words : there_of 32 most n ≤ most
  unfolding there_of
  most_words = pick_cases (λ (z : ℕ). z ≤ most) (leb (32 * most) n) (λ e. omega arith) (λ e. omega (arith, leb-false (32 * most) n e))

  most_quarters : there_of 4 most n ≤ most
  unfolding there_of
  most_quarters = pick_cases (λ (z : ℕ). z ≤ most) (leb (4 * most) n) (λ e. omega arith) (λ e. omega (arith, leb-false (4 * most) n e))

  most-single : at_most most n ≤ most
  unfolding at_most
  most-single = pick_cases (λ (z : ℕ). z ≤ most) (leb most n) (λ e. omega arith) (λ e. omega (arith, leb-false most n e))

  -- register k is there exactly if its first thing is one of n
  there_words : (k : ℕ) → k < most → ltb k (there_of 32 most n) ≡ ltb (32 * k) n
  unfolding there_of
  there_words k h =
      pick_cases (λ (z : ℕ). ltb k z ≡ ltb (32 * k) n) (leb (32 * most) n)
      (λ e. ltb_iff k most (32 * k) n (λ l. omega (arith, l, leb-true (32 * most) n e)) (λ l. h))
      (λ e. ltb_iff k ((n + 31) / 32) (32 * k) n (λ l. omega (arith, l)) (λ l. omega (arith, l)))

  there_quarters : (k : ℕ) → k < most → ltb k (there_of 4 most n) ≡ ltb (4 * k) n
  unfolding there_of
  there_quarters k h =
      pick_cases (λ (z : ℕ). ltb k z ≡ ltb (4 * k) n) (leb (4 * most) n)
      (λ e. ltb_iff k most (4 * k) n (λ l. omega (arith, l, leb-true (4 * most) n e)) (λ l. h))
      (λ e. ltb_iff k ((n + 3) / 4) (4 * k) n (λ l. omega (arith, l)) (λ l. omega (arith, l)))

  there-single : (k : ℕ) → k < most → ltb k (at_most most n) ≡ ltb k n
  unfolding at_most
  there-single k h =
      pick_cases (λ (z : ℕ). ltb k z ≡ ltb k n) (leb most n)
      (λ e. ltb_iff k most k n (λ l. omega (arith, l, leb-true most n e)) (λ l. h))
      (λ e. refl)

-- ---- within a group

-- what a model allows at the registers of a group, each for its first thing
abbrev Allows : (ℕ → Access) → (ℕ → ℕ) → ℕ → ℕ → ℕ → Type 0
Allows a f first most n =
    (k : ℕ) → k < most → ((a (first + 4 * k) ≡ ReadWrite) ↔ (f k < n)) × ((a (first + 4 * k) ≡ NoRegister) ↔ (n ≤ f k))

known_there : (a : Access) (m n : ℕ) → (m < n → a ≡ ReadWrite) → (n ≤ m → a ≡ NoRegister) → ltb m n ≡ known a
unfolding known
known_there a m n f g = go (dec_lt m n)
  where
    go : Dec (m < n) → ltb m n ≡ known a
    go (yes l) = lt-ltb m n l ∙ sym (ap known (f l))
    go (no l) = le-ltb m n (omega (arith, l)) ∙ sym (ap known (g (omega (arith, l))))

region : (a : ℕ → Access) (f : ℕ → ℕ) (first most count n o : ℕ) → first % 4 ≡ 0 → first ≤ o → o < first + 4 * most
    → ((k : ℕ) → k < most → ltb k count ≡ ltb (f k) n) → Allows a f first most n → in_group first count 4 o ≡ (eqb (o % 4) 0 && known (a o))
region a f first most count n o z lo hi c t = sym (from-group first count 4 o lo) ∙ go (ℕ_discrete (o % 4) 0)
  where
    k : ℕ
    k = (o - first) / 4

    go : Dec (o % 4 ≡ 0) → (eqb ((o - first) % 4) 0 && ltb k count) ≡ (eqb (o % 4) 0 && known (a o))
    go (yes e) =
        let i : k < most = omega (arith, hi, lo) in
        let at : first + 4 * k ≡ o = omega (arith, z, lo, e) in
        and_parts (eq-eqb ((o - first) % 4) 0 (omega (arith, z, lo, e)) ∙ sym (eq-eqb (o % 4) 0 e))
        (c k i ∙ known_there (a (first + 4 * k)) (f k) n (t k i).0.1 (t k i).1.1 ∙ ap (λ (x : ℕ). known (a x)) at)
    go (no e) =
        ap (λ (b : Bool). b && ltb k count) (ne_eqb ((o - first) % 4) 0 (λ y. e (omega (arith, z, lo, y)))) ∙ sym (ap (λ (b : Bool). b && known (a o)) (ne_eqb (o % 4) 0 e))

-- ---- group by group

-- all rows begin at a limit or behind it
unfoldable starts_at : ℕ → List Row → Bool
starts_at limit [] = true
starts_at limit (alone first name section ∷ rs) = leb limit first && starts_at limit rs
starts_at limit (group first count step name section ∷ rs) = leb limit first && starts_at limit rs

all-before : (rs : List Row) (limit o : ℕ) → starts_at limit rs ≡ true → o < limit → any_row rs o ≡ false
unfolding starts_at in_row
all-before [] limit o s h = no_row o
all-before (alone first name section ∷ rs) limit o s h =
    or-none _ rs o (ne_eqb o first (λ e. omega (arith, e, h, leb-true limit first (and_left (leb limit first) (starts_at limit rs) s))))
    (all-before rs limit o (and_right (leb limit first) (starts_at limit rs) s) h)
all-before (group first count step name section ∷ rs) limit o s h =
    or-none _ rs o (sym (below-group first count step o (omega (arith, h, leb-true limit first (and_left (leb limit first) (starts_at limit rs) s)))))
    (all-before rs limit o (and_right (leb limit first) (starts_at limit rs) s) h)

-- past a row that has not the offset
skip : (r : Row) (rs : List Row) (o : ℕ) (v : Bool) → in_row r o ≡ false → any_row rs o ≡ v → any_row (r ∷ rs) o ≡ v
unfolding any_row
skip r rs o v e f = ap (λ (b : Bool). b || any_row rs o) e ∙ f

or_off : (v : Bool) → (v || false) ≡ v
or_off true = refl
or_off false = refl

-- the only row that may have it
only : (r : Row) (rs : List Row) (o : ℕ) (v : Bool) → in_row r o ≡ v → any_row rs o ≡ false → any_row (r ∷ rs) o ≡ v
unfolding any_row
only r rs o v e f = ap (λ (b : Bool). b || any_row rs o) e ∙ ap (λ (b : Bool). v || b) f ∙ or_off v

walk : (o first most count : ℕ) (name section : List ℕ) (rs : List Row) (v : Bool) → count ≤ most → starts_at (first + 4 * most) rs ≡ true
    → (o < first + 4 * most → in_group first count 4 o ≡ v) → (first + 4 * most ≤ o → any_row rs o ≡ v) → any_row (group first count 4 name section ∷ rs) o ≡ v
unfolding in_row
walk o first most count name section rs v c s f g = go (dec_lt o (first + 4 * most))
  where
    go : Dec (o < first + 4 * most) → any_row (group first count 4 name section ∷ rs) o ≡ v
    go (yes l) = only _ rs o v (f l) (all-before rs (first + 4 * most) o s l)
    go (no l) = skip _ rs o v (not_words first count o name section (omega (arith, l, c))) (g (omega (arith, l)))

-- ---- the CIC

-- those that stand alone, one by one
small : (c : Cic) (w : Bool) → all_below 0x200 (λ o. same (any_row (cic_rows w c.systems c.channels c.hosts) o) (eqb (o % 4) 0 && known (access c o))) ≡ true
unfolding all_below any_row known same in_row in_group register_at single_at access_of pick
small c w = refl

module _ (c : Cic) (w : Bool) (o : ℕ) where
  abbrev there : Bool
  there = eqb (o % 4) 0 && known (access c o)

  -- nothing between the host map and the host enables, and nothing behind those
  enables : 0x900 ≤ o → any_row (several 0x1500 (there_of 32 8 c.hosts) 4 "ENABLE_HINT" "001, 2.2.18" ∷ []) o ≡ there
  unfolding starts_at
  enables g = go (dec_lt o 0x1500)
    where
      go : Dec (o < 0x1500) → any_row (several 0x1500 (there_of 32 8 c.hosts) 4 "ENABLE_HINT" "001, 2.2.18" ∷ []) o ≡ there
      go (yes l) = past _ o (access c o) (all-before _ 0x1500 o refl l) (λ z. (cic.map c).no_host_indices o g l)
      go (no l) =
          walk o 0x1500 8 _ _ _ [] there (most_words 8 c.hosts) refl
          (λ h. region (access c) (λ k. 32 * k) 0x1500 8 _ c.hosts o refl (omega (arith, l)) h (there_words 8 c.hosts) (cic.map c).host_enable)
          (λ h. past [] o (access c o) (no_row o) (λ z. (cic.map c).nothing_after o h))

  groups : 0x200 ≤ o → any_row (cic_groups w c.systems c.channels c.hosts) o ≡ there
  unfolding starts_at
  groups lo =
      walk o 0x200 32 _ _ _ _ there (most_words 32 c.systems) refl
      (λ h. region (access c) (λ k. 32 * k) 0x200 32 _ c.systems o refl lo h (there_words 32 c.systems) (cic.map c).raw_set)
      (λ lo1. walk o 0x280 32 _ _ _ _ there (most_words 32 c.systems) refl
      (λ h. region (access c) (λ k. 32 * k) 0x280 32 _ c.systems o refl lo1 h (there_words 32 c.systems) (cic.map c).enabled_clear)
      (λ lo2. walk o 0x300 32 _ _ _ _ there (most_words 32 c.systems) refl
      (λ h. region (access c) (λ k. 32 * k) 0x300 32 _ c.systems o refl lo2 h (there_words 32 c.systems) (cic.map c).enable_set)
      (λ lo3. walk o 0x380 32 _ _ _ _ there (most_words 32 c.systems) refl
      (λ h. region (access c) (λ k. 32 * k) 0x380 32 _ c.systems o refl lo3 h (there_words 32 c.systems) (cic.map c).enable_clear)
      (λ lo4. walk o 0x400 256 _ _ _ _ there (most_quarters 256 c.systems) refl
      (λ h. region (access c) (λ k. 4 * k) 0x400 256 _ c.systems o refl lo4 h (there_quarters 256 c.systems) (cic.map c).channel_map)
      (λ lo5. walk o 0x800 64 _ _ _ _ there (most_quarters 64 c.channels) refl
      (λ h. region (access c) (λ k. 4 * k) 0x800 64 _ c.channels o refl lo5 h (there_quarters 64 c.channels) (cic.map c).host_map)
      (λ lo6. enables lo6))))))

  large : 0x200 ≤ o → any_row (cic_rows w c.systems c.channels c.hosts) o ≡ there
  large lo =
      skip _ _ o there (not_alone 0x000 o _ _ (omega (arith, lo)))
      (skip _ _ o there (not_alone 0x010 o _ _ (omega (arith, lo)))
      (skip _ _ o there (not_alone 0x020 o _ _ (omega (arith, lo)))
      (skip _ _ o there (not_alone 0x024 o _ _ (omega (arith, lo)))
      (skip _ _ o there (not_alone 0x028 o _ _ (omega (arith, lo)))
      (skip _ _ o there (not_alone 0x02C o _ _ (omega (arith, lo)))
      (skip _ _ o there (not_alone 0x034 o _ _ (omega (arith, lo)))
      (skip _ _ o there (not_alone 0x038 o _ _ (omega (arith, lo)))
      (groups lo))))))))

  cic_any : any_row (cic_rows w c.systems c.channels c.hosts) o ≡ there
  cic_any = go (dec_lt o 0x200)
    where
      go : Dec (o < 0x200) → any_row (cic_rows w c.systems c.channels c.hosts) o ≡ there
      go (yes l) =
          same-is _ _ ((words.all_exactly 0x200 (λ k. same (any_row (cic_rows w c.systems c.channels c.hosts) k) (eqb (k % 4) 0 && known (access c k)))).0 (small c w) o l)
      go (no l) = large (omega (arith, l))

by-access : (rs : List Row) (o : ℕ) (a : Access) → any_row rs o ≡ (eqb (o % 4) 0 && known a) → Exactly rs o (a ≡ NoRegister)
by-access rs o a e = exact rs o (known a) (a ≡ NoRegister) (known-none a) (none-known a) e

pub cic_exactly : (c : Cic) (written : Bool) (o : ℕ) → Exactly (cic_rows written c.systems c.channels c.hosts) o (access c o ≡ NoRegister)
cic_exactly c written o = by-access _ o (access c o) (cic_any c written o)

-- ---- with prioritised indices

pub choice-off : (p : Prioritised) (written : Bool) (o : ℕ) → p.held.choice ≡ 0
    → Exactly (cic_rows written p.cic.systems p.cic.channels p.cic.hosts) o (access_at p o ≡ NoRegister)
choice-off p written o e =
    by-access _ o (access_at p o) (cic_any p.cic written o ∙ ap (λ (a : Access). eqb (o % 4) 0 && known a) (sym (indexed.map_off p o e)))

module _ (p : Prioritised) (w : Bool) (on : p.held.choice ≡ 1) where
  abbrev has : ℕ → Type 0
  has o = any_row (index_rows w p.cic.systems p.cic.channels p.cic.hosts) o ≡ (eqb (o % 4) 0 && known (access_at p o))

  at-control : has 0x004
  unfolding any_row in_row known
  at-control = sym (ap known (indexed.map p on).control)

  at_global : has 0x080
  unfolding any_row in_row known
  at_global = sym (ap known (indexed.map p on).global_index)

  module _ (o : ℕ) (a : o ≢ 0x004) (b : o ≢ 0x080) where
    -- neither of the two, so the indices of hosts or a register of the CIC
    abbrev value : Bool
    value = eqb (o % 4) 0 && known (access_at p o)

    elsewhere : (o < 0x900) ⊎ (0xD00 ≤ o) → any_row (cic_rows w p.cic.systems p.cic.channels p.cic.hosts) o ≡ value
    elsewhere s = cic_any p.cic w o ∙ ap (λ (x : Access). eqb (o % 4) 0 && known x) (sym ((indexed.map p on).elsewhere o a b s))

    none_there : 0x900 ≤ o → o < 0xD00 → any_row (cic_rows w p.cic.systems p.cic.channels p.cic.hosts) o ≡ false
    none_there l h =
        cic_any p.cic w o ∙ ap (λ (t : Bool). eqb (o % 4) 0 && t) (none-known (access p.cic o) ((cic.map p.cic).no_host_indices o l (omega (arith, h)))) ∙ and-off (eqb (o % 4) 0)

    beside : has o
    unfolding in_row
    beside = skip _ _ o value (ne_eqb o 0x004 a) (skip _ _ o value (ne_eqb o 0x080 b) (go (dec_lt o 0x900) (dec_lt o 0xD00)))
      where
        go : Dec (o < 0x900) → Dec (o < 0xD00)
            → any_row (group 0x900 (at_most 256 p.cic.hosts) 4 (bytes "HINT_PRI_INDEX") (by w "001, 2.2.17" "001, 1.3.5") ∷ cic_rows w p.cic.systems p.cic.channels p.cic.hosts) o ≡ value
        go (yes l) h = skip _ _ o value (sym (below-group 0x900 (at_most 256 p.cic.hosts) 4 o l)) (elsewhere (inl l))
        go (no l) (yes h) =
            only _ _ o value (region (access_at p) (λ k. k) 0x900 256 (at_most 256 p.cic.hosts) p.cic.hosts o refl (omega (arith, l)) h (there-single 256 p.cic.hosts) (indexed.map p on).host_index)
            (none_there (omega (arith, l)) h)
        go (no l) (no h) = skip _ _ o value (not_words 0x900 (at_most 256 p.cic.hosts) o (bytes "HINT_PRI_INDEX") (by w "001, 2.2.17" "001, 1.3.5") (omega (arith, h, most-single 256 p.cic.hosts))) (elsewhere (inr (omega (arith, h))))

  index_any : (o : ℕ) → has o
  index_any o = go (ℕ_discrete o 0x004) (ℕ_discrete o 0x080)
    where
      go : Dec (o ≡ 0x004) → Dec (o ≡ 0x080) → has o
      go (yes e) d = subst has (sym e) at-control
      go (no a) (yes e) = subst has (sym e) at_global
      go (no a) (no b) = beside o a b

pub indexed_exactly : (p : Prioritised) (written : Bool) (o : ℕ) → p.held.choice ≡ 1
    → Exactly (index_rows written p.cic.systems p.cic.channels p.cic.hosts) o (access_at p o ≡ NoRegister)
indexed_exactly p written o on = by-access _ o (access_at p o) (index_any p written on o)
