-- What a write leaves held, and so what ends the hold of a host's index and of the global one.
use mathlib.Core.Bool.{true, false}
use mathlib.Core.Logic.{◌↔◌, ◌≢◌, ◌⊎◌, inl, inr}
use mathlib.Core.Path.{◌≡◌, sym, ap, ◌∙◌}
use Prim.Native.Nat.{ℕ, ◌+◌, ◌-◌, ◌*◌, ◌/◌, ◌%◌, ◌^◌, ◌<◌, ◌≤◌}
use native.Mathlib.Decide.{dec_lt, ℕ_discrete}
use native.Mathlib.Omega.{arith}
use borrow.Author.Tests.{eq-eqb}
use lib.ListN.{get_or, set}
use Rattle.words.specs.Word.{bit}
use Rattle.words.proofs.ArrayLaws.{zeros_get_d}
use Rattle.words.proofs.ChoiceLaws.{pick_true}
use Rattle.words.proofs.TruthLaws.{told, clash}
use Rattle.steps.specs.declared.Step.TheVariants.{Write}
use Rattle.steps.specs.Refusals.{carried_out}
use Rattle.cic_record.specs.Kinds.{host_number}
use Rattle.cic_record.proofs.PartsLaws.{sound-counts}
use Rattle.cic_registers.specs.Model as cic
use Rattle.cic.proofs.Promises as of-cic
use Rattle.cic_held.specs.declared.Answer.{Answer}
use Rattle.cic_held.specs.declared.Held.{Held}
use Rattle.cic_held.specs.declared.Prioritised.{Prioritised}
use Rattle.cic_held.specs.Held.{prioritised, sound}
use Rattle.cic_indexed.specs.declared.Own.TheVariants.{Elsewhere, HostIndex}
use Rattle.cic_indexed.specs.Registers.{own_at, held_after}
use Rattle.cic_indexed.specs.Model.{refused, answered, beside, write}
use Rattle.cic_indexed.proofs.SoundLaws.{sound-cic, host-below}
use Rattle.cic_indexed.proofs.StepLaws.{no_write, not_there}
use Rattle.cic_indexed.specs.Tables.{Changes, EndsHost, EndsGlobal}
use Rattle.cic_indexed.proofs.CicLaws.{plain-write, written-plain, own-not-written, writes-elsewhere}
use Rattle.cic_indexed.proofs.EndLaws.{decide_by, host-after, global-after, none_after}
use Rattle.cic_indexed.proofs.FreedLaws.{Decided, ended, stayed, set_here, set_other}
use Rattle.cic_indexed.proofs.IndexLaws.{mode-chosen, global_mode, host_mode, global-write, host-write, control-off, control_again}
use Rattle.cic_indexed.proofs.NumberLaws.{written_number, write_numbers, refused-same}
use Rattle.cic_indexed.proofs.PlaceLaws.{Place, control, global, indices, other, place, on_or-not}

-- what is held after an answer
left : Answer → Held
left a = a.prioritised.held

-- ---- a write that is carried out where the choice is on

module _ (p : Prioritised) (o v : ℕ) (e : sound p ≡ true) (on : p.held.choice ≡ 1) (done : (write p o v).refusal ≡ carried_out) where
  four : o % 4 ≡ 0
  four = ((write_numbers p o v).none.0 done).1.0

  taken : cic.refusal_at p.cic o v ≡ 0
  taken = ((write_numbers p o v).none.0 done).1.1.1

  -- elsewhere, in the mode
  plain-left : p.held.hold ≡ 1 → own_at p o ≡ Elsewhere → left (write p o v) ≡ held_after p.cic p.held o v
  unfolding left
  plain-left z at =
      let a = cic.write p.cic o v in
      let w = plain-write p o v e at in
      let n : a.refusal ≡ carried_out = sym (written_number p o v a) ∙ sym (ap (λ (y : Answer). y.refusal) w) ∙ done in
      ap left w ∙ sym (ap left (pick_true (refused p a.refusal) (eq-eqb a.refusal carried_out n)))
      ∙ sym (pick_true p.held (eq-eqb p.held.hold 1 z))

  -- an index by which a host is set or cleared is one of a configured host
  set_below : o ≡ 0x034 → v < p.cic.hosts
  set_below f = go (dec_lt v p.cic.hosts)
    where
      go : Dec (v < p.cic.hosts) → v < p.cic.hosts
      go (yes l) = l
      go (no n) =
          absurd (omega (arith, taken, ap (λ (i : ℕ). cic.refusal_at p.cic i v) f, ((of-cic.kept).limits p.cic v).host_index.0.1 (omega (arith, n))))

  clear-below : o ≡ 0x038 → v < p.cic.hosts
  clear-below f = go (dec_lt v p.cic.hosts)
    where
      go : Dec (v < p.cic.hosts) → v < p.cic.hosts
      go (yes l) = l
      go (no n) =
          absurd (omega (arith, taken, ap (λ (i : ℕ). cic.refusal_at p.cic i v) f, ((of-cic.kept).limits p.cic v).host_index.1.1 (omega (arith, n))))

  -- the index of a host that is written is that of a configured one
  module _ (l : 0x900 ≤ o) (m : o < 0xD00) (at : own_at p o ≡ HostIndex (host_number ((o - 0x900) / 4))) where
    its_host : (o - 0x900) / 4 < p.cic.hosts
    its_host = go (dec_lt ((o - 0x900) / 4) p.cic.hosts)
      where
        go : Dec ((o - 0x900) / 4 < p.cic.hosts) → (o - 0x900) / 4 < p.cic.hosts
        go (yes b) = b
        go (no n) =
            let r = own-not-written p o v ((o - 0x900) / 4) e at (not_there p ((o - 0x900) / 4) (omega (arith, n))) in
            absurd (no_write o 0 (sym (ap (λ (y : Answer). y.refusal) r) ∙ done))

    its-offset : o ≡ 0x900 + 4 * ((o - 0x900) / 4)
    its-offset = omega (arith, l, four)

    index-left : write p o v ≡ answered (prioritised p.cic (record { choice = p.held.choice; hold = p.held.hold; global = p.held.global; host = set p.held.host ((o - 0x900) / 4) 0 })) 0
    index-left =
        ap (λ (i : ℕ). write p i v) its-offset ∙ host-write p e on ((o - 0x900) / 4) its_host v

  -- ---- in the mode

  host_decided : p.held.hold ≡ 1 → (h : ℕ) → h < p.cic.hosts → Decided (EndsHost h o v) (get_or (left (write p o v)).host h 0) (get_or p.held.host h 0)
  unfolding left
  host_decided z h b = go (place p o on)
    where
      entry : Held → ℕ
      entry y = get_or y.host h 0

      -- bit 4 of control
      by_mode : o ≡ 0x004 → (bit v 4 ≡ true) ⊎ (bit v 4 ≡ false) → Decided (EndsHost h o v) (entry (left (write p o v))) (entry p.held)
      by_mode f (inr g) = ended (inr (inr (f, g))) (ap (λ (i : ℕ). entry (left (write p i v))) f ∙ ap (λ (a : Answer). entry (left a)) (control-off p v e on g) ∙ zeros_get_d 256 h)
      by_mode f (inl t) = stayed not-ended (ap (λ (i : ℕ). entry (left (write p i v))) f ∙ ap (λ (a : Answer). entry (left a)) (control_again p v e z t))
        where
          not-ended : EndsHost h o v → ⊥
          not-ended (inl g) = omega (arith, f, g)
          not-ended (inr (inl (inl g))) = omega (arith, f, g.0)
          not-ended (inr (inl (inr (inl g)))) = omega (arith, f, g.0)
          not-ended (inr (inl (inr (inr g)))) = omega (arith, f, g.0)
          not-ended (inr (inr g)) = clash t g.1

      not_global : o ≡ 0x080 → EndsHost h o v → ⊥
      not_global f (inl g) = omega (arith, f, g)
      not_global f (inr (inl (inl g))) = omega (arith, f, g.0)
      not_global f (inr (inl (inr (inl g)))) = omega (arith, f, g.0)
      not_global f (inr (inl (inr (inr g)))) = omega (arith, f, g.0)
      not_global f (inr (inr g)) = omega (arith, f, g.0)

      -- of the index registers its own alone
      own_index : 0x900 ≤ o → o < 0xD00 → EndsHost h o v → h ≡ (o - 0x900) / 4
      own_index l m (inl g) = omega (arith, g)
      own_index l m (inr (inl (inl g))) = absurd (omega (arith, l, g.0))
      own_index l m (inr (inl (inr (inl g)))) = absurd (omega (arith, l, g.0))
      own_index l m (inr (inl (inr (inr g)))) = absurd (omega (arith, m, g.0))
      own_index l m (inr (inr g)) = absurd (omega (arith, l, g.0))

      at_index : (l : 0x900 ≤ o) (m : o < 0xD00) (at : own_at p o ≡ HostIndex (host_number ((o - 0x900) / 4))) → Dec (h ≡ (o - 0x900) / 4)
          → Decided (EndsHost h o v) (entry (left (write p o v))) (entry p.held)
      at_index l m at (yes f) =
          ended (inl (its-offset l m at ∙ ap (λ (i : ℕ). 0x900 + 4 * i) (sym f)))
          (ap (λ (a : Answer). entry (left a)) (index-left l m at) ∙ ap (λ (i : ℕ). get_or (set p.held.host ((o - 0x900) / 4) 0) i 0) f ∙ set_here p.held.host ((o - 0x900) / 4))
      at_index l m at (no d) =
          stayed (λ g. d (own_index l m g)) (ap (λ (a : Answer). entry (left a)) (index-left l m at) ∙ set_other p.held.host ((o - 0x900) / 4) h d)

      go : Place p o → Decided (EndsHost h o v) (entry (left (write p o v))) (entry p.held)
      go (control f _) = by_mode f (told (bit v 4))
      go (global f _) =
          stayed (not_global f) (ap (λ (i : ℕ). entry (left (write p i v))) f ∙ ap (λ (a : Answer). entry (left a)) (global-write p e on v))
      go (indices l m at) = at_index l m at (ℕ_discrete h ((o - 0x900) / 4))
      go (other a c w at) = decide_by (λ g. inr (inl g)) (elsewhere a w) (ap entry (plain-left z at)) (host-after p.cic p.held o v h b (host-below p h e b) four)
        where
          elsewhere : o ≢ 0x004 → (o < 0x900) ⊎ (0xD00 ≤ o) → EndsHost h o v → Changes h o v
          elsewhere a (inl l) (inl g) = absurd (omega (arith, l, g))
          elsewhere a (inr l) (inl g) = absurd (omega (arith, l, g, host-below p h e b))
          elsewhere a w (inr (inl g)) = g
          elsewhere a w (inr (inr g)) = absurd (a g.0)

  global_decided : p.held.hold ≡ 1 → v < 2 ^ 32 → Decided (EndsGlobal p.cic.hosts o v) (left (write p o v)).global p.held.global
  unfolding left
  global_decided z b = go (place p o on)
    where
      entry : Held → ℕ
      entry y = y.global

      by_mode : o ≡ 0x004 → (bit v 4 ≡ true) ⊎ (bit v 4 ≡ false) → Decided (EndsGlobal p.cic.hosts o v) (entry (left (write p o v))) (entry p.held)
      by_mode f (inr g) = ended (inr (inr (f, g))) (ap (λ (i : ℕ). entry (left (write p i v))) f ∙ ap (λ (a : Answer). entry (left a)) (control-off p v e on g))
      by_mode f (inl t) = stayed not-ended (ap (λ (i : ℕ). entry (left (write p i v))) f ∙ ap (λ (a : Answer). entry (left a)) (control_again p v e z t))
        where
          not-ended : EndsGlobal p.cic.hosts o v → ⊥
          not-ended (inl g) = omega (arith, f, g)
          not-ended (inr (inl (h, l, inl g))) = omega (arith, f, g.0)
          not-ended (inr (inl (h, l, inr (inl g)))) = omega (arith, f, g.0)
          not-ended (inr (inl (h, l, inr (inr g)))) = omega (arith, f, g.0)
          not-ended (inr (inr g)) = clash t g.1

      -- no index register of a host
      not_index : 0x900 ≤ o → o < 0xD00 → EndsGlobal p.cic.hosts o v → ⊥
      not_index l m (inl g) = omega (arith, l, g)
      not_index l m (inr (inl (h, n, inl g))) = omega (arith, l, g.0)
      not_index l m (inr (inl (h, n, inr (inl g)))) = omega (arith, l, g.0)
      not_index l m (inr (inl (h, n, inr (inr g)))) = omega (arith, m, g.0)
      not_index l m (inr (inr g)) = omega (arith, l, g.0)

      elsewhere : o ≢ 0x004 → o ≢ 0x080 → EndsGlobal p.cic.hosts o v → (h : ℕ) × (h < p.cic.hosts) × Changes h o v
      elsewhere a c (inl g) = absurd (c g)
      elsewhere a c (inr (inl g)) = g
      elsewhere a c (inr (inr g)) = absurd (a g.0)

      go : Place p o → Decided (EndsGlobal p.cic.hosts o v) (entry (left (write p o v))) (entry p.held)
      go (control f _) = by_mode f (told (bit v 4))
      go (global f _) = ended (inl f) (ap (λ (i : ℕ). entry (left (write p i v))) f ∙ ap (λ (a : Answer). entry (left a)) (global-write p e on v))
      go (indices l m at) = stayed (not_index l m) (ap (λ (a : Answer). entry (left a)) (index-left l m at))
      go (other a c w at) =
          decide_by (λ g. inr (inl g)) (elsewhere a c) (ap entry (plain-left z at))
          (global-after p.cic p.held o v (sound-counts p.cic (sound-cic p e)).hosts.1 b four set_below clear-below)

-- ---- elsewhere, where no host is set or cleared

module _ (p : Prioritised) (o v : ℕ) (e : sound p ≡ true) (b : v < 2 ^ 32) (a4 : o ≢ 0x004) (a80 : o ≢ 0x080) (out : (o < 0x900) ⊎ (0x900 + 4 * p.cic.hosts ≤ o)) (none : (h : ℕ) → h < p.cic.hosts → Changes h o v → ⊥) where
  -- at no register of its own, in the mode and outside it
  plain_leaves : (write p o v).refusal ≡ carried_out → own_at p o ≡ Elsewhere → left (write p o v) ≡ p.held
  unfolding left
  plain_leaves done at = go (ℕ_discrete p.held.hold 1)
    where
      go : Dec (p.held.hold ≡ 1) → left (write p o v) ≡ p.held
      go (yes z) =
          let on = mode-chosen p e z in
          plain-left p o v e on done z at ∙ none_after p.cic p.held o v b (four p o v e on done) (set_below p o v e on done) (clear-below p o v e on done) none
      go (no n) =
          ap left (plain-write p o v e at ∙ written-plain p o v (cic.write p.cic o v) n (unfold cic.step_as in (of-cic.kept).refused_same p.cic (Write o v)))

  held_leaves : Dec ((write p o v).refusal ≡ carried_out) → left (write p o v) ≡ p.held
  held_leaves (no d) = unfold left in ap left (refused-same p (Write o v) d)
  held_leaves (yes done) = go (on_or-not p o)
    where
      at : p.held.choice ≡ 1 → Place p o → left (write p o v) ≡ p.held
      at on (control x _) = absurd (a4 x)
      at on (global x _) = absurd (a80 x)
      at on (indices l m x) = absurd (beyond out (its_host p o v e on done l m x))
        where
          beyond : (o < 0x900) ⊎ (0x900 + 4 * p.cic.hosts ≤ o) → (o - 0x900) / 4 < p.cic.hosts → ⊥
          beyond (inl y) f = omega (arith, l, y)
          beyond (inr y) f = omega (arith, y, f)
      at on (other _ _ _ x) = plain_leaves done x

      go : (p.held.choice ≡ 1) ⊎ (own_at p o ≡ Elsewhere) → left (write p o v) ≡ p.held
      go (inl on) = at on (place p o on)
      go (inr x) = plain_leaves done x

  pub writes_leave : write p o v ≡ beside p.held (cic.write p.cic o v)
  unfolding left
  writes_leave =
      writes-elsewhere p o e a4 a80 out v ∙ ap (λ (y : Held). beside y (cic.write p.cic o v)) (held_leaves (ℕ_discrete (write p o v).refusal carried_out))

-- ---- what ends a hold

-- a write that is refused leaves what was held
refused-left : (p : Prioritised) (o v : ℕ) → (write p o v).refusal ≢ carried_out → left (write p o v) ≡ p.held
unfolding left
refused-left p o v d = ap left (refused-same p (Write o v) d)

-- a hold that there was is ended exactly if it is decided so
exactly : {E D : Type 0} {x b : ℕ} → b ≢ 0 → D → Decided E x b → (x ≡ 0) ↔ (D × E)
exactly d w (ended f z) = ((λ _. (w, f)), (λ _. z))
exactly d w (stayed n s) = ((λ z. absurd (d (sym s ∙ z))), (λ f. absurd (n f.1)))

refused_none : {E D : Type 0} {x b : ℕ} → b ≢ 0 → (D → ⊥) → x ≡ b → (x ≡ 0) ↔ (D × E)
refused_none d n s = ((λ z. absurd (d (sym s ∙ z))), (λ f. absurd (n f.0)))

pub host-ends : (p : Prioritised) (h o v : ℕ) → sound p ≡ true → h < p.cic.hosts → get_or p.held.host h 0 ≢ 0
    → (get_or (write p o v).prioritised.held.host h 0 ≡ 0) ↔ (((write p o v).refusal ≡ carried_out) × EndsHost h o v)
unfolding left
host-ends p h o v e l d = go (ℕ_discrete (write p o v).refusal carried_out)
  where
    go : Dec ((write p o v).refusal ≡ carried_out) → (get_or (write p o v).prioritised.held.host h 0 ≡ 0) ↔ (((write p o v).refusal ≡ carried_out) × EndsHost h o v)
    go (yes w) = let z = host_mode p h e l d in exactly d w (host_decided p o v e (mode-chosen p e z) w z h l)
    go (no n) = refused_none d n (ap (λ (y : Held). get_or y.host h 0) (refused-left p o v n))

pub global-ends : (p : Prioritised) (o v : ℕ) → sound p ≡ true → v < 2 ^ 32 → p.held.global ≢ 0
    → ((write p o v).prioritised.held.global ≡ 0) ↔ (((write p o v).refusal ≡ carried_out) × EndsGlobal p.cic.hosts o v)
unfolding left
global-ends p o v e b d = go (ℕ_discrete (write p o v).refusal carried_out)
  where
    go : Dec ((write p o v).refusal ≡ carried_out) → ((write p o v).prioritised.held.global ≡ 0) ↔ (((write p o v).refusal ≡ carried_out) × EndsGlobal p.cic.hosts o v)
    go (yes w) = let z = global_mode p e d in exactly d w (global_decided p o v e (mode-chosen p e z) w z b)
    go (no n) = refused_none d n (ap (λ (y : Held). y.global) (refused-left p o v n))
