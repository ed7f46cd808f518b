-- The promises of the words of a step, kept.
use Prim.Native.Nat.{ℕ, ◌<◌, ◌≤◌}
use mathlib.Core.Path.{◌≡◌, refl, sym, ap, ap₂, ◌∙◌}
use mathlib.Core.Bool.{Bool, true, ◌||◌}
use mathlib.Core.List.{◌++◌}
use mathlib.Core.Logic.{◌≢◌, ◌⊎◌, inl, inr}
use native.Mathlib.Omega.{arith}
use lib.Dec.{eqb}
use borrow.Author.Tests.{eq-eqb, ne_eqb, lt-ltb, le-ltb}
use Rattle.words.specs.Array.{byte_of}
use Rattle.words.specs.Choice.{pick}
use Rattle.words.specs.Counting.{count_below}
use Rattle.words.specs.Word.{bit}
use Rattle.words.proofs.ChoiceLaws.{pick_true, pick-false}
use Rattle.words.proofs.TruthLaws.{or_left, or_right}
use Rattle.text.specs.Text.{decimal_of}
use Rattle.text.specs.Phrases.{bytes, counted}
use Rattle.steps.specs.declared.Recorded.{Recorded}
use Rattle.steps.specs.declared.Step.TheVariants.{Line}
use Rattle.register_names.specs.Rows.{place_in}
use Rattle.register_names.specs.Maps.{aic_rows, core_rows, cic_rows, index_rows, aintc_rows}
use Rattle.aic_record.specs.Mode.{priority_of, type_of, kept_mode}
use Rattle.kinds.specs.Kinds.{cic_kind, indexed_kind}
use Rattle.kinds.proofs.KindLaws.{at_aic, at_core, at-cic, at_aintc, at_indexed}
use Rattle.machine.specs.declared.record.Machine.{Machine}
use Rattle.register_words.specs.Fields.{told_bit, told_below, more_words, bit_words, byte_words, map_words, type_words, mode_words, route_words}
use Rattle.register_words.specs.Registers.{register_words, beyond_words, access_words, level_words, limit_at, limit_words}
use Rattle.register_words.specs.Promises.{Accesses, Promises}

module _ (m : Machine) (written : Bool) (o : ℕ) where
  aic_asked : m.kind ≡ 0 → register_words m written o ≡ place_in (aic_rows written) o
  unfolding register_words
  aic_asked e = sym (at_aic _ _ e)

  core_asked : m.kind ≡ 1 → register_words m written o ≡ place_in core_rows o
  unfolding register_words
  core_asked e = sym (at_core _ _ e)

  cic_asked : m.kind ≡ 2 → register_words m written o ≡ place_in (cic_rows written m.cic.systems m.cic.channels m.cic.hosts) o
  unfolding register_words
  cic_asked e = sym (at-cic _ _ e)

  aintc_asked : m.kind ≡ 3 → register_words m written o ≡ place_in (aintc_rows written) o
  unfolding register_words
  aintc_asked e = sym (at_aintc _ _ e)

  indexed_asked : m.kind ≡ 4 → m.held.choice ≡ 1 → register_words m written o ≡ place_in (index_rows written m.cic.systems m.cic.channels m.cic.hosts) o
  unfolding register_words
  indexed_asked e f = sym (pick_true _ (eq-eqb m.held.choice 1 f) ∙ at_indexed _ _ e)

  choice-off : m.kind ≡ 4 → m.held.choice ≢ 1 → register_words m written o ≡ place_in (cic_rows written m.cic.systems m.cic.channels m.cic.hosts) o
  unfolding register_words
  choice-off e f = sym (pick-false _ (ne_eqb m.held.choice 1 f) ∙ at_indexed _ _ e)

-- ---- what is beyond its limit

module _ (m : Machine) (x : Recorded) where
  level-beyond : (k l : ℕ) → x.step ≡ Line k l → 1 < l → limit_words m x ≡ bytes "a level is 0 or 1"
  unfolding limit_words limit_at level_words
  level-beyond k l e h = ap (limit_at m.kind x.privilege) e ∙ sym (pick_true _ (lt-ltb 1 l h))

  line-beyond : (k l : ℕ) → x.step ≡ Line k l → l ≤ 1 → limit_words m x ≡ bytes "no such line"
  unfolding limit_words limit_at level_words
  line-beyond k l e h = ap (limit_at m.kind x.privilege) e ∙ sym (pick-false _ (le-ltb 1 l h))

  -- reads and writes are told alike
  access-beyond : (o : ℕ) → Accesses x o → limit_words m x ≡ access_words m.kind x.privilege o
  unfolding limit_words limit_at
  access-beyond o (inl e) = ap (limit_at m.kind x.privilege) e
  access-beyond o (inr e) = ap (limit_at m.kind x.privilege) e.1

  privilege-beyond : (o : ℕ) → Accesses x o → 1 < x.privilege → limit_words m x ≡ bytes "a privilege is 0 or 1"
  unfolding access_words
  privilege-beyond o a h = access-beyond o a ∙ sym (pick_true _ (lt-ltb 1 x.privilege h))

  -- which kinds are asked by the register
  of-cic : (m.kind ≡ 2) ⊎ (m.kind ≡ 4) → (eqb m.kind cic_kind || eqb m.kind indexed_kind) ≡ true
  of-cic (inl e) = or_left (eqb m.kind indexed_kind) (eq-eqb m.kind 2 e)
  of-cic (inr e) = or_right (eqb m.kind cic_kind) (eq-eqb m.kind 4 e)

  register-beyond : (o : ℕ) → Accesses x o → x.privilege ≤ 1 → (m.kind ≡ 2) ⊎ (m.kind ≡ 4) → limit_words m x ≡ beyond_words o
  unfolding access_words
  register-beyond o a p k = access-beyond o a ∙ sym (pick_true _ (of-cic k) ∙ pick-false _ (le-ltb 1 x.privilege p))

module _ (o : ℕ) where
  system_words : 0x020 ≤ o → o ≤ 0x02C → bytes "no such system" ≡ beyond_words o
  unfolding beyond_words
  system_words l h = pick_true _ (lt-ltb o 0x030 (omega (arith, h))) ∙ pick-false _ (le-ltb o 0x020 l)

  host_words : 0x034 ≤ o → o ≤ 0x038 → bytes "no such host" ≡ beyond_words o
  unfolding beyond_words
  host_words l h = pick_true _ (lt-ltb o 0x400 (omega (arith, h))) ∙ pick-false _ (le-ltb o 0x030 (omega (arith, l))) ∙ pick-false _ (le-ltb o 0x020 (omega (arith, l)))

  channel_words : 0x400 ≤ o → o ≤ 0x7FC → bytes "a byte names no channel" ≡ beyond_words o
  unfolding beyond_words
  channel_words l h =
      pick_true _ (lt-ltb o 0x800 (omega (arith, h))) ∙ pick-false _ (le-ltb o 0x400 l) ∙ pick-false _ (le-ltb o 0x030 (omega (arith, l)))
      ∙ pick-false _ (le-ltb o 0x020 (omega (arith, l)))

  byte_words_lem : 0x800 ≤ o → o ≤ 0x8FC → bytes "a byte names no host" ≡ beyond_words o
  unfolding beyond_words
  byte_words_lem l h =
      pick_true _ (lt-ltb o 0x900 (omega (arith, h))) ∙ pick-false _ (le-ltb o 0x800 l) ∙ pick-false _ (le-ltb o 0x400 (omega (arith, l)))
      ∙ pick-false _ (le-ltb o 0x030 (omega (arith, l))) ∙ pick-false _ (le-ltb o 0x020 (omega (arith, l)))

kept_type : (v : ℕ) → type_of v ≡ type_of (kept_mode v)
kept_type v = omega arith

kept-priority : (v : ℕ) → priority_of v ≡ priority_of (kept_mode v)
kept-priority v = omega arith

mode-kept : (external : Bool) (v : ℕ) → mode_words external v ≡ mode_words external (kept_mode v)
unfolding mode_words
mode-kept external v = ap₂ (λ (t p : ℕ). type_words external t ++ counted (bytes ", priority ") p) (kept_type v) (kept-priority v)

no-bit : bit_words (bytes "; sources") 0 0 ≡ bytes "; sources none"
unfolding bit_words bytes pick
no-bit = refl

two_bits : bit_words (bytes "; sources") 0 0x22 ≡ bytes "; sources 1, 5"
unfolding bit_words told_below told_bit more_words count_below bit counted decimal_of bytes pick
two_bits = refl

nine_bits : bit_words (bytes "; systems") 32 0x1FF ≡ bytes "; systems 32, 33, 34, 35, 36, 37, 38, 39 and 1 more"
unfolding bit_words told_below told_bit more_words count_below bit counted decimal_of bytes pick
nine_bits = refl

four_bytes : map_words (bytes "; system ") (bytes " to channel ") 8 4 0x00000202 ≡ bytes "; system 4 to channel 2, 5 to 2, 6 to 0, 7 to 0"
unfolding map_words byte_words byte_of counted decimal_of bytes pick
four_bytes = refl

two_bytes : map_words (bytes "; channel ") (bytes " to host ") 6 4 0x00000202 ≡ bytes "; channel 4 to host 2, 5 to 2"
unfolding map_words byte_words byte_of counted decimal_of bytes pick
two_bytes = refl

fast_route : route_words 0x15 ≡ bytes "; to FIQ, priority 5"
unfolding route_words bit counted decimal_of bytes pick
fast_route = refl

plain_route : route_words 0x14 ≡ bytes "; to IRQ, priority 5"
unfolding route_words bit counted decimal_of bytes pick
plain_route = refl

pub kept : Promises
kept =
    record {
      aic_asked = aic_asked;
      core_asked = core_asked;
      cic_asked = cic_asked;
      aintc_asked = aintc_asked;
      indexed_asked = indexed_asked;
      choice_off = choice-off;
      level_beyond = level-beyond;
      line_beyond = line-beyond;
      privilege_beyond = privilege-beyond;
      system_beyond = λ m x o a p k l h. register-beyond m x o a p k ∙ sym (system_words o l h);
      host_beyond = λ m x o a p k l h. register-beyond m x o a p k ∙ sym (host_words o l h);
      channel_beyond = λ m x o a p k l h. register-beyond m x o a p k ∙ sym (channel_words o l h);
      host_byte_beyond = λ m x o a p k l h. register-beyond m x o a p k ∙ sym (byte_words_lem o l h);
      mode_kept = mode-kept;
      no_bit = no-bit;
      two_bits = two_bits;
      nine_bits = nine_bits;
      four_bytes = four_bytes;
      two_bytes = two_bytes;
      fast_route = fast_route;
      plain_route = plain_route;
    }
