-- The map by offsets, and which values are refused there.
use mathlib.Core.Path.{◌≡◌, refl, sym, ap, subst, ◌∙◌}
use mathlib.Core.Logic.{◌↔◌}
use Prim.Native.Nat.{ℕ, ◌+◌, ◌*◌, ◌<◌, ◌≤◌}
use lib.Dec.{ltb}
use Rattle.words.specs.Array.{byte_of}
use Rattle.steps.specs.declared.Access.{Access}
use Rattle.steps.specs.declared.Access.TheVariants.{NoRegister, ReadWrite}
use Rattle.cic_record.specs.declared.Cic.{Cic}
use Rattle.cic_registers.specs.Maps.{map_taken}
use Rattle.cic_registers.specs.declared.layout.Register.{Register}
use Rattle.cic_registers.specs.Map.{register_at, if_any, access_of}
use Rattle.cic_registers.proofs.AccessLaws.{there_if}
use Rattle.cic_registers.proofs.LayoutPromises as layout
use Rattle.cic_registers.specs.Registers.{unless, value_refusal}
use Rattle.cic_registers.proofs.WrittenLaws.{refused-from, taken_if, value_six}
use Rattle.cic_registers.specs.Model.{refusal_at}
use Rattle.cic.specs.Tables.{ThereIf, MapTable, LimitAt, BytesAt, Limits}

-- ---- what each register allows

-- the register r of a group stands at the offset o
there_at : (c : Cic) (o first n : ℕ) {r : Register} → register_at o ≡ r → access_of c r ≡ if_any first n → ThereIf c o first n
there_at c o first n at e =
    subst (λ (a : Access). ((a ≡ ReadWrite) ↔ (first < n)) × ((a ≡ NoRegister) ↔ (n ≤ first))) (sym (ap (access_of c) at ∙ e)) (there_if first n)

pub the-map : (c : Cic) → MapTable c
unfolding access_of
the-map c =
    record {
      revision = ap (access_of c) (layout.kept).revision;
      global_enable = ap (access_of c) (layout.kept).global_enable;
      status_index = (ap (access_of c) (layout.kept).status_index.0, ap (access_of c) (layout.kept).status_index.1);
      enable_index = (ap (access_of c) (layout.kept).enable_index.0, ap (access_of c) (layout.kept).enable_index.1);
      host_index = (ap (access_of c) (layout.kept).host_index.0, ap (access_of c) (layout.kept).host_index.1);
      raw_set = λ k l. there_at c (0x200 + 4 * k) (32 * k) c.systems ((layout.kept).raw_set k l) refl;
      enabled_clear = λ k l. there_at c (0x280 + 4 * k) (32 * k) c.systems ((layout.kept).enabled_clear k l) refl;
      enable_set = λ k l. there_at c (0x300 + 4 * k) (32 * k) c.systems ((layout.kept).enable_set k l) refl;
      enable_clear = λ k l. there_at c (0x380 + 4 * k) (32 * k) c.systems ((layout.kept).enable_clear k l) refl;
      channel_map = λ k l. there_at c (0x400 + 4 * k) (4 * k) c.systems ((layout.kept).channel_map k l) refl;
      host_map = λ k l. there_at c (0x800 + 4 * k) (4 * k) c.channels ((layout.kept).host_map k l) refl;
      host_enable = λ k l. there_at c (0x1500 + 4 * k) (32 * k) c.hosts ((layout.kept).host_enable k l) refl;
      no_control = ap (access_of c) (layout.kept).no_control;
      no_global_index = ap (access_of c) (layout.kept).no_global_index;
      no_other = λ o l p q r s t u v w. ap (access_of c) ((layout.kept).no_other o l p q r s t u v w);
      no_host_indices = λ o l m. ap (access_of c) ((layout.kept).no_host_indices o l m);
      nothing_after = λ o l. ap (access_of c) ((layout.kept).nothing_after o l);
    }

-- ---- values

module _ (c : Cic) (v : ℕ) where
  -- what the register r that stands at the offset o says of the value
  at_register : (o : ℕ) {r : Register} {n : ℕ} → register_at o ≡ r → value_refusal c r v ≡ n → refusal_at c o v ≡ n
  at_register o at e = ap (λ (x : Register). value_refusal c x v) at ∙ e

  limit_at : (o n : ℕ) {r : Register} → register_at o ≡ r → value_refusal c r v ≡ unless (ltb v n) → LimitAt c v o n
  limit_at o n at e = subst (λ (x : ℕ). (x ≡ 6) ↔ (n ≤ v)) (sym (at_register o at e)) (refused-from v n)

  bytes_at : (o k n limit : ℕ) {r : Register} → register_at o ≡ r → value_refusal c r v ≡ unless (map_taken n limit k v) → BytesAt c v o k n limit
  bytes_at o k n limit at e =
      subst (λ (x : ℕ). (x ≡ 0) ↔ ((j : ℕ) → j < 4 → 4 * k + j < n → byte_of v j < limit)) (sym (at_register o at e)) (taken_if n limit k v)

pub the_limits : (c : Cic) (v : ℕ) → Limits c v
unfolding value_refusal
the_limits c v =
    record {
      status_index = (limit_at c v 0x020 c.systems (layout.kept).status_index.0 refl, limit_at c v 0x024 c.systems (layout.kept).status_index.1 refl);
      enable_index = (limit_at c v 0x028 c.systems (layout.kept).enable_index.0 refl, limit_at c v 0x02C c.systems (layout.kept).enable_index.1 refl);
      host_index = (limit_at c v 0x034 c.hosts (layout.kept).host_index.0 refl, limit_at c v 0x038 c.hosts (layout.kept).host_index.1 refl);
      channel_map = λ k l. bytes_at c v (0x400 + 4 * k) k c.systems c.channels ((layout.kept).channel_map k l) refl;
      host_map = λ k l. bytes_at c v (0x800 + 4 * k) k c.channels c.hosts ((layout.kept).host_map k l) refl;
      global_enable = at_register c v 0x010 (layout.kept).global_enable refl;
      system_words = λ k l. (
        (at_register c v (0x200 + 4 * k) ((layout.kept).raw_set k l) refl, at_register c v (0x280 + 4 * k) ((layout.kept).enabled_clear k l) refl),
        (at_register c v (0x300 + 4 * k) ((layout.kept).enable_set k l) refl, at_register c v (0x380 + 4 * k) ((layout.kept).enable_clear k l) refl),
      );
      host_enable = λ k l. at_register c v (0x1500 + 4 * k) ((layout.kept).host_enable k l) refl;
      six_only = λ o. value_six c (register_at o) v;
    }
