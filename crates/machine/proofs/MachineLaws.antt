-- Laws of machines: configurations, starts, and soundness by kind.
use Prim.Native.Nat.{ℕ}
use mathlib.Core.Path.{◌≡◌, refl, sym, ap, ◌∙◌}
use mathlib.Core.Bool.{true, false, false≢true}
use mathlib.Core.List.{List, [], ◌∷◌}
use mathlib.Core.Logic.{◌≢◌, ⊎_elim}
use native.Mathlib.Omega.{arith}
use lib.ListN.{length}
use borrow.Author.Tests.{eq-eqb}
use Rattle.words.specs.Choice.{pick}
use Rattle.words.proofs.ChoiceLaws.{pick_true}
use Rattle.words.proofs.TruthLaws.{and_both}
use Rattle.steps.specs.Refusals.{carried_out}
use Rattle.aic_record.specs.Sound.{sound as aic_sound}
use Rattle.aic.specs.Model.{start as aic_start}
use Rattle.aic_record.proofs.Promises.{kept as record-kept}
use Rattle.aic.proofs.Promises.{kept as aic}
use Rattle.coreinterrupt.specs.Side.{idle}
use Rattle.coreinterrupt.specs.Model.{core_of, within as core_within, all_within, start as core_start, sound as core_sound}
use Rattle.coreinterrupt.proofs.Promises.{kept as core}
use Rattle.cic_record.specs.declared.Begun.{Begun as CicBegun}
use Rattle.cic_record.specs.Sound.{within as cic_within, sound as cic_sound}
use Rattle.cic_record.specs.Start.{fresh, configured, start as cic_start}
use Rattle.cic_record.proofs.Promises.{kept as cic}
use Rattle.cic_held.specs.declared.Begun.{Begun as IndexedBegun}
use Rattle.cic_held.specs.Held.{within as indexed_within, sound as indexed_sound, start as indexed_start}
use Rattle.cic_held.proofs.Promises.{kept as held}
use Rattle.aintc_registers.specs.Settle.{sound as aintc_sound}
use Rattle.aintc_registers.specs.Model.{start as aintc_start}
use Rattle.aintc.proofs.Promises.{kept as aintc}
use Rattle.kinds.specs.Configuration.{with_number, filled}
use Rattle.kinds.specs.Kinds.{aic_kind, core_kind, cic_kind, aintc_kind, indexed_kind, by_kind, is_kind, wanted, within}
use Rattle.kinds.specs.Promises.{Within}
use Rattle.kinds.proofs.KindLaws.{KindOf, is_aic, is_core, is_cic, is_aintc, is_indexed, is_none, kind_of, at_aic, at_core, at-cic, at_aintc, at_indexed, at_none, known}
use Rattle.kinds.proofs.Promises.{kept as kinds}
use Rattle.machine.specs.declared.record.Machine.{Machine}
use Rattle.machine.specs.Machine.{of_aic, of_core, of_cic, of_aintc, of_indexed, indexed, start, sound}
use Rattle.machine.specs.RecordPromises.{start_with, Ready}

-- ---- records of zeros

pub blank_core : (core_start 0 0 0 0).core ≡ core_of (idle 0 0) (idle 0 0)
unfolding core_start all_within core_within pick
blank_core = refl

pub blank-cic : (cic_start 0 0 0 0).cic ≡ fresh 0 0 0 0
blank-cic = ap (λ (b : CicBegun). b.cic) (cic.start_refused 0 0 0 0 (λ h. omega (arith, h.0.0)))

-- ---- soundness by kind

pub sound_aic : (m : Machine) → m.kind ≡ aic_kind → aic_sound m.aic ≡ sound m
unfolding sound
sound_aic m e = at_aic m.kind _ e

pub sound_core : (m : Machine) → m.kind ≡ core_kind → core_sound m.core ≡ sound m
unfolding sound
sound_core m e = at_core m.kind _ e

pub sound-cic : (m : Machine) → m.kind ≡ cic_kind → cic_sound m.cic ≡ sound m
unfolding sound
sound-cic m e = at-cic m.kind _ e

pub sound_aintc : (m : Machine) → m.kind ≡ aintc_kind → aintc_sound m.aintc ≡ sound m
unfolding sound
sound_aintc m e = at_aintc m.kind _ e

pub sound-indexed : (m : Machine) → m.kind ≡ indexed_kind → indexed_sound (indexed m) ≡ sound m
unfolding sound
sound-indexed m e = at_indexed m.kind _ e

pub sound_none : (m : Machine) → m.kind ≢ aic_kind → m.kind ≢ core_kind → m.kind ≢ cic_kind → m.kind ≢ aintc_kind → m.kind ≢ indexed_kind → false ≡ sound m
unfolding sound
sound_none m e f g h i = at_none m.kind _ e f g h i

-- a sound machine that is none of the first four kinds is of the fifth
pub fifth-kind : (m : Machine) → sound m ≡ true → m.kind ≢ aic_kind → m.kind ≢ core_kind → m.kind ≢ cic_kind → m.kind ≢ aintc_kind → m.kind ≡ indexed_kind
fifth-kind m s e f g h = go (kind_of m.kind)
  where
    go : KindOf m.kind → m.kind ≡ indexed_kind
    go (is_aic k) = absurd (e k)
    go (is_core k) = absurd (f k)
    go (is_cic k) = absurd (g k)
    go (is_aintc k) = absurd (h k)
    go (is_indexed k) = k
    go (is_none a b c d i) = absurd (false≢true (sound_none m a b c d i ∙ s))

-- ---- starts

pub aic-starts : (a b : ℕ) → start_with aic_kind (a ∷ b ∷ []) ≡ of_aic (aic_start a b).aic
unfolding start filled with_number by_kind pick
aic-starts a b = refl

pub core-starts : (a b c d : ℕ) → start_with core_kind (a ∷ b ∷ c ∷ d ∷ []) ≡ of_core (core_start a b c d).core
unfolding start filled with_number by_kind pick
core-starts a b c d = refl

pub cic-starts : (a b c d : ℕ) → start_with cic_kind (a ∷ b ∷ c ∷ d ∷ []) ≡ of_cic (cic_start a b c d).cic
unfolding start filled with_number by_kind pick
cic-starts a b c d = refl

pub aintc-starts : start_with aintc_kind [] ≡ of_aintc aintc_start.aintc
unfolding start filled with_number by_kind pick
aintc-starts = refl

pub indexed-starts : (a b c d e : ℕ) → start_with indexed_kind (a ∷ b ∷ c ∷ d ∷ e ∷ []) ≡ of_indexed (indexed_start a b c d e).prioritised
unfolding start filled with_number by_kind pick
indexed-starts a b c d e = refl

aic-ready : (ns : List ℕ) → length ns ≡ 2 → Ready (start_with aic_kind ns)
aic-ready [] l = absurd (omega arith)
aic-ready (a ∷ []) l = absurd (omega arith)
aic-ready (a ∷ b ∷ []) l = rw (aic-starts a b) (sym (sound_aic (of_aic (aic_start a b).aic) refl) ∙ (aic.start_sound a b).0, (aic.start_sound a b).1)
aic-ready (a ∷ b ∷ c ∷ ns) l = absurd (omega arith)

core-ready : (ns : List ℕ) → length ns ≡ 4 → Ready (start_with core_kind ns)
core-ready [] l = absurd (omega arith)
core-ready (a ∷ []) l = absurd (omega arith)
core-ready (a ∷ b ∷ []) l = absurd (omega arith)
core-ready (a ∷ b ∷ c ∷ []) l = absurd (omega arith)
core-ready (a ∷ b ∷ c ∷ d ∷ []) l =
    rw (core-starts a b c d) (sym (sound_core (of_core (core_start a b c d).core) refl) ∙ core.start_sound a b c d, record-kept.reset_shaped 0 0)
core-ready (a ∷ b ∷ c ∷ d ∷ e ∷ ns) l = absurd (omega arith)

-- numbers within their limits start a CIC
cic-start-taken : (a b c d : ℕ) → cic_within 0 a ≡ true → cic_within 1 b ≡ true → cic_within 2 c ≡ true → cic_within 3 d ≡ true
    → (cic_start a b c d).refusal ≡ carried_out
unfolding cic_start configured
cic-start-taken a b c d e f g h = ap (λ (r : CicBegun). r.refusal) (sym (pick_true _ (and_both e (and_both f (and_both g h)))))

cic-start-sound : (a b c d : ℕ) → (cic_start a b c d).refusal ≡ carried_out → cic_sound (cic_start a b c d).cic ≡ true
cic-start-sound a b c d z = (cic.start_sound a b c d ((cic.start_taken a b c d).0 z)).0

cic-ready : (ns : List ℕ) → length ns ≡ 4 → Within cic_kind 0 ns → Ready (start_with cic_kind ns)
unfolding within by_kind pick
cic-ready [] l w = absurd (omega arith)
cic-ready (a ∷ []) l w = absurd (omega arith)
cic-ready (a ∷ b ∷ []) l w = absurd (omega arith)
cic-ready (a ∷ b ∷ c ∷ []) l w = absurd (omega arith)
cic-ready (a ∷ b ∷ c ∷ d ∷ []) l w =
    rw (cic-starts a b c d) (
      sym (sound-cic (of_cic (cic_start a b c d).cic) refl) ∙ cic-start-sound a b c d (cic-start-taken a b c d w.0 w.1.0 w.1.1.0 w.1.1.1.0),
      record-kept.reset_shaped 0 0,
    )
cic-ready (a ∷ b ∷ c ∷ d ∷ e ∷ ns) l w = absurd (omega arith)

aintc-ready : (ns : List ℕ) → length ns ≡ 0 → Ready (start_with aintc_kind ns)
aintc-ready [] l = rw aintc-starts (sym (sound_aintc (of_aintc aintc_start.aintc) refl) ∙ aintc.start_sound.0, record-kept.reset_shaped 0 0)
aintc-ready (a ∷ ns) l = absurd (omega arith)

-- numbers within their limits start a CIC with prioritised indices
indexed-start-taken : (a b c d e : ℕ) → cic_within 0 a ≡ true → cic_within 1 b ≡ true → cic_within 2 c ≡ true → cic_within 3 d ≡ true → indexed_within 4 e ≡ true
    → (indexed_start a b c d e).refusal ≡ carried_out
unfolding indexed_start
indexed-start-taken a b c d e f g h i j =
    ap (λ (r : IndexedBegun). r.refusal) (sym (pick_true _ (and_both (eq-eqb _ _ (cic-start-taken a b c d f g h i)) j)))

indexed-start-sound : (a b c d e : ℕ) → (indexed_start a b c d e).refusal ≡ carried_out → indexed_sound (indexed_start a b c d e).prioritised ≡ true
indexed-start-sound a b c d e z = held.start_sound a b c d e ((held.start_taken a b c d e).0 z)

indexed-ready : (ns : List ℕ) → length ns ≡ 5 → Within indexed_kind 0 ns → Ready (start_with indexed_kind ns)
unfolding within by_kind pick indexed_within
indexed-ready [] l w = absurd (omega arith)
indexed-ready (a ∷ []) l w = absurd (omega arith)
indexed-ready (a ∷ b ∷ []) l w = absurd (omega arith)
indexed-ready (a ∷ b ∷ c ∷ []) l w = absurd (omega arith)
indexed-ready (a ∷ b ∷ c ∷ d ∷ []) l w = absurd (omega arith)
indexed-ready (a ∷ b ∷ c ∷ d ∷ e ∷ []) l w =
    rw (indexed-starts a b c d e) (
      sym (sound-indexed (of_indexed (indexed_start a b c d e).prioritised) refl)
          ∙ indexed-start-sound a b c d e (indexed-start-taken a b c d e w.0 w.1.0 w.1.1.0 w.1.1.1.0 w.1.1.1.1.0),
      record-kept.reset_shaped 0 0,
    )
indexed-ready (a ∷ b ∷ c ∷ d ∷ e ∷ f ∷ ns) l w = absurd (omega arith)

-- the start of numbers within their limits is sound
pub start-ready : (kind : ℕ) (ns : List ℕ) → is_kind kind ≡ true → length ns ≡ wanted kind → Within kind 0 ns → Ready (start_with kind ns)
start-ready kind ns i l w = go (kind_of kind)
  where
    go : KindOf kind → Ready (start_with kind ns)
    go (is_aic k) = rw k (aic-ready ns (l ∙ ap wanted k ∙ kinds.aic_numbers))
    go (is_core k) = rw k (core-ready ns (l ∙ ap wanted k ∙ kinds.core_numbers))
    go (is_cic k) = rw k (cic-ready ns (l ∙ ap wanted k ∙ kinds.cic_numbers) (rw (sym k) w))
    go (is_aintc k) = rw k (aintc-ready ns (l ∙ ap wanted k ∙ kinds.aintc_numbers))
    go (is_indexed k) = rw k (indexed-ready ns (l ∙ ap wanted k ∙ kinds.indexed_numbers) (rw (sym k) w))
    go (is_none a b c d e) = absurd (⊎_elim a (⊎_elim b (⊎_elim c (⊎_elim d e))) ((known kind).0 i))
