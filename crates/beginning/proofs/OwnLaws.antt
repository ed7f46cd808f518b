-- A machine at its beginning holds nothing but the record of its kind: of a kind with a loop of its own the record alone gives it back.
use Prim.Native.Nat.{ℕ}
use mathlib.Core.Path.{◌≡◌, refl, subst}
use mathlib.Core.List.{List}
use native.Mathlib.Omega.{arith}
use Rattle.aic_record.specs.declared.Aic.{Aic}
use Rattle.aintc_record.specs.declared.Aintc.{Aintc}
use Rattle.cic_record.specs.declared.Cic.{Cic}
use Rattle.cic_held.specs.declared.Prioritised.{Prioritised}
use Rattle.coreinterrupt.specs.declared.Core.{Core}
use Rattle.kinds.specs.declared.Configuration.{Configuration}
use Rattle.kinds.specs.Kinds.{aic_kind, core_kind, cic_kind, aintc_kind}
use Rattle.kinds.proofs.KindLaws.{KindOf, is_aic, is_core, is_cic, is_aintc, is_indexed, is_none, kind_of, at_aic, at_core, at-cic, at_aintc, at_indexed, at_none}
use Rattle.machine.specs.declared.record.Machine.{Machine}
use Rattle.machine.specs.Machine.{blank, of_aic, of_core, of_cic, of_aintc, of_indexed, start}
use Rattle.beginning.specs.declared.Begun.{Begun}
use Rattle.beginning.specs.Begin.{begin_of}
use Rattle.beginning.proofs.BeginningLaws.{Beginning, overlong, damaged_at, no_kind, beyond_at, configured, beginning}

pub record Own (m : Machine) : Type 0 where
  pub aic : m.kind ≡ aic_kind → of_aic m.aic ≡ m
  pub core : m.kind ≡ core_kind → of_core m.core ≡ m
  pub cic : m.kind ≡ cic_kind → of_cic m.cic ≡ m
  pub aintc : m.kind ≡ aintc_kind → of_aintc m.aintc ≡ m

-- ---- the machine of a record, and the one before a start

own_aic : (a : Aic) → Own (of_aic a)
own_aic a = record { aic = λ k. refl; core = λ k. absurd (omega arith); cic = λ k. absurd (omega arith); aintc = λ k. absurd (omega arith) }

own_core : (c : Core) → Own (of_core c)
own_core c = record { aic = λ k. absurd (omega arith); core = λ k. refl; cic = λ k. absurd (omega arith); aintc = λ k. absurd (omega arith) }

own-cic : (c : Cic) → Own (of_cic c)
own-cic c = record { aic = λ k. absurd (omega arith); core = λ k. absurd (omega arith); cic = λ k. refl; aintc = λ k. absurd (omega arith) }

own_aintc : (a : Aintc) → Own (of_aintc a)
own_aintc a = record { aic = λ k. absurd (omega arith); core = λ k. absurd (omega arith); cic = λ k. absurd (omega arith); aintc = λ k. refl }

-- a CIC with prioritised indices is none of these: its machine goes through the loop over any machine
own-indexed : (p : Prioritised) → Own (of_indexed p)
own-indexed p =
    record { aic = λ k. absurd (omega arith); core = λ k. absurd (omega arith); cic = λ k. absurd (omega arith); aintc = λ k. absurd (omega arith) }

own-blank : Own blank
own-blank = own_aic blank.aic

-- ---- the machine that a start makes, and that of a beginning

own-start : (kind : ℕ) (c : Configuration) → Own (start kind c)
unfolding start
own-start kind c = go (kind_of kind)
  where
    go : KindOf kind → Own (start kind c)
    go (is_aic k) = subst Own (at_aic kind _ k) (own_aic _)
    go (is_core k) = subst Own (at_core kind _ k) (own_core _)
    go (is_cic k) = subst Own (at-cic kind _ k) (own-cic _)
    go (is_aintc k) = subst Own (at_aintc kind _ k) (own_aintc _)
    go (is_indexed k) = subst Own (at_indexed kind _ k) (own-indexed _)
    go (is_none a b c d e) = subst Own (at_none kind _ a b c d e) own-blank

pub begun_own : (s : List ℕ) (b : Begun) → b ≡ begin_of s → Own b.machine
begun_own s b e = go b (rw e (beginning s))
  where
    go : (d : Begun) → Beginning s d → Own d.machine
    go d (overlong l) = own-blank
    go d (damaged_at ns p l h w t) = own-blank
    go d (no_kind l t k) = own-blank
    go d (beyond_at kind ns p l h w t b) = own-blank
    go d (configured kind ns p l h w) = own-start kind _
