-- A fast source asks exactly if there is a fast source that is pending and enabled.
use Prim.Native.Nat.{ℕ, ◌<◌}
use mathlib.Core.Path.{◌≡◌}
use mathlib.Core.Bool.{true, ◌&&◌}
use Rattle.words.specs.Word.{bit}
use Rattle.words.proofs.TruthLaws.{and_left, and_right, and_both}
use Rattle.words.proofs.CountingLaws.{any_some, some_any}
use Rattle.aic_record.specs.declared.Aic.{Aic}
use Rattle.aic_sources.specs.Pending.{pending, asking}
use Rattle.aic_sources.specs.Fast.{fast, fast_asks}

pub fast-some : (s : Aic) → fast_asks s ≡ true → (k : ℕ) × (k < 32) × (fast s k ≡ true) × (pending s k ≡ true) × (bit s.enabled k ≡ true)
unfolding fast_asks asking
fast-some s e =
    let r = any_some 32 (λ k. fast s k && asking s k) e in
    let a = and_right (fast s r.0) (pending s r.0 && bit s.enabled r.0) r.2 in
    (r.0, r.1, and_left _ (asking s r.0) r.2, and_left _ (bit s.enabled r.0) a, and_right (pending s r.0) _ a)

pub some-fast : (s : Aic) (k : ℕ) → k < 32 → fast s k ≡ true → pending s k ≡ true → bit s.enabled k ≡ true → fast_asks s ≡ true
unfolding fast_asks asking
some-fast s k l f p e = some_any 32 (λ k. fast s k && asking s k) k l (and_both f (and_both p e))
