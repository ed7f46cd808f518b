-- The fast side and its output (01, AIC, Fast side; 003, 27.7.4).
use Rattle.std.specs.Prelude.{ℕ, Bool, not, ◌&&◌, ◌||◌, eqb}
use Rattle.words.specs.Counting.{any_below}
use Rattle.words.specs.Word.{bit}
use Rattle.aic_record.specs.declared.Aic.{Aic}
use Rattle.aic_sources.specs.Pending.{asking}

-- source 0 and the forced ones are fast (01, AIC, Fast side; 003, 27.7.4.5)
unfoldable pub fast : Aic → ℕ → Bool
fast s k = eqb k 0 || bit s.forced k

-- some fast source is pending and enabled
unfoldable pub fast_asks : Aic → Bool
fast_asks s = any_below 32 (λ k. fast s k && asking s k)

-- bit 1 of the debug control masks both outputs (01, AIC, DCR; 003, 27.7.7)
unfoldable pub masked : Aic → Bool
masked s = bit s.debug 1

-- FIQ is active if nothing masks it and some fast source is pending and enabled
unfoldable pub fiq : Aic → Bool
fiq s = not (masked s) && fast_asks s
