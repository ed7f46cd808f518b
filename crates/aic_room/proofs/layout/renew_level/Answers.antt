-- That `renew_level` of src/layout.rt keeps its contract.
use Rattle.aic_room.proofs.OneLaws.{stale_at, renewed_at}
use Rattle.aic_room.proofs.layout.renew_level.Goals as goal

pub returns : goal.returns
returns c =
    λ a b h. renewed_at a b _ _ _ _ _ c.requires h (c.waiting-waits.ensures b (stale_at h)) c.meet-w.ensures c.with_bit-any.ensures
