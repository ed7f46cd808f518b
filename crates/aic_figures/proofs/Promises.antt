-- The promises of the figures of the waits of all sources, kept.
use Rattle.aic_figures.specs.Promises.{Promises}
use Rattle.aic_figures.proofs.WaitLaws.{source_is, follows_on, tells_all, one_way}

pub kept : Promises
kept = record { source = source_is; follows = follows_on; tell = tells_all; one = one_way }
