-- The promises of the figures of all waits of a source, kept.
use Rattle.aic_bounds.specs.FiguresPromises.{Promises}
use Rattle.aic_bounds.proofs.FigureLaws.{figures-tell}

pub kept : Promises
kept = record { figures_tell = figures-tell }
