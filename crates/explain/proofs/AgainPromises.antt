-- The promises of explained traces that are read back, kept.
use mathlib.Core.Path.{refl}
use Rattle.explain.specs.Read.{numbers_in}
use Rattle.explain.specs.Said.{said_by}
use Rattle.explain.specs.AgainPromises.{Promises}
use Rattle.explain.proofs.DigitLaws.{hex-read, decimal-read}
use Rattle.explain.proofs.AgainLaws.{read_again}
use Rattle.explain.proofs.TextLaws.{again}
use Rattle.explain.proofs.SaidLaws.{nothing_said, one-said}
use Rattle.explain.proofs.SameLaws.{explained-said, text_played, same_statements}

pub kept : Promises
unfolding numbers_in said_by
kept =
    record {
      decimal_read = decimal-read;
      hex_read = hex-read;
      no_numbers = λ told. refl;
      more_numbers = λ told x xs. refl;
      again = again;
      read_again = read_again;
      nothing_said = nothing_said;
      one_said = one-said;
      no_lines = λ kind. refl;
      more_lines = λ kind l ls. refl;
      explained_statements = explained-said;
      text_statements = text_played;
      same_statements = same_statements;
    }
