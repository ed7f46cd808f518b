-- The figures of the worked tables, computed.
use mathlib.Core.Path.{◌≡◌, refl}
use mathlib.Core.List.{[], ◌∷◌}
use Rattle.words.specs.Choice.{pick}
use Rattle.words.specs.Counting.{all_below, sum_below}
use Rattle.words.specs.Word.{bit}
use Rattle.text.specs.Text.{decimal_of}
use Rattle.stack.specs.Bytes.{normal, is_of, taller, largest, level_bytes, stack_bytes, source_within, within_limits, needed}
use Rattle.stack.specs.Printed.{figure_line, text_of}
use Rattle.stack.specs.Worked.{board, sparse}

pub eight-levels : needed board ≡ record { refusal = 0; bytes = 1080 }
unfolding needed within_limits source_within stack_bytes level_bytes largest taller is_of normal bit sum_below all_below pick board
eight-levels = refl

pub line : text_of (needed board) ≡ 49 ∷ 48 ∷ 56 ∷ 48 ∷ 32 ∷ 98 ∷ 121 ∷ 116 ∷ 101 ∷ 115 ∷ 10 ∷ []
unfolding text_of figure_line decimal_of pick
line = rw eight-levels

pub plain : needed (sparse 0 9999) ≡ record { refusal = 0; bytes = 648 }
unfolding needed within_limits source_within stack_bytes level_bytes largest taller is_of normal bit sum_below all_below pick sparse
plain = refl

pub forced : needed (sparse 0x41 9999) ≡ record { refusal = 0; bytes = 548 }
unfolding needed within_limits source_within stack_bytes level_bytes largest taller is_of normal bit sum_below all_below pick sparse
forced = refl

pub refused : needed (sparse 0 65536) ≡ record { refusal = 14; bytes = 0 }
unfolding needed within_limits source_within stack_bytes level_bytes largest taller is_of normal bit sum_below all_below pick sparse
refused = refl
