-- That `put_cic` of src/lib.rt keeps its contract: its rows are the maker's.
use mathlib.Core.Path.{refl}
use mathlib.Core.Bool.{Bool}
use Rattle.words.specs.Choice.{pick}
use Rattle.text.specs.Phrases.{bytes}
use Rattle.register_names.specs.Maps.{cic_rows}
use Rattle.register_names.specs.Table.{digit_of, two_at, four_at, until, count_by, first_at, count_at, step_at, name_at, section_from, section_at, row_at, bytes_at, rows_from}
use Rattle.register_names.proofs.TableLaws.{as-map}
use Rattle.register_names.proofs.put_cic.Goals as goal

pub returns : goal.returns
unfolding rows_from bytes_at row_at first_at count_at count_by step_at name_at section_from section_at four_at two_at digit_of until bytes pick
returns c =
    let a = c.args in
    as-map _ _ _ _ _ (λ (w : Bool). cic_rows w a.n.systems a.n.channels a.n.hosts) _ c.put_place.ensures refl refl
