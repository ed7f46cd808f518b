-- That `list_aic` of src/lib.rt keeps its contract.
use mathlib.Core.Path.{sym, ap, ◌∙◌}
use Rattle.text.specs.Text.{laid}
use Rattle.trace_bounds.proofs.ListLaws.{source_small, is-sound, is_shaped, is-short, no_source_lem, if_source, the_lines}
use Rattle.trace_bounds.proofs.list_aic.Goals as goal

pub put_lines-n-requires : goal.put_lines-n-requires
put_lines-n-requires c =
    let k = c.args.source in (
      is-sound _ k _ c.requires.0 c.requires.1 c.requires.2,
      is_shaped _ k _ c.requires.0 c.requires.1 c.requires.2,
      source_small k (sym c.is_source.ensures ∙ c.if-is_source.true),
      is-short _ k _ c.requires.0 c.requires.1 c.requires.2,
    )

pub returns-then-is_source : goal.returns-then-is_source
returns-then-is_source c =
    let h = sym c.is_source.ensures ∙ c.if-is_source.true in (
      c.put_lines-n.ensures ∙ ap (laid _) (the_lines _ _ _ c.requires.0 c.requires.1 c.requires.2 h),
      sym h ∙ if_source _ _ _ c.requires.0 c.requires.1 c.requires.2,
    )

pub returns : goal.returns
returns c =
    let h = sym c.is_source.ensures ∙ c.if-is_source.false in (
      c.put_no_source-n.ensures ∙ ap (laid _) (no_source_lem _ _ _ c.requires.0 c.requires.1 c.requires.2 h),
      sym h ∙ if_source _ _ _ c.requires.0 c.requires.1 c.requires.2,
    )
