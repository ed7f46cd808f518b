-- That `figures` of src/lib.rt keeps its contract.
use mathlib.Core.Path.{sym, ◌∙◌}
use Rattle.trace_bounds.proofs.ListLaws.{source_small, is-sound, is_shaped, is-short, the_figures, listed-is, listed-parts, no_figures_lem}
use Rattle.trace_bounds.proofs.figures.Goals as goal

pub tell_steps-t-requires : goal.tell_steps-t-requires
tell_steps-t-requires c =
    let k = c.args.source in
    let h = listed-parts _ _ _ c.if-b-m.true in (
      is-sound _ k _ c.begin-b.ensures h.0 h.1,
      is_shaped _ k _ c.begin-b.ensures h.0 h.1,
      source_small k (sym c.is_source.ensures ∙ h.2),
      is-short _ k _ c.begin-b.ensures h.0 h.1,
    )

pub returns-then-b-m : goal.returns-then-b-m
returns-then-b-m c =
    let h = listed-parts _ _ _ c.if-b-m.true in
    the_figures _ _ _ c.begin-b.ensures h.0 h.1 _ _ (sym c.is_source.ensures ∙ h.2) c.tell_steps-t.ensures.figures

pub returns : goal.returns
returns c =
    c.no_figures.ensures ∙ no_figures_lem _ _ _ (sym (listed-is _ _ _ _ c.begin-b.ensures c.is_source.ensures) ∙ c.if-b-m.false)
