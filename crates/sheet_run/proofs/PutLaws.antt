-- Names that are put to a sheet: none, one, and more after others.
use Prim.Native.Nat.{ℕ}
use mathlib.Core.Path.{◌≡◌, refl, ap, ◌∙◌}
use mathlib.Core.List.{List, [], ◌∷◌, ◌++◌}
use Rattle.stack.specs.declared.Table.{Table}
use Rattle.totals.specs.declared.sheets.Sheet.{Sheet}
use Rattle.totals.specs.Sheet.{added, left_unopened}
use Rattle.sheet_traces.specs.Noted.{note_of}
use Rattle.sheet_run.specs.Put.{Named, shut, holds, put_one, put_all, Put}

module _ (t : Table) where
  pub put-none : (s u : Sheet) → u ≡ s → Put t s u
  unfolding put_all
  put-none s u e = record { names = []; are = e }

  pub put_shut : (s u : Sheet) → u ≡ left_unopened s → Put t s u
  unfolding put_all put_one
  put_shut s u e = record { names = shut ∷ []; are = e }

  pub put_trace : (s u : Sheet) (bytes : List ℕ) → u ≡ (added s (note_of bytes 20000 t)).sheet → Put t s u
  unfolding put_all put_one
  put_trace s u bytes e = record { names = holds bytes ∷ []; are = e }

  put_both : (s : Sheet) (xs ys : List Named) → put_all t (put_all t s xs) ys ≡ put_all t s (xs ++ ys)
  unfolding put_all
  put_both s [] ys = refl
  put_both s (x ∷ xs) ys = put_both (put_one t s x) xs ys

  pub put_then : {s u v : Sheet} → Put t s u → Put t u v → Put t s v
  put_then {s} p q =
      record { names = p.names ++ q.names; are = q.are ∙ ap (λ (u : Sheet). put_all t u q.names) p.are ∙ put_both s p.names q.names }
