-- Which of the 98 numbers are too large for a table, as its line tells it.
use Prim.Native.Nat.{ℕ, ◌+◌, ◌*◌, ◌≤◌, ◌<◌}
use mathlib.Core.Path.{◌≡◌, refl, sym, ap, ◌∙◌, subst}
use mathlib.Core.List.{List, [], ◌∷◌, ◌++◌}
use mathlib.Core.Logic.{◌↔◌, ◌≢◌, inl, inr}
use native.Mathlib.Omega.{arith}
use native.Mathlib.Decide.{ℕ_discrete}
use lib.ListN.{length, get_or}
use Rattle.text.specs.Text.{decimal, decimal_of}
use Rattle.words.specs.Choice.{pick}
use Rattle.stack.specs.declared.Table.{Table}
use Rattle.stack.specs.Bytes.{stack_bytes, needed}
use Rattle.stack.specs.Promises.{Beyond}
use Rattle.tables.specs.declared.Reading.{Reading}
use Rattle.tables.specs.Names.{cleared}
use Rattle.tables.specs.Typed.{nth_typed}
use Rattle.tables.specs.Number.{worth}
use Rattle.tables.specs.Reading.{entered, list_of, table_of, taken, refused_at, read_table, answer_to}
use Rattle.tables.specs.Facts.{Whole, TooLarge}
use Rattle.tables.proofs.FillLaws.{get_d-list_of}
use Rattle.tables.proofs.ReadLaws.{value_of}
use Rattle.tables.proofs.RefusalLaws.{Way, overlong, slipped, whole, way, whole_is, read, rows, answer-read, answer_else}
use Rattle.text.proofs.Promises as Text
use Rattle.stack.proofs.Promises as Stack

-- a number is over a limit exactly if what the table has of it is
over_as : (limit v x : ℕ) → x ≡ entered v → limit < x → limit < v
unfolding entered
over_as limit v x e l = omega arith

as-over : (limit v x : ℕ) → limit ≤ 65535 → x ≡ entered v → limit < v → limit < x
unfolding entered
as-over limit v x m e l = omega arith

module _ (s : List ℕ) where
  abbrev Values : List ℕ
  Values = list_of 98 (value_of s)

  abbrev Read : Table
  Read = table_of Values

  value_at : (k : ℕ) → k < 98 → get_or Values k 0 ≡ entered (worth (nth_typed s k))
  value_at k l = get_d-list_of 98 (value_of s) k l

  mark_at : Read.mark ≡ entered (worth (nth_typed s 97))
  mark_at = (rows Values).mark ∙ value_at 97 (omega arith)

  priority_at : (i : ℕ) → i < 32 → get_or Read.priority i 0 ≡ entered (worth (nth_typed s (3 * i)))
  priority_at i l = (rows Values).priority i l ∙ value_at (3 * i) (omega arith)

  kind_at : (i : ℕ) → i < 32 → get_or Read.kind i 0 ≡ entered (worth (nth_typed s (3 * i + 1)))
  kind_at i l = (rows Values).kind i l ∙ value_at (3 * i + 1) (omega arith)

  frame_at : (i : ℕ) → i < 32 → get_or Read.frame i 0 ≡ entered (worth (nth_typed s (3 * i + 2)))
  frame_at i l = (rows Values).frame i l ∙ value_at (3 * i + 2) (omega arith)

  beyond_large : Beyond Read → TooLarge s
  beyond_large (inl l) = inl (over_as 65535 _ _ mark_at l)
  beyond_large (inr (i, m, inl l)) = inr (i, m, inl (over_as 7 _ _ (priority_at i m) l))
  beyond_large (inr (i, m, inr (inl l))) = inr (i, m, inr (inl (over_as 3 _ _ (kind_at i m) l)))
  beyond_large (inr (i, m, inr (inr l))) = inr (i, m, inr (inr (over_as 65535 _ _ (frame_at i m) l)))

  large-beyond : TooLarge s → Beyond Read
  large-beyond (inl l) = inl (as-over 65535 _ _ (omega arith) mark_at l)
  large-beyond (inr (i, m, inl l)) = inr (i, m, inl (as-over 7 _ _ (omega arith) (priority_at i m) l))
  large-beyond (inr (i, m, inr (inl l))) = inr (i, m, inr (inl (as-over 3 _ _ (omega arith) (kind_at i m) l)))
  large-beyond (inr (i, m, inr (inr l))) = inr (i, m, inr (inr (as-over 65535 _ _ (omega arith) (frame_at i m) l)))

-- ---- the line

abbrev Fourteen : List ℕ
Fourteen = 69 ∷ 32 ∷ 49 ∷ 52 ∷ 10 ∷ []

abbrev Figure : ℕ → List ℕ
Figure n = decimal n ++ (32 ∷ 98 ∷ 121 ∷ 116 ∷ 101 ∷ 115 ∷ 10 ∷ [])

abbrev Line : ℕ → ℕ → List ℕ
Line n p = 69 ∷ 32 ∷ (decimal n ++ (32 ∷ (decimal p ++ (10 ∷ []))))

-- a figure begins with no E
no-letter : (ds rest : List ℕ) → ((k : ℕ) → k < length ds → (48 ≤ get_or ds k 0) × (get_or ds k 0 ≤ 57)) → ds ++ (32 ∷ rest) ≡ Fourteen → ⊥
no-letter [] rest h e = omega (arith, ap (λ (l : List ℕ). get_or l 0 0) e)
no-letter (d ∷ ds) rest h e = omega (arith, (h 0 (omega arith)).1, ap (λ (l : List ℕ). get_or l 0 0) e)

module _ (s : List ℕ) where
  read_as : Whole s → (read_table s).table ≡ Read (cleared s)
  unfolding taken
  read_as w = ap (λ (r : Reading). r.table) (whole_is s w)

  pub figure : Whole s → (TooLarge (cleared s) → ⊥) → answer_to s ≡ Figure (stack_bytes (read_table s).table)
  figure w n = answer-read s ((read s).1 w) ∙ (Stack.kept).printed (read_table s).table (λ b. n (beyond_large (cleared s) (subst Beyond (read_as w) b)))

  large : Whole s → TooLarge (cleared s) → answer_to s ≡ Fourteen
  large w x = answer-read s ((read s).1 w) ∙ (Stack.kept).printed_refused (read_table s).table (subst Beyond (sym (read_as w)) (large-beyond (cleared s) x))

  told_large : Whole s → answer_to s ≡ Fourteen → TooLarge (cleared s)
  told_large w e = go (ℕ_discrete (needed (Read (cleared s))).refusal 14)
    where
      go : Dec ((needed (Read (cleared s))).refusal ≡ 14) → TooLarge (cleared s)
      go (yes q) = beyond_large (cleared s) (((Stack.kept).refused_is (Read (cleared s))).0 q)
      go (no d) =
          absurd (no-letter (decimal (stack_bytes (read_table s).table)) _ ((Text.kept).decimal_bytes (stack_bytes (read_table s).table)) (sym (figure w (λ x. d (((Stack.kept).refused_is (Read (cleared s))).1 (large-beyond (cleared s) x)))) ∙ e))

  -- the lines of 8 and 11 are others
  line_other : (n p k : ℕ) → (get_or (Line n p) k 0 ≡ get_or Fourteen k 0 → ⊥) → answer_to s ≡ Line n p → answer_to s ≡ Fourteen → ⊥
  line_other n p k d e f = d (ap (λ (l : List ℕ). get_or l k 0) (sym e ∙ f))

  refused-told : (r : Reading) → r ≡ read_table s → r.refusal ≢ 0 → answer_to s ≡ Line r.refusal r.offset
  refused-told r q d = rw q (answer_else s (λ z. d (ap (λ (x : Reading). x.refusal) q ∙ z)))

  told-whole : (r : Reading) → r ≡ read_table s → Way s r → answer_to s ≡ Fourteen → Whole s
  unfolding refused_at taken
  told-whole r q (whole w) e = w
  told-whole r q (overlong l) e = absurd (line_other 11 65536 3 (unfold decimal_of pick in λ z. omega arith) (refused-told r q (λ z. omega arith)) e)
  told-whole r q (slipped p l d) e = absurd (line_other 8 p 2 (unfold decimal_of pick in λ z. omega arith) (refused-told r q (λ z. omega arith)) e)

  pub fourteen : (answer_to s ≡ Fourteen) ↔ (Whole s × TooLarge (cleared s))
  fourteen = (λ e. let w = told-whole (read_table s) refl (way s) e in (w, told_large w e), λ h. large h.0 h.1)
