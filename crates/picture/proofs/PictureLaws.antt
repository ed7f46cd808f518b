-- What the picture of a trace is in each of its ways, and that a window's columns find room.
use Prim.Native.Nat.{ℕ, ◌≤◌}
use native.Mathlib.Nat.{zero-add}
use mathlib.Core.Path.{◌≡◌, refl, sym, ap, ap₂, ◌∙◌}
use mathlib.Core.Bool.{Bool, true, false}
use mathlib.Core.List.{List}
use native.Mathlib.Omega.{arith}
use lib.Dec.{eqb}
use lib.ListN.{length, take, drop}
use lib.Seq.{take-append_seam}
use borrow.Author.Tests.{eq-eqb, ne_eqb, leb-true}
use Rattle.words.proofs.ChoiceLaws.{pick_true, pick-false}
use Rattle.words.proofs.TruthLaws.{and_left, and_right}
use Rattle.steps.specs.Refusals.{carried_out}
use Rattle.text.specs.Text.{laid}
use Rattle.text.proofs.WriteLaws.{write-laid}
use Rattle.text.proofs.Promises as Text
use Rattle.trace.specs.Trace.{Trace, steps_from}
use Rattle.kinds.specs.Kinds.{aic_kind, tells_privilege}
use Rattle.machine.specs.declared.record.Machine.{Machine}
use Rattle.machine.specs.RecordPromises.{Ready}
use Rattle.beginning.specs.declared.Begun.{Begun}
use Rattle.beginning.specs.Begin.{begin_of}
use Rattle.beginning.proofs.BeginningLaws.{begin-ready}
use Rattle.beginning.specs.declared.reports.Played.{Played}
use Rattle.beginning.specs.Play.{records_from, records_of, report, play_of}
use Rattle.beginning.proofs.PlayLaws.{records-begun, play-begun}
use Rattle.drawing.specs.Drawing.{drawing}
use Rattle.picture.specs.Window.{before, columns_of}
use Rattle.picture.proofs.ColumnLaws.{columns-most}
use Rattle.picture.specs.Promises.{Inside}
use Rattle.picture.specs.Lines.{no_beginning, no_entries, wrong_window}
use Rattle.picture.specs.Picture.{most_played, inside, is_drawn, drawn_of, picture_of}

-- ---- a window

pub inside_is : (played first steps : ℕ) → inside played first steps ≡ true → Inside played first steps
unfolding inside
inside_is played first steps h =
    record {
      begins = leb-true 1 first (search (and_left, and_right));
      reached = leb-true first played (search (and_left, and_right));
      some = leb-true 1 steps (search (and_left, and_right));
      most = leb-true steps 500 (search (and_left, and_right));
    }

-- in room enough stands all of it
pub laid-whole : (l bs : List ℕ) (p : List ℕ × ℕ) → length bs ≤ length l → p ≡ laid l bs → take p.1 p.0 ≡ bs
laid-whole l bs p h e =
    let f = e ∙ sym (write-laid l bs) ∙ (Text.kept).fits l bs h in
    rw f (take-append_seam bs (drop (length bs) l))

module _ (first steps : ℕ) (m : Machine) (t : Trace) (h : steps ≤ 500) (l : List ℕ) (r : length l ≡ 501) (p : List ℕ × ℕ) (e : p ≡ laid l (columns_of first steps m t.steps)) where
  all : take p.1 p.0 ≡ columns_of first steps m t.steps
  all = laid-whole l (columns_of first steps m t.steps) p (omega (arith, columns-most first steps m t.steps)) e

  pub few : length (take p.1 p.0) ≤ 501
  few = rw all (omega (arith, columns-most first steps m t.steps))

  pub drawn-is : (source level : List ℕ) → source ≡ (before first m t.steps).aic.source → level ≡ (before first m t.steps).aic.level
      → drawing first (take p.1 p.0) source level ≡ drawn_of first steps m t
  unfolding drawn_of
  drawn-is source level a b = rw (all, a, b)

-- ---- a trace

module _ (s : List ℕ) (first steps : ℕ) (b : Begun) (e : b ≡ begin_of s) where
  refusal_is : b.refusal ≡ (begin_of s).refusal
  refusal_is = ap (λ (d : Begun). d.refusal) e

  kind-is : b.machine.kind ≡ (begin_of s).machine.kind
  kind-is = ap (λ (d : Begun). d.machine.kind) e

  -- without a beginning
  pub no_beginning_lem : (b.refusal ≡ carried_out → ⊥) → no_beginning b.refusal b.place ≡ picture_of s first steps
  unfolding picture_of
  no_beginning_lem n =
      ap (λ (d : Begun). no_beginning d.refusal d.place) e ∙ pick-false _ (ne_eqb (begin_of s).refusal carried_out (λ z. n (refusal_is ∙ z)))

  pub not-begun : (b.refusal ≡ carried_out → ⊥) → false ≡ is_drawn s first steps
  unfolding is_drawn
  not-begun n = rw (ne_eqb (begin_of s).refusal carried_out (λ z. n (refusal_is ∙ z)))

  module _ (r : b.refusal ≡ carried_out) where
    begun : eqb (begin_of s).refusal carried_out ≡ true
    begun = eq-eqb (begin_of s).refusal carried_out (sym refusal_is ∙ r)

    -- of another controller
    pub no_entries_lem : (b.machine.kind ≡ aic_kind → ⊥) → no_entries ≡ picture_of s first steps
    unfolding picture_of
    no_entries_lem n = pick-false _ (ne_eqb (begin_of s).machine.kind aic_kind (λ z. n (kind-is ∙ z))) ∙ pick_true _ begun

    pub not_aic : (b.machine.kind ≡ aic_kind → ⊥) → false ≡ is_drawn s first steps
    unfolding is_drawn
    not_aic n = rw (begun, ne_eqb (begin_of s).machine.kind aic_kind (λ z. n (kind-is ∙ z)))

    module _ (k : b.machine.kind ≡ aic_kind) where
      told : false ≡ tells_privilege b.machine.kind
      told = rw k

      pub is-ready : Ready b.machine
      is-ready = begin-ready s b e r

      aic : eqb (begin_of s).machine.kind aic_kind ≡ true
      aic = eq-eqb (begin_of s).machine.kind aic_kind (sym kind-is ∙ k)

      -- the steps of an AIC tell no privilege
      records : steps_from false most_played s b.place ≡ records_of s most_played
      records =
          ap (λ (z : Bool). steps_from z most_played s b.place) told ∙ sym (records-begun most_played s b r) ∙ ap (λ (d : Begun). records_from most_played s d) e

      module _ (p : Played) (f : p ≡ report 0 b.machine (steps_from false most_played s b.place)) where
        as_played : p.steps ≡ (play_of s most_played).steps
        as_played = ap (λ (q : Played). q.steps) (f ∙ play-begun s most_played false b.machine b e r refl told)

        pub as_many : p.steps ≡ length (steps_from false most_played s b.place).steps
        unfolding report
        as_many = ap (λ (q : Played). q.steps) f ∙ zero-add _

        -- a wrong window
        pub wrong-window : inside p.steps first steps ≡ false → wrong_window p.steps ≡ picture_of s first steps
        unfolding picture_of
        wrong-window n = ap wrong_window as_played ∙ pick-false _ (ap (λ (q : ℕ). inside q first steps) (sym as_played) ∙ n) ∙ pick_true _ aic ∙ pick_true _ begun

        -- the picture
        pub a_picture : inside p.steps first steps ≡ true
            → drawn_of first steps b.machine (steps_from false most_played s b.place) ≡ picture_of s first steps
        unfolding picture_of
        a_picture n =
            ap₂ (λ (m : Machine) (t : Trace). drawn_of first steps m t) (ap (λ (d : Begun). d.machine) e) records
            ∙ pick_true _ (ap (λ (q : ℕ). inside q first steps) (sym as_played) ∙ n) ∙ pick_true _ aic ∙ pick_true _ begun

        -- and whether there is one
        pub if-inside : inside p.steps first steps ≡ is_drawn s first steps
        unfolding is_drawn
        if-inside = rw (begun, aic) (ap (λ (q : ℕ). inside q first steps) as_played)
