-- What each kind of step counts as.
use Prim.Native.Nat.{ℕ, ◌*◌, ◌%◌, ◌<◌, ◌≤◌}
use mathlib.Core.Path.{◌≡◌, refl, sym, ap, ◌∙◌}
use mathlib.Core.Bool.{Bool, true, false, not, ◌&&◌, ◌||◌, and-false}
use mathlib.Core.Logic.{◌≢◌, ◌⊎◌, inl, inr}
use native.Mathlib.Omega.{arith}
use lib.Dec.{eqb, ltb}
use borrow.Author.Tests.{eqb-true, eqb-false, eq-eqb, ne_eqb, ltb-true, lt-ltb, le-ltb, le-leb, not-true}
use Rattle.words.specs.Choice.{pick}
use Rattle.words.proofs.ChoiceLaws.{pick_true}
use Rattle.words.proofs.TruthLaws.{and_left, and_right, and_both, or_left, or_right, clash, not-holds, not_fails}
use Rattle.words.specs.Word.{bit}
use Rattle.steps.specs.declared.Step.{Step}
use Rattle.steps.specs.declared.Step.TheVariants.{Read, Write, Line}
use Rattle.steps.specs.Tables.{Writable}
use Rattle.aic_record.specs.declared.Aic.{Aic}
use Rattle.aic_record.specs.Sound.{protects, sound}
use Rattle.aic_record.specs.Mode.{priority}
use Rattle.aic_record.proofs.SoundLaws.{seen-sound}
use Rattle.aic_sources.specs.Normal.{candidates, chosen}
use Rattle.aic_sources.proofs.HandlerLaws.{candidate-room}
use Rattle.aic_sources.proofs.OrderLaws.{chosen_none, chosen_is}
use Rattle.aic_sources.proofs.SearchLaws.{chosen-some}
use Rattle.aic_registers.specs.Map.{svr, ivr, iscr, eoicr, ffer, ffdr, access}
use Rattle.aic_registers.specs.Effects.{turns}
use Rattle.aic.proofs.StepKindLaws.{Plain, Idle}
use Rattle.aic.proofs.Promises as Controller
use Rattle.aic_runs.specs.Counted.{carried, takes, begins, starts, started_by, level_of, starts_of, starts_other, closes, rises, commands, rewrites}

-- ---- what is carried out

-- of an unsound record nothing is
pub carried-unsound : (s : Aic) (x : Step) → sound s ≡ false → carried s x ≡ false
unfolding carried
carried-unsound s (Read o) e = rw (((Controller.kept).read_numbers s o).twelve.1 e)
carried-unsound s (Write o v) e = rw (((Controller.kept).write_numbers s o v).twelve.1 e)
carried-unsound s (Line k l) e = rw (((Controller.kept).line_numbers s k l).twelve.1 e)

-- of a sound one a read of IVR, a write to a register that takes its value, and a line step within the limits
carried-ivr : (s : Aic) → sound s ≡ true → carried s (Read ivr) ≡ true
unfolding carried access pick
carried-ivr s ok = rw (((Controller.kept).read_numbers s ivr).none.1 (ok, (refl, inr refl)))

carried-write : (s : Aic) (o v : ℕ) → sound s ≡ true → o % 4 ≡ 0 → Writable (access o) → carried s (Write o v) ≡ true
unfolding carried
carried-write s o v ok a w = rw (((Controller.kept).write_numbers s o v).none.1 (ok, (a, (w, refl))))

carried-line : (s : Aic) (k l : ℕ) → sound s ≡ true → k < 32 → l ≤ 1 → carried s (Line k l) ≡ true
unfolding carried
carried-line s k l ok m n = rw (((Controller.kept).line_numbers s k l).none.1 (ok, (m, n)))

-- ---- starts

-- what is carried out is carried out of a sound record
carried-sound : (s : Aic) (x : Step) → carried s x ≡ true → sound s ≡ true
carried-sound s x c = not_fails (sound s) (λ e. clash c (carried-unsound s x e))

pub begins-is : (s : Aic) (x : Step) → begins s x ≡ true → (sound s ≡ true) × (protects s ≡ true) × (s.seen.what ≢ 0)
unfolding begins
begins-is s (Read o) e = clash e refl
begins-is s (Write o v) e =
    let a = and_left (carried s (Write o v) && eqb o ivr && protects s) _ e in (
      carried-sound s (Write o v) (and_left _ (eqb o ivr) (and_left _ (protects s) a)),
      and_right (carried s (Write o v) && eqb o ivr) _ a,
      eqb-false s.seen.what 0 (not-true _ (and_right (carried s (Write o v) && eqb o ivr && protects s) _ e)),
    )
begins-is s (Line k l) e = clash e refl

-- what is started is the chosen source, and there is a candidate, or the source that is remembered
abbrev pub Started : Aic → Step → Type 0
Started s x =
    ((candidates s ≡ true) × (started_by s x ≡ chosen s) × (takes s x ≡ true))
    ⊎ ((s.seen.what ≡ 1) × (started_by s x ≡ s.seen.source) × (begins s x ≡ true))

pub started-one : (s : Aic) (x : Step) → started_by s x < 32 → Started s x
unfolding started_by pick
started-one s x l = go (takes s x) refl (begins s x) refl (eqb s.seen.what 1) refl l
  where
    go : (a : Bool) → takes s x ≡ a → (b : Bool) → begins s x ≡ b → (c : Bool) → eqb s.seen.what 1 ≡ c → pick a (chosen s) (pick (b && c) s.seen.source 32) < 32
        → ((candidates s ≡ true) × (pick a (chosen s) (pick (b && c) s.seen.source 32) ≡ chosen s) × (a ≡ true))
        ⊎ ((s.seen.what ≡ 1) × (pick a (chosen s) (pick (b && c) s.seen.source 32) ≡ s.seen.source) × (b ≡ true))
    go true e b f c g m = inl (sym (chosen-some s) ∙ lt-ltb (chosen s) 32 m, refl, refl)
    go false e true f true g m = inr (eqb-true s.seen.what 1 g, refl, refl)
    go false e true f false g m = absurd (omega arith)
    go false e false f c g m = absurd (omega arith)

-- a candidate finds room, and so does a source that is remembered
pub chosen-room : (s : Aic) → candidates s ≡ true → s.depth < 8
chosen-room s c = candidate-room s (chosen s) (chosen_is s c).fit

-- so the start of a handler is a start
pub started-room : (s : Aic) (x : Step) → started_by s x < 32 → starts s x ≡ true
unfolding starts
started-room s x l = go (started-one s x l)
  where
    go : Started s x → ((takes s x || begins s x) && ltb s.depth 8) ≡ true
    go (inl (c, _, t)) = and_both (or_left (begins s x) t) (lt-ltb s.depth 8 (chosen-room s c))
    go (inr (w, _, b)) = and_both (or_right (takes s x) b) (lt-ltb s.depth 8 ((seen-sound s (begins-is s x b).0).room w))

-- a step that opens no entry
pub write-start : (s : Aic) (o v : ℕ) → o ≢ ivr → starts s (Write o v) ≡ false
unfolding starts takes begins
write-start s o v d = rw (ne_eqb o ivr d, and-false (carried s (Write o v)))

pub line-start : (s : Aic) (k l : ℕ) → starts s (Line k l) ≡ false
unfolding starts takes begins
line-start s k l = refl

idle-start : (s : Aic) (o v : ℕ) → Idle s o → starts s (Write o v) ≡ false
unfolding starts takes begins
idle-start s o v (inl d) = write-start s o v d
idle-start s o v (inr (inl i)) = rw (i, and-false (carried s (Write o v) && eqb o ivr))
idle-start s o v (inr (inr (inl z))) = rw (eq-eqb s.seen.what 0 z, and-false (carried s (Write o v) && eqb o ivr && protects s))
idle-start s o v (inr (inr (inr l))) = rw (le-ltb s.depth 8 l) (and-false (takes s (Write o v) || begins s (Write o v)))

pub plain-start : (s : Aic) (x : Step) → Plain s x → starts s x ≡ false
unfolding starts takes begins
plain-start s (Read o) (inl e) = rw (carried-unsound s (Read o) e)
plain-start s (Read o) (inr (inl d)) = rw (ne_eqb o ivr d, and-false (carried s (Read o)))
plain-start s (Read o) (inr (inr (inl i))) = rw (i, and-false (carried s (Read o) && eqb o ivr))
plain-start s (Read o) (inr (inr (inr n))) = rw (le-ltb s.depth 8 n) (and-false (takes s (Read o) || begins s (Read o)))
plain-start s (Write o v) (inl e) = rw (carried-unsound s (Write o v) e)
plain-start s (Write o v) (inr (inl (_, _, i))) = idle-start s o v i
plain-start s (Write o v) (inr (inr (e, _))) = write-start s o v (omega arith)
plain-start s (Line k l) p = line-start s k l

-- a read of IVR in protect mode opens none
pub look-start : (s : Aic) → protects s ≡ true → starts s (Read ivr) ≡ false
look-start s i = plain-start s (Read ivr) (inr (inr (inl i)))

pub no_start : (s : Aic) (x : Step) → starts s x ≡ false → (i : ℕ) → i < 32 → starts_of i s x ≡ false
unfolding starts_of
no_start s x n i l = ne_eqb i (started_by s x) (λ e. clash (started-room s x (rw e at l)) n)

pub no_other : (s : Aic) (x : Step) → starts s x ≡ false → (k : ℕ) → starts_other k s x ≡ false
unfolding starts_other
no_other s x n k = rw (not-holds (ltb (started_by s x) 32) (λ l. clash (started-room s x (ltb-true (started_by s x) 32 l)) n))

-- a read of IVR that finds room
pub take-start : (s : Aic) → sound s ≡ true → protects s ≡ false → s.depth < 8 → starts s (Read ivr) ≡ true
unfolding starts takes
take-start s ok i l = rw (carried-ivr s ok, i, lt-ltb s.depth 8 l)

taking : (s : Aic) → sound s ≡ true → protects s ≡ false → takes s (Read ivr) ≡ true
unfolding takes
taking s ok i = rw (carried-ivr s ok, i)

pub take-chosen : (s : Aic) → sound s ≡ true → protects s ≡ false → started_by s (Read ivr) ≡ chosen s
unfolding started_by
take-chosen s ok i = sym (pick_true _ (taking s ok i))

pub take_level : (s : Aic) → sound s ≡ true → protects s ≡ false → level_of s (Read ivr) ≡ priority s (chosen s)
unfolding level_of
take_level s ok i = sym (pick_true _ (taking s ok i))

-- without a candidate it starts no handler
pub mark-chosen : (s : Aic) → sound s ≡ true → protects s ≡ false → candidates s ≡ false → started_by s (Read ivr) ≡ 32
mark-chosen s ok i n = take-chosen s ok i ∙ chosen_none s n

-- a step that is said to start no handler starts none of source i, and none of another
pub none_of : (s : Aic) (x : Step) → started_by s x ≡ 32 → (i : ℕ) → i < 32 → starts_of i s x ≡ false
unfolding starts_of
none_of s x e i l = ne_eqb i (started_by s x) (λ q. omega arith)

pub none_other : (s : Aic) (x : Step) → started_by s x ≡ 32 → (k : ℕ) → starts_other k s x ≡ false
unfolding starts_other
none_other s x e k = rw (le-ltb (started_by s x) 32 (omega arith))

-- a write of IVR in protect mode with something remembered
module _ (s : Aic) (v : ℕ) (ok : sound s ≡ true) (on : protects s ≡ true) where
  beginning : s.seen.what ≢ 0 → begins s (Write ivr v) ≡ true
  unfolding begins access pick
  beginning z = rw (carried-write s ivr v ok refl (inr refl), on, ne_eqb s.seen.what 0 z)

  pub begin-start : s.seen.what ≢ 0 → s.depth < 8 → starts s (Write ivr v) ≡ true
  unfolding starts takes
  begin-start z l = rw (beginning z, lt-ltb s.depth 8 l)

  pub begin_source : s.seen.what ≡ 1 → started_by s (Write ivr v) ≡ s.seen.source
  unfolding started_by takes pick
  begin_source w = rw (beginning (omega arith), eq-eqb s.seen.what 1 w)

  pub begin_level : level_of s (Write ivr v) ≡ s.seen.level
  unfolding level_of takes pick
  begin_level = refl

  pub begin-none : s.seen.what ≢ 1 → started_by s (Write ivr v) ≡ 32
  unfolding started_by takes pick
  begin-none w = rw (ne_eqb s.seen.what 1 w, and-false (begins s (Write ivr v)))

-- ---- closes

pub read_close : (s : Aic) (o : ℕ) → closes s (Read o) ≡ false
unfolding closes
read_close s o = refl

pub line_close : (s : Aic) (k l : ℕ) → closes s (Line k l) ≡ false
unfolding closes
line_close s k l = refl

pub other_close : (s : Aic) (o v : ℕ) → o ≢ eoicr → closes s (Write o v) ≡ false
unfolding closes
other_close s o v d = rw (ne_eqb o eoicr d, and-false (carried s (Write o v)))

pub plain_close : (s : Aic) (x : Step) → Plain s x → closes s x ≡ false
unfolding closes
plain_close s (Read o) p = read_close s o
plain_close s (Write o v) (inl e) = rw (carried-unsound s (Write o v) e)
plain_close s (Write o v) (inr (inl (d, _, _))) = other_close s o v d
plain_close s (Write o v) (inr (inr (e, z))) = ap (λ (t : Bool). carried s (Write o v) && eqb o eoicr && not t) (eq-eqb s.depth 0 z) ∙ and-false (carried s (Write o v) && eqb o eoicr)
plain_close s (Line k l) p = line_close s k l

pub close_close : (s : Aic) (v : ℕ) → sound s ≡ true → s.depth ≢ 0 → closes s (Write eoicr v) ≡ true
unfolding closes access pick
close_close s v ok d = rw (carried-write s eoicr v ok refl (inl refl), ne_eqb s.depth 0 d)

-- ---- set commands and edges

pub set_command : (s : Aic) (v i : ℕ) → sound s ≡ true → commands i s (Write iscr v) ≡ bit v i
unfolding commands access pick
set_command s v i ok = rw (carried-write s iscr v ok refl (inl refl))

pub line_rise : (s : Aic) (k l i : ℕ) → sound s ≡ true → k < 32 → l ≤ 1 → rises i s (Line k l) ≡ (eqb i k && turns s k (eqb l 1))
unfolding rises
line_rise s k l i ok m n = rw (carried-line s k l ok m n)

-- ---- rewrites

pub mode-rewrite : (s : Aic) (o k v : ℕ) → sound s ≡ true → o ≡ k * 4 → k < 32 → rewrites s (Write o v) ≡ true
unfolding rewrites access pick
mode-rewrite s o k v ok e l =
    and_both (carried-write s o v ok (omega arith) (inr (rw (le-leb o ivr (omega arith)))))
    (or_left _ (or_left _ (lt-ltb o svr (omega arith))))

pub forcing-rewrite : (s : Aic) (o v : ℕ) → sound s ≡ true → (o ≡ ffer) ⊎ (o ≡ ffdr) → rewrites s (Write o v) ≡ true
unfolding rewrites access pick
forcing-rewrite s o v ok (inl e) = rw (e, carried-write s ffer v ok refl (inl refl))
forcing-rewrite s o v ok (inr e) = rw (e, carried-write s ffdr v ok refl (inl refl))
