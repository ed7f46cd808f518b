-- How long a picture and its lines are at most.
use Prim.Native.Nat.{ℕ, ◌+◌, ◌-◌, ◌<◌, ◌≤◌}
use mathlib.Core.Path.{◌≡◌, ◌∙◌}
use mathlib.Core.Bool.{true}
use native.Mathlib.Decide.{dec_lt}
use native.Mathlib.Omega.{arith}
use lib.ListN.{length, length-append, get_or, take}
use Rattle.text.proofs.DigitLaws.{length-decimal, length-field}
use Rattle.text.specs.Phrases.{bytes, counted}
use Rattle.aic_record.specs.declared.Aic.{Aic}
use Rattle.aic_record.specs.Sound.{sound}
use Rattle.aic_record.specs.Promises.{Shaped, Rules}
use Rattle.aic_record.proofs.SoundLaws.{below_next, sound-is}
use Rattle.aic_record.proofs.TableLaws.{past_get_d}
use Rattle.aic_record.proofs.LastPromises.{below_small}
use Rattle.trace.specs.Trace.{Trace}
use Rattle.kinds.specs.Kinds.{aic_kind}
use Rattle.machine.specs.declared.record.Machine.{Machine}
use Rattle.machine.specs.RecordPromises.{Ready}
use Rattle.machine.proofs.MachineLaws.{sound_aic}
use Rattle.beginning.proofs.PlayLaws.{run-ready}
use Rattle.drawing.proofs.Promises.{kept as drawing}
use Rattle.picture.specs.Window.{before, columns_of}
use Rattle.picture.proofs.ColumnLaws.{columns-most}
use Rattle.picture.proofs.ShownLaws.{run-kind}
use Rattle.picture.specs.Lines.{no_beginning, no_entries, wrong_window}
use Rattle.picture.specs.Picture.{drawn_of}

-- the slots of a sound record hold small numbers, used or not
slots_small : (s : Aic) → Shaped s → sound s ≡ true → (k : ℕ) → (get_or s.source k 0 ≤ 255) × (get_or s.level k 0 ≤ 255)
slots_small s h ok k = go (dec_lt k s.depth) (dec_lt k 8)
  where
    r : Rules s
    r = sound-is s ok

    go : Dec (k < s.depth) → Dec (k < 8) → (get_or s.source k 0 ≤ 255) × (get_or s.level k 0 ≤ 255)
    go (yes l) e = (omega (arith, r.sources k l), omega (arith, below_next s.level k, below_small s r (k + 1) (omega arith)))
    go (no l) (yes e) = let u = r.unused k (omega arith) e in (omega (arith, u.0), omega (arith, u.1))
    go (no l) (no e) =
        (omega (arith, past_get_d s.source 8 k h.2 (omega arith)), omega (arith, past_get_d s.level 8 k h.3 (omega arith)))

pub drawn-most : (first steps : ℕ) (m : Machine) (t : Trace) → Ready m → m.kind ≡ aic_kind → first ≤ 65536 → steps ≤ 500 → length (drawn_of first steps m t) ≤ 219082
unfolding drawn_of
drawn-most first steps m t r k f h =
    let b = take (first - 1) t.steps in
    let n = before first m t.steps in
    let q : Ready n = run-ready m b r in
    let ok : sound n.aic ≡ true = sound_aic n (run-kind m b ∙ k) ∙ q.0 in
    drawing.most first (columns_of first steps m t.steps) n.aic.source n.aic.level f (omega (arith, columns-most first steps m t.steps))
    (λ i. (slots_small n.aic q.1 ok i).0)
    (λ i. (slots_small n.aic q.1 ok i).1)

pub beginning-most : (refusal offset : ℕ) → length (no_beginning refusal offset) ≤ 219082
unfolding no_beginning bytes
beginning-most refusal offset = simp length-append (omega (arith, length-field refusal, length-field offset))

pub entries-most : length no_entries ≤ 219082
unfolding no_entries bytes
entries-most = omega arith

pub wrong-most : (played : ℕ) → length (wrong_window played) ≤ 219082
unfolding wrong_window bytes counted
wrong-most played = simp length-append (omega (arith, length-decimal 20 played))
