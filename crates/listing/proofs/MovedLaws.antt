-- Bytes that come before a trace move every place in it and change nothing else.
use Prim.Native.Nat.{ℕ, zero, suc, ◌+◌, ◌*◌, ◌^◌}
use mathlib.Core.Path.{◌≡◌, refl, sym, ap, ap₂, ◌∙◌}
use mathlib.Core.Bool.{Bool, true, false}
use mathlib.Core.List.{List, ◌++◌}
use mathlib.Core.Logic.{◌⊎◌, inl, inr}
use native.Mathlib.Omega.{arith}
use lib.Dec.{eqb, ltb}
use lib.ListN.{length, get_or, length-append}
use lib.Seq.{get_or-append-add}
use borrow.Author.Tests.{ltb-true, ltb-false, lt-ltb, le-ltb}
use Rattle.words.specs.Choice.{pick}
use Rattle.words.specs.Counting.{sum_below}
use Rattle.words.proofs.ChoiceLaws.{pick_through}
use Rattle.words.proofs.CountingLaws.{lowest-same}
use Rattle.words.proofs.TruthLaws.{told as told-apart}
use Rattle.std.specs.declared.result.Result.TheVariants.{Ok, Err}
use Rattle.numbers.specs.Number.{Number, Value, Refused, closes, group, size_at, worth_at, faulty, answer, number_at}
use Rattle.trace.specs.declared.Turn.{Turn}
use Rattle.trace.specs.declared.Turn.TheVariants.{Found, Ended}
use Rattle.trace.specs.Steps.{operands_of, by_third, by_second, by_first, by_kind, step_at}
use Rattle.trace.specs.Trace.{Trace, ends, after, turn_at, go_on, steps_from}

-- a number, a turn and a trace whose places are so much further
abbrev number_moved : ℕ → Number → Number
number_moved d (Ok t) = Value t.value (d + t.next)
number_moved d (Err f) = Refused f.refusal (d + f.at)

abbrev turn_moved : ℕ → Turn → Turn
turn_moved d (Found x next) = Found x (d + next)
turn_moved d (Ended n p) = Ended n (d + p)

abbrev pub trace_moved : ℕ → Trace → Trace
trace_moved d t = record { steps = t.steps; refusal = t.refusal; offset = d + t.offset }

ltb-moved : (d x y : ℕ) → ltb (d + x) (d + y) ≡ ltb x y
ltb-moved d x y = go (told-apart (ltb x y))
  where
    go : (ltb x y ≡ true) ⊎ (ltb x y ≡ false) → ltb (d + x) (d + y) ≡ ltb x y
    go (inl e) = let h = ltb-true x y e in lt-ltb (d + x) (d + y) (omega arith) ∙ sym e
    go (inr e) = let h = ltb-false x y e in le-ltb (d + x) (d + y) (omega arith) ∙ sym e

module _ (a r : List ℕ) where
  abbrev d : ℕ
  d = length a

  byte-moved : (i k : ℕ) → get_or (a ++ r) (d + i + k) 0 ≡ get_or r (i + k) 0
  byte-moved i k = let e : d + i + k ≡ d + (i + k) = omega arith in ap (λ (j : ℕ). get_or (a ++ r) j 0) e ∙ get_or-append-add a r (i + k) 0

  size-moved : (i : ℕ) → size_at (a ++ r) (d + i) ≡ size_at r i
  unfolding size_at
  size-moved i = ap (λ (k : ℕ). 1 + k) (lowest-same 5 _ _ (λ k l. ap closes (byte-moved i k)))

  worth-moved : (i n : ℕ) → worth_at (a ++ r) (d + i) n ≡ worth_at r i n
  unfolding worth_at sum_below
  worth-moved i zero = refl
  worth-moved i (suc n) = ap₂ ◌+◌ (worth-moved i n) (ap (λ (b : ℕ). group b * 128 ^ n) (byte-moved i n))

  faulty-moved : (i n v : ℕ) → faulty (a ++ r) (d + i) n v ≡ faulty r i n v
  unfolding faulty
  faulty-moved i n v =
      let e : d + i + n ≡ d + (i + n) = omega arith in
      rw (length-append a r, e, ltb-moved d (length r) (i + n)) refl

  number-moved : (i : ℕ) → number_at (a ++ r) (d + i) ≡ number_moved d (number_at r i)
  unfolding number_at
  number-moved i =
      let n = size_at r i in
      let v = worth_at r i n in
      let e : d + i + n ≡ d + (i + n) = omega arith in
      ap (λ (m : ℕ). answer (a ++ r) (d + i) m (worth_at (a ++ r) (d + i) m)) (size-moved i) ∙ ap (answer (a ++ r) (d + i) n) (worth-moved i n)
      ∙ ap (λ (f : Bool). pick f (Refused 8 (d + i)) (Value v (d + i + n))) (faulty-moved i n v)
      ∙ pick_through (number_moved d) (faulty r i n v) refl (ap (Value v) e)

  -- ---- a step

  third-moved : (offset privilege : ℕ) (n : Number) → by_third offset privilege (number_moved d n) ≡ turn_moved d (by_third offset privilege n)
  third-moved offset privilege (Ok v) = refl
  third-moved offset privilege (Err f) = refl

  second-moved : (told : Bool) (kind x : ℕ) (n : Number) → by_second told (a ++ r) kind x (number_moved d n) ≡ turn_moved d (by_second told r kind x n)
  second-moved told kind x (Ok y) =
      pick_through (turn_moved d) (eqb (operands_of told kind) 2) refl (ap (by_third x y.value) (number-moved y.next) ∙ third-moved x y.value (number_at r y.next))
  second-moved told kind x (Err f) = refl

  first-moved : (told : Bool) (kind : ℕ) (n : Number) → by_first told (a ++ r) kind (number_moved d n) ≡ turn_moved d (by_first told r kind n)
  first-moved told kind (Ok x) =
      pick_through (turn_moved d) (eqb (operands_of told kind) 1) refl
      (ap (by_second told (a ++ r) kind x.value) (number-moved x.next) ∙ second-moved told kind x.value (number_at r x.next))
  first-moved told kind (Err f) = refl

  kind-moved : (told : Bool) (i : ℕ) (n : Number) → by_kind told (a ++ r) (d + i) (number_moved d n) ≡ turn_moved d (by_kind told r i n)
  kind-moved told i (Ok kind) =
      pick_through (turn_moved d) (eqb (operands_of told kind.value) 0) refl
      (ap (by_first told (a ++ r) kind.value) (number-moved kind.next) ∙ first-moved told kind.value (number_at r kind.next))
  kind-moved told i (Err f) = refl

  step-moved : (told : Bool) (i : ℕ) → step_at told (a ++ r) (d + i) ≡ turn_moved d (step_at told r i)
  unfolding step_at
  step-moved told i = ap (by_kind told (a ++ r) (d + i)) (number-moved i) ∙ kind-moved told i (number_at r i)

  turn_moved_lem : (told : Bool) (i left : ℕ) → turn_at told (a ++ r) (d + i) left ≡ turn_moved d (turn_at told r i left)
  unfolding turn_at
  turn_moved_lem told i left =
      ap (λ (n : ℕ). pick (ltb (d + i) n) (pick (eqb left 0) (Ended 7 (d + i)) (step_at told (a ++ r) (d + i))) (Ended 0 n)) (length-append a r)
      ∙ ap (λ (t : Bool). pick t (pick (eqb left 0) (Ended 7 (d + i)) (step_at told (a ++ r) (d + i))) (Ended 0 (d + length r))) (ltb-moved d i (length r))
      ∙ pick_through (turn_moved d) (ltb i (length r)) (pick_through (turn_moved d) (eqb left 0) refl (step-moved told i)) refl

  -- ---- all steps

  on-moved : (f g : ℕ → Trace) (t : Turn) → ((n : ℕ) → f (d + n) ≡ trace_moved d (g n)) → go_on f (turn_moved d t) ≡ trace_moved d (go_on g t)
  on-moved f g (Found x next) h = ap (after x) (h next)
  on-moved f g (Ended n p) h = refl

  pub steps-moved : (told : Bool) (limit i : ℕ) → steps_from told limit (a ++ r) (d + i) ≡ trace_moved d (steps_from told limit r i)
  unfolding steps_from
  steps-moved told zero i = ap (go_on (ends 7)) (turn_moved_lem told i 0) ∙ on-moved (ends 7) (ends 7) (turn_at told r i 0) (λ n. refl)
  steps-moved told (suc limit) i =
      ap (go_on (steps_from told limit (a ++ r))) (turn_moved_lem told i (suc limit))
      ∙ on-moved (steps_from told limit (a ++ r)) (steps_from told limit r) (turn_at told r i (suc limit)) (steps-moved told limit)
