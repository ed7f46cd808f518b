-- The promises of the steps of a trace, kept: by the ways that the reading of a step goes.
use Prim.Native.Nat.{ℕ, zero, suc, ◌<◌, ◌≤◌}
use mathlib.Core.Path.{◌≡◌, refl, sym, ap, ◌∙◌}
use mathlib.Core.Bool.{Bool, true, false}
use mathlib.Core.List.{List, [], ◌∷◌}
use mathlib.Core.Logic.{◌≢◌, ◌⊎◌, inl, inr}
use native.Mathlib.Numerals.{sub-one}
use native.Mathlib.Omega.{arith}
use lib.ListN.{length}
use Rattle.words.specs.Choice.{pick}
use Rattle.steps.specs.Refusals.{carried_out, limit_reached, damaged, unknown, privileged}
use Rattle.steps.specs.declared.Recorded.{Recorded}
use Rattle.steps.specs.declared.Step.{Step}
use Rattle.steps.specs.declared.Step.TheVariants.{Read, Write, Line}
use Rattle.numbers.specs.Number.{Number, Value, Refused, number_at, told as number-told}
use Rattle.numbers.specs.Promises.{told_at}
use Rattle.numbers.proofs.ReadLaws.{told-read, told-damaged, next_place}
use Rattle.trace.specs.declared.Turn.{Turn}
use Rattle.trace.specs.declared.Turn.TheVariants.{Found, Ended}
use Rattle.trace.specs.Steps.{operands_of, plain, two_numbers, numbers_for, step_at, tell}
use Rattle.trace.specs.Trace.{Trace, ends, after, go_on, turn_at, steps_from}
use Rattle.trace.specs.Promises.{made, Reads, Wanting, Unwritten, Along, Ends, Promises}
use Rattle.trace.proofs.Examples.{three-bytes, privileges}
use Rattle.trace.proofs.TraceLaws.{turn_cases, trace-ended, trace_found}
use Rattle.trace.proofs.StepLaws.{over, more_operands, no_operands, operands_le, read_one, read-two, write_two, write_three, line-two, kind-damaged, kind-unknown, first-damaged, one_number_lem, second-damaged, two_numbers_lem, third-damaged, three_numbers, two-read, two-write, two-line, Outcome, no_kind, unknown_kind, no_first, one_number, no_second, two_numbered, no_third, three_numbered, outcome}

-- ---- numbers one after the other

-- a number before those that stand after it
before : (s : List ℕ) (at v p q : ℕ) (ns : List ℕ) → number_at s at ≡ Value v p → Reads s p ns q → Reads s at (v ∷ ns) q
before s at v p q ns e r = rw e (refl, (refl, r))

-- the value at a place where one is told
had : (s : List ℕ) (at v p : ℕ) → (told_at s at).refusal ≡ carried_out → (told_at s at).value ≡ v → (told_at s at).place ≡ p → number_at s at ≡ Value v p
had s at v p e f g = told-read s at e ∙ ap (λ (x : ℕ). Value x (told_at s at).place) f ∙ ap (Value v) g

-- ---- steps

-- the numbers that are told stand there
abbrev Stands : Bool → List ℕ → ℕ → Turn → Type 0
Stands told s at n = Reads s at (tell told n).numbers (tell told n).place

numbers : (told : Bool) (s : List ℕ) (at : ℕ) (n : Turn) → Outcome told s at n → (tell told n).refusal ≡ carried_out → Stands told s at n
numbers told s at n (no_kind e) z = absurd (omega arith)
numbers told s at n (unknown_kind kind p e o) z = absurd (omega arith)
numbers told s at n (no_first kind p e l f) z = absurd (omega arith)
numbers told s at n (one_number step kind p x next w e f) z = rw w.1 (before s at kind p next (x ∷ []) e (before s p x next next [] f refl))
numbers told s at n (no_second kind p x q e o f g) z = absurd (omega arith)
numbers told s at n (two_numbered step kind p x q y next w e f g) z =
    rw w.1 (before s at kind p next (x ∷ y ∷ []) e (before s p x q next (y ∷ []) f (before s q y next next [] g refl)))
numbers told s at n (no_third kind p x q y r e o f g h) z = absurd (omega arith)
numbers told s at n (three_numbered step kind p x q y r v next w e f g h) z =
    rw w.1 (before s at kind p next (x ∷ y ∷ v ∷ []) e (before s p x q next (y ∷ v ∷ []) f (before s q y r next (v ∷ []) g (before s r v next next [] h refl))))

-- a privilege that is not written is 1
abbrev Unsaid : Bool → Turn → Type 0
Unsaid told (Found x next) = Unwritten x.step told x.privilege
Unsaid told (Ended n p) = Unit

unsaid : (told : Bool) (s : List ℕ) (at : ℕ) (n : Turn) → Outcome told s at n → Unsaid told n
unsaid told s at n (no_kind e) = tt
unsaid told s at n (unknown_kind kind p e o) = tt
unsaid told s at n (no_first kind p e l f) = tt
unsaid told s at n (one_number step kind p x next w e f) = w.0
unsaid told s at n (no_second kind p x q e o f g) = tt
unsaid told s at n (two_numbered step kind p x q y next w e f g) = w.0
unsaid told s at n (no_third kind p x q y r e o f g h) = tt
unsaid told s at n (three_numbered step kind p x q y r v next w e f g h) = w.0

-- the first number that is told, and those after it
module _ (s : List ℕ) (at v : ℕ) (ns : List ℕ) (q : ℕ) (r : Reads s at (v ∷ ns) q) where
  abbrev then : ℕ
  then = (told_at s at).place

  head : number_at s at ≡ Value v then
  head = had s at v then r.0 r.1.0 refl

  rest : Reads s then ns q
  rest = r.1.1

-- the last one, before the place q
last : (s : List ℕ) (at v q : ℕ) → Reads s at (v ∷ []) q → number_at s at ≡ Value v q
last s at v q r = had s at v q r.0 r.1.0 r.1.1

-- two numbers behind a kind
pair : (told : Bool) (s : List ℕ) (at p kind x y : ℕ) (step : Recorded) → operands_of told kind ≡ 2 → two_numbers kind x y ≡ step
    → Reads s at (kind ∷ x ∷ y ∷ []) p → step_at told s at ≡ Found step p
pair told s at p kind x y step o k r =
    let t = rest s at kind (x ∷ y ∷ []) p r in
    two_numbers_lem told s at kind _ x _ y p (head s at kind (x ∷ y ∷ []) p r) o (head s _ x (y ∷ []) p t) (last s _ y p (rest s _ x (y ∷ []) p t))
    ∙ ap (λ (z : Recorded). Found z p) k

-- what is not told is 1
so : (x : Step) (privilege : ℕ) → privilege ≡ privileged → plain x ≡ made x privilege
so x privilege e = ap (made x) (sym e)

found : (told : Bool) (s : List ℕ) (at p : ℕ) (x : Step) (privilege : ℕ) → Unwritten x told privilege → Reads s at (numbers_for x told privilege) p
    → step_at told s at ≡ Found (made x privilege) p
unfolding pick
found false s at p (Read x) v u r =
    one_number_lem false s at 1 _ x p (head s at 1 (x ∷ []) p r) read_one (last s _ x p (rest s at 1 (x ∷ []) p r)) ∙ ap (λ (z : Recorded). Found z p) (so (Read x) v u)
found true s at p (Read x) v u r = pair true s at p 1 x v _ read-two (two-read 1 x v refl) r
found false s at p (Write x y) v u r = pair false s at p 2 x y _ write_two (two-write 2 x y refl ∙ so (Write x y) v u) r
found true s at p (Write x y) v u r =
    let t = rest s at 2 (x ∷ v ∷ y ∷ []) p r in
    let w = rest s _ x (v ∷ y ∷ []) p t in
    three_numbers true s at 2 _ x _ v _ y p (head s at 2 (x ∷ v ∷ y ∷ []) p r) (rw write_three (omega arith)) (head s _ x (v ∷ y ∷ []) p t)
    (head s _ v (y ∷ []) p w) (last s _ y p (rest s _ v (y ∷ []) p w))
found told s at p (Line x y) v u r = pair told s at p 3 x y _ (line-two told) (two-line 3 x y refl ∙ so (Line x y) v u) r

-- ---- refusals

-- a number that tells 8 where another place is meant
damaged_at : (s : List ℕ) (p q : ℕ) → p ≡ q → number_at s p ≡ Refused damaged p → (told_at s q).refusal ≡ damaged
damaged_at s p q e f = ap (λ (k : ℕ). (told_at s k).refusal) (sym e) ∙ ap (λ (n : Number). (number-told n).refusal) f

abbrev AtFault : Bool → List ℕ → ℕ → ℕ → Type 0
AtFault told s at p = (ns : List ℕ) × Reads s at ns p × Wanting told ns × ((told_at s p).refusal ≡ damaged)

fault : (told : Bool) (s : List ℕ) (at p : ℕ) (n : Turn) → Outcome told s at n → (tell told n).refusal ≡ damaged → (tell told n).place ≡ p → AtFault told s at p
fault told s at p n (no_kind e) z w = ([], w, tt, damaged_at s at p w e)
fault told s at p n (unknown_kind kind q e o) z w = absurd (omega arith)
fault told s at p n (no_first kind q e l f) z w = (kind ∷ [], before s at kind q p [] e w, (more_operands told kind 0).0 l, damaged_at s q p w f)
fault told s at p n (one_number step kind q x next v e f) z w = absurd (omega arith)
fault told s at p n (no_second kind q x r e o f g) z w =
    (kind ∷ x ∷ [], before s at kind q p (x ∷ []) e (before s q x r p [] f w), (more_operands told kind 1).0 o, damaged_at s r p w g)
fault told s at p n (two_numbered step kind q x r y next v e f g) z w = absurd (omega arith)
fault told s at p n (no_third kind q x r y t e o f g h) z w =
    (kind ∷ x ∷ y ∷ [], before s at kind q p (x ∷ y ∷ []) e (before s q x r p (y ∷ []) f (before s r y t p [] g w)), (more_operands told kind 2).0 o, damaged_at s t p w h)
fault told s at p n (three_numbered step kind q x r y t v next w e f g h) z u = absurd (omega arith)

-- a refusal at a place, told
refused_there : (told : Bool) (n : Turn) (p q : ℕ) → n ≡ Ended damaged p → p ≡ q → ((tell told n).refusal ≡ damaged) × ((tell told n).place ≡ q)
refused_there told n p q e f = (ap (λ (x : Turn). (tell told x).refusal) e, ap (λ (x : Turn). (tell told x).place) e ∙ f)

refused_so : (told : Bool) (s : List ℕ) (at p : ℕ) (ns : List ℕ) → Reads s at ns p → Wanting told ns → (told_at s p).refusal ≡ damaged
    → ((tell told (step_at told s at)).refusal ≡ damaged) × ((tell told (step_at told s at)).place ≡ p)
refused_so told s at p [] r w d =
    refused_there told (step_at told s at) at p (kind-damaged told s at (told-damaged s at (ap (λ (k : ℕ). (told_at s k).refusal) r ∙ d))) r
refused_so told s at p (kind ∷ []) r w d =
    refused_there told (step_at told s at) p p
    (first-damaged told s at kind p (last s at kind p r) ((more_operands told kind 0).1 w) (told-damaged s p d)) refl
refused_so told s at p (kind ∷ x ∷ []) r w d =
    refused_there told (step_at told s at) p p
    (second-damaged told s at kind _ x p (head s at kind (x ∷ []) p r) ((more_operands told kind 1).1 w) (last s _ x p (rest s at kind (x ∷ []) p r)) (told-damaged s p d))
    refl
refused_so told s at p (kind ∷ x ∷ y ∷ []) r w d =
    let t = rest s at kind (x ∷ y ∷ []) p r in
    refused_there told (step_at told s at) p p
    (third-damaged told s at kind _ x _ y p (head s at kind (x ∷ y ∷ []) p r) ((more_operands told kind 2).1 w) (head s _ x (y ∷ []) p t)
    (last s _ y p (rest s _ x (y ∷ []) p t)) (told-damaged s p d))
    refl
refused_so told s at p (kind ∷ x ∷ y ∷ z ∷ ns) r w d =
    absurd (omega (arith, operands_le told kind, (more_operands told kind (length (x ∷ y ∷ z ∷ ns))).1 w))

abbrev NoKind : List ℕ → ℕ → Type 0
NoKind s at = ((told_at s at).refusal ≡ 0) × (((told_at s at).value ≢ 1) × (((told_at s at).value ≢ 2) × ((told_at s at).value ≢ 3)))

nine_so : (told : Bool) (s : List ℕ) (at : ℕ) (n : Turn) → Outcome told s at n → (tell told n).refusal ≡ unknown → NoKind s at × ((tell told n).place ≡ at)
nine_so told s at n (no_kind e) z = absurd (omega arith)
nine_so told s at n (unknown_kind kind q e o) z = (rw e (refl, (no_operands told kind).0 o), refl)
nine_so told s at n (no_first kind q e l f) z = absurd (omega arith)
nine_so told s at n (one_number step kind q x next v e f) z = absurd (omega arith)
nine_so told s at n (no_second kind q x r e o f g) z = absurd (omega arith)
nine_so told s at n (two_numbered step kind q x r y next v e f g) z = absurd (omega arith)
nine_so told s at n (no_third kind q x r y t e o f g h) z = absurd (omega arith)
nine_so told s at n (three_numbered step kind q x r y t v next w e f g h) z = absurd (omega arith)

abbrev OneOf : Bool → Turn → Type 0
OneOf told n = ((tell told n).refusal ≡ 0) ⊎ (((tell told n).refusal ≡ 8) ⊎ ((tell told n).refusal ≡ 9))

no_other : (told : Bool) (s : List ℕ) (at : ℕ) (n : Turn) → Outcome told s at n → OneOf told n
no_other told s at n (no_kind e) = inr (inl refl)
no_other told s at n (unknown_kind kind q e o) = inr (inr refl)
no_other told s at n (no_first kind q e l f) = inr (inl refl)
no_other told s at n (one_number step kind q x next v e f) = inl refl
no_other told s at n (no_second kind q x r e o f g) = inr (inl refl)
no_other told s at n (two_numbered step kind q x r y next v e f g) = inl refl
no_other told s at n (no_third kind q x r y t e o f g h) = inr (inl refl)
no_other told s at n (three_numbered step kind q x r y t v next w e f g h) = inl refl

-- ---- places

next : (told : Bool) (s : List ℕ) (at : ℕ) (n : Turn) → Outcome told s at n → (tell told n).refusal ≡ carried_out
    → (at < (tell told n).place) × ((tell told n).place ≤ length s)
next told s at n (no_kind e) z = absurd (omega arith)
next told s at n (unknown_kind kind q e o) z = absurd (omega arith)
next told s at n (no_first kind q e l f) z = absurd (omega arith)
next told s at n (one_number step kind q x p v e f) z = (omega (arith, next_place s at kind q e, next_place s q x p f), (next_place s q x p f).1)
next told s at n (no_second kind q x r e o f g) z = absurd (omega arith)
next told s at n (two_numbered step kind q x r y p v e f g) z =
    (omega (arith, next_place s at kind q e, next_place s q x r f, next_place s r y p g), (next_place s r y p g).1)
next told s at n (no_third kind q x r y t e o f g h) z = absurd (omega arith)
next told s at n (three_numbered step kind q x r y t v p w e f g h) z =
    (omega (arith, next_place s at kind q e, next_place s q x r f, next_place s r y t g, next_place s t v p h), (next_place s t v p h).1)

-- ---- turns

turn_end : (told : Bool) (s : List ℕ) (at left : ℕ) → length s ≤ at → turn_at told s at left ≡ Ended 0 (length s)
turn_end told s at left h =
    turn_cases (λ (t : Turn). t ≡ Ended 0 (length s)) told s at left (λ l. refl) (λ l e. absurd (omega arith)) (λ l e. absurd (omega arith))

turn_limit : (told : Bool) (s : List ℕ) (at : ℕ) → at < length s → turn_at told s at 0 ≡ Ended 7 at
turn_limit told s at h = turn_cases (λ (t : Turn). t ≡ Ended 7 at) told s at 0 (λ l. absurd (omega arith)) (λ l e. refl) (λ l e. absurd (e refl))

turn_step : (told : Bool) (s : List ℕ) (at left : ℕ) → at < length s → 0 < left → turn_at told s at left ≡ step_at told s at
turn_step told s at left h m =
    turn_cases (λ (t : Turn). t ≡ step_at told s at) told s at left (λ l. absurd (omega arith)) (λ l e. absurd (omega arith)) (λ l e. refl)

-- ---- the whole trace

abbrev Whole : Bool → ℕ → List ℕ → ℕ → Trace → Type 0
Whole told limit s at t = (p : ℕ) × Along told s at t.steps p × Ends told limit s (length t.steps) p t.refusal t.offset

-- one step more
longer : (told : Bool) (limit : ℕ) (s : List ℕ) (n p refusal offset : ℕ) → Ends told limit s n p refusal offset → Ends told (suc limit) s (suc n) p refusal offset
longer told limit s n p refusal offset (inl h) = inl (h.0, (omega (arith, h.1.0), h.1.1))
longer told limit s n p refusal offset (inr (inl h)) = inr (inl (h.0, (ap suc h.1.0, h.1.1)))
longer told limit s n p refusal offset (inr (inr h)) = inr (inr (h.0, (omega (arith, h.1.0), h.1.1)))

-- a step that stands here, and what follows it
step : (told : Bool) (limit : ℕ) (s : List ℕ) (at : ℕ) (t : Turn) → at < length s → step_at told s at ≡ t
    → ((p : ℕ) → Whole told limit s p (steps_from told limit s p)) → Whole told (suc limit) s at (go_on (steps_from told limit s) t)
step told limit s at (Found x q) l e ih =
    let w = ih q in
    (w.0, (q, e, w.1), longer told limit s _ _ _ _ w.2)
step told limit s at (Ended n q) l e ih = (at, refl, inr (inr (l, (omega arith, e))))

whole : (told : Bool) (limit : ℕ) (s : List ℕ) (at : ℕ) → Whole told limit s at (steps_from told limit s at)
unfolding steps_from
whole told zero s at =
    turn_cases (λ (t : Turn). Whole told 0 s at (go_on (ends limit_reached) t)) told s at 0 (λ h. (at, refl, inl (h, (omega arith, (refl, refl)))))
    (λ h e. (at, refl, inr (inl (h, (refl, (refl, refl)))))) (λ h e. absurd (e refl))
whole told (suc limit) s at =
    turn_cases (λ (t : Turn). Whole told (suc limit) s at (go_on (steps_from told limit s) t)) told s at (suc limit)
    (λ h. (at, refl, inl (h, (omega arith, (refl, refl))))) (λ h e. absurd (omega arith))
    (λ h e. step told limit s at (step_at told s at) h refl (whole told limit s))

pub kept : Promises
kept =
    record {
      told_found = λ told x next. refl;
      told_ended = λ told n at. refl;
      read_is_one = λ offset privilege. refl;
      write_is_two = λ offset value privilege. refl;
      line_is_three = λ told line level privilege. refl;
      read_told = λ offset privilege. refl;
      write_told = λ offset value privilege. refl;
      numbers = λ told s at. numbers told s at (step_at told s at) (outcome told s at);
      found = λ told s at p x. (
        λ e. let o = over _ _ (sym e) (outcome told s at) in (unsaid told s at (Found x p) o, numbers told s at (Found x p) o refl),
        λ h. found told s at p x.step x.privilege h.0 h.1,
      );
      eight = λ told s at p. (
        λ h. fault told s at p (step_at told s at) (outcome told s at) h.0 h.1,
        λ h. refused_so told s at p h.0 h.1 h.2 h.3,
      );
      nine = λ told s at. (
        λ h. (nine_so told s at (step_at told s at) (outcome told s at) h).0,
        λ h. ap (λ (n : Turn). (tell told n).refusal) (kind-unknown told s at _ _ (told-read s at h.0) ((no_operands told _).1 h.1)),
      );
      nine_at = λ told s at h. (nine_so told s at (step_at told s at) (outcome told s at) h).1;
      no_other = λ told s at. no_other told s at (step_at told s at) (outcome told s at);
      next = λ told s at. next told s at (step_at told s at) (outcome told s at);
      turn_end = turn_end;
      turn_limit = turn_limit;
      turn_step = turn_step;
      ended = trace-ended;
      onward = λ told limit s at x p e. trace_found told (suc limit) s at x p e ∙ ap (λ (k : ℕ). after x (steps_from told k s p)) (sub-one (suc limit));
      trace = whole;
      worked = three-bytes;
      worked_told = privileges;
    }
