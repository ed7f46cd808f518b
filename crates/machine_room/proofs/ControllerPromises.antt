-- The promises of a controller in words that a caller keeps, kept.
use Prim.Native.Nat.{ℕ, suc, ◌+◌, ◌*◌, ◌<◌}
use mathlib.Core.Path.{◌≡◌, refl, sym, ap, ◌∙◌}
use mathlib.Core.Bool.{true, false}
use mathlib.Core.List.{List}
use lib.ListN.{get_or}
use borrow.Author.Tests.{eq-eqb, eqb-true}
use Rattle.words.proofs.ChoiceLaws.{pick_true, pick-false}
use Rattle.words.specs.Counting.{upto}
use Rattle.words.proofs.CountingLaws.{all_at, at_all, all_fails}
use Rattle.steps.specs.declared.Step.{Step}
use Rattle.trace.specs.Turns.{made}
use Rattle.trace.proofs.TurnLaws.{step-read, step-write}
use Rattle.rooms.specs.Reply.{Reply}
use Rattle.kinds.specs.declared.Configuration.{Configuration}
use Rattle.kinds.specs.Kinds.{is_kind, wanted, within}
use Rattle.machine.specs.declared.record.Machine.{Machine}
use Rattle.machine.specs.Steps.{step}
use Rattle.machine_room.proofs.Promises.{kept as rooms}
use Rattle.machine_room.proofs.RoomLaws.{line_step}
use Rattle.machine_room.specs.Controller.{same, accepted, start_refusal}
use Rattle.machine_room.specs.Batch.{step_told, kth_told, after_steps}
use Rattle.machine_room.specs.ControllerPromises.{Promises}
use Rattle.machine_room.proofs.BatchLaws.{told-one, told_none, answers-length, answers-past, refusal_at_lem, value_at_lem, one_more}
use Rattle.machine_room.proofs.ControllerLaws.{start-taken}

unknown-kind : (kind : ℕ) (c : Configuration) → is_kind kind ≡ false → start_refusal kind c ≡ 9
unfolding start_refusal
unknown-kind kind c e = sym (pick-false _ e)

beyond_limit : (kind : ℕ) (c : Configuration) (n : ℕ) → is_kind kind ≡ true → n < wanted kind → within kind n (get_or c.numbers n 0) ≡ false
    → start_refusal kind c ≡ 10
unfolding start_refusal accepted
beyond_limit kind c n e l f = sym (pick-false _ (all_fails (wanted kind) _ n l f) ∙ pick_true _ e)

start-accepted : (kind : ℕ) (c : Configuration) → is_kind kind ≡ true → ((n : ℕ) → n < wanted kind → within kind n (get_or c.numbers n 0) ≡ true)
    → start_refusal kind c ≡ 0
unfolding start_refusal accepted
start-accepted kind c e h = sym (pick_true _ (at_all (wanted kind) _ h) ∙ pick_true _ e)

same_words : (r s : List ℕ) → same r s ≡ true → (k : ℕ) → k < 2048 → get_or r k 0 ≡ get_or s k 0
unfolding same
same_words r s e k l = eqb-true _ _ (all_at 2048 _ e k l)

words_same : (r s : List ℕ) → ((k : ℕ) → k < 2048 → get_or r k 0 ≡ get_or s k 0) → same r s ≡ true
unfolding same
words_same r s h = at_all 2048 _ (λ k l. eq-eqb _ _ (h k l))

kth-is : (m : Machine) (told : List ℕ) (k : ℕ)
    → kth_told m told k ≡ step_told m (get_or told (4 * k) 0) (get_or told (4 * k + 1) 0) (get_or told (4 * k + 2) 0) (get_or told (4 * k + 3) 0)
unfolding kth_told
kth-is m told k = refl

after_none : (m : Machine) (told : List ℕ) → after_steps m told 0 ≡ m
unfolding after_steps upto
after_none m told = refl

after_more : (m : Machine) (told : List ℕ) (k : ℕ) → after_steps m told (suc k) ≡ (kth_told (after_steps m told k) told k).machine
unfolding after_steps upto
after_more m told k = refl

pub kept : Promises
kept =
    record {
      unknown_kind = unknown-kind;
      beyond_limit = beyond_limit;
      taken = start-accepted;
      start_sound = start-taken;
      same_is = λ r s. (same_words r s, words_same r s);
      refused_same = λ m x before after q s h n. rooms.refused_same true m x before after q s.0 s.1 (h.standing m s) n;
      vacant_same = λ x before after q v h. let e = h.vacant v in (e.0, ap (λ (p : Reply). p.0) e.1, ap (λ (p : Reply). p.1) e.1);
      told_read = λ m x y p. told-one m 1 x y p refl ∙ ap (λ (z : Step). step m (made z p)) (step-read 1 x y refl);
      told_write = λ m x y p. told-one m 2 x y p refl ∙ ap (λ (z : Step). step m (made z p)) (step-write 2 x y refl);
      told_line = λ m x y p. told-one m 3 x y p refl ∙ ap (λ (z : Step). step m (made z p)) (line_step 3 x y refl);
      told_none = told_none;
      kth_is = kth-is;
      after_none = after_none;
      after_more = after_more;
      refusal_at = refusal_at_lem;
      value_at = value_at_lem;
      rest_same = answers-past;
      as_long = answers-length;
      singly = one_more;
    }
