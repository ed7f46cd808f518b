-- That `renew` of src/channels.rt keeps its contract.
use Prim.Native.Nat.{ℕ, ◌+◌}
use lib.ListN.{get_or}
use mathlib.Core.Path.{refl}
use native.Mathlib.Omega.{arith}
use Rattle.words.specs.Array.{byte_of}
use Rattle.indexed_room.specs.Words.{one_of}
use mathlib.Core.Bool.{Bool, false, ◌||◌}
use Rattle.indexed_room.proofs.WordLaws.{in_its_word, register-bytes, renewing-first, renewing_last, none_differ}
use Rattle.indexed_room.proofs.channels.renew.Goals as goal

pub returns-then-old-new : goal.returns-then-old-new
returns-then-old-new c =
    let q = c.requires in
    λ f d m w h. renewing_last (λ j. none_differ _ _ j c.if-old-new.true) (renewing-first f d m _ _ _ w (register-bytes _ q h) h)

pub returns : goal.returns
returns c =
    let o = c.args.old in
    let n = get_or c.args.room.now (256 + c.args.q) 0 in
    λ f d m w h.
    let is = register-bytes _ c.requires h in
    let r3 : ℕ → Bool = λ j. one_of (byte_of o 3) (byte_of n 3) j || false in
    let r2 : ℕ → Bool = λ j. one_of (byte_of o 2) (byte_of n 2) j || r3 j in
    let r1 : ℕ → Bool = λ j. one_of (byte_of o 1) (byte_of n 1) j || r2 j in
    renewing_last (λ j. refl)
    (c.replace_byte-4.ensures f d (λ j. false) (in_its_word _ _ 3 _ (omega arith) (is 3 (omega arith)))
    (c.replace_byte-3.ensures f d r3 (in_its_word _ _ 2 _ (omega arith) (is 2 (omega arith)))
    (c.replace_byte-2.ensures f d r2 (in_its_word _ _ 1 _ (omega arith) (is 1 (omega arith)))
    (c.replace_byte.ensures f d r1 (in_its_word _ _ 0 _ (omega arith) (is 0 (omega arith)))
    (renewing-first f d m _ o n w is h)))))
