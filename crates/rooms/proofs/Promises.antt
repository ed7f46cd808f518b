-- The promises of rooms, kept.
use Prim.Native.Nat.{ℕ, ◌+◌, ◌*◌, ◌<◌}
use mathlib.Core.Path.{◌≡◌, ap₂}
use native.Mathlib.Omega.{arith}
use Rattle.rooms.specs.Reply.{reply, told}
use Rattle.rooms.specs.Promises.{Promises}
use Rattle.rooms.proofs.PartLaws.{part_get, flat-length, made-length, made_get}

reply-is : (refusal value : ℕ) → value < 4294967296 → told (refusal * 4294967296 + value) ≡ reply refusal value
unfolding told
reply-is n v l = ap₂ (λ (x y : ℕ). (x, y)) (omega (arith, l)) (omega (arith, l))

pub kept : Promises
kept =
    record {
      reply_is = reply-is;
      stands = λ parts sizes i k s l. part_get parts sizes s i k l;
      size = λ parts sizes s. flat-length parts sizes s;
      made_is = λ n f. (made-length n f, λ k l. made_get n f k l);
    }
