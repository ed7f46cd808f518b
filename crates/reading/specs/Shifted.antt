-- What stands from a place on, moved to the front of a room; behind it the room is as it was (02, 11/12: "one to a line", of which one may be begun).
use Rattle.std.specs.Prelude.{ℕ, ◌-◌, List, ◌++◌, length, drop}

unfoldable pub shifted : ℕ → List ℕ → List ℕ
shifted from l = drop from l ++ drop (length l - from) l
