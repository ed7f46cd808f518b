-- A choice by a truth value: every definition that goes by tests is written with it.
use Rattle.std.specs.Prelude.{Bool, true, false}

-- a where the test holds, else b
unfoldable pub pick : {A : Type 0} → Bool → A → A → A
pick true a b = a
pick false a b = b
