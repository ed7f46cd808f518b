-- What a choice gives where its test is known, and what holds of both sides of it.
use mathlib.Core.Path.{◌≡◌, refl, sym, ap, ◌∙◌}
use mathlib.Core.Bool.{Bool, true, false}
use Rattle.words.specs.Choice.{pick}

pub pick_true : {A : Type 0} {t : Bool} {a : A} (b : A) → t ≡ true → a ≡ pick t a b
unfolding pick
pick_true {a = a} b e = ap (λ (x : Bool). pick x a b) (sym e)

pub pick-false : {A : Type 0} {t : Bool} {b : A} (a : A) → t ≡ false → b ≡ pick t a b
unfolding pick
pick-false {b = b} a e = ap (λ (x : Bool). pick x a b) (sym e)

-- the code's test u is the definition's test t
pub by-true : {A : Type 0} {t u : Bool} {a : A} (b : A) → u ≡ t → u ≡ true → a ≡ pick t a b
by-true b p e = pick_true b (sym p ∙ e)

pub by-false : {A : Type 0} {t u : Bool} {b : A} (a : A) → u ≡ t → u ≡ false → b ≡ pick t a b
by-false a p e = pick-false a (sym p ∙ e)

-- what follows on either side follows of the choice
pub pick_cases : {A : Type 0} (P : A → Type 0) (t : Bool) {a b : A} → (t ≡ true → P a) → (t ≡ false → P b) → P (pick t a b)
unfolding pick
pick_cases P true f g = f refl
pick_cases P false f g = g refl

-- a function of a choice is the choice of its values
pub pick-ap : {A B : Type 0} (f : A → B) (t : Bool) (a b : A) → f (pick t a b) ≡ pick t (f a) (f b)
unfolding pick
pick-ap f true a b = refl
pick-ap f false a b = refl

-- what a function makes of both sides of a choice it makes of the choice
pub pick_through : {A B : Type 0} (f : A → B) (t : Bool) {a b : A} {c d : B} → c ≡ f a → d ≡ f b → pick t c d ≡ f (pick t a b)
unfolding pick
pick_through f true p q = p
pick_through f false p q = q

-- where the test fails, of the one side
pub pick-past : {A B : Type 0} (f : A → B) {t : Bool} (a : A) {b : A} (c : B) {d : B} → t ≡ false → d ≡ f b → pick t c d ≡ f (pick t a b)
unfolding pick
pick-past f a c e q = rw e q
