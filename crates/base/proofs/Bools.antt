-- 'or' and 'and' of tests. Assumes nothing.
use mathlib.Core.Path.{◌≡◌, refl, sym}
use mathlib.Core.Logic.{◌⊎◌, inl, inr}
use mathlib.Core.Bool.{Bool, true, false, ◌&&◌, ◌||◌, true≢false, false≢true}

-- ---- 'or'

pub or_left : (a b : Bool) → a ≡ true → a || b ≡ true
or_left a b e = rw e

pub or_right : (a b : Bool) → b ≡ true → a || b ≡ true
or_right true b e = refl
or_right false b e = e

pub or_out : (a b : Bool) → a || b ≡ true → (a ≡ true) ⊎ (b ≡ true)
or_out true b e = inl refl
or_out false b e = inr e

-- neither
pub or_none : (a b : Bool) → a || b ≡ false → (a ≡ false) × (b ≡ false)
or_none true b e = absurd (true≢false e)
or_none false b e = (refl, e)

pub or_nil : (a : Bool) → a || false ≡ a
or_nil true = refl
or_nil false = refl

pub or_true : (a : Bool) → a || true ≡ true
or_true true = refl
or_true false = refl

pub or_assoc : (a b c : Bool) → a || b || c ≡ a || (b || c)
or_assoc true b c = refl
or_assoc false b c = refl

pub or_comm : (a b : Bool) → a || b ≡ b || a
or_comm true true = refl
or_comm true false = refl
or_comm false true = refl
or_comm false false = refl

-- ---- 'and'

pub and_in : (a b : Bool) → a ≡ true → b ≡ true → a && b ≡ true
and_in a b p q = rw p q

pub and_out : (a b : Bool) → a && b ≡ true → (a ≡ true) × (b ≡ true)
and_out true b e = (refl, e)
and_out false b e = absurd (false≢true e)

pub and_left : (a b : Bool) → a && b ≡ true → a ≡ true
and_left a b e = (and_out a b e).0

pub and_right : (a b : Bool) → a && b ≡ true → b ≡ true
and_right a b e = (and_out a b e).1

-- the second is what fails
pub and_second : (a b : Bool) → a ≡ true → a && b ≡ false → b ≡ false
and_second true b h e = e
and_second false b h e = absurd (false≢true h)

pub and_false : (a : Bool) → a && false ≡ false
and_false true = refl
and_false false = refl

pub and_true : (a : Bool) → a && true ≡ a
and_true true = refl
and_true false = refl

pub and_comm : (a b : Bool) → a && b ≡ b && a
and_comm true true = refl
and_comm true false = refl
and_comm false true = refl
and_comm false false = refl

-- ---- two tests that hold together

pub same_if : (s t : Bool) → (s ≡ true → t ≡ true) → (t ≡ true → s ≡ true) → s ≡ t
same_if true t f g = sym (f refl)
same_if false true f g = g refl
same_if false false f g = refl
