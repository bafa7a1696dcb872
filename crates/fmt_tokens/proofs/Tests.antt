-- Small lemmas on tests and options.
use Rattle.std.proofs.Common.{◌≡◌, Bool, true, false, cond, Option, Some, None, refl}
use Rattle.std.specs.Prelude.{not, ◌&&◌, ◌||◌}
use Rattle.std.specs.Option.{is_none}

pub if_true : {A : Type 0} (c : Bool) (x y : A) → c ≡ true → cond c x y ≡ x
if_true true x y h = refl
if_true false x y h = absurd cc

pub if_false : {A : Type 0} (c : Bool) (x y : A) → c ≡ false → cond c x y ≡ y
if_false true x y h = absurd cc
if_false false x y h = refl

pub both : (a b : Bool) → (a && b) ≡ true → (a ≡ true) × (b ≡ true)
both true b h = (refl, h)
both false b h = absurd cc

pub neither : (a b : Bool) → (a || b) ≡ false → (a ≡ false) × (b ≡ false)
neither true b h = absurd cc
neither false b h = (refl, h)

pub not_not : (t : Bool) → not t ≡ true → t ≡ false
not_not true h = absurd cc
not_not false h = refl

pub is_nothing : {A : Type 0} (x : Option A) → is_none x ≡ true → x ≡ None
is_nothing None h = refl
is_nothing (Some c) h = absurd cc
