-- The last of a list.
use Rattle.std.specs.Prelude.{List, [], ◌∷◌}

-- the last of x and these
abbrev pub last_of : {A : Type 0} → A → List A → A
last_of x [] = x
last_of x (y ∷ ys) = last_of y ys
