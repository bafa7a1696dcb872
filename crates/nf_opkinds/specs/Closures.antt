-- Closures and options among arguments.
use Rattle.std.specs.Prelude.{ℕ, Bool, false, not, List, [], ◌∷◌, Option, Some, None, is_some}
use Rattle.std.specs.List.{list_any}
use Rattle.std.specs.Str.{bytes_eq}
use Rattle.nf_kinds.specs.declared.args.Given.{Given}
use Rattle.nf_kinds.specs.Facts.{Facts}

abbrev pub has_closure : List Given → Bool
has_closure xs = list_any (λ x. is_some x.closure) xs

abbrev pub is_no_total : Option Facts → Bool
is_no_total None = false
is_no_total (Some f) = not f.is_total

abbrev pub has_other_closure : List Given → Bool
has_other_closure xs = list_any (λ x. is_no_total x.closure) xs

abbrev pub is_named : List ℕ → Option (List ℕ) → Bool
is_named n None = false
is_named n (Some m) = bytes_eq m n

abbrev pub has_option : List ℕ → List Given → Bool
has_option n xs = list_any (λ x. is_named n x.option) xs

abbrev pub or_later : Option Facts → Option Facts → Option Facts
or_later None later = later
or_later (Some f) later = Some f

abbrev pub first_closure : List Given → Option Facts
first_closure [] = None
first_closure (x ∷ xs) = or_later x.closure (first_closure xs)

abbrev pub labels_by : Option Facts → List (List ℕ)
labels_by None = []
labels_by (Some f) = f.labels

abbrev pub name_by : Option Facts → Option (List ℕ)
name_by None = None
name_by (Some f) = f.name
