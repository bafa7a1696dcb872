-- What inputs take, one after the other.
use Rattle.std.proofs.Common.{◌≡◌, ◌≢◌, ℕ, suc, List, [], ◌∷◌, ◌++◌, length, map, Bool, true, false, refl, ap, sym, ◌∙◌, subst, append_assoc, append-nil, arith, Option, None, Some, option_map, Ok, Err}
use Rattle.nf_value.specs.declared.file.FileRef.{FileRef}
use Rattle.nf_value.specs.declared.value.Value.{Value}
use Rattle.nf_value.specs.declared.place.Place.{Place}
use Rattle.nf_value.specs.Plain.{Plain, Plains, no_items, item, plains_of}
use Rattle.nf_value.specs.View.{plain_of}
use Rattle.nf_value.specs.Text.{value_text}
use Rattle.nf_tasks.specs.declared.inputs.Bound.{Bound}
use Rattle.nf_tasks.specs.declared.inputs.Input.{Input}
use Rattle.nf_tasks.specs.declared.input_parts.InputPart.{InputPart}
use Rattle.nf_tasks.specs.Judged.{Judged, ◌>>=◌, wrong_kind}
use Rattle.nf_tasks.specs.Inputs.{nothing_taken, later, and_taken, value_taken, stdin_taken, path_taken, files_in, part_takes, taken_with, parts_take, shape_takes, taken_and, bound_by, and_files, and_value, and_stdin, file_and}

pub after_value : (b : Bound) (v : Plain) → and_taken b (value_taken v) ≡ and_value b v
after_value b v = λ i. record { values = b.values ++ v ∷ []; stdin = b.stdin; staged = append-nil b.staged i }

pub after_stdin : (b : Bound) (v : Plain) → and_taken b (stdin_taken v) ≡ and_stdin b (value_text v)
after_stdin b v = λ i. record { values = append-nil b.values i; stdin = Some (value_text v); staged = append-nil b.staged i }

pub one_file_more : (b : Bound) (f : FileRef) (fs : List FileRef) → and_files b (f ∷ fs) ≡ and_files (and_files b (f ∷ [])) fs
one_file_more b f fs = λ i. record { values = b.values; stdin = b.stdin; staged = sym (append_assoc b.staged (f ∷ []) fs) i }

pub no_file_more : (b : Bound) → and_files b [] ≡ b
no_file_more b = λ i. record { values = b.values; stdin = b.stdin; staged = append-nil b.staged i }

pub and_nothing : (b : Bound) → and_taken b nothing_taken ≡ b
and_nothing b = λ i. record { values = append-nil b.values i; stdin = b.stdin; staged = append-nil b.staged i }

later_none : (s : Option (List ℕ)) → later None s ≡ s
later_none None = refl
later_none (Some t) = refl

pub nothing_and : (b : Bound) → and_taken nothing_taken b ≡ b
nothing_and b = λ i. record { values = b.values; stdin = later_none b.stdin i; staged = b.staged }

later_assoc : (a b c : Option (List ℕ)) → later (later a b) c ≡ later a (later b c)
later_assoc a b None = refl
later_assoc a b (Some t) = refl

pub taken_assoc : (a b c : Bound) → and_taken (and_taken a b) c ≡ and_taken a (and_taken b c)
taken_assoc a b c = λ i. record { values = append_assoc a.values b.values c.values i; stdin = later_assoc a.stdin b.stdin c.stdin i; staged = append_assoc a.staged b.staged c.staged i }

some_is : {A : Type 0} {x y : A} → ◌≡◌ {A = Option A} (Some x) (Some y) → x ≡ y
some_is h = cc

-- the files of an item, and then the item
pub path_takes : (old mid : Bound) (v : Plain) (due : Option (List FileRef)) → option_map (and_files old) due ≡ Some mid → option_map (and_taken old) (option_map (path_taken v) due) ≡ Some (and_value mid v)
path_takes old mid v None h = cc
path_takes old mid v (Some fs) h = ap (λ b. Some (and_value b v)) (some_is h)

-- one part more takes from one item more
pub part_and : (old mid : Bound) (first : Option Bound) (more : Option Bound) → option_map (and_taken old) first ≡ Some mid → option_map (and_taken old) (taken_with first more) ≡ option_map (and_taken mid) more
part_and old mid None more h = cc
part_and old mid (Some t) None h = refl
part_and old mid (Some t) (Some u) h = ap Some (sym (taken_assoc old t u) ∙ ap (λ b. and_taken b u) (some_is h))

pub none_from : {A B : Type 0} (f : A → B) (due : Option A) → option_map f due ≡ None → due ≡ None
none_from f None h = refl
none_from f (Some x) h = cc

with_none : (first : Option Bound) → taken_with first None ≡ None
with_none None = refl
with_none (Some t) = refl

-- another number of parts than of items
pub unequal : (ps : List InputPart) (vs : List Value) → length ps ≢ length vs → parts_take ps (plains_of (map plain_of vs)) ≡ None
unequal [] [] h = absurd (h refl)
unequal [] (v ∷ vs) h = refl
unequal (p ∷ ps) [] h = refl
unequal (p ∷ ps) (v ∷ vs) h = ap (taken_with (part_takes p (plain_of v))) (unequal ps vs (λ e. h (ap suc e))) ∙ with_none (part_takes p (plain_of v))

-- what inputs take after others
abbrev pub joined : Bound → Judged Bound → Judged Bound
joined b due = due >>= λ u. Ok (and_taken b u)

pub joined_nothing : (due : Judged Bound) → joined nothing_taken due ≡ due
joined_nothing (Err e) = refl
joined_nothing (Ok u) = ap Ok (nothing_and u)

pub input_and : (old mid : Bound) (p : Place) (first : Option Bound) (more : Judged Bound) → option_map (and_taken old) first ≡ Some mid → joined old (taken_and p first more) ≡ joined mid more
input_and old mid p None more h = cc
input_and old mid p (Some t) (Err e) h = refl
input_and old mid p (Some t) (Ok u) h = ap Ok (sym (taken_assoc old t u) ∙ ap (λ b. and_taken b u) (some_is h))

pub input_wrong : (old : Bound) (p : Place) (first : Option Bound) (more : Judged Bound) → first ≡ None → joined old (taken_and p first more) ≡ Err (wrong_kind p)
input_wrong old p None more h = refl
input_wrong old p (Some t) more h = cc

-- one file more
pub file_more : (old mid : Bound) (o : Option FileRef) (f : FileRef) (due : Option (List FileRef)) → o ≡ Some f → mid ≡ and_files old (f ∷ []) → option_map (and_files old) (file_and o due) ≡ option_map (and_files mid) due
file_more old mid None f due h is = cc
file_more old mid (Some g) f None h is = refl
file_more old mid (Some g) f (Some fs) h is = ap Some (one_file_more old g fs ∙ ap (λ b. and_files b fs) (ap (λ x. and_files old (x ∷ [])) (some_is h) ∙ sym is))

pub file_none : (old : Bound) (o : Option FileRef) (due : Option (List FileRef)) → o ≡ None → option_map (and_files old) (file_and o due) ≡ None
file_none old None due h = refl
file_none old (Some g) due h = cc
