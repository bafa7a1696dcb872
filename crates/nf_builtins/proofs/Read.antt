-- That there is no such method exactly where a row isn't read.
use Rattle.std.proofs.Common.{◌≡◌, ℕ, ℤ, pos, negsuc, Bool, true, false, not, List, [], ◌∷◌, Result, Ok, Err, refl}
use Rattle.std.specs.Prelude.{if◌then◌else◌}
use Rattle.nf_value.specs.Plain.{Plain, null, truth, int, text, file, list, table, PlainPairs}
use Rattle.nf_value.specs.declared.fault.EvalKind.{EvalKind}
use Rattle.nf_value.specs.declared.fault.EvalKind.TheVariants.{NoMethod, WrongKind, Overflow}
use Rattle.nf_builtins.specs.declared.rows.On.TheVariants as on
use Rattle.nf_texts.specs.Outcome.{Outcome, ◌>>=◌}
use Rattle.nf_builtins.specs.Rows.{is_on}
use Rattle.nf_builtins.specs.Reading.{is_no_method}
use Rattle.nf_texts.specs.Args.{text_or, int_or, items_of, on_text, on_list, on_file, on_table, no_args, one_arg, two_args, text_arg, int_arg, text_args, int_args}
use Rattle.nf_texts.specs.Texts.{count_of, count_arg, count_or_fault}
use Rattle.nf_builtins.specs.Numbers.{number}
use Rattle.nf_builtins.specs.Call.{by_kind, text_or_list}

-- neither part says that there is no such method
pub then_free : {A B : Type 0} (r : Result A EvalKind) (f : A → Result B EvalKind) → is_no_method r ≡ false → ((x : A) → is_no_method (f x) ≡ false) → is_no_method (r >>= f) ≡ false
then_free (Ok x) f h k = k x
then_free (Err e) f h k = h

pub either_free : {A : Type 0} (b : Bool) (x y : Result A EvalKind) → is_no_method x ≡ false → is_no_method y ≡ false → is_no_method (if b then x else y) ≡ false
either_free true x y h k = h
either_free false x y h k = k

pub text_free : (v : Plain) → is_no_method (text_or WrongKind v) ≡ false
text_free null = refl
text_free (truth b) = refl
text_free (int i) = refl
text_free (text t) = refl
text_free (file n d l) = refl
text_free (list vs) = refl
text_free (table ps) = refl

pub int_free : (v : Plain) → is_no_method (int_or WrongKind v) ≡ false
int_free null = refl
int_free (truth b) = refl
int_free (int i) = refl
int_free (text t) = refl
int_free (file n d l) = refl
int_free (list vs) = refl
int_free (table ps) = refl

pub no_args_free : (args : List Plain) → is_no_method (no_args args) ≡ false
no_args_free [] = refl
no_args_free (a ∷ more) = refl

pub one_arg_free : (args : List Plain) → is_no_method (one_arg args) ≡ false
one_arg_free [] = refl
one_arg_free (a ∷ []) = refl
one_arg_free (a ∷ b ∷ more) = refl

pub two_args_free : (args : List Plain) → is_no_method (two_args args) ≡ false
two_args_free [] = refl
two_args_free (a ∷ []) = refl
two_args_free (a ∷ b ∷ []) = refl
two_args_free (a ∷ b ∷ c ∷ more) = refl

pub text_arg_free : (args : List Plain) → is_no_method (text_arg args) ≡ false
text_arg_free args = then_free (one_arg args) (text_or WrongKind) (one_arg_free args) text_free

pub int_arg_free : (args : List Plain) → is_no_method (int_arg args) ≡ false
int_arg_free args = then_free (one_arg args) (int_or WrongKind) (one_arg_free args) int_free

pub count_free : (n : ℤ) → is_no_method (count_of n) ≡ false
count_free (pos n) = refl
count_free (negsuc n) = refl

pub count_arg_free : (args : List Plain) → is_no_method (count_arg args) ≡ false
count_arg_free args = then_free (int_arg args) count_of (int_arg_free args) count_free

pub count_or_fault_free : (v : Plain) → is_no_method (count_or_fault v) ≡ false
count_or_fault_free v = then_free (int_or WrongKind v) count_of (int_free v) count_free

pub text_args_free : (args : List Plain) → is_no_method (text_args args) ≡ false
text_args_free [] = refl
text_args_free (a ∷ []) = refl
text_args_free (a ∷ b ∷ []) = then_free (text_or WrongKind a) (λ t. text_or WrongKind b >>= λ u. Ok (t, u)) (text_free a) (λ t. then_free (text_or WrongKind b) (λ u. Ok (t, u)) (text_free b) (λ u. refl))
text_args_free (a ∷ b ∷ c ∷ more) = refl

pub int_args_free : (args : List Plain) → is_no_method (int_args args) ≡ false
int_args_free [] = refl
int_args_free (a ∷ []) = refl
int_args_free (a ∷ b ∷ []) = then_free (int_or WrongKind a) (λ i. int_or WrongKind b >>= λ j. Ok (i, j)) (int_free a) (λ i. then_free (int_or WrongKind b) (λ j. Ok (i, j)) (int_free b) (λ j. refl))
int_args_free (a ∷ b ∷ c ∷ more) = refl

pub number_free : (n : ℤ) → is_no_method (number n) ≡ false
number_free n = either_free _ (Ok (int n)) (Err Overflow) refl refl

-- a row that is read on one kind of value
pub int_row : (f : ℤ → Outcome) → ((i : ℤ) → is_no_method (f i) ≡ false) → (v : Plain) → is_no_method (int_or NoMethod v >>= f) ≡ not (is_on on.Int v)
int_row f h null = refl
int_row f h (truth b) = refl
int_row f h (int i) = h i
int_row f h (text t) = refl
int_row f h (file n d l) = refl
int_row f h (list vs) = refl
int_row f h (table ps) = refl

pub text_row : (f : List ℕ → Outcome) → ((t : List ℕ) → is_no_method (f t) ≡ false) → (v : Plain) → is_no_method (on_text v >>= f) ≡ not (is_on on.Text v)
text_row f h null = refl
text_row f h (truth b) = refl
text_row f h (int i) = refl
text_row f h (text t) = h t
text_row f h (file n d l) = refl
text_row f h (list vs) = refl
text_row f h (table ps) = refl

pub list_row : (f : List Plain → Outcome) → ((vs : List Plain) → is_no_method (f vs) ≡ false) → (v : Plain) → is_no_method (on_list v >>= f) ≡ not (is_on on.List v)
list_row f h null = refl
list_row f h (truth b) = refl
list_row f h (int i) = refl
list_row f h (text t) = refl
list_row f h (file n d l) = refl
list_row f h (list vs) = h (items_of vs)
list_row f h (table ps) = refl

pub file_row : (f : List ℕ → Outcome) → ((n : List ℕ) → is_no_method (f n) ≡ false) → (v : Plain) → is_no_method (on_file v >>= f) ≡ not (is_on on.File v)
file_row f h null = refl
file_row f h (truth b) = refl
file_row f h (int i) = refl
file_row f h (text t) = refl
file_row f h (file n d l) = h n
file_row f h (list vs) = refl
file_row f h (table ps) = refl

pub map_row : (f : PlainPairs → Outcome) → ((ps : PlainPairs) → is_no_method (f ps) ≡ false) → (v : Plain) → is_no_method (on_table v >>= f) ≡ not (is_on on.Map v)
map_row f h null = refl
map_row f h (truth b) = refl
map_row f h (int i) = refl
map_row f h (text t) = refl
map_row f h (file n d l) = refl
map_row f h (list vs) = refl
map_row f h (table ps) = h ps

-- a row that is read on texts and lists, and one that is read on maps too
pub text_list_row : (f : List ℕ → Outcome) (g : List Plain → Outcome) → ((t : List ℕ) → is_no_method (f t) ≡ false) → ((vs : List Plain) → is_no_method (g vs) ≡ false) → (v : Plain) → is_no_method (text_or_list v f g) ≡ not (is_on on.TextOrList v)
text_list_row f g h k null = refl
text_list_row f g h k (truth b) = refl
text_list_row f g h k (int i) = refl
text_list_row f g h k (text t) = h t
text_list_row f g h k (file n d l) = refl
text_list_row f g h k (list vs) = k (items_of vs)
text_list_row f g h k (table ps) = refl

pub text_list_map_row : (f : List ℕ → Outcome) (g : List Plain → Outcome) (e : PlainPairs → Outcome) → ((t : List ℕ) → is_no_method (f t) ≡ false) → ((vs : List Plain) → is_no_method (g vs) ≡ false) → ((ps : PlainPairs) → is_no_method (e ps) ≡ false) → (v : Plain) → is_no_method (by_kind v f g e) ≡ not (is_on on.TextListOrMap v)
text_list_map_row f g e h k m null = refl
text_list_map_row f g e h k m (truth b) = refl
text_list_map_row f g e h k m (int i) = refl
text_list_map_row f g e h k m (text t) = h t
text_list_map_row f g e h k m (file n d l) = refl
text_list_map_row f g e h k m (list vs) = k (items_of vs)
text_list_map_row f g e h k m (table ps) = m ps
