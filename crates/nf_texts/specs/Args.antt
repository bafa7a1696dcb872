-- What the receiver and the arguments of a call have to be, and the fault of others.
use Rattle.std.specs.Prelude.{ℕ, ℤ, List, [], ◌∷◌, Result, Ok, Err}
use Rattle.nf_value.specs.Plain.{Plain, null, truth, int, text, file, list, table, Plains, no_items, item, PlainPairs}
use Rattle.nf_value.specs.declared.fault.EvalKind.{EvalKind}
use Rattle.nf_value.specs.declared.fault.EvalKind.TheVariants.{Arity, WrongKind, NoMethod}
use Rattle.nf_texts.specs.Outcome.{◌>>=◌}

-- a text, or else this fault
abbrev pub text_or : EvalKind → Plain → Result (List ℕ) EvalKind
text_or k (text t) = Ok t
text_or k null = Err k
text_or k (truth b) = Err k
text_or k (int i) = Err k
text_or k (file n d l) = Err k
text_or k (list vs) = Err k
text_or k (table ps) = Err k

abbrev pub int_or : EvalKind → Plain → Result ℤ EvalKind
int_or k (int i) = Ok i
int_or k null = Err k
int_or k (truth b) = Err k
int_or k (text t) = Err k
int_or k (file n d l) = Err k
int_or k (list vs) = Err k
int_or k (table ps) = Err k

abbrev pub items_of : Plains → List Plain
items_of no_items = []
items_of (item v vs) = v ∷ items_of vs

abbrev pub list_or : EvalKind → Plain → Result (List Plain) EvalKind
list_or k (list vs) = Ok (items_of vs)
list_or k null = Err k
list_or k (truth b) = Err k
list_or k (int i) = Err k
list_or k (text t) = Err k
list_or k (file n d l) = Err k
list_or k (table ps) = Err k

-- the name of a file
abbrev pub name_or : EvalKind → Plain → Result (List ℕ) EvalKind
name_or k (file n d l) = Ok n
name_or k null = Err k
name_or k (truth b) = Err k
name_or k (int i) = Err k
name_or k (text t) = Err k
name_or k (list vs) = Err k
name_or k (table ps) = Err k

abbrev pub table_or : EvalKind → Plain → Result PlainPairs EvalKind
table_or k (table ps) = Ok ps
table_or k null = Err k
table_or k (truth b) = Err k
table_or k (int i) = Err k
table_or k (text t) = Err k
table_or k (file n d l) = Err k
table_or k (list vs) = Err k

-- a method of one kind of value takes no other receiver
abbrev pub on_text : Plain → Result (List ℕ) EvalKind
on_text = text_or NoMethod

abbrev pub on_list : Plain → Result (List Plain) EvalKind
on_list = list_or NoMethod

abbrev pub on_file : Plain → Result (List ℕ) EvalKind
on_file = name_or NoMethod

abbrev pub on_table : Plain → Result PlainPairs EvalKind
on_table = table_or NoMethod

-- no argument
abbrev pub no_args : List Plain → Result (Unit {0}) EvalKind
no_args [] = Ok tt
no_args (a ∷ more) = Err Arity

-- the only argument
abbrev pub one_arg : List Plain → Result Plain EvalKind
one_arg [] = Err Arity
one_arg (a ∷ []) = Ok a
one_arg (a ∷ b ∷ more) = Err Arity

-- the only argument, a text
abbrev pub text_arg : List Plain → Result (List ℕ) EvalKind
text_arg args = one_arg args >>= text_or WrongKind

-- the only argument, a number
abbrev pub int_arg : List Plain → Result ℤ EvalKind
int_arg args = one_arg args >>= int_or WrongKind

-- both arguments
abbrev pub two_args : List Plain → Result (Plain × Plain) EvalKind
two_args [] = Err Arity
two_args (a ∷ []) = Err Arity
two_args (a ∷ b ∷ []) = Ok (a, b)
two_args (a ∷ b ∷ c ∷ more) = Err Arity

-- both arguments, texts
abbrev pub text_args : List Plain → Result (List ℕ × List ℕ) EvalKind
text_args args = two_args args >>= λ (a, b). text_or WrongKind a >>= λ t. text_or WrongKind b >>= λ u. Ok (t, u)

-- both arguments, numbers
abbrev pub int_args : List Plain → Result (ℤ × ℤ) EvalKind
int_args args = two_args args >>= λ (a, b). int_or WrongKind a >>= λ i. int_or WrongKind b >>= λ j. Ok (i, j)
