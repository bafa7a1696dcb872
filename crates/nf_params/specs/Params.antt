-- The parameters that JSON gives.
use Rattle.std.specs.Prelude.{◌≡◌, ℕ, ℤ, suc, nat_lt, List, [], ◌∷◌, decimal, Option, Some, None, Result, Ok, Err, if◌then◌else◌}
use Rattle.std.specs.Str.{is_utf8}
use Rattle.serde_json.specs.Data as json
use Rattle.serde_json.specs.Find.{as_i64}
use Rattle.serde_json.specs.Read.{read}
use Rattle.nf_value.specs.Plain.{Plain, null, truth, int, text, list, table, plains_of, plain_pairs_of}
use Rattle.nf_params.specs.Pointer.{part_text, escaped}
use Rattle.nf_params.specs.declared.fault.ParamsFault.{ParamsFault}
use Rattle.nf_params.specs.declared.fault.ParamsFault.TheVariants.{BadParams, Mem}

-- what is read, or the pointer to what is refused
abbrev pub Pointed : Type 0 → Type 0
Pointed A = Result A (List ℕ)

abbrev pub and_then : {A B : Type 0} → Pointed A → (A → Pointed B) → Pointed B
and_then (Ok a) f = f a
and_then (Err p) f = Err p

-- the same, seen from outside of a part
abbrev pub under : {A : Type 0} → List ℕ → Pointed A → Pointed A
under part (Ok a) = Ok a
under part (Err p) = Err (part_text part p)

abbrev pub int_or_here : Option ℤ → Pointed Plain
int_or_here (Some n) = Ok (int n)
int_or_here None = Err []

-- a number of 64 signed bits
abbrev pub integer_in : json.Num → Pointed Plain
integer_in n = int_or_here (as_i64 n)

-- what lies deeper than 64 is refused
abbrev pub no_deeper : ℕ → Pointed Plain → Pointed Plain
no_deeper depth r = if nat_lt 64 depth then Err [] else r

-- values that lie this deep; a value's depth is the number of parts of its pointer
abbrev mutual
  pub plain_in : ℕ → json.Data → Pointed Plain
  plain_in depth json.null = no_deeper depth (Ok null)
  plain_in depth (json.boolean b) = no_deeper depth (Ok (truth b))
  plain_in depth (json.number n) = no_deeper depth (integer_in n)
  plain_in depth (json.string s) = no_deeper depth (Ok (text s))
  plain_in depth (json.array ds) = no_deeper depth (and_then (items_in (suc depth) 0 ds) (λ vs. Ok (list (plains_of vs))))
  plain_in depth (json.object ms) = no_deeper depth (and_then (members_in (suc depth) ms) (λ ps. Ok (table (plain_pairs_of ps))))

  -- items, of which the first has the index `at`
  pub items_in : ℕ → ℕ → json.Items → Pointed (List Plain)
  items_in depth at json.no_items = Ok []
  items_in depth at (json.item d ds) = and_then (under (decimal at) (plain_in depth d)) (λ v. and_then (items_in depth (suc at) ds) (λ vs. Ok (v ∷ vs)))

  pub members_in : ℕ → json.Members → Pointed (List (List ℕ × Plain))
  members_in depth json.no_members = Ok []
  members_in depth (json.member k d ms) = and_then (under (escaped k) (plain_in depth d)) (λ v. and_then (members_in depth ms) (λ ps. Ok ((k, v) ∷ ps)))

-- the members of an object
abbrev pub params_of_data : json.Data → Pointed (List (List ℕ × Plain))
params_of_data json.null = Err []
params_of_data (json.boolean b) = Err []
params_of_data (json.number n) = Err []
params_of_data (json.string s) = Err []
params_of_data (json.array ds) = Err []
params_of_data (json.object ms) = members_in 1 ms

abbrev pub if_read : Option json.Data → Pointed (List (List ℕ × Plain))
if_read (Some d) = params_of_data d
if_read None = Err []

-- the parameters in a text, by what `serde_json` reads in it
unfoldable pub params_of_text : List ℕ → Pointed (List (List ℕ × Plain))
params_of_text t = if_read (read t)

-- the same in any bytes
unfoldable pub params_in : List ℕ → Pointed (List (List ℕ × Plain))
params_in bytes = if is_utf8 bytes then params_of_text bytes else Err []

-- what was read is what is due, unless memory ran out
abbrev pub Gives : {A B : Type 0} → (B → A) → Pointed A → Result B ParamsFault → Type 0
Gives view due (Ok b) = due ≡ Ok (view b)
Gives view due (Err (BadParams pointer)) = due ≡ Err pointer
Gives view due (Err Mem) = Unit {0}
