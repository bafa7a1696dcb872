-- That the table says rightly which values have a method: those for which the method has an outcome other than `NoMethod`.
use Rattle.std.specs.Prelude.{◌≡◌, Bool, true, false, ◌&&◌, not, List, Result, Ok, Err}
use Rattle.nf_value.specs.Plain.{Plain}
use Rattle.nf_value.specs.declared.fault.EvalKind.{EvalKind}
use Rattle.nf_value.specs.declared.fault.EvalKind.TheVariants.{NoMethod}
use Rattle.nf_builtins.specs.declared.rows.Builtin.{Builtin}
use Rattle.nf_builtins.specs.declared.rows.On.{On}
use Rattle.nf_builtins.specs.declared.rows.On.TheVariants as on
use Rattle.nf_builtins.specs.Rows.{is_on, is_closure}
use Rattle.nf_builtins.specs.Call.{answer_of}

abbrev pub is_missing : EvalKind → Bool
is_missing NoMethod = true
is_missing _ = false

-- whether there is no such method
abbrev pub is_no_method : {A : Type 0} → Result A EvalKind → Bool
is_no_method (Ok x) = false
is_no_method (Err k) = is_missing k

-- a row of `Math` reads no receiver
abbrev pub has_receiver : On → Bool
has_receiver on.Nothing = false
has_receiver _ = true

-- there is no such method exactly on the values that the row isn't read on
abbrev pub IsReadAsSaid : Builtin → Type 0
IsReadAsSaid b = is_closure b.form ≡ false → (recv : Plain) (args : List Plain) → is_no_method (answer_of b.method recv args) ≡ (has_receiver b.on && not (is_on b.on recv))
