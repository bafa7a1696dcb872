-- Which values have a method, and how it is called.
use Rattle.std.specs.Prelude.{Bool, true, false}
use Rattle.nf_value.specs.Plain.{Plain, null, int, text, file, list, table}
use Rattle.nf_builtins.specs.declared.rows.Form.{Form}
use Rattle.nf_builtins.specs.declared.rows.Form.TheVariants as form
use Rattle.nf_builtins.specs.declared.rows.On.{On}
use Rattle.nf_builtins.specs.declared.rows.On.TheVariants as on

abbrev pub is_closure : Form → Bool
is_closure form.Call = false
is_closure form.Closure = true
is_closure form.Property = false

-- whether a row is read on a value
abbrev pub is_on : On → Plain → Bool
is_on on.Nothing v = false
is_on on.Int (int i) = true
is_on on.Text (text t) = true
is_on on.File (file n d l) = true
is_on on.List (list vs) = true
is_on on.Map (table ps) = true
is_on on.IntOrText (int i) = true
is_on on.IntOrText (text t) = true
is_on on.TextOrList (text t) = true
is_on on.TextOrList (list vs) = true
is_on on.TextListOrMap (text t) = true
is_on on.TextListOrMap (list vs) = true
is_on on.TextListOrMap (table ps) = true
is_on on.AnyButNull null = false
is_on on.AnyButNull v = true
is_on _ v = false
