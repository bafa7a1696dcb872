-- Rows of the table of methods that were found.
use Rattle.std.proofs.Common.{◌≡◌, ℕ, ◌<◌, Bool, false, List, length, get_or, Option, IfSome, slice_get, sym, ◌∙◌, ap, subst}
use Rattle.std.proofs.lemmas.Option.{slice_get-get_or}
use Rattle.nf_builtins.specs.declared.rows.Builtin.{Builtin}
use Rattle.nf_builtins.specs.Rows.{is_closure}
use Rattle.nf_builtins.specs.Call.{builtin_rows, IsPlainRow}

-- one that takes no closure
pub row_is_plain : (rows : List Builtin) (i : ℕ) (d : Builtin) (takes : Bool) → rows ≡ builtin_rows → i < length rows → takes ≡ is_closure (get_or rows i d).form → takes ≡ false → IsPlainRow i
row_is_plain rows i d takes same h is free =
    let there : i < length builtin_rows = subst (λ (l : List Builtin). i < length l) same h in
    let free_there : is_closure (get_or builtin_rows i d).form ≡ false = ap (λ l. is_closure (get_or l i d).form) (sym same) ∙ sym is ∙ free in
    (there, subst (λ (o : Option Builtin). IfSome o (λ r. is_closure r.form ≡ false)) (sym (slice_get-get_or builtin_rows i d there)) free_there)
