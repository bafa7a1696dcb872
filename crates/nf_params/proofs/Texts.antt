-- Bytes, texts and the value of a text.
use Rattle.std.proofs.Common.{◌≡◌, ℕ, Bool, true, false, List, [], refl, sym, ◌∙◌, ap, subst}
use Rattle.std.specs.Prelude.{Result, Ok, Err, Option, Some, None}
use Rattle.std.specs.Str.{is_utf8, IsUtf8}
use Rattle.std.proofs.lemmas.Str.{is_utf8-from_IsUtf8, IsUtf8-from_is_utf8}
use Rattle.serde_json.specs.Data as json
use Rattle.serde_json.specs.Find.{as_object}
use Rattle.serde_json.specs.Read.{read}
use Rattle.nf_value.specs.Plain.{Plain}
use Rattle.nf_params.specs.Pointer.{IsHere}
use Rattle.nf_params.specs.Params.{Pointed, members_in, params_of_data, if_read, params_of_text, params_in, Gives}
use Rattle.nf_params.specs.declared.fault.ParamsFault.{ParamsFault}
use Rattle.nf_params.specs.declared.fault.ParamsFault.TheVariants.{BadParams, Mem}

abbrev pub Read : Type 0
Read = List (List ℕ × Plain)

pub same_due : (d e : Pointed Read) (r : Result Read ParamsFault) → d ≡ e → Gives (λ (ps : Read). ps) d r → Gives (λ (ps : Read). ps) e r
same_due d e r h g = subst (λ (x : Pointed Read). Gives (λ (ps : Read). ps) x r) h g

pub refused : (due : Pointed Read) (f : ParamsFault) → due ≡ Err [] → IsHere f → Gives (λ (ps : Read). ps) due (Err f)
refused due (BadParams p) h here = h ∙ ap (λ (q : List ℕ). Err q) (sym here)
refused due Mem h here = tt

pub text_given : (bytes text : List ℕ) → text ≡ bytes → IsUtf8 bytes → params_of_text text ≡ params_in bytes
unfolding params_in
text_given bytes text same u = let e : is_utf8 bytes ≡ true = is_utf8-from_IsUtf8 bytes u in rw e (ap params_of_text same)

pub no_text : (bytes : List ℕ) → (IsUtf8 bytes → ⊥) → params_in bytes ≡ Err []
unfolding params_in
no_text bytes never = of (is_utf8 bytes) refl
  where
    of : (b : Bool) → is_utf8 bytes ≡ b → params_in bytes ≡ Err []
    of true e = absurd (never (IsUtf8-from_is_utf8 bytes e))
    of false e = rw e refl

pub data_given : (text : List ℕ) (d : json.Data) → read text ≡ Some d → params_of_data d ≡ params_of_text text
unfolding params_of_text
data_given text d h = ap if_read (sym h)

pub unread : (text : List ℕ) → read text ≡ None → params_of_text text ≡ Err []
unfolding params_of_text
unread text h = ap if_read h

pub object_given : (d : json.Data) (ms : json.Members) → Some ms ≡ as_object d → members_in 1 ms ≡ params_of_data d
object_given json.null ms h = cc
object_given (json.boolean b) ms h = cc
object_given (json.number n) ms h = cc
object_given (json.string s) ms h = cc
object_given (json.array ds) ms h = cc
object_given (json.object es) ms h = let e : ms ≡ es = cc in ap (members_in 1) e

pub no_object : (d : json.Data) → None ≡ as_object d → params_of_data d ≡ Err []
no_object json.null h = refl
no_object (json.boolean b) h = refl
no_object (json.number n) h = refl
no_object (json.string s) h = refl
no_object (json.array ds) h = refl
no_object (json.object es) h = cc
