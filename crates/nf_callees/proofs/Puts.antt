-- What a name stands for once another is put in its table.
use Rattle.std.proofs.Common.{◌≡◌, ◌∙◌, ℕ, Bool, true, false, if◌then◌else◌, List, option_map, Option, Some, string_bytes, bytes_eq, sym, ap, subst}
use Rattle.std.specs.Prelude.{String, IfSome}
use Rattle.std.specs.Global.{Global}
use Rattle.std.specs.HashMap.{HashMap, UpdatesBy}
use Rattle.std.specs.String.{string_eq}
use Rattle.std.proofs.lemmas.Map.Text.{hash_map_updates_text}
use Rattle.nf_callees.specs.Found.{held, Puts}

module _ {A : Type 0} where
  pub puts_of : {S : Type 0} (m n : HashMap (String Global) A S) (k : String Global) (key : List ℕ) (x : A) → string_bytes k ≡ key → UpdatesBy string_eq (string_eq k) m n (Some x) → Puts key x m.entries n.entries
  puts_of m n k key x same h = subst (λ q. Puts q x m.entries n.entries) same (λ cs. hash_map_updates_text (string_bytes k) m n (Some x) h cs)

  -- what holds of all that the names stand for, once one is put
  put_holds : (P : A → Type 0) (b : Bool) (x : A) (o new : Option A) → new ≡ (if b then Some x else o) → P x → IfSome o P → IfSome new P
  put_holds P true x o new e here there = subst (λ z. IfSome z P) (sym e) here
  put_holds P false x o new e here there = subst (λ z. IfSome z P) (sym e) there

  pub put_keeps : (P : A → Type 0) (key : List ℕ) (x : A) (old new : List (String Global × A)) → Puts key x old new → P x → ((n : List ℕ) → IfSome (held n old) P) → (n : List ℕ) → IfSome (held n new) P
  put_keeps P key x old new puts here h n = put_holds P (bytes_eq key n) x (held n old) (held n new) (puts n) here (h n)

module _ {A B : Type 0} (f : A → B) where
  put_found : (b : Bool) (x : A) (o new : Option A) (q : Option B) → new ≡ (if b then Some x else o) → option_map f o ≡ q → option_map f new ≡ (if b then Some (f x) else q)
  put_found true x o new q e h = ap (option_map f) e
  put_found false x o new q e h = ap (option_map f) e ∙ h

  -- what the names stand for, once one is put
  pub put_named : (key : List ℕ) (x : A) (old new : List (String Global × A)) (q : List ℕ → Option B) → Puts key x old new → ((n : List ℕ) → option_map f (held n old) ≡ q n)
      → (n : List ℕ) → option_map f (held n new) ≡ (if bytes_eq key n then Some (f x) else q n)
  put_named key x old new q puts h n = put_found (bytes_eq key n) x (held n old) (held n new) (q n) (puts n) (h n)
