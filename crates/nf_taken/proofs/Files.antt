-- Files of paths.
use Rattle.std.proofs.Common.{◌≡◌, ◌∙◌, ◌<◌, ℕ, List, [], ◌∷◌, get_or, length, sym, ap, refl, arith}
use Rattle.std.proofs.lemmas.Str.{encodes-chars}
use Rattle.std.specs.Prelude.{replicate}
use Rattle.std.specs.Str.{IsUtf8, chars, encode_utf8_all}
use Rattle.nf_value.specs.Plain.{file}
use Rattle.nf_value.specs.declared.file.FileRef.{FileRef}
use Rattle.nf_paths.specs.Paths.{name_at}
use Rattle.nf_meaning.specs.Sources as meaning

pub file_named : (path last : List ℕ) → IsUtf8 last → chars last ≡ name_at (chars path) → last ≡ meaning.file_name path
file_named path last text e = sym (encodes-chars last text) ∙ ap encode_utf8_all e

module _ (path name : List ℕ) (is : name ≡ meaning.file_name path) where
  pub no_first : (fs : List FileRef) → length fs < 1 → file name (replicate 32 0) 0 ≡ meaning.first_file path fs
  no_first [] none = λ i. file (is i) (replicate 32 0) 0
  no_first (f ∷ fs) none = absurd (omega (arith, none))

  pub a_first : (fs : List FileRef) (f : FileRef) → 0 < length fs → f ≡ get_or fs 0 f → file name f.digest.0 f.len ≡ meaning.first_file path fs
  a_first [] f some same = absurd (omega (arith, some))
  a_first (x ∷ fs) f some same = λ i. file (is i) (same i).digest.0 (same i).len
