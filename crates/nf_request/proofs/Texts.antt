-- The text of a script, by what was read.
use Rattle.std.proofs.Common.{◌≡◌, ℕ, List, Option, Some, None, Result, Ok, Err, IfSome, subst}
use Rattle.nf_host.specs.Files.{Files}
use Rattle.nf_host.specs.Whole.{IsWhole}
use Rattle.nf_host.specs.declared.host.HostRefusal.{HostRefusal}
use Rattle.nf_host.specs.declared.host.HostRefusal.TheVariants as host
use Rattle.nf_host.specs.declared.whole.Whole.{Whole}
use Rattle.nf_host.specs.declared.whole.Whole.TheVariants as whole
use Rattle.nf_lexer.specs.Tokens.{most_bytes}
use Rattle.nf_lexer.specs.declared.fault.LexFault.TheVariants.{ScriptTooLong}
use Rattle.nf_ends.specs.declared.end.End.{End}
use Rattle.nf_ends.specs.declared.end.End.TheVariants as end
use Rattle.nf_ends.specs.Causes.{end_of_host}
use Rattle.nf_request.specs.Held.{IsAt, IsLonger}
use Rattle.nf_request.specs.Steps.{GivesText, LacksText}
use Rattle.nf_request.proofs.Reading.{absent_there, bytes_there, long_there, some_there}
use Rattle.nf_request.proofs.Trees.{too_long_only}

-- what is given over the file at the path, or over some file if the host tells none
abbrev pub SomeText : Option Files → List ℕ → Result (List ℕ) End → Type 0
SomeText told path r = (held : Option (List ℕ)) × IsAt told path held × GivesText held r

pub host_text : (told : Option Files) (path : List ℕ) (f : HostRefusal) → SomeText told path (Err (end_of_host f))
host_text told path host.Failed = let s = some_there told path in (s.0, s.1, tt)
host_text told path host.Mem = let s = some_there told path in (s.0, s.1, tt)

pub absent_text : (told : Option Files) (path : List ℕ) (w : Whole) → w ≡ whole.Absent → IfSome told (λ f. IsWhole (f path) most_bytes w) → SomeText told path (Err end.NoScript)
absent_text told path w is h = absent_there told path most_bytes (subst (λ v. IfSome told (λ f. IsWhole (f path) most_bytes v)) is h)

pub bytes_text : (told : Option Files) (path : List ℕ) (w : Whole) (text : List ℕ) → w ≡ whole.Bytes text → IfSome told (λ f. IsWhole (f path) most_bytes w) → SomeText told path (Ok text)
bytes_text told path w text is h = bytes_there told path most_bytes text (subst (λ v. IfSome told (λ f. IsWhole (f path) most_bytes v)) is h)

long_text : (held : Option (List ℕ)) → IsLonger most_bytes held → LacksText held (end.Lex ScriptTooLong)
long_text None h = absurd h
long_text (Some text) h = (text, λ i. Some text, too_long_only text h)

pub too_long_text : (told : Option Files) (path : List ℕ) (w : Whole) → w ≡ whole.TooLong → IfSome told (λ f. IsWhole (f path) most_bytes w) → SomeText told path (Err (end.Lex ScriptTooLong))
too_long_text told path w is h =
    let s = long_there told path most_bytes (subst (λ v. IfSome told (λ f. IsWhole (f path) most_bytes v)) is h) in
    (s.0, s.1, long_text s.0 s.2)
