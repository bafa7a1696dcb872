use Rattle.std.proofs.Common.{◌≡◌, ℕ, List, ◌++◌, map, drop}
use Rattle.nf_value.specs.View.{plain_of}
use Rattle.nf_infix.specs.Template.{IsWritten, after_blanks, with_blanks}
use Rattle.nf_infix.proofs.templates.Written.push_names.Given as goal

abbrev pub invariant-loop-file : goal.invariant-loop-file
invariant-loop-file l = (t : List ℕ) → IsWritten t l.fn.self → (s : List ℕ) × (IsWritten s l.self × (s ++ after_blanks (map plain_of (drop l.file-index l.others)) ≡ t ++ with_blanks (map plain_of l.fn.files)))
