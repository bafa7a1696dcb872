-- Where a closure in memory is a formula of a process.
use Rattle.std.specs.Prelude.{◌≡◌}
use Rattle.nf_eval.specs.declared.closures.Closure.{Closure}
use Rattle.nf_tasks.specs.Meaning.{Formula}
use Rattle.nf_tasks.specs.Memory.{Program, formula_of}

-- both give the same for all values of the names that they see
abbrev pub IsFormula : Program → Closure → Formula → Type 0
IsFormula n c f = formula_of n c ≡ f
