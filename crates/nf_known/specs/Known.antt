-- A script whose functions are judged, and what is asked of it.
use Rattle.std.specs.Prelude.{◌≡◌, ℕ, List, [], map, length, Option}
use Rattle.nf_value.specs.declared.place.Place.{Place}
use Rattle.nf_ast.specs.Tops.{view_top}
use Rattle.nf_ast.specs.Tree.{Tree}
use Rattle.nf_ast.specs.View.{trees}
use Rattle.nf_names_used.specs.declared.uses.Use.{Use}
use Rattle.nf_names_used.specs.Uses.{no_names}
use Rattle.nf_callees.specs.Found.{defined_in}
use Rattle.nf_meaning.specs.declared.fault.LowerFault.{LowerFault}
use Rattle.nf_meaning.specs.Functions.{judged_within, names_fault, reached_fault}
use Rattle.nf_meaning.specs.Given.{Given, Definitions}
use Rattle.nf_meaning.specs.Names.{Known, Reading, name_fault}
use Rattle.nf_meaning.specs.Script.{definitions_of}
use Rattle.nf_known.specs.declared.around.Around.{Around}
use Rattle.nf_known.specs.declared.names.KnownScript.{KnownScript}
use Rattle.nf_known.specs.Around.{Knows}
use Rattle.nf_known.specs.Judged.{AreJudged, NoneIsReady}
use Rattle.nf_known.specs.Script.{HasProgram}

abbrev pub definitions_in : {N : Type 0} → KnownScript N → Definitions
definitions_in x = defined_in x.top.definitions

pub record IsKnownScript {N : Type 0} (titles_of : N → List (List ℕ)) (x : KnownScript N) (g : Given) : Type 0 where
  pub tops : g.tops ≡ trees (map view_top x.top.definitions)
  pub program : HasProgram titles_of x.top g
  pub judged : AreJudged g (definitions_in x) x.judged.entries
  pub whole : NoneIsReady (definitions_in x) x.judged.entries

-- ---- an expression is judged in a script, with these names around it

pub record Question : Type 0 where
  pub given : Given
  pub known : Known

pub record IsAsked {N : Type 0} (titles_of : N → List (List ℕ)) (x : KnownScript N) (around : Around) (q : Question) :
    Type 0 where
  pub script : IsKnownScript titles_of x q.given
  pub names : Knows around q.known

-- what the meaning of the script says is wrong with it
abbrev pub wrong_with : Question → Reading → Tree → Option LowerFault
wrong_with q r t = names_fault q.given (definitions_of q.given.tops) q.known r t no_names

-- the same of uses, over these definitions
abbrev pub wrong_by : Definitions → Question → Reading → List Use → Option LowerFault
wrong_by ds q r us = reached_fault q.given ds q.known r (judged_within (length ds.functions) q.given ds) [] us

abbrev pub wrong_with_uses : Question → Reading → List Use → Option LowerFault
wrong_with_uses q r us = wrong_by (definitions_of q.given.tops) q r us

-- the same of a name that is read
abbrev pub wrong_with_name : Question → Reading → Place → List ℕ → Option LowerFault
wrong_with_name q r p n = name_fault (definitions_of q.given.tops) q.given.program.titles q.known r p n
