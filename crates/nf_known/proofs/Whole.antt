-- The whole of an expression: its names, and what they lead to.
use Rattle.std.proofs.Common.{◌≡◌, ◌∙◌, ℕ, List, Option, sym, ap}
use Rattle.nf_value.specs.declared.place.Place.{Place}
use Rattle.nf_names_used.specs.declared.uses.Use.{Use}
use Rattle.nf_meaning.specs.declared.fault.LowerFault.{LowerFault}
use Rattle.nf_meaning.specs.Names.{Reading, name_fault}
use Rattle.nf_meaning.specs.Script.{definitions_of}
use Rattle.nf_known.specs.declared.around.Around.{Around}
use Rattle.nf_known.specs.declared.names.KnownScript.{KnownScript}
use Rattle.nf_known.specs.Known.{Question, IsAsked, definitions_in, wrong_by, wrong_with_uses, wrong_with_name}

module _ {N : Type 0} (titles_of : N → List (List ℕ)) (x : KnownScript N) (around : Around) (q : Question) (asked : IsAsked titles_of x around q) (r : Reading) where
  -- what is wrong with uses, as the meaning of the script has it
  pub whole_fault : (us : List Use) → wrong_by (definitions_in x) q r us ≡ wrong_with_uses q r us
  whole_fault us = ap (λ ds. wrong_by ds q r us) (sym (ap definitions_of asked.script.tops))

  pub whole_name : (p : Place) (n : List ℕ) (o : Option LowerFault) → o ≡ name_fault (definitions_in x) (titles_of x.top.natives.now) q.known r p n → o ≡ wrong_with_name q r p n
  whole_name p n o e =
      e ∙ ap (λ z. name_fault (definitions_in x) z q.known r p n) (sym asked.script.program.titles)
      ∙ ap (λ ds. name_fault ds q.given.program.titles q.known r p n) (sym (ap definitions_of asked.script.tops))
