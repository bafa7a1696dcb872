-- The function at a place is judged.
use Rattle.std.proofs.Common.{◌≡◌, ◌∙◌, ◌<◌, ℕ, true, false, List, Option, Some, sym, ap, subst}
use Rattle.nf_meaning.specs.declared.fault.LowerFault.{LowerFault}
use Rattle.nf_meaning.specs.Functions.{function_uses}
use Rattle.nf_meaning.specs.Given.{Given, Definitions}
use Rattle.nf_callees.specs.declared.functions.DefinedFunction.{DefinedFunction}
use Rattle.nf_callees.specs.Found.{definition_of, held, HasFunctions, Puts}
use Rattle.nf_known.specs.Judged.{Faults, Functions, is_judged, is_ready, fault_after, left_count, nowhere, AreJudged}
use Rattle.nf_known.proofs.Growing.{fewer, one_more}
use Rattle.nf_known.proofs.Rounds.{named, defined}

module _ (ds : Definitions) (fs : Functions) (h : HasFunctions ds fs) (old new : Faults) (n : List ℕ) (x : DefinedFunction) (here : held n fs ≡ Some x) (fresh : is_judged old n ≡ false)
    (fault : Option LowerFault) (puts : Puts n fault old new) where
  pub one_fewer : left_count ds new nowhere < left_count ds old nowhere
  one_fewer = fewer old new n fault puts ds (definition_of x) (named ds fs h n x here) fresh

  uses_are : x.uses.items ≡ function_uses ds (definition_of x)
  uses_are = (defined ds fs h n x here).uses

  -- those that were judged stay so, and it is too
  pub stay_judged : (g : Given) → fault ≡ fault_after g ds old x.uses.items → is_ready ds old x.uses.items ≡ true → AreJudged g ds old → AreJudged g ds new
  stay_judged g wrong ready judged =
      one_more g ds old new n (definition_of x) (named ds fs h n x here) fresh
      (subst (λ o. Puts n o old new) (wrong ∙ ap (fault_after g ds old) uses_are) puts) judged (sym (ap (is_ready ds old) uses_are) ∙ ready)
