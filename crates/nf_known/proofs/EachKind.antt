-- What is wrong with one use, by its kind.
use Rattle.std.proofs.Common.{◌≡◌, ◌∙◌, ℕ, List, Option, Some, sym, ap}
use Rattle.nf_value.specs.declared.place.Place.{Place}
use Rattle.nf_names_used.specs.declared.uses.UseKind.{UseKind}
use Rattle.nf_names_used.specs.declared.uses.UseKind.TheVariants as kind
use Rattle.nf_meaning.specs.declared.fault.LowerFault.{LowerFault}
use Rattle.nf_meaning.specs.declared.fault.LowerFault.TheVariants.{UnknownName, TwiceDefined}
use Rattle.nf_meaning.specs.Given.{Given, Definitions}
use Rattle.nf_meaning.specs.Names.{Called, called_by, Known, Reading, name_fault, call_fault, pattern_fault, use_fault}

module _ (g : Given) (ds : Definitions) (k : Known) (r : Reading) (p : Place) (n : List ℕ) where
  abbrev wrong_by : UseKind → Option LowerFault
  wrong_by u = use_fault g ds k r u p n

  pub name_read : (titles : List (List ℕ)) → g.program.titles ≡ titles → (u : UseKind) → u ≡ kind.Name → (o : Option LowerFault) → o ≡ name_fault ds titles k r p n → o ≡ use_fault g ds k r u p n
  name_read titles same u is o e = e ∙ ap (λ t. name_fault ds t k r p n) (sym same) ∙ ap wrong_by (sym is)

  pub function_called : (titles : List (List ℕ)) → g.program.titles ≡ titles → (u : UseKind) → u ≡ kind.Function → (c : Called) → c ≡ called_by ds titles n → (o : Option LowerFault) → o ≡ call_fault c p
      → o ≡ use_fault g ds k r u p n
  function_called titles same u is c called o e = e ∙ ap (λ z. call_fault z p) (called ∙ ap (λ t. called_by ds t n) (sym same)) ∙ ap wrong_by (sym is)

  pub pattern_used : (u : UseKind) → u ≡ kind.Pattern → (o : Option LowerFault) → o ≡ pattern_fault g p n → o ≡ use_fault g ds k r u p n
  pattern_used u is o e = e ∙ ap wrong_by (sym is)

  pub name_assigned : (u : UseKind) → u ≡ kind.Assigned → Some (UnknownName p) ≡ use_fault g ds k r u p n
  name_assigned u is = ap wrong_by (sym is)

  pub defined_again : (u : UseKind) → u ≡ kind.Again → Some (TwiceDefined p) ≡ use_fault g ds k r u p n
  defined_again u is = ap wrong_by (sym is)
