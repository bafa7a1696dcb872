-- A directive `publishDir` in memory.
use Rattle.std.specs.Prelude.{◌≡◌, List, [], ◌∷◌, ◌++◌, Option, Some, None, option_map, Result, Ok, Err}
use Rattle.std.specs.Borrow.{Bor}
use Rattle.nf_value.specs.declared.place.Place.{Place}
use Rattle.nf_ast.specs.declared.expr.Expr.{Expr}
use Rattle.nf_ast.specs.Tree as tree
use Rattle.nf_ast.specs.Tree.{Tree}
use Rattle.nf_ast.specs.View.{view}
use Rattle.nf_eval.specs.declared.closures.Closure.{Closure}
use Rattle.nf_tasks.specs.Meaning.{Formula, PublishMeaning}
use Rattle.nf_tasks.specs.Memory.{Program, formula_of, publish_of}
use Rattle.nf_tasks.specs.declared.process.Publish.{Publish}
use Rattle.nf_meaning.specs.declared.fault.LowerFault.{LowerFault}
use Rattle.nf_meaning.specs.Lowered.{Lowered}
use Rattle.nf_meaning.specs.Directives.{folder_in, folders}
use Rattle.nf_lowered.specs.Given.{Gives}
use Rattle.nf_called.specs.declared.publishing.PublishParts.{PublishParts}

abbrev pub IsPublish : Program → Publish → PublishMeaning → Type 0
IsPublish n x m = publish_of n x ≡ m

-- the folder, once it is known
abbrev pub IsFolder : Program → Option Closure → Formula → Type 0
IsFolder n None f = Unit {0}
IsFolder n (Some c) f = formula_of n c ≡ f

pub record IsSoFar (n : Program) (x : PublishParts) (m : PublishMeaning) : Type 0 where
  pub place : x.place ≡ m.place
  pub folder : IsFolder n x.folder m.folder
  pub pattern : option_map (formula_of n) x.pattern ≡ m.pattern

-- whatever the arguments before say, those with what comes next are what is due of them
abbrev pub PublishGoes : Program → PublishParts → (PublishMeaning → Lowered PublishMeaning) → PublishParts → Result (Unit {0}) LowerFault → Type 0
PublishGoes n old due new r = (m : PublishMeaning) → IsSoFar n old m → Gives (λ _ d. IsSoFar n new d) (due m) r

-- the folders of an argument and of those after it
abbrev pub and_folder : Tree → List Tree → List Tree
and_folder (tree.named n e) later = later
and_folder e later = e ∷ later

-- the one folder that is known, if there is one
abbrev pub folder_list : Option (Bor Expr) → List Tree
folder_list None = []
folder_list (Some e) = view e.now ∷ []

-- with the argument it is still one at most, or two, whatever arguments follow
abbrev pub AddsFolder : Place → Option (Bor Expr) → Tree → Result (Option (Bor Expr)) LowerFault → Type 0
AddsFolder p old a (Ok new) = folder_list new ≡ folder_list old ++ and_folder a []
AddsFolder p old a (Err e) = (later : List Tree) → folder_in p (folder_list old ++ and_folder a later) ≡ Err e

-- there is one of these
abbrev pub IsOneOf : List Tree → Type 0
IsOneOf (e ∷ []) = Unit {0}
IsOneOf _ = ⊥

-- if no folder is known so far, there is one still to come
abbrev pub Lacks : Option Closure → List Tree → Type 0
Lacks None later = IsOneOf later
Lacks (Some c) later = Unit {0}

-- the arguments have one folder
abbrev pub IsOnly : Tree → Unit {0} → Tree → Type 0
IsOnly xs u e = folders xs ≡ e ∷ []
