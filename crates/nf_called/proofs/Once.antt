-- Names of inputs: the first that stands a second time.
use Rattle.std.proofs.Common.{◌≡◌, ℕ, Bool, true, false, List, [], ◌∷◌, Ok, Err, refl, ap, ◌∙◌}
use Rattle.std.specs.Prelude.{if◌then◌else◌, Option, Some, None}
use Rattle.nf_builtins.specs.Natives.{is_among}
use Rattle.nf_ast.specs.Tree as tree
use Rattle.nf_ast.specs.Tree.{Tree, empty, cons, place_of}
use Rattle.nf_placed.specs.Body.{name_in}
use Rattle.nf_meaning.specs.declared.fault.LowerFault.{LowerFault}
use Rattle.nf_meaning.specs.declared.fault.LowerFault.TheVariants.{TwiceDefined}
use Rattle.nf_meaning.specs.Lowered.{Lowered, ◌>>=◌, unless, or_else, fault_if}
use Rattle.nf_meaning.specs.Processes.{NamesSoFar, and_name, and_names, twice_named}
use Rattle.nf_called.specs.Names.{named, names_named}
use Rattle.nf_called.proofs.Steps.{nothing}

-- a fault, or the names
abbrev outcome : NamesSoFar → Lowered (List (List ℕ))
outcome x = unless x.fault (Ok x.names)

one_name : (n : Tree) (names : List (List ℕ)) → outcome (and_name n (record { names = names; fault = None })) ≡ named (place_of n) (name_in n) names
one_name n names = by (is_among (name_in n) names)
  where
    by : (b : Bool) → unless (or_else None (fault_if b (TwiceDefined (place_of n)))) (Ok (name_in n ∷ names)) ≡ (if b then Err (TwiceDefined (place_of n)) else Ok (name_in n ∷ names))
    by true = refl
    by false = refl

-- a first fault stays
abbrev with_fault : List (List ℕ) → LowerFault → NamesSoFar
with_fault names e = record { names = names; fault = Some e }

stays_in : (more : Tree) (names : List (List ℕ)) (fault : Option LowerFault) (e : LowerFault) → fault ≡ Some e
    → ((ns : List (List ℕ)) → (and_names more (with_fault ns e)).fault ≡ Some e) → (and_names more (record { names = names; fault = fault })).fault ≡ Some e
stays_in more names fault e h later = ap (λ (f : Option LowerFault). (and_names more (record { names = names; fault = f })).fault) h ∙ later names

stays : (t : Tree) (e : LowerFault) (names : List (List ℕ)) → (and_names t (with_fault names e)).fault ≡ Some e
stays (tree.section p xs) e names = stays xs e names
stays (tree.tuple p xs) e names = stays xs e names
stays (tree.val p n) e names = refl
stays (tree.path p n) e names = refl
stays (cons a more) e names =
    let x = and_names a (with_fault names e) in
    stays_in more x.names x.fault e (stays a e names) (stays more e)
stays _ e names = refl

-- ---- all names

abbrev without_fault : List (List ℕ) → NamesSoFar
without_fault names = record { names = names; fault = None }

joined : (more : Tree) (names : List (List ℕ)) (fault : Option LowerFault) (w : Lowered (List (List ℕ))) → outcome (record { names = names; fault = fault }) ≡ w
    → ((ns : List (List ℕ)) → outcome (and_names more (without_fault ns)) ≡ names_named more ns)
    → outcome (and_names more (record { names = names; fault = fault })) ≡ (w >>= names_named more)
joined more names None w h later = later names ∙ ap (λ v. v >>= names_named more) h
joined more names (Some e) w h later =
    ap (λ (f : Option LowerFault). unless f (Ok (and_names more (with_fault names e)).names)) (stays more e names) ∙ ap (λ v. v >>= names_named more) h

pub all_named : (t : Tree) (names : List (List ℕ)) → outcome (and_names t (without_fault names)) ≡ names_named t names
all_named (tree.section p xs) names = all_named xs names
all_named (tree.tuple p xs) names = all_named xs names
all_named (tree.val p n) names = one_name n names
all_named (tree.path p n) names = one_name n names
all_named (cons a more) names =
    let x = and_names a (without_fault names) in
    joined more x.names x.fault (names_named a names) (all_named a names) (all_named more)
all_named _ names = refl

done : (fault : Option LowerFault) (names : List (List ℕ)) → unless fault nothing ≡ (unless fault (Ok names) >>= λ ns. nothing)
done None names = refl
done (Some e) names = refl

-- the inputs have different names, or the first that stands again is at fault
pub twice_is : (t : Tree) → unless (twice_named t) nothing ≡ (names_named t [] >>= λ ns. nothing)
twice_is t = done (and_names t (without_fault [])).fault (and_names t (without_fault [])).names ∙ ap (λ w. w >>= λ ns. nothing) (all_named t [])
