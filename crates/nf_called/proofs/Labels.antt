-- The options and names of outputs.
use Rattle.std.proofs.Common.{◌≡◌, ℕ, ◌+◌, ◌<◌, ◌≤◌, Bool, true, false, List, [], ◌∷◌, ◌++◌, length, get_or, drop, Ok, Err, refl, sym, ap, ◌∙◌}
use Rattle.std.specs.Prelude.{◌||◌, if◌then◌else◌, Option, Some, None, bytes_eq, codes}
use Rattle.std.specs.List.{list_any}
use Rattle.std.proofs.lemmas.List.{drop_all}
use Rattle.nf_value.specs.declared.place.Place.{Place}
use Rattle.nf_builtins.specs.Natives.{is_among}
use Rattle.nf_ast.specs.Tree as tree
use Rattle.nf_ast.specs.Tree.{Tree, empty, cons, place_of}
use Rattle.nf_placed.specs.Body.{name_in}
use Rattle.nf_tasks.specs.declared.process.Output.{Output}
use Rattle.nf_meaning.specs.declared.fault.LowerFault.TheVariants.{BadOption, TwiceDefined}
use Rattle.nf_meaning.specs.Lowered.{Lowered, ◌>>=◌, fault_if, unless}
use Rattle.nf_meaning.specs.Processes as process
use Rattle.nf_meaning.specs.Processes.{and_label, emit_in, optional_in, options_in, with_option}
use Rattle.nf_called.specs.Leaves.{leaf_of, leaf_emit, leaf_optional, name}
use Rattle.nf_called.specs.Options.{labels_from}
use Rattle.nf_called.proofs.Turns.{left}

pub emit_is : (before : List (List ℕ)) (p : Place) (e : Tree) (o : process.OutputOptions) → emit_in before p e o ≡ leaf_emit before p (leaf_of e) o
emit_is before p (tree.name q n) o = refl
emit_is before p (tree.template q k (cons (tree.piece r s) empty)) o = refl
emit_is before p _ o = refl

pub optional_is : (p : Place) (e : Tree) (o : process.OutputOptions) → optional_in p e o ≡ leaf_optional p (leaf_of e) o
optional_is p (tree.truth q b) o = refl
optional_is p (tree.template q k (cons (tree.piece r s) empty)) o = refl
optional_is p _ o = refl

pub labels_push : (before : List (List ℕ)) (os : List Output) (o : Output) → labels_from before (os ++ o ∷ []) ≡ and_label o.emit (labels_from before os)
labels_push before [] o = refl
labels_push before (x ∷ os) o = labels_push (and_label x.emit before) os o

-- ---- a name among those of outputs

abbrev pub has : List ℕ → Output → Bool
has n o = is_among n (and_label o.emit [])

swap : (a b c : Bool) → ((a || b) || c) ≡ (b || ((a || false) || c))
swap true true c = refl
swap true false c = refl
swap false true c = refl
swap false false c = refl

one_label : (n : List ℕ) (e : Option (List ℕ)) (before : List (List ℕ)) (c : Bool) → (is_among n (and_label e before) || c) ≡ (is_among n before || (is_among n (and_label e []) || c))
one_label n None before c = refl
one_label n (Some m) before c = swap (bytes_eq m n) (is_among n before) c

among_from : (n : List ℕ) (before : List (List ℕ)) (os : List Output) → is_among n (labels_from before os) ≡ (is_among n before || list_any (has n) os)
among_from n before [] = or_nothing (is_among n before)
  where
    or_nothing : (b : Bool) → b ≡ (b || false)
    or_nothing true = refl
    or_nothing false = refl
among_from n before (o ∷ os) = among_from n (and_label o.emit before) os ∙ one_label n o.emit before (list_any (has n) os)

-- a loop over outputs that looks for a name
module _ (n : List ℕ) (os : List Output) (i : ℕ) where
  abbrev found : List Output → Bool
  found xs = list_any (has n) xs

  module _ (o : Output) (l : i < length os) (is : o ≡ get_or os i o) where
    pub label_among : has n o ≡ true → found (drop i os) ≡ found os → true ≡ is_among n (labels_from [] os)
    label_among h inv = sym (among_from n [] os ∙ sym inv ∙ ap found (left os i o l is) ∙ ap (λ b. b || found (drop (i + 1) os)) h)

    pub label_passed : has n o ≡ false → found (drop i os) ≡ found os → found (drop (i + 1) os) ≡ found os
    label_passed h inv = sym (ap found (left os i o l is) ∙ ap (λ b. b || found (drop (i + 1) os)) h) ∙ inv

  pub label_left_out : length os ≤ i → found (drop i os) ≡ found os → false ≡ is_among n (labels_from [] os)
  label_left_out l inv = sym (among_from n [] os ∙ sym inv ∙ ap found (drop_all i os l))

-- a name among that of an output and those before it
pub among_labels : (n : List ℕ) (label : Option (List ℕ)) (before : List (List ℕ)) → is_among n (and_label label before) ≡ (is_among n (and_label label []) || is_among n before)
among_labels n None before = refl
among_labels n (Some m) before = one (bytes_eq m n) (is_among n before)
  where
    one : (a b : Bool) → (a || b) ≡ ((a || false) || b)
    one true b = refl
    one false b = refl

pub label_found : (n : List ℕ) (label : Option (List ℕ)) (before : List (List ℕ)) (b : Bool) → b ≡ is_among n (and_label label []) → b ≡ true → true ≡ is_among n (and_label label before)
label_found n label before b h is = sym (among_labels n label before ∙ ap (λ c. c || is_among n before) (sym h ∙ is))

pub label_left : (n : List ℕ) (label : Option (List ℕ)) (before : List (List ℕ)) (b : Bool) → b ≡ is_among n (and_label label []) → b ≡ false → is_among n before ≡ is_among n (and_label label before)
label_left n label before b h is = sym (among_labels n label before ∙ ap (λ c. c || is_among n before) (sym h ∙ is))

-- an output that has a name already, or has none yet
abbrev emitted : List ℕ → Place → process.OutputOptions → Bool → Lowered process.OutputOptions
emitted n q o b = unless (fault_if b (TwiceDefined q)) (Ok (record o { label = Some n }))

pub label_twice : (before : List (List ℕ)) (p q : Place) (n : List ℕ) (o : process.OutputOptions) (b : Bool) → b ≡ is_among n (and_label o.label before) → b ≡ true
    → leaf_emit before p (name q n) o ≡ Err (TwiceDefined q)
label_twice before p q n o b h is = ap (emitted n q o) (sym h ∙ is)

pub label_once : (before : List (List ℕ)) (p q : Place) (n : List ℕ) (o : process.OutputOptions) (b : Bool) → b ≡ is_among n (and_label o.label before) → b ≡ false
    → leaf_emit before p (name q n) o ≡ Ok (record o { label = Some n })
label_once before p q n o b h is = ap (emitted n q o) (sym h ∙ is)

-- ---- an option by its name

abbrev pub option_step : List (List ℕ) → Tree → process.OutputOptions → Lowered process.OutputOptions
option_step before (tree.label n e) o = with_option before (place_of n) (name_in n) e o
option_step before e o = Ok o

pub options_step : (before : List (List ℕ)) (a more : Tree) (o : process.OutputOptions) → options_in before (cons a more) o ≡ (option_step before a o >>= options_in before more)
options_step before (tree.label n e) more o = refl
options_step before _ more o = refl

abbrev chosen : List (List ℕ) → Place → Tree → process.OutputOptions → Bool → Bool → Lowered process.OutputOptions
chosen before p e o a b = if a then emit_in before p e o else if b then optional_in p e o else Err (BadOption p)

pub emit_option : (before : List (List ℕ)) (p : Place) (n : List ℕ) (e : Tree) (o : process.OutputOptions) → bytes_eq n (codes "emit") ≡ true
    → with_option before p n e o ≡ leaf_emit before p (leaf_of e) o
emit_option before p n e o h = ap (λ b. chosen before p e o b (bytes_eq n (codes "optional"))) h ∙ emit_is before p e o

pub optional_option : (before : List (List ℕ)) (p : Place) (n : List ℕ) (e : Tree) (o : process.OutputOptions) → bytes_eq n (codes "emit") ≡ false
    → bytes_eq n (codes "optional") ≡ true → with_option before p n e o ≡ leaf_optional p (leaf_of e) o
optional_option before p n e o f h = (λ i. chosen before p e o (f i) (h i)) ∙ optional_is p e o

pub other_option : (before : List (List ℕ)) (p : Place) (n : List ℕ) (e : Tree) (o : process.OutputOptions) → bytes_eq n (codes "emit") ≡ false
    → bytes_eq n (codes "optional") ≡ false → with_option before p n e o ≡ Err (BadOption p)
other_option before p n e o f h = λ i. chosen before p e o (f i) (h i)
