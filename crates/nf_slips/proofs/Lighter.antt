-- What is left of a script's workflows, where one more is entered.
use Rattle.std.proofs.Common.{◌≡◌, ℕ, zero, suc, ◌+◌, ◌<◌, ◌≤◌, Bool, true, false, List, [], ◌∷◌, ◌++◌, length, get_or, refl, sym, ap, ◌∙◌, subst, arith}
use Rattle.std.specs.Prelude.{◌||◌, Option, Some, None, if◌then◌else◌}
use Rattle.std.specs.Str.{bytes_eq}
use Rattle.std.proofs.Math.Bool.{or-true}
use Rattle.std.proofs.lemmas.Bool.{false≢true}
use Rattle.std.proofs.lemmas.List.Folds.{list_any-append}
use Rattle.std.proofs.lemmas.Slice.Eq.{bytes_eq-Decides}
use Rattle.nf_value.specs.declared.place.Place.{Place}
use Rattle.nf_builtins.specs.Natives.{is_among}
use Rattle.nf_ast.specs.declared.tops.Top.{Top}
use Rattle.nf_ast.specs.declared.tops.Top.TheVariants as top
use Rattle.nf_ast.specs.declared.tops.WorkflowBody.{WorkflowBody}
use Rattle.nf_slips.specs.Memory.{body_depth, weight_by, top_weight, weight}

-- ---- names, and one after them

among_more : (m n : List ℕ) (ns : List (List ℕ)) → is_among m ns ≡ true → is_among m (ns ++ n ∷ []) ≡ true
among_more m n ns h = list_any-append (λ k. bytes_eq k m) ns (n ∷ []) ∙ ap (λ b. b || is_among m (n ∷ [])) h

among_last : (n : List ℕ) (ns : List (List ℕ)) → is_among n (ns ++ n ∷ []) ≡ true
among_last n ns =
    list_any-append (λ k. bytes_eq k n) ns (n ∷ []) ∙ ap (λ b. is_among n ns || (b || false)) ((bytes_eq-Decides n n).1 refl) ∙ or-true (is_among n ns)

-- ---- what a name takes from what is left

by_tests : (a b : Bool) (d : ℕ) → (a ≡ true → b ≡ true) → (if b then 0 else suc d) ≤ (if a then 0 else suc d)
by_tests true true d h = omega arith
by_tests true false d h = absurd (false≢true (h refl))
by_tests false true d h = omega arith
by_tests false false d h = omega arith

once_by : (a b : Bool) (d : ℕ) → a ≡ false → b ≡ true → suc d + (if b then 0 else suc d) ≤ (if a then 0 else suc d)
once_by false true d g h = omega arith
once_by true b d g h = absurd (false≢true (sym g))
once_by false false d g h = absurd (false≢true h)

name_falls : (name : Option (Place × List ℕ)) (b : WorkflowBody) (n : List ℕ) (ns : List (List ℕ)) → weight_by name b (ns ++ n ∷ []) ≤ weight_by name b ns
name_falls None b n ns = omega arith
name_falls (Some m) b n ns = by_tests (is_among m.1 ns) (is_among m.1 (ns ++ n ∷ [])) (body_depth b) (among_more m.1 n ns)

top_falls : (t : Top) (n : List ℕ) (ns : List (List ℕ)) → top_weight t (ns ++ n ∷ []) ≤ top_weight t ns
top_falls (top.Workflow w) n ns = name_falls w.name w.body n ns
top_falls _ n ns = omega arith

falls : (ts : List Top) (n : List ℕ) (ns : List (List ℕ)) → weight ts (ns ++ n ∷ []) ≤ weight ts ns
falls [] n ns = omega arith
falls (t ∷ ts) n ns = omega (arith, top_falls t n ns, falls ts n ns)

-- a workflow of this name
pub named_lighter : (name : Option (Place × List ℕ)) (m : Place × List ℕ) (n : List ℕ) (b : WorkflowBody) → name ≡ Some m → m.1 ≡ n → (ns : List (List ℕ)) → is_among n ns ≡ false → suc (body_depth b) + weight_by name b (ns ++ n ∷ []) ≤ weight_by name b ns
named_lighter name m n b e f ns h =
    let P : Option (Place × List ℕ) → Type 0 = λ o. suc (body_depth b) + weight_by o b (ns ++ n ∷ []) ≤ weight_by o b ns in
    let Q : List ℕ → Type 0 = λ k. suc (body_depth b) + (if is_among k (ns ++ n ∷ []) then 0 else suc (body_depth b)) ≤ (if is_among k ns then 0 else suc (body_depth b)) in
    subst P (sym e) (subst Q (sym f) (once_by (is_among n ns) (is_among n (ns ++ n ∷ [])) (body_depth b) h (among_last n ns)))

-- a top of the script is lighter, and so the whole script
pub lighter_at : (ts : List Top) (i : ℕ) (t : Top) (d : ℕ) (n : List ℕ) (ns : List (List ℕ)) → i < length ts → t ≡ get_or ts i t → suc d + top_weight t (ns ++ n ∷ []) ≤ top_weight t ns → suc d + weight ts (ns ++ n ∷ []) ≤ weight ts ns
lighter_at [] i t d n ns lt is h = absurd (omega arith)
lighter_at (u ∷ us) zero t d n ns lt is h =
    let here : suc d + top_weight u (ns ++ n ∷ []) ≤ top_weight u ns = subst (λ (x : Top). suc d + top_weight x (ns ++ n ∷ []) ≤ top_weight x ns) is h in
    omega (arith, here, falls us n ns)
lighter_at (u ∷ us) (suc i) t d n ns lt is h =
    let later : suc d + weight us (ns ++ n ∷ []) ≤ weight us ns = lighter_at us i t d n ns (omega arith) is h in
    omega (arith, later, top_falls u n ns)
