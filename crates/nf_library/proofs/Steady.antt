-- The functions that an expression calls don't depend on the names that are seen where it stands.
use Rattle.std.proofs.Common.{◌≡◌, ◌∙◌, ℕ, Bool, true, false, List, [], ◌∷◌, ◌++◌, refl, sym, ap, ap₂}
use Rattle.std.proofs.lemmas.List.{append_assoc}
use Rattle.std.specs.Prelude.{not, ◌||◌, ◌&&◌, if◌then◌else◌, String}
use Rattle.std.specs.Global.{Global}
use Rattle.std.specs.List.{filter, list_all}
use Rattle.nf_value.specs.declared.place.Place.{Place}
use Rattle.nf_ast.specs.Tree as tree
use Rattle.nf_ast.specs.Tree.{Tree, cons, empty, place_of}
use Rattle.nf_builtins.specs.Natives.{is_among}
use Rattle.nf_names_used.specs.declared.uses.Use.{Use}
use Rattle.nf_names_used.specs.declared.uses.UseKind.{UseKind}
use Rattle.nf_names_used.specs.declared.uses.UseKind.TheVariants as kind
use Rattle.nf_names_used.specs.Uses.{Names, no_names, begun, defined, defined_by, entered, params_of, used, name_uses, assigned_uses, again_use, again_uses, params_uses, callee_uses, pattern_uses, is_seen, uses}
use Rattle.nf_placed.specs.Body.{is_math, name_in}
use Rattle.nf_meaning.specs.Functions as meaning
use Rattle.nf_meaning.specs.Functions.{body_uses, is_placed_use}
use Rattle.nf_known.specs.Patterns.{HasTexts}
use Rattle.nf_eval.specs.Evaluation.{Definition}
use Rattle.nf_library.specs.Calls.{is_placed, is_ready, kind_calls, use_calls, uses_call}

pub call_append : (us vs : List Use) → uses_call (us ++ vs) ≡ uses_call us ++ uses_call vs
call_append [] vs = refl
call_append (u ∷ us) vs = ap (λ ns. use_calls u ++ ns) (call_append us vs) ∙ sym (append_assoc (use_calls u) (uses_call us) (uses_call vs))

both : (us vs ws xs : List Use) → uses_call us ≡ uses_call ws → uses_call vs ≡ uses_call xs → uses_call (us ++ vs) ≡ uses_call (ws ++ xs)
both us vs ws xs h k = call_append us vs ∙ ap₂ (λ a b. a ++ b) h k ∙ sym (call_append ws xs)

-- ---- uses that call nothing

if_nothing : (b : Bool) (us vs : List Use) → uses_call us ≡ [] → uses_call vs ≡ [] → uses_call (if b then us else vs) ≡ []
if_nothing true us vs h k = h
if_nothing false us vs h k = k

named : (p : Place) (n : List ℕ) (a : Names) → uses_call (name_uses p n a) ≡ []
named p n a = if_nothing (is_seen n a) [] (used kind.Name p n ∷ []) refl refl

assigned : (n : Tree) (a : Names) → uses_call (assigned_uses n a) ≡ []
assigned n a = if_nothing (is_among (name_in n) a.own) [] (used kind.Assigned (place_of n) (name_in n) ∷ []) refl refl

again : (known : List (List ℕ)) (n : Tree) → uses_call (again_use known n) ≡ []
again known n = if_nothing (is_among (name_in n) known) (used kind.Again (place_of n) (name_in n) ∷ []) [] refl refl

all_again : (known : List (List ℕ)) (ns : Tree) → uses_call (again_uses known ns) ≡ []
all_again known (cons n more) =
    call_append (again_use known n) (again_uses (known ++ name_in n ∷ []) more) ∙ ap₂ (λ x y. x ++ y) (again known n) (all_again (known ++ name_in n ∷ []) more)
all_again known _ = refl

-- ---- what is called

called : (f : Tree) (us vs : List Use) → uses_call us ≡ uses_call vs → uses_call (callee_uses f us) ≡ uses_call (callee_uses f vs)
called (tree.name p n) us vs h = refl
called _ us vs h = h

object : (b : Bool) (us vs : List Use) → uses_call us ≡ uses_call vs → uses_call (if b then [] else us) ≡ uses_call (if b then [] else vs)
object true us vs h = refl
object false us vs h = h

pub same_calls : (t : Tree) (a b : Names) → uses_call (uses t a) ≡ uses_call (uses t b)
same_calls empty a b = refl
same_calls (cons x more) a b =
    both (uses x a) (uses more (defined (defined_by x) a)) (uses x b) (uses more (defined (defined_by x) b)) (same_calls x a b) (same_calls more (defined (defined_by x) a) (defined (defined_by x) b))
same_calls (tree.name p n) a b = named p n a ∙ sym (named p n b)
same_calls (tree.pattern p s) a b = refl
same_calls (tree.template p k xs) a b = same_calls xs a b
same_calls (tree.hole p e) a b = same_calls e a b
same_calls (tree.list p xs) a b = same_calls xs a b
same_calls (tree.map p xs) a b = same_calls xs a b
same_calls (tree.pair k e) a b = same_calls e a b
same_calls (tree.closure p ps e) a b =
    both (params_uses ps) (uses e (entered (params_of ps) a)) (params_uses ps) (uses e (entered (params_of ps) b)) refl (same_calls e (entered (params_of ps) a) (entered (params_of ps) b))
same_calls (tree.label n e) a b = same_calls e a b
same_calls (tree.prefix p k e) a b = same_calls e a b
same_calls (tree.binary p k x y) a b =
    both (uses x a) (pattern_uses k y ++ uses y a) (uses x b) (pattern_uses k y ++ uses y b) (same_calls x a b)
    (both (pattern_uses k y) (uses y a) (pattern_uses k y) (uses y b) refl (same_calls y a b))
same_calls (tree.conditional p c x y) a b =
    both (uses c a) (uses x a ++ uses y a) (uses c b) (uses x b ++ uses y b) (same_calls c a b) (both (uses x a) (uses y a) (uses x b) (uses y b) (same_calls x a b) (same_calls y a b))
same_calls (tree.elvis p x y) a b = both (uses x a) (uses y a) (uses x b) (uses y b) (same_calls x a b) (same_calls y a b)
same_calls (tree.property e n) a b = object (is_math e) (uses e a) (uses e b) (same_calls e a b)
same_calls (tree.safe_property e n) a b = same_calls e a b
same_calls (tree.index p e i) a b = both (uses e a) (uses i a) (uses e b) (uses i b) (same_calls e a b) (same_calls i a b)
same_calls (tree.call p f xs) a b =
    both (callee_uses f (uses f a)) (uses xs a) (callee_uses f (uses f b)) (uses xs b) (called f (uses f a) (uses f b) (same_calls f a b)) (same_calls xs a b)
same_calls (tree.named n e) a b = same_calls e a b
same_calls (tree.call_with f c) a b =
    both (callee_uses f (uses f a)) (uses c a) (callee_uses f (uses f b)) (uses c b) (called f (uses f a) (uses f b) (same_calls f a b)) (same_calls c a b)
same_calls (tree.define p n e) a b = both (again_use a.body n) (uses e a) (again_use b.body n) (uses e b) (again a.body n ∙ sym (again b.body n)) (same_calls e a b)
same_calls (tree.define_all p ns e) a b =
    both (again_uses a.body ns) (uses e a) (again_uses b.body ns) (uses e b) (all_again a.body ns ∙ sym (all_again b.body ns)) (same_calls e a b)
same_calls (tree.assign n e) a b = both (assigned_uses n a) (uses e a) (assigned_uses n b) (uses e b) (assigned n a ∙ sym (assigned n b)) (same_calls e a b)
same_calls (tree.return_ p e) a b = same_calls e a b
same_calls (tree.choice p c x last) a b =
    both (uses c a) (uses x a ++ uses last a) (uses c b) (uses x b ++ uses last b) (same_calls c a b) (both (uses x a) (uses last a) (uses x b) (uses last b) (same_calls x a b) (same_calls last a b))
same_calls (tree.statements x) a b = same_calls x (begun a) (begun b)
same_calls (tree.println p e) a b = same_calls e a b
same_calls (tree.log p n e) a b = same_calls e a b
same_calls _ a b = refl

-- ---- a function is ready where all that it calls are placed

module _ (ks ds : List (String Global)) (all done : List (List ℕ)) (names : HasTexts ks all) (placed : HasTexts ds done) where
  name_placed : (n : List ℕ) → is_placed ks ds n ≡ (not (is_among n all) || is_among n done)
  name_placed n = ap₂ (λ a b. not a || b) (names n) (placed n)

  one_placed : (k : UseKind) (n : List ℕ) (b : Bool) (ns : List (List ℕ)) → list_all (is_placed ks ds) ns ≡ b → list_all (is_placed ks ds) (kind_calls k n ++ ns) ≡ (is_placed_use all done k n && b)
  one_placed kind.Function n b ns h = ap₂ (λ a c. a && c) (name_placed n) h
  one_placed kind.Name n b ns h = h
  one_placed kind.Assigned n b ns h = h
  one_placed kind.Again n b ns h = h
  one_placed kind.Pattern n b ns h = h

  all_placed : (us : List Use) → list_all (is_placed ks ds) (uses_call us) ≡ list_all (λ u. is_placed_use all done u.kind u.text) us
  all_placed [] = refl
  all_placed (u ∷ us) = one_placed u.kind u.text (list_all (λ v. is_placed_use all done v.kind v.text) us) (uses_call us) (all_placed us)

  pub ready_same : (d : Definition) → is_ready ks ds d ≡ meaning.is_ready all done d
  ready_same d =
      ap (list_all (is_placed ks ds)) (same_calls d.body no_names (record { captured = []; own = d.params; body = [] })) ∙ all_placed (body_uses d)

  pub filter_same : (xs : List Definition) → filter (is_ready ks ds) xs ≡ filter (meaning.is_ready all done) xs
  filter_same [] = refl
  filter_same (d ∷ xs) = ap₂ (λ b ys. if b then d ∷ ys else ys) (ready_same d) (filter_same xs)

  pub rest_same : (xs : List Definition) → filter (λ d. not (is_ready ks ds d)) xs ≡ filter (λ d. not (meaning.is_ready all done d)) xs
  rest_same [] = refl
  rest_same (d ∷ xs) = ap₂ (λ b ys. if not b then d ∷ ys else ys) (ready_same d) (rest_same xs)
