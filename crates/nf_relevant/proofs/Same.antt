-- Each part of a script means the same in environments that are alike for its names.
use Rattle.std.proofs.Common.{◌≡◌, ℕ, ◌+◌, List, [], ◌∷◌, ◌++◌, Bool, true, false, if◌then◌else◌, Option, Some, None, Ok, Err, refl, ap, subst, pos}
use Rattle.nf_value.specs.Plain.{Plain, null, truth, int, text}
use Rattle.nf_value.specs.Truth.{truth_of}
use Rattle.nf_value.specs.declared.place.Place.{Place}
use Rattle.nf_value.specs.declared.fault.EvalKind.TheVariants.{WrongKind}
use Rattle.nf_builtins.specs.Natives.{is_among}
use Rattle.nf_ast.specs.declared.operators.InfixOperator.{InfixOperator}
use Rattle.nf_ast.specs.declared.operators.InfixOperator.TheVariants as infix_operator
use Rattle.nf_ast.specs.Tree as tree
use Rattle.nf_ast.specs.Tree.{Tree, empty, cons, place_of}
use Rattle.nf_infix.specs.Compare.{matches}
use Rattle.nf_infix.specs.Literal.{new_list, new_map}
use Rattle.nf_infix.specs.Property.{property}
use Rattle.nf_infix.specs.Read.{index}
use Rattle.nf_infix.specs.Template.{hole_text}
use Rattle.nf_placed.specs.Placed.{Placed, ◌>>=◌, fault, made}
use Rattle.nf_placed.specs.Operators.{infix_of, prefix_of}
use Rattle.nf_placed.specs.Scope.{Env, defined, rebound, inside}
use Rattle.nf_placed.specs.Calls.{block, method, function, math}
use Rattle.nf_placed.specs.Body.{Flow, going, returned, name_in, key_text, pattern_in, is_math, names_in, bound, split, with_all}
use Rattle.nf_eval.specs.Evaluation.{Meaning, Closing, either, both, matched, binary, closure, opening, method_of, read_safe, safe_method, left, next, chosen, meaning_of, eval_of, apply_of, branch_of, labels_of}
use Rattle.nf_relevant.specs.Reads.{Reads, AreAlike}
use Rattle.nf_relevant.proofs.Alike.{EndAlike, bind_same, after_body, value_same, defined_alike, rebound_alike, with_all_alike, left_alike, inside_alike}
use Rattle.nf_relevant.proofs.Respects.{Same, SameEnd, Respects, after, after_end, always, respects_nothing, respects_expression, respects_callable, respects_statement}

module _ (among : List (List ℕ)) where
  -- ---- choices

  if_same : {A : Type 0} (b : Bool) (f g : Env → A) → Same among f → Same among g → Same among (λ env. if b then f env else g env)
  if_same true f g h k = h
  if_same false f g h k = k

  if_end : (b : Bool) (f g : Env → Placed Flow) → SameEnd among f → SameEnd among g → SameEnd among (λ env. chosen f g env b)
  if_end true f g h k = h
  if_end false f g h k = k

  -- ---- infix operators

  either_same : (a b : Env → Placed Plain) → Same among a → Same among b → Same among (either a b)
  either_same a b h k = after among a (λ v env. if truth_of v then Ok (truth true) else b env >>= λ w. Ok (truth (truth_of w))) h
      (λ v. if_same (truth_of v) (λ env. Ok (truth true)) (λ env. b env >>= λ w. Ok (truth (truth_of w))) (always among (Ok (truth true)))
      (after among b (λ w env. Ok (truth (truth_of w))) k (λ w. always among (Ok (truth (truth_of w))))))

  both_same : (a b : Env → Placed Plain) → Same among a → Same among b → Same among (both a b)
  both_same a b h k = after among a (λ v env. if truth_of v then (b env >>= λ w. Ok (truth (truth_of w))) else Ok (truth false)) h
      (λ v. if_same (truth_of v) (λ env. b env >>= λ w. Ok (truth (truth_of w))) (λ env. Ok (truth false))
      (after among b (λ w env. Ok (truth (truth_of w))) k (λ w. always among (Ok (truth (truth_of w))))) (always among (Ok (truth false))))

  pattern_same : (p : Place) (v : Plain) (re : List ℕ) → Same among (λ env. if is_among re env.patterns then made p (matches v re) else fault WrongKind p)
  pattern_same p v re one other e = ap (λ rs. if is_among re rs then made p (matches v re) else fault WrongKind p) e.patterns

  matched_same : (p : Place) (a : Env → Placed Plain) (o : Option (List ℕ)) (b : Env → Placed Plain) → Same among a → Same among b → Same among (matched p a o b)
  matched_same p a (Some re) b h k = after among a (λ v env. if is_among re env.patterns then made p (matches v re) else fault WrongKind p) h (λ v. pattern_same p v re)
  matched_same p a None b h k = after among a (λ v env. b env >>= λ w. fault WrongKind p) h (λ v. after among b (λ w env. fault WrongKind p) k (λ w. always among (fault WrongKind p)))

  plain_same : (p : Place) (k : InfixOperator) (a b : Env → Placed Plain) → Same among a → Same among b → Same among (λ env. a env >>= λ v. b env >>= λ w. made p (infix_of k v w))
  plain_same p k a b g h = after among a (λ v env. b env >>= λ w. made p (infix_of k v w)) g (λ v. after among b (λ w env. made p (infix_of k v w)) h (λ w. always among (made p (infix_of k v w))))

  binary_same : (p : Place) (k : InfixOperator) (a : Env → Placed Plain) (o : Option (List ℕ)) (b : Env → Placed Plain) → Same among a → Same among b → Same among (binary p k a o b)
  binary_same p infix_operator.Or a o b g h = either_same a b g h
  binary_same p infix_operator.And a o b g h = both_same a b g h
  binary_same p infix_operator.Matches a o b g h = matched_same p a o b g h
  binary_same p k a o b g h = plain_same p k a b g h

  -- ---- closures

  abbrev body_in : Meaning → Env → Plain → Placed Flow
  body_in m = m.body

  closed_same : (p : Place) (ps : Tree) (m : Meaning) → Respects among m → (vs : List Plain) → Same among (λ env. closure p ps m.body env vs)
  closed_same p ps m r vs one other e = bind_same (bound p ps vs) (bound p ps vs) _ _ refl (λ ns. after_body among _ _
      (r.body null (with_all ns (inside one)) (with_all ns (inside other)) (with_all_alike among ns (inside one) (inside other) (inside_alike among one other e))))

  block_same : (p : Place) (ps : Tree) (m : Meaning) → Respects among m → Same among (λ env. block (closure p ps m.body env))
  block_same p ps m r one other e = λ i. block (λ vs. closed_same p ps m r vs one other e i)

  -- ---- names that are read

  method_same : (b : Bool) (value : Env → Placed Plain) (p : Place) (n : List ℕ) → Same among value → Same among (method_of b value p n)
  method_same true value p n h = always among (Ok (math p n))
  method_same false value p n h = after among value (λ v env. Ok (method v p n)) h (λ v. always among (Ok (method v p n)))

  -- ---- statements

  next_same : (more : Env → Plain → Placed Flow) → ((v : Plain) → SameEnd among (λ env. more env v)) → (f g : Placed Flow) → EndAlike among f g → EndAlike among (f >>= next more) (g >>= next more)
  next_same more h (Ok (going one v)) (Ok (going other w)) e = subst (λ x. EndAlike among (more one v) (more other x)) e.1 (h v one other e.0)
  next_same more h (Ok (returned v)) (Ok (returned w)) e = e
  next_same more h (Ok (going one v)) (Ok (returned w)) e = absurd e
  next_same more h (Ok (returned v)) (Ok (going other w)) e = absurd e
  next_same more h (Err x) (Err y) e = e
  next_same more h (Ok f) (Err y) e = absurd e
  next_same more h (Err x) (Ok g) e = absurd e

  left_same : (one other : Env) → AreAlike among one other → (f g : Placed Flow) → EndAlike among f g → EndAlike among (f >>= λ x. Ok (left one x)) (g >>= λ x. Ok (left other x))
  left_same one other e (Ok (going a v)) (Ok (going b w)) h = (left_alike among one other a b e h.0, h.1)
  left_same one other e (Ok (returned v)) (Ok (returned w)) h = h
  left_same one other e (Ok (going a v)) (Ok (returned w)) h = absurd h
  left_same one other e (Ok (returned v)) (Ok (going b w)) h = absurd h
  left_same one other e (Err x) (Err y) h = h
  left_same one other e (Ok f) (Err y) h = absurd h
  left_same one other e (Err x) (Ok g) h = absurd h

  names_same : (bs : List (List ℕ × Plain)) → SameEnd among (λ env. Ok (going (with_all bs env) null))
  names_same bs one other e = (with_all_alike among bs one other e, refl)

  -- ---- all parts

  after_value : {B : Type 0} (m : Meaning) (g : Plain → Placed B) → Respects among m → Same among (λ env. m.value env >>= g)
  after_value m g r = after among m.value (λ v env. g v) r.value (λ v. always among (g v))

  pub respects : (e : Tree) → Reads among e → Respects among (meaning_of e)
  respects empty h = respects_nothing among
  respects (cons a more) h = record {
    value = always among _;
    applied = λ p args k. always among _;
    closed = λ p args k. always among _;
    argument = always among _;
    done = λ one other e. (e, refl);
    written = always among _;
    entry = always among _;
    items = after among (meaning_of a).value (λ v env. (meaning_of more).items env >>= λ vs. Ok (v ∷ vs)) (respects a h.0).value
        (λ v. after among (meaning_of more).items (λ vs env. Ok (v ∷ vs)) (respects more h.1).items (λ vs. always among (Ok (v ∷ vs))));
    arguments = after among (meaning_of a).argument (λ x env. (meaning_of more).arguments env >>= λ xs. Ok (x ∷ xs)) (respects a h.0).argument
        (λ x. after among (meaning_of more).arguments (λ xs env. Ok (x ∷ xs)) (respects more h.1).arguments (λ xs. always among (Ok (x ∷ xs))));
    text = after among (meaning_of a).written (λ s env. (meaning_of more).text env >>= λ t. Ok (s ++ t)) (respects a h.0).written
        (λ s. after among (meaning_of more).text (λ t env. Ok (s ++ t)) (respects more h.1).text (λ t. always among (Ok (s ++ t))));
    entries = after among (meaning_of a).entry (λ x env. (meaning_of more).entries env >>= λ xs. Ok (x ∷ xs)) (respects a h.0).entry
        (λ x. after among (meaning_of more).entries (λ xs env. Ok (x ∷ xs)) (respects more h.1).entries (λ xs. always among (Ok (x ∷ xs))));
    body = λ v one other e. next_same (meaning_of more).body (respects more h.1).body _ _ ((respects a h.0).done one other e);
    first_true = λ k. after among (meaning_of a).value (λ v env. if truth_of v then Ok (int (pos k)) else (meaning_of more).first_true env (k + 1)) (respects a h.0).value
        (λ v. if_same (truth_of v) (λ env. Ok (int (pos k))) (λ env. (meaning_of more).first_true env (k + 1)) (always among _) ((respects more h.1).first_true (k + 1)));
  }
  respects (tree.number p i) h = respects_expression among _ (always among _)
  respects (tree.text p k s) h = respects_expression among _ (always among _)
  respects (tree.pattern p s) h = respects_expression among _ (always among _)
  respects (tree.template p k xs) h = respects_expression among _ (after among (meaning_of xs).text (λ t env. made p (Ok (text t))) (respects xs h).text (λ t. always among (made p (Ok (text t)))))
  respects (tree.piece p s) h = record {
    value = always among _;
    applied = λ q args k. always among _;
    closed = λ q args k. always among _;
    argument = always among _;
    done = λ one other e. (e, refl);
    written = always among _;
    entry = always among _;
    items = always among _;
    arguments = always among _;
    text = always among _;
    entries = always among _;
    body = λ v one other e. (e, refl);
    first_true = λ k. always among _;
  }
  respects (tree.hole p e) h = record {
    value = always among _;
    applied = λ q args k. always among _;
    closed = λ q args k. always among _;
    argument = always among _;
    done = λ one other x. (x, refl);
    written = after among (meaning_of e).value (λ v env. Ok (hole_text env.in_process v)) (respects e h).value (λ v one other x. ap (λ b. Ok (hole_text b v)) x.in_process);
    entry = always among _;
    items = always among _;
    arguments = always among _;
    text = always among _;
    entries = always among _;
    body = λ v one other x. (x, refl);
    first_true = λ k. always among _;
  }
  respects (tree.truth p b) h = respects_expression among _ (always among _)
  respects (tree.null p) h = respects_expression among _ (always among _)
  respects (tree.name p n) h = respects_callable among _ _ (λ one other e. ap Ok (value_same among n one other h e)) (always among (Ok (function p n)))
  respects (tree.list p xs) h = respects_expression among _ (after among (meaning_of xs).items (λ vs env. made p (new_list vs)) (respects xs h).items (λ vs. always among (made p (new_list vs))))
  respects (tree.map p xs) h = respects_expression among _ (after among (meaning_of xs).entries (λ ps env. made p (new_map ps)) (respects xs h).entries (λ ps. always among (made p (new_map ps))))
  respects (tree.pair k e) h = record {
    value = always among _;
    applied = λ q args a. always among _;
    closed = λ q args a. always among _;
    argument = always among _;
    done = λ one other x. (x, refl);
    written = always among _;
    entry = after_value (meaning_of e) (λ v. Ok (key_text k, v)) (respects e h);
    items = always among _;
    arguments = always among _;
    text = always among _;
    entries = always among _;
    body = λ v one other x. (x, refl);
    first_true = λ j. always among _;
  }
  respects (tree.closure p ps b) h = record {
    value = always among _;
    applied = (respects_expression among (λ env. fault WrongKind p) (always among _)).applied;
    closed = (respects_expression among (λ env. fault WrongKind p) (always among _)).closed;
    argument = λ one other e. ap Ok (block_same p ps (meaning_of b) (respects b h) one other e);
    done = (respects_expression among (λ env. fault WrongKind p) (always among _)).done;
    written = always among _;
    entry = always among _;
    items = always among _;
    arguments = always among _;
    text = always among _;
    entries = always among _;
    body = λ v one other x. (x, refl);
    first_true = λ j. always among _;
  }
  respects (tree.label n e) h = respects_expression among _ (respects e h).value
  respects (tree.prefix p k e) h = respects_expression among _ (after_value (meaning_of e) (λ v. made p (prefix_of k v)) (respects e h))
  respects (tree.binary p k a b) h = respects_expression among _ (binary_same p k (meaning_of a).value (pattern_in b) (meaning_of b).value (respects a h.0).value (respects b h.1).value)
  respects (tree.conditional p c a b) h = respects_expression among _ (after among (meaning_of c).value (λ v env. if truth_of v then (meaning_of a).value env else (meaning_of b).value env) (respects c h.0).value
      (λ v. if_same (truth_of v) (meaning_of a).value (meaning_of b).value (respects a h.1).value (respects b h.2).value))
  respects (tree.elvis p a b) h = respects_expression among _ (after among (meaning_of a).value (λ v env. if truth_of v then Ok v else (meaning_of b).value env) (respects a h.0).value
      (λ v. if_same (truth_of v) (λ env. Ok v) (meaning_of b).value (always among (Ok v)) (respects b h.1).value))
  respects (tree.property e n) h = respects_callable among _ _ (after_value (meaning_of e) (λ v. made (place_of n) (property v (name_in n))) (respects e h))
      (method_same (is_math e) (meaning_of e).value (place_of n) (name_in n) (respects e h).value)
  respects (tree.safe_property e n) h = respects_callable among _ _ (after_value (meaning_of e) (read_safe (place_of n) (name_in n)) (respects e h))
      (after_value (meaning_of e) (λ v. Ok (safe_method (place_of n) (name_in n) v)) (respects e h))
  respects (tree.index p e i) h = respects_expression among _ (after among (meaning_of e).value (λ v env. (meaning_of i).value env >>= λ w. made p (index v w)) (respects e h.0).value
      (λ v. after_value (meaning_of i) (λ w. made p (index v w)) (respects i h.1)))
  respects (tree.call p f xs) h = record {
    value = (respects f h.0).applied p (meaning_of xs).arguments (respects xs h.1).arguments;
    applied = (respects_expression among (λ env. (meaning_of f).applied p (meaning_of xs).arguments env) ((respects f h.0).applied p (meaning_of xs).arguments (respects xs h.1).arguments)).applied;
    closed = λ q more k. (respects f h.0).applied p (λ inner. (meaning_of xs).arguments inner >>= λ first. more inner >>= λ second. Ok (first ++ second))
        (after among (meaning_of xs).arguments (λ first inner. more inner >>= λ second. Ok (first ++ second)) (respects xs h.1).arguments
        (λ first. after among more (λ second inner. Ok (first ++ second)) k (λ second. always among (Ok (first ++ second)))));
    argument = (respects_expression among (λ env. (meaning_of f).applied p (meaning_of xs).arguments env) ((respects f h.0).applied p (meaning_of xs).arguments (respects xs h.1).arguments)).argument;
    done = (respects_expression among (λ env. (meaning_of f).applied p (meaning_of xs).arguments env) ((respects f h.0).applied p (meaning_of xs).arguments (respects xs h.1).arguments)).done;
    written = always among _;
    entry = always among _;
    items = always among _;
    arguments = always among _;
    text = always among _;
    entries = always among _;
    body = λ v one other x. (x, refl);
    first_true = λ j. always among _;
  }
  respects (tree.named n e) h = record {
    value = (respects e h).value;
    applied = (respects_expression among (meaning_of e).value (respects e h).value).applied;
    closed = (respects_expression among (meaning_of e).value (respects e h).value).closed;
    argument = always among _;
    done = (respects_expression among (meaning_of e).value (respects e h).value).done;
    written = always among _;
    entry = always among _;
    items = always among _;
    arguments = always among _;
    text = always among _;
    entries = always among _;
    body = λ v one other x. (x, refl);
    first_true = λ j. always among _;
  }
  respects (tree.call_with f c) h = respects_expression among _ ((respects f h.0).closed (opening c) (λ inner. (meaning_of c).argument inner >>= λ x. Ok (x ∷ []))
      (after among (meaning_of c).argument (λ x inner. Ok (x ∷ [])) (respects c h.1).argument (λ x. always among (Ok (x ∷ [])))))
  respects (tree.define p n e) h = respects_statement among _ (after_end among (meaning_of e).value (λ v env. Ok (going (defined (name_in n) v env) null)) (respects e h).value
      (λ v one other x. (defined_alike among (name_in n) v v one other refl x, refl)))
  respects (tree.define_all p ns e) h = respects_statement among _ (after_end among (meaning_of e).value (λ v env. split p (names_in ns) v >>= λ bs. Ok (going (with_all bs env) null)) (respects e h).value
      (λ v. after_end among (λ env. split p (names_in ns) v) (λ bs env. Ok (going (with_all bs env) null)) (always among _) names_same))
  respects (tree.assign n e) h = respects_statement among _ (after_end among (meaning_of e).value (λ v env. Ok (going (rebound (name_in n) v env) null)) (respects e h).value
      (λ v one other x. (rebound_alike among (name_in n) v one other x, refl)))
  respects (tree.return_ p e) h = respects_statement among _ (after_end among (meaning_of e).value (λ v env. Ok (returned v)) (respects e h).value (λ v one other x. refl))
  respects (tree.choice p c b last) h = respects_statement among _ (after_end among (meaning_of c).value (λ v env. chosen (meaning_of b).done (meaning_of last).done env (truth_of v)) (respects c h.0).value
      (λ v. if_end (truth_of v) (meaning_of b).done (meaning_of last).done (respects b h.1).done (respects last h.2).done))
  respects (tree.statements b) h = respects_statement among _ (λ one other e. left_same one other e _ _ ((respects b h).body null one other e))
  respects (tree.println p e) h = respects_nothing among
  respects (tree.log p n e) h = respects_nothing among
  respects _ h = respects_nothing among

-- ---- expressions and closures

pub eval_same : (among : List (List ℕ)) (e : Tree) (one other : Env) → Reads among e → AreAlike among one other → eval_of e one ≡ eval_of e other
eval_same among e one other h x = (respects among e h).value one other x

pub apply_same : (among : List (List ℕ)) (c : Closing) (other : Env) (vs : List Plain) → Reads among c.body → AreAlike among c.env other → apply_of c vs ≡ apply_of (record c { env = other }) vs
apply_same among c other vs h x = closed_same among c.place c.params (meaning_of c.body) (respects among c.body h) vs c.env other x

bound_alike : (among : List (List ℕ)) (c : Closing) (other : Env) (ns : List (List ℕ × Plain)) → AreAlike among c.env other → AreAlike among (with_all ns (inside c.env)) (with_all ns (inside other))
bound_alike among c other ns x = with_all_alike among ns (inside c.env) (inside other) (inside_alike among c.env other x)

pub branch_same : (among : List (List ℕ)) (c : Closing) (other : Env) (vs : List Plain) → Reads among c.body → AreAlike among c.env other → branch_of c vs ≡ branch_of (record c { env = other }) vs
branch_same among c other vs h x = bind_same (bound c.place c.params vs) (bound c.place c.params vs) _ _ refl (λ ns. (respects among c.body h).first_true 0 _ _ (bound_alike among c other ns x))

pub labels_same : (among : List (List ℕ)) (c : Closing) (other : Env) (vs : List Plain) → Reads among c.body → AreAlike among c.env other → labels_of c vs ≡ labels_of (record c { env = other }) vs
labels_same among c other vs h x = bind_same (bound c.place c.params vs) (bound c.place c.params vs) _ _ refl (λ ns. bind_same _ _ _ _ ((respects among c.body h).items _ _ (bound_alike among c other ns x)) (λ ws. refl))
