-- Environments that are alike, step by step.
use Rattle.std.proofs.Common.{◌≡◌, ℕ, ◌-◌, List, [], ◌∷◌, ◌++◌, length, drop, Bool, true, false, Ok, Err, refl, ◌∙◌, ap, subst}
use Rattle.std.specs.Str.{bytes_eq}
use Rattle.nf_value.specs.Plain.{Plain}
use Rattle.nf_builtins.specs.Natives.{is_among}
use Rattle.nf_placed.specs.Placed.{Placed, ◌>>=◌}
use Rattle.nf_placed.specs.Scope.{Env, value_in, value_of, with_names, defined, rebound, rebound_in, left_by, inside}
use Rattle.nf_placed.specs.Body.{Flow, going, returned, with_all, value_of_body}
use Rattle.nf_relevant.specs.Reads.{AreAlike}

-- ---- names

after_by : (n : List ℕ) (b : List ℕ × Plain) (bs xs ys : List (List ℕ × Plain)) → value_in n (bs ++ xs) ≡ value_in n (bs ++ ys) → (t : Bool) → bytes_eq b.0 n ≡ t
    → value_in n ((b ∷ bs) ++ xs) ≡ value_in n ((b ∷ bs) ++ ys)
after_by n b bs xs ys rest true e = rw e refl
after_by n b bs xs ys rest false e = rw e rest

value_after : (n : List ℕ) (bs xs ys : List (List ℕ × Plain)) → value_in n xs ≡ value_in n ys → value_in n (bs ++ xs) ≡ value_in n (bs ++ ys)
value_after n [] xs ys h = h
value_after n (b ∷ bs) xs ys h = after_by n b bs xs ys (value_after n bs xs ys h) (bytes_eq b.0 n) refl

module _ (among : List (List ℕ)) where
  pub value_same : (n : List ℕ) (one other : Env) → is_among n among ≡ true → AreAlike among one other → value_of n one ≡ value_of n other
  value_same n one other p h =
      value_after n one.names one.captured other.captured (h.captured n p) ∙ ap (λ bs. value_in n (bs ++ other.captured)) h.names

  -- with other names of their own, the same in both
  pub with_names_alike : (one other : Env) (xs ys : List (List ℕ × Plain)) → xs ≡ ys → AreAlike among one other → AreAlike among (with_names xs one) (with_names ys other)
  with_names_alike one other xs ys e h = record {
    names = e;
    captured = h.captured;
    functions = h.functions;
    patterns = h.patterns;
    titles = h.titles;
    answer = h.answer;
    in_process = h.in_process;
  }

  pub defined_alike : (n : List ℕ) (v w : Plain) (one other : Env) → v ≡ w → AreAlike among one other → AreAlike among (defined n v one) (defined n w other)
  defined_alike n v w one other e h = with_names_alike one other _ _ (ap (λ x. (n, x) ∷ one.names) e ∙ ap (λ xs. (n, w) ∷ xs) h.names) h

  pub rebound_alike : (n : List ℕ) (v : Plain) (one other : Env) → AreAlike among one other → AreAlike among (rebound n v one) (rebound n v other)
  rebound_alike n v one other h = with_names_alike one other _ _ (ap (rebound_in n v) h.names) h

  pub with_all_alike : (bs : List (List ℕ × Plain)) (one other : Env) → AreAlike among one other → AreAlike among (with_all bs one) (with_all bs other)
  with_all_alike [] one other h = h
  with_all_alike (b ∷ bs) one other h = with_all_alike bs (defined b.0 b.1 one) (defined b.0 b.1 other) (defined_alike b.0 b.1 b.1 one other refl h)

  pub left_alike : (outer outer' inner inner' : Env) → AreAlike among outer outer' → AreAlike among inner inner' → AreAlike among (left_by outer inner) (left_by outer' inner')
  left_alike outer outer' inner inner' h k =
      with_names_alike outer outer' _ _ (ap (λ xs. drop (length xs - length outer.names) xs) k.names ∙ ap (λ ys. drop (length inner'.names - length ys) inner'.names) h.names) h

  pub inside_alike : (one other : Env) → AreAlike among one other → AreAlike among (inside one) (inside other)
  inside_alike one other h = record {
    names = refl;
    captured = λ n p. value_same n one other p h;
    functions = h.functions;
    patterns = h.patterns;
    titles = h.titles;
    answer = h.answer;
    in_process = h.in_process;
  }

  -- ---- flows

  abbrev pub FlowsAlike : Flow → Flow → Type 0
  FlowsAlike (going one v) (going other w) = AreAlike among one other × (v ≡ w)
  FlowsAlike (returned v) (returned w) = v ≡ w
  FlowsAlike (going one v) (returned w) = ⊥
  FlowsAlike (returned v) (going other w) = ⊥

  abbrev pub EndAlike : Placed Flow → Placed Flow → Type 0
  EndAlike (Ok f) (Ok g) = FlowsAlike f g
  EndAlike (Err e) (Err f) = e ≡ f
  EndAlike (Ok f) (Err e) = ⊥
  EndAlike (Err e) (Ok f) = ⊥

  -- ---- one after the other

  pub end_after : {A : Type 0} (a b : Placed A) (f g : A → Placed Flow) → a ≡ b → ((x : A) → EndAlike (f x) (g x)) → EndAlike (a >>= f) (b >>= g)
  end_after (Ok x) b f g e h = subst (λ y. EndAlike (f x) (y >>= g)) e (h x)
  end_after (Err k) b f g e h = subst (λ y. EndAlike (Err k) (y >>= g)) e refl

  body_alike : (f g : Flow) → FlowsAlike f g → value_of_body f ≡ value_of_body g
  body_alike (going one v) (going other w) h = h.1
  body_alike (returned v) (returned w) h = h
  body_alike (going one v) (returned w) h = absurd h
  body_alike (returned v) (going other w) h = absurd h

  -- what is made of the value of a body
  pub after_body : (a b : Placed Flow) → EndAlike a b → (a >>= λ f. Ok (value_of_body f)) ≡ (b >>= λ f. Ok (value_of_body f))
  after_body (Ok f) (Ok g) h = ap Ok (body_alike f g h)
  after_body (Err e) (Err f) h = ap Err h
  after_body (Ok f) (Err e) h = absurd h
  after_body (Err e) (Ok f) h = absurd h

pub bind_same : {A B : Type 0} (a b : Placed A) (f g : A → Placed B) → a ≡ b → ((x : A) → f x ≡ g x) → (a >>= f) ≡ (b >>= g)
bind_same (Ok x) b f g e h = h x ∙ ap (λ y. y >>= g) e
bind_same (Err k) b f g e h = ap (λ y. y >>= g) e
