-- What is known after both arms fits what is so after either.
use Rattle.std.proofs.Common.{◌≡◌, ℕ, Bool, true, false, List, [], ◌∷◌, ◌++◌, Option, Some, None, IfSome, IsSomeAnd, refl, sym, ap, ◌∙◌, subst, true≢false}
use Rattle.std.specs.Prelude.{if◌then◌else◌}
use Rattle.std.specs.Str.{bytes_eq}
use Rattle.std.proofs.lemmas.Slice.Eq.{bytes_eq-Decides}
use Rattle.std.proofs.lemmas.Bool.Decides.{Decides-eqb}
use Rattle.nf_kinds.specs.declared.kinds.Key.{Key}
use Rattle.nf_kinds.specs.declared.kinds.Key.TheVariants as key
use Rattle.nf_kinds.specs.declared.kinds.Output as kinds
use Rattle.nf_kinds.specs.Kinds.{Shaped, either, is_key, output_in, has_key, both_outputs, missing_outputs, merged_outputs, merged}
use Rattle.nf_kinds.specs.Scope.{Bindings, shape_in, shape_or_unknown, is_bound, aligned, both_names, missing_names, merged_names}
use Rattle.nf_meaning.specs.Things.{Thing, a_value, a_channel, outputs, Channel, Output, only_one, thing_named}
use Rattle.nf_agreed.specs.Fits.{MayBeChannel, output_by, ResultFits, Fits, NamesFit, InOrderFit, SameNames}
use Rattle.nf_agreed.proofs.Either.{known_left, known_right, value_left, value_right, channel_left, channel_right}

-- ---- names and keys

pub text_same : (xs ys : List ℕ) → bytes_eq xs ys ≡ true → xs ≡ ys
text_same xs ys h = (bytes_eq-Decides xs ys).0 h

pub text_itself : (xs : List ℕ) → bytes_eq xs xs ≡ true
text_itself xs = (bytes_eq-Decides xs xs).1 refl

same_key : (a b : Key) → is_key a b ≡ true → a ≡ b
same_key (key.At i) (key.At j) h = ap key.At ((Decides-eqb i j).0 h)
same_key (key.At i) (key.Called m) h = absurd (true≢false (sym h))
same_key (key.Called n) (key.At j) h = absurd (true≢false (sym h))
same_key (key.Called n) (key.Called m) h = ap key.Called (text_same n m h)

-- ---- outputs after both arms

Over : Key → List kinds.Output → List kinds.Output → List kinds.Output → Type 0
Over k xs bs more = output_in k (both_outputs xs bs ++ more) ≡ (if has_key k xs then either (output_in k xs) (output_in k bs) else output_in k more)

over : (k : Key) (xs bs more : List kinds.Output) → Over k xs bs more
unfolding Over
over k [] bs more = refl
over k (o ∷ os) bs more = by (is_key o.key k) refl (over k os bs more)
  where
    by : (b : Bool) → is_key o.key k ≡ b → Over k os bs more
        → (if b then either o.kinds (output_in o.key bs) else output_in k (both_outputs os bs ++ more))
        ≡ (if (if b then true else has_key k os) then either (if b then o.kinds else output_in k os) (output_in k bs) else output_in k more)
    by true e rest = ap (λ q. either o.kinds (output_in q bs)) (same_key o.key k e)
    by false e rest = rest

missing : (k : Key) (xs bs : List kinds.Output) → has_key k xs ≡ false → output_in k (missing_outputs xs bs) ≡ output_in k bs
missing k xs [] none = refl
missing k xs (o ∷ os) none = by (has_key o.key xs) refl (is_key o.key k) refl (missing k xs os none)
  where
    by : (b : Bool) → has_key o.key xs ≡ b → (c : Bool) → is_key o.key k ≡ c → output_in k (missing_outputs xs os) ≡ output_in k os
        → output_in k (if b then missing_outputs xs os else o ∷ missing_outputs xs os) ≡ (if c then o.kinds else output_in k os)
    by true e true f rest = absurd (true≢false (sym e ∙ ap (λ q. has_key q xs) (same_key o.key k f) ∙ none))
    by true e false f rest = rest
    by false e c f rest = ap (λ t. if t then o.kinds else output_in k (missing_outputs xs os)) f ∙ ap (λ v. if c then o.kinds else v) rest

-- an output that is known is there
there : (k : Key) (xs : List kinds.Output) → (output_in k xs).unknown ≡ false → has_key k xs ≡ true
there k [] h = absurd (true≢false h)
there k (o ∷ os) h = by (is_key o.key k) h (there k os)
  where
    by : (b : Bool) → (if b then o.kinds else output_in k os).unknown ≡ false → ((output_in k os).unknown ≡ false → has_key k os ≡ true) → (if b then true else has_key k os) ≡ true
    by true h rest = refl
    by false h rest = rest h

output_left : (k : Key) (xs bs : List kinds.Output) (c : Channel) → MayBeChannel (output_in k xs) c → MayBeChannel (output_in k (both_outputs xs bs ++ missing_outputs xs bs)) c
unfolding Over
output_left k xs bs c h =
    let at : has_key k xs ≡ true = there k xs h.flows.known in
    subst (λ v. MayBeChannel v c)
    (sym (over k xs bs (missing_outputs xs bs) ∙ ap (λ b. if b then either (output_in k xs) (output_in k bs) else output_in k (missing_outputs xs bs)) at))
    (channel_left (output_in k xs) (output_in k bs) c h)

output_right : (k : Key) (xs bs : List kinds.Output) (c : Channel) → MayBeChannel (output_in k bs) c → MayBeChannel (output_in k (both_outputs xs bs ++ missing_outputs xs bs)) c
unfolding Over
output_right k xs bs c h = by (has_key k xs) refl
  where
    by : (b : Bool) → has_key k xs ≡ b → MayBeChannel (output_in k (both_outputs xs bs ++ missing_outputs xs bs)) c
    by true e =
        subst (λ v. MayBeChannel v c)
        (sym (over k xs bs (missing_outputs xs bs) ∙ ap (λ b. if b then either (output_in k xs) (output_in k bs) else output_in k (missing_outputs xs bs)) e))
        (channel_right (output_in k xs) (output_in k bs) c h)
    by false e =
        subst (λ v. MayBeChannel v c)
        (sym (over k xs bs (missing_outputs xs bs) ∙ ap (λ b. if b then either (output_in k xs) (output_in k bs) else output_in k (missing_outputs xs bs)) e ∙ missing k xs bs e))
        h

pub if_some : {A : Type 0} (o : Option A) (P Q : A → Type 0) → ((x : A) → P x → Q x) → IfSome o P → IfSome o Q
if_some None P Q f h = h
if_some (Some x) P Q f h = f x h

result_left : (a b : Option (List kinds.Output)) (os : List Output) → ResultFits a os → ResultFits (merged_outputs a b) os
result_left None b os h = absurd h
result_left (Some xs) None os h = h
result_left (Some xs) (Some bs) os h = λ k. if_some (output_by k os) (MayBeChannel (output_in k xs)) (MayBeChannel (output_in k (both_outputs xs bs ++ missing_outputs xs bs))) (λ c. output_left k xs bs c) (h k)

result_right : (a b : Option (List kinds.Output)) (os : List Output) → ResultFits b os → ResultFits (merged_outputs a b) os
result_right None b os h = h
result_right (Some xs) None os h = absurd h
result_right (Some xs) (Some bs) os h = λ k. if_some (output_by k os) (MayBeChannel (output_in k bs)) (MayBeChannel (output_in k (both_outputs xs bs ++ missing_outputs xs bs))) (λ c. output_right k xs bs c) (h k)

-- ---- things after both arms

pub thing_left : (a b : Shaped) (t : Thing) → Fits a t → Fits (merged a b) t
thing_left a b (a_value v) h = value_left a.kinds b.kinds h
thing_left a b (a_channel c) h = channel_left a.kinds b.kinds c h
thing_left a b (outputs os) h = record {
  known = known_left a.kinds b.kinds h.known;
  each = result_left a.outputs b.outputs os h.each;
  whole = if_some (only_one os) (MayBeChannel a.kinds) (MayBeChannel (either a.kinds b.kinds)) (channel_left a.kinds b.kinds) h.whole;
}

pub thing_right : (a b : Shaped) (t : Thing) → Fits b t → Fits (merged a b) t
thing_right a b (a_value v) h = value_right a.kinds b.kinds h
thing_right a b (a_channel c) h = channel_right a.kinds b.kinds c h
thing_right a b (outputs os) h = record {
  known = known_right a.kinds b.kinds h.known;
  each = result_right a.outputs b.outputs os h.each;
  whole = if_some (only_one os) (MayBeChannel b.kinds) (MayBeChannel (either a.kinds b.kinds)) (channel_right a.kinds b.kinds) h.whole;
}

-- ---- names after both arms

merged_by : Option Shaped → Option Shaped → Option Shaped → Option Shaped
merged_by (Some s) o more = Some (merged s (shape_or_unknown o))
merged_by None o more = more

both_named : (n : List ℕ) (xs bs more : Bindings) → shape_in n (both_names xs bs ++ more) ≡ merged_by (shape_in n xs) (shape_in n bs) (shape_in n more)
unfolding merged_by
both_named n [] bs more = refl
both_named n (a ∷ xs) bs more = by (bytes_eq a.0 n) refl (both_named n xs bs more)
  where
    by : (b : Bool) → bytes_eq a.0 n ≡ b → shape_in n (both_names xs bs ++ more) ≡ merged_by (shape_in n xs) (shape_in n bs) (shape_in n more)
        → (if b then Some (merged a.1 (shape_or_unknown (shape_in a.0 bs))) else shape_in n (both_names xs bs ++ more)) ≡ merged_by (if b then Some a.1 else shape_in n xs) (shape_in n bs) (shape_in n more)
    by true e rest = ap (λ m. Some (merged a.1 (shape_or_unknown (shape_in m bs)))) (text_same a.0 n e)
    by false e rest = rest

unbound : (n : List ℕ) (xs : Bindings) → shape_in n xs ≡ None → is_bound n xs ≡ false
unbound n [] h = refl
unbound n (a ∷ xs) h = by (bytes_eq a.0 n) h (unbound n xs)
  where
    by : (b : Bool) → (if b then Some a.1 else shape_in n xs) ≡ None → (shape_in n xs ≡ None → is_bound n xs ≡ false) → (if b then true else is_bound n xs) ≡ false
    by true h rest = absurd (let e : ◌≡◌ {A = Option Shaped} (Some a.1) None = h in cc)
    by false h rest = rest h

missing_named : (n : List ℕ) (xs bs : Bindings) → is_bound n xs ≡ false → shape_in n (missing_names xs bs) ≡ shape_in n bs
missing_named n xs [] none = refl
missing_named n xs (a ∷ bs) none = by (is_bound a.0 xs) refl (bytes_eq a.0 n) refl (missing_named n xs bs none)
  where
    by : (b : Bool) → is_bound a.0 xs ≡ b → (c : Bool) → bytes_eq a.0 n ≡ c → shape_in n (missing_names xs bs) ≡ shape_in n bs
        → shape_in n (if b then missing_names xs bs else a ∷ missing_names xs bs) ≡ (if c then Some a.1 else shape_in n bs)
    by true e true f rest = absurd (true≢false (sym e ∙ ap (λ m. is_bound m xs) (text_same a.0 n f) ∙ none))
    by true e false f rest = rest
    by false e c f rest = ap (λ t. if t then Some a.1 else shape_in n (missing_names xs bs)) f ∙ ap (λ v. if c then Some a.1 else v) rest

named : (n : List ℕ) (xs bs : Bindings) → shape_in n (merged_names xs bs) ≡ merged_by (shape_in n xs) (shape_in n bs) (shape_in n bs)
unfolding merged_by
named n xs bs = both_named n xs bs (missing_names xs bs) ∙ by (shape_in n xs) refl
  where
    by : (o : Option Shaped) → shape_in n xs ≡ o → merged_by o (shape_in n bs) (shape_in n (missing_names xs bs)) ≡ merged_by o (shape_in n bs) (shape_in n bs)
    by (Some s) e = refl
    by None e = missing_named n xs bs (unbound n xs e)

some_left : (a b : Option Shaped) (t : Thing) → IsSomeAnd a (λ s. Fits s t) → IsSomeAnd (merged_by a b b) (λ s. Fits s t)
unfolding merged_by
some_left None b t h = absurd h
some_left (Some s) b t h = thing_left s (shape_or_unknown b) t h

some_right : (a b : Option Shaped) (t : Thing) → IsSomeAnd b (λ s. Fits s t) → IsSomeAnd (merged_by a b b) (λ s. Fits s t)
unfolding merged_by
some_right a None t h = absurd h
some_right None (Some s) t h = h
some_right (Some r) (Some s) t h = thing_right r s t h

pub names_left : (xs bs : Bindings) (ys : List (List ℕ × Thing)) → NamesFit xs ys → NamesFit (merged_names xs bs) ys
names_left xs bs ys h n =
    if_some (thing_named n ys) (λ t. IsSomeAnd (shape_in n xs) (λ s. Fits s t)) (λ t. IsSomeAnd (shape_in n (merged_names xs bs)) (λ s. Fits s t))
    (λ t here. subst (λ o. IsSomeAnd o (λ s. Fits s t)) (sym (named n xs bs)) (some_left (shape_in n xs) (shape_in n bs) t here)) (h n)

pub names_right : (xs bs : Bindings) (ys : List (List ℕ × Thing)) → NamesFit bs ys → NamesFit (merged_names xs bs) ys
names_right xs bs ys h n =
    if_some (thing_named n ys) (λ t. IsSomeAnd (shape_in n bs) (λ s. Fits s t)) (λ t. IsSomeAnd (shape_in n (merged_names xs bs)) (λ s. Fits s t))
    (λ t here. subst (λ o. IsSomeAnd o (λ s. Fits s t)) (sym (named n xs bs)) (some_right (shape_in n xs) (shape_in n bs) t here)) (h n)

-- ---- local names, which both arms have in the same order

pub locals_left : (xs bs : Bindings) (ys : List (List ℕ × Thing)) → SameNames xs bs → InOrderFit xs ys → InOrderFit (aligned xs bs) ys
locals_left [] bs [] same h = tt
locals_left [] bs (y ∷ ys) same h = absurd h
locals_left (x ∷ xs) [] ys same h = absurd same
locals_left (x ∷ xs) (b ∷ bs) [] same h = absurd h
locals_left (x ∷ xs) (b ∷ bs) (y ∷ ys) same h = (h.0, (thing_left x.1 b.1 y.1 h.1.0, locals_left xs bs ys same.1 h.1.1))

pub locals_right : (xs bs : Bindings) (ys : List (List ℕ × Thing)) → SameNames xs bs → InOrderFit bs ys → InOrderFit (aligned xs bs) ys
locals_right [] [] ys same h = h
locals_right [] (b ∷ bs) ys same h = absurd same
locals_right (x ∷ xs) [] ys same h = absurd same
locals_right (x ∷ xs) (b ∷ bs) [] same h = absurd h
locals_right (x ∷ xs) (b ∷ bs) (y ∷ ys) same h = (same.0 ∙ h.0, (thing_right x.1 b.1 y.1 h.1.0, locals_right xs bs ys same.1 h.1.1))
