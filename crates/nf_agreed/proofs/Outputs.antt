-- The outputs of calls, by their places and their names.
use Rattle.std.proofs.Common.{◌≡◌, ℕ, zero, suc, ◌+◌, ◌≤◌, Bool, true, false, ◌&&◌, ◌||◌, List, [], ◌∷◌, ◌++◌, Option, Some, None, IfSome, refl, sym, ap, ◌∙◌, subst, true≢false, arith}
use Rattle.std.specs.Prelude.{if◌then◌else◌, not, slice_get, ◌==◌}
use Rattle.std.specs.Str.{bytes_eq}
use Rattle.std.proofs.lemmas.Bool.Decides.{Decides-eqb}
use Rattle.nf_kinds.specs.declared.kinds.Kinds.{Kinds}
use Rattle.nf_kinds.specs.declared.kinds.Key.TheVariants as key
use Rattle.nf_kinds.specs.declared.kinds.Output as kinds
use Rattle.nf_kinds.specs.declared.args.Given.{Given}
use Rattle.nf_kinds.specs.Kinds.{channel_kind, output_in}
use Rattle.nf_kinds.specs.Args.{any_queue}
use Rattle.nf_opkinds.specs.Results.{named_output, outputs_from, whole_kind, shape_of, all_of_kind}
use Rattle.nf_opkinds.specs.Calls.{has_two_queues}
use Rattle.nf_meaning.specs.Things.{Channel, Output, channels_of, only_one, has_label, output_named, are_values}
use Rattle.nf_meaning.specs.Calls as meant
use Rattle.nf_agreed.specs.Fits.{MayFlow, MayBeChannel, OutputsFit, MayBeResult, ArgsFit}

-- ---- a result with outputs of these kinds

-- the same names, and each may be what it is
abbrev pub EachFits : List (Option (List ℕ) × Kinds) → List Output → Type 0
EachFits [] [] = Unit {0}
EachFits (o ∷ os) (q ∷ qs) = (o.0 ≡ q.label) × (MayBeChannel o.1 q.channel × EachFits os qs)
EachFits [] (q ∷ qs) = ⊥
EachFits (o ∷ os) [] = ⊥

-- the output of a name isn't that of a place
beyond : (j : ℕ) (n : Option (List ℕ)) (k : Kinds) (more : List kinds.Output) → output_in (key.At j) (named_output n k ++ more) ≡ output_in (key.At j) more
beyond j None k more = refl
beyond j (Some n) k more = refl

later : (i m : ℕ) → (i == i + suc m) ≡ false
later i m = by (i == i + suc m) refl
  where
    by : (b : Bool) → (i == i + suc m) ≡ b → b ≡ false
    by true e = absurd (let h : i ≡ i + suc m = (Decides-eqb i (i + suc m)).0 e in let f : suc i ≤ i = omega (arith, h) in omega (arith, f))
    by false e = refl

here : (i : ℕ) → (i == i + 0) ≡ true
here i = (Decides-eqb i (i + 0)).1 (omega arith)

by_place : (i m : ℕ) (os : List (Option (List ℕ) × Kinds)) (qs : List Output) (c : Channel) → EachFits os qs → slice_get (channels_of qs) m ≡ Some c → MayBeChannel (output_in (key.At (i + m)) (outputs_from i os)) c
by_place i m [] [] c h at = absurd (let e : ◌≡◌ {A = Option Channel} None (Some c) = at in cc)
by_place i m [] (q ∷ qs) c h at = absurd h
by_place i m (o ∷ os) [] c h at = absurd h
by_place i zero (o ∷ os) (q ∷ qs) c h at =
    subst (λ b. MayBeChannel (if b then o.1 else output_in (key.At (i + 0)) (named_output o.0 o.1 ++ outputs_from (i + 1) os)) c) (sym (here i))
    (subst (λ d. MayBeChannel o.1 d) (let e : ◌≡◌ {A = Option Channel} (Some q.channel) (Some c) = at in cc) h.1.0)
by_place i (suc m) (o ∷ os) (q ∷ qs) c h at =
    subst (λ b. MayBeChannel (if b then o.1 else output_in (key.At (i + suc m)) (named_output o.0 o.1 ++ outputs_from (i + 1) os)) c) (sym (later i m))
    (subst (λ v. MayBeChannel v c) (sym (beyond (i + suc m) o.0 o.1 (outputs_from (i + 1) os)))
    (let e : i + 1 + m ≡ i + suc m = omega arith in
    subst (λ j. MayBeChannel (output_in (key.At j) (outputs_from (i + 1) os)) c) e (by_place (i + 1) m os qs c h.1.1 at)))

by_name : (i : ℕ) (n : List ℕ) (os : List (Option (List ℕ) × Kinds)) (qs : List Output) (c : Channel) → EachFits os qs → output_named n qs ≡ Some c → MayBeChannel (output_in (key.Called n) (outputs_from i os)) c
by_name i n [] [] c h at = absurd (let e : ◌≡◌ {A = Option Channel} None (Some c) = at in cc)
by_name i n [] (q ∷ qs) c h at = absurd h
by_name i n (o ∷ os) [] c h at = absurd h
by_name i n (o ∷ os) (q ∷ qs) c h at = by o.0 (ap (λ l. if has_label n l then Some q.channel else output_named n qs) h.0 ∙ at) (by_name (i + 1) n os qs c h.1.1)
  where
    -- a name that is another one's, or this one's
    named : (m : List ℕ) (b : Bool) → (if b then Some q.channel else output_named n qs) ≡ Some c → (output_named n qs ≡ Some c → MayBeChannel (output_in (key.Called n) (outputs_from (i + 1) os)) c)
        → MayBeChannel (if b then o.1 else output_in (key.Called n) (outputs_from (i + 1) os)) c
    named m true at rest = subst (λ d. MayBeChannel o.1 d) (let e : ◌≡◌ {A = Option Channel} (Some q.channel) (Some c) = at in cc) h.1.0
    named m false at rest = rest at

    by : (l : Option (List ℕ)) → (if has_label n l then Some q.channel else output_named n qs) ≡ Some c → (output_named n qs ≡ Some c → MayBeChannel (output_in (key.Called n) (outputs_from (i + 1) os)) c)
        → MayBeChannel (output_in (key.Called n) (named_output l o.1 ++ outputs_from (i + 1) os)) c
    by None at rest = rest at
    by (Some m) at rest = named m (bytes_eq m n) at rest

each_fits : (os : List (Option (List ℕ) × Kinds)) (qs : List Output) → EachFits os qs → OutputsFit (outputs_from 0 os) qs
each_fits os qs h (key.At j) = by (slice_get (channels_of qs) j) refl
  where
    by : (o : Option Channel) → slice_get (channels_of qs) j ≡ o → IfSome o (λ c. MayBeChannel (output_in (key.At j) (outputs_from 0 os)) c)
    by None e = tt
    by (Some c) e = let at : 0 + j ≡ j = omega arith in subst (λ i. MayBeChannel (output_in (key.At i) (outputs_from 0 os)) c) at (by_place 0 j os qs c h e)
each_fits os qs h (key.Called n) = by (output_named n qs) refl
  where
    by : (o : Option Channel) → output_named n qs ≡ o → IfSome o (λ c. MayBeChannel (output_in (key.Called n) (outputs_from 0 os)) c)
    by None e = tt
    by (Some c) e = by_name 0 n os qs c h e

whole_known : (os : List (Option (List ℕ) × Kinds)) (qs : List Output) → EachFits os qs → (whole_kind os).unknown ≡ false
whole_known [] qs h = refl
whole_known (o ∷ []) [] h = absurd h
whole_known (o ∷ []) (q ∷ qs) h = h.1.0.flows.known
whole_known (o ∷ p ∷ more) qs h = refl

whole_fits : (os : List (Option (List ℕ) × Kinds)) (qs : List Output) → EachFits os qs → IfSome (only_one qs) (λ c. MayBeChannel (whole_kind os) c)
whole_fits os [] h = tt
whole_fits os (q ∷ r ∷ qs) h = tt
whole_fits [] (q ∷ []) h = absurd h
whole_fits (o ∷ []) (q ∷ []) h = h.1.0
whole_fits (o ∷ p ∷ more) (q ∷ []) h = absurd h.1.1

pub shape_fits : (os : List (Option (List ℕ) × Kinds)) (qs : List Output) → EachFits os qs → MayBeResult (shape_of os) qs
shape_fits os qs h = record { known = whole_known os qs h; each = each_fits os qs h; whole = whole_fits os qs h }

-- all outputs of one kind
abbrev pub AllOutputs : (Channel → Type 0) → List Output → Type 0
AllOutputs P [] = Unit {0}
AllOutputs P (q ∷ qs) = P q.channel × AllOutputs P qs

abbrev pub labels_of : List Output → List (Option (List ℕ))
labels_of [] = []
labels_of (q ∷ qs) = q.label ∷ labels_of qs

alike : (k : Kinds) (qs : List Output) → AllOutputs (MayBeChannel k) qs → EachFits (all_of_kind k (labels_of qs)) qs
alike k [] h = tt
alike k (q ∷ qs) h = (refl, (h.0, alike k qs h.1))

-- a result of outputs of one kind
pub result_fits : (k : Kinds) (ns : List (Option (List ℕ))) (qs : List Output) → ns ≡ labels_of qs → AllOutputs (MayBeChannel k) qs → MayBeResult (shape_of (all_of_kind k ns)) qs
result_fits k ns qs same h = subst (λ l. MayBeResult (shape_of (all_of_kind k l)) qs) (sym same) (shape_fits (all_of_kind k (labels_of qs)) qs (alike k qs h))

-- ---- the channels of a process

value_or_queue : (q : Bool) (c : Channel) → MayFlow (channel_kind q) c → MayBeChannel (channel_kind q) c
value_or_queue true c h = record { flows = h; channel = refl }
value_or_queue false c h = record { flows = h; channel = refl }

pub both_false : (a b : Bool) → (a || b) ≡ false → (a ≡ false) × (b ≡ false)
both_false true b h = absurd (true≢false h)
both_false false b h = (refl, h)

no_queue : (g c : Bool) → (c ≡ false → g ≡ true) → g ≡ false → c ≡ true
no_queue g true h e = refl
no_queue g false h e = absurd (true≢false (sym (h refl) ∙ e))

and_both : (a b : Bool) → a ≡ true → b ≡ true → (a && b) ≡ true
and_both true b h e = e
and_both false b h e = absurd (true≢false (sym h))

-- without a queue among the arguments all are value channels
pub no_queues : (gs : List Given) (cs : List Channel) → ArgsFit gs cs → any_queue gs ≡ false → are_values cs ≡ true
no_queues [] [] h none = refl
no_queues [] (c ∷ cs) h none = absurd h
no_queues (g ∷ gs) [] h none = absurd h
no_queues (g ∷ gs) (c ∷ cs) h none =
    let apart = both_false g.shape.kinds.queue (any_queue gs) none in
    and_both c.is_value (are_values cs) (no_queue g.shape.kinds.queue c.is_value h.0.queue apart.0) (no_queues gs cs h.1 apart.1)

-- value channels, with no queue among them
values_one : (cs : List Channel) → are_values cs ≡ true → meant.has_two_queues cs ≡ false
values_one [] h = refl
values_one (c ∷ cs) h = by c.is_value h (values_one cs)
  where
    by : (v : Bool) → (v && are_values cs) ≡ true → (are_values cs ≡ true → meant.has_two_queues cs ≡ false)
        → (if v then meant.has_two_queues cs else not (are_values cs)) ≡ false
    by true h rest = rest h
    by false h rest = absurd (true≢false (sym h))

-- where the first rule isn't broken, at most one channel is a queue
pub one_queue : (gs : List Given) (cs : List Channel) → ArgsFit gs cs → has_two_queues gs ≡ false → meant.has_two_queues cs ≡ false
one_queue [] [] h none = refl
one_queue [] (c ∷ cs) h none = absurd h
one_queue (g ∷ gs) [] h none = absurd h
one_queue (g ∷ gs) (c ∷ cs) h none = by g.shape.kinds.queue c.is_value h.0.queue none (one_queue gs cs h.1) (no_queues gs cs h.1)
  where
    by : (q v : Bool) → (v ≡ false → q ≡ true) → (if q then any_queue gs else has_two_queues gs) ≡ false
        → (has_two_queues gs ≡ false → meant.has_two_queues cs ≡ false) → (any_queue gs ≡ false → are_values cs ≡ true)
        → (if v then meant.has_two_queues cs else not (are_values cs)) ≡ false
    by true true f none rest values = values_one cs (values none)
    by true false f none rest values = ap not (values none)
    by false true f none rest values = rest none
    by false false f none rest values = absurd (true≢false (sym (f refl)))
