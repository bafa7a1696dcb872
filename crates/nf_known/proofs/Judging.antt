-- A function that calls only judged ones: what is wrong in those that it calls is known.
use Rattle.std.proofs.Common.{◌≡◌, ◌∙◌, ◌≤◌, ℕ, Bool, true, false, not, ◌||◌, List, [], ◌∷◌, is_some, Option, Some, None, refl, sym, ap, true≢false}
use Rattle.std.proofs.lemmas.Option.{none-some, same_Some}
use Rattle.nf_value.specs.declared.place.Place.{Place}
use Rattle.nf_builtins.specs.Natives.{is_among}
use Rattle.nf_eval.specs.Evaluation.{Definition}
use Rattle.nf_names_used.specs.declared.uses.Use.{Use}
use Rattle.nf_names_used.specs.declared.uses.UseKind.{UseKind}
use Rattle.nf_names_used.specs.declared.uses.UseKind.TheVariants as kind
use Rattle.nf_meaning.specs.declared.fault.LowerFault.{LowerFault}
use Rattle.nf_meaning.specs.Lowered.{or_else}
use Rattle.nf_meaning.specs.Functions.{Judge, led_back, function_fault, call_use_fault, calls_fault, judged_within}
use Rattle.nf_meaning.specs.Given.{Given, Definitions, function_named}
use Rattle.nf_callees.specs.Found.{held}
use Rattle.nf_known.specs.Judged.{Faults, is_judged, is_ready_use, is_ready, wrong_in, call_in, calls_in, AreWaiting, judged_count, IsJudged, AreJudged}
use Rattle.nf_known.proofs.Among.{both, name_is}

module _ (g : Given) (ds : Definitions) (es : Faults) (judged : AreJudged g ds es) where
  -- a name that is judged is that of a function
  named_if : (n : List ℕ) → function_named n ds.functions ≡ None → (o : Option (Option LowerFault)) → held n es ≡ o → o ≡ None
  named_if n none None e = refl
  named_if n none (Some f) e = absurd (none-some (judged n f e).function (sym none ∙ (judged n f e).named))

  module _ (deep : ℕ) (within : List (List ℕ)) (enough : judged_count ds es ≤ deep) (waiting : AreWaiting within es) where
    abbrev judge : Judge
    judge = judged_within deep g ds

    not_within : (n : List ℕ) (t : Bool) → is_judged es n ≡ true → is_among n within ≡ t → t ≡ false
    not_within n false h e = refl
    not_within n true h e = absurd (true≢false (sym h ∙ waiting n e))

    -- a call of a judged function
    pub judged_call : (p : Place) (n : List ℕ) (d : Definition) (f : Option LowerFault) → function_named n ds.functions ≡ Some d → held n es ≡ Some f → led_back (is_among d.name within) p (judge within d) ≡ f
    judged_call p n d f named is =
        let k : IsJudged g ds es n f = judged n f is in
        let same : k.function ≡ d = same_Some k.function d (sym k.named ∙ named) in
        let away : is_among d.name within ≡ false = ap (λ m. is_among m within) (name_is n ds.functions d named) ∙ not_within n (is_among n within) (ap is_some is) refl in
        ap (λ b. led_back b p (judge within d)) away ∙ ap (judge within) (sym same) ∙ k.wrong deep within enough waiting

    by_held : (p : Place) (n : List ℕ) (d : Definition) → function_named n ds.functions ≡ Some d → (o : Option (Option LowerFault)) → held n es ≡ o → is_some o ≡ true
        → led_back (is_among d.name within) p (judge within d) ≡ wrong_in o
    by_held p n d named None e told = absurd (true≢false (sym told))
    by_held p n d named (Some f) e told = judged_call p n d f named e

    by_named : (p : Place) (n : List ℕ) (o : Option Definition) → function_named n ds.functions ≡ o → (not (is_some o) || is_judged es n) ≡ true → function_fault judge within p o ≡ wrong_in (held n es)
    by_named p n None e ready = sym (ap wrong_in (named_if n e (held n es) refl))
    by_named p n (Some d) e ready = by_held p n d e (held n es) refl ready

    one_call : (k : UseKind) (p : Place) (n : List ℕ) → is_ready_use ds es k n ≡ true → call_use_fault ds judge within k p n ≡ call_in es k n
    one_call kind.Function p n ready = by_named p n (function_named n ds.functions) refl ready
    one_call kind.Name p n ready = refl
    one_call kind.Assigned p n ready = refl
    one_call kind.Again p n ready = refl
    one_call kind.Pattern p n ready = refl

    pub calls_are : (us : List Use) → is_ready ds es us ≡ true → calls_fault ds judge within us ≡ calls_in es us
    calls_are [] ready = refl
    calls_are (u ∷ us) ready =
        let r = both (is_ready_use ds es u.kind u.text) (is_ready ds es us) ready in
        ap (λ z. or_else z (calls_fault ds judge within us)) (one_call u.kind u.place u.text r.0) ∙ ap (or_else (call_in es u.kind u.text)) (calls_are us r.1)
