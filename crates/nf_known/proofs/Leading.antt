-- A function that isn't judged leads on, up to one in which it stands: something is always wrong in it.
use Rattle.std.proofs.Common.{◌≡◌, ◌∙◌, ◌<◌, ℕ, zero, suc, Bool, true, false, not, ◌||◌, ◌&&◌, List, [], ◌∷◌, is_some, bytes_eq, Option, Some, None, refl, sym, ap, true≢false, arith}
use Rattle.nf_value.specs.declared.place.Place.{Place}
use Rattle.nf_builtins.specs.Natives.{is_among}
use Rattle.nf_eval.specs.Evaluation.{Definition}
use Rattle.nf_names_used.specs.declared.uses.Use.{Use}
use Rattle.nf_names_used.specs.declared.uses.UseKind.{UseKind}
use Rattle.nf_names_used.specs.declared.uses.UseKind.TheVariants as kind
use Rattle.nf_meaning.specs.declared.fault.LowerFault.{LowerFault}
use Rattle.nf_meaning.specs.Lowered.{or_else}
use Rattle.nf_meaning.specs.Functions.{Judge, no_names_known, led_back, function_fault, call_use_fault, calls_fault, function_uses, judged_within}
use Rattle.nf_meaning.specs.Given.{Given, Definitions, function_named}
use Rattle.nf_meaning.specs.Names.{in_run, uses_fault}
use Rattle.nf_known.specs.Judged.{Faults, is_judged, is_ready_use, is_ready, AreWaiting, NoneIsReady, left_count}
use Rattle.nf_known.specs.Stuck.{Inside, IsDeep}
use Rattle.nf_known.proofs.Among.{equal, own_bytes, name_is, count_falls}

some_of_first : (a b : Option LowerFault) → is_some a ≡ true → is_some (or_else a b) ≡ true
some_of_first None b h = absurd (true≢false (sym h))
some_of_first (Some f) b h = refl

some_of_second : (a b : Option LowerFault) → is_some b ≡ true → is_some (or_else a b) ≡ true
some_of_second None b h = h
some_of_second (Some f) b h = refl

pub first_stays : (a b : Option LowerFault) → is_some a ≡ true → or_else a b ≡ a
first_stays None b h = absurd (true≢false (sym h))
first_stays (Some f) b h = refl

module _ (ds : Definitions) (es : Faults) (f : Definition) (named : function_named f.name ds.functions ≡ Some f) (waits : is_judged es f.name ≡ false) where
  -- one function more around: one fewer is left
  module _ (within more : List ℕ → Bool) (apart : within f.name ≡ false) (one : (n : List ℕ) → more n ≡ (bytes_eq f.name n || within n)) where
    left_by : (m : List ℕ) (a b c : Bool) → not (a || (b || c)) ≡ true → not (a || c) ≡ true
    left_by m true b c h = h
    left_by m false true c h = absurd (true≢false (sym h))
    left_by m false false c h = h

    still_left : (d : Definition) → not (is_judged es d.name || more d.name) ≡ true → not (is_judged es d.name || within d.name) ≡ true
    still_left d h = left_by d.name (is_judged es d.name) (bytes_eq f.name d.name) (within d.name) (ap (λ b. not (is_judged es d.name || b)) (sym (one d.name)) ∙ h)

    was_left : not (is_judged es f.name || within f.name) ≡ true
    was_left = ap (λ a. not (a || within f.name)) waits ∙ ap not apart

    is_gone : not (is_judged es f.name || more f.name) ≡ false
    is_gone = ap (λ a. not (a || more f.name)) waits ∙ ap not (one f.name ∙ ap (λ b. b || within f.name) (own_bytes f.name))

    pub fewer_left : left_count ds es more < left_count ds es within
    fewer_left = count_falls (λ d. not (is_judged es d.name || within d.name)) (λ d. not (is_judged es d.name || more d.name)) still_left f.name f was_left is_gone ds.functions named

  module _ (g : Given) (within : List (List ℕ)) (apart : is_among f.name within ≡ false) where
    abbrev at : List (List ℕ) → ℕ → Inside
    at ns deep = record { given = g; within = ns; deep = deep }

    falls : left_count ds es (λ n. is_among n (f.name ∷ within)) < left_count ds es (λ n. is_among n within)
    falls = fewer_left (λ n. is_among n within) (λ n. is_among n (f.name ∷ within)) apart (λ n. refl)

    waiting_by : AreWaiting within es → (m : List ℕ) (s : Bool) → bytes_eq f.name m ≡ s → (s || is_among m within) ≡ true → is_judged es m ≡ false
    waiting_by w m true e h = ap (is_judged es) (sym (equal f.name m e)) ∙ waits
    waiting_by w m false e h = w m h

    pub deeper : (deep : ℕ) → IsDeep ds es (at within (suc deep)) → IsDeep ds es (at (f.name ∷ within) deep)
    deeper deep d = record {
      enough = omega (arith, d.enough, falls);
      waiting = λ m e. waiting_by d.waiting m (bytes_eq f.name m) refl e;
    }

    pub not_flat : IsDeep ds es (at within 0) → ⊥
    not_flat d = omega (arith, d.enough, falls)

-- ---- such a function has a fault

module _ (g : Given) (ds : Definitions) (es : Faults) (whole : NoneIsReady ds es) where
  module _ (deep : ℕ) (within : List (List ℕ))
      (rest : (f : Definition) → function_named f.name ds.functions ≡ Some f → is_judged es f.name ≡ false → is_among f.name within ≡ false → is_some (judged_within deep g ds within f) ≡ true) where
    abbrev judge : Judge
    judge = judged_within deep g ds

    back_by : (p : Place) (n : List ℕ) (h : Definition) → function_named n ds.functions ≡ Some h → is_judged es n ≡ false → (t : Bool) → is_among h.name within ≡ t → is_some (led_back t p (judge within h)) ≡ true
    back_by p n h named waits true e = refl
    back_by p n h named waits false e =
        let same : h.name ≡ n = name_is n ds.functions h named in
        rest h (ap (λ m. function_named m ds.functions) same ∙ named) (ap (is_judged es) same ∙ waits) e

    fault_by : (p : Place) (n : List ℕ) (o : Option Definition) → function_named n ds.functions ≡ o → (not (is_some o) || is_judged es n) ≡ false → is_some (function_fault judge within p o) ≡ true
    fault_by p n None e waits = absurd (true≢false waits)
    fault_by p n (Some h) e waits = back_by p n h e waits (is_among h.name within) refl

    one_fails : (k : UseKind) (p : Place) (n : List ℕ) → is_ready_use ds es k n ≡ false → is_some (call_use_fault ds judge within k p n) ≡ true
    one_fails kind.Function p n waits = fault_by p n (function_named n ds.functions) refl waits
    one_fails kind.Name p n waits = absurd (true≢false waits)
    one_fails kind.Assigned p n waits = absurd (true≢false waits)
    one_fails kind.Again p n waits = absurd (true≢false waits)
    one_fails kind.Pattern p n waits = absurd (true≢false waits)

    fails_by : (u : Use) (us : List Use) → (is_ready ds es us ≡ false → is_some (calls_fault ds judge within us) ≡ true) → (t : Bool) → is_ready_use ds es u.kind u.text ≡ t
        → (t && is_ready ds es us) ≡ false → is_some (calls_fault ds judge within (u ∷ us)) ≡ true
    fails_by u us later true e waits = some_of_second (call_use_fault ds judge within u.kind u.place u.text) (calls_fault ds judge within us) (later waits)
    fails_by u us later false e waits = some_of_first (call_use_fault ds judge within u.kind u.place u.text) (calls_fault ds judge within us) (one_fails u.kind u.place u.text e)

    pub calls_fail : (us : List Use) → is_ready ds es us ≡ false → is_some (calls_fault ds judge within us) ≡ true
    calls_fail [] waits = absurd (true≢false waits)
    calls_fail (u ∷ us) waits = fails_by u us (calls_fail us) (is_ready_use ds es u.kind u.text) refl waits

  pub always_fails : (deep : ℕ) (within : List (List ℕ)) (f : Definition) → function_named f.name ds.functions ≡ Some f → is_judged es f.name ≡ false → is_among f.name within ≡ false
      → IsDeep ds es (record { given = g; within = within; deep = deep }) → is_some (judged_within deep g ds within f) ≡ true
  always_fails zero within f named waits apart d = absurd (not_flat ds es f named waits g within apart d)
  always_fails (suc deep) within f named waits apart d =
      let next : IsDeep ds es (record { given = g; within = f.name ∷ within; deep = deep }) = deeper ds es f named waits g within apart deep d in
      some_of_second (uses_fault g ds no_names_known in_run (function_uses ds f)) (calls_fault ds (judged_within deep g ds) (f.name ∷ within) (function_uses ds f))
      (calls_fail deep (f.name ∷ within) (λ h named_h waits_h apart_h. always_fails deep (f.name ∷ within) h named_h waits_h apart_h next) (function_uses ds f) (whole f.name f named waits))
