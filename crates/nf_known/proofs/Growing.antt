-- One more function is judged.
use Rattle.std.proofs.Common.{◌≡◌, ◌∙◌, ◌<◌, ◌≤◌, ℕ, zero, suc, Bool, true, false, not, ◌||◌, if◌then◌else◌, List, ◌∷◌, is_some, bytes_eq, Option, Some, refl, sym, ap, subst, true≢false, arith}
use Rattle.std.proofs.lemmas.Option.{same_Some}
use Rattle.nf_builtins.specs.Natives.{is_among}
use Rattle.nf_eval.specs.Evaluation.{Definition}
use Rattle.nf_meaning.specs.declared.fault.LowerFault.{LowerFault}
use Rattle.nf_meaning.specs.Lowered.{or_else}
use Rattle.nf_meaning.specs.Functions.{no_names_known, function_uses, judged_within}
use Rattle.nf_meaning.specs.Given.{Given, Definitions, function_named}
use Rattle.nf_meaning.specs.Names.{in_run, uses_fault}
use Rattle.nf_callees.specs.Found.{held, Puts}
use Rattle.nf_known.specs.Judged.{Faults, is_judged, is_ready, fault_after, AreWaiting, judged_count, left_count, nowhere, IsJudged, AreJudged}
use Rattle.nf_known.proofs.Among.{equal, own_bytes, name_is, count_falls}
use Rattle.nf_known.proofs.Judging.{calls_are}

module _ (old new : Faults) (n : List ℕ) (x : Option LowerFault) (puts : Puts n x old new) where
  still_by : (t : Bool) (m : List ℕ) → is_judged old m ≡ true → is_some (if t then Some x else held m old) ≡ true
  still_by true m h = refl
  still_by false m h = h

  -- what was judged stays so
  pub still : (m : List ℕ) → is_judged old m ≡ true → is_judged new m ≡ true
  still m h = ap is_some (puts m) ∙ still_by (bytes_eq n m) m h

  pub here : is_judged new n ≡ true
  here = ap is_some (puts n) ∙ ap (λ t. is_some (if t then Some x else held n old)) (own_bytes n)

  waited_by : (within : List (List ℕ)) → AreWaiting within new → (m : List ℕ) → is_among m within ≡ true → (t : Bool) → is_judged old m ≡ t → t ≡ false
  waited_by within w m e true h = absurd (true≢false (sym (still m h) ∙ w m e))
  waited_by within w m e false h = refl

  -- what isn't judged now wasn't before
  pub waited : (within : List (List ℕ)) → AreWaiting within new → AreWaiting within old
  waited within w m e = waited_by within w m e (is_judged old m) refl

  module _ (ds : Definitions) (f : Definition) (named : function_named n ds.functions ≡ Some f) (fresh : is_judged old n ≡ false) where
    abbrev same_name : f.name ≡ n
    same_name = name_is n ds.functions f named

    pub more : judged_count ds old < judged_count ds new
    more =
        count_falls (λ d. is_judged new d.name) (λ d. is_judged old d.name) (λ d. still d.name) n f
        (ap (is_judged new) same_name ∙ here) (ap (is_judged old) same_name ∙ fresh) ds.functions named

    left_by : (m : List ℕ) → not (is_judged new m || false) ≡ true → (t : Bool) → is_judged old m ≡ t → not (t || false) ≡ true
    left_by m h true e = absurd (true≢false (sym h ∙ ap (λ b. not (b || false)) (still m e)))
    left_by m h false e = refl

    pub fewer : left_count ds new nowhere < left_count ds old nowhere
    fewer =
        count_falls (λ d. not (is_judged old d.name || nowhere d.name)) (λ d. not (is_judged new d.name || nowhere d.name)) (λ d h. left_by d.name h (is_judged old d.name) refl) n f
        (ap (λ m. not (is_judged old m || false)) same_name ∙ ap (λ b. not (b || false)) fresh)
        (ap (λ m. not (is_judged new m || false)) same_name ∙ ap (λ b. not (b || false)) here)
        ds.functions named

module _ (g : Given) (ds : Definitions) (old new : Faults) (n : List ℕ) (f : Definition) (named : function_named n ds.functions ≡ Some f) (fresh : is_judged old n ≡ false)
    (puts : Puts n (fault_after g ds old (function_uses ds f)) old new) (judged : AreJudged g ds old) (ready : is_ready ds old (function_uses ds f) ≡ true) where
  abbrev fault : Option LowerFault
  fault = fault_after g ds old (function_uses ds f)

  abbrev grows : judged_count ds old < judged_count ds new
  grows = more old new n fault puts ds f named fresh

  with_it_by : (within : List (List ℕ)) → AreWaiting within new → (m : List ℕ) (s : Bool) → bytes_eq f.name m ≡ s → (s || is_among m within) ≡ true → is_judged old m ≡ false
  with_it_by within w m true e h = ap (is_judged old) (sym (equal f.name m e) ∙ name_is n ds.functions f named) ∙ fresh
  with_it_by within w m false e h = waited old new n fault puts within w m h

  -- the function itself isn't judged before
  with_it : (within : List (List ℕ)) → AreWaiting within new → AreWaiting (f.name ∷ within) old
  with_it within w m e = with_it_by within w m (bytes_eq f.name m) refl e

  wrong_in_it : (deep : ℕ) (within : List (List ℕ)) → judged_count ds new ≤ deep → AreWaiting within new → judged_within deep g ds within f ≡ fault
  wrong_in_it zero within d w = absurd (omega (arith, d, grows))
  wrong_in_it (suc deep) within d w =
      ap (or_else (uses_fault g ds no_names_known in_run (function_uses ds f)))
      (calls_are g ds old judged deep (f.name ∷ within) (omega (arith, d, grows)) (with_it within w) (function_uses ds f) ready)

  judged_by : (m : List ℕ) (x : Option LowerFault) (t : Bool) → bytes_eq n m ≡ t → (if t then Some fault else held m old) ≡ Some x → IsJudged g ds new m x
  judged_by m x true e h = record {
    function = f;
    named = subst (λ z. function_named z ds.functions ≡ Some f) (equal n m e) named;
    wrong = λ deep within d w. wrong_in_it deep within d w ∙ same_Some fault x h;
  }
  judged_by m x false e h =
      let k : IsJudged g ds old m x = judged m x h in
      record {
        function = k.function;
        named = k.named;
        wrong = λ deep within d w. k.wrong deep within (omega (arith, d, grows)) (waited old new n fault puts within w);
      }

  pub one_more : AreJudged g ds new
  one_more m x is = judged_by m x (bytes_eq n m) refl (sym (puts m) ∙ is)
