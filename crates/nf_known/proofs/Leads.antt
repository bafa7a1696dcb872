-- Where calls lead.
use Rattle.std.proofs.Common.{◌≡◌, ◌∙◌, ◌<◌, ◌+◌, ℕ, zero, suc, Bool, true, false, not, ◌||◌, List, [], ◌∷◌, length, is_some, bytes_eq, Option, Some, None, refl, sym, ap, subst, true≢false, arith}
use Rattle.std.specs.Prelude.{String}
use Rattle.std.specs.Global.{Global}
use Rattle.nf_value.specs.declared.place.Place.{Place}
use Rattle.nf_builtins.specs.Natives.{is_among}
use Rattle.nf_eval.specs.Evaluation.{Definition}
use Rattle.nf_names_used.specs.declared.uses.Use.{Use}
use Rattle.nf_names_used.specs.declared.uses.UseKind.TheVariants as kind
use Rattle.nf_meaning.specs.declared.fault.LowerFault.{LowerFault}
use Rattle.nf_meaning.specs.declared.fault.LowerFault.TheVariants.{CallCycle}
use Rattle.nf_meaning.specs.Lowered.{or_else}
use Rattle.nf_meaning.specs.Functions.{no_names_known, led_back, function_fault, judged_within}
use Rattle.nf_meaning.specs.Given.{Given, Definitions, function_named}
use Rattle.nf_meaning.specs.Names.{in_run, uses_fault}
use Rattle.nf_callees.specs.declared.functions.DefinedFunction.{DefinedFunction}
use Rattle.nf_callees.specs.Found.{definition_of, held, HasFunctions}
use Rattle.nf_known.specs.declared.names.KnownScript.{KnownScript}
use Rattle.nf_known.specs.declared.stuck.Led.{Led}
use Rattle.nf_known.specs.declared.stuck.Led.TheVariants as led
use Rattle.nf_known.specs.Known.{IsKnownScript, definitions_in}
use Rattle.nf_known.specs.Patterns.{has_text}
use Rattle.nf_known.specs.Judged.{Faults, Functions, is_judged, judged_count, left_count}
use Rattle.nf_known.specs.Stuck.{Inside, outermost, wrong_in_function, wrong_in_call, wrong_in_calls, IsDeep, IsInside, IsCalled, LeadsTo, led_of, left_after, HasOneMore, IsWrongAs, LeadsOn, IfLedOn}
use Rattle.nf_known.proofs.Among.{name_is, count_both}
use Rattle.nf_known.proofs.Firsts.{none_first, some_first}
use Rattle.nf_known.proofs.Judging.{judged_call}
use Rattle.nf_known.proofs.Rounds.{has_name, defined}
use Rattle.nf_known.proofs.Leading.{first_stays, fewer_left, deeper, not_flat, always_fails}

or_false : (a : Bool) → (a || false) ≡ a
or_false true = refl
or_false false = refl

positive : (deep : ℕ) → (deep ≡ 0 → ⊥) → (k : ℕ) × (deep ≡ suc k)
positive zero h = absurd (h refl)
positive (suc k) h = (k, refl)

-- ---- the call of a judged function

leads_by : (judge : DefinedFunction → Option LowerFault) (wrong f : Option LowerFault) → wrong ≡ f → LeadsTo wrong judge (led_of f)
leads_by judge wrong None e = e
leads_by judge wrong (Some f) e = e

pub leads_with : (judge : DefinedFunction → Option LowerFault) (wrong f : Option LowerFault) → wrong ≡ f → (r : Led) → r ≡ led_of f → LeadsTo wrong judge r
leads_with judge wrong f e r is = subst (LeadsTo wrong judge) (sym is) (leads_by judge wrong f e)

pub on_led : (r : Led) (P : Type 0) → P → IfLedOn r P
on_led led.Nowhere P h = tt
on_led (led.Fault f) P h = tt
on_led (led.To t) P h = h

-- ---- the call of a name

module _ (ds : Definitions) (i : Inside) (p : Place) (n : List ℕ) where
  pub no_function_called : function_named n ds.functions ≡ None → wrong_in_call ds i kind.Function p n ≡ None
  no_function_called none = ap (function_fault (judged_within i.deep i.given ds) i.within p) none

  call_of : (d : Definition) → function_named n ds.functions ≡ Some d → wrong_in_call ds i kind.Function p n ≡ led_back (is_among d.name i.within) p (judged_within i.deep i.given ds i.within d)
  call_of d is = ap (function_fault (judged_within i.deep i.given ds) i.within p) is

module _ {N : Type 0} (titles_of : N → List (List ℕ)) (x : KnownScript N) where
  abbrev ds : Definitions
  ds = definitions_in x

  abbrev es : Faults
  es = x.judged.entries

  -- ---- from outside of all functions

  all_counted : left_count ds es (λ n. is_among n []) + judged_count ds es ≡ length ds.functions
  all_counted = count_both (λ d. not (is_judged es d.name || false)) (λ d. is_judged es d.name) (λ d. ap not (or_false (is_judged es d.name))) ds.functions

  pub outside : (g : Given) → IsKnownScript titles_of x g → (names : List (String Global)) → names ≡ [] → IsInside titles_of x names (outermost g ds)
  outside g h names empty = record {
    script = h;
    same = λ n. ap (has_text n) empty;
    deep = record { enough = omega (arith, all_counted); waiting = λ n e. absurd (true≢false (sym e)) };
  }

  pub outside_all : (g : Given) → IsKnownScript titles_of x g → IsInside titles_of x [] (outermost g ds)
  outside_all g h = outside g h [] refl

  module _ (names : List (String Global)) where
    pub called : (fs : Functions) (h : HasFunctions ds fs) (n : List ℕ) (f : DefinedFunction) → held n fs ≡ Some f → is_judged es n ≡ false → has_text n names ≡ false → IsCalled x names f
    called fs h n f here waits apart =
        let same : f.function.now.name ≡ n = has_name ds fs h n f here in
        record {
          defined = defined ds fs h n f here;
          waits = ap (is_judged es) same ∙ waits;
          apart = ap (λ m. has_text m names) same ∙ apart;
        }

    module _ (i : Inside) (inside : IsInside titles_of x names i) where
      -- ---- the call of a function

      module _ (p : Place) (n : List ℕ) (d : Definition) (is : function_named n ds.functions ≡ Some d) where
        around_is : (t : Bool) → has_text n names ≡ t → is_among d.name i.within ≡ t
        around_is t e = ap (λ m. is_among m i.within) (name_is n ds.functions d is) ∙ sym (inside.same n) ∙ e

        pub leads_back : has_text n names ≡ true → wrong_in_call ds i kind.Function p n ≡ Some (CallCycle p)
        leads_back there = call_of ds i p n d is ∙ ap (λ b. led_back b p (judged_within i.deep i.given ds i.within d)) (around_is true there)

        pub leads_in : has_text n names ≡ false → wrong_in_call ds i kind.Function p n ≡ judged_within i.deep i.given ds i.within d
        leads_in apart = call_of ds i p n d is ∙ ap (λ b. led_back b p (judged_within i.deep i.given ds i.within d)) (around_is false apart)

        pub leads_to_judged : (f : Option LowerFault) → held n es ≡ Some f → wrong_in_call ds i kind.Function p n ≡ f
        leads_to_judged f here =
            call_of ds i p n d is
            ∙ judged_call i.given ds es inside.script.judged i.deep i.within (omega (arith, inside.deep.enough)) inside.deep.waiting p n d f is here

      -- ---- calls in a row

      module _ (f : DefinedFunction) (called_f : IsCalled x names f) where
        away : is_among f.function.now.name i.within ≡ false
        away = sym (inside.same f.function.now.name) ∙ called_f.apart

        pub fails : is_some (wrong_in_function ds i f) ≡ true
        fails = always_fails i.given ds es inside.script.whole i.deep i.within (definition_of f) called_f.defined.named called_f.waits away inside.deep

        -- what is wrong in the function to which the first call leads is wrong in all
        pub first_leads : (u : Use) (us : List Use) → wrong_in_call ds i u.kind u.place u.text ≡ wrong_in_function ds i f → wrong_in_calls ds i (u ∷ us) ≡ wrong_in_function ds i f
        first_leads u us e = first_stays (wrong_in_call ds i u.kind u.place u.text) (wrong_in_calls ds i us) (ap is_some e ∙ fails) ∙ e

        -- ---- on from a function

        not_deep : i.deep ≡ 0 → ⊥
        not_deep e =
            not_flat ds es (definition_of f) called_f.defined.named called_f.waits i.given i.within away
            (subst (λ m. IsDeep ds es (record { given = i.given; within = i.within; deep = m })) e inside.deep)

        less : (k : ℕ) × (i.deep ≡ suc k)
        less = positive i.deep not_deep

        abbrev next : Inside
        next = record { given = i.given; within = f.function.now.name ∷ i.within; deep = less.0 }

        opened : wrong_in_function ds i f ≡ or_else (uses_fault i.given ds no_names_known in_run f.uses.items) (wrong_in_calls ds next f.uses.items)
        opened =
            ap (λ m. judged_within m i.given ds i.within (definition_of f)) less.1
            ∙ ap (λ us. or_else (uses_fault i.given ds no_names_known in_run us) (wrong_in_calls ds next us)) (sym called_f.defined.uses)

        pub own_fault : (us : List Use) → us ≡ f.uses.items → (o : LowerFault) → Some o ≡ uses_fault i.given ds no_names_known in_run us → wrong_in_function ds i f ≡ Some o
        own_fault us same o h =
            opened
            ∙ some_first (uses_fault i.given ds no_names_known in_run f.uses.items) (wrong_in_calls ds next f.uses.items) o (ap (uses_fault i.given ds no_names_known in_run) (sym same) ∙ sym h)

        module _ (more : List (String Global)) (one : HasOneMore f.function.now.name names more) where
          next_inside : IsInside titles_of x more next
          next_inside = record {
            script = inside.script;
            same = λ n. one n ∙ ap (λ b. bytes_eq f.function.now.name n || b) (inside.same n);
            deep = deeper ds es (definition_of f) called_f.defined.named called_f.waits i.given i.within away less.0
                (subst (λ m. IsDeep ds es (record { given = i.given; within = i.within; deep = m })) less.1 inside.deep);
          }

          led_by : (r : Led) (wrong w : Option LowerFault) → wrong ≡ w → LeadsTo w (wrong_in_function ds next) r → LeadsOn titles_of x more wrong r
          led_by led.Nowhere wrong w e h = e ∙ h
          led_by (led.Fault o) wrong w e h = e ∙ h
          led_by (led.To t) wrong w e h = record { inside = next; is = next_inside; same = e ∙ h }

          pub leads_on : (r : Led) (us vs : List Use) → us ≡ f.uses.items → vs ≡ f.uses.items → None ≡ uses_fault i.given ds no_names_known in_run us
              → ((j : Inside) → IsInside titles_of x more j → LeadsTo (wrong_in_calls ds j vs) (wrong_in_function ds j) r) → LeadsOn titles_of x more (wrong_in_function ds i f) r
          leads_on r us vs same these none h =
              led_by r (wrong_in_function ds i f) (wrong_in_calls ds next f.uses.items)
              (opened
              ∙ none_first (uses_fault i.given ds no_names_known in_run f.uses.items) (wrong_in_calls ds next f.uses.items) (ap (uses_fault i.given ds no_names_known in_run) (sym same) ∙ sym none))
              (subst (λ ws. LeadsTo (wrong_in_calls ds next ws) (wrong_in_function ds next) r) these (h next next_inside))

  -- ---- one function after another

  pub none_around : (names : List (String Global)) → names ≡ [] → (i : Inside) → IsInside titles_of x [] i → IsInside titles_of x names i
  none_around names empty i inside = subst (λ ns. IsInside titles_of x ns i) (sym empty) inside

  -- what is wrong in the first function is what is wrong in the next
  pub wrong_next : (names more : List (String Global)) (f : DefinedFunction) (wrong : Option LowerFault) (w : IsWrongAs titles_of x names f wrong) (r : Led)
      → LeadsOn titles_of x more (wrong_in_function ds w.inside f) r → LeadsOn titles_of x more wrong r
  wrong_next names more f wrong w r h = subst (λ o. LeadsOn titles_of x more o r) (sym w.same) h

  falls : (names more : List (String Global)) (f : DefinedFunction) → IsCalled x names f → HasOneMore f.function.now.name names more
      → left_count ds es (λ n. has_text n more) < left_count ds es (λ n. has_text n names)
  falls names more f c one = fewer_left ds es (definition_of f) c.defined.named c.waits (λ n. has_text n names) (λ n. has_text n more) c.apart one

  -- fewer functions may come after it
  pub fewer_after : (names more : List (String Global)) (f : DefinedFunction) → IsCalled x names f → (r : Led) → IfLedOn r (HasOneMore f.function.now.name names more)
      → left_after x more r < suc (left_count ds es (λ n. has_text n names))
  fewer_after names more f c led.Nowhere h = omega arith
  fewer_after names more f c (led.Fault o) h = omega arith
  fewer_after names more f c (led.To t) h = omega (arith, falls names more f c h)
