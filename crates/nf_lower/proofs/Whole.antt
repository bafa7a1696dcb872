-- A script as a whole: its top is read, and then the walk goes on from its entry.
use Rattle.std.proofs.Common.{◌≡◌, ◌∙◌, ℕ, List, [], map, Result, Ok, Err, refl, sym, ap, subst}
use Rattle.std.specs.Prelude.{Option, Some, None, String}
use Rattle.std.specs.Borrow.{Bor}
use Rattle.std.specs.Global.{Global, Vec}
use Rattle.std.specs.Result.{IsErrAnd}
use Rattle.nf_value.specs.Plain.{Plain}
use Rattle.nf_value.specs.declared.file.FileRef.{FileRef}
use Rattle.nf_ast.specs.Tops.{view_top}
use Rattle.nf_ast.specs.Tree.{Tree}
use Rattle.nf_ast.specs.View.{trees}
use Rattle.nf_ast.specs.declared.tops.Top.{Top}
use Rattle.nf_around.specs.Around.{IsAround}
use Rattle.nf_around.specs.declared.surroundings.Surroundings.{Surroundings}
use Rattle.nf_calling.specs.Entries.{IsRunOf, StandsAround}
use Rattle.nf_calling.specs.Settings.{IsSettingOf}
use Rattle.nf_calling.specs.declared.setting.Setting.{Setting}
use Rattle.nf_eval.specs.declared.library.Library.{Library}
use Rattle.nf_lowered.specs.Given.{Gives, HasFault, HasValue}
use Rattle.nf_lowered.proofs.Joining.{fault_by}
use Rattle.nf_meaning.specs.declared.fault.LowerFault.{LowerFault}
use Rattle.nf_meaning.specs.declared.fault.LowerFault.TheVariants.{Mem}
use Rattle.nf_meaning.specs.Given.{Found, Given, Outcomes, files_at}
use Rattle.nf_meaning.specs.Lowered.{Lowered, goes_on}
use Rattle.nf_meaning.specs.Meaning.{ScriptMeaning}
use Rattle.nf_meaning.specs.Outside.{fault_of, in_run}
use Rattle.nf_meaning.specs.Script.{Read, around, begun, ending, entry_around, entry_in, entry_walk, meaning_of, opening, state_of, tops_read, wants_of}
use Rattle.nf_meaning.specs.Walk.{State, Want as Wanted}
use Rattle.nf_plan.specs.declared.builder.PlanBuilder.{PlanBuilder}
use Rattle.nf_plan.specs.declared.plan.Plan.{Plan}
use Rattle.nf_plan.specs.declared.want.Want.{Want}
use Rattle.nf_plan.specs.Plans.{want_of}
use Rattle.nf_plan.specs.Runs.{Run}
use Rattle.nf_walked.specs.Around.{Knows}
use Rattle.nf_walked.specs.declared.walker.Walker.{Walker}
use Rattle.nf_walked.specs.Steps.{Known}
use Rattle.nf_lower.specs.Entry.{KnownUnder, Plans}
use Rattle.nf_lower.specs.Files.{HasFiles}
use Rattle.nf_lower.specs.Reads.{HasRead}
use Rattle.nf_lower.specs.Script.{LowersTo, WantsAll, run_of, under}

-- ---- the plan of a script

module _ {N : Type 0} (titles_of : N → List (List ℕ)) (answer_of : N → ℕ → List Plain → Option Plain) (x : Setting N) (library : Library) where
  abbrev IsSetting : Given → Type 0
  IsSetting g = IsSettingOf titles_of answer_of x library g

  -- whatever comes of its tasks
  pub setting_under : (o : Outcomes) (g : Given) → IsSetting g → IsSetting (under o g)
  setting_under o g h = record {
    tops = h.tops;
    params = h.params;
    folder = h.folder;
    program = h.program;
    texts = record { built = h.texts.built; large = h.texts.large };
    patterns = h.patterns;
  }

  -- the surroundings once its top is read
  abbrev pub ReadsTop : Result (Surroundings N) LowerFault → Type 0
  ReadsTop r = (g : Given) → IsSetting g → Gives (λ s q. IsAround titles_of answer_of s (around g q.params)) (tops_read g g.tops (begun g)) r

  pub top_fails : (e : LowerFault) → ReadsTop (Err e) → (g : Given) → IsSetting g → LowersTo g (Err e)
  top_fails e reads g h o =
      let z = under o g in
      fault_by (tops_read z z.tops (begun z)) (meaning_of z) e
      (λ k. ap (λ (v : Lowered Read). goes_on (goes_on v (λ (r : Read). state_of (entry_walk (entry_in z.tops) (entry_around z r.params) opening))) (λ (t : State). Ok t.meant)) k) (reads z (setting_under o g h))

  -- the surroundings stand after its top
  pub has_read : (s : Surroundings N) → ReadsTop (Ok s) → (g : Given) → IsSetting g → HasRead titles_of answer_of x.tops.now s g
  has_read s reads g h = record { tree = h.tops; read = λ o. reads (under o g) (setting_under o g h) }

-- some meaning of the script
pub stands_around : {N : Type 0} (titles_of : N → List (List ℕ)) (answer_of : N → ℕ → List Plain → Option Plain) (tops : List Top) (s : Surroundings N)
    → (g : Given) × HasRead titles_of answer_of tops s g → StandsAround titles_of answer_of tops s
stands_around titles_of answer_of tops s some =
    let it = some.1.read some.0.outcomes in
    record { given = under some.0.outcomes some.0; set = it.value.params; tree = some.1.tree; is = it.fits }

-- what goes through its bodies
module _ {N : Type 0} (titles_of : N → List (List ℕ)) (answer_of : N → ℕ → List Plain → Option Plain) (tops : List Top) (s : Surroundings N) (w : Walker N)
    (files : List (String Global × Bor (List FileRef))) (found : List Found) (has : HasFiles found files)
    (knows : (g : Given) (ps : List (List ℕ × Plain)) (r : Run) → IsRunOf tops files g r → IsAround titles_of answer_of s (around g ps) → Knows titles_of answer_of w r (entry_around g ps))
    (g : Given) (h : HasRead titles_of answer_of tops s g) (are : found ≡ g.found) where
  abbrev K : Known
  K = Knows titles_of answer_of w

  abbrev script : Tree
  script = trees (map view_top tops)

  is_run : (o : Outcomes) (b : PlanBuilder) → IsRunOf tops files (under o g) (run_of g.program o b)
  is_run o b = record {
    tree = h.tree;
    program = refl;
    outcomes = refl;
    files = λ path. has path ∙ ap (λ fs. files_at path fs) are;
  }

  top_read : (o : Outcomes) → HasValue (tops_read (under o g) g.tops (begun (under o g))) (λ q. IsAround titles_of answer_of s (around (under o g) q.params))
  top_read o = h.read o

  known_under : (o : Outcomes) → KnownUnder K g.program o (entry_around (under o g) (top_read o).value.params)
  known_under o b = knows (under o g) (top_read o).value.params (run_of g.program o b) (is_run o b) (top_read o).fits

  -- where the walk ends, after the top
  end_is : (o : Outcomes) → ending (under o g) ≡ state_of (entry_walk (entry_in script) (entry_around (under o g) (top_read o).value.params) opening)
  end_is o =
      ap (λ (v : Lowered Read). goes_on v (λ (r : Read). state_of (entry_walk (entry_in g.tops) (entry_around (under o g) r.params) opening))) (top_read o).is
      ∙ ap (λ (t : Tree). state_of (entry_walk (entry_in t) (entry_around (under o g) (top_read o).value.params) opening)) h.tree

  pub plan_lowers : (r : Result Plan LowerFault) → Plans K (entry_walk (entry_in script)) r → LowersTo g r
  plan_lowers (Err e) fails = λ o.
      fault_by (state_of (entry_walk (entry_in script) (entry_around (under o g) (top_read o).value.params) opening)) (meaning_of (under o g)) e
      (λ k. ap (λ (v : Lowered State). goes_on v (λ (t : State). Ok t.meant)) (end_is o ∙ k))
      (fails g.program o (entry_around (under o g) (top_read o).value.params) (known_under o))
  plan_lowers (Ok plan) it = record {
    made = it.made;
    is = it.is;
    plan_is = it.plan_is;
    means = λ o.
        (let e = it.ends g.program o (entry_around (under o g) (top_read o).value.params) (known_under o) in
        ap (λ (v : Lowered State). goes_on v (λ (t : State). Ok t.meant)) (end_is o ∙ e.is) ∙ ap (λ (m : ScriptMeaning). Ok m) (sym e.fits.meant));
    wants =
        (let o = g.outcomes in
        let e = it.ends g.program o (entry_around (under o g) (top_read o).value.params) (known_under o) in
        ap (λ (v : Lowered State). goes_on v (λ (t : State). Ok t.wants)) (end_is o ∙ e.is) ∙ ap (λ (ws : List Wanted). Ok ws) (sym e.fits.wants) ∙ ap (λ (v : Vec Want). Ok (map want_of v.items)) (sym it.is.wants));
  }

-- want of memory, which any script may have
pub lost : (g : Given) (r : Result Plan LowerFault) → IsErrAnd r (λ e. e ≡ Mem) → LowersTo g r
lost g (Err e) h = λ o. subst (λ (z : LowerFault). HasFault (meaning_of (under o g)) z) (sym h) tt
lost g (Ok plan) h = absurd h

-- ---- whatever files are found

-- a fault that one of two parts has, where they have the same
fault_moves : (v w : Lowered ScriptMeaning) (e : LowerFault) → fault_of v ≡ fault_of w → HasFault w e → HasFault v e
fault_moves v w e same h = fault_by w v e (λ k. same_fault v e (same ∙ ap fault_of k)) h
  where
    same_fault : (u : Lowered ScriptMeaning) (f : LowerFault) → fault_of u ≡ Some f → u ≡ Err f
    same_fault (Ok y) f k = absurd (let q : ◌≡◌ {A = Option LowerFault} None (Some f) = k in cc)
    same_fault (Err d) f k = (let q : ◌≡◌ {A = Option LowerFault} (Some d) (Some f) = k in let r : d ≡ f = cc in ap (λ z. Err z) r)

abbrev pub TextAlone : Type 0
TextAlone = (g : Given) (found : List Found) (o : Outcomes) → fault_of (meaning_of (in_run g found o)) ≡ fault_of (meaning_of g)

abbrev pub WantsAlone : Type 0
WantsAlone = (g : Given) (found : List Found) (o : Outcomes) → wants_of (in_run g found o) ≡ wants_of g

-- with any files in place of none
pub wants_fail : TextAlone → (h : Given) (e : LowerFault) → ((o : Outcomes) → HasFault (meaning_of (in_run h [] o)) e) → WantsAll h (Err e)
wants_fail alone h e fails found o =
    fault_moves (meaning_of (in_run h found o)) (meaning_of (in_run h [] h.outcomes)) e (alone (in_run h [] h.outcomes) found o) (fails h.outcomes)

pub wants_given : WantsAlone → (g h : Given) (plan : Plan) (ws : Vec Want) → ((found : List Found) (o : Outcomes) → in_run g found o ≡ in_run h found o) → ws ≡ plan.wants → LowersTo g (Ok plan)
    → WantsAll h (Ok ws)
wants_given alone g h plan ws same is it found o =
    ap wants_of (sym (same found o)) ∙ alone g found o ∙ it.wants ∙ ap (λ (v : Vec Want). Ok (map want_of v.items)) (sym is)
