-- Where the trace of a run stands once the call ended.
use Rattle.std.proofs.Common.{◌≡◌, ◌≤◌, ℕ, List, Bool, true, false, refl, sym, subst, ◌∙◌, inl, inr, arith}
use Rattle.std.specs.Prelude.{◌⊎◌, Result, Err, is_some}
use Rattle.std.specs.declared.option.Option.{Option}
use Rattle.std.specs.declared.option.Option.TheVariants.{None, Some}
use Rattle.nf_host.specs.Faults.{Rose}
use Rattle.nf_host.specs.Files.{Files, KeepsOthers}
use Rattle.nf_host.specs.Told.{Both}
use Rattle.nf_tasks.specs.declared.target_list.Target.{Target}
use Rattle.nf_publish.specs.Copies.{KeepsRest, is_target}
use Rattle.nf_ends.specs.declared.end.End.{End}
use Rattle.nf_ends.specs.declared.end.End.TheVariants as end
use Rattle.nf_ran.specs.DeclaredFinished.{Finished}
use Rattle.nf_ran.specs.Ran.{IsTraced, Upshot}
use Rattle.nf_carried.specs.Objects.{HostNow, Objects}
use Rattle.nf_carried.specs.Copying.{KeepsFiles}
use Rattle.nf_carried.specs.Tracing.{Holds, KeepsBut, NotesText, NotesTrace, without_trace}
use Rattle.nf_carried.specs.Table.{TraceStands, TracesAlone}

abbrev pub IsClash : End → Type 0
IsClash (end.PublishClash c) = Unit {0}
IsClash _ = ⊥

-- ---- counts of failures

pub rose_sooner : (a b d : ℕ) → a ≤ b → Rose b d → Rose a d
rose_sooner a b d le h = omega arith

pub rose_later : (a b d : ℕ) → b ≤ d → Rose a b → Rose a d
rose_later a b d le h = omega arith

-- ---- other files

nothing_other : (path : List ℕ) (x : Option Files) → Both x x (KeepsOthers path)
nothing_other path None = tt
nothing_other path (Some f) = λ q other. refl

same_but : (path : List ℕ) (a b : HostNow) → b ≡ a → KeepsBut path a b
same_but path a b same = subst (λ (z : HostNow). KeepsBut path a z) (sym same) (nothing_other path a.files)

text_alone : (path : List ℕ) (o : Option (List ℕ)) (r : Result Finished End) (a b : HostNow) (left : Result Finished End) → NotesText path o r a b left → KeepsBut path a b
text_alone path None r a b left k = same_but path a b k.1
text_alone path (Some text) r a b left k = k.1

pub traces_alone : (path : Option (List ℕ)) (u : Upshot) (a b : HostNow) (left : Result Finished End) → NotesTrace path u a b left → TracesAlone path a b
traces_alone None u a b left k = k.1
traces_alone (Some path) u a b left k = text_alone path u.trace u.outcome a b left k

-- ---- the trace's own file

-- it stands until the files were copied, unless one of them has its name
stays : (ts : List Target) (path text : List ℕ) (t : Bool) → is_target ts path ≡ t → (x y : Option Files) → Both x y (KeepsRest ts) → Holds path text (record { files = x; faults = 0 })
    → Holds path text (record { files = y; faults = 0 }) ⊎ (is_target ts path ≡ true)
stays ts path text true is x y k h = inr is
stays ts path text false is None None k h = inl tt
stays ts path text false is (Some f) (Some g) k h = inl (k path is ∙ h)
stays ts path text false is None (Some g) k h = absurd k
stays ts path text false is (Some f) None k h = absurd k

without_memory : (r : Result Finished End) → r ≡ Err end.Mem → without_trace r ≡ Err end.Mem
without_memory r is = subst (λ (v : Result Finished End). without_trace v ≡ Err end.Mem) (sym is) refl

module _ (path text : List ℕ) (ts : List Target) (before after : Objects) (e : End) (noted : HostNow) (left : Result Finished End) (later : noted.faults ≤ after.hands.host.faults)
    (keeps : KeepsFiles ts noted after.hands.host) (memory : left ≡ Err end.Mem → e ≡ end.Mem) where
  written : (r : Result Finished End) → NotesText path (Some text) r before.hands.host noted left → TraceStands (Some path) text ts before after e
  written r k = elim k.0 [
    | inl there ↦ elim (stays ts path text (is_target ts path) refl noted.files after.hands.host.files keeps there.0) [ inl stands ↦ inl stands | inr target ↦ inr (inr (inr target)) ]
    | inr other ↦ elim other [
      | inl failed ↦ inr (inl (rose_later before.hands.host.faults noted.faults after.hands.host.faults later failed.0))
      | inr out ↦ inr (inr (inl (memory out)))
    ]
  ]

  -- the run had no memory for its trace
  no_memory : (o : Option (List ℕ)) (r : Result Finished End) → r ≡ Err end.Mem → NotesText path o r before.hands.host noted left → TraceStands (Some path) text ts before after e
  no_memory None r is k = inr (inr (inl (memory (k.0 ∙ is))))
  no_memory (Some other) r is k = elim k.0 [
    | inl there ↦ inr (inr (inl (memory (there.1 ∙ is))))
    | inr rest ↦ elim rest [
      | inl failed ↦ inr (inr (inl (memory (failed.1 ∙ without_memory r is))))
      | inr out ↦ inr (inr (inl (memory out)))
    ]
  ]

  by_traced : (u : Upshot) → IsTraced true text u → NotesText path u.trace u.outcome before.hands.host noted left → TraceStands (Some path) text ts before after e
  by_traced u traced k = elim traced [
    | inl there ↦ written u.outcome (subst (λ (o : Option (List ℕ)). NotesText path o u.outcome before.hands.host noted left) there k)
    | inr out ↦ no_memory u.trace u.outcome out k
  ]

pub trace_stands : (path : Option (List ℕ)) (text : List ℕ) (ts : List Target) (before after : Objects) (e : End) (u : Upshot) (noted : HostNow) (left : Result Finished End) → noted.faults ≤ after.hands.host.faults
    → KeepsFiles ts noted after.hands.host → IsTraced (is_some path) text u → NotesTrace path u before.hands.host noted left → (left ≡ Err end.Mem → e ≡ end.Mem) → TraceStands path text ts before after e
trace_stands None text ts before after e u noted left later keeps traced k memory = tt
trace_stands (Some path) text ts before after e u noted left later keeps traced k memory = by_traced path text ts before after e noted left later keeps memory u traced k
