-- The path of a process that is called.
use Rattle.std.proofs.Common.{◌≡◌, ℕ, List, [], Ok, Err, refl, sym, ap, ◌∙◌}
use Rattle.nf_ast.specs.Tree.{Tree}
use Rattle.nf_tasks.specs.Meaning.{Formula}
use Rattle.nf_meaning.specs.Directives.{Directives, Inside, directives_in, formula, no_directives, strategy_of}
use Rattle.nf_meaning.specs.Lowered.{Lowered, ◌>>=◌}
use Rattle.nf_meaning.specs.Processes.{NamedOutput, in_text_order, inputs_in, labels_of, outputs_in, outputs_of, process_with, script_part, twice_named}
use Rattle.nf_meaning.specs.Tasks.{CalledProcess}

-- what holds of all that may come last holds of what comes out
comes_last : {A C : Type 0} (P : C → Type 0) (due : Lowered A) (rest : A → Lowered C) (c : C) → ((x : A) → rest x ≡ Ok c → P c) → (due >>= rest) ≡ Ok c → P c
comes_last P (Ok x) rest c h e = h x e
comes_last {C = C} P (Err f) rest c h e = absurd (let q : ◌≡◌ {A = Lowered C} (Err f) (Ok c) = e in cc)

is_last : (path : List ℕ) (made c : CalledProcess) → made.process.name ≡ path → ◌≡◌ {A = Lowered CalledProcess} (Ok made) (Ok c) → c.process.name ≡ path
is_last path made c named e = let q : made ≡ c = cc in sym (ap (λ (x : CalledProcess). x.process.name) q) ∙ named

module _ (x : Inside) (path : List ℕ) (ins os task : Tree) where
  -- the process of these parts
  abbrev of_parts : Directives → List NamedOutput → Formula → CalledProcess
  of_parts d ys f = record {
    labels = labels_of ys;
    process = record {
      name = path;
      inputs = inputs_in ins;
      cpus = d.cpus;
      tag = d.tag;
      strategy = strategy_of d;
      publishes = d.publishes;
      script_place = (script_part task).place;
      script = f;
      outputs = outputs_of ys;
    };
  }

  abbrev of_script : Directives → List NamedOutput → Lowered CalledProcess
  of_script d ys = formula x (script_part task).place (script_part task).body >>= λ f. Ok (of_parts d ys f)

  abbrev of_outputs : Directives → Lowered CalledProcess
  of_outputs d = in_text_order ins os (twice_named ins) (outputs_in x [] os) >>= λ ys. of_script d ys

  pub is_named : (ds : Tree) (c : CalledProcess) → process_with x path ds ins os task ≡ Ok c → c.process.name ≡ path
  is_named ds c e =
      let P : CalledProcess → Type 0 = λ y. y.process.name ≡ path in
      comes_last P (directives_in x ds no_directives) of_outputs c
      (λ d k.
      comes_last P (in_text_order ins os (twice_named ins) (outputs_in x [] os)) (of_script d) c
      (λ ys l.
      comes_last P (formula x (script_part task).place (script_part task).body) (λ f. Ok (of_parts d ys f)) c
      (λ f m. is_last path (of_parts d ys f) c refl m) l)
      k)
      e
