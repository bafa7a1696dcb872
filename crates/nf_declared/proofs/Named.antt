-- Names at the top, each once.
use Rattle.std.proofs.Common.{◌≡◌, ◌∙◌, ℕ, true, false, ◌||◌, List, ◌∷◌, Option, Some, None, Result, Ok, Err, refl, sym, ap, subst}
use Rattle.std.specs.Prelude.{bytes_eq, if◌then◌else◌}
use Rattle.std.specs.HashSet.{contains_text}
use Rattle.nf_value.specs.declared.place.Place.{Place}
use Rattle.nf_ast.specs.Tops.{maybe}
use Rattle.nf_ast.specs.Tree as tree
use Rattle.nf_ast.specs.Tree.{Tree}
use Rattle.nf_ast.specs.View.{name_tree}
use Rattle.nf_builtins.specs.Natives.{is_among}
use Rattle.nf_meaning.specs.declared.fault.LowerFault.{LowerFault}
use Rattle.nf_meaning.specs.declared.fault.LowerFault.TheVariants.{Mem, TwiceDefined}
use Rattle.nf_meaning.specs.Given.{Given}
use Rattle.nf_meaning.specs.Lowered.{Lowered}
use Rattle.nf_meaning.specs.Script as script
use Rattle.nf_meaning.specs.Script.{Read, begun, top_read}
use Rattle.nf_declared.specs.declared.names.TopNames.{TopNames}
use Rattle.nf_declared.specs.Names.{HasAlso, NamesGoOn, NamesRead}

-- the program's functions alone
pub begun_read : (x : TopNames) (titles : List (List ℕ)) → ((n : List ℕ) → contains_text x.names n ≡ is_among n titles) → x.has_entry ≡ false → ((n : List ℕ) → contains_text x.set n ≡ false)
    → (g : Given) → g.program.titles ≡ titles → NamesRead x (begun g)
begun_read x titles names entry set g same = record {
  names = λ n. names n ∙ ap (is_among n) (sym same);
  entry = entry;
  set = set;
}

-- want of memory
pub no_memory : (w : Read → Lowered Read) (old new : TopNames) → NamesGoOn w old new (Err Mem)
no_memory w old new q h = tt

module _ (p : Place) (n : List ℕ) (old new : TopNames) where
  pub name_twice : contains_text old.names n ≡ true → NamesGoOn (script.new_name (tree.name p n)) old old (Err (TwiceDefined p))
  name_twice is q h = ap (λ b. if b then Err (TwiceDefined p) else Ok (record q { names = n ∷ q.names })) (sym (h.names n) ∙ is)

  pub name_new : contains_text old.names n ≡ false → HasAlso n old.names new.names → new ≡ record old { names = new.names } → NamesGoOn (script.new_name (tree.name p n)) old new (Ok tt)
  name_new is_not also same q h = record {
    value = record q { names = n ∷ q.names };
    is = ap (λ b. if b then Err (TwiceDefined p) else Ok (record q { names = n ∷ q.names })) (sym (h.names n) ∙ is_not);
    fits = record {
      read = record {
        names = λ m. also m ∙ ap (λ b. bytes_eq n m || b) (h.names m);
        entry = ap (λ (z : TopNames). z.has_entry) same ∙ h.entry;
        set = λ m. ap (λ (z : TopNames). contains_text z.set m) same ∙ h.set m;
      };
      params = refl;
    };
  }

module _ (p : Place) (old : TopNames) where
  pub entry_twice : old.has_entry ≡ true → NamesGoOn (script.new_entry p) old old (Err (TwiceDefined p))
  entry_twice is q h = ap (λ b. if b then Err (TwiceDefined p) else Ok (record q { has_entry = true })) (sym h.entry ∙ is)

  pub entry_new : (new : TopNames) → old.has_entry ≡ false → new ≡ record old { has_entry = true } → NamesGoOn (script.new_entry p) old new (Ok tt)
  entry_new new is_not same q h = record {
    value = record q { has_entry = true };
    is = ap (λ b. if b then Err (TwiceDefined p) else Ok (record q { has_entry = true })) (sym h.entry ∙ is_not);
    fits = record {
      read = record {
        names = λ m. ap (λ (z : TopNames). contains_text z.names m) same ∙ h.names m;
        entry = ap (λ (z : TopNames). z.has_entry) same;
        set = λ m. ap (λ (z : TopNames). contains_text z.set m) same ∙ h.set m;
      };
      params = refl;
    };
  }

-- a workflow with a name, and one without
module _ (p : Place) (body : Tree) (old new : TopNames) (r : Result (Unit {0}) LowerFault) where
  pub named_goes : (o : Option (Place × List ℕ)) (n : Place × List ℕ) → o ≡ Some n → NamesGoOn (script.new_name (tree.name n.0 n.1)) old new r
      → (g : Given) → NamesGoOn (top_read g (tree.workflow p (maybe name_tree o) body)) old new r
  named_goes o n is h g =
      let P : Option (Place × List ℕ) → Type 0 = λ z. NamesGoOn (top_read g (tree.workflow p (maybe name_tree z) body)) old new r in
      subst P (sym is) h

  pub entry_goes : (o : Option (Place × List ℕ)) → o ≡ None → NamesGoOn (script.new_entry p) old new r → (g : Given) → NamesGoOn (top_read g (tree.workflow p (maybe name_tree o) body)) old new r
  entry_goes o is h g =
      let P : Option (Place × List ℕ) → Type 0 = λ z. NamesGoOn (top_read g (tree.workflow p (maybe name_tree z) body)) old new r in
      subst P (sym is) h
