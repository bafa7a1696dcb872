-- The names of staged files that were seen.
use Rattle.std.proofs.Common.{◌≡◌, ℕ, ◌+◌, ◌<◌, List, [], ◌∷◌, length, drop, get_or, Bool, true, false, cond, ◌||◌, Bor, Option, None, Some, if◌then◌else◌, refl, ap, sym, ◌∙◌}
use Rattle.std.specs.BTreeSet.{BTreeSet, contains}
use Rattle.std.specs.BTreeMap.{is_at}
use Rattle.std.specs.Str.{bytes_eq}
use Rattle.std.specs.Ordering.{nat_cmp}
use Rattle.std.specs.Cmp.Lexicographic.{slice_cmp}
use Rattle.std.proofs.lemmas.Map.Text.{is_eq-slice_cmp}
use Rattle.std.specs.declared.cmp.Ordering.{Ordering}
use Rattle.nf_value.specs.declared.file.FileRef.{FileRef}
use Rattle.nf_tasks.specs.Clash.{first_clash, is_reserved, stood_before}
use Rattle.nf_tasks.proofs.Walks.{front}

-- the order of names
abbrev pub name_cmp : Bor (List ℕ) → Bor (List ℕ) → Ordering
name_cmp x y = slice_cmp nat_cmp x.now y.now

-- the names of the files before the place i were seen, and no file before it clashes
pub record HasNames (files : List FileRef) (i : ℕ) (seen : BTreeSet (Bor (List ℕ))) : Type 0 where
  pub before : List (List ℕ)
  pub has : (q : Bor (List ℕ)) → contains name_cmp seen q ≡ stood_before q.now before
  pub left : first_clash before (drop i files) ≡ first_clash [] files

or_cond : (b x : Bool) → cond b true x ≡ (b || x)
or_cond true x = refl
or_cond false x = refl

abbrev clash_if : Bool → Bool → List (List ℕ) → FileRef → List FileRef → Option (List ℕ)
clash_if r s before f fs = if r || s then Some f.name else first_clash (f.name ∷ before) fs

no_clash : (r s : Bool) (before : List (List ℕ)) (f : FileRef) (fs : List FileRef) → r ≡ false → s ≡ false → clash_if r s before f fs ≡ first_clash (f.name ∷ before) fs
no_clash true s before f fs h k = cc
no_clash false true before f fs h k = cc
no_clash false false before f fs h k = refl

-- a new name that isn't reserved
pub seen_one : (files : List FileRef) (i : ℕ) (f : FileRef) (key : Bor (List ℕ)) (old new : BTreeSet (Bor (List ℕ))) → i < length files → f ≡ get_or files i f → key.now ≡ f.name → is_reserved f.name ≡ false → contains name_cmp old key ≡ false
    → ((q : Bor (List ℕ)) → contains name_cmp new q ≡ cond (is_at (name_cmp key) q) true (contains name_cmp old q)) → HasNames files i old → HasNames files (i + 1) new
seen_one files i f key old new lt at named free fresh updates h = record {
  before = f.name ∷ h.before;
  has = λ q. updates q ∙ or_cond (is_at (name_cmp key) q) (contains name_cmp old q) ∙ (λ j. (is_eq-slice_cmp key.now q.now ∙ ap (λ n. bytes_eq n q.now) named) j || h.has q j);
  left = sym (no_clash (is_reserved f.name) (stood_before f.name h.before) h.before f (drop (i + 1) files) free (sym (h.has key ∙ ap (λ n. stood_before n h.before) named) ∙ fresh))
      ∙ sym (ap (first_clash h.before) (front files i f lt at)) ∙ h.left;
}
