-- Going over staged files by their names.
use Rattle.std.proofs.Common.{◌≡◌, ℕ, ◌+◌, ◌<◌, ◌≤◌, List, [], length, get_or, take, drop, Bool, true, false, not, ◌&&◌, ◌||◌, cond, bytes_eq, Bor, if◌then◌else◌, refl, ap, sym, ◌∙◌, add-one}
use Rattle.std.proofs.Math.Seq.{drop-cons}
use Rattle.std.proofs.lemmas.List.{drop_all}
use Rattle.std.proofs.lemmas.List.Folds.{list_any_more}
use Rattle.std.proofs.lemmas.Map.Text.{is_eq-slice_cmp}
use Rattle.std.specs.BTreeMap.{is_at}
use Rattle.std.specs.BTreeSet.{BTreeSet, contains}
use Rattle.std.specs.Str.{chars}
use Rattle.nf_pattern.specs.Glob.{is_match}
use Rattle.nf_pattern.specs.Literal.{is_literal_path}
use Rattle.nf_value.specs.declared.file.FileRef.{FileRef}
use Rattle.nf_shell.specs.Outputs.{begins_with_dot, is_among, is_output}
use Rattle.nf_shell.specs.Staged.{name_cmp}

pub at_name : (files : List FileRef) (i : ℕ) (e : FileRef) (name : List ℕ) → i < length files → e ≡ get_or files i e → bytes_eq e.name name ≡ true → is_among (drop i files) name ≡ true
at_name files i e name h is same = rw (drop-cons files i e, ← is, same)

pub past_name : (files : List FileRef) (i : ℕ) (e : FileRef) (name : List ℕ) → i < length files → e ≡ get_or files i e → bytes_eq e.name name ≡ false → is_among (drop i files) name ≡ is_among (drop (i + 1) files) name
past_name files i e name h is other = rw (drop-cons files i e, ← is, other, add-one)

pub no_name_left : (files : List FileRef) (i : ℕ) (name : List ℕ) → length files ≤ i → is_among (drop i files) name ≡ false
no_name_left files i name h = rw drop_all

-- ---- the set of their names

cond_or : (b x : Bool) → cond b true x ≡ (x || b)
cond_or true true = refl
cond_or true false = refl
cond_or false true = refl
cond_or false false = refl

-- one more file, whose name is put into the set
pub names_more : (files : List FileRef) (i : ℕ) (f : FileRef) (key q : Bor (List ℕ)) (old new : BTreeSet (Bor (List ℕ))) → i < length files → f ≡ get_or files i f → key.now ≡ f.name
    → contains name_cmp new q ≡ cond (is_at (name_cmp key) q) true (contains name_cmp old q) → contains name_cmp old q ≡ is_among (take i files) q.now → contains name_cmp new q ≡ is_among (take (i + 1) files) q.now
names_more files i f key q old new lt at named updates before =
    updates ∙ cond_or (is_at (name_cmp key) q) (contains name_cmp old q) ∙ ap (λ b. b || is_at (name_cmp key) q) before
    ∙ ap (λ b. is_among (take i files) q.now || b) (is_eq-slice_cmp key.now q.now ∙ ap (λ n. bytes_eq n q.now) (named ∙ ap (λ r. r.name) at))
    ∙ sym (list_any_more (λ r. bytes_eq r.name q.now) files i f lt)

-- ---- outputs

-- whether a name is an output, from whether it is one where no file was staged
pub beside_staged : (pattern : List ℕ) (staged : List FileRef) (name : List ℕ) → is_output pattern staged name ≡ (is_output pattern [] name && (is_literal_path (chars pattern) || not (is_among staged name)))
beside_staged pattern staged name = by (begins_with_dot name) (is_literal_path (chars pattern)) (bytes_eq pattern name) (is_match (chars pattern) (chars name)) (is_among staged name)
  where
    by : (d l e m a : Bool) → (not d && (if l then e else m && not a)) ≡ ((not d && (if l then e else m && not false)) && (l || not a))
    by true l e m a = refl
    by false true true m a = refl
    by false true false m a = refl
    by false false e true a = refl
    by false false e false a = refl
