-- What is left of a map of files without those of a folder, and what such a folder holds.
use Rattle.std.proofs.Common.{◌≡◌, ℕ, List, [], ◌∷◌, Bool, true, false, not, ◌&&◌, ◌||◌, Option, None, Some, option_map, is_some, String, Vec, Global, string_bytes, nat_cmp, string_cmp, true≢false, cond, bytes_eq, filter, map, refl, sym, ap, ◌∙◌}
use Rattle.std.specs.Prelude.{if◌then◌else◌}
use Rattle.std.specs.BTreeMap.{UpdatesBy, get_by_text, is_at, keys}
use Rattle.std.specs.Cmp.Lexicographic.{slice_cmp}
use Rattle.std.specs.List.{list_any, filter_map, cons_option}
use Rattle.std.specs.Map.{lookup}
use Rattle.std.proofs.lemmas.Map.Text.{btree_map_updates_text, is_eq-slice_cmp}
use Rattle.nf_host.specs.Folders.{path_in, name_in, is_in, cleared, folder_of}
use Rattle.nf_host.specs.MemFiles.{FileMap, files_in, removed, without, named_in, item_in}
use Rattle.nf_host.specs.Files.{Files, moved}
use Rattle.nf_host.proofs.Listings.{any_path, apart}
use Rattle.nf_host.proofs.Paths.{by_each, path_of_name, same_name, text_itself, text_same}

any_filter_more : (p : List ℕ → Bool) (q k : List ℕ) (ks fs : List (List ℕ)) (b : Bool) → p k ≡ b → list_any (bytes_eq q) fs ≡ (p q && list_any (bytes_eq q) ks) → list_any (bytes_eq q) (cond b (k ∷ fs) fs) ≡ (p q && (bytes_eq q k || list_any (bytes_eq q) ks))
any_filter_more p q k ks fs b e h =
    elim (bytes_eq q k) as (λ t. bytes_eq q k ≡ t → list_any (bytes_eq q) (cond b (k ∷ fs) fs) ≡ (p q && (t || list_any (bytes_eq q) ks))) [
      | true ↦ λ t. here b (ap p (text_same q k t) ∙ e) t
      | false ↦ λ t. there b t
    ] refl
  where
    here : (v : Bool) → p q ≡ v → bytes_eq q k ≡ true → list_any (bytes_eq q) (cond v (k ∷ fs) fs) ≡ (p q && (true || list_any (bytes_eq q) ks))
    here true is t = ap (λ w. w || list_any (bytes_eq q) fs) t ∙ sym (ap (λ w. w && (true || list_any (bytes_eq q) ks)) is)
    here false is t = h ∙ ap (λ w. w && list_any (bytes_eq q) ks) is ∙ sym (ap (λ w. w && (true || list_any (bytes_eq q) ks)) is)

    there : (v : Bool) → bytes_eq q k ≡ false → list_any (bytes_eq q) (cond v (k ∷ fs) fs) ≡ (p q && (false || list_any (bytes_eq q) ks))
    there true t = ap (λ w. w || list_any (bytes_eq q) fs) t ∙ h
    there false t = h

and_false : (b : Bool) → (b && false) ≡ false
and_false true = refl
and_false false = refl

any_filter : (p : List ℕ → Bool) (q : List ℕ) (ks : List (List ℕ)) → list_any (bytes_eq q) (filter p ks) ≡ (p q && list_any (bytes_eq q) ks)
any_filter p q [] = sym (and_false (p q))
any_filter p q (k ∷ ks) = any_filter_more p q k ks (filter p ks) (p k) refl (any_filter p q ks)

any_bytes : (q : List ℕ) (paths : List (String Global)) → list_any (λ path. bytes_eq q (string_bytes path)) paths ≡ list_any (bytes_eq q) (map string_bytes paths)
any_bytes q [] = refl
any_bytes q (p ∷ paths) = ap (λ b. bytes_eq q (string_bytes p) || b) (any_bytes q paths)

gone : (b : Bool) (o : Option (List ℕ)) → (if b && is_some o then None else o) ≡ (if b then None else o)
gone true None = refl
gone true (Some x) = refl
gone false o = refl

both_gone : (a b : Bool) (o : Option (List ℕ)) → (if b then None else if a then None else o) ≡ (if a || b then None else o)
both_gone true true o = refl
both_gone true false o = refl
both_gone false b o = refl

without_at : (f : Files) (paths : List (String Global)) (q : List ℕ) → without f paths q ≡ (if list_any (λ path. bytes_eq q (string_bytes path)) paths then None else f q)
without_at f [] q = refl
without_at f (p ∷ paths) q =
    without_at (removed f (string_bytes p)) paths q ∙ both_gone (bytes_eq q (string_bytes p)) (list_any (λ path. bytes_eq q (string_bytes path)) paths) (f q)

-- the files without those whose paths lie in the folder
pub cleared_by : (m n : FileMap) (dir : List ℕ) (paths : List (String Global)) → map string_bytes paths ≡ filter (is_in dir) (map string_bytes (keys m)) → files_in n ≡ without (files_in m) paths → files_in n ≡ cleared (files_in m) dir
cleared_by m n dir paths are is =
    is ∙ by_each (without (files_in m) paths) (cleared (files_in m) dir) (λ q.
    without_at (files_in m) paths q
    ∙ ap (λ b. if b then None else files_in m q) (any_bytes q paths ∙ ap (list_any (bytes_eq q)) are ∙ any_filter (is_in dir) q (map string_bytes (keys m)) ∙ ap (λ b. is_in dir q && b) (any_path m q))
    ∙ gone (is_in dir q) (files_in m q))

-- ---- one change of a map

flip : (m n : List ℕ) (b : Bool) → bytes_eq m n ≡ b → bytes_eq n m ≡ b
flip m n true t = ap (λ v. bytes_eq v m) (sym (text_same m n t)) ∙ text_itself m
flip m n false f =
    elim (bytes_eq n m) as (λ b. bytes_eq n m ≡ b → b ≡ false) [
      | true ↦ λ t. absurd (true≢false (sym (ap (λ v. bytes_eq v n) (sym (text_same n m t)) ∙ text_itself n) ∙ f))
      | false ↦ λ e. refl
    ] refl

after_update : (f : Files) (o : Option (List ℕ)) (bs q : List ℕ) → (if bytes_eq bs q then o else f q) ≡ (if bytes_eq q bs then o else f q)
after_update f o bs q = ap (λ b. if b then o else f q) (sym (flip bs q (bytes_eq bs q) refl))

of_update : (m : FileMap) (w : Option (Vec ℕ Global)) (b : Bool) (q : List ℕ) → option_map (λ v. v.items) (cond b w (get_by_text m q)) ≡ (if b then option_map (λ v. v.items) w else files_in m q)
of_update m w true q = refl
of_update m w false q = refl

updated : (m n : FileMap) (bs : List ℕ) (w : Option (Vec ℕ Global)) → UpdatesBy string_cmp (λ k. slice_cmp nat_cmp bs (string_bytes k)) m n w → (q : List ℕ) → files_in n q ≡ (if bytes_eq q bs then option_map (λ v. v.items) w else files_in m q)
updated m n bs w u q =
    ap (option_map (λ v. v.items)) (btree_map_updates_text bs m n w u q) ∙ of_update m w (bytes_eq bs q) q ∙ after_update (files_in m) (option_map (λ v. v.items) w) bs q

pub by_not : (r b : Bool) → r ≡ not b → r ≡ true → b ≡ false
by_not r true e t = absurd (true≢false (sym t ∙ e))
by_not r false e t = refl

pub by_no_not : (r b : Bool) → r ≡ not b → r ≡ false → b ≡ true
by_no_not r true e f = refl
by_no_not r false e f = absurd (true≢false (sym e ∙ f))

-- a file was moved: its bytes were put at one path, and its other path removed
pub moved_by : (m n k : FileMap) (from to : List ℕ) (v : Vec ℕ Global) → bytes_eq from to ≡ false → files_in m from ≡ Some v.items → UpdatesBy string_cmp (λ s. slice_cmp nat_cmp to (string_bytes s)) m n (Some v) → UpdatesBy string_cmp (λ s. slice_cmp nat_cmp from (string_bytes s)) n k None → files_in k ≡ moved (files_in m) from to
moved_by m n k from to v apart is put_it removed_it =
    by_each (files_in k) (moved (files_in m) from to) (λ q. updated n k from None removed_it q ∙ ap (λ o. if bytes_eq q from then None else o) (updated m n to (Some v) put_it q) ∙ at q (bytes_eq q to) refl)
  where
    at : (q : List ℕ) (b : Bool) → bytes_eq q to ≡ b → (if bytes_eq q from then None else if b then Some v.items else files_in m q) ≡ (if b then files_in m from else if bytes_eq q from then None else files_in m q)
    at q true t = ap (λ b. if b then None else Some v.items) (ap (λ p. bytes_eq p from) (text_same q to t) ∙ flip from to false apart) ∙ sym is
    at q false f = refl

-- the same to its own path: nothing changes
pub moved_to_itself : (m n : FileMap) (from to : List ℕ) (v : Vec ℕ Global) → bytes_eq from to ≡ true → files_in m from ≡ Some v.items → UpdatesBy string_cmp (λ s. slice_cmp nat_cmp to (string_bytes s)) m n (Some v) → files_in n ≡ moved (files_in m) from to
moved_to_itself m n from to v same is put_it =
    by_each (files_in n) (moved (files_in m) from to) (λ q. updated m n to (Some v) put_it q ∙ at q (bytes_eq q to) refl)
  where
    at : (q : List ℕ) (b : Bool) → bytes_eq q to ≡ b → (if b then Some v.items else files_in m q) ≡ (if b then files_in m from else if bytes_eq q from then None else files_in m q)
    at q true t = sym is
    at q false f = sym (ap (λ b. if b then None else files_in m q) (ap (bytes_eq q) (text_same from to same) ∙ f))

item_more : (dir name : List ℕ) (e : String Global × Vec ℕ Global) (items : List (List ℕ × List ℕ)) (r : Option (Vec ℕ Global)) (o : Option (List ℕ)) → name_in dir (string_bytes e.0) ≡ o → named_in items name ≡ option_map (λ v. v.items) r → named_in (cons_option (option_map (λ n. (n, e.1.items)) o) items) name ≡ option_map (λ v. v.items) (cond (bytes_eq (path_in dir name) (string_bytes e.0)) (Some e.1) r)
item_more dir name e items r None is h =
    h ∙ ap (λ b. option_map (λ (v : Vec ℕ Global). v.items) (cond b (Some e.1) r)) (sym (apart dir name (string_bytes e.0) is))
item_more dir name e items r (Some m) is h =
    let same : bytes_eq (path_in dir name) (string_bytes e.0) ≡ bytes_eq name m = ap (bytes_eq (path_in dir name)) (path_of_name dir (string_bytes e.0) m is) ∙ same_name dir name m in
    found (bytes_eq name m) ∙ ap (λ b. option_map (λ (v : Vec ℕ Global). v.items) (cond b (Some e.1) r)) (sym same)
  where
    found : (b : Bool) → (if b then Some e.1.items else named_in items name) ≡ option_map (λ v. v.items) (cond b (Some e.1) r)
    found true = refl
    found false = h

named_all : (dir name : List ℕ) (es : List (String Global × Vec ℕ Global)) → named_in (filter_map (item_in dir) es) name ≡ option_map (λ v. v.items) (lookup (is_at (λ k. slice_cmp nat_cmp (path_in dir name) (string_bytes k))) es)
named_all dir name [] = refl
named_all dir name (e ∷ es) =
    rw (is_eq-slice_cmp (path_in dir name) (string_bytes e.0))
    (item_more dir name e (filter_map (item_in dir) es) (lookup (is_at (λ k. slice_cmp nat_cmp (path_in dir name) (string_bytes k))) es) (name_in dir (string_bytes e.0)) refl (named_all dir name es))

-- the files in a folder, by their names in it
pub folder_is : (m : FileMap) (dir : List ℕ) (items : List (List ℕ × List ℕ)) → items ≡ filter_map (item_in dir) m.entries → named_in items ≡ folder_of (files_in m) dir
folder_is m dir items e = by_each (named_in items) (folder_of (files_in m) dir) (λ name. ap (λ v. named_in v name) e ∙ named_all dir name m.entries)
