-- From the paths of a map of files to the listing of a folder.
use Rattle.std.proofs.Common.{◌≡◌, ℕ, List, [], ◌∷◌, ◌++◌, Bool, true, false, ◌&&◌, ◌||◌, Option, None, Some, option_map, is_some, IsSome, Less, Equal, String, Vec, Global, string_bytes, string_cmp, nat_cmp, bytes_eq, cond, map, refl, sym, ap, ◌∙◌, subst, true≢false}
use Rattle.std.specs.Prelude.{if◌then◌else◌}
use Rattle.std.specs.BTreeMap.{is_at, keys}
use Rattle.std.specs.Cmp.Lexicographic.{slice_cmp}
use Rattle.std.specs.List.{list_any, filter_map, cons_option, AllByRecursion}
use Rattle.std.specs.List.Sorted.{IsStrictlySortedBy}
use Rattle.std.specs.Map.{keys_of, lookup}
use Rattle.std.specs.Cmp.{nat_cmp_is}
use Rattle.std.proofs.lemmas.Map.Text.{is_eq-slice_cmp}
use Rattle.nf_host.specs.Folders.{path_in, name_in, is_in, is_name, if_name, own_name, IsRising, IsListed}
use Rattle.nf_host.specs.MemFiles.{FileMap, files_in}
use Rattle.nf_host.proofs.Paths.{name_of_path, path_of_name, same_name, text_itself, text_same}

abbrev Entry : Type 0
Entry = String Global × Vec ℕ Global

-- the paths of a map are those at which it has files
any_key : (es : List Entry) (q : List ℕ) → list_any (bytes_eq q) (map string_bytes (keys_of es)) ≡ is_some (option_map (λ v. v.items) (lookup (is_at (λ k. slice_cmp nat_cmp q (string_bytes k))) es))
any_key [] q = refl
any_key (e ∷ es) q =
    rw (is_eq-slice_cmp q (string_bytes e.0)) (
    elim (bytes_eq q (string_bytes e.0)) as (λ b. (b || list_any (bytes_eq q) (map string_bytes (keys_of es))) ≡ is_some (option_map (λ v. v.items) (cond b (Some e.1) (lookup (is_at (λ k. slice_cmp nat_cmp q (string_bytes k))) es)))) [
      | true ↦ refl
      | false ↦ any_key es q
    ]
    )

pub any_path : (m : FileMap) (q : List ℕ) → list_any (bytes_eq q) (map string_bytes (keys m)) ≡ is_some (files_in m q)
any_path m q = any_key m.entries q

-- a path outside of the folder is none of its names'
pub apart : (dir n p : List ℕ) → name_in dir p ≡ None → bytes_eq (path_in dir n) p ≡ false
apart dir n p e =
    elim (bytes_eq (path_in dir n) p) as (λ b. bytes_eq (path_in dir n) p ≡ b → b ≡ false) [
      | true ↦ λ t.
          let both : Some n ≡ None = sym (name_of_path dir n) ∙ ap (name_in dir) (text_same (path_in dir n) p t) ∙ e in absurd (cc)
      | false ↦ λ f. refl
    ] refl

and_false : (b : Bool) → (b && false) ≡ false
and_false true = refl
and_false false = refl

same_named : (n m : List ℕ) (r w : Bool) (xs : List (List ℕ)) → is_name n ≡ w → bytes_eq n m ≡ true → list_any (bytes_eq n) xs ≡ (is_name n && r) → list_any (bytes_eq n) (cons_option (if w then Some m else None) xs) ≡ (is_name n && (true || r))
same_named n m r true xs is t h = ap (λ b. b || list_any (bytes_eq n) xs) t ∙ sym (ap (λ b. b && (true || r)) is)
same_named n m r false xs is t h = h ∙ ap (λ b. b && r) is ∙ sym (ap (λ b. b && (true || r)) is)

other_named : (n m : List ℕ) (r w : Bool) (xs : List (List ℕ)) → bytes_eq n m ≡ false → list_any (bytes_eq n) xs ≡ (is_name n && r) → list_any (bytes_eq n) (cons_option (if w then Some m else None) xs) ≡ (is_name n && (false || r))
other_named n m r true xs f h = ap (λ b. b || list_any (bytes_eq n) xs) f ∙ h
other_named n m r false xs f h = h

-- one more path, of the name m
named : (n m : List ℕ) (r w : Bool) (xs : List (List ℕ)) → is_name m ≡ w → list_any (bytes_eq n) xs ≡ (is_name n && r) → list_any (bytes_eq n) (cons_option (if w then Some m else None) xs) ≡ (is_name n && (bytes_eq n m || r))
named n m r w xs is h =
    elim (bytes_eq n m) as (λ b. bytes_eq n m ≡ b → list_any (bytes_eq n) (cons_option (if w then Some m else None) xs) ≡ (is_name n && (b || r))) [
      | true ↦ λ t. same_named n m r w xs (ap is_name (text_same n m t) ∙ is) t h
      | false ↦ λ f. other_named n m r w xs f h
    ] refl

one_more : (dir n p : List ℕ) (r : Bool) (xs : List (List ℕ)) (o : Option (List ℕ)) → name_in dir p ≡ o → list_any (bytes_eq n) xs ≡ (is_name n && r) → list_any (bytes_eq n) (cons_option (if_name o) xs) ≡ (is_name n && (bytes_eq (path_in dir n) p || r))
one_more dir n p r xs None e h = rw (apart dir n p e) h
one_more dir n p r xs (Some m) e h =
    let same : bytes_eq (path_in dir n) p ≡ bytes_eq n m = ap (bytes_eq (path_in dir n)) (path_of_name dir p m e) ∙ same_name dir n m in
    rw same (named n m r (is_name m) xs refl h)

any_own : (dir n : List ℕ) (ps : List (List ℕ)) → list_any (bytes_eq n) (filter_map (own_name dir) ps) ≡ (is_name n && list_any (bytes_eq (path_in dir n)) ps)
any_own dir n [] = sym (and_false (is_name n))
any_own dir n (p ∷ ps) =
    one_more dir n p (list_any (bytes_eq (path_in dir n)) ps) (filter_map (own_name dir) ps) (name_in dir p) refl (any_own dir n ps)

level : (c : ℕ) → nat_cmp c c ≡ Equal
level c = sym (nat_cmp_is c c Equal refl)

front_cmp : (d x y : List ℕ) → slice_cmp nat_cmp (d ++ x) (d ++ y) ≡ slice_cmp nat_cmp x y
front_cmp [] x y = refl
front_cmp (c ∷ d) x y = rw (level c) (front_cmp d x y)

name_cmp : (dir m n : List ℕ) → slice_cmp nat_cmp (path_in dir m) (path_in dir n) ≡ slice_cmp nat_cmp m n
name_cmp [] m n = refl
name_cmp (d ∷ dir) m n = front_cmp (d ∷ dir) (47 ∷ m) (47 ∷ n)

-- all of these come after the name m
After : List ℕ → List (List ℕ) → Type 0
After m ns = AllByRecursion (λ n. slice_cmp nat_cmp m n ≡ Less) ns

after_more : (dir m p q : List ℕ) (xs : List (List ℕ)) (o : Option (List ℕ)) (w : Bool) → name_in dir p ≡ Some m → name_in dir q ≡ o → slice_cmp nat_cmp p q ≡ Less → After m xs → After m (cons_option (if_name o) xs)
unfolding After
after_more dir m p q xs None w e f l h = h
after_more dir m p q xs (Some n) w e f l h =
    let less : slice_cmp nat_cmp m n ≡ Less = sym (name_cmp dir m n) ∙ ap (λ v. slice_cmp nat_cmp v (path_in dir n)) (sym (path_of_name dir p m e)) ∙ ap (slice_cmp nat_cmp p) (sym (path_of_name dir q n f)) ∙ l in
    elim (is_name n) as (λ v. After m (cons_option (if v then Some n else None) xs)) [
      | true ↦ (less, h)
      | false ↦ h
    ]

after_all : (dir m p : List ℕ) (ps : List (List ℕ)) → name_in dir p ≡ Some m → AllByRecursion (λ q. slice_cmp nat_cmp p q ≡ Less) ps → After m (filter_map (own_name dir) ps)
unfolding After
after_all dir m p [] e h = tt
after_all dir m p (q ∷ ps) e h =
    after_more dir m p q (filter_map (own_name dir) ps) (name_in dir q) true e refl h.0 (after_all dir m p ps e h.1)

rising_more : (dir p : List ℕ) (ps : List (List ℕ)) (o : Option (List ℕ)) → name_in dir p ≡ o → AllByRecursion (λ q. slice_cmp nat_cmp p q ≡ Less) ps → IsRising (filter_map (own_name dir) ps) → IsRising (cons_option (if_name o) (filter_map (own_name dir) ps))
unfolding IsStrictlySortedBy After
rising_more dir p ps None e h r = r
rising_more dir p ps (Some m) e h r =
    let all : After m (filter_map (own_name dir) ps) = after_all dir m p ps e h in
    elim (is_name m) as (λ v. IsRising (cons_option (if v then Some m else None) (filter_map (own_name dir) ps))) [
      | true ↦ (all, r)
      | false ↦ r
    ]

rising_own : (dir : List ℕ) (ps : List (List ℕ)) → IsRising ps → IsRising (filter_map (own_name dir) ps)
unfolding IsStrictlySortedBy
rising_own dir [] h = tt
rising_own dir (p ∷ ps) h = rising_more dir p ps (name_in dir p) refl h.0 (rising_own dir ps h.1)

all_texts : (k : String Global) (ks : List (String Global)) → AllByRecursion (λ y. string_cmp k y ≡ Less) ks → AllByRecursion (λ y. slice_cmp nat_cmp (string_bytes k) y ≡ Less) (map string_bytes ks)
all_texts k [] h = tt
all_texts k (y ∷ ks) h = (h.0, all_texts k ks h.1)

rising_texts : (ks : List (String Global)) → IsStrictlySortedBy string_cmp ks → IsRising (map string_bytes ks)
unfolding IsStrictlySortedBy
rising_texts [] h = tt
rising_texts (k ∷ ks) h = (all_texts k ks h.0, rising_texts ks h.1)

or_true : (b : Bool) → (b || true) ≡ true
or_true true = refl
or_true false = refl

-- some path of these is that of a name in the folder
Some_in : List ℕ → List (List ℕ) → Type 0
Some_in dir ps = (name : List ℕ) × (list_any (bytes_eq (path_in dir name)) ps ≡ true)

some_here : (dir p : List ℕ) (ps : List (List ℕ)) (o : Option (List ℕ)) → name_in dir p ≡ o → (list_any (is_in dir) ps ≡ true → Some_in dir ps) → (is_some o || list_any (is_in dir) ps) ≡ true → Some_in dir (p ∷ ps)
unfolding Some_in
some_here dir p ps (Some n) e later t =
    (n, ap (λ v. bytes_eq (path_in dir n) v || list_any (bytes_eq (path_in dir n)) ps) (path_of_name dir p n e) ∙ ap (λ b. b || list_any (bytes_eq (path_in dir n)) ps) (text_itself (path_in dir n)))
some_here dir p ps None e later t =
    let w = later t in (w.0, ap (λ b. bytes_eq (path_in dir w.0) p || b) w.1 ∙ or_true (bytes_eq (path_in dir w.0) p))

some_in : (dir : List ℕ) (ps : List (List ℕ)) → list_any (is_in dir) ps ≡ true → Some_in dir ps
some_in dir [] h = absurd (cc)
some_in dir (p ∷ ps) h = some_here dir p ps (name_in dir p) refl (some_in dir ps) h

none_here : (dir name p : List ℕ) (ps : List (List ℕ)) (o : Option (List ℕ)) → name_in dir p ≡ o → (list_any (is_in dir) ps ≡ false → list_any (bytes_eq (path_in dir name)) ps ≡ false) → (is_some o || list_any (is_in dir) ps) ≡ false → (bytes_eq (path_in dir name) p || list_any (bytes_eq (path_in dir name)) ps) ≡ false
none_here dir name p ps (Some n) e later f = absurd (true≢false f)
none_here dir name p ps None e later f = rw (apart dir name p e) (later f)

none_in : (dir name : List ℕ) (ps : List (List ℕ)) → list_any (is_in dir) ps ≡ false → list_any (bytes_eq (path_in dir name)) ps ≡ false
none_in dir name [] h = refl
none_in dir name (p ∷ ps) h = none_here dir name p ps (name_in dir p) refl (none_in dir name ps) h

IsSome_of : {A : Type 0} (o : Option A) → is_some o ≡ true → IsSome o
IsSome_of None e = absurd (true≢false (sym e))
IsSome_of (Some x) e = refl

none_of : {A : Type 0} (o : Option A) → is_some o ≡ false → o ≡ None
none_of None e = refl
none_of (Some x) e = absurd (true≢false e)

pub listed_some : (m : FileMap) (dir : List ℕ) (names : List (List ℕ)) → IsStrictlySortedBy string_cmp (keys m) → names ≡ filter_map (own_name dir) (map string_bytes (keys m)) → list_any (is_in dir) (map string_bytes (keys m)) ≡ true → IsListed (files_in m) dir (Some names)
unfolding Some_in
listed_some m dir names sorted is there =
    let w = some_in dir (map string_bytes (keys m)) there in (
      (w.0, IsSome_of (files_in m (path_in dir w.0)) (sym (any_path m (path_in dir w.0)) ∙ w.1)),
      record {
        rising = subst IsRising (sym is) (rising_own dir (map string_bytes (keys m)) (rising_texts (keys m) sorted));
        exact = λ name. ap (list_any (bytes_eq name)) is ∙ any_own dir name (map string_bytes (keys m)) ∙ ap (λ b. is_name name && b) (any_path m (path_in dir name));
      },
    )

pub listed_none : (m : FileMap) (dir : List ℕ) → list_any (is_in dir) (map string_bytes (keys m)) ≡ false → IsListed (files_in m) dir None
listed_none m dir h name =
    none_of (files_in m (path_in dir name)) (sym (any_path m (path_in dir name)) ∙ none_in dir name (map string_bytes (keys m)) h)
