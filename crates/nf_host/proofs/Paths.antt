-- Paths in folders: a path has one name in a folder, and a name one path.
use Rattle.std.proofs.Common.{◌≡◌, ◌≢◌, ℕ, ◌==◌, List, [], ◌∷◌, ◌++◌, Bool, true, false, Option, None, Some, is_some, MatchOption, option_copied, Bor, length, bytes_eq, refl, sym, ap, ◌∙◌, true≢false}
use Rattle.std.specs.Prelude.{if◌then◌else◌}
use Rattle.std.proofs.lemmas.Slice.Eq.{bytes_eq-Decides}
use Rattle.std.proofs.lemmas.Bool.Decides.{Decides-eqb}
use Rattle.nf_host.specs.Folders.{path_in, after_slash, name_in, is_in}

-- two functions that agree at each point are one
pub by_each : {A B : Type 0} (f g : A → B) → ((x : A) → f x ≡ g x) → f ≡ g
by_each f g h = λ i x. h x i

itself : (c : ℕ) → (c == c) ≡ true
itself c = (Decides-eqb c c).1 refl

pub text_itself : (xs : List ℕ) → bytes_eq xs xs ≡ true
text_itself xs = (bytes_eq-Decides xs xs).1 refl

pub text_same : (xs ys : List ℕ) → bytes_eq xs ys ≡ true → xs ≡ ys
text_same xs ys h = (bytes_eq-Decides xs ys).0 h

after_path : (dir name : List ℕ) → after_slash dir (dir ++ (47 ∷ name)) ≡ Some name
after_path [] name = refl
after_path (d ∷ dir) name = rw (itself d) (after_path dir name)

path_after : (dir path name : List ℕ) → after_slash dir path ≡ Some name → path ≡ dir ++ (47 ∷ name)
path_after [] [] name e = absurd (cc)
path_after [] (c ∷ path) name e =
    elim (c == 47) as (λ b. (c == 47) ≡ b → (if b then Some path else None) ≡ Some name → c ∷ path ≡ 47 ∷ name) [
      | true ↦ λ t h. let same : c ≡ 47 = (Decides-eqb c 47).0 t in let rest : path ≡ name = cc in cc
      | false ↦ λ f h. absurd (cc)
    ] refl e
path_after (d ∷ dir) [] name e = absurd (cc)
path_after (d ∷ dir) (c ∷ path) name e =
    elim (c == d) as (λ b. (c == d) ≡ b → (if b then after_slash dir path else None) ≡ Some name → c ∷ path ≡ d ∷ (dir ++ (47 ∷ name))) [
      | true ↦ λ t h. let same : c ≡ d = (Decides-eqb c d).0 t in let rest : path ≡ dir ++ (47 ∷ name) = path_after dir path name h in cc
      | false ↦ λ f h. absurd (cc)
    ] refl e

pub name_of_path : (dir name : List ℕ) → name_in dir (path_in dir name) ≡ Some name
name_of_path [] name = refl
name_of_path (d ∷ dir) name = after_path (d ∷ dir) name

pub path_of_name : (dir path name : List ℕ) → name_in dir path ≡ Some name → path ≡ path_in dir name
path_of_name [] path name e = cc
path_of_name (d ∷ dir) path name e = path_after (d ∷ dir) path name e

pub in_folder : (dir name : List ℕ) → is_in dir (path_in dir name) ≡ true
in_folder dir name = ap is_some (name_of_path dir name)

pub one_name : (dir m n : List ℕ) → path_in dir m ≡ path_in dir n → m ≡ n
one_name dir m n e =
    let both : Some m ≡ Some n = sym (name_of_path dir m) ∙ ap (name_in dir) e ∙ name_of_path dir n in cc

-- the same by tests
pub same_name : (dir m n : List ℕ) → bytes_eq (path_in dir m) (path_in dir n) ≡ bytes_eq m n
same_name dir m n =
    elim (bytes_eq m n) as (λ b. bytes_eq m n ≡ b → bytes_eq (path_in dir m) (path_in dir n) ≡ b) [
      | true ↦ λ t. (bytes_eq-Decides (path_in dir m) (path_in dir n)).1 (ap (path_in dir) (text_same m n t))
      | false ↦ λ f.
          elim (bytes_eq (path_in dir m) (path_in dir n)) as (λ b. bytes_eq (path_in dir m) (path_in dir n) ≡ b → b ≡ false) [
            | true ↦ λ t. let e : m ≡ n = one_name dir m n (text_same (path_in dir m) (path_in dir n) t) in
                let t2 : bytes_eq m n ≡ true = (bytes_eq-Decides m n).1 e in absurd (true≢false (sym t2 ∙ f))
            | false ↦ λ g. refl
          ] refl
    ] refl

-- ---- what the code finds of a path

same_rest : (xs ys zs : List ℕ) → xs ++ ys ≡ xs ++ zs → ys ≡ zs
same_rest [] ys zs e = e
same_rest (x ∷ xs) ys zs e = let tail : xs ++ ys ≡ xs ++ zs = cc in same_rest xs ys zs tail

-- a path that doesn't begin with the folder
pub no_front : (dir path : List ℕ) → dir ≢ [] → ((rest : List ℕ) → path ≢ dir ++ rest) → None ≡ name_in dir path
no_front [] path some none = absurd (some refl)
no_front (d ∷ dir) path some none = sym (at (after_slash (d ∷ dir) path) refl)
  where
    at : (o : Option (List ℕ)) → after_slash (d ∷ dir) path ≡ o → o ≡ None
    at None e = refl
    at (Some name) e = absurd (none (47 ∷ name) (path_after (d ∷ dir) path name e))

-- one that does, and goes on without a slash
pub no_slash : (dir path rest : List ℕ) → dir ≢ [] → path ≡ dir ++ rest → ((name : List ℕ) → rest ≢ 47 ∷ name) → None ≡ name_in dir path
no_slash [] path rest some front none = absurd (some refl)
no_slash (d ∷ dir) path rest some front none = sym (at (after_slash (d ∷ dir) path) refl)
  where
    at : (o : Option (List ℕ)) → after_slash (d ∷ dir) path ≡ o → o ≡ None
    at None e = refl
    at (Some name) e = absurd (none name (same_rest (d ∷ dir) rest (47 ∷ name) (sym front ∙ path_after (d ∷ dir) path name e)))

-- one that does, and goes on with a slash
pub with_slash : (dir path rest name : List ℕ) → dir ≢ [] → path ≡ dir ++ rest → rest ≡ 47 ∷ name → Some name ≡ name_in dir path
with_slash [] path rest name some front is = absurd (some refl)
with_slash (d ∷ dir) path rest name some front is =
    sym (ap (after_slash (d ∷ dir)) (front ∙ ap (λ v. (d ∷ dir) ++ v) is) ∙ after_path (d ∷ dir) name)

pub nonempty : (xs : List ℕ) (b : Bool) → b ≡ false → b ≡ (length xs == 0) → xs ≢ []
nonempty xs b f e is = true≢false (sym (e ∙ ap (λ v. length v == 0) is) ∙ f)

pub slashed : (dir path rest : List ℕ) (r : Option (Bor (List ℕ))) → dir ≢ [] → path ≡ dir ++ rest → MatchOption r ((name : List ℕ) → rest ≢ 47 ∷ name) (λ x. rest ≡ 47 ∷ x.now) → option_copied r ≡ name_in dir path
slashed dir path rest None some front h = no_slash dir path rest some front h
slashed dir path rest (Some x) some front h = with_slash dir path rest x.now some front h
