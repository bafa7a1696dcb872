-- Names of a vector of which some were taken out.
use Rattle.std.proofs.Common.{◌≡◌, ◌∙◌, ℕ, ◌+◌, ◌<◌, Bool, true, false, cond, ◌||◌, ◌&&◌, List, [], ◌∷◌, ◌++◌, length, get_or, take, drop, string_bytes, bytes_eq, refl, sym, ap, append_assoc}
use Rattle.std.specs.Prelude.{String, if◌then◌else◌}
use Rattle.std.specs.Global.{Global}
use Rattle.std.specs.HashSet.{HashSet, UpdatesBy, contains_text}
use Rattle.std.specs.String.{string_eq}
use Rattle.std.proofs.Math.Bool.{or-true}
use Rattle.std.proofs.lemmas.Cmp.{nat_list_eq_equiv}
use Rattle.std.proofs.lemmas.List.{take_more, at_drop_more}
use Rattle.std.proofs.lemmas.List.Folds.{list_any-append}
use Rattle.std.proofs.lemmas.Map.Text.{hash_set_updates_text}
use Rattle.std.proofs.lemmas.Map.Views.{any-filter_same}
use Rattle.std.proofs.lemmas.Slice.Eq.{bytes_eq-Decides}
use Rattle.nf_kinds.specs.Scope.{is_named, without}
use Rattle.nf_kinds.specs.HalfBound.{names_left, HasOnly}

abbrev pub NameSet : Type 0 → Type 0
NameSet S = HashSet (String Global) S

-- the one set has what the other has, but this name
abbrev pub Lacks : {S : Type 0} → NameSet S → List ℕ → NameSet S → Type 0
Lacks old n new = (m : List ℕ) → contains_text new m ≡ (if bytes_eq n m then false else contains_text old m)

-- a set has just these names
abbrev pub HasAll : {S : Type 0} → NameSet S → List (List ℕ) → Type 0
HasAll s ns = (n : List ℕ) → contains_text s n ≡ is_named n ns

-- ---- one name on a list

without_by : (m n : List ℕ) (ms ks : List (List ℕ)) → without n ms ≡ ks → (t q : Bool) → bytes_eq m n ≡ t → without n (if q then m ∷ ms else ms) ≡ (if (if t then false else q) then m ∷ ks else ks)
without_by m n ms ks rest true true e = ap (λ t. if t then without n ms else m ∷ without n ms) e ∙ rest
without_by m n ms ks rest true false e = rest
without_by m n ms ks rest false true e = ap (λ t. if t then without n ms else m ∷ without n ms) e ∙ ap (λ xs. m ∷ xs) rest
without_by m n ms ks rest false false e = rest

more_by : (t b : Bool) → cond t true b ≡ (b || (t || false))
more_by true b = sym (or-true b)
more_by false true = refl
more_by false false = refl

module _ {S : Type 0} where
  -- ---- whether a name is left

  left_by : (s : NameSet S) (ns : List (List ℕ)) (n : List ℕ) (t : Bool) → contains_text s n ≡ t → HasOnly s ns → (t && is_named n ns) ≡ t
  left_by s ns n true e only = only n e
  left_by s ns n false e only = refl

  pub left_named : (s : NameSet S) (ns : List (List ℕ)) (n : List ℕ) → HasOnly s ns → is_named n (names_left s ns) ≡ contains_text s n
  left_named s ns n only =
      any-filter_same (λ m. bytes_eq m n) (contains_text s) (contains_text s n) (λ m h. ap (contains_text s) ((bytes_eq-Decides m n).0 h)) ns
      ∙ left_by s ns n (contains_text s n) refl only

  -- ---- the list of what is left, name by name

  left_more : (s : NameSet S) (ns : List (List ℕ)) (i : ℕ) (m : List ℕ) (t : Bool) → i < length ns → m ≡ get_or ns i m → contains_text s m ≡ t
      → names_left s (drop i ns) ≡ (if t then m ∷ names_left s (drop (i + 1) ns) else names_left s (drop (i + 1) ns))
  left_more s ns i m t lt is e =
      let more = names_left s (drop (i + 1) ns) in
      at_drop_more (names_left s) ns i m lt ∙ ap (λ x. names_left s (x ∷ drop (i + 1) ns)) (sym is) ∙ ap (λ b. if b then m ∷ more else more) e

  pub one_left : (s : NameSet S) (ns out new all : List (List ℕ)) (i : ℕ) (m : List ℕ) → i < length ns → m ≡ get_or ns i m → contains_text s m ≡ true → new ≡ out ++ m ∷ [] → out ++ names_left s (drop i ns) ≡ all
      → new ++ names_left s (drop (i + 1) ns) ≡ all
  one_left s ns out new all i m lt is e added inv =
      let more = names_left s (drop (i + 1) ns) in
      ap (λ xs. xs ++ more) added ∙ append_assoc out (m ∷ []) more ∙ ap (λ xs. out ++ xs) (sym (left_more s ns i m true lt is e)) ∙ inv

  pub one_gone : (s : NameSet S) (ns out new all : List (List ℕ)) (i : ℕ) (m : List ℕ) → i < length ns → m ≡ get_or ns i m → contains_text s m ≡ false → new ≡ out → out ++ names_left s (drop i ns) ≡ all
      → new ++ names_left s (drop (i + 1) ns) ≡ all
  one_gone s ns out new all i m lt is e same inv = (λ j. same j ++ sym (left_more s ns i m false lt is e) j) ∙ inv

  -- ---- a name is taken out

  pub lacks_removed : (old new : NameSet S) (n : List ℕ) → UpdatesBy string_eq (λ k. bytes_eq n (string_bytes k)) old new false → Lacks old n new
  lacks_removed old new n h = hash_set_updates_text n old new false h

  lacks_less : (old new : NameSet S) (n m : List ℕ) (t : Bool) → contains_text new m ≡ (if t then false else contains_text old m) → contains_text new m ≡ true → contains_text old m ≡ true
  lacks_less old new n m true e h = cc
  lacks_less old new n m false e h = sym e ∙ h

  pub only_left : (old new : NameSet S) (ns : List (List ℕ)) (n : List ℕ) → Lacks old n new → HasOnly old ns → HasOnly new ns
  only_left old new ns n lacks only m h = only m (lacks_less old new n m (bytes_eq n m) (lacks m) h)

  pub without_left : (old new : NameSet S) (n : List ℕ) → Lacks old n new → (ns : List (List ℕ)) → without n (names_left old ns) ≡ names_left new ns
  without_left old new n lacks [] = refl
  without_left old new n lacks (m ∷ ns) =
      without_by m n (names_left old ns) (names_left new ns) (without_left old new n lacks ns) (bytes_eq n m) (contains_text old m) (nat_list_eq_equiv.symm m n)
      ∙ ap (λ t. if t then m ∷ names_left new ns else names_left new ns) (sym (lacks m))

  -- ---- all names are left

  pub all_left : (s : NameSet S) (ns : List (List ℕ)) → ((n : List ℕ) → is_named n ns ≡ true → contains_text s n ≡ true) → names_left s ns ≡ ns
  all_left s [] h = refl
  all_left s (m ∷ ns) h =
      let here : contains_text s m ≡ true = h m (ap (λ t. t || is_named m ns) (nat_list_eq_equiv.refl m)) in
      ap (λ t. if t then m ∷ names_left s ns else names_left s ns) here
      ∙ ap (λ xs. m ∷ xs) (all_left s ns (λ n k. h n (ap (λ t. bytes_eq m n || t) k ∙ or-true (bytes_eq m n))))

  pub has_more : (old new : NameSet S) (k : String Global) (ns : List (List ℕ)) (i : ℕ) (d m : List ℕ) → i < length ns → string_bytes k ≡ m → m ≡ get_or ns i d → UpdatesBy string_eq (string_eq k) old new true
      → HasAll old (take i ns) → HasAll new (take (i + 1) ns)
  has_more old new k ns i d m lt same is updates has n =
      hash_set_updates_text (string_bytes k) old new true updates n
      ∙ (λ j. cond (bytes_eq (same j) n) true (has n j))
      ∙ more_by (bytes_eq m n) (is_named n (take i ns))
      ∙ ap (λ x. is_named n (take i ns) || (bytes_eq x n || false)) is
      ∙ sym (list_any-append (λ x. bytes_eq x n) (take i ns) (get_or ns i d ∷ []))
      ∙ ap (is_named n) (sym (take_more ns i d lt))
