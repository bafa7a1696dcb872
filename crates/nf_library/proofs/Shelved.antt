-- A shelf that grows.
use Rattle.std.proofs.Common.{◌≡◌, ◌∙◌, ◌+◌, ◌<◌, ◌≤◌, ℕ, Bool, true, false, ◌||◌, List, [], ◌∷◌, ◌++◌, take, length, get_or, bytes_eq, refl, sym, ap, subst}
use Rattle.std.proofs.lemmas.Bool.{false≢true}
use Rattle.std.proofs.lemmas.List.{append_assoc, append-nil, take_more, take_all}
use Rattle.std.proofs.lemmas.List.Elements.{All-append, All-cons, All-nil, All-weaker}
use Rattle.std.specs.List.{All}
use Rattle.std.proofs.lemmas.Slice.Eq.{bytes_eq-Decides}
use Rattle.nf_ast.specs.Tree.{Tree}
use Rattle.nf_builtins.specs.Natives.{is_among}
use Rattle.nf_eval.specs.Memory.{definitions_of, patterns_of}
use Rattle.nf_known.specs.Patterns.{HasTexts, has_text}
use Rattle.nf_known.specs.Stuck.{HasOneMore}
use Rattle.nf_names_used.specs.declared.uses.Use.{Use}
use Rattle.nf_names_used.specs.declared.uses.UseKind.{UseKind}
use Rattle.nf_names_used.specs.declared.uses.UseKind.TheVariants as kind
use Rattle.nf_pattern.specs.declared.fault.PatternFault.{PatternFault}
use Rattle.nf_pattern.specs.declared.fault.PatternFault.TheVariants.{NoPattern, TooLarge}
use Rattle.nf_pattern.specs.Whole.{IsFaultOf, IsNoPattern, IsPattern}
use Rattle.nf_pattern.specs.Wrapped.{wrapped}
use Rattle.nf_library.specs.declared.shelf.Shelf.{Shelf}
use Rattle.nf_library.specs.Patterns.{in_row, kind_patterns, used_patterns}
use Rattle.nf_library.specs.Shelves.{Adds, AreSplit, Grows, IsShelf, Settles, large_in}
use Rattle.nf_library.proofs.Sets.{one_last, own_texts}

-- ---- what was settled stays so

grows_not : (x : Shelf) → Grows x x
grows_not x = record { functions = refl; shelf = λ h. h; stays = λ s h. h }

grows_on : (x y z : Shelf) → Grows x y → Grows y z → Grows x z
grows_on x y z g h = record { functions = h.functions ∙ g.functions; shelf = λ i. h.shelf (g.shelf i); stays = λ s i. h.stays s (g.stays s i) }

pub adds_nothing : (x : Shelf) → Adds [] x x
adds_nothing x = record { grows = grows_not x; has = All-nil (Settles x.texts) }

pub adds_then : (ss ts : List (List ℕ)) (x y z : Shelf) → Adds ss x y → Adds ts y z → Adds (ss ++ ts) x z
adds_then ss ts x y z a b = record {
  grows = grows_on x y z a.grows b.grows;
  has = All-append (Settles z.texts) ss ts (All-weaker (Settles y.texts) (Settles z.texts) b.grows.stays ss a.has) b.has;
}

-- ---- uses one after another

pub adds_use : (u : Use) (x y : Shelf) → u.kind ≡ kind.Pattern → Adds (u.text ∷ []) x y → Adds (kind_patterns u.kind u.text) x y
adds_use u x y is a = subst (λ k. Adds (kind_patterns k u.text) x y) (sym is) a

pub adds_other : (u : Use) (x : Shelf) (k : UseKind) → u.kind ≡ k → kind_patterns k u.text ≡ [] → Adds (kind_patterns u.kind u.text) x x
adds_other u x k is none = subst (λ ss. Adds ss x x) (sym (ap (λ j. kind_patterns j u.text) is ∙ none)) (adds_nothing x)

used_append : (us vs : List Use) → used_patterns (us ++ vs) ≡ used_patterns us ++ used_patterns vs
used_append [] vs = refl
used_append (u ∷ us) vs = ap (λ ss. kind_patterns u.kind u.text ++ ss) (used_append us vs) ∙ sym (append_assoc (kind_patterns u.kind u.text) (used_patterns us) (used_patterns vs))

module _ (us : List Use) where
  pub uses_next : (i : ℕ) (u : Use) (x y z : Shelf) → i < length us → u ≡ get_or us i u → Adds (used_patterns (take i us)) x y → Adds (kind_patterns u.kind u.text) y z → Adds (used_patterns (take (i + 1) us)) x z
  uses_next i u x y z lt is a b =
      let own = kind_patterns u.kind u.text in
      let more : used_patterns (take (i + 1) us) ≡ used_patterns (take i us) ++ own =
      ap used_patterns (take_more us i u lt ∙ ap (λ v. take i us ++ v ∷ []) (sym is))
      ∙ used_append (take i us) (u ∷ [])
      ∙ ap (λ ss. used_patterns (take i us) ++ ss) (append-nil own) in
      subst (λ ss. Adds ss x z) (sym more) (adds_then (used_patterns (take i us)) own x y z a b)

  pub uses_all : (i : ℕ) (x y : Shelf) → length us ≤ i → Adds (used_patterns (take i us)) x y → Adds (used_patterns us) x y
  uses_all i x y h a = subst (λ vs. Adds (used_patterns vs) x y) (take_all i us h) a

-- ---- parts in a row

module _ {A : Type 0} (view : A → Tree) (f : Tree → List (List ℕ)) where
  row_append : (xs ys : List A) → in_row view f (xs ++ ys) ≡ in_row view f xs ++ in_row view f ys
  row_append [] ys = refl
  row_append (x ∷ xs) ys = ap (λ ss. f (view x) ++ ss) (row_append xs ys) ∙ sym (append_assoc (f (view x)) (in_row view f xs) (in_row view f ys))

  module _ (xs : List A) where
    -- the part at this place
    pub adds_next : (i : ℕ) (d : A) (x y z : Shelf) → i < length xs → d ≡ get_or xs i d → Adds (in_row view f (take i xs)) x y → Adds (f (view d)) y z → Adds (in_row view f (take (i + 1) xs)) x z
    adds_next i d x y z lt is a b =
        let more : in_row view f (take (i + 1) xs) ≡ in_row view f (take i xs) ++ f (view d) =
        ap (in_row view f) (take_more xs i d lt ∙ ap (λ e. take i xs ++ e ∷ []) (sym is))
        ∙ row_append (take i xs) (d ∷ [])
        ∙ ap (λ ss. in_row view f (take i xs) ++ ss) (append-nil (f (view d))) in
        subst (λ ss. Adds ss x z) (sym more) (adds_then (in_row view f (take i xs)) (f (view d)) x y z a b)

    -- all of them
    pub adds_all : (i : ℕ) (x y : Shelf) → length xs ≤ i → Adds (in_row view f (take i xs)) x y → Adds (in_row view f xs) x y
    adds_all i x y h a = subst (λ ys. Adds (in_row view f ys) x y) (take_all i xs h) a

-- ---- one text

adds_one : (s : List ℕ) (x y : Shelf) → Grows x y → Settles y.texts s → Adds (s ∷ []) x y
adds_one s x y grows has = record { grows = grows; has = All-cons (Settles y.texts) s [] has (All-nil (Settles y.texts)) }

pub known_built : (x : Shelf) (s : List ℕ) → has_text s x.texts.built.keys ≡ true → Adds (s ∷ []) x x
known_built x s h = adds_one s x x (grows_not x) (λ b l. absurd (false≢true (sym b ∙ h)))

pub known_large : (x : Shelf) (s : List ℕ) → has_text s x.texts.large.keys ≡ true → Adds (s ∷ []) x x
known_large x s h = adds_one s x x (grows_not x) (λ b l. absurd (false≢true (sym l ∙ h)))

pub fault_none : (s : List ℕ) (f : PatternFault) → IsFaultOf (wrapped s) f → f ≡ NoPattern → IsNoPattern (wrapped s)
fault_none s f h is = subst (IsFaultOf (wrapped s)) is h

pub fault_large : (s : List ℕ) (f : PatternFault) → IsFaultOf (wrapped s) f → f ≡ TooLarge → IsPattern (wrapped s)
fault_large s f h is = subst (IsFaultOf (wrapped s)) is h

pub known_none : (x : Shelf) (s : List ℕ) → IsNoPattern (wrapped s) → Adds (s ∷ []) x x
known_none x s h = adds_one s x x (grows_not x) (λ b l. h)

right_false : (a b : Bool) → (a || b) ≡ false → b ≡ false
right_false true b h = absurd (false≢true (sym h))
right_false false b h = h

-- the text itself, or one of those before
by_text : (s t : List ℕ) (b : Bool) → (bytes_eq t s || b) ≡ true → (t ≡ s → IsPattern (wrapped s)) → (b ≡ true → IsPattern (wrapped s)) → IsPattern (wrapped s)
by_text s t b h here there = by (bytes_eq t s) refl h
  where
    by : (c : Bool) → bytes_eq t s ≡ c → (c || b) ≡ true → IsPattern (wrapped s)
    by true is k = here ((bytes_eq-Decides t s).0 is)
    by false is k = there k

self_among : (t : List ℕ) (b : Bool) → (bytes_eq t t || b) ≡ true
self_among t b = ap (λ c. c || b) ((bytes_eq-Decides t t).1 refl)

module _ (t : List ℕ) (x y : Shelf) (pattern : IsPattern (wrapped t)) where
  is_pattern : (s : List ℕ) → t ≡ s → IsPattern (wrapped s)
  is_pattern s e = subst (λ u. IsPattern (wrapped u)) e pattern

  -- it is built
  pub adds_built : definitions_of y.library ≡ definitions_of x.library → patterns_of y.library ≡ patterns_of x.library ++ t ∷ [] → HasOneMore t x.texts.built.keys y.texts.built.keys → y.texts.large ≡ x.texts.large
      → Adds (t ∷ []) x y
  adds_built functions patterns more large = adds_one t x y
      (record {
        functions = functions;
        shelf = λ h. record {
          texts = subst (HasTexts y.texts.built.keys) (sym patterns) (one_last t x.texts.built.keys y.texts.built.keys (patterns_of x.library) h.texts more);
          built = λ s is. by_text s t (has_text s x.texts.built.keys) (sym (more s) ∙ is) (is_pattern s) (h.built s);
          large = λ s is. h.large s (ap (λ l. has_text s l.keys) (sym large) ∙ is);
        };
        stays = λ s h b l. h (right_false (bytes_eq t s) (has_text s x.texts.built.keys) (sym (more s) ∙ b)) (ap (λ k. has_text s k.keys) (sym large) ∙ l);
      })
      (λ b l. absurd (false≢true (sym b ∙ more t ∙ self_among t (has_text t x.texts.built.keys))))

  -- it is too large
  pub adds_large : y.library ≡ x.library → HasOneMore t x.texts.large.keys y.texts.large.keys → y.texts.built ≡ x.texts.built → Adds (t ∷ []) x y
  adds_large library more built = adds_one t x y
      (record {
        functions = ap definitions_of library;
        shelf = λ h. record {
          texts = λ n. ap (λ b. has_text n b.keys) built ∙ h.texts n ∙ ap (λ l. is_among n (patterns_of l)) (sym library);
          built = λ s is. h.built s (ap (λ b. has_text s b.keys) (sym built) ∙ is);
          large = λ s is. by_text s t (has_text s x.texts.large.keys) (sym (more s) ∙ is) (is_pattern s) (h.large s);
        };
        stays = λ s h b l. h (ap (λ k. has_text s k.keys) (sym built) ∙ b) (right_false (bytes_eq t s) (has_text s x.texts.large.keys) (sym (more s) ∙ l));
      })
      (λ b l. absurd (false≢true (sym l ∙ more t ∙ self_among t (has_text t x.texts.large.keys))))

-- ---- the whole

pub nothing_stands : (x : Shelf) → x.texts.built.keys ≡ [] → x.texts.large.keys ≡ [] → patterns_of x.library ≡ [] → IsShelf x
nothing_stands x built large patterns = record {
  texts = λ n. ap (has_text n) built ∙ ap (is_among n) (sym patterns);
  built = λ s is. absurd (false≢true (ap (has_text s) (sym built) ∙ is));
  large = λ s is. absurd (false≢true (ap (has_text s) (sym large) ∙ is));
}

pub is_split : (ts : List (List ℕ)) (x : Shelf) → IsShelf x → All (Settles x.texts) ts → AreSplit ts (patterns_of x.library) (large_in x.texts)
is_split ts x h settled = record {
  built_are = λ s is. h.built s (h.texts s ∙ is);
  large_are = λ s is. h.large s (own_texts x.texts.large.keys s ∙ is);
  others = All-weaker (Settles x.texts) (λ s. is_among s (patterns_of x.library) ≡ false → is_among s (large_in x.texts) ≡ false → IsNoPattern (wrapped s))
      (λ s h' b l. h' (h.texts s ∙ b) (own_texts x.texts.large.keys s ∙ l)) ts settled;
}
