-- Which trees can be read back from their canonical text: those whose names, numbers and strings some text can spell.
use Rattle.std.specs.Prelude.{◌≡◌, ℕ, ℤ, pos, negsuc, ◌≤◌, Bool, true, false, not, ◌==◌, ◌&&◌, List, [], ◌∷◌}
use Rattle.std.specs.List.{list_all}
use Rattle.std.specs.Option.{is_none}
use Rattle.std.specs.Str.{IsUtf8}
use Rattle.nf_token.specs.declared.token.PlainKind.{PlainKind}
use Rattle.nf_token.specs.declared.token.PlainKind.TheVariants.{Single, TripleSingle, Slashes}
use Rattle.nf_lexer.specs.Bytes.{begins_name, is_in_name, is_not_line_feed}
use Rattle.nf_token.specs.Spellings.{keywords}
use Rattle.nf_lexer.specs.Word.{keyword_in, limit}
use Rattle.nf_ast.specs.Tree as tree
use Rattle.nf_ast.specs.Tree.{Tree}

-- ---- names and numbers

-- a letter or `_`, and letters, digits and `_` after it
abbrev pub is_word : List ℕ → Bool
is_word [] = false
is_word (b ∷ w) = begins_name b && list_all is_in_name w

pub record IsName (s : List ℕ) : Type 0 where
  pub word : is_word s ≡ true
  pub no_keyword : is_none (keyword_in keywords s) ≡ true

abbrev pub IsNumber : ℤ → Type 0
IsNumber (pos n) = n ≤ limit
IsNumber (negsuc n) = ⊥

-- ---- strings and patterns

-- the last byte between slashes isn't a backslash
abbrev pub ends_well : List ℕ → Bool
ends_well [] = true
ends_well (b ∷ []) = not (b == 92)
ends_well (b ∷ c ∷ w) = ends_well (c ∷ w)

-- a string between slashes isn't empty, and doesn't begin with `*` (42): `//` and `/*` begin comments
abbrev pub begins_slashed : List ℕ → Bool
begins_slashed [] = false
begins_slashed (b ∷ w) = not (b == 42)

-- what stands between slashes, in a pattern too: UTF-8 on one line that doesn't end in a backslash
pub record IsSlashed (s : List ℕ) : Type 0 where
  pub utf8 : IsUtf8 s
  pub on_line : list_all is_not_line_feed s ≡ true
  pub ends : ends_well s ≡ true

pub record IsSlashedString (s : List ℕ) : Type 0 where
  pub slashed : IsSlashed s
  pub begins : begins_slashed s ≡ true

abbrev pub IsPlain : PlainKind → List ℕ → Type 0
IsPlain Slashes s = IsSlashedString s
IsPlain Single s = IsUtf8 s
IsPlain TripleSingle s = IsUtf8 s

-- a text of a template isn't empty
abbrev pub is_some_text : List ℕ → Bool
is_some_text [] = false
is_some_text (b ∷ s) = true

pub record IsPiece (s : List ℕ) : Type 0 where
  pub utf8 : IsUtf8 s
  pub some : is_some_text s ≡ true

-- ---- trees

-- the tree is a name
abbrev pub IsNameTree : Tree → Type 0
IsNameTree (tree.name p s) = IsName s
IsNameTree _ = ⊥

abbrev mutual
  pub Fits : Tree → Type 0
  Fits (tree.cons a more) = Fits a × Fits more
  Fits (tree.name p s) = IsName s
  Fits (tree.number p n) = IsNumber n
  Fits (tree.text p q s) = IsPlain q s
  Fits (tree.pattern p s) = IsSlashed s
  Fits (tree.template p q xs) = FitPieces xs
  Fits (tree.list p xs) = Fits xs
  Fits (tree.map p xs) = Fits xs
  Fits (tree.pair n e) = Fits n × Fits e
  Fits (tree.closure p ps xs) = Fits ps × Fits xs
  Fits (tree.params ns) = Fits ns
  Fits (tree.label n e) = Fits n × Fits e
  Fits (tree.prefix p x e) = Fits e
  Fits (tree.binary p x a b) = Fits a × Fits b
  Fits (tree.conditional p c a b) = Fits c × Fits a × Fits b
  Fits (tree.elvis p a b) = Fits a × Fits b
  Fits (tree.property e n) = Fits e × IsNameTree n
  Fits (tree.safe_property e n) = Fits e × IsNameTree n
  Fits (tree.index p e x) = Fits e × Fits x
  Fits (tree.call p e xs) = Fits e × Fits xs
  Fits (tree.named n e) = Fits n × Fits e
  Fits (tree.call_with e c) = Fits e × Fits c
  Fits (tree.define p n e) = Fits n × Fits e
  Fits (tree.define_all p ns e) = Fits ns × Fits e
  Fits (tree.assign n e) = Fits n × Fits e
  Fits (tree.return_ p e) = Fits e
  Fits (tree.choice p c b e) = Fits c × Fits b × Fits e
  Fits (tree.statements xs) = Fits xs
  Fits (tree.println p e) = Fits e
  Fits (tree.log p n e) = IsNameTree n × Fits e
  Fits (tree.process p n ds xs ys t s) = Fits n × Fits ds × Fits xs × Fits ys × Fits t × Fits s
  Fits (tree.directive n xs) = Fits n × Fits xs
  Fits (tree.section p xs) = Fits xs
  Fits (tree.tuple p xs) = Fits xs
  Fits (tree.val p e) = Fits e
  Fits (tree.path p e) = Fits e
  Fits (tree.output x os) = Fits x × Fits os
  Fits (tree.workflow p n b) = Fits n × Fits b
  Fits (tree.parts t b e) = Fits t × Fits b × Fits e
  Fits (tree.function p n ps b) = Fits n × Fits ps × Fits b
  Fits (tree.parameter p n e) = IsNameTree n × Fits e
  Fits _ = Unit {0}

  -- the texts and holes of a template: no two texts stand in a row
  pub FitPieces : Tree → Type 0
  FitPieces (tree.cons (tree.piece p s) xs) = IsPiece s × FitAfterText xs
  FitPieces (tree.cons (tree.hole p e) xs) = Fits e × FitPieces xs
  FitPieces (tree.cons _ xs) = ⊥
  FitPieces _ = Unit {0}

  pub FitAfterText : Tree → Type 0
  FitAfterText (tree.cons (tree.hole p e) xs) = Fits e × FitPieces xs
  FitAfterText (tree.cons _ xs) = ⊥
  FitAfterText _ = Unit {0}
