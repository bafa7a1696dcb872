-- Patterns by their texts.
use Rattle.std.specs.Prelude.{◌≡◌, ℕ, Bool, List, String, string_bytes, bytes_eq}
use Rattle.std.specs.List.{list_any}
use Rattle.std.specs.Global.{Global}
use Rattle.nf_builtins.specs.Natives.{is_among}
use Rattle.nf_meaning.specs.Given.{Given}
use Rattle.nf_known.specs.declared.patterns.PatternTexts.{PatternTexts}

-- whether a text is among the keys of a set
abbrev pub has_text : List ℕ → List (String Global) → Bool
has_text n ks = list_any (λ k. bytes_eq n (string_bytes k)) ks

-- the keys are these texts, in no order that matters
abbrev pub HasTexts : List (String Global) → List (List ℕ) → Type 0
HasTexts ks ts = (n : List ℕ) → has_text n ks ≡ is_among n ts

pub record HasPatterns (x : PatternTexts) (g : Given) : Type 0 where
  pub built : HasTexts x.built.keys g.patterns
  pub large : HasTexts x.large.keys g.large
