-- Sets of texts; patterns that are built, that are too large, and that are refused.
use Rattle.std.proofs.Common.{◌≡◌, ◌∙◌, ℕ, Bool, true, false, ◌||◌, cond, if◌then◌else◌, List, Some, None, bytes_eq, string_bytes, refl, sym, ap}
use Rattle.std.specs.Prelude.{String}
use Rattle.std.specs.Global.{Global}
use Rattle.std.specs.HashSet.{HashSet, UpdatesBy}
use Rattle.std.specs.String.{string_eq}
use Rattle.std.proofs.lemmas.Map.Text.{hash_set_updates_text}
use Rattle.nf_value.specs.declared.place.Place.{Place}
use Rattle.nf_builtins.specs.Natives.{is_among}
use Rattle.nf_meaning.specs.declared.fault.LowerFault.TheVariants.{PatternRefused, PatternTooLarge}
use Rattle.nf_meaning.specs.Given.{Given}
use Rattle.nf_meaning.specs.Names.{pattern_fault}
use Rattle.nf_known.specs.Patterns.{has_text}
use Rattle.nf_known.specs.Stuck.{HasOneMore}

-- ---- one text more in a set

either : (a b : Bool) → cond a true b ≡ (a || b)
either true b = refl
either false b = refl

pub has_one_more : {S : Type 0} (s n : HashSet (String Global) S) (k : String Global) (name : List ℕ) → string_bytes k ≡ name → UpdatesBy string_eq (string_eq k) s n true → HasOneMore name s.keys n.keys
has_one_more s n k name same h cs =
    hash_set_updates_text (string_bytes k) s n true h cs ∙ either (bytes_eq (string_bytes k) cs) (has_text cs s.keys)
    ∙ ap (λ z. bytes_eq z cs || has_text cs s.keys) same

-- ---- patterns

module _ (g : Given) (p : Place) (s : List ℕ) where
  pub is_built : is_among s g.patterns ≡ true → None ≡ pattern_fault g p s
  is_built e = sym (ap (λ b. if b then None else if is_among s g.large then Some (PatternTooLarge p) else Some (PatternRefused p)) e)

  pub is_large : is_among s g.patterns ≡ false → is_among s g.large ≡ true → Some (PatternTooLarge p) ≡ pattern_fault g p s
  is_large e h =
      sym (ap (λ b. if b then None else if is_among s g.large then Some (PatternTooLarge p) else Some (PatternRefused p)) e
      ∙ ap (λ b. if b then Some (PatternTooLarge p) else Some (PatternRefused p)) h)

  pub is_refused : is_among s g.patterns ≡ false → is_among s g.large ≡ false → Some (PatternRefused p) ≡ pattern_fault g p s
  is_refused e h =
      sym (ap (λ b. if b then None else if is_among s g.large then Some (PatternTooLarge p) else Some (PatternRefused p)) e
      ∙ ap (λ b. if b then Some (PatternTooLarge p) else Some (PatternRefused p)) h)
