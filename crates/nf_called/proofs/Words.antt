-- The words and numbers of options.
use Rattle.std.proofs.Common.{◌≡◌, ℕ, true, false, List, Ok, Err, refl, ap, sym, ◌∙◌}
use Rattle.std.specs.Prelude.{◌||◌, if◌then◌else◌, Some, bytes_eq, codes}
use Rattle.std.proofs.lemmas.Bool.Decides.{same_from_decides}
use Rattle.std.proofs.lemmas.Slice.Eq.{bytes_eq-Decides}
use Rattle.nf_value.specs.declared.place.Place.{Place}
use Rattle.nf_builtins.specs.Natives.{is_among}
use Rattle.nf_meaning.specs.declared.fault.LowerFault.TheVariants.{BadOption}
use Rattle.nf_meaning.specs.Directives.{strategies, strategy_in}
use Rattle.nf_lowered.specs.Given.{HasValue}
use Rattle.nf_called.specs.declared.directives.Strategy.{Strategy}
use Rattle.nf_called.specs.declared.directives.Strategy.TheVariants as strategy
use Rattle.nf_called.specs.Directives.{word_of}

known : (s : Strategy) → is_among (word_of s) strategies ≡ true
known strategy.Terminate = refl
known strategy.Ignore = refl
known strategy.Retry = refl

-- a word of `errorStrategy`
pub word_known : (p : Place) (s : Strategy) (w : List ℕ) → bytes_eq w (word_of s) ≡ true → HasValue (strategy_in p (Some w)) (λ v. word_of s ≡ v)
word_known p s w h =
    let same : w ≡ word_of s = (bytes_eq-Decides w (word_of s)).0 h in
    record {
      value = w;
      is = ap (λ b. if b then Ok w else Err (BadOption p)) (ap (λ v. is_among v strategies) same ∙ known s);
      fits = sym same;
    }

flip : (xs ys : List ℕ) → bytes_eq xs ys ≡ bytes_eq ys xs
flip xs ys =
    same_from_decides (bytes_eq xs ys) (bytes_eq ys xs) (bytes_eq-Decides xs ys)
    (λ h. sym ((bytes_eq-Decides ys xs).0 h), λ e. (bytes_eq-Decides ys xs).1 (sym e))

-- another word
pub word_unknown : (p : Place) (w : List ℕ) → bytes_eq w (codes "terminate") ≡ false → bytes_eq w (codes "ignore") ≡ false → bytes_eq w (codes "retry") ≡ false
    → strategy_in p (Some w) ≡ Err (BadOption p)
word_unknown p w a b c =
    let first = flip (codes "terminate") w ∙ a in
    let second = flip (codes "ignore") w ∙ b in
    let third = flip (codes "retry") w ∙ c in
    λ i. if first i || (second i || (third i || false)) then Ok w else Err (BadOption p)
