-- What the symbols before the next `*` of a plain pattern do with characters.
use Rattle.std.specs.Prelude.{◌≡◌, ℕ, ◌+◌, ◌<◌, Bool, true, false, List, length, Option, MatchOption}
use Rattle.std.specs.List.{list_any}
use Rattle.std.specs.Str.{chars}
use Rattle.nf_pattern.specs.Glob.{takes, takes_dotted, ends}
use Rattle.nf_pattern.specs.Parts.{characters}
use Rattle.nf_pattern.specs.declared.parts.Parts.{Parts}
use Rattle.nf_pattern.specs.declared.plain.Reach.{Reach}
use Rattle.nf_pattern.specs.declared.plain.Reach.TheVariants.{Whole, Nothing, Star}

-- whether a plain pattern takes some end of the characters
abbrev pub takes_some : List ℕ → List ℕ → Bool
takes_some ps cs = list_any (takes ps) (ends cs)

-- ps comes to a `*`: qs is the pattern after it, and ds are the characters that are left of cs. From then on only qs and ds matter:
-- ps takes cs, and ps takes some end of cs, exactly if qs takes some end of ds.
pub record ReachesStar (ps cs qs ds : List ℕ) : Type 0 where
  pub here : takes ps cs ≡ takes_some qs ds
  pub later : takes_some ps cs ≡ takes_some qs ds
  pub falls : length qs + length ds < length ps + length cs

abbrev pub Reaches : List ℕ → List ℕ → Reach → Type 0
Reaches ps cs Whole = takes ps cs ≡ true
Reaches ps cs Nothing = takes ps cs ≡ false
Reaches ps cs (Star place) = ReachesStar ps cs (characters place.pattern) (chars place.name.now)

-- the rest of a plain pattern takes exactly the characters that the pattern takes after a leading dot; without such a rest it takes none
abbrev pub AfterDot : List ℕ → Option Parts → Type 0
AfterDot ps r = MatchOption r ((cs : List ℕ) → takes_dotted ps cs ≡ false) (λ qs. (cs : List ℕ) → takes_dotted ps cs ≡ takes (characters qs) cs)
