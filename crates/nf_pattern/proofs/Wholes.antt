-- What `regex` promises, in terms of what its grammar reads.
use Rattle.std.proofs.Common.{◌≡◌, ◌≢◌, ℕ, ◌<◌, ◌≤◌, Bool, true, List, Option, None, Some, IsSomeAnd, IfSome, option_map, is_some, length, get_or, subst, sym, ◌∙◌, ap, ⊎_elim}
use Rattle.regex_syntax.specs.Brackets.{Nested}
use Rattle.regex_syntax.specs.Captures.{SameCaptures}
use Rattle.regex_syntax.specs.Grammar.{Names, group_count}
use Rattle.regex_syntax.specs.Verdict.{Reads, Refuses}
use Rattle.regex_syntax.specs.declared.error.ErrorKind.{ErrorKind}
use Rattle.regex_syntax.specs.declared.error.ErrorKind.TheVariants.{OutOfMemory}
use Rattle.regex.specs.Patterns.{Re, find_str, default_config}
use Rattle.regex.specs.Failures as failures
use Rattle.regex.specs.Sources.{IsRefusal}
use Rattle.regex.specs.declared.error.Error.{Error}
use Rattle.regex.specs.declared.error.Error.TheVariants.{Syntax, CompiledTooBig, Internal}
use Rattle.regex_syntax.specs.declared.error.Error as parser
use Rattle.regex.specs.Strings.{regex_pattern, regex_source, regex_config, IsReadFromSource}
use Rattle.regex.specs.declared.string.regex.Regex.{Regex}
use Rattle.regex.proofs.ForCallers.{is_match_alike}
use Rattle.nf_pattern.specs.Whole.{pattern_in, IsPattern, IsNoPattern, found_in}

weaker : (o : Option (Nested Re × Names)) (limit : ℕ) (a : Re) (names : Names) →
    IsSomeAnd o (λ (re, found). (re.depth ≤ limit) × SameCaptures a re.value × (names ≡ found) × (group_count a ≤ length names)) → IsSomeAnd o (λ (re, found). re.depth ≤ limit)
weaker None limit a names h = absurd h
weaker (Some r) limit a names h = h.0

pub pattern_of_regex : (r : Regex) (source : List ℕ) → regex_source r ≡ source → regex_config r ≡ default_config → IsReadFromSource r → IsPattern source
unfolding Reads
pattern_of_regex r source is_source is_config is_read = weaker (pattern_in source) default_config.nest_limit (regex_pattern r) _ (rw (is_source, is_config) at is_read)

pub pattern_of_kind : (source : List ℕ) → failures.IsPattern default_config source → IsPattern source
unfolding Reads
pattern_of_kind source (hir, names, reads) = weaker (pattern_in source) default_config.nest_limit _ names reads

nothing_read : (o : Option (Nested Re × Names)) (limit : ℕ) → o ≡ None → IfSome o (λ (re, found). limit < re.depth)
nothing_read None limit e = tt
nothing_read (Some r) limit e = absurd (cc)

pub no_pattern : (source : List ℕ) (kind : ErrorKind) → Refuses default_config source kind → kind ≢ OutOfMemory → IsNoPattern source
unfolding Refuses
no_pattern source kind h memory =
    ⊎_elim (λ out. absurd (memory out)) (λ reads. ⊎_elim (λ e. nothing_read (pattern_in source) default_config.nest_limit e) (λ deep. deep.1) reads) h

found_alike : (o : Option (Nested Re × Names)) (limit : ℕ) (a : Re) (names : Names) (text : List ℕ) → ((k : ℕ) → get_or text k 0 < 256) →
    IsSomeAnd o (λ (re, found). (re.depth ≤ limit) × SameCaptures a re.value × (names ≡ found) × (group_count a ≤ length names)) →
    option_map (λ (found, names). is_some (find_str found.value text 0)) o ≡ Some (is_some (find_str a text 0))
found_alike None limit a names text bytes h = absurd h
found_alike (Some r) limit a names text bytes h = ap Some (sym (is_match_alike h.1 text bytes true 0))

pub found_of_regex : (r : Regex) (source text : List ℕ) (found : Bool) → regex_source r ≡ source → regex_config r ≡ default_config → IsReadFromSource r →
    ((k : ℕ) → get_or text k 0 < 256) → found ≡ is_some (find_str (regex_pattern r) text 0) → found_in source text ≡ Some found
unfolding Reads
found_of_regex r source text found is_source is_config is_read bytes h =
    found_alike (pattern_in source) default_config.nest_limit (regex_pattern r) _ text bytes (rw (is_source, is_config) at is_read) ∙ ap Some (sym h)

-- by the cases of an error
pub no_pattern_of : (source : List ℕ) (error : Error) (e : parser.Error) → error ≡ Syntax e → IsRefusal default_config source error → failures.IsRightKind default_config source error → IsNoPattern source
no_pattern_of source error e is refused kind =
    no_pattern source e.kind (refused e is) (subst (λ (x : Error). failures.IsRightKind default_config source x) is kind)

pub pattern_of_size : (source : List ℕ) (error : Error) → error ≡ CompiledTooBig → failures.IsRightKind default_config source error → IsPattern source
pattern_of_size source error is kind = pattern_of_kind source (subst (λ (x : Error). failures.IsRightKind default_config source x) is kind)

pub pattern_of_failure : (source : List ℕ) (error : Error) → error ≡ Internal → failures.IsRightKind default_config source error → IsPattern source
pattern_of_failure source error is kind = pattern_of_kind source (subst (λ (x : Error). failures.IsRightKind default_config source x) is kind)
