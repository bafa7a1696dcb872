-- What holds of every request that a command line comes to.
use Rattle.std.proofs.Common.{ℕ, List, Option, sym, subst}
use Rattle.nf_value.specs.declared.place.Place.{Place}
use Rattle.nf_token.specs.declared.token.Lexeme.{Lexeme}
use Rattle.nf_lexer.specs.Tokens.{IsTokensOf}
use Rattle.nf_ast.specs.Tree.{Tree}
use Rattle.nf_parser.specs.Spells.{Whole}
use Rattle.nf_command.specs.declared.command.Command.{Command}
use Rattle.nf_command.specs.declared.command.Command.TheVariants.{Run, Fmt, Check, Gen}
use Rattle.nf_ends.specs.Writes.{IsRefusal}
use Rattle.nf_meaning.specs.CallPaths.{NamesArePlain}
use Rattle.nf_meaning.specs.Script.{definitions_of}
use Rattle.nf_asked.specs.CommandLine.{CommandLine}
use Rattle.nf_asked.specs.Request.{Request, refused, formats, accepts, runs, RunComes, CheckComes, TreeComes, Comes, HasTree}
use Rattle.nf_asked.specs.Request as row

-- ---- the names of a script that is run have no colon

abbrev pub HasNames : Request → Type 0
HasNames (runs c t ps) = NamesArePlain (definitions_of t)
HasNames _ = Unit {0}

abbrev pub PlainNames : Type 0
PlainNames = (text : List ℕ) (tokens : List Lexeme × Place) (tree : Tree) → IsTokensOf text tokens → Whole tokens.0 tree
    → NamesArePlain (definitions_of tree)

names_run : {c : Command} {t : Tree} {held : Option (List ℕ)} {r : Request} → NamesArePlain (definitions_of t) → RunComes c t held r → HasNames r
names_run plain (row.no_params path at none) = tt
names_run plain (row.long_params path at long) = tt
names_run plain (row.bad_params path bytes pointer at file bad) = tt
names_run plain (row.disordered ps b has broken) = tt
names_run plain (row.run ps has ordered) = plain

names_check : {t : Tree} {r : Request} → CheckComes t r → HasNames r
names_check (row.check_fails b broken) = tt
names_check (row.check ordered) = tt

names_tree : (c : Command) (t : Tree) (held : Option (List ℕ)) (r : Request) → NamesArePlain (definitions_of t) → TreeComes c t held r → HasNames r
names_tree (Run w) t held r plain h = names_run plain h
names_tree (Gen n start) t held r plain h = names_run plain h
names_tree (Fmt file) t held r plain h = subst HasNames (sym h) tt
names_tree (Check file) t held r plain h = names_check h

pub request_names : PlainNames → {x : CommandLine} {r : Request} → Comes x r → HasNames r
request_names plain (row.misused f h) = tt
request_names plain (row.no_script c asks none) = tt
request_names plain (row.unlexed c text f has breaks) = tt
request_names plain (row.unparsed c text f has breaks) = tt
request_names plain {x} (row.with_tree c t r has comes) =
    names_tree c t x.params _ (plain has.text has.spells.tokens t has.spells.tokens_of has.spells.spelled.whole) comes

-- ---- a refusal is no end of a call that wrote an output

abbrev pub RefusesWell : Request → Type 0
RefusesWell (refused e) = IsRefusal e
RefusesWell _ = Unit {0}

refusal_run : {c : Command} {t : Tree} {held : Option (List ℕ)} {r : Request} → RunComes c t held r → RefusesWell r
refusal_run (row.no_params path at none) = tt
refusal_run (row.long_params path at long) = tt
refusal_run (row.bad_params path bytes pointer at file bad) = tt
refusal_run (row.disordered ps b has broken) = tt
refusal_run (row.run ps has ordered) = tt

refusal_check : {t : Tree} {r : Request} → CheckComes t r → RefusesWell r
refusal_check (row.check_fails b broken) = tt
refusal_check (row.check ordered) = tt

refusal_tree : (c : Command) (t : Tree) (held : Option (List ℕ)) (r : Request) → TreeComes c t held r → RefusesWell r
refusal_tree (Run w) t held r h = refusal_run h
refusal_tree (Gen n start) t held r h = refusal_run h
refusal_tree (Fmt file) t held r h = subst RefusesWell (sym h) tt
refusal_tree (Check file) t held r h = refusal_check h

pub request_refuses : {x : CommandLine} {r : Request} → Comes x r → RefusesWell r
request_refuses (row.misused f h) = tt
request_refuses (row.no_script c asks none) = tt
request_refuses (row.unlexed c text f has breaks) = tt
request_refuses (row.unparsed c text f has breaks) = tt
request_refuses {x} (row.with_tree c t r has comes) = refusal_tree c t x.params _ comes
