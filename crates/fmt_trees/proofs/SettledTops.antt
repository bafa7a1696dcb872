-- The tokens of the inks of sections and tops.
use Rattle.std.proofs.Common.{◌≡◌, ℕ, pos, Bool, true, false, List, [], ◌∷◌, ◌++◌, map, refl, sym, subst, ap, ◌∙◌, append-nil}
use Rattle.std.specs.Prelude.{not, ◌&&◌, codes, if◌then◌else◌}
use Rattle.nf_value.specs.declared.place.Place.{Place}
use Rattle.nf_token.specs.declared.token.Keyword.TheVariants as k
use Rattle.nf_token.specs.declared.token.Mark.TheVariants as m
use Rattle.nf_token.specs.declared.token.Token.TheVariants as t
use Rattle.nf_token.specs.declared.token.Lexeme.{Lexeme}
use Rattle.nf_token.specs.declared.token.PlainKind.{PlainKind}
use Rattle.nf_token.specs.declared.token.TemplateKind.{TemplateKind}
use Rattle.nf_ast.specs.Tree as tree
use Rattle.nf_ast.specs.Tree.{Tree, cons}
use Rattle.nf_writer.specs.Ink as ink
use Rattle.nf_writer.specs.Ink.{Ink}
use Rattle.nf_printer.specs.Levels.{round, prints, begins_round}
use Rattle.nf_writer.specs.Lines.{between, outside}
use Rattle.nf_printer.specs.Exprs as printed
use Rattle.nf_printer.specs.Exprs.{inks, equals, comma}
use Rattle.nf_printer.specs.Tops as tops
use Rattle.nf_printer.specs.Tops.{inside, part, on_lines, section, body_section, braced, value_part, value_parts, some_value, script}
use Rattle.fmt_tokens.specs.Bits.{Bit, ending}
use Rattle.fmt_tokens.specs.InkTokens.{inks_bits, next_goes_on, ink_tokens}
use Rattle.fmt_trees.specs.Shape as sort
use Rattle.fmt_trees.specs.Shape.{Sort, Shaped}
use Rattle.fmt_trees.proofs.TreeTokens as tree_tokens
use Rattle.fmt_trees.proofs.TreeTokens.{held, mark, word, lx, separator}
use Rattle.fmt_trees.proofs.TopTokens.{part_of, lines_of, commas_of, section_of, statements_of, body_of, args_of, directive_of, value_of, some_value_of, output_of, task_of, sections_of, inside_of, name_of, braced_of, top_of, script_of}
use Rattle.fmt_trees.proofs.Rows.{Each, none, some}
use Rattle.fmt_trees.proofs.Holds.{Perhaps, nothing, just, Section, in_section}
use Rattle.fmt_trees.proofs.Posts.{each_plain}
use Rattle.fmt_trees.proofs.Fronts.{front}
use Rattle.fmt_trees.proofs.Settling.{settle, settled_is, Any, After, Await, told, three, five, after_any, await_any, any_two, any_three, more_mark, any_token, after_line, await_line}
use Rattle.fmt_trees.proofs.SettledExprs.{Says, PiecesSay, PartSays, after_mark, close_round, close_brace, name_says, assign_says, listed_says, more_says, template_says}
use Rattle.fmt_trees.proofs.SettledBodies.{next_parts_say, next_two, starts_line, front_line, println_says, log_says}

-- what begins with a line end
pub record Line (rest : List Bit) (w : List Lexeme) : Type 0 where
  pub after : After rest (separator w)
  pub await : Await rest w

pub line_of : {rest : List Bit} {w : List Lexeme} → next_goes_on rest ≡ false → Any rest w → Line (ending ∷ rest) w
line_of e h = record { after = after_line e h; await = await_line (await_any h) }

pub after_three : {w : List Lexeme} (xs ys zs : List Ink) (rest : List Bit) → After (told xs (told ys (told zs rest))) w → After (told (xs ++ ys ++ zs) rest) w
after_three {w} = three (λ b. After b w)

pub line_three : {w : List Lexeme} (xs ys zs : List Ink) (rest : List Bit) → Line (told xs (told ys (told zs rest))) w → Line (told (xs ++ ys ++ zs) rest) w
line_three {w} = three (λ b. Line b w)

pub line_five : {w : List Lexeme} (xs ys zs vs us : List Ink) (rest : List Bit) → Line (told xs (told ys (told zs (told vs (told us rest))))) w → Line (told (xs ++ ys ++ zs ++ vs ++ us) rest) w
line_five {w} = five (λ b. Line b w)

-- the tokens of inks that stand on a line of their own
pub record LineSays (f : Tree → List Ink) (g : Tree → List Lexeme → List Lexeme) (x : Tree) : Type 0 where
  pub says : (rest : List Bit) (w : List Lexeme) → After rest w → Any (told (f x) rest) (g x w)
  pub new_line : (rest : List Bit) (w : List Lexeme) → After rest w → next_goes_on (told (f x) rest) ≡ false

pub lines_say : (f : Tree → List Ink) (g : Tree → List Lexeme → List Lexeme) {xs : Tree} → Each (LineSays f g) xs → (rest : List Bit) (w : List Lexeme) → Line rest w → Line (told (on_lines f xs) rest) (lines_of g xs w)
lines_say f g none rest w h = h
lines_say f g (some {x = x} {xs = xs} p q) rest w h =
    let more : After (told (on_lines f xs) rest) (separator (lines_of g xs w)) = (lines_say f g q rest w h).after in
    line_of (next_two (f x) (on_lines f xs) rest (p.new_line _ _ more)) (any_two (f x) (on_lines f xs) rest (p.says _ _ more))

abbrev pub LinesSay : (Tree → List Ink) → (Tree → List Lexeme → List Lexeme) → Tree → Type 0
LinesSay f g x = (rest : List Bit) (w : List Lexeme) → Line rest w → Line (told (f x) rest) (g x w)

pub section_says : (x : List ℕ) (f : Tree → List Ink) (g : Tree → List Lexeme → List Lexeme) {s : Tree} → Perhaps (Section (Each (LineSays f g))) s → LinesSay (section x f) (section_of x g) s
section_says x f g nothing rest w h = h
section_says x f g (just (in_section {xs = xs} q)) rest w h = line_of refl (any_token (t.Name x) refl refl (after_any (more_mark m.Colon refl ((lines_say f g q rest w h).await))))

pub statements_say : {xs : Tree} → Each PartSays xs → (rest : List Bit) (w : List Lexeme) → Line rest w → Await (told (tops.statements xs) rest) (statements_of xs w)
statements_say none rest w h = h.await
statements_say (some {x = x} {xs = xs} p q) rest w h =
    await_line (await_any (any_two (inks x inside (prints x false)) (printed.parts xs inside (between inside)) rest (p.says inside (prints x false) _ _ (next_parts_say q inside rest (separator w) h.after))))

pub body_says : (x : List ℕ) {s : Tree} → Section (Each PartSays) s → LinesSay (body_section x) (body_of x) s
body_says x (in_section q) rest w h = line_of refl (any_token (t.Name x) refl refl (after_any (more_mark m.Colon refl (statements_say q rest w h))))

pub stub_says : (x : List ℕ) {s : Tree} → Perhaps (Section (Each PartSays)) s → LinesSay (body_section x) (body_of x) s
stub_says x nothing rest w h = h
stub_says x (just q) rest w h = body_says x q rest w h

-- ---- directives

pub bracketed : (b : Bool) (x xs : Tree) → Says x → Each Says xs → (rest : List Bit) (w : List Lexeme) → After rest w → After (told ((if b then ink.mark m.OpenRound ∷ [] else ink.blank ∷ []) ++ printed.listed (cons x xs) inside [] ++ (if b then ink.mark m.CloseRound ∷ [] else [])) rest) (held b (tree_tokens.listed (cons x xs) inside) w)
bracketed true x xs p q rest w h = after_three (ink.mark m.OpenRound ∷ []) (printed.listed (cons x xs) inside []) (ink.mark m.CloseRound ∷ []) rest (after_mark m.OpenRound (listed_says (some {x = x} {xs = xs} p q) inside _ _ (close_round h)))
bracketed false x xs p q rest w h = after_three (ink.blank ∷ []) (printed.listed (cons x xs) inside []) [] rest (after_any (any_two (inks x inside false) (printed.listed xs inside comma) rest (p inside false _ _ (more_says q inside rest w h))))

pub args_say : {xs : Tree} → Each Says xs → (rest : List Bit) (w : List Lexeme) → After rest w → After (told (tops.directive_args xs) rest) (args_of xs w)
args_say none rest w h = h
args_say (some {x = x} {xs = xs} p q) rest w h = bracketed (begins_round x) x xs p q rest w h

pub directive_says : {n : Tree} (xs : Tree) → Shaped sort.a_name n → Says n → Each Says xs → LineSays tops.directive directive_of (tree.directive n xs)
directive_says xs (sort.named {p = p} {s = s}) u q = record { says = whole; new_line = λ rest w h. starts_line (t.Name s) refl (whole rest w h) }
  where
    whole : (rest : List Bit) (w : List Lexeme) → After rest w → Any (told (tops.directive (tree.directive (tree.name p s) xs)) rest) (directive_of (tree.directive (tree.name p s) xs) w)
    whole rest w h = any_two (part (tree.name p s)) (tops.directive_args xs) rest (u inside false _ _ (args_say q rest w h))

-- ---- inputs and outputs

abbrev pub ValueSays : Tree → Type 0
ValueSays x = (rest : List Bit) (w : List Lexeme) → After rest w → Any (told (value_part x) rest) (value_of x w)

pub val_says : (p : Place) (e : Tree) → Says e → ValueSays (tree.val p e)
val_says p e s rest w h = any_token (t.Name (codes "val")) refl refl (after_any (s inside false rest w h))

pub path_says : (p : Place) (e : Tree) → Says e → ValueSays (tree.path p e)
path_says p e s rest w h = any_token (t.Name (codes "path")) refl refl (after_any (s inside false rest w h))

pub stdin_says : (p : Place) → ValueSays (tree.stdin p)
stdin_says p rest w h = any_token (t.Name (codes "stdin")) refl refl h

pub stdout_says : (p : Place) → ValueSays (tree.stdout p)
stdout_says p rest w h = any_token (t.Name (codes "stdout")) refl refl h

pub values_more : {xs : Tree} → Each ValueSays xs → (rest : List Bit) (w : List Lexeme) → After rest w → After (told (value_parts xs comma) rest) (commas_of value_of xs w)
values_more none rest w h = h
values_more (some {x = x} {xs = xs} p q) rest w h = after_mark m.Comma (any_two (value_part x) (value_parts xs comma) rest (p _ _ (values_more q rest w h)))

abbrev pub SomeSays : Tree → Type 0
SomeSays x = LineSays some_value some_value_of x

pub tuple_says : (p : Place) (x xs : Tree) → ValueSays x → Each ValueSays xs → SomeSays (tree.tuple p (cons x xs))
tuple_says p x xs u q = record {
  says = λ rest w h. any_token (t.Name (codes "tuple")) refl refl (after_any (any_two (value_part x) (value_parts xs comma) rest (u _ _ (values_more q rest w h))));
  new_line = λ rest w h. refl;
}

pub one_input_says : {x : Tree} → Shaped sort.input x → ValueSays x → SomeSays x
one_input_says (sort.val_input s) u = record { says = u; new_line = λ rest w h. refl }
one_input_says (sort.path_input s) u = record { says = u; new_line = λ rest w h. refl }
one_input_says sort.stdin_input u = record { says = u; new_line = λ rest w h. refl }

pub one_output_says : {x : Tree} → Shaped sort.output_value x → ValueSays x → SomeSays x
one_output_says (sort.val_output s) u = record { says = u; new_line = λ rest w h. refl }
one_output_says (sort.path_output s) u = record { says = u; new_line = λ rest w h. refl }
one_output_says sort.stdout_output u = record { says = u; new_line = λ rest w h. refl }

pub output_says : (x os : Tree) → SomeSays x → Each PartSays os → LineSays tops.output output_of (tree.output x os)
output_says x os u q = record {
  says = λ rest w h. any_two (some_value x) (printed.listed os inside comma) rest (u.says _ _ (options rest w h));
  new_line = λ rest w h. next_two (some_value x) (printed.listed os inside comma) rest (u.new_line _ _ (options rest w h));
}
  where
    options : (rest : List Bit) (w : List Lexeme) → After rest w → After (told (printed.listed os inside comma) rest) (tree_tokens.more os inside w)
    options rest w h = more_says (each_plain (λ y p. p.says) q) inside rest w h

-- ---- what a task runs

abbrev pub TaskSays : Tree → Type 0
TaskSays x = LinesSay tops.task task_of x

pub text_task_says : (p : Place) (q : PlainKind) (s : List ℕ) → TaskSays (tree.text p q s)
text_task_says p q s rest w h = line_of refl (any_token (t.Plain q s) refl refl h.after)

pub template_task_says : (p : Place) (q : TemplateKind) (xs : Tree) → PiecesSay xs → TaskSays (tree.template p q xs)
template_task_says p q xs s rest w h = line_of refl (template_says p q xs s inside false rest (separator w) h.after)

pub section_task_says : {x : Tree} → Section (Each PartSays) x → TaskSays x
section_task_says (in_section {p = p} {xs = xs} q) = body_says (codes "script") (in_section {p = p} {xs = xs} q)

-- ---- parts of workflows

abbrev pub PartLine : Tree → Type 0
PartLine x = LineSays part part_of x

pub name_line : {n : Tree} → Shaped sort.a_name n → PartLine n
name_line (sort.named {p = p} {s = s}) = record { says = λ rest w h. name_says p s inside false rest w h; new_line = λ rest w h. refl }

pub alone_line : (e : Tree) → Shaped sort.expr e → Says e → PartLine e
alone_line e s u = record {
  says = λ rest w h. u inside false rest w h;
  new_line = λ rest w h. front_line (front s inside false w) (u inside false rest w h);
}

pub assign_line : {n : Tree} (e : Tree) → Shaped sort.a_name n → Says e → PartLine (tree.assign n e)
assign_line e (sort.named {p = p} {s = s}) u = record {
  says = λ rest w h. assign_says (tree.name p s) e (name_says p s) u inside false rest w h;
  new_line = λ rest w h. refl;
}

pub each_shaped : {s : Sort} {Q : Tree → Type 0} {xs : Tree} → ((x : Tree) → Shaped s x → Q x) → Shaped (sort.row s) xs → Each Q xs
each_shaped f sort.no_more = none
each_shaped f (sort.one_more {x = x} h i) = some (f x h) (each_shaped f i)

pub take_lines : {t : Tree} → Shaped (sort.maybe (sort.section (sort.row sort.a_name))) t → Perhaps (Section (Each PartLine)) t
take_lines sort.absent = nothing
take_lines (sort.present (sort.section_of h)) = just (in_section (each_shaped (λ n s. name_line s) h))

abbrev pub InsideSays : Tree → Type 0
InsideSays x = (rest : List Bit) (w : List Lexeme) → Line rest w → Await (told (tops.workflow_parts x) rest) (inside_of x w)

pub parts_say : (t b e : Tree) → Perhaps (Section (Each PartLine)) t → Section (Each PartSays) b → Perhaps (Section (Each PartLine)) e → InsideSays (tree.parts t b e)
parts_say t b e h i j rest w k =
    (line_three (section (codes "take") part t) (body_section (codes "main") b) (section (codes "emit") part e) rest
    (section_says (codes "take") part part_of h _ _ (body_says (codes "main") i _ _ (section_says (codes "emit") part part_of j rest w k)))).await

pub only_say : {xs : Tree} → Each PartSays xs → InsideSays xs
only_say none rest w h = h.await
only_say (some {x = x} {xs = xs} p q) rest w h = statements_say (some {x = x} {xs = xs} p q) rest w h

-- ---- tops

pub braced_says : (xs : List Ink) (f : List Lexeme → List Lexeme) (rest : List Bit) (w : List Lexeme) → ((us : List Bit) (v : List Lexeme) → Line us v → Await (told xs us) (f v)) → After rest w → After (told (braced xs) rest) (braced_of f w)
braced_says xs f rest w s h = after_three (ink.blank ∷ ink.mark m.OpenBrace ∷ xs) (ink.line [] ∷ []) (ink.mark m.CloseBrace ∷ []) rest (after_any (more_mark m.OpenBrace refl (s _ _ (line_of refl (close_brace h)))))

abbrev pub TopSays : Tree → Type 0
TopSays x = LineSays tops.top top_of x

module _ (n ds xs ys x s : Tree) (b : Each (LineSays tops.directive directive_of) ds) (c : Perhaps (Section (Each SomeSays)) xs) (d : Perhaps (Section (Each (LineSays tops.output output_of))) ys) (e : TaskSays x) (f : Perhaps (Section (Each PartSays)) s) where
  sections_say : (us : List Bit) (v : List Lexeme) → Line us v → Await (told (tops.process_parts ds xs ys x s) us) (lines_of directive_of ds (sections_of xs ys x s v))
  sections_say us v k =
      (line_five (on_lines tops.directive ds) (section (codes "input") some_value xs) (section (codes "output") tops.output ys) (tops.task x) (body_section (codes "stub") s) us
      (lines_say tops.directive directive_of b _ _ (section_says (codes "input") some_value some_value_of c _ _ (section_says (codes "output") tops.output output_of d _ _ (e _ _ (stub_says (codes "stub") f us v k)))))).await

  pub process_says : (p : Place) → Says n → TopSays (tree.process p n ds xs ys x s)
  process_says p a = record {
    says = λ rest w h. any_two (tops.word (codes "process") ∷ ink.blank ∷ part n) (braced (tops.process_parts ds xs ys x s)) rest
        (any_token (t.Name (codes "process")) refl refl (after_any (a inside false _ _
        (braced_says (tops.process_parts ds xs ys x s) (λ us. lines_of directive_of ds (sections_of xs ys x s us)) rest w sections_say h))));
    new_line = λ rest w h. refl;
  }

pub maybe_name_says : {n : Tree} → Shaped (sort.maybe sort.a_name) n → (rest : List Bit) (w : List Lexeme) → After rest w → After (told (tops.maybe_name n) rest) (name_of n w)
maybe_name_says sort.absent rest w h = h
maybe_name_says (sort.present (sort.named {p = p} {s = s})) rest w h = after_any (name_says p s inside false rest w h)

pub workflow_says : (p : Place) (n b : Tree) → Shaped (sort.maybe sort.a_name) n → InsideSays b → TopSays (tree.workflow p n b)
workflow_says p n b s i = record {
  says = λ rest w h. any_two (tops.word (codes "workflow") ∷ tops.maybe_name n) (braced (tops.workflow_parts b)) rest
      (any_token (t.Name (codes "workflow")) refl refl (maybe_name_says s _ _ (braced_says (tops.workflow_parts b) (inside_of b) rest w i h)));
  new_line = λ rest w h. refl;
}

pub function_says : (p : Place) (n ps b : Tree) → Says n → Each Says ps → Each PartSays b → TopSays (tree.function p n ps b)
function_says p n ps b u i j = record {
  says = λ rest w h. any_three (ink.keyword k.Def ∷ ink.blank ∷ part n) (round (printed.listed ps inside [])) (braced (tops.statements b)) rest
      (any_token (t.Keyword k.Def) refl refl (after_any (u inside false _ _ (after_mark m.OpenRound
      (any_two (printed.listed ps inside []) (ink.mark m.CloseRound ∷ []) _ (listed_says i inside _ _ (close_round (braced_says (tops.statements b) (statements_of b) rest w (statements_say j) h))))))));
  new_line = λ rest w h. refl;
}

pub parameter_says : (p : Place) (n e : Tree) → Says n → Says e → TopSays (tree.parameter p n e)
parameter_says p n e s u = record {
  says = λ rest w h. any_three (tops.word (codes "params") ∷ ink.mark m.Dot ∷ part n) equals (inks e outside false) rest
      (any_token (t.Name (codes "params")) refl refl (after_mark m.Dot (s inside false _ _ (after_mark m.Equals (u outside false rest w h)))));
  new_line = λ rest w h. refl;
}

pub println_top_says : (p : Place) (e : Tree) → Says e → TopSays (tree.println p e)
println_top_says p e s = record { says = λ rest w h. println_says p e s outside false rest w h; new_line = λ rest w h. refl }

pub log_top_says : (p : Place) (n e : Tree) → Says n → Says e → TopSays (tree.log p n e)
log_top_says p n e s u = record { says = λ rest w h. log_says p n e s u outside false rest w h; new_line = λ rest w h. refl }

pub dsl_says : (p : Place) → TopSays (tree.dsl p)
dsl_says p = record {
  says = λ rest w h. any_token (t.Name (codes "nextflow")) refl refl (after_mark m.Dot (any_token (t.Name (codes "enable")) refl refl (after_mark m.Dot (any_token (t.Name (codes "dsl")) refl refl (after_mark m.Equals (any_token (t.Number (pos 2)) refl refl h))))));
  new_line = λ rest w h. refl;
}

-- ---- the script

pub after_lines : {rest : List Bit} {w : List Lexeme} → next_goes_on rest ≡ false → Any rest w → After (ending ∷ ending ∷ rest) (separator w)
after_lines {rest} {w} e h = record {
  is =
      subst (λ b. (if not b && true then lx t.Separator ∷ (if not b && false then lx t.Separator ∷ settle false true rest else settle false true rest) else (if not b && true then lx t.Separator ∷ settle false true rest else settle false false rest)) ≡ separator w) (sym e) (ap separator (h.is false true));
}

pub tops_say : {xs : Tree} → Each TopSays xs → After (told (ink.line [] ∷ tops.tops xs (ink.line [] ∷ [])) []) (separator (script_of xs))
tops_say none = record { is = refl }
tops_say (some {x = x} {xs = xs} p q) =
    let more : List Ink = ink.line [] ∷ tops.tops xs (ink.line [] ∷ []) in
    after_lines (next_two (tops.top x) more [] (p.new_line _ _ (tops_say q))) (any_two (tops.top x) more [] (p.says _ _ (tops_say q)))

pub script_says : {xs : Tree} → Each TopSays xs → After (told (script xs) []) (script_of xs)
script_says none = record { is = refl }
script_says (some {x = x} {xs = xs} p q) = after_any (any_two (tops.top x) (ink.line [] ∷ tops.tops xs (ink.line [] ∷ [])) [] (p.says _ _ (tops_say q)))

-- the tokens of a script's canonical text
pub script_told : {xs : Tree} → Each TopSays xs → map lx (ink_tokens (script xs)) ≡ script_of xs
script_told {xs} h = settled_is (inks_bits (script xs)) [] ∙ ap (settle false false) (sym (append-nil (inks_bits (script xs)))) ∙ (script_says h).is
