-- An error line read back: which end it is of, and its place.
use Rattle.std.proofs.Common.{◌≡◌, ℕ, ◌^◌, ◌<◌, ◌≤◌, ◌==◌, nat_le, Bool, true, false, List, [], ◌∷◌, ◌++◌, codes, bytes_eq, if◌then◌else◌, refl, sym, ap, ◌∙◌, arith, append_assoc, length, lit<}
use Rattle.std.specs.List.{list_any}
use Rattle.std.specs.Fmt.{decimal}
use Rattle.std.specs.Str.{all_ascii_digits}
use Rattle.std.specs.declared.option.Option.{Option}
use Rattle.std.specs.declared.option.Option.TheVariants.{None, Some}
use Rattle.std.proofs.lemmas.Fmt.{digits_decimal, decimal_injective, decimal_nonempty, decimal_digit}
use Rattle.std.proofs.lemmas.Str.Parse.{IsNumeralModel, numerals_by_value, tells_all_ascii_digits}
use Rattle.std.specs.Str.Parse.{digits_value}
use Rattle.std.proofs.lemmas.Bool.Decides.{nat_tests}
use Rattle.nf_value.specs.declared.place.Place.{Place}
use Rattle.nf_value.specs.declared.fault.EvalKind.TheVariants as k
use Rattle.nf_value.specs.declared.fault.EvalKind.{EvalKind}
use Rattle.nf_value.specs.Fault.{kind_text}
use Rattle.nf_bag.specs.declared.fault.OpFault.{OpFault}
use Rattle.nf_bag.specs.declared.fault.OpFault.TheVariants as op
use Rattle.nf_bag.specs.Fault.{fault_name}
use Rattle.nf_lexer.specs.Fault as lexed
use Rattle.nf_meaning.specs.Fault as lowered
use Rattle.nf_lexer.specs.declared.fault.LexFault.{LexFault}
use Rattle.nf_lexer.specs.declared.fault.LexFault.TheVariants as lex
use Rattle.nf_exprs.specs.declared.fault.ParseFault.{ParseFault}
use Rattle.nf_exprs.specs.declared.fault.ParseFault.TheVariants as parse
use Rattle.nf_meaning.specs.declared.fault.LowerFault.{LowerFault}
use Rattle.nf_meaning.specs.declared.fault.LowerFault.TheVariants as lower
use Rattle.nf_ends.specs.declared.end.End.{End}
use Rattle.nf_ends.specs.declared.end.End.TheVariants as end
use Rattle.nf_ends.specs.declared.end.ItemCause.{ItemCause}
use Rattle.nf_ends.specs.declared.end.ItemCause.TheVariants.{Eval, Op}
use Rattle.nf_kinds.specs.declared.fault.OrderRule.{OrderRule}
use Rattle.nf_kinds.specs.declared.fault.OrderRule.TheVariants as rule
use Rattle.nf_kinds.specs.Texts.{rule_text}
use Rattle.nf_ends.specs.Ends.{error_line, cause_text, lower_text, parse_text, placed}
use Rattle.nf_ends.specs.Kinds as kind
use Rattle.nf_ends.specs.Kinds.{Kind, kind_of, place_in, HasLine, IsPlace}

-- ---- digits before a colon

own : IsNumeralModel (λ ds. all_ascii_digits ds ≡ true) (digits_value 10)
own = numerals_by_value (λ ds. all_ascii_digits ds ≡ true) tells_all_ascii_digits

are_digits : (n : ℕ) → n < 2 ^ 32 → all_ascii_digits (decimal n) ≡ true
are_digits n h = digits_decimal own n (omega (arith, h))

-- what stands after the first colon, and before it
abbrev after_colon : List ℕ → List ℕ
after_colon [] = []
after_colon (c ∷ cs) = if c == 58 then cs else after_colon cs

abbrev before_colon : List ℕ → List ℕ
before_colon [] = []
before_colon (c ∷ cs) = if c == 58 then [] else c ∷ before_colon cs

no_colon : (c : ℕ) → c ≤ 57 → (c == 58) ≡ false
no_colon c h = grind (arith, nat_tests)

after_digits : (ds rest : List ℕ) → all_ascii_digits ds ≡ true → after_colon (ds ++ 58 ∷ rest) ≡ rest
after_digits [] rest h = refl
after_digits (c ∷ cs) rest h =
    let parts = tells_all_ascii_digits.parts c cs h in
    ap (λ b. if b then cs ++ 58 ∷ rest else after_colon (cs ++ 58 ∷ rest)) (no_colon c parts.0.1) ∙ after_digits cs rest parts.1

before_digits : (ds rest : List ℕ) → all_ascii_digits ds ≡ true → before_colon (ds ++ 58 ∷ rest) ≡ ds
before_digits [] rest h = refl
before_digits (c ∷ cs) rest h =
    let parts = tells_all_ascii_digits.parts c cs h in
    ap (λ b. if b then [] else c ∷ before_colon (cs ++ 58 ∷ rest)) (no_colon c parts.0.1) ∙ ap (λ ds. c ∷ ds) (before_digits cs rest parts.1)

-- ---- reading a line back

-- up to a blank or the line's end, and from there on
abbrev word : List ℕ → List ℕ
word [] = []
word (c ∷ cs) = if c == 32 then [] else if c == 10 then [] else c ∷ word cs

abbrev behind : List ℕ → List ℕ
behind [] = []
behind (c ∷ cs) = if c == 32 then c ∷ cs else if c == 10 then c ∷ cs else behind cs

-- ` o..`
abbrev says_on : List ℕ → Bool
says_on (a ∷ b ∷ cs) = b == 111
says_on _ = false

abbrev among : List (List ℕ) → List ℕ → Bool
among ws w = list_any (bytes_eq w) ws

abbrev kind_by_word : List ℕ → Kind
kind_by_word w =
    if among (codes "BadByte" ∷ codes "OpenString" ∷ codes "OpenComment" ∷ codes "BadEscape" ∷ codes "BigNumber" ∷ codes "ScriptTooLong" ∷ []) w
    then kind.unlexed
    else if among (codes "Unexpected" ∷ codes "TooDeep" ∷ []) w then kind.unparsed
    else if bytes_eq w (codes "Order") then kind.disordered
    else kind.unlowered

-- of what stands after a place
abbrev kind_after : List ℕ → Kind
kind_after (a ∷ text) = if says_on (behind text) then kind.item_failed else kind_by_word (word text)
kind_after [] = kind.no_memory

abbrev kind_by_third : List ℕ → Kind
kind_by_third (a ∷ b ∷ c ∷ cs) = if c == 70 then kind.no_file else kind.no_script
kind_by_third _ = kind.no_memory

abbrev kind_by_letter : ℕ → List ℕ → Kind
kind_by_letter c text =
    if c == 116 then kind.task_failed
    else if c == 117 then kind.misused
    else if c == 66 then kind.bad_params
    else if c == 67 then kind.past_charge
    else if c == 68 then kind.has_damage
    else if c == 70 then kind.long_file
    else if c == 72 then kind.host_failed
    else if c == 75 then kind.keeper_failed
    else if c == 76 then kind.lane_failed
    else if c == 80 then kind.has_clash
    else kind_by_third text

abbrev kind_in : List ℕ → Kind
kind_in [] = kind.no_memory
kind_in (c ∷ cs) = if nat_le c 57 then kind_after (after_colon (after_colon (c ∷ cs))) else kind_by_letter c (c ∷ cs)

-- the digits of a place in front
abbrev digits_in : List ℕ → Option (List ℕ × List ℕ)
digits_in [] = None
digits_in (c ∷ cs) =
    if nat_le c 57 then Some (before_colon (c ∷ cs), before_colon (after_colon (c ∷ cs))) else None

-- behind `error: `
abbrev told_by : {A : Type 0} → A → (List ℕ → A) → List ℕ → A
told_by none f [] = none
told_by none f (c ∷ cs) = f cs

abbrev line_kind : List ℕ → Kind
line_kind line = told_by kind.no_memory kind_in (after_colon line)

abbrev line_digits : List ℕ → Option (List ℕ × List ℕ)
line_digits line = told_by None digits_in (after_colon line)

-- ---- a place in front

is_digit : (c : ℕ) → c ≤ 57 → nat_le c 57 ≡ true
is_digit c h = grind (arith, nat_tests)

kind_digits : (ds rest : List ℕ) → 0 < length ds → all_ascii_digits ds ≡ true → kind_in (ds ++ 58 ∷ rest) ≡ kind_after (after_colon rest)
kind_digits [] rest some h = absurd (omega arith)
kind_digits (c ∷ cs) rest some h =
    let parts = tells_all_ascii_digits.parts c cs h in
    let all : List ℕ = (c ∷ cs) ++ 58 ∷ rest in
    ap (λ b. if b then kind_after (after_colon (after_colon all)) else kind_by_letter c all) (is_digit c parts.0.1)
    ∙ ap (λ r. kind_after (after_colon r)) (after_digits (c ∷ cs) rest h)

digits_before : (ds rest : List ℕ) → 0 < length ds → all_ascii_digits ds ≡ true → digits_in (ds ++ 58 ∷ rest) ≡ Some (ds, before_colon rest)
digits_before [] rest some h = absurd (omega arith)
digits_before (c ∷ cs) rest some h =
    let parts = tells_all_ascii_digits.parts c cs h in
    let all : List ℕ = (c ∷ cs) ++ 58 ∷ rest in
    ap (λ b. if b then Some (before_colon all, before_colon (after_colon all)) else None) (is_digit c parts.0.1)
    ∙ ap (λ r. Some (before_colon all, before_colon r)) (after_digits (c ∷ cs) rest h)
    ∙ ap (λ d. Some (d, before_colon rest)) (before_digits (c ∷ cs) rest h)

abbrev ended : List ℕ → List ℕ
ended text = text ++ codes "\n"

spelled : (a b text : List ℕ) → ended ((a ++ codes ":" ++ b) ++ codes ": " ++ text) ≡ a ++ 58 ∷ (b ++ 58 ∷ 32 ∷ ended text)
spelled a b text =
    append_assoc (a ++ codes ":" ++ b ++ codes ": ") text (codes "\n")
    ∙ append_assoc (a ++ codes ":" ++ b) (codes ": ") (ended text)
    ∙ append_assoc (a ++ codes ":") b (58 ∷ 32 ∷ ended text)
    ∙ append_assoc a (codes ":") (b ++ 58 ∷ 32 ∷ ended text)

kind_spelled : (a b text : List ℕ) → 0 < length a → all_ascii_digits a ≡ true → all_ascii_digits b ≡ true
    → kind_in (ended ((a ++ codes ":" ++ b) ++ codes ": " ++ text)) ≡ kind_after (32 ∷ ended text)
kind_spelled a b text some first second =
    ap kind_in (spelled a b text) ∙ kind_digits a (b ++ 58 ∷ 32 ∷ ended text) some first
    ∙ ap kind_after (after_digits b (32 ∷ ended text) second)

digits_spelled : (a b text : List ℕ) → 0 < length a → all_ascii_digits a ≡ true → all_ascii_digits b ≡ true
    → digits_in (ended ((a ++ codes ":" ++ b) ++ codes ": " ++ text)) ≡ Some (a, b)
digits_spelled a b text some first second =
    ap digits_in (spelled a b text) ∙ digits_before a (b ++ 58 ∷ 32 ∷ ended text) some first
    ∙ ap (λ d. Some (a, d)) (before_digits b (32 ∷ ended text) second)

module _ (p : Place) (fit : IsPlace p) (text : List ℕ) where
  some_line : 0 < length (decimal p.line)
  some_line = decimal_nonempty p.line (omega (arith, fit.line))

  kind_placed : kind_in (ended (placed p text)) ≡ kind_after (32 ∷ ended text)
  kind_placed =
      kind_spelled (decimal p.line) (decimal p.col) text some_line (are_digits p.line fit.line) (are_digits p.col fit.col)

  digits_placed : digits_in (ended (placed p text)) ≡ Some (decimal p.line, decimal p.col)
  digits_placed =
      digits_spelled (decimal p.line) (decimal p.col) text some_line (are_digits p.line fit.line) (are_digits p.col fit.col)

-- ---- kinds

item_after : (e : EvalKind) (text : List ℕ) → kind_after (32 ∷ ended (kind_text e ++ codes " on " ++ text)) ≡ kind.item_failed
item_after k.Overflow text = refl
item_after k.WrongKind text = refl
item_after k.NoProperty text = refl
item_after k.DivZero text = refl
item_after k.TooLarge text = refl
item_after k.TooDeep text = refl
item_after k.NoMethod text = refl
item_after k.Arity text = refl
item_after k.NotNumber text = refl
item_after k.Native text = refl

op_after : (f : OpFault) (text : List ℕ) → kind.IsCause (Op f) → kind_after (32 ∷ ended (fault_name f ++ codes " on " ++ text)) ≡ kind.item_failed
op_after (op.DuplicateKey key) text h = refl
op_after (op.NotATuple x) text h = refl
op_after (op.NotANumber x) text h = refl
op_after (op.Overflow t) text h = refl
op_after (op.TooDeep x) text h = refl
op_after op.Mem text h = absurd h

order_after : (r : OrderRule) → kind_after (32 ∷ ended (rule_text r)) ≡ kind.disordered
order_after rule.ProcessQueues = refl
order_after rule.Arrival = refl
order_after rule.ReduceClosure = refl
order_after rule.ComparingClosure = refl
order_after rule.GroupSize = refl
order_after rule.SharedState = refl

param_after : (e : EvalKind) → kind_after (32 ∷ ended (codes "ParamFault " ++ kind_text e)) ≡ kind.unlowered
param_after k.Overflow = refl
param_after k.WrongKind = refl
param_after k.NoProperty = refl
param_after k.DivZero = refl
param_after k.TooLarge = refl
param_after k.TooDeep = refl
param_after k.NoMethod = refl
param_after k.Arity = refl
param_after k.NotNumber = refl
param_after k.Native = refl

cause_kind : (p : Place) → IsPlace p → (c : ItemCause) → kind.IsCause c → kind_in (ended (placed p (cause_text c))) ≡ kind.item_failed
cause_kind p fit (Eval item f) h = kind_placed p fit (cause_text (Eval item f)) ∙ item_after f.kind _
cause_kind p fit (Op f) h = kind_placed p fit (cause_text (Op f)) ∙ op_after f _ h

lex_kind : (f : LexFault) → kind.HasPlace (kind.lex_place f) → kind_in (ended (lexed.fault_text f)) ≡ kind.unlexed
lex_kind (lex.BadByte p) h = kind_placed p h (codes "BadByte")
lex_kind (lex.OpenString p) h = kind_placed p h (codes "OpenString")
lex_kind (lex.OpenComment p) h = kind_placed p h (codes "OpenComment")
lex_kind (lex.BadEscape p) h = kind_placed p h (codes "BadEscape")
lex_kind (lex.BigNumber p) h = kind_placed p h (codes "BigNumber")
lex_kind lex.ScriptTooLong h = refl
lex_kind lex.Mem h = absurd h

parse_kind : (f : ParseFault) → kind.HasPlace (kind.parse_place f) → kind_in (ended (parse_text f)) ≡ kind.unparsed
parse_kind (parse.Unexpected p) h = kind_placed p h (codes "Unexpected")
parse_kind (parse.TooDeep p) h = kind_placed p h (codes "TooDeep")
parse_kind parse.Mem h = absurd h

lower_kind : (f : LowerFault) → kind.HasPlace (lowered.place_in f) → kind_in (ended (lower_text f)) ≡ kind.unlowered
lower_kind (lower.UnknownName p) h = kind_placed p h (codes "UnknownName")
lower_kind (lower.TwiceDefined p) h = kind_placed p h (codes "TwiceDefined")
lower_kind (lower.CallCycle p) h = kind_placed p h (codes "CallCycle")
lower_kind (lower.WrongArity p) h = kind_placed p h (codes "WrongArity")
lower_kind (lower.BadOption p) h = kind_placed p h (codes "BadOption")
lower_kind (lower.NoEntry p) h = kind_placed p h (codes "NoEntry")
lower_kind (lower.ParamFault f) h = kind_placed f.place h (codes "ParamFault " ++ kind_text f.kind) ∙ param_after f.kind
lower_kind (lower.PatternRefused p) h = kind_placed p h (codes "PatternRefused")
lower_kind (lower.PatternTooLarge p) h = kind_placed p h (codes "PatternTooLarge")
lower_kind (lower.TooManyNodes p) h = kind_placed p h (codes "TooManyNodes")
lower_kind lower.Mem h = absurd h

tells_kind : (e : End) → HasLine e → line_kind (error_line e) ≡ kind_of e
tells_kind end.Ok h = absurd h
tells_kind (end.TaskFailed p i n f) h = refl
tells_kind (end.ItemFault p c) h = cause_kind p h.0 c h.1
tells_kind (end.PublishClash c) h = refl
tells_kind (end.Charge n) h = refl
tells_kind (end.Usage f) h = refl
tells_kind end.NoScript h = refl
tells_kind (end.NoFile p) h = refl
tells_kind (end.FileTooLong p) h = refl
tells_kind (end.Lex f) h = lex_kind f h
tells_kind (end.Parse f) h = parse_kind f h
tells_kind (end.Lower f) h = lower_kind f h
tells_kind (end.Order b) h = kind_placed b.place h (rule_text b.rule) ∙ order_after b.rule
tells_kind (end.BadParams p) h = refl
tells_kind end.HostFault h = refl
tells_kind end.LaneFault h = refl
tells_kind end.KeeperFault h = refl
tells_kind end.SinkFault h = absurd h
tells_kind (end.Damaged d f) h = refl
tells_kind end.Mem h = absurd h

pub same_kind : (e f : End) → HasLine e → HasLine f → error_line e ≡ error_line f → kind_of e ≡ kind_of f
same_kind e f at_e at_f same = sym (tells_kind e at_e) ∙ ap line_kind same ∙ tells_kind f at_f

-- ---- places

abbrev place_digits : Option Place → Option (List ℕ × List ℕ)
place_digits (Some p) = Some (decimal p.line, decimal p.col)
place_digits None = None

lex_digits : (f : LexFault) → kind.HasPlace (kind.lex_place f) → digits_in (ended (lexed.fault_text f)) ≡ place_digits (kind.lex_place f)
lex_digits (lex.BadByte p) h = digits_placed p h (codes "BadByte")
lex_digits (lex.OpenString p) h = digits_placed p h (codes "OpenString")
lex_digits (lex.OpenComment p) h = digits_placed p h (codes "OpenComment")
lex_digits (lex.BadEscape p) h = digits_placed p h (codes "BadEscape")
lex_digits (lex.BigNumber p) h = digits_placed p h (codes "BigNumber")
lex_digits lex.ScriptTooLong h = ap (λ d. Some (d, d)) (sym (decimal_digit 1 (lit< tt)))
lex_digits lex.Mem h = absurd h

parse_digits : (f : ParseFault) → kind.HasPlace (kind.parse_place f) → digits_in (ended (parse_text f)) ≡ place_digits (kind.parse_place f)
parse_digits (parse.Unexpected p) h = digits_placed p h (codes "Unexpected")
parse_digits (parse.TooDeep p) h = digits_placed p h (codes "TooDeep")
parse_digits parse.Mem h = absurd h

lower_digits : (f : LowerFault) → kind.HasPlace (lowered.place_in f) → digits_in (ended (lower_text f)) ≡ place_digits (lowered.place_in f)
lower_digits (lower.UnknownName p) h = digits_placed p h (codes "UnknownName")
lower_digits (lower.TwiceDefined p) h = digits_placed p h (codes "TwiceDefined")
lower_digits (lower.CallCycle p) h = digits_placed p h (codes "CallCycle")
lower_digits (lower.WrongArity p) h = digits_placed p h (codes "WrongArity")
lower_digits (lower.BadOption p) h = digits_placed p h (codes "BadOption")
lower_digits (lower.NoEntry p) h = digits_placed p h (codes "NoEntry")
lower_digits (lower.ParamFault f) h = digits_placed f.place h (codes "ParamFault " ++ kind_text f.kind)
lower_digits (lower.PatternRefused p) h = digits_placed p h (codes "PatternRefused")
lower_digits (lower.PatternTooLarge p) h = digits_placed p h (codes "PatternTooLarge")
lower_digits (lower.TooManyNodes p) h = digits_placed p h (codes "TooManyNodes")
lower_digits lower.Mem h = absurd h

tells_digits : (e : End) → HasLine e → line_digits (error_line e) ≡ place_digits (place_in e)
tells_digits end.Ok h = absurd h
tells_digits (end.TaskFailed p i n f) h = refl
tells_digits (end.ItemFault p c) h = digits_placed p h.0 (cause_text c)
tells_digits (end.PublishClash c) h = refl
tells_digits (end.Charge n) h = refl
tells_digits (end.Usage f) h = refl
tells_digits end.NoScript h = refl
tells_digits (end.NoFile p) h = refl
tells_digits (end.FileTooLong p) h = refl
tells_digits (end.Lex f) h = lex_digits f h
tells_digits (end.Parse f) h = parse_digits f h
tells_digits (end.Lower f) h = lower_digits f h
tells_digits (end.Order b) h = digits_placed b.place h (rule_text b.rule)
tells_digits (end.BadParams p) h = refl
tells_digits end.HostFault h = refl
tells_digits end.LaneFault h = refl
tells_digits end.KeeperFault h = refl
tells_digits end.SinkFault h = absurd h
tells_digits (end.Damaged d f) h = refl
tells_digits end.Mem h = absurd h

-- ---- one place

abbrev Fits : Option Place → Type 0
Fits (Some p) = IsPlace p
Fits None = Unit {0}

fits : (o : Option Place) → kind.HasPlace o → Fits o
fits (Some p) h = h
fits None h = absurd h

place_fits : (e : End) → HasLine e → Fits (place_in e)
place_fits end.Ok h = tt
place_fits (end.TaskFailed p i n f) h = tt
place_fits (end.ItemFault p c) h = h.0
place_fits (end.PublishClash c) h = tt
place_fits (end.Charge n) h = tt
place_fits (end.Usage f) h = tt
place_fits end.NoScript h = tt
place_fits (end.NoFile p) h = tt
place_fits (end.FileTooLong p) h = tt
place_fits (end.Lex f) h = fits (kind.lex_place f) h
place_fits (end.Parse f) h = fits (kind.parse_place f) h
place_fits (end.Lower f) h = fits (lowered.place_in f) h
place_fits (end.Order b) h = h
place_fits (end.BadParams p) h = tt
place_fits end.HostFault h = tt
place_fits end.LaneFault h = tt
place_fits end.KeeperFault h = tt
place_fits end.SinkFault h = tt
place_fits (end.Damaged d f) h = tt
place_fits end.Mem h = tt

abbrev in_pair : {A : Type 0} → A → Option A → A
in_pair d None = d
in_pair d (Some x) = x

one_place : (p q : Place) → p.line ≡ q.line → p.col ≡ q.col → p ≡ q
one_place p q lines cols =
    ap (λ l. record { line = l; col = p.col }) lines ∙ ap (λ c. record { line = q.line; col = c }) cols

one_number : (m n : ℕ) → m < 2 ^ 32 → n < 2 ^ 32 → decimal m ≡ decimal n → m ≡ n
one_number m n below_m below_n = decimal_injective m n (omega (arith, below_m)) (omega (arith, below_n))

by_digits : (a b : Option Place) → Fits a → Fits b → place_digits a ≡ place_digits b → a ≡ b
by_digits (Some p) (Some q) f g h =
    let pairs = ap (in_pair ([], [])) h in
    ap (λ x. Some x) (one_place p q (one_number p.line q.line f.line g.line (ap (λ x. x.0) pairs)) (one_number p.col q.col f.col g.col (ap (λ x. x.1) pairs)))
by_digits (Some p) None f g h = absurd cc
by_digits None (Some q) f g h = absurd cc
by_digits None None f g h = refl

pub same_place : (e f : End) → HasLine e → HasLine f → error_line e ≡ error_line f → place_in e ≡ place_in f
same_place e f at_e at_f same =
    by_digits (place_in e) (place_in f) (place_fits e at_e) (place_fits f at_f)
    (sym (tells_digits e at_e) ∙ ap line_digits same ∙ tells_digits f at_f)
