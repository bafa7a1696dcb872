-- What functions of the parser promise where the end of a part shows only by what comes after it.
use Rattle.std.specs.Prelude.{◌≡◌, ℕ, Bool, true, false, not, List, [], ◌∷◌, length, Result, Ok, Err, codes, ◌⊎◌, ◌&&◌, ◌||◌}
use Rattle.nf_value.specs.declared.place.Place.{Place}
use Rattle.nf_token.specs.declared.token.Mark.TheVariants as m
use Rattle.nf_token.specs.declared.token.Lexeme.{Lexeme}
use Rattle.nf_grammar.specs.Gram.{◌>>=◌}
use Rattle.nf_grammar.specs.Outcome.{Out, got}
use Rattle.nf_ast.specs.Tree.{Tree, point, tuple}
use Rattle.nf_ast.specs.declared.tops.Task.{Task}
use Rattle.nf_ast.specs.declared.tops.Task.TheVariants as task
use Rattle.nf_exprs.specs.declared.fault.Fault.{Fault}
use Rattle.nf_exprs.specs.Level.{Gram}
use Rattle.nf_exprs.specs.Tokens.{labels, after, is_next, word_of, mark_of, outputs_end}
use Rattle.nf_exprs.specs.Rules.{no_word, listed, with_sep, with_options, output_value}
use Rattle.nf_exprs.specs.Parses.{Outcome, Fails, Takes, past_label}

-- `Ok`: the part spells this tree before this rest, and the farthest reading stands where so many tokens are left. `Err`: how it ends
abbrev pub ParsesAs : {X : Type 0} → (X → Tree) → (X → List Lexeme) → (X → ℕ) → Gram → List Lexeme → Result X Fault → Type 0
ParsesAs tree rest left g ts (Ok x) = Outcome g ts (got (tree x) (rest x) (left x))
ParsesAs tree rest left g ts (Err e) = Fails g ts e

-- the part is read: however k ends on the rest, all of h ends so
abbrev pub ParsesBefore : {X : Type 0} → (X → Tree) → (X → List Lexeme) → (Tree → Gram) → Gram → List Lexeme → Result X Fault → Type 0
ParsesBefore tree rest k h ts (Ok x) = (o : Out Lexeme Tree) → Outcome (k (tree x)) (rest x) o → Outcome h ts o
ParsesBefore tree rest k h ts (Err e) = Fails h ts e

-- a label comes next that begins no section, with so many tokens from its colon on
abbrev pub IsStray : List Lexeme → Bool → ℕ → Type 0
IsStray ts known n = (known ≡ false) × (labels ts ≡ true) × (n ≡ length (after ts))

-- a section of a process comes next
abbrev pub section_next : List Lexeme → Bool
section_next ts = not (no_word (codes "input" ∷ codes "output" ∷ codes "script" ∷ []) ts)

abbrev pub stub_next : List Lexeme → Bool
stub_next = is_next (word_of (codes "stub"))

-- how many tokens are left where the farthest reading of what a task runs stands
abbrev pub task_left : Task → List Lexeme → ℕ
task_left (task.Script x) ts = past_label ts
task_left (task.Text e) ts = length ts

-- after what a task runs a label comes next that isn't `stub:`
abbrev pub IsStrayAfter : Task → List Lexeme → ℕ → Type 0
IsStrayAfter (task.Script x) ts n = IsStray ts (stub_next ts) n
IsStrayAfter (task.Text e) ts n = ⊥

abbrev pub NoStrayAfter : Task → List Lexeme → Type 0
NoStrayAfter (task.Script x) ts = (stub_next ts ≡ true) ⊎ (labels ts ≡ false)
NoStrayAfter (task.Text e) ts = Unit {0}

-- a comma, and the rest
abbrev pub TakesComma : List Lexeme → List Lexeme → Type 0
TakesComma ts rest = (p : Place) × Takes (mark_of m.Comma) ts (point p) rest

-- after the word `tuple`, which stands there: the parts, the options and a separator
abbrev pub tuple_end : Place → Gram
tuple_end p = listed outputs_end output_value >>= λ xs. with_sep (with_options (tuple p xs))

-- the sections of a workflow come next: the word of the first, and a colon
abbrev pub parts_next : List Lexeme → Bool
parts_next ts = labels ts && (is_next (word_of (codes "take")) ts || is_next (word_of (codes "main")) ts)
