-- The first of some arguments, and the first without a name.
use Rattle.std.proofs.Common.{◌≡◌, ◌∙◌, ◌+◌, ◌<◌, ℕ, zero, suc, Bool, true, false, List, [], ◌∷◌, ◌++◌, length, get_or, map, take, refl, sym, ap, subst, append-nil, add_assoc, zero-add, arith}
use Rattle.std.specs.Prelude.{Option, Some, None, is_some, if◌then◌else◌}
use Rattle.std.specs.Borrow.{Bor}
use Rattle.std.specs.Option.{option_to_list}
use Rattle.std.proofs.lemmas.Bool.{false≢true, true≢false}
use Rattle.nf_ast.specs.declared.expr.Arg.{Arg}
use Rattle.nf_ast.specs.declared.expr.ClosureExpr.{ClosureExpr}
use Rattle.nf_value.specs.declared.place.Place.{Place}
use Rattle.nf_graph.specs.Meaning.{Bags}
use Rattle.nf_meaning.specs.Arguments as meaning
use Rattle.nf_meaning.specs.Arguments.{is_unnamed, unnamed}
use Rattle.nf_meaning.specs.Calls.{Receiver, and_other, receiver, receiver_or}
use Rattle.nf_arguments.specs.declared.args.Args.{Args}
use Rattle.nf_arguments.specs.declared.args.Before.{Before}
use Rattle.nf_arguments.specs.declared.one.One.TheVariants as one
use Rattle.nf_arguments.specs.declared.written.Written.{Written}
use Rattle.nf_arguments.specs.declared.written.Written.TheVariants as written
use Rattle.nf_arguments.specs.Args.{AreArgs, AreBefore, HasFirst, HasReceiver, IsBefore, closure_args, written_arg, written_args}
use Rattle.nf_arguments.specs.Written.{AreNamed, IsAroundFirst, arg_of, closure_arg, has_name}
use Rattle.nf_arguments.proofs.Behind.{closure_label}

-- ---- those that are written are left

pub are_written : (bags : Bags) (x : Args) → x.before ≡ None → AreArgs bags x (written_args x)
are_written bags x none = record { before = []; flows = let P : Option Before → Type 0 = λ o. AreBefore bags o [] in subst P (sym none) refl; all = refl }

pub only_written : (bags : Bags) (x : Args) (ys : List meaning.Arg) → x.before ≡ None → AreArgs bags x ys → ys ≡ written_args x
only_written bags x ys none h =
    let P : Option Before → Type 0 = λ o. AreBefore bags o h.before in
    let isnt : h.before ≡ [] = subst P none h.flows in
    h.all ∙ ap (λ xs. xs ++ written_args x) isnt

before_first : (bags : Bags) (x : Args) (b : Before) (ys : List meaning.Arg) → x.before ≡ Some b → AreArgs bags x ys → (y : meaning.Arg) × (ys ≡ y ∷ written_args x) × IsBefore bags b y
before_first bags x b ys is h =
    let P : Option Before → Type 0 = λ o. AreBefore bags o h.before in
    let it : AreBefore bags (Some b) h.before = subst P is h.flows in
    (it.0, h.all ∙ ap (λ xs. xs ++ written_args x) it.1, it.2)

-- ---- the first

module _ (old new : Args) (gone : new.before ≡ None) where
  pub takes_before : (b : Before) → old.before ≡ Some b → written_args old ≡ written_args new → HasFirst (one.Before b) old new
  takes_before b is same = record {
    splits = λ bags ys h.
        (let it = before_first bags old b ys is h in
        (it.0, written_args new, it.1 ∙ ap (λ xs. it.0 ∷ xs) same, it.2, are_written bags new gone));
    was = is;
    left = gone;
    written = same;
    fewer =
        (let one : length (option_to_list old.before) ≡ 1 = ap (λ o. length (option_to_list o)) is in
        let none : length (option_to_list new.before) ≡ 0 = ap (λ o. length (option_to_list o)) gone in
        let rest : length (written_args old) ≡ length (written_args new) = ap length same in omega (arith, one, none, rest));
  }

  pub takes_written : (w : Written) → old.before ≡ None → written_args old ≡ written_arg w ∷ written_args new → HasFirst (one.Written w) old new
  takes_written w none same = record {
    splits = λ bags ys h. (written_arg w, written_args new, only_written bags old ys none h ∙ same, refl, are_written bags new gone);
    was = none;
    left = gone;
    written = same;
    fewer =
        (let before : length (option_to_list old.before) ≡ 0 = ap (λ o. length (option_to_list o)) none in
        let after : length (option_to_list new.before) ≡ 0 = ap (λ o. length (option_to_list o)) gone in
        let rest : length (written_args old) ≡ suc (length (written_args new)) = ap length same in omega (arith, before, after, rest));
  }

-- what is written, by its parts
abbrev pub in_row : List Arg → List Arg → Option (Bor ClosureExpr) → List meaning.Arg
in_row os xs c = map arg_of os ++ (map arg_of xs ++ closure_args c)

-- ---- the first without a name

labelled : (n : Option (Place × List ℕ)) (x : meaning.Arg) (xs : List meaning.Arg) (r : Option Receiver) → is_some n ≡ true → receiver_or n x xs r ≡ and_other x r
labelled (Some n) x xs r h = refl
labelled None x xs r h = absurd (false≢true h)

unlabelled : (n : Option (Place × List ℕ)) (x : meaning.Arg) (xs : List meaning.Arg) (r : Option Receiver) → is_some n ≡ false → receiver_or n x xs r ≡ Some (record { of = x; others = xs })
unlabelled None x xs r h = refl
unlabelled (Some n) x xs r h = absurd (true≢false h)

pub none_receives : (xs : List Arg) → AreNamed xs → receiver (map arg_of xs) ≡ None
none_receives [] h = refl
none_receives (x ∷ xs) h = labelled x.name (arg_of x) (map arg_of xs) (receiver (map arg_of xs)) h.0 ∙ ap (and_other (arg_of x)) (none_receives xs h.1)

later_receives : (xs : List Arg) (ys : List meaning.Arg) (y : meaning.Arg) (more : List meaning.Arg) → AreNamed xs → receiver ys ≡ Some (record { of = y; others = more })
    → receiver (map arg_of xs ++ ys) ≡ Some (record { of = y; others = map arg_of xs ++ more })
later_receives [] ys y more h k = k
later_receives (x ∷ xs) ys y more h k =
    labelled x.name (arg_of x) (map arg_of xs ++ ys) (receiver (map arg_of xs ++ ys)) h.0 ∙ ap (and_other (arg_of x)) (later_receives xs ys y more h.1 k)

here_receives : (y : meaning.Arg) (more : List meaning.Arg) → y.label ≡ None → receiver (y ∷ more) ≡ Some (record { of = y; others = more })
here_receives y more none = unlabelled y.label y more (receiver more) (ap is_some none)

map_more : (xs : List Arg) (y : Arg) (zs : List Arg) (c : List meaning.Arg) → map arg_of (xs ++ y ∷ zs) ++ c ≡ map arg_of xs ++ (arg_of y ∷ (map arg_of zs ++ c))
map_more [] y zs c = refl
map_more (x ∷ xs) y zs c = ap (λ ws. arg_of x ∷ ws) (map_more xs y zs c)

no_label : (n : Option (Place × List ℕ)) → is_some n ≡ false → n ≡ None
no_label None h = refl
no_label (Some n) h = absurd (true≢false h)

module _ (old new : Args) (gone : new.before ≡ None) where
  pub receives_before : (b : Before) → old.before ≡ Some b → written_args old ≡ written_args new → HasReceiver (one.Before b) old new
  receives_before b is same = record {
    splits = λ bags ys h.
        (let it = before_first bags old b ys is h in (
          it.0,
          written_args new,
          ap receiver (it.1 ∙ ap (λ xs. it.0 ∷ xs) same) ∙ here_receives it.0 (written_args new) it.2.label,
          it.2,
          are_written bags new gone,
        ));
    was = is;
    left = gone;
    front = [];
    back = written_args new;
    written = same;
    others = refl;
  }

  pub receives_arg : (x : Bor Arg) (c : Option (Bor ClosureExpr)) (all before after : List Arg) → old.before ≡ None → IsAroundFirst all before x.now after
      → written_args old ≡ in_row [] all c → written_args new ≡ in_row before after c → HasReceiver (one.Written (written.Arg x)) old new
  receives_arg x c all before after none split was is = record {
    splits = λ bags ys h.
        (let rest = map arg_of after ++ closure_args c in
        let seen : ys ≡ map arg_of before ++ (arg_of x.now ∷ rest) =
        only_written bags old ys none h ∙ was ∙ ap (λ xs. map arg_of xs ++ closure_args c) split.whole ∙ map_more before x.now after (closure_args c) in
        let here : receiver (arg_of x.now ∷ rest) ≡ Some (record { of = arg_of x.now; others = rest }) = here_receives (arg_of x.now) rest (no_label x.now.name split.unnamed) in (
          arg_of x.now,
          written_args new,
          ap receiver seen ∙ later_receives before (arg_of x.now ∷ rest) (arg_of x.now) rest split.named here
              ∙ ap (λ ws. Some (record { of = arg_of x.now; others = ws })) (sym is),
          refl,
          are_written bags new gone,
        ));
    was = none;
    left = gone;
    front = map arg_of before;
    back = map arg_of after ++ closure_args c;
    written = was ∙ ap (λ xs. map arg_of xs ++ closure_args c) split.whole ∙ map_more before x.now after (closure_args c);
    others = is;
  }

  pub receives_closure : (c : Bor ClosureExpr) (xs : List Arg) → old.before ≡ None → AreNamed xs → written_args old ≡ in_row [] xs (Some c) → written_args new ≡ in_row [] xs None
      → HasReceiver (one.Written (written.Closure c)) old new
  receives_closure c xs none named was is = record {
    splits = λ bags ys h. (
      closure_arg c.now,
      written_args new,
      ap receiver (only_written bags old ys none h ∙ was)
          ∙ later_receives xs (closure_arg c.now ∷ []) (closure_arg c.now) [] named (here_receives (closure_arg c.now) [] (closure_label c.now))
          ∙ ap (λ ws. Some (record { of = closure_arg c.now; others = ws })) (sym is),
      refl,
      are_written bags new gone,
    );
    was = none;
    left = gone;
    front = map arg_of xs;
    back = [];
    written = was;
    others = is;
  }

pub receives_none : (old : Args) (xs : List Arg) → old.before ≡ None → AreNamed xs → written_args old ≡ in_row [] xs None → (bags : Bags) (ys : List meaning.Arg) → AreArgs bags old ys → receiver ys ≡ None
receives_none old xs none named was bags ys h = ap receiver (only_written bags old ys none h ∙ was ∙ append-nil (map arg_of xs)) ∙ none_receives xs named

-- ---- a loop that looks for one without a name

pub named_more : (xs : List Arg) (i : ℕ) (x : Arg) → i < length xs → x ≡ get_or xs i x → has_name x ≡ true → AreNamed (take i xs) → AreNamed (take (suc i) xs)
named_more [] i x lt is h k = absurd (omega arith)
named_more (y ∷ ys) zero x lt is h k = (ap has_name (sym is) ∙ h, tt)
named_more (y ∷ ys) (suc i) x lt is h k = (k.0, named_more ys i x (omega arith) is h k.1)

-- ---- how many have no name

abbrev pub one_if : Bool → ℕ
one_if b = if b then 1 else 0

unnamed-append : (xs ys : List meaning.Arg) → unnamed (xs ++ ys) ≡ unnamed xs + unnamed ys
unnamed-append [] ys = sym (zero-add (unnamed ys))
unnamed-append (x ∷ xs) ys = ap (λ k. is_unnamed x.label + k) (unnamed-append xs ys) ∙ sym (add_assoc (is_unnamed x.label) (unnamed xs) (unnamed ys))

unnamed_before : (bags : Bags) (o : Option Before) (ys : List meaning.Arg) → AreBefore bags o ys → unnamed ys ≡ one_if (is_some o)
unnamed_before bags None ys h = ap unnamed h
unnamed_before bags (Some b) ys h = ap unnamed h.1 ∙ ap (λ n. is_unnamed n + 0) h.2.label

unnamed_closure : (o : Option (Bor ClosureExpr)) → unnamed (closure_args o) ≡ one_if (is_some o)
unnamed_closure None = refl
unnamed_closure (Some c) = ap (λ n. is_unnamed n + 0) (closure_label c.now)

pub unnamed_is : (bags : Bags) (x : Args) (ys : List meaning.Arg) → AreArgs bags x ys
    → unnamed ys ≡ one_if (is_some x.before) + (unnamed (map arg_of x.options.now) + (unnamed (map arg_of x.args.now) + one_if (is_some x.closure)))
unnamed_is bags x ys h =
    let os = map arg_of x.options.now in
    let xs = map arg_of x.args.now in
    let c = closure_args x.closure in
    let whole = unnamed-append h.before (os ++ (xs ++ c)) in
    let later = unnamed-append os (xs ++ c) in
    let last = unnamed-append xs c in
    let first = unnamed_before bags x.before h.before h.flows in
    let closure = unnamed_closure x.closure in
    let all : unnamed ys ≡ unnamed (h.before ++ (os ++ (xs ++ c))) = ap unnamed h.all in omega (arith, all, whole, later, last, first, closure)
