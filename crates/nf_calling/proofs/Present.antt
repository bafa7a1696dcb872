-- The arguments that are left in memory stand for some of the meaning, whatever the bags: so they are counted.
use Rattle.std.proofs.Common.{◌≡◌, ◌+◌, ◌++◌, ℕ, suc, List, [], ◌∷◌, length, refl, sym, ap, ◌∙◌, arith}
use Rattle.std.specs.Prelude.{Option, Some, None}
use Rattle.std.specs.Option.{option_to_list}
use Rattle.std.proofs.lemmas.List.{length-append}
use Rattle.nf_ast.specs.Tree as tree
use Rattle.nf_graph.specs.declared.port.Port.{Port}
use Rattle.nf_graph.specs.Meaning.{Bags, bag_of}
use Rattle.nf_meaning.specs.Arguments.{Arg}
use Rattle.nf_meaning.specs.Stands.{OutputsStand, PortOutput, PortThing, StandsFor, ThingStands, known, read, results}
use Rattle.nf_meaning.specs.Things.{Channel, Output, Thing, a_channel, a_value, outputs}
use Rattle.nf_meaning.specs.Walk.{gives}
use Rattle.nf_scopes.specs.Things.{thing_of}
use Rattle.nf_arguments.specs.declared.args.Args.{Args}
use Rattle.nf_arguments.specs.declared.args.Before.{Before}
use Rattle.nf_arguments.specs.declared.one.One.{One}
use Rattle.nf_arguments.specs.declared.one.One.TheVariants as one
use Rattle.nf_arguments.specs.Args.{AreArgs, AreBefore, HasFirst, IsBefore, before_in, count_in, written_args, written_in}

-- ---- things

channel_for : Bags → Port → Channel
channel_for bags p = record { is_value = p.value; bag = bag_of bags p }

channel_stands : (bags : Bags) (p : Port) → StandsFor bags p (channel_for bags p)
unfolding channel_for
channel_stands bags p = record { kind = refl; bag = refl }

outputs_for : (bags : Bags) (os : List PortOutput) → (qs : List Output) × OutputsStand bags os qs
outputs_for bags [] = ([], tt)
outputs_for bags (o ∷ os) =
    let more = outputs_for bags os in
    (record { label = o.label; channel = channel_for bags o.port } ∷ more.0, (record { label = refl; channel = channel_stands bags o.port }, more.1))

thing_for : (bags : Bags) (t : PortThing) → (y : Thing) × ThingStands bags t y
thing_for bags (known v) = (a_value v, refl)
thing_for bags (read p) = (a_channel (channel_for bags p), channel_stands bags p)
thing_for bags (results os) = let given = outputs_for bags os in (outputs given.0, given.1)

-- ---- arguments

before_for : (bags : Bags) (b : Before) → (y : Arg) × IsBefore bags b y
before_for bags b =
    let it = thing_for bags (thing_of b.thing) in (
      record { label = None; tree = tree.null b.place; thing = gives it.0 },
      record { label = refl; place = refl; value = refl; thing = it.0; gives_it = refl; stands = it.1 },
    )

befores_for : (bags : Bags) (o : Option Before) → (ys : List Arg) × AreBefore bags o ys × (length ys ≡ length (option_to_list o))
befores_for bags None = ([], refl, refl)
befores_for bags (Some b) = let it = before_for bags b in (it.0 ∷ [], (it.0, refl, it.1), refl)

-- in whatever bags there are such arguments, and as many
args_for : (bags : Bags) (x : Args) → (ys : List Arg) × AreArgs bags x ys × (length ys ≡ count_in x)
args_for bags x =
    let it = befores_for bags x.before in
    (it.0 ++ written_args x, record { before = it.0; flows = it.1; all = refl }, length-append it.0 (written_args x) ∙ ap (λ k. k + length (written_args x)) it.2)

no_bags : Bags
no_bags i out = []

pub counted_by : (x : Args) (k : ℕ) → ((bags : Bags) (ys : List Arg) → AreArgs bags x ys → k ≡ length ys) → k ≡ count_in x
counted_by x k h = let it = args_for no_bags x in h no_bags it.0 it.1 ∙ it.2

-- ---- one after the other

pub none_left : (x : Args) → ((bags : Bags) (ys : List Arg) → AreArgs bags x ys → ys ≡ []) → count_in x ≡ 0
none_left x h = let it = args_for no_bags x in sym it.2 ∙ ap (λ ys. length ys) (h no_bags it.0 it.1)

pub one_less : (x : One) (old new : Args) → HasFirst x old new → count_in old ≡ suc (count_in new)
one_less x old new h =
    ap (λ o. length (option_to_list o) + length (written_args old)) h.was ∙ ap (λ ws. length (option_to_list (before_in x)) + length ws) h.written
    ∙ by x ∙ sym (ap (λ o. suc (length (option_to_list o) + length (written_args new))) h.left)
  where
    by : (y : One) → length (option_to_list (before_in y)) + length (written_in y ++ written_args new) ≡ suc (length (option_to_list {X = Before} None) + length (written_args new))
    by (one.Before b) = omega arith
    by (one.Written w) = omega arith
