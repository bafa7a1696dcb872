-- What stands before a pipe is the first argument, whatever it stands for: the others are written.
use Rattle.std.proofs.Common.{◌≡◌, ◌∙◌, List, [], ◌∷◌, ◌++◌, Option, Some, None, refl, sym, ap, subst}
use Rattle.nf_ast.specs.Tree as tree
use Rattle.nf_graph.specs.declared.port.Port.{Port}
use Rattle.nf_graph.specs.Meaning.{Bags, bag_of}
use Rattle.nf_meaning.specs.Arguments as meaning
use Rattle.nf_meaning.specs.Stands.{OutputsStand, PortOutput, PortThing, StandsFor, ThingStands, known, read, results}
use Rattle.nf_meaning.specs.Things.{Channel, Output, Thing, a_channel, a_value, outputs}
use Rattle.nf_meaning.specs.Walk.{gives}
use Rattle.nf_scopes.specs.Things.{thing_of}
use Rattle.nf_arguments.specs.declared.args.Args.{Args}
use Rattle.nf_arguments.specs.declared.args.Before.{Before}
use Rattle.nf_arguments.specs.Args.{AreArgs, AreBefore, IsBefore, written_args}

-- ---- something of the meaning for a thing in memory

channel_for : Bags → Port → Channel
channel_for bags p = record { is_value = p.value; bag = bag_of bags p }

channel_stands : (bags : Bags) (p : Port) → StandsFor bags p (channel_for bags p)
unfolding channel_for
channel_stands bags p = record { kind = refl; bag = refl }

outputs_for : (bags : Bags) (os : List PortOutput) → (qs : List Output) × OutputsStand bags os qs
outputs_for bags [] = ([], tt)
outputs_for bags (o ∷ os) =
    let more = outputs_for bags os in
    (record { label = o.label; channel = channel_for bags o.port } ∷ more.0, (record { label = refl; channel = channel_stands bags o.port }, more.1))

thing_for : (bags : Bags) (t : PortThing) → (y : Thing) × ThingStands bags t y
thing_for bags (known v) = (a_value v, refl)
thing_for bags (read p) = (a_channel (channel_for bags p), channel_stands bags p)
thing_for bags (results os) = let given = outputs_for bags os in (outputs given.0, given.1)

before_for : (bags : Bags) (b : Before) → (y : meaning.Arg) × IsBefore bags b y
before_for bags b =
    let it = thing_for bags (thing_of b.thing) in (
      record { label = None; tree = tree.null b.place; thing = gives it.0 },
      record { label = refl; place = refl; value = refl; thing = it.0; gives_it = refl; stands = it.1 },
    )

-- ---- the others

abbrev rest : List meaning.Arg → List meaning.Arg
rest [] = []
rest (x ∷ xs) = xs

no_bags : Bags
no_bags i out = []

pub written_after : (x y : Args) (b : Before) → x.before ≡ None → y.before ≡ Some b
    → ((bags : Bags) (xs ys : List meaning.Arg) → AreBefore bags (Some b) xs → AreArgs bags x ys → AreArgs bags y (xs ++ ys)) → written_args x ≡ written_args y
written_after x y b none is are =
    let z = before_for no_bags b in
    let P : Option Before → Type 0 = λ o. AreBefore no_bags o [] in
    let written : AreArgs no_bags x (written_args x) = record { before = []; flows = subst P (sym none) refl; all = refl } in
    let h = are no_bags (z.0 ∷ []) (written_args x) (z.0, refl, z.1) written in
    let Q : Option Before → Type 0 = λ o. AreBefore no_bags o h.before in
    let it : AreBefore no_bags (Some b) h.before = subst Q is h.flows in
    ap rest (h.all ∙ ap (λ bs. bs ++ written_args y) it.1)
