-- Trees without their places.
use Rattle.nf_value.specs.declared.place.Place.{Place}
use Rattle.nf_ast.specs.Tree as tree
use Rattle.nf_ast.specs.Tree.{Tree, empty, cons, point, name}

-- the place that stands for every other
abbrev pub nowhere : Place
nowhere = record { line = 0; col = 0 }

-- the same tree with each place replaced, so that two trees differ in places alone where these are equal
abbrev pub bare : Tree → Tree
bare empty = empty
bare (cons x xs) = cons (bare x) (bare xs)
bare (point p) = point nowhere
bare (name p s) = name nowhere s
bare (tree.number p n) = tree.number nowhere n
bare (tree.text p q s) = tree.text nowhere q s
bare (tree.pattern p s) = tree.pattern nowhere s
bare (tree.template p q xs) = tree.template nowhere q (bare xs)
bare (tree.piece p s) = tree.piece nowhere s
bare (tree.hole p e) = tree.hole nowhere (bare e)
bare (tree.truth p b) = tree.truth nowhere b
bare (tree.null p) = tree.null nowhere
bare (tree.list p xs) = tree.list nowhere (bare xs)
bare (tree.map p xs) = tree.map nowhere (bare xs)
bare (tree.pair n e) = tree.pair (bare n) (bare e)
bare (tree.closure p ps xs) = tree.closure nowhere (bare ps) (bare xs)
bare (tree.params ns) = tree.params (bare ns)
bare (tree.label n e) = tree.label (bare n) (bare e)
bare (tree.prefix p x e) = tree.prefix nowhere x (bare e)
bare (tree.binary p x a b) = tree.binary nowhere x (bare a) (bare b)
bare (tree.conditional p c a b) = tree.conditional nowhere (bare c) (bare a) (bare b)
bare (tree.elvis p a b) = tree.elvis nowhere (bare a) (bare b)
bare (tree.property e n) = tree.property (bare e) (bare n)
bare (tree.safe_property e n) = tree.safe_property (bare e) (bare n)
bare (tree.index p e x) = tree.index nowhere (bare e) (bare x)
bare (tree.call p e xs) = tree.call nowhere (bare e) (bare xs)
bare (tree.named n e) = tree.named (bare n) (bare e)
bare (tree.call_with e c) = tree.call_with (bare e) (bare c)
bare (tree.define p n e) = tree.define nowhere (bare n) (bare e)
bare (tree.define_all p ns e) = tree.define_all nowhere (bare ns) (bare e)
bare (tree.assign n e) = tree.assign (bare n) (bare e)
bare (tree.return_ p e) = tree.return_ nowhere (bare e)
bare (tree.choice p c b e) = tree.choice nowhere (bare c) (bare b) (bare e)
bare (tree.statements xs) = tree.statements (bare xs)
bare (tree.println p e) = tree.println nowhere (bare e)
bare (tree.log p n e) = tree.log nowhere (bare n) (bare e)
bare (tree.process p n ds xs ys t s) = tree.process nowhere (bare n) (bare ds) (bare xs) (bare ys) (bare t) (bare s)
bare (tree.directive n xs) = tree.directive (bare n) (bare xs)
bare (tree.section p xs) = tree.section nowhere (bare xs)
bare (tree.tuple p xs) = tree.tuple nowhere (bare xs)
bare (tree.val p e) = tree.val nowhere (bare e)
bare (tree.path p e) = tree.path nowhere (bare e)
bare (tree.stdin p) = tree.stdin nowhere
bare (tree.stdout p) = tree.stdout nowhere
bare (tree.output x os) = tree.output (bare x) (bare os)
bare (tree.workflow p n b) = tree.workflow nowhere (bare n) (bare b)
bare (tree.parts t b e) = tree.parts (bare t) (bare b) (bare e)
bare (tree.function p n ps b) = tree.function nowhere (bare n) (bare ps) (bare b)
bare (tree.parameter p n e) = tree.parameter nowhere (bare n) (bare e)
bare (tree.dsl p) = tree.dsl nowhere
