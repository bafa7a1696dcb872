-- What a workflow's body knows as it begins.
use Rattle.std.proofs.Common.{◌≡◌, ◌<◌, ◌≤◌, ◌+◌, ℕ, zero, suc, Bool, true, false, Option, Some, None, List, [], ◌∷◌, ◌++◌, map, length, get_or, take, refl, sym, ap, subst, ◌∙◌, arith}
use Rattle.std.specs.Prelude.{bytes_eq, if◌then◌else◌}
use Rattle.std.proofs.lemmas.List.{length-map, length-take-le, map-append, take_all}
use Rattle.nf_value.specs.declared.place.Place.{Place}
use Rattle.nf_ast.specs.Tree.{Tree}
use Rattle.nf_ast.specs.View.{name_tree}
use Rattle.nf_graph.specs.Meaning.{Bags}
use Rattle.nf_graph.specs.Node.{port_in}
use Rattle.nf_graph.specs.declared.port.Port.{Port}
use Rattle.nf_meaning.specs.Nodes.{PortsStand}
use Rattle.nf_meaning.specs.Script.{bound}
use Rattle.nf_meaning.specs.Stands.{StandsFor, ThingStands}
use Rattle.nf_meaning.specs.Things.{Channel, Thing as Meant, a_channel, thing_named}
use Rattle.nf_placed.specs.Body.{name_in}
use Rattle.nf_scopes.specs.declared.things.Thing.{Thing}
use Rattle.nf_scopes.specs.declared.things.Thing.TheVariants as thing
use Rattle.nf_scopes.specs.Tables.{FoundStands, Names as Named, Puts, Table, TableStands, held}
use Rattle.nf_scopes.specs.Things.{thing_of}
use Rattle.nf_takes.specs.Takes.{OnlyPorts}
use Rattle.nf_takes.proofs.Taken.{Names, taken_one}

-- ---- one name more

found_more : (bags : Bags) (key n : List ℕ) (t : Thing) (u : Meant) (old : Option Thing) (names : Option Meant) (b : Bool) → bytes_eq key n ≡ b → ThingStands bags (thing_of t) u → FoundStands bags old names
    → FoundStands bags (if bytes_eq key n then Some t else old) (if bytes_eq key n then Some u else names)
found_more bags key n t u old names true e h rest = rw e h
found_more bags key n t u old names false e h rest = rw e rest

more_stands : (bags : Bags) (key : List ℕ) (t : Thing) (u : Meant) (old new : Table) (names : Named) → Puts key t old new → ThingStands bags (thing_of t) u → TableStands bags old names
    → TableStands bags new ((key, u) ∷ names)
more_stands bags key t u old new names puts h stands n =
    subst (λ o. FoundStands bags o (if bytes_eq key n then Some u else thing_named n names)) (sym (puts n))
    (found_more bags key n t u (held n old) (thing_named n names) (bytes_eq key n) refl h (stands n))

-- ---- names with the channels at their places

-- so many channels
abbrev pub channel_at : List Channel → ℕ → Option Channel
channel_at [] i = None
channel_at (c ∷ cs) zero = Some c
channel_at (c ∷ cs) (suc i) = channel_at cs i

abbrev pub with_channel : Tree → Option Channel → Named → Named
with_channel n (Some c) bs = (name_in n, a_channel c) ∷ bs
with_channel n None bs = bs

bound_last : (ns : List Tree) (n : Tree) (cs : List Channel) → bound (ns ++ n ∷ []) cs ≡ with_channel n (channel_at cs (length ns)) (bound ns cs)
bound_last [] n [] = refl
bound_last [] n (c ∷ cs) = refl
bound_last (m ∷ ns) n [] = refl
bound_last (m ∷ ns) n (c ∷ cs) =
    ap (λ l. l ++ (name_in m, a_channel c) ∷ []) (bound_last ns n cs) ∙ moved (channel_at cs (length ns)) (bound ns cs)
  where
    moved : (o : Option Channel) (bs : Named) → with_channel n o bs ++ (name_in m, a_channel c) ∷ [] ≡ with_channel n o (bs ++ (name_in m, a_channel c) ∷ [])
    moved (Some d) bs = refl
    moved None bs = refl

-- ---- the loop

pub record IsBinding (ns : Names) (ports : List Port) (i : ℕ) (es : Table) : Type 0 where
  pub stands : (bags : Bags) (cs : List Channel) → PortsStand bags ports cs → TableStands bags es (bound (map name_tree (take i ns)) cs)
  pub only : OnlyPorts ports es

pub binds_none : (ns : Names) (ports : List Port) (es : Table) → ((n : List ℕ) → held n es ≡ None) → IsBinding ns ports 0 es
binds_none ns ports es none = record {
  stands = λ bags cs h n. subst (λ o. FoundStands bags o (thing_named n (bound (map name_tree (take 0 ns)) cs))) (sym (none n)) (at_none bags n cs);
  only = λ n t e. absurd (let f : None ≡ Some t = sym (none n) ∙ e in cc);
}
  where
    at_none : (bags : Bags) (n : List ℕ) (cs : List Channel) → FoundStands bags None (thing_named n (bound [] cs))
    at_none bags n cs = tt

-- a port for the channel at its place
port_stands : (bags : Bags) (ports : List Port) (cs : List Channel) (i : ℕ) → PortsStand bags ports cs → i < length ports → (c : Channel) × (channel_at cs i ≡ Some c) × StandsFor bags (port_in ports i) c
port_stands bags [] cs i s h = absurd (omega arith)
port_stands bags (p ∷ ps) [] i s h = absurd s
port_stands bags (p ∷ ps) (c ∷ cs) zero s h = (c, refl, s.0)
port_stands bags (p ∷ ps) (c ∷ cs) (suc i) s h = port_stands bags ps cs i s.1 (omega arith)

no_channel : (bags : Bags) (ports : List Port) (cs : List Channel) (i : ℕ) → PortsStand bags ports cs → length ports ≤ i → channel_at cs i ≡ None
no_channel bags [] [] i s h = refl
no_channel bags [] (c ∷ cs) i s h = absurd s
no_channel bags (p ∷ ps) [] i s h = refl
no_channel bags (p ∷ ps) (c ∷ cs) zero s h = absurd (omega arith)
no_channel bags (p ∷ ps) (c ∷ cs) (suc i) s h = no_channel bags ps cs i s.1 (omega arith)

abbrev or_nothing : Option Thing → Thing
or_nothing (Some t) = t
or_nothing None = thing.Channel (port_in [] 0)

thing_in : {t u : Thing} → Some t ≡ Some u → t ≡ u
thing_in e = ap or_nothing e

-- one name more, in the meaning
module _ (ns : Names) (ports : List Port) (i : ℕ) (n : Place × List ℕ) (h : i < length ns) (is : n ≡ get_or ns i n) where
  count : length (map name_tree (take i ns)) ≡ i
  count = length-map (take i ns) name_tree ∙ length-take-le i ns (omega arith)

  bound_more : (cs : List Channel) (o : Option Channel) → channel_at cs i ≡ o
      → bound (map name_tree (take (i + 1) ns)) cs ≡ with_channel (name_tree n) o (bound (map name_tree (take i ns)) cs)
  bound_more cs o at =
      ap (λ l. bound l cs) (ap (map name_tree) (taken_one ns i n h is) ∙ map-append name_tree (take i ns) (n ∷ []))
      ∙ bound_last (map name_tree (take i ns)) (name_tree n) cs
      ∙ ap (λ k. with_channel (name_tree n) (channel_at cs k) (bound (map name_tree (take i ns)) cs)) count
      ∙ ap (λ q. with_channel (name_tree n) q (bound (map name_tree (take i ns)) cs)) at

  pub binds_port : (old new : Table) → i < length ports → Puts n.1 (thing.Channel (port_in ports i)) old new → IsBinding ns ports i old → IsBinding ns ports (i + 1) new
  binds_port old new within puts b = record {
    stands = λ bags cs s.
        (let p = port_stands bags ports cs i s within in
        subst (λ l. TableStands bags new l) (sym (bound_more cs (Some p.0) p.1))
        (more_stands bags n.1 (thing.Channel (port_in ports i)) (a_channel p.0) old new (bound (map name_tree (take i ns)) cs) puts p.2 (b.stands bags cs s)));
    only = λ m t e. only_by m t (bytes_eq n.1 m) refl (sym (puts m) ∙ e);
  }
    where
      only_by : (m : List ℕ) (t : Thing) (c : Bool) → bytes_eq n.1 m ≡ c → (if bytes_eq n.1 m then Some (thing.Channel (port_in ports i)) else held m old) ≡ Some t
          → (k : ℕ) × (k < length ports) × (t ≡ thing.Channel (port_in ports k))
      only_by m t true e f = (i, within, sym (thing_in (sym (ap (λ d. if d then Some (thing.Channel (port_in ports i)) else held m old) e) ∙ f)))
      only_by m t false e f = b.only m t (sym (ap (λ d. if d then Some (thing.Channel (port_in ports i)) else held m old) e) ∙ f)

  pub binds_past : (old : Table) → length ports ≤ i → IsBinding ns ports i old → IsBinding ns ports (i + 1) old
  binds_past old past b = record {
    stands = λ bags cs s. subst (λ l. TableStands bags old l) (sym (bound_more cs None (no_channel bags ports cs i s past))) (b.stands bags cs s);
    only = b.only;
  }

pub binds_all : (ns : Names) (ports : List Port) (i : ℕ) (es : Table) → length ns ≤ i → IsBinding ns ports i es
    → (bags : Bags) (cs : List Channel) → PortsStand bags ports cs → TableStands bags es (bound (map name_tree ns) cs)
binds_all ns ports i es h b bags cs s = subst (λ l. TableStands bags es (bound (map name_tree l) cs)) (take_all i ns h) (b.stands bags cs s)
