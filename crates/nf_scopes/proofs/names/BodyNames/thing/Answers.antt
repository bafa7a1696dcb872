use Rattle.std.proofs.Common.{◌≡◌, ◌∙◌, ◌++◌, ◌∷◌, [], map, false, is_some, None, Some, inl, inr, sym, ap, subst, rules}
use Rattle.std.specs.Option.{option_copied}
use Rattle.nf_meaning.specs.Things.{thing_named}
use Rattle.nf_scopes.specs.Last.{IsLast}
use Rattle.nf_scopes.specs.Tables.{held, FoundStands, NoneHas}
use Rattle.nf_scopes.proofs.Bodies.{looked_inside, looked_around, looked_beyond}
use Rattle.nf_scopes.specs.Held.{Holds}
use Rattle.nf_scopes.proofs.Holding.{one_before, one_last, one_at, some_held}
use Rattle.nf_scopes.proofs.Places.{entries_of, entries_at, last_at, within}
use Rattle.nf_scopes.proofs.names.BodyNames.thing.Goals as goal

pub returns-in-Some : goal.returns-in-Some
returns-in-Some c =
    let key = c.args.name.now in
    let es = c.args.self.now.inner.entries in
    let found : held key es ≡ Some c.in-Some.thing.now = sym c.get.ensures.value ∙ ap option_copied c.in-Some.is in
    let tables = map entries_of c.args.self.now.outer.items in
    record {
      stands = λ bags around s h. subst (λ o. FoundStands bags o (thing_named key (s.own ++ s.names))) found
          (looked_inside bags key tables es (around ++ s.defined ∷ []) s.own s.names h.braces (ap is_some found));
      holds = inr (one_last tables es key c.in-Some.thing.now found);
    }

pub returns-in-Some-last_with : goal.returns-in-Some-last_with
returns-in-Some-last_with c =
    let key = c.args.name.now in
    let es = c.args.self.now.inner.entries in
    let outer = c.args.self.now.outer.items in
    let i = c.in-Some-last_with.place in
    let none : c.get.result ≡ None = search rules in
    let absent : is_some (held key es) ≡ false = ap is_some (sym c.get.ensures.value ∙ ap option_copied none) in
    let last : IsLast key i (map entries_of outer) = last_at key c.deref.result.now outer i c.deref.ensures.value c.in-Some-last_with.ensures in
    let here = entries_at outer i c.index.result.now (within key outer i last) c.index.ensures in
    record {
      stands = λ bags around s h. subst (λ o. FoundStands bags o (thing_named key (s.own ++ s.names))) (ap (held key) here ∙ sym c.get-in-Some-last_with.ensures.value)
          (looked_around bags key (map entries_of outer) es (around ++ s.defined ∷ []) s.own s.names i h.braces absent last);
      holds = some_held c.get-in-Some-last_with.result (held key c.index.result.now.entries) (λ t. Holds c.args.self.now key t) c.get-in-Some-last_with.ensures.value
          (λ t e. inr (one_before (map entries_of outer) (es ∷ []) key t (one_at (map entries_of outer) i key t last.place (ap (held key) here ∙ e))));
    }

pub returns-in-None : goal.returns-in-None
returns-in-None c =
    let key = c.args.name.now in
    let es = c.args.self.now.inner.entries in
    let outer = c.args.self.now.outer.items in
    let none : c.get.result ≡ None = search rules in
    let absent : is_some (held key es) ≡ false = ap is_some (sym c.get.ensures.value ∙ ap option_copied none) in
    let nowhere : NoneHas key (map entries_of outer) = subst (λ ms. NoneHas key (map entries_of ms)) c.deref.ensures.value c.in-None.ensures in
    record {
      stands = λ bags around s h. subst (λ o. FoundStands bags o (thing_named key (s.own ++ s.names))) (sym c.get-in-None.ensures.value)
          (looked_beyond bags key (map entries_of outer) es (around ++ s.defined ∷ []) s.own s.names c.args.self.now.names.entries h.braces absent nowhere h.names);
      holds = some_held c.get-in-None.result (held key c.args.self.now.names.entries) (λ t. Holds c.args.self.now key t) c.get-in-None.ensures.value (λ t e. inl e);
    }
