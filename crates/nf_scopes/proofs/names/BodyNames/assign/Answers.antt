use Rattle.std.proofs.Common.{◌≡◌, ◌∙◌, ◌++◌, ◌∷◌, [], suc, map, take, drop, get_or, string_bytes, true, false, is_some, refl, sym, ap, subst, append_assoc, rules}
use Rattle.nf_scopes.specs.Last.{IsLast}
use Rattle.nf_scopes.specs.Standing.{BlocksStand}
use Rattle.nf_scopes.specs.Tables.{held, Puts, NoneHas}
use Rattle.nf_scopes.proofs.Bodies.{whole, assigned_block, assigned_names}
use Rattle.nf_scopes.proofs.Holding.{holds_put, holds_named}
use Rattle.nf_scopes.proofs.Places.{entries_of, entries_at, puts_of, last_at, within, one_table_set, none_after}
use Rattle.nf_scopes.proofs.names.BodyNames.assign.Goals as goal

pub returns-then-contains_key : goal.returns-then-contains_key
returns-then-contains_key c =
    let key = c.args.name.now in
    let old = c.args.self.now.inner in
    let new = c.insert.new.self in
    let same : string_bytes c.in_ok-key.key ≡ key = search rules in
    let there : is_some (held key old.entries) ≡ true = sym c.contains_key.ensures ∙ c.if-contains_key.true in
    let puts : Puts key c.args.thing old.entries new.entries = puts_of old new c.in_ok-key.key key c.args.thing same c.in_ok-insert.ensures.updates in
    let tables = map entries_of c.args.self.now.outer.items in
    record {
      stands = λ bags around s t stands h. assigned_block bags around key c.args.thing t stands s _ tables [] old.entries new.entries h.braces h.names refl there tt puts;
      holds = holds_put key c.args.thing old.entries new.entries puts c.args.self.now _ tables [] refl refl refl;
    }

pub returns-in_ok-insert-in-Some : goal.returns-in_ok-insert-in-Some
returns-in_ok-insert-in-Some c =
    let key = c.args.name.now in
    let es = c.args.self.now.inner.entries in
    let outer = c.args.self.now.outer.items in
    let ess = map entries_of outer in
    let i = c.in-Some.place in
    let old = c.index_mut.result.now in
    let new = c.insert-in-Some.new.self in
    let same : string_bytes c.in_ok-key.key ≡ key = search rules in
    let absent : is_some (held key es) ≡ false = sym c.contains_key.ensures ∙ c.if-contains_key.false in
    let last : IsLast key i ess = last_at key c.deref.result.now outer i c.deref.ensures.value c.in-Some.ensures in
    let here : get_or ess i [] ≡ old.entries = entries_at outer i old (within key outer i last) c.index_mut.ensures.value in
    let puts : Puts key c.args.thing (get_or ess i []) new.entries =
    subst (λ xs. Puts key c.args.thing xs new.entries) (sym here) (puts_of old new c.in_ok-key.key key c.args.thing same c.in_ok-insert-in-Some.ensures.updates) in
    let after = drop (suc i) ess ++ es ∷ [] in
    record {
      stands = λ bags around s t stands h.
          (let parts : BlocksStand bags (around ++ s.defined ∷ []) (take i ess ++ get_or ess i [] ∷ after) s.own =
          subst (λ xs. BlocksStand bags (around ++ s.defined ∷ []) xs s.own) (whole bags key ess es i last.place) h.braces in
          assigned_block bags around key c.args.thing t stands s _ (take i ess) after (get_or ess i []) new.entries parts h.names (ap (λ xs. xs ++ es ∷ []) (one_table_set outer i new (within key outer i last)) ∙ append_assoc (take i ess) (new.entries ∷ drop (suc i) ess) (es ∷ []))
          last.here (none_after key (drop (suc i) ess) (es ∷ []) last.later (absent, tt)) puts);
      holds = holds_put key c.args.thing (get_or ess i []) new.entries puts c.args.self.now _ (take i ess) after refl (whole (λ j out. []) key ess es i last.place) (ap (λ xs. xs ++ es ∷ []) (one_table_set outer i new (within key outer i last)) ∙ append_assoc (take i ess) (new.entries ∷ drop (suc i) ess) (es ∷ []));
    }

pub returns-in_ok-insert-in-None : goal.returns-in_ok-insert-in-None
returns-in_ok-insert-in-None c =
    let key = c.args.name.now in
    let es = c.args.self.now.inner.entries in
    let outer = c.args.self.now.outer.items in
    let old = c.args.self.now.names in
    let new = c.insert-in-None.new.self in
    let same : string_bytes c.in_ok-key.key ≡ key = search rules in
    let absent : is_some (held key es) ≡ false = sym c.contains_key.ensures ∙ c.if-contains_key.false in
    let nowhere : NoneHas key (map entries_of outer) = subst (λ ms. NoneHas key (map entries_of ms)) c.deref.ensures.value c.in-None.ensures in
    let puts : Puts key c.args.thing old.entries new.entries = puts_of old new c.in_ok-key.key key c.args.thing same c.in_ok-insert-in-None.ensures.updates in
    record {
      stands = λ bags around s t stands h. assigned_names bags around key c.args.thing t stands s _ (map entries_of outer) es old.entries h.braces refl absent nowhere h.names puts;
      holds = holds_named key c.args.thing old.entries new.entries puts c.args.self.now _ refl refl refl;
    }
