-- The names of a body, step by step.
use Rattle.std.proofs.Common.{◌≡◌, ◌∙◌, ◌<◌, ℕ, suc, Bool, true, false, if◌then◌else◌, List, [], ◌∷◌, ◌++◌, length, take, drop, get_or, is_some, Option, None, refl, sym, ap, subst, append_assoc}
use Rattle.nf_graph.specs.Meaning.{Bags}
use Rattle.nf_meaning.specs.Things.{Thing, thing_named}
use Rattle.nf_meaning.specs.Stands.{ThingStands}
use Rattle.nf_meaning.specs.Walk.{Scope, is_bound, replaced, put, assigning, defining, entering, leaving}
use Rattle.nf_scopes.specs.declared.names.BodyNames.{BodyNames}
use Rattle.nf_scopes.specs.declared.things.Thing.{Thing as Stored}
use Rattle.nf_scopes.specs.Things.{thing_of}
use Rattle.nf_scopes.specs.Tables.{Names, Table, held, Puts, FoundStands, TableStands, NoneHas}
use Rattle.nf_scopes.specs.Last.{IsLast}
use Rattle.nf_scopes.specs.Standing.{BlocksStand, tables_of, NamesStand, HasBound}
use Rattle.nf_scopes.proofs.Named.{named_append, named_later, named_put, table_put}
use Rattle.nf_scopes.proofs.Blocks.{none_bound, found_there, kept_front, some_found, assigned_there, defined_last, entered, counted, left_over}
use Rattle.nf_scopes.proofs.Places.{parted, none_after}

module _ (bags : Bags) (key : List ℕ) (ess : List Table) (es : Table) where
  -- the tables of the braces that are open
  abbrev all : List Table
  all = ess ++ es ∷ []

  -- in the innermost braces
  pub looked_inside : (nss : List (List (List ℕ))) (own names : Names) → BlocksStand bags nss all own → is_some (held key es) ≡ true → FoundStands bags (held key es) (thing_named key (own ++ names))
  looked_inside nss own names h e =
      let P : Option Thing → Type 0 = λ p. FoundStands bags (held key es) p in
      subst P (sym (named_append key own names)) (kept_front bags (held key es) (thing_named key own) (thing_named key names) (found_there bags key ess [] es nss own h e tt) e)

  -- around a place outside of them
  pub whole : (i : ℕ) → i < length ess → all ≡ take i ess ++ get_or ess i [] ∷ (drop (suc i) ess ++ es ∷ [])
  whole i h = ap (λ xs. xs ++ es ∷ []) (parted ess i h) ∙ append_assoc (take i ess) (get_or ess i [] ∷ drop (suc i) ess) (es ∷ [])

  pub looked_around : (nss : List (List (List ℕ))) (own names : Names) (i : ℕ) → BlocksStand bags nss all own → is_some (held key es) ≡ false → IsLast key i ess
      → FoundStands bags (held key (get_or ess i [])) (thing_named key (own ++ names))
  looked_around nss own names i h e last =
      let P : Option Thing → Type 0 = λ p. FoundStands bags (held key (get_or ess i [])) p in
      let parts : BlocksStand bags nss (take i ess ++ get_or ess i [] ∷ (drop (suc i) ess ++ es ∷ [])) own = subst (λ xs. BlocksStand bags nss xs own) (whole i last.place) h in
      let later : NoneHas key (drop (suc i) ess ++ es ∷ []) = none_after key (drop (suc i) ess) (es ∷ []) last.later (e, tt) in
      subst P (sym (named_append key own names))
      (kept_front bags (held key (get_or ess i [])) (thing_named key own) (thing_named key names)
      (found_there bags key (take i ess) (drop (suc i) ess ++ es ∷ []) (get_or ess i []) nss own parts last.here later) last.here)

  -- in none of them
  pub none_inside : (nss : List (List (List ℕ))) (own : Names) → BlocksStand bags nss all own → is_some (held key es) ≡ false → NoneHas key ess → thing_named key own ≡ None
  none_inside nss own h e n = none_bound bags key nss all own h (none_after key ess (es ∷ []) n (e, tt))

  pub looked_beyond : (nss : List (List (List ℕ))) (own names : Names) (table : Table) → BlocksStand bags nss all own → is_some (held key es) ≡ false → NoneHas key ess → TableStands bags table names
      → FoundStands bags (held key table) (thing_named key (own ++ names))
  looked_beyond nss own names table h e n t =
      let P : Option Thing → Type 0 = λ p. FoundStands bags (held key table) p in
      subst P (sym (named_later key own names (none_inside nss own h e n))) (t key)

-- ---- `name = ..`

module _ (bags : Bags) (around : List (List (List ℕ))) (key : List ℕ) (t : Stored) (u : Thing) (stands : ThingStands bags (thing_of t) u) (s : Scope) (x : BodyNames) where
  abbrev blocks_of : List (List (List ℕ))
  blocks_of = around ++ s.defined ∷ []

  abbrev assigned_if : Bool → Scope
  assigned_if b = if b then record s { own = replaced key u s.own } else record s { names = put key u s.names }

  in_own : is_bound key s.own ≡ true → BlocksStand bags blocks_of (tables_of x) (replaced key u s.own) → TableStands bags x.names.entries s.names → NamesStand bags around x (assigning key u s)
  in_own h blocks names = let P : Bool → Type 0 = λ b. NamesStand bags around x (assigned_if b) in subst P (sym h) (record { braces = blocks; names = names })

  in_names : is_bound key s.own ≡ false → BlocksStand bags blocks_of (tables_of x) s.own → TableStands bags x.names.entries (put key u s.names) → NamesStand bags around x (assigning key u s)
  in_names h blocks names = let P : Bool → Type 0 = λ b. NamesStand bags around x (assigned_if b) in subst P (sym h) (record { braces = blocks; names = names })

  -- of the braces in which `def` bound it
  pub assigned_block : (before after : List Table) (es es' : Table) → BlocksStand bags blocks_of (before ++ es ∷ after) s.own → TableStands bags x.names.entries s.names → tables_of x ≡ before ++ es' ∷ after
      → is_some (held key es) ≡ true → NoneHas key after → Puts key t es es' → NamesStand bags around x (assigning key u s)
  assigned_block before after es es' blocks names is e n puts =
      let bound : is_bound key s.own ≡ true = some_found bags (held key es) (thing_named key s.own) (found_there bags key before after es blocks_of s.own blocks e n) e in
      let there : BlocksStand bags blocks_of (before ++ es' ∷ after) (replaced key u s.own) = assigned_there bags key t u stands before after es es' blocks_of s.own blocks e n puts in
      in_own bound (subst (λ xs. BlocksStand bags blocks_of xs (replaced key u s.own)) (sym is) there) names

  -- of the workflow
  pub assigned_names : (ess : List Table) (es table : Table) → BlocksStand bags blocks_of (ess ++ es ∷ []) s.own → tables_of x ≡ ess ++ es ∷ [] → is_some (held key es) ≡ false → NoneHas key ess
      → TableStands bags table s.names → Puts key t table x.names.entries → NamesStand bags around x (assigning key u s)
  assigned_names ess es table blocks is e n names puts =
      let none : thing_named key s.own ≡ None = none_inside bags key ess es blocks_of s.own blocks e n in
      in_names (ap is_some none) (subst (λ xs. BlocksStand bags blocks_of xs s.own) (sym is) blocks)
      (table_put bags key t u table x.names.entries s.names (put key u s.names) stands puts (λ m. named_put m key u s.names) names)

-- ---- the start, braces

pub begun : (bags : Bags) (x : BodyNames) (s : Scope) → tables_of x ≡ [] ∷ [] → s.own ≡ [] → s.defined ≡ [] → TableStands bags x.names.entries s.names → NamesStand bags [] x s
begun bags x s is own d names = record {
  braces = subst (λ xs. BlocksStand bags (s.defined ∷ []) xs s.own) (sym is) ([], [], own, sym d, (λ n. tt), refl);
  names = names;
}

pub defined_here : (bags : Bags) (around : List (List (List ℕ))) (key : List ℕ) (t : Stored) (u : Thing) (s : Scope) (x : BodyNames) (ess : List Table) (es es' : Table) → ThingStands bags (thing_of t) u
    → BlocksStand bags (around ++ s.defined ∷ []) (ess ++ es ∷ []) s.own → TableStands bags x.names.entries s.names → tables_of x ≡ ess ++ es' ∷ [] → Puts key t es es'
    → NamesStand bags around x (defining key u s)
defined_here bags around key t u s x ess es es' stands blocks names is puts = record {
  braces = subst (λ xs. BlocksStand bags (around ++ (key ∷ s.defined) ∷ []) xs ((key, u) ∷ s.own)) (sym is) (defined_last bags key t u stands around s.defined ess es es' s.own blocks puts);
  names = names;
}

pub braces_begin : (bags : Bags) (around : List (List (List ℕ))) (s : Scope) (x : BodyNames) (ess : List Table) → BlocksStand bags (around ++ s.defined ∷ []) ess s.own → TableStands bags x.names.entries s.names
    → tables_of x ≡ ess ++ [] ∷ [] → NamesStand bags (around ++ s.defined ∷ []) x (entering s) × HasBound around s
braces_begin bags around s x ess blocks names is = (
  record {
    braces = subst (λ xs. BlocksStand bags ((around ++ s.defined ∷ []) ++ [] ∷ []) xs s.own) (sym is) (entered bags (around ++ s.defined ∷ []) ess s.own blocks);
    names = names;
  },
  record { count = counted bags (around ++ s.defined ∷ []) ess s.own blocks },
)

pub braces_end : (bags : Bags) (around : List (List (List ℕ))) (before s : Scope) (x : BodyNames) (es : Table) → HasBound around before
    → BlocksStand bags ((around ++ before.defined ∷ []) ++ s.defined ∷ []) (tables_of x ++ es ∷ []) s.own → TableStands bags x.names.entries s.names → NamesStand bags around x (leaving before s)
braces_end bags around before s x es bound blocks names = record {
  braces = left_over bags (around ++ before.defined ∷ []) s.defined (tables_of x) es s.own (length before.own) bound.count blocks;
  names = names;
}

-- braces that are open have two tables
pub two_tables : (bags : Bags) (around : List (List (List ℕ))) (d e : List (List ℕ)) (es : Table) (own : Names) → BlocksStand bags ((around ++ d ∷ []) ++ e ∷ []) (es ∷ []) own → ⊥
two_tables bags [] d e es own (inner, outer, is, names, table, rest) = rest
two_tables bags (ns ∷ []) d e es own (inner, outer, is, names, table, rest) = rest
two_tables bags (ns ∷ ms ∷ around) d e es own (inner, outer, is, names, table, rest) = rest
