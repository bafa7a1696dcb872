-- The names of the braces that are open.
use Rattle.std.proofs.Common.{◌≡◌, ◌∙◌, ◌+◌, ◌-◌, ℕ, Bool, true, false, List, [], ◌∷◌, ◌++◌, map, length, drop, bytes_eq, is_some, Option, Some, None, refl, sym, ap, subst, true≢false, append_assoc, arith}
use Rattle.std.proofs.Math.Seq.{drop-append_seam}
use Rattle.std.proofs.lemmas.List.{append-nil, length-append, length-map}
use Rattle.nf_builtins.specs.Natives.{is_among}
use Rattle.nf_graph.specs.Meaning.{Bags}
use Rattle.nf_meaning.specs.Things.{Thing, thing_named}
use Rattle.nf_meaning.specs.Stands.{ThingStands}
use Rattle.nf_meaning.specs.Walk.{replaced, is_bound}
use Rattle.nf_scopes.specs.declared.things.Thing.{Thing as Stored}
use Rattle.nf_scopes.specs.Things.{thing_of}
use Rattle.nf_scopes.specs.Tables.{Names, Table, held, Puts, FoundStands, NoneHas}
use Rattle.nf_scopes.specs.Standing.{BlocksStand, total}
use Rattle.nf_scopes.proofs.Named.{or_in, named_append, named_later, named_replaced, names_kept, replaced_front, replaced_back, table_put}

-- ---- what is found in tables is found in names, and the other way round

none_found : (bags : Bags) (o : Option Stored) (p : Option Thing) → FoundStands bags o p → is_some o ≡ false → p ≡ None
none_found bags None None h e = refl
none_found bags None (Some u) h e = absurd h
none_found bags (Some t) p h e = absurd (true≢false e)

pub some_found : (bags : Bags) (o : Option Stored) (p : Option Thing) → FoundStands bags o p → is_some o ≡ true → is_some p ≡ true
some_found bags (Some t) (Some u) h e = refl
some_found bags (Some t) None h e = absurd h
some_found bags None p h e = absurd (true≢false (sym e))

none_is : (p : Option Thing) → p ≡ None → is_some p ≡ false
none_is p h = ap is_some h

pub kept_front : (bags : Bags) (o : Option Stored) (p q : Option Thing) → FoundStands bags o p → is_some o ≡ true → FoundStands bags o (or_in p q)
kept_front bags (Some t) (Some u) q h e = h
kept_front bags (Some t) None q h e = absurd h
kept_front bags None p q h e = absurd (true≢false (sym e))

module _ (bags : Bags) (key : List ℕ) where
  -- a name that no table has
  pub none_bound : (nss : List (List (List ℕ))) (ess : List Table) (own : Names) → BlocksStand bags nss ess own → NoneHas key ess → thing_named key own ≡ None
  none_bound [] [] own h n = ap (thing_named key) h
  none_bound [] (es ∷ ess) own h n = absurd h
  none_bound (ns ∷ nss) [] own h n = absurd h
  none_bound (ns ∷ nss) (es ∷ ess) own (inner, outer, is, names, table, rest) n =
      ap (thing_named key) is ∙ named_later key inner outer (none_bound nss ess inner rest n.1) ∙ none_found bags (held key es) (thing_named key outer) (table key) n.0

  -- a name that a table has, and none after it
  pub found_there : (before after : List Table) (es : Table) (nss : List (List (List ℕ))) (own : Names) → BlocksStand bags nss (before ++ es ∷ after) own → is_some (held key es) ≡ true → NoneHas key after
      → FoundStands bags (held key es) (thing_named key own)
  found_there [] after es [] own h e n = absurd h
  found_there [] after es (ns ∷ nss) own (inner, outer, is, names, table, rest) e n =
      let there : thing_named key own ≡ thing_named key outer = ap (thing_named key) is ∙ named_later key inner outer (none_bound nss after inner rest n) in
      let P : Option Thing → Type 0 = λ p. FoundStands bags (held key es) p in
      subst P (sym there) (table key)
  found_there (fs ∷ before) after es [] own h e n = absurd h
  found_there (fs ∷ before) after es (ns ∷ nss) own (inner, outer, is, names, table, rest) e n =
      let P : Option Thing → Type 0 = λ p. FoundStands bags (held key es) p in
      subst P (sym (ap (thing_named key) is ∙ named_append key inner outer))
      (kept_front bags (held key es) (thing_named key inner) (thing_named key outer) (found_there before after es nss inner rest e n) e)

  -- ---- `name = ..`

  module _ (t : Stored) (u : Thing) (stands : ThingStands bags (thing_of t) u) where
    pub assigned_there : (before after : List Table) (es es' : Table) (nss : List (List (List ℕ))) (own : Names) → BlocksStand bags nss (before ++ es ∷ after) own → is_some (held key es) ≡ true → NoneHas key after
        → Puts key t es es' → BlocksStand bags nss (before ++ es' ∷ after) (replaced key u own)
    assigned_there [] after es es' [] own h e n puts = absurd h
    assigned_there [] after es es' (ns ∷ nss) own (inner, outer, is, names, table, rest) e n puts =
        let none : thing_named key inner ≡ None = none_bound nss after inner rest n in
        let one : is_bound key outer ≡ true = some_found bags (held key es) (thing_named key outer) (table key) e in (
          inner,
          replaced key u outer,
          ap (replaced key u) is ∙ replaced_back key u inner outer (none_is (thing_named key inner) none),
          names_kept key u outer ∙ names,
          table_put bags key t u es es' outer (replaced key u outer) stands puts (λ m. named_replaced m key u outer one) table,
          rest,
        )
    assigned_there (fs ∷ before) after es es' [] own h e n puts = absurd h
    assigned_there (fs ∷ before) after es es' (ns ∷ nss) own (inner, outer, is, names, table, rest) e n puts =
        let one : is_bound key inner ≡ true = some_found bags (held key es) (thing_named key inner) (found_there before after es nss inner rest e n) e in (
          replaced key u inner,
          outer,
          ap (replaced key u) is ∙ replaced_front key u inner outer one,
          names,
          table,
          assigned_there before after es es' nss inner rest e n puts,
        )

    -- ---- `def name = ..`, between the innermost braces

    pub defined_last : (around : List (List (List ℕ))) (d : List (List ℕ)) (ess : List Table) (es es' : Table) (own : Names) → BlocksStand bags (around ++ d ∷ []) (ess ++ es ∷ []) own → Puts key t es es'
        → BlocksStand bags (around ++ (key ∷ d) ∷ []) (ess ++ es' ∷ []) ((key, u) ∷ own)
    defined_last [] d [] es es' own (inner, outer, is, names, table, rest) puts = (
      [],
      (key, u) ∷ outer,
      ap (λ xs. (key, u) ∷ xs) (is ∙ ap (λ xs. xs ++ outer) rest),
      ap (λ ns. key ∷ ns) names,
      table_put bags key t u es es' outer ((key, u) ∷ outer) stands puts (λ m. refl) table,
      refl,
    )
    defined_last [] d (fs ∷ []) es es' own (inner, outer, is, names, table, rest) puts = absurd rest
    defined_last [] d (fs ∷ gs ∷ ess) es es' own (inner, outer, is, names, table, rest) puts = absurd rest
    defined_last (ns ∷ []) d [] es es' own (inner, outer, is, names, table, rest) puts = absurd rest
    defined_last (ns ∷ ms ∷ around) d [] es es' own (inner, outer, is, names, table, rest) puts = absurd rest
    defined_last (ns ∷ around) d (fs ∷ ess) es es' own (inner, outer, is, names, table, rest) puts = (
      (key, u) ∷ inner,
      outer,
      ap (λ xs. (key, u) ∷ xs) is,
      names,
      table,
      defined_last around d ess es es' inner rest puts,
    )

-- ---- the names that `def` bound between the innermost braces

among_by : (n : List ℕ) (b : List ℕ × Thing) (bs : Names) → is_some (thing_named n bs) ≡ is_among n (map (λ x. x.0) bs) → (t : Bool) → bytes_eq b.0 n ≡ t
    → is_some (thing_named n (b ∷ bs)) ≡ is_among n (map (λ x. x.0) (b ∷ bs))
among_by n b bs rest true e = rw e refl
among_by n b bs rest false e = rw e rest

among_names : (n : List ℕ) (bs : Names) → is_some (thing_named n bs) ≡ is_among n (map (λ x. x.0) bs)
among_names n [] = refl
among_names n (b ∷ bs) = among_by n b bs (among_names n bs) (bytes_eq b.0 n) refl

both_found : (bags : Bags) (o : Option Stored) (p : Option Thing) → FoundStands bags o p → is_some o ≡ is_some p
both_found bags None None h = refl
both_found bags (Some t) (Some u) h = refl
both_found bags None (Some u) h = absurd h
both_found bags (Some t) None h = absurd h

pub defined_inside : (bags : Bags) (key : List ℕ) (around : List (List (List ℕ))) (d : List (List ℕ)) (ess : List Table) (es : Table) (own : Names) → BlocksStand bags (around ++ d ∷ []) (ess ++ es ∷ []) own
    → is_some (held key es) ≡ is_among key d
defined_inside bags key [] d [] es own (inner, outer, is, names, table, rest) =
    both_found bags (held key es) (thing_named key outer) (table key) ∙ among_names key outer ∙ ap (is_among key) names
defined_inside bags key [] d (fs ∷ []) es own (inner, outer, is, names, table, rest) = absurd rest
defined_inside bags key [] d (fs ∷ gs ∷ ess) es own (inner, outer, is, names, table, rest) = absurd rest
defined_inside bags key (ns ∷ []) d [] es own (inner, outer, is, names, table, rest) = absurd rest
defined_inside bags key (ns ∷ ms ∷ around) d [] es own (inner, outer, is, names, table, rest) = absurd rest
defined_inside bags key (ns ∷ around) d (fs ∷ ess) es own (inner, outer, is, names, table, rest) = defined_inside bags key around d ess es inner rest

-- ---- braces begin and end

module _ (bags : Bags) where
  pub entered : (nss : List (List (List ℕ))) (ess : List Table) (own : Names) → BlocksStand bags nss ess own → BlocksStand bags (nss ++ [] ∷ []) (ess ++ [] ∷ []) own
  entered [] [] own h = ([], [], h, refl, (λ n. tt), refl)
  entered [] (es ∷ ess) own h = absurd h
  entered (ns ∷ nss) [] own h = absurd h
  entered (ns ∷ nss) (es ∷ ess) own (inner, outer, is, names, table, rest) = (inner, outer, is, names, table, entered nss ess inner rest)

  -- the names of the innermost braces stand before all others
  abbrev LeavesBehind : List (List (List ℕ)) → List Table → Names → Type 0
  LeavesBehind nss ess own = (front : Names) × (back : Names) × (own ≡ front ++ back) × BlocksStand bags nss ess back

  pub left_behind : (nss : List (List (List ℕ))) (d : List (List ℕ)) (ess : List Table) (es : Table) (own : Names) → BlocksStand bags (nss ++ d ∷ []) (ess ++ es ∷ []) own → LeavesBehind nss ess own
  left_behind [] d [] es own (inner, outer, is, names, table, rest) = (own, [], sym (append-nil own), refl)
  left_behind [] d (fs ∷ []) es own (inner, outer, is, names, table, rest) = absurd rest
  left_behind [] d (fs ∷ gs ∷ ess) es own (inner, outer, is, names, table, rest) = absurd rest
  left_behind (ns ∷ []) d [] es own (inner, outer, is, names, table, rest) = absurd rest
  left_behind (ns ∷ ms ∷ nss) d [] es own (inner, outer, is, names, table, rest) = absurd rest
  left_behind (ns ∷ nss) d (fs ∷ ess) es own (inner, outer, is, names, table, rest) =
      let more = left_behind nss d ess es inner rest in (
        more.0,
        more.1 ++ outer,
        is ∙ ap (λ xs. xs ++ outer) more.2 ∙ append_assoc more.0 more.1 outer,
        (more.1, outer, refl, names, table, more.3),
      )

  pub counted : (nss : List (List (List ℕ))) (ess : List Table) (own : Names) → BlocksStand bags nss ess own → length own ≡ total nss
  counted [] [] own h = ap length h
  counted [] (es ∷ ess) own h = absurd h
  counted (ns ∷ nss) [] own h = absurd h
  counted (ns ∷ nss) (es ∷ ess) own (inner, outer, is, names, table, rest) =
      let all : length own ≡ length inner + length outer = ap length is ∙ length-append inner outer in
      let here : length outer ≡ length ns = sym (length-map outer (λ b. b.0)) ∙ ap length names in
      let more : length inner ≡ total nss = counted nss ess inner rest in
      omega arith

  dropped : (front back : Names) (k : ℕ) → length back ≡ k → drop (length (front ++ back) - k) (front ++ back) ≡ back
  dropped front back k h =
      let e : length (front ++ back) - k ≡ length front = omega (arith, length-append front back, h) in
      ap (λ n. drop n (front ++ back)) e ∙ drop-append_seam front back

  pub left_over : (nss : List (List (List ℕ))) (d : List (List ℕ)) (ess : List Table) (es : Table) (own : Names) (k : ℕ) → k ≡ total nss → BlocksStand bags (nss ++ d ∷ []) (ess ++ es ∷ []) own
      → BlocksStand bags nss ess (drop (length own - k) own)
  left_over nss d ess es own k e h =
      let out = left_behind nss d ess es own h in
      let left : drop (length own - k) own ≡ out.1 = ap (λ xs. drop (length xs - k) xs) out.2 ∙ dropped out.0 out.1 k (counted nss ess out.1 out.3 ∙ sym e) in
      subst (BlocksStand bags nss ess) (sym left) out.3
