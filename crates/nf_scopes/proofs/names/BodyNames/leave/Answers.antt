use Rattle.std.proofs.Common.{◌≡◌, ◌++◌, ◌∷◌, [], map, refl, ap, subst, rules}
use Rattle.nf_scopes.specs.Standing.{BlocksStand}
use Rattle.nf_scopes.proofs.Bodies.{braces_end, two_tables}
use Rattle.nf_scopes.proofs.Holding.{holds_left}
use Rattle.nf_scopes.proofs.Places.{entries_of, one_table_more}
use Rattle.nf_scopes.proofs.names.BodyNames.leave.Goals as goal

pub returns-in_default : goal.returns-in_default
returns-in_default c =
    let es = c.args.self.now.inner.entries in
    let none : c.args.self.now.outer.items ≡ [] = search rules in
    record {
      stands = λ bags around before s bound h. absurd (two_tables bags around before.defined s.defined es s.own
          (subst (λ ms. BlocksStand bags ((around ++ before.defined ∷ []) ++ s.defined ∷ []) (map entries_of ms ++ es ∷ []) s.own) none h.braces));
      holds = search rules;
    }

pub returns : goal.returns
returns c =
    let es = c.args.self.now.inner.entries in
    let outer = c.args.self.now.outer.items in
    let left = c.pop.new.self.items in
    let inner = c.in-Some.inner in
    let popped : outer ≡ left ++ inner ∷ [] = search rules in
    let tables : map entries_of outer ≡ map entries_of left ++ inner.entries ∷ [] = one_table_more left outer inner inner popped refl in
    record {
      stands = λ bags around before s bound h.
          braces_end bags around before s _ es bound (subst (λ xs. BlocksStand bags ((around ++ before.defined ∷ []) ++ s.defined ∷ []) (xs ++ es ∷ []) s.own) tables h.braces) h.names;
      holds = holds_left c.args.self.now _ es refl (ap (λ xs. xs ++ es ∷ []) tables);
    }
