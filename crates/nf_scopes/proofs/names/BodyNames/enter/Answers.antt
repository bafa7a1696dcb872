use Rattle.std.proofs.Common.{◌≡◌, ◌∙◌, ◌++◌, ◌∷◌, [], map, refl, ap}
use Rattle.nf_scopes.proofs.Bodies.{braces_begin}
use Rattle.nf_scopes.proofs.Holding.{holds_entered}
use Rattle.nf_scopes.proofs.Places.{entries_of, one_table_more}
use Rattle.nf_scopes.proofs.names.BodyNames.enter.Goals as goal

pub returns : goal.returns
returns c =
    let outer = c.args.self.now.outer.items in
    let all = map entries_of outer ++ c.args.self.now.inner.entries ∷ [] in
    let pushed : map entries_of c.push.new.self.items ≡ all = one_table_more outer c.push.new.self.items c.args.self.now.inner c.replace-inner.result c.in_ok-push.ensures.items c.replace-inner.ensures.value in
    let empty : c.replace-inner.new.dest.entries ≡ [] = ap entries_of c.replace-inner.ensures.after ∙ c.new.ensures.empty in
    record {
      stands = λ bags around s h. braces_begin bags around s _ all h.braces h.names (ap (λ xs. xs ++ c.replace-inner.new.dest.entries ∷ []) pushed ∙ ap (λ es. all ++ es ∷ []) empty);
      holds = holds_entered c.args.self.now _ refl (ap (λ xs. xs ++ c.replace-inner.new.dest.entries ∷ []) pushed ∙ ap (λ es. all ++ es ∷ []) empty);
    }
