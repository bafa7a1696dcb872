use Rattle.std.proofs.Common.{◌≡◌, ◌+◌, ◌∙◌, ap, ◌++◌, ◌∷◌, [], rules}
use Rattle.nf_pool.proofs.Lanes.{empty_more, length_more}
use Rattle.nf_pool.proofs.whole_run.lists.Goals as goal

pub loop-preserved : goal.loop-preserved
loop-preserved c =
    let items : c.push.new.self.items ≡ c.loop.out.items ++ c.new.result ∷ [] = search rules in
    rw items (
      length_more (λ w. w.items) c.loop.out.items c.new.result ∙ ap (λ n. n + 1) c.loop.invariant.0,
      λ n. empty_more (λ w. w.items) n c.loop.out.items c.new.result c.new.ensures.items ∙ c.loop.invariant.1 n,
    )
