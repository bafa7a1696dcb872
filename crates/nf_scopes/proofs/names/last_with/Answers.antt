use Rattle.std.proofs.Common.{◌≡◌, ◌<◌, ◌-◌, ◌∙◌, suc, map, length, drop, sym, subst, arith}
use Rattle.nf_scopes.specs.Tables.{NoneHas}
use Rattle.nf_scopes.proofs.Places.{entries_of, one_table_less}
use Rattle.nf_scopes.proofs.names.last_with.Goals as goal

pub loop-end-preserved : goal.loop-end-preserved
loop-end-preserved c =
    let ms = c.args.tables.now in
    let key = c.args.name.now in
    let i = c.loop-end.end - 1 in
    let within : i < length ms = omega (arith, c.loop-end.invariant.within, c.loop-end-test.true) in
    let next : suc i ≡ c.loop-end.end = omega (arith, c.loop-end-test.true) in
    record {
      within = omega (arith, within);
      none = one_table_less key ms i c.index-tables-end.result within c.index-tables-end.is (sym c.contains_key.ensures ∙ c.if-contains_key.false)
          (subst (λ k. NoneHas key (drop k (map entries_of ms))) (sym next) c.loop-end.invariant.none);
    }
