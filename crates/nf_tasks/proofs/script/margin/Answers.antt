use Rattle.std.proofs.Common.{ℕ, List, Bor, ap, sym, ◌∙◌, rules, tests}
use Rattle.std.specs.Option.{unwrap_or}
use Rattle.std.proofs.lemmas.Iterator.{YieldsList-from_slice, YieldsList-from_map}
use Rattle.std.proofs.lemmas.Iterator.Consumers.{YieldsList-from_filter, YieldsList-at, min_from_yields_List}
use Rattle.std.proofs.lemmas.Iterator.Adapters.{option_map_id}
use Rattle.std.specs.List.{reduce}
use Rattle.std.specs.Prelude.{min}
use Rattle.nf_tasks.specs.Script.{indent_of, is_filled}
use Rattle.nf_tasks.proofs.Lines.{map-filter_map}
use Rattle.nf_tasks.proofs.script.margin.Goals as goal

pub returns : goal.returns
returns c =
    let least = min_from_yields_List {v = λ x. x} _ _ c.min.ensures.ran
    (YieldsList-from_map _ (λ (line : Bor (List ℕ)). indent_of line.now)
    (YieldsList-at c.map.ensures.source (YieldsList-from_filter _ (λ (line : Bor (List ℕ)). is_filled line.now) (YieldsList-from_slice c.args.lines.now (cc)) c.filter.ensures.closure (λ x r q k. search (rules, tests))))
    c.map.ensures.closure (λ x r q k. search rules)) in
    c.unwrap_or.ensures ∙ ap (λ o. unwrap_or o 0) (sym (option_map_id c.min.result) ∙ least ∙ ap (reduce min) (map-filter_map indent_of is_filled (λ (line : Bor (List ℕ)). line.now) c.args.lines.now))
