use Rattle.std.proofs.Common.{◌≡◌, ◌∙◌, List, ℕ, min, length, take, drop, ap}
use Rattle.std.proofs.lemmas.List.{take_min, drop_min, take_rest}
use Rattle.nf_host.proofs.mem_host.cut.Goals as goal

cut_is : (xs rest : List ℕ) (at from len : ℕ) → rest ≡ drop from xs → from ≡ min at (length xs) → len ≡ min 65536 (length rest) → take len rest ≡ take 65536 (drop at xs)
cut_is xs rest at from len r f l =
    ap (λ n. take n rest) l ∙ take_min 65536 rest ∙ ap (take 65536) (r ∙ ap (λ n. drop n xs) f ∙ drop_min at xs)

pub returns-clause-ok : goal.returns-clause-ok
returns-clause-ok c =
    c.in_ok-from_slice.ensures.items
    ∙ cut_is c.args.bytes.now _ c.args.at c.min-from.result c.min-len.result (take_rest c.args.bytes.now c.min-from.result) c.min-from.ensures c.min-len.ensures
