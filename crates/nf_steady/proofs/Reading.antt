-- What comes to a node depends on the bags alone that its ports read.
use Rattle.std.proofs.Common.{◌≡◌, ℕ, suc, ◌+◌, ◌<◌, List, [], ◌∷◌, ◌++◌, map, length, get_or, true, cond, refl, ap, ◌∙◌, arith}
use Rattle.std.specs.Prelude.{◌==◌, Option, Some, None}
use Rattle.nf_value.specs.Plain.{Plain, null}
use Rattle.nf_graph.specs.declared.port.Port.{Port}
use Rattle.nf_graph.specs.Node.{PlainNode, port_at, port_in}
use Rattle.nf_graph.specs.Meaning.{Bags, bag_heads, bag_of, delivered, deliveries, input_lists, input_of, instances, is_lacking, numbered, same_inputs}
use Rattle.nf_graph.proofs.Lists.{filled_same}

module _ (B C : Bags) where
  -- the ports read the same of both
  abbrev pub ReadAlike : List Port → Type 0
  ReadAlike ps = (j : ℕ) → j < length ps → bag_of B (port_in ps j) ≡ bag_of C (port_in ps j)

  delivered_alike : (k : ℕ) (ps : List Port) → ReadAlike ps → delivered B k ps ≡ delivered C k ps
  delivered_alike k [] h = refl
  delivered_alike k (p ∷ ps) h =
      ap (λ (xs : List Plain). map (λ x. (k, x)) xs ++ delivered B (suc k) ps) (h 0 (omega arith))
      ∙ ap (λ (ds : List (ℕ × Plain)). map (λ x. (k, x)) (bag_of C p) ++ ds)
      (delivered_alike (suc k) ps (λ j l. h (suc j) (omega (arith, l))))

  pub deliveries_alike : (node : PlainNode) → ReadAlike node.ports → deliveries B node ≡ deliveries C node
  deliveries_alike node h = delivered_alike 0 node.ports h

  lacking_alike : (ps : List Port) → ReadAlike ps → is_lacking B ps ≡ is_lacking C ps
  lacking_alike [] h = refl
  lacking_alike (p ∷ ps) h =
      ap (λ (xs : List Plain). cond p.value (cond (length xs == 0) true (is_lacking B ps)) (is_lacking B ps))
      (h 0 (omega arith))
      ∙ ap (λ b. cond p.value (cond (length (bag_of C p) == 0) true b) b)
      (lacking_alike ps (λ j l. h (suc j) (omega (arith, l))))

  input_alike : (node : PlainNode) → ReadAlike node.ports → (x : Plain) → input_of B node x ≡ input_of C node x
  input_alike node h x =
      filled_same 0 node.ports (bag_heads B node.ports) (bag_heads C node.ports) x
      (λ j l value. let i : 0 + j ≡ j = omega arith in rw i (ap (λ (xs : List Plain). get_or xs 0 null) (h j l)))

  map_input : (node : PlainNode) → ReadAlike node.ports → (xs : List Plain)
      → map (input_of B node) xs ≡ map (input_of C node) xs
  map_input node h [] = refl
  map_input node h (x ∷ xs) =
      ap (λ y. y ∷ map (input_of B node) xs) (input_alike node h x) ∙ ap (λ ys. input_of C node x ∷ ys)
      (map_input node h xs)

  lists_alike : (node : PlainNode) (q : Option ℕ) → ReadAlike node.ports
      → ((z : ℕ) → q ≡ Some z → z < length node.ports) → input_lists B node q ≡ input_lists C node q
  lists_alike node None h within =
      ap (λ b. cond b [] (input_of B node null ∷ [])) (lacking_alike node.ports h)
      ∙ ap (λ xs. cond (is_lacking C node.ports) [] (xs ∷ [])) (input_alike node h null)
  lists_alike node (Some z) h within =
      ap (λ b. cond b [] (map (input_of B node) (bag_of B (port_at node z)))) (lacking_alike node.ports h)
      ∙ ap (λ xs. cond (is_lacking C node.ports) [] xs) (map_input node h (bag_of B (port_at node z)))
      ∙ ap (λ (xs : List Plain). cond (is_lacking C node.ports) [] (map (input_of C node) xs)) (h z (within z refl))

  pub instances_alike : (node : PlainNode) (q : Option ℕ) → ReadAlike node.ports
      → ((z : ℕ) → q ≡ Some z → z < length node.ports) → instances B node q ≡ instances C node q
  instances_alike node q h within = ap (numbered same_inputs) (lists_alike node q h within)
