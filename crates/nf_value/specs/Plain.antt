-- A value as contracts see it, wherever it lies in memory.
use Rattle.std.specs.Prelude.{ℕ, suc, ◌+◌, ℤ, List, [], ◌∷◌, Bool}

mutual
  -- a number is any integer; a file is its name, the bytes of its digest and its length; texts are bytes
  pub data Plain : Type 0 where
    null : Plain
    truth : Bool → Plain
    int : ℤ → Plain
    text : List ℕ → Plain
    file : List ℕ → List ℕ → ℕ → Plain
    list : Plains → Plain
    table : PlainPairs → Plain

  pub data Plains : Type 0 where
    no_items : Plains
    item : Plain → Plains → Plains

  pub data PlainPairs : Type 0 where
    no_pairs : PlainPairs
    pair : List ℕ → Plain → PlainPairs → PlainPairs

abbrev pub plains_of : List Plain → Plains
plains_of [] = no_items
plains_of (v ∷ vs) = item v (plains_of vs)

abbrev pub plain_pairs_of : List (List ℕ × Plain) → PlainPairs
plain_pairs_of [] = no_pairs
plain_pairs_of (p ∷ ps) = pair p.0 p.1 (plain_pairs_of ps)

-- a size that is less for each part of a value, by which recursions on values end
abbrev mutual
  pub nodes : Plain → ℕ
  nodes null = 1
  nodes (truth b) = 1
  nodes (int i) = 1
  nodes (text t) = 1
  nodes (file n d l) = 1
  nodes (list vs) = suc (nodes_all vs)
  nodes (table ps) = suc (nodes_pairs ps)

  pub nodes_all : Plains → ℕ
  nodes_all no_items = 1
  nodes_all (item v vs) = nodes v + nodes_all vs

  pub nodes_pairs : PlainPairs → ℕ
  nodes_pairs no_pairs = 1
  nodes_pairs (pair k v ps) = nodes v + nodes_pairs ps
