-- A value that was encoded has sizes that fit 64 bits.
use Rattle.std.proofs.Common.{ℤ, pos, negsuc, Some, None, List, ℕ}
use Rattle.std.specs.declared.option.Option.{Option}
use Rattle.nf_value.specs.Plain.{Plain, null, truth, int, text, file, list, table, Plains, no_items, item, PlainPairs, no_pairs, pair}
use Rattle.nf_codec.specs.Whole.{IsWhole, AreWhole, ArePairs, IsWholeInt}
use Rattle.nf_job.specs.Sizes.{IsFit, AllFit, PairsFit}

int_fits : (i : ℤ) → IsWholeInt i → IsFit (int i)
int_fits (pos n) h = h
int_fits (negsuc n) h = h

mutual
  pub whole_fits : (v : Plain) → IsWhole v → IsFit v
  whole_fits null h = tt
  whole_fits (truth b) h = tt
  whole_fits (int i) h = int_fits i h
  whole_fits (text t) h = h.1
  whole_fits (file n d l) h = record { name = h.0.1; bytes = h.1; digest = h.2; len = h.3 }
  whole_fits (list vs) h = (h.0, all_fit vs h.1)
  whole_fits (table ps) h = (h.0, pairs_fit None ps h.1)

  all_fit : (vs : Plains) → AreWhole vs → AllFit vs
  all_fit no_items h = tt
  all_fit (item v vs) h = (whole_fits v h.0, all_fit vs h.1)

  pairs_fit : (before : Option (List ℕ)) (ps : PlainPairs) → ArePairs before ps → PairsFit ps
  pairs_fit before no_pairs h = tt
  pairs_fit before (pair k v ps) h = (h.1.1, whole_fits v h.2, pairs_fit (Some k) ps h.3)
