-- The options that an operator goes by.
use Rattle.std.proofs.Common.{◌≡◌, ◌∙◌, ℕ, true, List, Option, Some, None, refl, sym, ap, subst}
use Rattle.std.specs.Prelude.{unwrap_or, is_some, IfSome}
use Rattle.std.specs.Option.{option_map}
use Rattle.nf_value.specs.Plain.{Plain, null}
use Rattle.nf_value.specs.View.{plain_of}
use Rattle.nf_value.specs.declared.value.Value.{Value}
use Rattle.nf_bag.specs.Options.{Allows}
use Rattle.nf_bag.specs.declared.options.OpOpts.{OpOpts}
use Rattle.nf_bag.specs.declared.rows.Row.{Row}
use Rattle.nf_bag.specs.declared.rows.Row.TheVariants as row
use Rattle.nf_opclose.specs.Rows.{if_empty_row, reduce_row}
use Rattle.nf_opjoin.specs.Combined.{combine_row}
use Rattle.nf_operator.specs.Row.{operator_of}
use Rattle.nf_meaning.specs.Operators.{operator_with}
use Rattle.nf_taken.specs.Calls.{Settles, key_of, start_of}

module _ (old : OpOpts) (start : Option Value) (outs : ℕ) where
  abbrev pub new_options : Option ℕ → Option Value → OpOpts
  new_options k s = record { by = k; remainder = old.remainder; sort = old.sort; flat = old.flat; start = s; total = old.total; outs = outs }

  same_key : (o : Option ℕ) → is_some {T = ℕ} (option_map (λ (k : ℕ). 0) o) ≡ is_some o
  same_key None = refl
  same_key (Some k) = refl

  allowed_key : (o : Option ℕ) → IfSome {T = ℕ} (option_map (λ (k : ℕ). 0) o) (λ n. n ≡ 0)
  allowed_key None = tt
  allowed_key (Some k) = refl

  some_by : (o : Option Value) (w : Plain) → option_map plain_of o ≡ Some w → is_some o ≡ true
  some_by None w h = absurd (let e : ◌≡◌ {A = Option Plain} None (Some w) = h in cc)
  some_by (Some v) w h = refl

  allowed : (r : Row) (s : Option Value) → option_map plain_of s ≡ start_of r (option_map plain_of start) → Allows r (new_options (key_of r old.by) s)
  allowed row.Combine s h = allowed_key old.by
  allowed row.IfEmpty s h = some_by s (unwrap_or (option_map plain_of start) null) h
  allowed _ s h = tt

  same_operator : (r : Row) (s : Option Value) → option_map plain_of s ≡ start_of r (option_map plain_of start)
      → operator_of r (new_options (key_of r old.by) s) ≡ operator_with r (record old { outs = outs }) (option_map plain_of start)
  same_operator row.Combine s h = ap combine_row (same_key old.by)
  same_operator row.IfEmpty s h = ap (λ o. if_empty_row (unwrap_or o null)) h
  same_operator row.Reduce s h = ap (reduce_row old.total) h
  same_operator _ s h = refl

  pub settled : (r : Row) (k : Option ℕ) (s : Option Value) → k ≡ key_of r old.by → option_map plain_of s ≡ start_of r (option_map plain_of start) → Settles r old start outs (new_options k s)
  settled r k s is h =
      let P : Option ℕ → Type 0 = λ j. Settles r old start outs (new_options j s) in
      subst P (sym is) (record { allows = allowed r s h; counts = refl; same = same_operator r s h })
