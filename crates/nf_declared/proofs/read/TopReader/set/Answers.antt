use Rattle.std.proofs.Common.{◌≡◌, ◌∙◌, ℕ, List, ap, false, refl, subst, sym, true}
use Rattle.std.specs.Prelude.{is_some}
use Rattle.nf_value.specs.Plain.{plain_pairs_of, table}
use Rattle.nf_value.specs.View.{plain_of}
use Rattle.nf_value.specs.declared.value.Value.TheVariants as v
use Rattle.nf_pairs.specs.Pairs.{put, value_at}
use Rattle.nf_declared.specs.Names.{HasAlso}
use Rattle.nf_declared.proofs.Reading.{set_here, set_outside}
use Rattle.nf_declared.proofs.read.TopReader.set.Goals as goal

pub returns-then-has_key-clause-stands : goal.returns-then-has_key-clause-stands
returns-then-has_key-clause-stands g c =
    let x = c.args.self.now in
    let n = c.args.name.now in
    let P : List ℕ → Type 0 = λ m. HasAlso m x.names.set c.put.new.names in
    let has : is_some (value_at n x.outside.now) ≡ true = ap (λ m. is_some (value_at m x.outside.now)) (sym c.as_str-2.ensures) ∙ sym c.has_key.ensures ∙ c.if-has_key.true in
    set_outside g.N.Natives.titles g.N.Natives.answer x (record x { names = record x.names { set = c.put.new.names } }) n c.args.value (subst P c.as_str.ensures c.in_ok-put.ensures) refl has

pub returns-clause-stands : goal.returns-clause-stands
returns-clause-stands g c =
    let x = c.args.self.now in
    let n = c.args.name.now in
    let ps = c.in_ok-params.params in
    let P : List ℕ → Type 0 = λ m. HasAlso m x.names.set c.put.new.names in
    let has_not : is_some (value_at n x.outside.now) ≡ false = ap (λ m. is_some (value_at m x.outside.now)) (sym c.as_str-2.ensures) ∙ sym c.has_key.ensures ∙ c.if-has_key.false in
    let puts : ps ≡ put (n, plain_of c.args.value) x.params =
    c.in_ok-params.ensures ∙ ap (λ m. put (m, plain_of c.args.value) c.in_ok-copy.field-0) c.in_ok-copy-2.ensures ∙ ap (λ qs. put (n, plain_of c.args.value) qs) c.in_ok-copy.ensures in
    let is_value : plain_of (v.Map c.in_ok-copy-3.field-0) ≡ table (plain_pairs_of ps) = ap (λ qs. table (plain_pairs_of qs)) c.in_ok-copy-3.ensures in
    set_here g.N.Natives.titles g.N.Natives.answer x (record x { names = record x.names { set = c.put.new.names }; params = ps; around = c.set_params.new.self }) n c.args.value (v.Map c.in_ok-copy-3.field-0)
    (subst P c.as_str.ensures c.in_ok-put.ensures) refl has_not puts is_value c.set_params.ensures.around
