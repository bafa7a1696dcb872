use Rattle.std.proofs.Common.{◌≡◌, ◌∙◌, Some, false, true, slice_get, string_bytes, option_map, sym, ap, subst, rules}
use Rattle.std.specs.Prelude.{IfSome}
use Rattle.std.specs.Map.Iter.{deref_pair}
use Rattle.nf_callees.specs.Found.{defined_in, held, Puts}
use Rattle.nf_callees.proofs.Puts.{puts_of}
use Rattle.nf_known.specs.Judged.{is_judged, is_ready, fault_after}
use Rattle.nf_known.proofs.Rounds.{none_at, judged_at, waits_at}
use Rattle.nf_known.proofs.Placing.{one_fewer, stay_judged}
use Rattle.nf_known.proofs.uses.TopNames.judge_at.Goals as goal

pub returns-in_default-clause-settled : goal.returns-in_default-clause-settled
returns-in_default-clause-settled g c =
    none_at (defined_in c.args.self.now.definitions) c.args.judged.now.entries c.args.functions.now.entries c.args.at (sym c.get_index.ensures.entry ∙ ap (option_map deref_pair) c.in_default.is)

pub returns-then-contains_key-clause-settled : goal.returns-then-contains_key-clause-settled
returns-then-contains_key-clause-settled g c =
    let ds = defined_in c.args.self.now.definitions in
    let fs = c.args.functions.now.entries in
    let es = c.args.judged.now.entries in
    let name = c.in-Some.name.now in
    let f = c.in-Some.function.now in
    let at : slice_get fs c.args.at ≡ Some (name, f) = sym c.get_index.ensures.entry ∙ ap (option_map deref_pair) c.in-Some.is in
    let here : held (string_bytes name) fs ≡ Some f = subst (λ o. IfSome o (λ p. held (string_bytes p.0.now) fs ≡ Some p.1.now)) c.in-Some.is c.get_index.ensures.value in
    let same : c.as_str.result.now ≡ string_bytes name = search rules in
    judged_at ds es fs c.args.at c.requires (name, f) at here (ap (is_judged es) (sym same) ∙ sym c.contains_key.ensures ∙ c.if-contains_key.true)

pub returns-then-not-is_ready-clause-settled : goal.returns-then-not-is_ready-clause-settled
returns-then-not-is_ready-clause-settled g c =
    let ds = defined_in c.args.self.now.definitions in
    let fs = c.args.functions.now.entries in
    let es = c.args.judged.now.entries in
    let name = c.in-Some.name.now in
    let f = c.in-Some.function.now in
    let at : slice_get fs c.args.at ≡ Some (name, f) = sym c.get_index.ensures.entry ∙ ap (option_map deref_pair) c.in-Some.is in
    let here : held (string_bytes name) fs ≡ Some f = subst (λ o. IfSome o (λ p. held (string_bytes p.0.now) fs ≡ Some p.1.now)) c.in-Some.is c.get_index.ensures.value in
    let no : c.is_ready.result ≡ false = search rules in
    waits_at ds es fs c.args.at c.requires (name, f) at here (ap (is_ready ds es) (sym c.deref.ensures.value) ∙ sym c.is_ready.ensures ∙ no)

pub returns-clause-more : goal.returns-clause-more
returns-clause-more g c =
    let ds = defined_in c.args.self.now.definitions in
    let fs = c.args.functions.now.entries in
    let es = c.args.judged.now.entries in
    let name = c.in-Some.name.now in
    let f = c.in-Some.function.now in
    let here : held (string_bytes name) fs ≡ Some f = subst (λ o. IfSome o (λ p. held (string_bytes p.0.now) fs ≡ Some p.1.now)) c.in-Some.is c.get_index.ensures.value in
    let same : c.as_str.result.now ≡ string_bytes name = search rules in
    let new = c.insert.new.self in
    let key = c.in_ok-clone.field-0 in
    let copied : string_bytes key ≡ string_bytes name = search rules in
    let fault = c.fault_after-fault.result in
    let puts : Puts (string_bytes name) fault es new.entries = puts_of c.args.judged.now new key (string_bytes name) fault copied c.in_ok-insert.ensures.updates in
    let fresh : is_judged es (string_bytes name) ≡ false = ap (is_judged es) (sym same) ∙ sym c.contains_key.ensures ∙ c.if-contains_key.false in
    one_fewer ds fs c.requires es new.entries (string_bytes name) f here fresh fault puts

pub returns-clause-judged : goal.returns-clause-judged
returns-clause-judged g c given program =
    let ds = defined_in c.args.self.now.definitions in
    let fs = c.args.functions.now.entries in
    let es = c.args.judged.now.entries in
    let name = c.in-Some.name.now in
    let f = c.in-Some.function.now in
    let here : held (string_bytes name) fs ≡ Some f = subst (λ o. IfSome o (λ p. held (string_bytes p.0.now) fs ≡ Some p.1.now)) c.in-Some.is c.get_index.ensures.value in
    let same : c.as_str.result.now ≡ string_bytes name = search rules in
    let new = c.insert.new.self in
    let key = c.in_ok-clone.field-0 in
    let copied : string_bytes key ≡ string_bytes name = search rules in
    let fault = c.fault_after-fault.result in
    let puts : Puts (string_bytes name) fault es new.entries = puts_of c.args.judged.now new key (string_bytes name) fault copied c.in_ok-insert.ensures.updates in
    let fresh : is_judged es (string_bytes name) ≡ false = ap (is_judged es) (sym same) ∙ sym c.contains_key.ensures ∙ c.if-contains_key.false in
    let yes : c.is_ready.result ≡ true = search rules in
    stay_judged ds fs c.requires es new.entries (string_bytes name) f here fresh fault puts given
    (c.fault_after-fault.ensures given program ∙ ap (fault_after given ds es) c.deref-2.ensures.value) (ap (is_ready ds es) (sym c.deref.ensures.value) ∙ sym c.is_ready.ensures ∙ yes)
