use Rattle.std.proofs.Common.{◌≡◌, ◌∙◌, ◌∷◌, ℕ, List, Some, ap, refl, rules, string_bytes, subst, sym}
use Rattle.nf_scopes.specs.declared.names.BodyNames.{BodyNames}
use Rattle.nf_scopes.specs.declared.things.Thing.{Thing}
use Rattle.nf_scopes.specs.Held.{Holds}
use Rattle.nf_scopes.specs.Standing.{BeginsWith}
use Rattle.nf_scopes.specs.Tables.{held}
use Rattle.nf_scopes.proofs.Places.{entries_of}
use Rattle.nf_lowering.specs.declared.state.Lowering.{Lowering}
use Rattle.nf_lowering.proofs.Entering.{Begun, begun_calls, begun_keeps, begun_stands, keys_of}
use Rattle.nf_lowering.proofs.state.Lowering.enter_workflow.Goals as goal

pub returns : goal.returns
returns c =
    let old = c.args.self.now in
    let n = c.args.name.now in
    let es = c.args.names.entries in
    let new : Lowering = record old {
      names = c.replace-names.new.dest;
      called = c.replace-called.new.dest;
      calls = c.replace-calls.new.dest;
      path = c.replace-path.new.dest;
      within = c.push_front.new.self;
    } in
    let spelled : string_bytes c.in_ok-text.text ≡ n = search rules in
    let begun : Begun n es old new = record {
      plan = refl;
      names = subst (λ (z : BodyNames). BeginsWith es z) (sym c.replace-names.ensures.after) c.new-inner.ensures.stands;
      holds = subst (λ (z : BodyNames). (m : List ℕ) (t : Thing) → Holds z m t → held m es ≡ Some t) (sym c.replace-names.ensures.after) c.new-inner.ensures.holds;
      called = ap keys_of c.replace-called.ensures.after ∙ c.new-none.ensures.empty;
      calls = ap entries_of c.replace-calls.ensures.after ∙ c.new-nothing.ensures.empty;
      path = c.replace-path.ensures.after ∙ c.in_ok-path.ensures;
      within = c.in_ok-push_front.ensures.items ∙ ap (λ (m : List ℕ). m ∷ old.within.items) (c.of.ensures ∙ spelled);
    } in
    record {
      keeps = begun_keeps c.paths_stay_apart.ensures.in_body n es old new c.requires.before c.requires.fresh c.requires.reads begun;
      aside = record { names = c.replace-names.ensures.value; called = c.replace-called.ensures.value; calls = c.replace-calls.ensures.value; path = c.replace-path.ensures.value };
      walk = begun_stands n es old new begun;
      plan = refl;
      calls = begun_calls n es old new begun;
      within = begun.within;
    }
