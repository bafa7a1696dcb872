-- A command line comes to one request.
use Rattle.std.proofs.Common.{◌≡◌, ℕ, List, Some, None, Err, refl, sym, ap, subst}
use Rattle.nf_ast.specs.Tree.{Tree}
use Rattle.nf_lexer.specs.Tokens.{Breaks}
use Rattle.nf_lexer.specs.declared.fault.LexFault.{LexFault}
use Rattle.nf_exprs.specs.declared.fault.ParseFault.{ParseFault}
use Rattle.nf_command.specs.declared.command.Command.{Command}
use Rattle.nf_command.specs.declared.fault.UsageFault.{UsageFault}
use Rattle.nf_command.specs.Commands.{command_of}
use Rattle.nf_ends.specs.declared.end.End.TheVariants as end
use Rattle.nf_request.specs.Words.{Asks, text_for}
use Rattle.nf_request.specs.Script.{IsScript, BreaksOff, IsOnlyScript, IsOnlyBreak, IsOnlyFault}
use Rattle.nf_asked.specs.CommandLine.{CommandLine}
use Rattle.nf_asked.specs.Request.{Request, refused, HasText, HasTree, TreeComes, Comes}
use Rattle.nf_asked.specs.Request as row
use Rattle.nf_asked.specs.Answers.{IsOnly}
use Rattle.nf_asked.proofs.Rows.{one_some, some_none, one_ok, one_err, ok_err}

module _ (x : CommandLine) where
  misused_alone : {f : UsageFault} → command_of x.words ≡ Err f → {o : Request} → Comes x o → o ≡ refused (end.Usage f)
  misused_alone wrong (row.misused f w) = ap (λ v. refused (end.Usage v)) (one_err w wrong)
  misused_alone wrong (row.no_script c a n) = absurd (ok_err a wrong)
  misused_alone wrong (row.unlexed c text f h b) = absurd (ok_err h.asks wrong)
  misused_alone wrong (row.unparsed c text f h b) = absurd (ok_err h.asks wrong)
  misused_alone wrong (row.with_tree c t r h k) = absurd (ok_err h.has.asks wrong)

  pub only_misused : {f : UsageFault} → command_of x.words ≡ Err f → IsOnly (Comes x) (refused (end.Usage f))
  only_misused {f} wrong = record { is = row.misused f wrong; only = λ o h. misused_alone wrong h }

module _ (x : CommandLine) (c : Command) (asks : Asks x.words c) where
  -- another command of the same words is this one
  same_command : {d : Command} → Asks x.words d → d ≡ c
  same_command a = one_ok a asks

  no_text : {d : Command} {text : List ℕ} → text_for c x.script ≡ None → HasText x d text → ⊥
  no_text {d} {text} none h = some_none h.there (subst (λ (b : Command). text_for b x.script ≡ None) (sym (same_command h.asks)) none)

  no_script_alone : text_for c x.script ≡ None → {o : Request} → Comes x o → o ≡ refused end.NoScript
  no_script_alone none (row.misused f w) = absurd (ok_err asks w)
  no_script_alone none (row.no_script d a n) = refl
  no_script_alone none (row.unlexed d text f h b) = absurd (no_text none h)
  no_script_alone none (row.unparsed d text f h b) = absurd (no_text none h)
  no_script_alone none (row.with_tree d t r h k) = absurd (no_text none h.has)

  pub only_no_script : text_for c x.script ≡ None → IsOnly (Comes x) (refused end.NoScript)
  only_no_script none = record { is = row.no_script c asks none; only = λ o h. no_script_alone none h }

module _ (x : CommandLine) (c : Command) (text : List ℕ) (has : HasText x c text) where
  one_command : {d : Command} → Asks x.words d → d ≡ c
  one_command a = one_ok a has.asks

  -- another text of the same command line is this one
  one_text : {d : Command} {other : List ℕ} → HasText x d other → other ≡ text
  one_text {d} {other} h =
      one_some (subst (λ (b : Command). text_for b x.script ≡ Some other) (one_command h.asks) h.there) has.there

  some_text : {d : Command} → Asks x.words d → text_for d x.script ≡ None → ⊥
  some_text {d} a none = some_none has.there (subst (λ (b : Command). text_for b x.script ≡ None) (one_command a) none)

  breaks_here : {d : Command} {other : List ℕ} {f : LexFault} → HasText x d other → Breaks other f → Breaks text f
  breaks_here {d} {other} {f} h b = subst (λ (bs : List ℕ). Breaks bs f) (one_text h) b

  breaks_off_here : {d : Command} {other : List ℕ} {f : ParseFault} → HasText x d other → BreaksOff other f → BreaksOff text f
  breaks_off_here {d} {other} {f} h b = subst (λ (bs : List ℕ). BreaksOff bs f) (one_text h) b

  spells_here : {d : Command} {t : Tree} → (h : HasTree x d t) → IsScript text t
  spells_here {d} {t} h = subst (λ (bs : List ℕ). IsScript bs t) (one_text h.has) h.spells

  -- ---- no tokens

  unlexed_alone : {f : LexFault} → IsOnlyFault text f → {o : Request} → Comes x o → o ≡ refused (end.Lex f)
  unlexed_alone fault (row.misused f w) = absurd (ok_err has.asks w)
  unlexed_alone fault (row.no_script d a n) = absurd (some_text a n)
  unlexed_alone fault (row.unlexed d u f h b) = ap (λ v. refused (end.Lex v)) (fault.only f (breaks_here h b))
  unlexed_alone fault (row.unparsed d u f h b) = let k = breaks_off_here h b in absurd (fault.none k.tokens k.tokens_of)
  unlexed_alone fault (row.with_tree d t r h k) = let s = spells_here h in absurd (fault.none s.tokens s.tokens_of)

  pub only_unlexed : {f : LexFault} → IsOnlyFault text f → IsOnly (Comes x) (refused (end.Lex f))
  only_unlexed {f} fault = record { is = row.unlexed c text f has fault.is; only = λ o h. unlexed_alone fault h }

  -- ---- no tree

  unparsed_alone : {f : ParseFault} → IsOnlyBreak text f → {o : Request} → Comes x o → o ≡ refused (end.Parse f)
  unparsed_alone fault (row.misused f w) = absurd (ok_err has.asks w)
  unparsed_alone fault (row.no_script d a n) = absurd (some_text a n)
  unparsed_alone fault (row.unlexed d u f h b) = absurd (fault.lexed f (breaks_here h b))
  unparsed_alone fault (row.unparsed d u f h b) = ap (λ v. refused (end.Parse v)) (fault.only f (breaks_off_here h b))
  unparsed_alone fault (row.with_tree d t r h k) = absurd (fault.none t (spells_here h))

  pub only_unparsed : {f : ParseFault} → IsOnlyBreak text f → IsOnly (Comes x) (refused (end.Parse f))
  only_unparsed {f} fault = record { is = row.unparsed c text f has fault.is; only = λ o h. unparsed_alone fault h }

  -- ---- a tree

  tree_alone : {t : Tree} {r : Request} → IsOnlyScript text t → IsOnly (TreeComes c t x.params) r → {o : Request} → Comes x o → o ≡ r
  tree_alone script one (row.misused f w) = absurd (ok_err has.asks w)
  tree_alone script one (row.no_script d a n) = absurd (some_text a n)
  tree_alone script one (row.unlexed d u f h b) = absurd (script.lexed f (breaks_here h b))
  tree_alone script one (row.unparsed d u f h b) = absurd (script.whole f (breaks_off_here h b))
  tree_alone {t} script one (row.with_tree d other o h k) =
      let same : other ≡ t = script.only other (spells_here h) in
      one.only o (subst (λ (v : Tree). TreeComes c v x.params o) same
      (subst (λ (b : Command). TreeComes b other x.params o) (one_command h.has.asks) k))

  pub only_with_tree : {t : Tree} {r : Request} → IsOnlyScript text t → IsOnly (TreeComes c t x.params) r → IsOnly (Comes x) r
  only_with_tree {t} {r} script one = record {
    is = row.with_tree c t r (record { text = text; has = has; spells = script.is }) one.is;
    only = λ o h. tree_alone script one h;
  }
